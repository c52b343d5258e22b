-- That trees may be put into a program's slots, one after the other.
use Rattle.std.specs.Prelude.{◌<◌, List, [], ◌∷◌, length}
use Rattle.ax_prog.specs.declared.Expr.{Expr}
use Rattle.ax_prog.specs.declared.SlotId.{SlotId}
use Rattle.ax_prog.specs.declared.Program.{Program}
use Rattle.ax_prog.specs.Substitution.{Fits, substituted}

-- each tree fits the slot of its number
abbrev pub Fitting : Program → List SlotId → List Expr → Type 0
Fitting program [] trees = Unit {0}
Fitting program (id ∷ ids) [] = Unit {0}
Fitting program (id ∷ ids) (tree ∷ trees) =
    (id.0 < length program.slots) × Fits program id tree × Fitting (substituted program id tree) ids trees
