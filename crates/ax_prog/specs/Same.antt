-- Programs that are the same, spans aside.
use Rattle.std.specs.Prelude.{◌≡◌, List, map}
use Rattle.ax_prog.specs.declared.Expr.{Expr}
use Rattle.ax_prog.specs.declared.Slot.{Slot}
use Rattle.ax_prog.specs.declared.Program.{Program}

abbrev pub trees_of : List Slot → List Expr
trees_of slots = map (λ slot. slot.expr) slots

-- equal in all but the spans and the lists `scope` and `atoms` of their slots, which the rest determines
pub record SameProgram (a b : Program) : Type 0 where
  pub structs : a.structs ≡ b.structs
  pub vars : a.vars ≡ b.vars
  pub globals : a.globals ≡ b.globals
  pub funs : a.funs ≡ b.funs
  pub main : a.main ≡ b.main
  pub trees : trees_of a.slots ≡ trees_of b.slots
