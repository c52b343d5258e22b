-- What the outcome of a search says.
use Rattle.std.specs.Prelude.{◌≡◌, ℕ, List}
use Rattle.ax_prog.specs.declared.Bounds.{Bounds}
use Rattle.ax_prog.specs.declared.Program.{Program}
use Rattle.ax_prog.specs.declared.Test.{Test}
use Rattle.ax_space.specs.Chosen.{Chosen}
use Rattle.ax_least.specs.Least.{IsLeastRepair, NoRepair}
use Rattle.ax_repair.specs.declared.Repaired.{Repaired}
use Rattle.ax_repair.specs.declared.Outcome.{Outcome}
use Rattle.ax_repair.specs.declared.Outcome.TheVariants as outcome
use Rattle.ax_repair.specs.Written.{written}

-- a least repair with its cost, and the source in which it is written
pub record IsRepaired (program : Program) (source : List ℕ) (tests : List Test) (bounds : Bounds) (space : Chosen) (it : Repaired) : Type 0 where
  pub least : IsLeastRepair program tests bounds space it.patch it.cost
  pub text : it.source ≡ written source program space.ids (it.patch).trees

-- a least repair is given, or there is no repair
abbrev pub IsOutcome : Program → List ℕ → List Test → Bounds → Chosen → Outcome → Type 0
IsOutcome program source tests bounds space (outcome.Repaired it) = IsRepaired program source tests bounds space it
IsOutcome program source tests bounds space outcome.NoPatch = NoRepair program tests bounds space
