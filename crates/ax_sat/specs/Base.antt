-- What contracts see of a clause base.
use Rattle.std.specs.Prelude.{ℕ, ◌<◌, ◌^◌, List}
use Rattle.std.specs.List.{All}
use Rattle.ax_proof.specs.Literal.{Literal, IsOver}

-- clauses over the variables from 1 to a number
pub record BaseState : Type 0 where
  pub vars : ℕ
  pub clauses : List (List Literal)

-- what holds of each base
pub record IsBase (b : BaseState) : Type 0 where
  pub many : b.vars < 2 ^ 63
  pub over : All (IsOver b.vars) b.clauses
