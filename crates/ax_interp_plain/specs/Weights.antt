-- The measure of a run: the calls that may still open, and within a call the statements that are left.
use Rattle.std.specs.Prelude.{ℕ, zero, suc, ◌+◌, List, [], ◌∷◌, Option, Some, None}
use Rattle.ax_prog.specs.declared.Fun.{Fun}
use Rattle.ax_prog.specs.declared.Program.{Program}
use Rattle.ax_prog.specs.declared.Stmt.{Stmt, Block', If', While', Do', For', Row_of-Stmt, end_of-Stmt, more_of-Stmt, Held-Stmt-If-2, None', Some'}
use Rattle.ax_prog.specs.declared.Stmt.TheVariants as s

unfoldable mutual
  pub weight : Stmt → ℕ
  weight s.Empty = 4
  weight (Block' sh row) = row_weight row + 4
  weight (s.Decl v i) = 4
  weight (s.Assign l v) = 4
  weight (s.Change l op id) = 4
  weight (s.Bump l up) = 4
  weight (s.Call f args) = 4
  weight (If' id sh (more_of-Stmt a end_of-Stmt) b) = weight a + held_weight b + 4
  weight (While' id sh (more_of-Stmt a end_of-Stmt)) = weight a + 4
  weight (Do' sh (more_of-Stmt a end_of-Stmt) id) = weight a + 4
  weight (For' sh row id next sh2 (more_of-Stmt a end_of-Stmt)) = row_weight row + held_weight next + weight a + 4
  weight s.Break = 4
  weight s.Continue = 4
  weight (s.Return v) = 4
  weight (s.Read l) = 4
  weight (s.Print id) = 4

  pub row_weight : {n : _} → Row_of-Stmt n → ℕ
  row_weight end_of-Stmt = 0
  row_weight (more_of-Stmt a rest) = weight a + row_weight rest

  pub held_weight : Held-Stmt-If-2 → ℕ
  held_weight None' = 0
  held_weight (Some' sh (more_of-Stmt a end_of-Stmt)) = weight a

abbrev pub optional_weight : Option Stmt → ℕ
optional_weight None = 0
optional_weight (Some a) = weight a

abbrev pub weights : List Stmt → ℕ
weights [] = 0
weights (a ∷ rest) = weight a + weights rest

abbrev pub weight_of_bodies : List Fun → ℕ
weight_of_bodies [] = 0
weight_of_bodies (f ∷ fs) = weights f.body + weight_of_bodies fs

-- no body of a function weighs more
unfoldable pub widest : Program → ℕ
widest program = weight_of_bodies program.funs

-- what so many calls may take
unfoldable pub room : Program → ℕ → ℕ
room program zero = 0
room program (suc calls) = room program calls + (widest program + 3)
