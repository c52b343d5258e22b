-- Marked variables.
use Rattle.std.specs.Prelude.{◌≡◌, ℕ, Bool, true, false, List, length, slice_index_or}
use Rattle.std.specs.List.{Contains}
use Rattle.ax_proof.specs.Literal.{Literal}

abbrev pub IsMarked : List Bool → ℕ → Type 0
IsMarked marks x = slice_index_or marks x false ≡ true

-- the literals' variables are marked, and what was marked still is
pub record Marks (lits : List Literal) (old new : List Bool) : Type 0 where
  pub size : length new ≡ length old
  pub kept : (x : ℕ) → IsMarked old x → IsMarked new x
  pub marked : (l : Literal) → Contains lits l → IsMarked new l.var
