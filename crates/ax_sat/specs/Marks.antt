-- Marks of variables, with a list of those that were marked.
use Rattle.std.specs.Prelude.{◌≡◌, ℕ, Bool, List, length}
use Rattle.ax_proof.specs.Marks.{IsMarked}

pub record MarksState : Type 0 where
  pub on : List Bool
  pub touched : List ℕ

-- what was marked still is
pub record MarksMore (old new : List Bool) : Type 0 where
  pub size : length new ≡ length old
  pub kept : (x : ℕ) → IsMarked old x → IsMarked new x
