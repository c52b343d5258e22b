-- Changed nodes, and the space of trees around an old one.
use Rattle.std.specs.Prelude.{◌≡◌, ◌⊎◌, ℕ, suc, ◌≤◌, List, [], ◌∷◌, ◌++◌, length, Contains, Option, Some}
use Rattle.ax_prog.specs.declared.Expr.{Expr}
use Rattle.ax_space_trees.specs.declared.Label.{Label}
use Rattle.ax_space_trees.specs.Positions.{top, at_position, label_at, positions}

-- at so many of these positions the new tree's label is not the old tree's
pub data Differing (new old : Option Expr) : List (List ℕ) → ℕ → Type 0 where
  none : Differing new old [] 0
  same : {w : List ℕ} {ws : List (List ℕ)} {n : ℕ} → label_at w new ≡ label_at w old → Differing new old ws n → Differing new old (w ∷ ws) n
  other : {w : List ℕ} {ws : List (List ℕ)} {n : ℕ} → (label_at w new ≡ label_at w old → ⊥) → Differing new old ws n → Differing new old (w ∷ ws) (suc n)

-- changed nodes: the positions of the new tree at which the old tree has no node or another label
abbrev pub Changes : Expr → Expr → ℕ → Type 0
Changes old new n = Differing (Some new) (Some old) (positions new) n

-- a position of the old tree, extended by a word over 1 and 2 of at most so many letters
pub record IsPosition (grow : ℕ) (old : Expr) (w : List ℕ) : Type 0 where
  pub from : List ℕ
  pub tail : List ℕ
  pub tree : Expr
  pub is : w ≡ from ++ tail
  pub old_one : at_position from (Some old) ≡ Some tree
  pub letters : (k : ℕ) → Contains tail k → (k ≡ 1) ⊎ (k ≡ 2)
  pub short : length tail ≤ grow

-- each node of the new tree stands at such a position, with the label that the old tree has there or an allowed one
abbrev pub InSpace : (Label → Type 0) → ℕ → Expr → Expr → Type 0
InSpace allowed grow old new =
    (w : List ℕ) (tree : Expr) → at_position w (Some new) ≡ Some tree →
    IsPosition grow old w × ((label_at w (Some old) ≡ Some (top tree)) ⊎ allowed (top tree))
