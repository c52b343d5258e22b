-- Sums over the chosen expressions.
use Rattle.std.specs.Prelude.{ℕ, ◌+◌, ◌*◌, ◌^◌, ◌<◌, List, [], ◌∷◌}
use Rattle.ax_prog.specs.declared.Expr.{Expr}
use Rattle.ax_prog.specs.declared.Slot.{Slot}
use Rattle.ax_prog.specs.Nodes.{nodes}
use Rattle.ax_space_trees.specs.Space.{Changes}
use Rattle.ax_space_trees.specs.Sizes.{words}

-- the changed nodes of a tree for each slot, taken together
pub data SumOfChanges : List Slot → List Expr → ℕ → Type 0 where
  no_trees : SumOfChanges [] [] 0
  one_more : {slot : Slot} {slots : List Slot} {tree : Expr} {trees : List Expr} {i j : ℕ} → Changes slot.expr tree i → SumOfChanges slots trees j → SumOfChanges (slot ∷ slots) (tree ∷ trees) (i + j)

-- as many trees as slots, none of them of 2 to the 32nd nodes
abbrev pub AreSmall : List Slot → List Expr → Type 0
AreSmall [] [] = Unit {0}
AreSmall (slot ∷ slots) (tree ∷ trees) = (nodes tree < 2 ^ 32) × AreSmall slots trees
AreSmall [] (tree ∷ trees) = ⊥
AreSmall (slot ∷ slots) [] = ⊥

-- the positions of the old trees, each with all words of the growth behind it
abbrev pub total_room : ℕ → List Slot → ℕ
total_room grow [] = 0
total_room grow (slot ∷ slots) = nodes slot.expr * words grow + total_room grow slots
