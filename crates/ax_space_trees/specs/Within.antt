-- Lists of all trees of a space within a number of changed nodes.
use Rattle.std.specs.Prelude.{◌≢◌, ℕ, ◌≤◌, List, Contains, AllPairs}
use Rattle.ax_prog.specs.declared.Expr.{Expr}
use Rattle.ax_space_trees.specs.declared.Label.{Label}
use Rattle.ax_space_trees.specs.declared.Costed.{Costed}
use Rattle.ax_space_trees.specs.Space.{Changes, InSpace}
use Rattle.ax_space_trees.specs.Trees.{costed}

-- exactly the trees of the space that change at most so many nodes, each once
pub record IsTreesWithin (labels : List Label) (grow : ℕ) (old : Expr) (budget : ℕ) (found : List Costed) : Type 0 where
  pub sound : (c : Costed) → Contains found c → InSpace (Contains labels) grow old c.tree × Changes old c.tree c.cost × (c.cost ≤ budget)
  pub complete : (new : Expr) (n : ℕ) → InSpace (Contains labels) grow old new → Changes old new n → n ≤ budget → Contains found (costed new n)
  pub once : AllPairs (λ x y. x.tree ≢ y.tree) found
