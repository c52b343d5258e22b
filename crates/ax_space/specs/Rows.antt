-- Trees for the slots of a space with their cost together, and the lists that the product of their spaces is made of.
use Rattle.std.specs.Prelude.{◌≡◌, ◌≢◌, ℕ, ◌+◌, ◌≤◌, ℤ, ◌≤ℤ◌, nat_le, nat_eq, Bool, List, ◌∷◌, Contains, AllPairs}
use Rattle.ax_prog.specs.declared.Expr.{Expr}
use Rattle.ax_prog.specs.declared.Sets.{Sets}
use Rattle.ax_prog.specs.declared.Slot.{Slot}
use Rattle.ax_space_trees.specs.declared.Label.{Label}
use Rattle.ax_space_trees.specs.declared.Label.TheVariants as label
use Rattle.ax_space_trees.specs.declared.Costed.{Costed}
use Rattle.ax_space_trees.specs.Trees.{costed}
use Rattle.ax_space.specs.declared.Row.{Row}
use Rattle.ax_space.specs.declared.Patch.{Patch}
use Rattle.ax_space.specs.Sets.{IsAllowed}
use Rattle.ax_space.specs.Patches.{TreeCost, TreesCost, NewNumbers, AllNewNumbers}

abbrev pub row : List Expr → ℕ → Row
row trees cost = record { trees = trees; cost = cost }

-- a label of the chosen sets that is no number above the limit
abbrev pub IsAllowedWithin : Sets → Slot → ℤ → Label → Type 0
IsAllowedWithin sets slot limit l = IsAllowed sets slot l × ((n : ℤ) → l ≡ label.Num n → n ≤ℤ limit)

-- exactly the labels with a property, each once
pub record IsPart (P : Label → Type 0) (found : List Label) : Type 0 where
  pub sound : (l : Label) → Contains found l → P l
  pub complete : (l : Label) → P l → Contains found l
  pub once : AllPairs (λ x y. x ≢ y) found

-- exactly the trees for a slot that cost at most so much and whose new constants are at most the limit, each once
pub record IsSlotTrees (sets : Sets) (grow : ℕ) (limit : ℤ) (budget : ℕ) (slot : Slot) (found : List Costed) : Type 0 where
  pub sound : (c : Costed) → Contains found c → TreeCost sets grow slot c.tree c.cost × NewNumbers limit slot.expr c.tree × (c.cost ≤ budget)
  pub complete : (tree : Expr) (n : ℕ) → TreeCost sets grow slot tree n → NewNumbers limit slot.expr tree → n ≤ budget → Contains found (costed tree n)
  pub once : AllPairs (λ x y. x.tree ≢ y.tree) found

-- the same of trees for each slot
pub record IsRows (sets : Sets) (grow : ℕ) (limit : ℤ) (budget : ℕ) (slots : List Slot) (found : List Row) : Type 0 where
  pub sound : (r : Row) → Contains found r → TreesCost sets grow slots r.trees r.cost × AllNewNumbers limit slots r.trees × (r.cost ≤ budget)
  pub complete : (trees : List Expr) (n : ℕ) → TreesCost sets grow slots trees n → AllNewNumbers limit slots trees → n ≤ budget → Contains found (row trees n)
  pub once : AllPairs (λ x y. x.trees ≢ y.trees) found

abbrev pub row_within : ℕ → Row → Bool
row_within budget r = nat_le r.cost budget

abbrev pub with_head : Costed → Row → Row
with_head head rest = row (head.tree ∷ rest.trees) (head.cost + rest.cost)

abbrev pub has_cost : ℕ → Row → Bool
has_cost cost r = nat_eq r.cost cost

abbrev pub patch_of : Row → Patch
patch_of r = record { trees = r.trees }
