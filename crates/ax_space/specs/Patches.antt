-- Patches, their costs, and patched programs.
use Rattle.std.specs.Prelude.{◌≡◌, ◌≢◌, ◌⊎◌, ℕ, ◌+◌, ◌≤◌, ℤ, ◌≤ℤ◌, true, List, [], ◌∷◌, Contains, AllPairs, Some}
use Rattle.ax_prog.specs.declared.Bin.{Bin}
use Rattle.ax_prog.specs.declared.Bin.TheVariants as bin
use Rattle.ax_prog.specs.declared.Expr.{Expr}
use Rattle.ax_prog.specs.declared.Expr.TheVariants as e
use Rattle.ax_prog.specs.declared.Sets.{Sets}
use Rattle.ax_prog.specs.declared.Slot.{Slot}
use Rattle.ax_prog.specs.declared.SlotId.{SlotId}
use Rattle.ax_prog.specs.declared.Program.{Program}
use Rattle.ax_prog.specs.Nodes.{nodes}
use Rattle.ax_prog.specs.Substitution.{substituted}
use Rattle.ax_space_trees.specs.declared.Label.{Label}
use Rattle.ax_space_trees.specs.declared.Label.TheVariants as label
use Rattle.ax_space_trees.specs.Positions.{top, at_position, label_at}
use Rattle.ax_space_trees.specs.Space.{Changes, InSpace}
use Rattle.ax_space.specs.declared.Patch.{Patch}
use Rattle.ax_space.specs.Sets.{IsAllowed}
use Rattle.ax_space.specs.Chosen.{Chosen}

pub data IsGuard : Bin → Type 0 where
  and : IsGuard bin.And
  or : IsGuard bin.Or

-- the guard of a guarded tree: at most a root and its first two operands, all of labels of the chosen sets
abbrev pub InGuard : (Label → Type 0) → Expr → Type 0
InGuard allowed guard =
    (w : List ℕ) (tree : Expr) → at_position w (Some guard) ≡ Some tree →
    ((w ≡ []) ⊎ (w ≡ 1 ∷ []) ⊎ (w ≡ 2 ∷ [])) × allowed (top tree)

-- a way in which a tree is in the space of a slot, with the number of its changed nodes: by its positions and labels,
-- or, where `guard` is chosen, as the old tree with `&&` or `||` and a guard behind it
pub data Reading (sets : Sets) (grow : ℕ) (slot : Slot) : Expr → ℕ → Type 0 where
  plain : {tree : Expr} {n : ℕ} → InSpace (IsAllowed sets slot) grow slot.expr tree → Changes slot.expr tree n → Reading sets grow slot tree n
  guarded : {op : Bin} {guard : Expr} → sets.guard ≡ true → IsGuard op → InGuard (IsAllowed sets slot) guard → Reading sets grow slot (e.Bin op slot.expr guard) (nodes guard + 1)

-- the changed nodes of a tree of the space: the least number over its readings
pub record TreeCost (sets : Sets) (grow : ℕ) (slot : Slot) (tree : Expr) (n : ℕ) : Type 0 where
  pub reading : Reading sets grow slot tree n
  pub least : (m : ℕ) → Reading sets grow slot tree m → n ≤ m

-- the cost of a tree of its space for each slot: the sum of the changed nodes
pub data TreesCost (sets : Sets) (grow : ℕ) : List Slot → List Expr → ℕ → Type 0 where
  none : TreesCost sets grow [] [] 0
  more : {slot : Slot} {slots : List Slot} {tree : Expr} {trees : List Expr} {i j : ℕ} → TreeCost sets grow slot tree i → TreesCost sets grow slots trees j → TreesCost sets grow (slot ∷ slots) (tree ∷ trees) (i + j)

-- a tree of its space for each slot
abbrev pub AreTrees : Sets → ℕ → List Slot → List Expr → Type 0
AreTrees sets grow [] [] = Unit {0}
AreTrees sets grow (slot ∷ slots) (tree ∷ trees) = ((n : ℕ) × Reading sets grow slot tree n) × AreTrees sets grow slots trees
AreTrees sets grow [] (tree ∷ trees) = ⊥
AreTrees sets grow (slot ∷ slots) [] = ⊥

-- a patch of the space: a tree of its space for each chosen expression
abbrev pub IsPatch : Chosen → Patch → Type 0
IsPatch space patch = AreTrees space.sets space.grow space.slots patch.trees

-- a patch of the space, of this cost
abbrev pub PatchCost : Chosen → Patch → ℕ → Type 0
PatchCost space patch cost = TreesCost space.sets space.grow space.slots patch.trees cost

-- each number that stands where the old tree hasn't that number is at most the limit
abbrev pub NewNumbers : ℤ → Expr → Expr → Type 0
NewNumbers limit old new =
    (w : List ℕ) (n : ℤ) → label_at w (Some new) ≡ Some (label.Num n) →
    (label_at w (Some old) ≡ Some (label.Num n)) ⊎ (n ≤ℤ limit)

abbrev pub AllNewNumbers : ℤ → List Slot → List Expr → Type 0
AllNewNumbers limit [] trees = Unit {0}
AllNewNumbers limit (slot ∷ slots) [] = Unit {0}
AllNewNumbers limit (slot ∷ slots) (tree ∷ trees) = NewNumbers limit slot.expr tree × AllNewNumbers limit slots trees

-- a patch whose new constants are at most the limit
abbrev pub IsWithin : ℤ → Chosen → Patch → Type 0
IsWithin limit space patch = AllNewNumbers limit space.slots patch.trees

-- each patch of this cost whose new constants are at most the limit, once, and no other
pub record IsPatchesOfCost (space : Chosen) (cost : ℕ) (limit : ℤ) (found : List Patch) : Type 0 where
  pub sound : (patch : Patch) → Contains found patch → PatchCost space patch cost × IsWithin limit space patch
  pub complete : (patch : Patch) → PatchCost space patch cost → IsWithin limit space patch → Contains found patch
  pub once : AllPairs (λ x y. x ≢ y) found

-- the program with these trees in the slots of these numbers
abbrev pub with_trees : Program → List SlotId → List Expr → Program
with_trees program [] trees = program
with_trees program (id ∷ ids) [] = program
with_trees program (id ∷ ids) (tree ∷ trees) = with_trees (substituted program id tree) ids trees

-- the patched program: the original with the patch's trees in their places
abbrev pub patched : Program → List SlotId → Patch → Program
patched program ids patch = with_trees program ids patch.trees
