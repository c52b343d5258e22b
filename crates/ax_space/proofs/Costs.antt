-- Costs of trees and patches.
use Rattle.std.proofs.Common.{◌≡◌, ◌⊎◌, ℕ, ◌+◌, ◌*◌, ◌^◌, ◌<◌, ◌≤◌, ℤ, pos, ◌≤ℤ◌, Bool, true, false, List, [], ◌∷◌, refl, sym, ◌∙◌, ap, subst, arith, Option, Some, None}
use Rattle.std.specs.List.{All}
use Rattle.std.proofs.lemmas.List.Elements.{All-tail, All-head}
use Rattle.std.proofs.Math.Nat.{mul-le-mul}
use mathlib.Core.Logic.{inl, inr}
use Rattle.ax_prog.specs.declared.Expr.{Expr}
use Rattle.ax_prog.specs.declared.Sets.{Sets}
use Rattle.ax_prog.specs.declared.Slot.{Slot}
use Rattle.ax_prog.specs.Nodes.{nodes}
use Rattle.ax_space_trees.specs.declared.Label.{Label}
use Rattle.ax_space_trees.specs.declared.Label.TheVariants as label
use Rattle.ax_space_trees.specs.Positions.{top, at_position, labelled, label_at}
use Rattle.ax_space_trees.specs.Space.{Changes, InSpace}
use Rattle.ax_space_trees.specs.Sizes.{words}
use Rattle.ax_space_trees.proofs.Regions.{Differing-unique}
use Rattle.ax_space_trees.proofs.Sizes.{space-nodes, changes-nodes, words-small}
use Rattle.ax_space.specs.declared.Patch.{Patch}
use Rattle.ax_space.specs.Sets.{IsAllowed}
use Rattle.ax_space.specs.Sets as allowed
use Rattle.ax_space.specs.Chosen.{Chosen}
use Rattle.ax_space.specs.Patches.{Reading, plain, guarded, TreeCost, TreesCost, none, more, AreTrees, IsPatch, PatchCost, NewNumbers, AllNewNumbers, IsWithin}
use Rattle.ax_space.specs.Sums.{SumOfChanges, no_trees, one_more, total_room, AreSmall}

off-on : (b : Bool) → b ≡ false → b ≡ true → ⊥
off-on b f t = let e : true ≡ false = sym t ∙ f in cc

-- without guards a reading is by positions and labels
pub plainly : {sets : Sets} {grow : ℕ} {slot : Slot} {tree : Expr} {n : ℕ} → sets.guard ≡ false → Reading sets grow slot tree n → InSpace (IsAllowed sets slot) grow slot.expr tree × Changes slot.expr tree n
plainly off (plain s d) = (s, d)
plainly {sets} off (guarded on is g) = absurd (off-on sets.guard off on)

pub plain-cost : (sets : Sets) (grow : ℕ) (slot : Slot) (tree : Expr) (n : ℕ) → sets.guard ≡ false → InSpace (IsAllowed sets slot) grow slot.expr tree → Changes slot.expr tree n → TreeCost sets grow slot tree n
plain-cost sets grow slot tree n off s d = record {
  reading = plain s d;
  least = λ m r. (let q = plainly off r in let e = Differing-unique d q.1 in omega arith);
}

antisym : (j k : ℕ) → j ≤ k → k ≤ j → j ≡ k
antisym j k a b = omega arith

tree-unique : {sets : Sets} {grow : ℕ} {slot : Slot} {tree : Expr} {j k : ℕ} → TreeCost sets grow slot tree j → TreeCost sets grow slot tree k → j ≡ k
tree-unique {j} {k} a b = antisym j k (a.least k b.reading) (b.least j a.reading)

trees-unique : {sets : Sets} {grow : ℕ} {slots : List Slot} {trees : List Expr} {j k : ℕ} → TreesCost sets grow slots trees j → TreesCost sets grow slots trees k → j ≡ k
trees-unique none none = refl
trees-unique (more a c) (more b d) = let e = tree-unique a b in let f = trees-unique c d in cc

pub cost-unique : (space : Chosen) (patch : Patch) (j k : ℕ) → PatchCost space patch j → PatchCost space patch k → j ≡ k
cost-unique space patch j k a b = trees-unique a b

are-trees : {sets : Sets} {grow : ℕ} {slots : List Slot} {trees : List Expr} {k : ℕ} → TreesCost sets grow slots trees k → AreTrees sets grow slots trees
are-trees none = tt
are-trees (more {i} c d) = ((i, c.reading), are-trees d)

pub costed-is-patch : (space : Chosen) (patch : Patch) (cost : ℕ) → PatchCost space patch cost → IsPatch space patch
costed-is-patch space patch cost c = are-trees c

has-cost : (sets : Sets) (grow : ℕ) → sets.guard ≡ false → (slots : List Slot) (trees : List Expr) → AreTrees sets grow slots trees → (cost : ℕ) × TreesCost sets grow slots trees cost
has-cost sets grow off [] [] h = (0, none)
has-cost sets grow off (slot ∷ slots) (tree ∷ trees) h =
    let q = plainly off (h.0).1 in
    let r = has-cost sets grow off slots trees h.1 in
    ((h.0).0 + r.0, more (plain-cost sets grow slot tree (h.0).0 off q.0 q.1) r.1)
has-cost sets grow off [] (tree ∷ trees) h = absurd h
has-cost sets grow off (slot ∷ slots) [] h = absurd h

pub cost-exists : (space : Chosen) → space.sets.guard ≡ false → (patch : Patch) → IsPatch space patch → (cost : ℕ) × PatchCost space patch cost
cost-exists space off patch h = has-cost space.sets space.grow off space.slots patch.trees h

-- new constants
labelled-some : (x : Option Expr) (l : Label) → labelled x ≡ Some l → (tree : Expr) × (x ≡ Some tree) × (top tree ≡ l)
labelled-some None l h = absurd (cc)
labelled-some (Some tree) l h = (tree, refl, (cc))

pub at-label : (w : List ℕ) (new : Expr) (l : Label) → label_at w (Some new) ≡ Some l → (tree : Expr) × (at_position w (Some new) ≡ Some tree) × (top tree ≡ l)
at-label w new l h = labelled-some (at_position w (Some new)) l h

abbrev Within : ℤ → Label → Type 0
Within limit l = (n : ℤ) → l ≡ label.Num n → n ≤ℤ limit

num-same : (m n : ℤ) → label.Num m ≡ label.Num n → m ≡ n
num-same m n e = cc

small-number : (n : ℕ) → n ≤ 2147483647 → pos n ≤ℤ pos 2147483647
small-number n h = grind arith

allowed-small : {sets : Sets} {slot : Slot} {l : Label} → IsAllowed sets slot l → Within (pos 2147483647) l
allowed-small (allowed.unary h) n e = absurd (cc)
allowed-small (allowed.binary h) n e = absurd (cc)
allowed-small (allowed.atom h a) n e = absurd (cc)
allowed-small (allowed.number {n = k} h le) n e = subst (λ z. z ≤ℤ pos 2147483647) (num-same (pos k) n e) (small-number k le)

-- each label is the old one or small enough
pub new-small : (limit : ℤ) (old new : Expr) → ((w : List ℕ) (tree : Expr) → at_position w (Some new) ≡ Some tree → (label_at w (Some old) ≡ Some (top tree)) ⊎ Within limit (top tree)) → NewNumbers limit old new
new-small limit old new f w n h =
    let t = at-label w new (label.Num n) h in
    elim (f w t.0 t.1) as (λ _. (label_at w (Some old) ≡ Some (label.Num n)) ⊎ (n ≤ℤ limit)) [
      | inl e ↦ inl (e ∙ ap Some t.2)
      | inr g ↦ inr (g n t.2)
    ]

space-small : (sets : Sets) (grow : ℕ) (slot : Slot) (tree : Expr) → InSpace (IsAllowed sets slot) grow slot.expr tree → NewNumbers (pos 2147483647) slot.expr tree
space-small sets grow slot tree s = new-small (pos 2147483647) slot.expr tree
    (λ w t h. elim (s w t h).1 as (λ _. (label_at w (Some slot.expr) ≡ Some (top t)) ⊎ Within (pos 2147483647) (top t)) [ inl e ↦ inl e | inr a ↦ inr (allowed-small a) ])

all-small : (sets : Sets) (grow : ℕ) → sets.guard ≡ false → (slots : List Slot) (trees : List Expr) → AreTrees sets grow slots trees → AllNewNumbers (pos 2147483647) slots trees
all-small sets grow off [] [] h = tt
all-small sets grow off (slot ∷ slots) (tree ∷ trees) h =
    (space-small sets grow slot tree ((plainly off (h.0).1).0), all-small sets grow off slots trees h.1)
all-small sets grow off [] (tree ∷ trees) h = absurd h
all-small sets grow off (slot ∷ slots) [] h = absurd h

pub constants-are-ints : (space : Chosen) → space.sets.guard ≡ false → (patch : Patch) → IsPatch space patch → IsWithin (pos 2147483647) space patch
constants-are-ints space off patch h = all-small space.sets space.grow off space.slots patch.trees h

-- sums of changed nodes
sum-cost : (sets : Sets) (grow : ℕ) → sets.guard ≡ false → {slots : List Slot} {trees : List Expr} {n : ℕ} → AreTrees sets grow slots trees → SumOfChanges slots trees n → TreesCost sets grow slots trees n
sum-cost sets grow off h no_trees = none
sum-cost sets grow off h (one_more {slot} {tree} {i} d c) =
    more (plain-cost sets grow slot tree i off ((plainly off (h.0).1).0) d) (sum-cost sets grow off h.1 c)

pub patch-cost : (space : Chosen) (patch : Patch) (n : ℕ) → space.sets.guard ≡ false → IsPatch space patch → SumOfChanges space.slots patch.trees n → PatchCost space patch n
patch-cost space patch n off h c = sum-cost space.sets space.grow off h c

-- how large trees and costs are
tree-nodes : (sets : Sets) (grow : ℕ) (slot : Slot) (tree : Expr) (n : ℕ) → sets.guard ≡ false → Reading sets grow slot tree n → nodes tree ≤ nodes slot.expr * words grow
tree-nodes sets grow slot tree n off r = space-nodes (IsAllowed sets slot) grow slot.expr tree ((plainly off r).0)

tree-most : (sets : Sets) (grow : ℕ) (slot : Slot) (tree : Expr) (n : ℕ) → sets.guard ≡ false → Reading sets grow slot tree n → n ≤ nodes slot.expr * words grow
tree-most sets grow slot tree n off r =
    let a = tree-nodes sets grow slot tree n off r in let b = changes-nodes slot.expr tree n ((plainly off r).1) in omega arith

trees-most : {sets : Sets} {grow : ℕ} {slots : List Slot} {trees : List Expr} {n : ℕ} → sets.guard ≡ false → TreesCost sets grow slots trees n → n ≤ total_room grow slots
trees-most off none = omega arith
trees-most {sets} {grow} off (more {slot} {tree} {i} c d) =
    let a = tree-most sets grow slot tree i off c.reading in let b = trees-most off d in omega arith

pub patch-most : (space : Chosen) → space.sets.guard ≡ false → (patch : Patch) (cost : ℕ) → PatchCost space patch cost → cost ≤ total_room space.grow space.slots
patch-most space off patch cost c = trees-most off c

pub small-product : (a b : ℕ) → a ≤ 31 → b ≤ 2097151 → a * b ≤ 65011681
small-product a b h k = mul-le-mul h k

tree-small : (sets : Sets) (grow : ℕ) (slot : Slot) (tree : Expr) (n : ℕ) → sets.guard ≡ false → grow ≤ 20 → nodes slot.expr ≤ 31 → Reading sets grow slot tree n → nodes tree < 2 ^ 32
tree-small sets grow slot tree n off few small r =
    let a = tree-nodes sets grow slot tree n off r in
    let b = small-product (nodes slot.expr) (words grow) small (words-small grow few) in
    omega arith

pub trees-small : (sets : Sets) (grow : ℕ) → sets.guard ≡ false → grow ≤ 20 → (slots : List Slot) (trees : List Expr) → All (λ slot. nodes slot.expr ≤ 31) slots → AreTrees sets grow slots trees → AreSmall slots trees
trees-small sets grow off few [] [] a h = tt
trees-small sets grow off few (slot ∷ slots) (tree ∷ trees) a h = (
  tree-small sets grow slot tree (h.0).0 off few (All-head (λ s. nodes s.expr ≤ 31) slot slots a) (h.0).1,
  trees-small sets grow off few slots trees (All-tail (λ s. nodes s.expr ≤ 31) slot slots a) h.1,
)
trees-small sets grow off few [] (tree ∷ trees) a h = absurd h
trees-small sets grow off few (slot ∷ slots) [] a h = absurd h
