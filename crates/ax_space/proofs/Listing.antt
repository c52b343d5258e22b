-- The lists of trees and of patches are those of the definitions.
use Rattle.std.proofs.Common.{◌≡◌, ◌≢◌, ◌⊎◌, ℕ, ◌+◌, ◌≤◌, ℤ, ◌≤ℤ◌, true, false, List, [], ◌∷◌, refl, sym, ◌∙◌, ap, subst, map, arith, Some, nat_le, nat_eq}
use Rattle.std.specs.List.{filter, flat_map, Contains}
use mathlib.Core.Logic.{inl, inr}
use Rattle.ax_prog.specs.declared.Expr.{Expr}
use Rattle.ax_prog.specs.declared.Sets.{Sets}
use Rattle.ax_prog.specs.declared.Slot.{Slot}
use Rattle.ax_space_trees.specs.declared.Label.{Label}
use Rattle.ax_space_trees.specs.declared.Label.TheVariants as label
use Rattle.ax_space_trees.specs.declared.Costed.{Costed}
use Rattle.ax_space_trees.specs.Positions.{top, at_position, label_at}
use Rattle.ax_space_trees.specs.Space.{InSpace}
use Rattle.ax_space_trees.specs.Trees.{costed}
use Rattle.ax_space_trees.specs.Within.{IsTreesWithin}
use Rattle.ax_space_trees.proofs.Members.{here, only, map-has, map-from, flat-has, flat-from, filter-has, filter-from, Apart, Apart-map, Apart-flat, Apart-filter, pairs_from, from_pairs}
use Rattle.ax_space.specs.declared.Row.{Row}
use Rattle.ax_space.specs.Sets.{IsAllowed}
use Rattle.ax_space.specs.Chosen.{Chosen}
use Rattle.ax_space.specs.Patches.{TreesCost, none, more, PatchCost, NewNumbers, AllNewNumbers, IsWithin, IsPatchesOfCost}
use Rattle.ax_space.specs.Rows.{row, IsAllowedWithin, IsPart, IsSlotTrees, IsRows, row_within, with_head, has_cost, patch_of}
use Rattle.ax_space.proofs.Costs.{plainly, plain-cost, new-small}

-- the space with constants up to a limit
up-to : (sets : Sets) (grow : ℕ) (slot : Slot) (limit : ℤ) (labels : List Label) → IsPart (IsAllowedWithin sets slot limit) labels → (tree : Expr) → InSpace (Contains labels) grow slot.expr tree → InSpace (IsAllowed sets slot) grow slot.expr tree × NewNumbers limit slot.expr tree
up-to sets grow slot limit labels p tree s = (
  (λ w t h. ((s w t h).0, elim (s w t h).1 as (λ _. (label_at w (Some slot.expr) ≡ Some (top t)) ⊎ IsAllowed sets slot (top t)) [ inl e ↦ inl e | inr c ↦ inr ((p.sound (top t) c).0) ])),
  new-small limit slot.expr tree
      (λ w t h. elim (s w t h).1 as (λ _. (label_at w (Some slot.expr) ≡ Some (top t)) ⊎ ((n : ℤ) → top t ≡ label.Num n → n ≤ℤ limit)) [ inl e ↦ inl e | inr c ↦ inr ((p.sound (top t) c).1) ]),
)

-- a label that is a number, or none
number-or-not : (l : Label) → ((n : ℤ) × (l ≡ label.Num n)) ⊎ ((n : ℤ) → l ≡ label.Num n → ⊥)
number-or-not (label.Num n) = inl (n, refl)
number-or-not (label.Atom a) = inr (λ n e. absurd (cc))
number-or-not (label.Un op) = inr (λ n e. absurd (cc))
number-or-not (label.Bin op) = inr (λ n e. absurd (cc))
number-or-not label.Cond = inr (λ n e. absurd (cc))

num-same : (m n : ℤ) → label.Num m ≡ label.Num n → m ≡ n
num-same m n e = cc

label-there : (w : List ℕ) (new t : Expr) → at_position w (Some new) ≡ Some t → label_at w (Some new) ≡ Some (top t)
label-there w new t h = rw h refl

from-limit : (sets : Sets) (slot : Slot) (limit : ℤ) (labels : List Label) → IsPart (IsAllowedWithin sets slot limit) labels → (tree : Expr) → NewNumbers limit slot.expr tree → (w : List ℕ) (t : Expr) → at_position w (Some tree) ≡ Some t → IsAllowed sets slot (top t) → (label_at w (Some slot.expr) ≡ Some (top t)) ⊎ Contains labels (top t)
from-limit sets slot limit labels p tree nums w t h a =
    elim (number-or-not (top t)) as (λ _. (label_at w (Some slot.expr) ≡ Some (top t)) ⊎ Contains labels (top t)) [
      | inl q ↦ (elim (nums w q.0 (label-there w tree t h ∙ ap Some q.1)) as (λ _. (label_at w (Some slot.expr) ≡ Some (top t)) ⊎ Contains labels (top t)) [
        | inl e ↦ inl (e ∙ ap Some (sym q.1))
        | inr le ↦ inr (p.complete (top t) (a, (λ n e. subst (λ z. z ≤ℤ limit) (num-same q.0 n (sym q.1 ∙ e)) le)))
      ])
      | inr f ↦ inr (p.complete (top t) (a, (λ n e. absurd (f n e))))
    ]

from-up-to : (sets : Sets) (grow : ℕ) (slot : Slot) (limit : ℤ) (labels : List Label) → IsPart (IsAllowedWithin sets slot limit) labels → (tree : Expr) → InSpace (IsAllowed sets slot) grow slot.expr tree → NewNumbers limit slot.expr tree → InSpace (Contains labels) grow slot.expr tree
from-up-to sets grow slot limit labels p tree s nums w t h =
    ((s w t h).0, elim (s w t h).1 as (λ _. (label_at w (Some slot.expr) ≡ Some (top t)) ⊎ Contains labels (top t)) [ inl e ↦ inl e | inr a ↦ from-limit sets slot limit labels p tree nums w t h a ])

pub slot-trees : (sets : Sets) (grow : ℕ) (limit : ℤ) (budget : ℕ) (slot : Slot) (labels : List Label) (found : List Costed) → sets.guard ≡ false → IsPart (IsAllowedWithin sets slot limit) labels → IsTreesWithin labels grow slot.expr budget found → IsSlotTrees sets grow limit budget slot found
slot-trees sets grow limit budget slot labels found off p ls = record {
  sound = λ c h. (let s = ls.sound c h in let q = up-to sets grow slot limit labels p c.tree s.0 in (plain-cost sets grow slot c.tree c.cost off q.0 s.1, q.1, s.2));
  complete = λ tree n c nums le. (let q = plainly off c.reading in ls.complete tree n (from-up-to sets grow slot limit labels p tree q.0 nums) q.1 le);
  once = ls.once;
}

-- rows
complete-none : {sets : Sets} {grow : ℕ} {trees : List Expr} {n : ℕ} → TreesCost sets grow [] trees n → Contains (row [] 0 ∷ []) (row trees n)
complete-none none = here (row [] 0) []

pub rows-none : (sets : Sets) (grow : ℕ) (limit : ℤ) (budget : ℕ) → IsRows sets grow limit budget [] (row [] 0 ∷ [])
rows-none sets grow limit budget = record {
  sound = λ r c. subst (λ z. TreesCost sets grow [] z.trees z.cost × AllNewNumbers limit [] z.trees × (z.cost ≤ budget)) (only (row [] 0) r c) (none, tt, omega arith);
  complete = λ trees n c nums le. complete-none c;
  once = λ i j d lt h. absurd (omega arith);
}

below-is : (a b : ℕ) → nat_le a b ≡ true → a ≤ b
below-is a b h = grind arith

is-below : (a b : ℕ) → a ≤ b → nat_le a b ≡ true
is-below a b h = grind arith

abbrev product : ℕ → List Costed → List Row → List Row
product budget heads tails = filter (row_within budget) (flat_map (λ head. map (with_head head) tails) heads)

made-row : (sets : Sets) (grow : ℕ) (limit : ℤ) (budget : ℕ) (slot : Slot) (slots : List Slot) (heads : List Costed) (tails : List Row) → IsSlotTrees sets grow limit budget slot heads → IsRows sets grow limit budget slots tails → (r : Row) → Contains (product budget heads tails) r → TreesCost sets grow (slot ∷ slots) r.trees r.cost × AllNewNumbers limit (slot ∷ slots) r.trees × (r.cost ≤ budget)
made-row sets grow limit budget slot slots heads tails hs ts r c =
    let f = filter-from (row_within budget) (flat_map (λ head. map (with_head head) tails) heads) r c in
    let a = flat-from (λ head. map (with_head head) tails) heads r f.0 in
    let b = map-from (with_head a.0) tails r a.2 in
    let s = hs.sound a.0 a.1 in
    let t = ts.sound b.0 b.1 in
    let both : TreesCost sets grow (slot ∷ slots) r.trees r.cost × AllNewNumbers limit (slot ∷ slots) r.trees =
    subst (λ z. TreesCost sets grow (slot ∷ slots) z.trees z.cost × AllNewNumbers limit (slot ∷ slots) z.trees) b.2 (more s.0 t.0, (s.1, t.1)) in
    (both.0, both.1, below-is r.cost budget f.1)

kept-row : (sets : Sets) (grow : ℕ) (limit : ℤ) (budget : ℕ) (slot : Slot) (slots : List Slot) (heads : List Costed) (tails : List Row) → IsSlotTrees sets grow limit budget slot heads → IsRows sets grow limit budget slots tails → {trees : List Expr} {n : ℕ} → TreesCost sets grow (slot ∷ slots) trees n → AllNewNumbers limit (slot ∷ slots) trees → n ≤ budget → Contains (product budget heads tails) (row trees n)
kept-row sets grow limit budget slot slots heads tails hs ts (more {tree} {trees} {i} {j} c d) nums le =
    filter-has (row_within budget) (flat_map (λ head. map (with_head head) tails) heads) (row (tree ∷ trees) (i + j))
    (flat-has (λ head. map (with_head head) tails) heads (costed tree i) (row (tree ∷ trees) (i + j)) (hs.complete tree i c nums.0 (omega arith))
    (map-has (with_head (costed tree i)) tails (row trees j) (ts.complete trees j d nums.1 (omega arith))))
    (is-below (i + j) budget le)

abbrev OtherTrees : Costed → Costed → Type 0
OtherTrees x y = x.tree ≢ y.tree

abbrev OtherRows : Row → Row → Type 0
OtherRows x y = x.trees ≢ y.trees

head-same : (x y : Expr) (xs ys : List Expr) → x ∷ xs ≡ y ∷ ys → x ≡ y
head-same x y xs ys e = cc

tail-same : (x y : Expr) (xs ys : List Expr) → x ∷ xs ≡ y ∷ ys → xs ≡ ys
tail-same x y xs ys e = cc

product-apart : (budget : ℕ) (heads : List Costed) (tails : List Row) → Apart OtherTrees heads → Apart OtherRows tails → Apart OtherRows (product budget heads tails)
product-apart budget heads tails p q =
    Apart-filter OtherRows (row_within budget) (flat_map (λ head. map (with_head head) tails) heads)
    (Apart-flat OtherTrees OtherRows (λ head. map (with_head head) tails)
    (λ x y u v n c d e. (let r = map-from (with_head x) tails u c in let s = map-from (with_head y) tails v d in
    n (head-same x.tree y.tree (r.0).trees (s.0).trees (ap (λ z. z.trees) r.2 ∙ e ∙ ap (λ z. z.trees) (sym s.2)))))
    (λ x. Apart-map OtherRows OtherRows (with_head x) (λ u v n e. n (tail-same x.tree x.tree u.trees v.trees e)) tails q) heads p)

pub rows-more : (sets : Sets) (grow : ℕ) (limit : ℤ) (budget : ℕ) (slot : Slot) (slots : List Slot) (heads : List Costed) (tails : List Row) → IsSlotTrees sets grow limit budget slot heads → IsRows sets grow limit budget slots tails → IsRows sets grow limit budget (slot ∷ slots) (product budget heads tails)
rows-more sets grow limit budget slot slots heads tails hs ts = record {
  sound = λ r c. made-row sets grow limit budget slot slots heads tails hs ts r c;
  complete = λ trees n c nums le. kept-row sets grow limit budget slot slots heads tails hs ts c nums le;
  once = pairs_from OtherRows (product budget heads tails)
      (product-apart budget heads tails (from_pairs OtherTrees heads hs.once) (from_pairs OtherRows tails ts.once));
}

-- patches
same-number : (a b : ℕ) → nat_eq a b ≡ true → a ≡ b
same-number a b h = grind arith

number-same : (a : ℕ) → nat_eq a a ≡ true
number-same a = grind arith

pub patches-of-rows : (space : Chosen) (cost : ℕ) (limit : ℤ) (rows : List Row) → IsRows space.sets space.grow limit cost space.slots rows → IsPatchesOfCost space cost limit (map patch_of (filter (has_cost cost) rows))
patches-of-rows space cost limit rows h = record {
  sound = λ patch c. (let r = map-from patch_of (filter (has_cost cost) rows) patch c in
      let f = filter-from (has_cost cost) rows r.0 r.1 in
      let s = h.sound r.0 f.0 in
      let p : PatchCost space (patch_of r.0) cost = subst (TreesCost space.sets space.grow space.slots (r.0).trees) (same-number (r.0).cost cost f.1) s.0 in
      subst (λ z. PatchCost space z cost × IsWithin limit space z) r.2 (p, s.1));
  complete = λ patch c nums. map-has patch_of (filter (has_cost cost) rows) (row patch.trees cost)
      (filter-has (has_cost cost) rows (row patch.trees cost) (h.complete patch.trees cost c nums (omega arith)) (number-same cost));
  once = pairs_from (λ x y. x ≢ y) (map patch_of (filter (has_cost cost) rows))
      (Apart-map OtherRows (λ x y. x ≢ y) patch_of (λ x y n e. n (ap (λ z. z.trees) e)) (filter (has_cost cost) rows)
      (Apart-filter OtherRows (has_cost cost) rows (from_pairs OtherRows rows h.once)));
}
