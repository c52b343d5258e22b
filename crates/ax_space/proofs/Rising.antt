-- Lists of slots in rising order, and candidates among the slots.
use Rattle.std.proofs.Common.{◌≡◌, ◌⊎◌, ℕ, zero, suc, ◌+◌, ◌<◌, ◌≤◌, Bool, true, false, List, [], ◌∷◌, ◌++◌, refl, sym, ◌∙◌, ap, subst, length, take, drop, get_or, arith, Option, Some, None, slice_get, nat_le, if◌then◌else◌}
use Rattle.std.specs.List.{Contains, All, AllPairs}
use Rattle.std.proofs.lemmas.List.{take_more, take-append-drop}
use Rattle.std.proofs.lemmas.List.Elements.{Contains-append_right, Contains-push, Contains-push_cases, All-contains}
use mathlib.Core.Logic.{inl, inr}
use Rattle.ax_prog.specs.declared.Slot.{Slot}
use Rattle.ax_prog.specs.declared.SlotId.{SlotId}
use Rattle.ax_prog.specs.declared.Program.{Program}
use Rattle.ax_prog.specs.Candidates.{is_small, candidates_from, candidates_of}
use Rattle.ax_space_trees.proofs.Members.{nothing, here, there, only, which, Apart, Apart-append, from_pairs, pairs_from, take-whole}
use Rattle.ax_prog.specs.Nodes.{nodes}
use Rattle.ax_space.specs.Chosen.{AreChosen}
use Rattle.ax_space.proofs.Patching.{candidate-slot}

abbrev Less : SlotId → SlotId → Type 0
Less a b = a.0 < b.0

-- the list rises so far, and the next is to be at least this
pub record Risen (ids : List SlotId) (least : ℕ) : Type 0 where
  pub apart : Apart (λ a b. a.0 < b.0) ids
  pub before : (id : SlotId) → Contains ids id → id.0 < least
  pub last : (least ≡ 0) ⊎ ((id : SlotId) × Contains ids id × (least ≡ id.0 + 1))

pub risen-none : Risen [] 0
risen-none = record { apart = tt; before = λ id c. absurd (nothing c); last = inl refl }

risen-push : (ids : List SlotId) (least : ℕ) (id : SlotId) → least ≤ id.0 → Risen ids least → Risen (ids ++ id ∷ []) (id.0 + 1)
risen-push ids least id le r = record {
  apart = Apart-append Less ids (id ∷ []) r.apart ((λ y c. absurd (nothing c)), tt)
      (λ x y c d. subst (λ z. x.0 < z.0) (only id y d) (let h = r.before x c in omega arith));
  before = λ x c. elim (Contains-push_cases ids id x c) as (λ _. x.0 < id.0 + 1) [
    | inl d ↦ (let h = r.before x d in omega arith)
    | inr e ↦ (let h = ap (λ z. z.0) e in omega arith)
  ];
  last = inr (id, Contains-push ids id, refl);
}

pub risen-more : (ids : List SlotId) (i least : ℕ) (id : SlotId) → i < length ids → id ≡ get_or ids i id → least ≤ id.0 → Risen (take i ids) least → Risen (take (i + 1) ids) (id.0 + 1)
risen-more ids i least id lt is le r = rw (take_more ids i id lt) (subst (λ z. Risen (take i ids ++ z ∷ []) (id.0 + 1)) is (risen-push (take i ids) least id le r))

pub risen-all : (ids : List SlotId) (i least : ℕ) → length ids ≤ i → Risen (take i ids) least → AllPairs (λ a b. a.0 < b.0) ids
risen-all ids i least h r = pairs_from Less ids (subst (Apart Less) (take-whole ids i h) r.apart)

apart-across : (xs ys : List SlotId) → Apart Less (xs ++ ys) → (x y : SlotId) → Contains xs x → Contains ys y → x.0 < y.0
apart-across [] ys a x y c d = absurd (nothing c)
apart-across (z ∷ xs) ys a x y c d = elim (which z x xs c) as (λ _. x.0 < y.0) [
  | inl e ↦ subst (λ w. w.0 < y.0) e (a.0 y (Contains-append_right xs ys y d))
  | inr r ↦ apart-across xs ys a.1 x y r d
]

at-drop : (xs : List SlotId) (i : ℕ) (x : SlotId) → i < length xs → x ≡ get_or xs i x → Contains (drop i xs) x
at-drop [] i x h is = absurd (omega arith)
at-drop (y ∷ xs) zero x h is = subst (Contains (y ∷ xs)) (sym is) (here y xs)
at-drop (y ∷ xs) (suc i) x h is = at-drop xs i x (omega arith) is

pub risen-false : (ids : List SlotId) (i least : ℕ) (id : SlotId) → i < length ids → id ≡ get_or ids i id → id.0 < least → Risen (take i ids) least → AllPairs (λ a b. a.0 < b.0) ids → ⊥
risen-false ids i least id lt is low r all =
    elim r.last as (λ _. ⊥) [
      | inl e ↦ absurd (omega arith)
      | inr p ↦ (let a : Apart Less (take i ids ++ drop i ids) = subst (Apart Less) (sym (take-append-drop i ids)) (from_pairs Less ids all) in
          let h = apart-across (take i ids) (drop i ids) a p.0 id p.1 (at-drop ids i id lt is) in
          let q = p.2 in absurd (omega arith))
    ]

-- small slots are candidates
pick-has : (at : ℕ) (rest : List SlotId) (b : Bool) (id : SlotId) → Contains rest id → Contains (if b then (record { 0 = at }) ∷ rest else rest) id
pick-has at rest true id c = there (record { 0 = at }) rest c
pick-has at rest false id c = c

pick-first : (at : ℕ) (rest : List SlotId) (b : Bool) → b ≡ true → Contains (if b then (record { 0 = at }) ∷ rest else rest) (record { 0 = at })
pick-first at rest true h = here (record { 0 = at }) rest
pick-first at rest false h = absurd (cc)

some-slot : {s t : Slot} → ◌≡◌ {A = Option Slot} (Some s) (Some t) → s ≡ t
some-slot h = cc

none-slot : {t : Slot} → ◌≡◌ {A = Option Slot} None (Some t) → ⊥
none-slot h = cc

small-from : (at : ℕ) (slots : List Slot) (k : ℕ) (id : SlotId) (slot : Slot) → id.0 ≡ at + k → slice_get slots k ≡ Some slot → is_small slot.expr ≡ true → Contains (candidates_from at slots) id
small-from at [] k id slot e g s = absurd (none-slot g)
small-from at (first ∷ rest) zero id slot e g s =
    let same : id ≡ record { 0 = at } = (let q : id.0 ≡ at = omega (arith, e) in λ i. record { 0 = q i }) in
    subst (Contains (candidates_from at (first ∷ rest))) (sym same) (pick-first at (candidates_from (at + 1) rest) (is_small first.expr) (ap (λ z. is_small z.expr) (some-slot g) ∙ s))
small-from at (first ∷ rest) (suc k) id slot e g s =
    pick-has at (candidates_from (at + 1) rest) (is_small first.expr) id (small-from (at + 1) rest k id slot (omega (arith, e)) g s)

pub small-candidate : (program : Program) (id : SlotId) (slot : Slot) → slice_get program.slots id.0 ≡ Some slot → is_small slot.expr ≡ true → Contains (candidates_of program) id
small-candidate program id slot g s = small-from 0 program.slots id.0 id slot (omega arith) g s

is-small : (n : ℕ) → n ≤ 31 → nat_le n 31 ≡ true
is-small n h = grind arith

pub candidate-small : (program : Program) (id : SlotId) (slot : Slot) → slice_get program.slots id.0 ≡ Some slot → Contains (candidates_of program) id → is_small slot.expr ≡ true
candidate-small program id slot g c =
    let s = candidate-slot program id c in
    let e : s.0 ≡ slot = some-slot (sym s.1 ∙ g) in
    subst (λ z. is_small z.expr ≡ true) e (is-small (nodes (s.0).expr) s.2)

pub no-candidate : (program : Program) (id : SlotId) → slice_get program.slots id.0 ≡ None → Contains (candidates_of program) id → ⊥
no-candidate program id g c = let s = candidate-slot program id c in none-slot (sym g ∙ s.1)

-- all candidates
pub all-more : (P : SlotId → Type 0) (ids : List SlotId) (i : ℕ) (id : SlotId) → i < length ids → id ≡ get_or ids i id → P id → ((x : SlotId) → Contains (take i ids) x → P x) → (x : SlotId) → Contains (take (i + 1) ids) x → P x
all-more P ids i id lt is p f x c =
    let d : Contains (take i ids ++ get_or ids i id ∷ []) x = rw (take_more ids i id lt) at c in
    elim (Contains-push_cases (take i ids) (get_or ids i id) x d) as (λ _. P x) [ inl e ↦ f x e | inr e ↦ subst P (is ∙ e) p ]

again : {X : Type 0} (xs : List X) (k : ℕ) (d : X) → k < length xs → get_or xs k (get_or xs k d) ≡ get_or xs k d
again [] k d h = absurd (omega arith)
again (x ∷ xs) zero d h = refl
again (x ∷ xs) (suc k) d h = again xs k d (omega arith)

pub all-whole : (P : SlotId → Type 0) (ids : List SlotId) (i : ℕ) → length ids ≤ i → ((x : SlotId) → Contains (take i ids) x → P x) → All P ids
all-whole P ids i h f k d lt = f (get_or ids k d) (subst (λ z. Contains z (get_or ids k d)) (sym (take-whole ids i h)) (k, lt, again ids k d lt))

pub all-not : (P : SlotId → Type 0) (ids : List SlotId) (i : ℕ) (id : SlotId) → i < length ids → id ≡ get_or ids i id → All P ids → P id
all-not P ids i id lt is all = All-contains P ids id all (i, lt, sym is)

-- both, and few
pub chosen-from : (program : Program) (ids : List SlotId) → All (Contains (candidates_of program)) ids → AllPairs (λ a b. a.0 < b.0) ids → length ids ≤ 4 → AreChosen program ids
chosen-from program ids a b c = record { candidates = a; rising = b; few = c }
