-- The positions of a slot's space from their words, and lists without repeats as a loop makes them.
use Rattle.std.proofs.Common.{◌≡◌, ◌⊎◌, ℕ, zero, suc, ◌+◌, ◌<◌, ◌≤◌, Bool, true, false, List, [], ◌∷◌, ◌++◌, sym, ◌∙◌, ap, subst, length, map, take, get_or, arith, Option, Some, None, is_some, slice_get}
use Rattle.std.specs.List.{Contains, All}
use Rattle.std.proofs.lemmas.List.{take_more, map-append}
use Rattle.std.proofs.lemmas.List.Elements.{All-push, All-contains}
use mathlib.Core.Logic.{inl, inr}
use Rattle.ax_prog.specs.declared.Expr.{Expr}
use Rattle.ax_prog.specs.declared.Sets.{Sets}
use Rattle.ax_prog.specs.declared.Slot.{Slot}
use Rattle.ax_prog.specs.Nodes.{nodes}
use Rattle.ax_space_trees.specs.Positions.{at_position, labelled}
use Rattle.ax_space_trees.specs.Space.{IsPosition}
use Rattle.ax_space_trees.proofs.Members.{here, there, map-has, map-from, Apart, pairs_from, take-whole}
use Rattle.ax_space.specs.declared.Mark.{Mark}
use Rattle.ax_space.specs.declared.Position.{Position}
use Rattle.ax_space.specs.Chosen.{Chosen}
use Rattle.ax_space.specs.Positions.{Precedes, HasOperands, Firsts, kept, passed, IsFirstsNext, old_marks, set_marks, LabelsAt, IsDescribed, ArePositions, ArePositionsOf}
use Rattle.ax_space.specs.Walks.{has_word, shorter}
use Rattle.ax_space.proofs.Walking.{word-position, position-word, words-sound, words-all, shorter-rise}

-- elements that have a property, each once
pub firsts-next : {X : Type 0} (P : X → Type 0) (xs before after : List X) (i : ℕ) (x : X) → i < length xs → x ≡ get_or xs i x → IsFirstsNext P before x after → Firsts P (take i xs) before → Firsts P (take (i + 1) xs) after
firsts-next P xs before after i x lt is n f = rw (take_more xs i x lt) (subst (λ z. Firsts P (take i xs ++ z ∷ []) after) is (n (take i xs) f))

pub next-there : {X : Type 0} (P : X → Type 0) (before after : List X) (x : X) → after ≡ before → Contains before x → IsFirstsNext P before x after
next-there P before after x is c = subst (IsFirstsNext P before x) (sym is) (λ xs f. passed f (inr c))

pub next-without : {X : Type 0} (P : X → Type 0) (before after : List X) (x : X) → after ≡ before → (P x → ⊥) → IsFirstsNext P before x after
next-without P before after x is n = subst (IsFirstsNext P before x) (sym is) (λ xs f. passed f (inl n))

pub next-kept : {X : Type 0} (P : X → Type 0) (before after : List X) (x : X) → after ≡ before ++ x ∷ [] → (Contains before x → ⊥) → P x → IsFirstsNext P before x after
next-kept P before after x is n p = subst (IsFirstsNext P before x) (sym is) (λ xs f. kept f p n)

pub firsts-all : {X : Type 0} (P : X → Type 0) (xs found : List X) (i : ℕ) → length xs ≤ i → Firsts P (take i xs) found → Firsts P xs found
firsts-all P xs found i h f = subst (λ z. Firsts P z found) (take-whole xs i h) f

-- operands
abbrev pub HasBefore : ℕ → Expr → List ℕ → ℕ → Type 0
HasBefore grow old w n = (k : ℕ) → 1 ≤ k → k ≤ n → IsPosition grow old (w ++ k ∷ [])

last-or-before : (k n : ℕ) → k ≤ n + 1 → (k ≤ n) ⊎ (k ≡ n + 1)
last-or-before zero n h = inl (omega arith)
last-or-before (suc k) zero h = inr (omega arith)
last-or-before (suc k) (suc n) h = elim (last-or-before k n (omega arith)) as (λ _. (suc k ≤ suc n) ⊎ (suc k ≡ suc n + 1)) [ inl l ↦ inl (omega arith) | inr e ↦ inr (omega arith) ]

pub before-none : (grow : ℕ) (old : Expr) (w : List ℕ) → HasBefore grow old w 0
before-none grow old w k a b = absurd (omega arith)

pub before-more : (grow : ℕ) (old : Expr) (w : List ℕ) (n : ℕ) → has_word grow old (w ++ (n + 1) ∷ []) ≡ true → HasBefore grow old w n → HasBefore grow old w (n + 1)
before-more grow old w n h f k a b = elim (last-or-before k n b) as (λ _. IsPosition grow old (w ++ k ∷ [])) [
  | inl l ↦ f k a l
  | inr e ↦ subst (λ z. IsPosition grow old (w ++ z ∷ [])) (sym e) (word-position grow (w ++ (n + 1) ∷ []) old h)
]

off-on : (b : Bool) → b ≡ false → b ≡ true → ⊥
off-on b f t = let e : true ≡ false = sym t ∙ f in cc

pub before-not : (grow : ℕ) (old : Expr) (w : List ℕ) (n m : ℕ) → n < m → has_word grow old (w ++ (n + 1) ∷ []) ≡ false → HasBefore grow old w m → ⊥
before-not grow old w n m lt h f = off-on (has_word grow old (w ++ (n + 1) ∷ [])) h (position-word grow (w ++ (n + 1) ∷ []) old (f (n + 1) (omega arith) (omega arith)))

-- the positions of the words
apart-unmap : {X Y : Type 0} (R : Y → Y → Type 0) (f : X → Y) (xs : List X) → Apart R (map f xs) → Apart (λ x y. R (f x) (f y)) xs
apart-unmap R f [] a = tt
apart-unmap R f (x ∷ xs) a = ((λ y c. a.0 (f y) (map-has f xs y c)), apart-unmap R f xs a.1)

abbrev word_in : Position → List ℕ
word_in p = p.word

pub are-positions : (sets : Sets) (grow : ℕ) (slot : Slot) (words : List (List ℕ)) (found : List Position) → words ≡ shorter grow slot.expr (nodes slot.expr + grow) → map (λ p. p.word) found ≡ words → All (IsDescribed sets grow slot) found → ArePositions sets grow slot found
are-positions sets grow slot words found is same all =
    let both : map word_in found ≡ shorter grow slot.expr (nodes slot.expr + grow) = same ∙ is in
    record {
      placed = λ p c. words-sound grow slot.expr (nodes slot.expr + grow) p.word (subst (λ z. Contains z p.word) both (map-has word_in found p c));
      all = λ w q. map-from word_in found w (subst (λ z. Contains z w) (sym both) (words-all grow slot.expr w q));
      rise = pairs_from (λ p q. Precedes p.word q.word) found (apart-unmap Precedes word_in found (subst (Apart Precedes) (sym both) (shorter-rise grow slot.expr (nodes slot.expr + grow))));
      described = all;
    }

pub described-more : (D : Position → Type 0) (words : List (List ℕ)) (all : List Position) (i : ℕ) (w : List ℕ) (p : Position) → i < length words → w ≡ get_or words i w → p.word ≡ w → D p → (map word_in all ≡ take i words) × All D all → (map word_in (all ++ p ∷ []) ≡ take (i + 1) words) × All D (all ++ p ∷ [])
described-more D words all i w p lt is same d h = (
  map-append word_in all (p ∷ []) ∙ ap (λ z. z ++ p.word ∷ []) h.0 ∙ ap (λ z. take i words ++ z ∷ []) (same ∙ is) ∙ sym (take_more words i w lt),
  All-push D all p h.1 d,
)

pub described-one : (sets : Sets) (grow : ℕ) (slot : Slot) (word : List ℕ) (marks : List Mark) (p : Position) (part : Option Expr) → part ≡ at_position word (Some slot.expr) → marks ≡ old_marks (labelled part) ++ set_marks sets slot → Firsts (HasOperands grow slot.expr word) marks p.labels → p.word ≡ word → p.old ≡ is_some part → IsDescribed sets grow slot p
described-one sets grow slot word marks p part is made f same old = record {
  labels = subst (λ z. LabelsAt sets grow slot z p.labels) (sym same) (subst (λ z. Firsts (HasOperands grow slot.expr word) z p.labels) (made ∙ ap (λ z. old_marks (labelled z) ++ set_marks sets slot) is) f);
  old = old ∙ ap is_some is ∙ ap (λ z. is_some (at_position z (Some slot.expr))) (sym same);
}

-- a slot of a space
some-slot : {s t : Slot} → ◌≡◌ {A = Option Slot} (Some s) (Some t) → s ≡ t
some-slot h = cc

pub positions-of : (space : Chosen) (chosen : ℕ) (slot : Slot) (found : List Position) → slice_get space.slots chosen ≡ Some slot → ArePositions space.sets space.grow slot found → ArePositionsOf space chosen found
positions-of space chosen slot found is p other is2 = subst (λ z. ArePositions space.sets space.grow z found) (some-slot (sym is ∙ is2)) p

none-slot : {t : Slot} → ◌≡◌ {A = Option Slot} None (Some t) → ⊥
none-slot h = cc

get-in : (slots : List Slot) (k : ℕ) (slot : Slot) → slice_get slots k ≡ Some slot → Contains slots slot
get-in [] k slot h = absurd (none-slot h)
get-in (s ∷ slots) zero slot h = subst (Contains (s ∷ slots)) (some-slot h) (here s slots)
get-in (s ∷ slots) (suc k) slot h = there s slots (get-in slots k slot h)

pub small-at : (slots : List Slot) (k : ℕ) (slot : Slot) → All (λ s. nodes s.expr ≤ 31) slots → slice_get slots k ≡ Some slot → nodes slot.expr ≤ 31
small-at slots k slot all h = All-contains (λ s. nodes s.expr ≤ 31) slots slot all (get-in slots k slot h)
