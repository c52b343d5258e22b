-- The labels of a slot: operators, atoms and numbers, joined.
use Rattle.std.proofs.Common.{◌≡◌, ◌≢◌, ◌⊎◌, ℕ, zero, suc, ◌+◌, ◌<◌, ◌≤◌, ℤ, pos, negsuc, ◌≤ℤ◌, ◌<ℤ◌, ◌&&◌, nat_lt, Bool, true, false, List, [], ◌∷◌, ◌++◌, refl, sym, ◌∙◌, ap, subst, length, map, take, get_or, arith, FitsSigned, w32}
use Rattle.std.specs.List.{filter, Contains}
use Rattle.std.proofs.lemmas.List.{take_more}
use Rattle.std.proofs.lemmas.List.Elements.{Contains-append_left, Contains-append_right, Contains-append_cases, Contains-push, Contains-push_cases}
use mathlib.Core.Logic.{inl, inr}
use Rattle.ax_prog.specs.declared.Un.TheVariants as un
use Rattle.ax_prog.specs.declared.Bin.TheVariants as bin
use Rattle.ax_prog.specs.declared.Atom.{Atom}
use Rattle.ax_prog.specs.declared.VarId.{VarId}
use Rattle.ax_prog.specs.declared.Span.{Span}
use Rattle.ax_prog.specs.declared.Sets.{Sets}
use Rattle.ax_prog.specs.declared.Slot.{Slot}
use Rattle.ax_prog.specs.Substitution as fit
use Rattle.ax_prog.specs.Substitution.{IsAtomOf}
use Rattle.ax_space_trees.specs.declared.Label.{Label}
use Rattle.ax_space_trees.specs.declared.Label.TheVariants as label
use Rattle.ax_space_trees.proofs.Members.{nothing, only, which, map-has, map-from, filter-has, filter-from, Apart, Apart-append, Apart-map, Apart-filter, pairs_from, from_pairs, take-whole}
use Rattle.ax_space.specs.declared.Operator.{Operator}
use Rattle.ax_space.specs.declared.Operator.TheVariants as operator
use Rattle.ax_space.specs.Sets.{has_un, has_bin, IsAllowed}
use Rattle.ax_space.specs.Sets as allowed
use Rattle.ax_space.specs.Labels.{operators, has_operator, operator_label, operator_labels, variable, IsCollected, IsAdded, IsChosenAtom, IsChosenNumber, IsNumberBelow}
use Rattle.ax_space.specs.Rows.{IsPart, IsAllowedWithin}

abbrev Unlike : {X : Type 0} → X → X → Type 0
Unlike x y = x ≢ y

pub part-append : (P Q : Label → Type 0) (xs ys : List Label) → IsPart P xs → IsPart Q ys → ((l : Label) → P l → Q l → ⊥) → IsPart (λ l. P l ⊎ Q l) (xs ++ ys)
part-append P Q xs ys p q apart = record {
  sound = λ l c. elim (Contains-append_cases xs ys l c) as (λ _. P l ⊎ Q l) [ inl d ↦ inl (p.sound l d) | inr d ↦ inr (q.sound l d) ];
  complete = λ l c. elim c as (λ _. Contains (xs ++ ys) l) [ inl a ↦ Contains-append_left xs ys l (p.complete l a) | inr b ↦ Contains-append_right xs ys l (q.complete l b) ];
  once = pairs_from (λ x y. x ≢ y) (xs ++ ys)
      (Apart-append (λ x y. x ≢ y) xs ys (from_pairs (λ x y. x ≢ y) xs p.once) (from_pairs (λ x y. x ≢ y) ys q.once)
      (λ x y c d e. apart x (p.sound x c) (subst Q (sym e) (q.sound y d))));
}

pub part-like : (P Q : Label → Type 0) (xs : List Label) → ((l : Label) → P l → Q l) → ((l : Label) → Q l → P l) → IsPart P xs → IsPart Q xs
part-like P Q xs f g p = record { sound = λ l c. f l (p.sound l c); complete = λ l q. p.complete l (g l q); once = p.once }

pub part-none : (P : Label → Type 0) → ((l : Label) → P l → ⊥) → IsPart P []
part-none P f = record { sound = λ l c. absurd (nothing c); complete = λ l h. absurd (f l h); once = λ i j d lt h. absurd (omega arith) }

-- operators
abbrev place : Operator → ℕ
place (operator.Binary bin.Eq) = 0
place (operator.Binary bin.Ne) = 1
place (operator.Binary bin.Lt) = 2
place (operator.Binary bin.Le) = 3
place (operator.Binary bin.Gt) = 4
place (operator.Binary bin.Ge) = 5
place (operator.Binary bin.And) = 6
place (operator.Binary bin.Or) = 7
place (operator.Unary un.Not) = 8
place (operator.Binary bin.Add) = 9
place (operator.Binary bin.Sub) = 10
place (operator.Unary un.Neg) = 11
place (operator.Binary bin.Mul) = 12
place (operator.Binary bin.Div) = 13
place (operator.Binary bin.Rem) = 14
place (operator.Binary bin.BitAnd) = 15
place (operator.Binary bin.BitOr) = 16
place (operator.Binary bin.BitXor) = 17
place (operator.Unary un.BitNot) = 18
place (operator.Binary bin.Shl) = 19
place (operator.Binary bin.Shr) = 20

abbrev above : ℕ → List ℕ → Bool
above n [] = true
above n (m ∷ ms) = nat_lt n m && above n ms

abbrev rising : List ℕ → Bool
rising [] = true
rising (n ∷ ns) = above n ns && rising ns

is-less : (m n : ℕ) → nat_lt m n ≡ true → m < n
is-less m n h = grind arith

both-first : (a b : Bool) → (a && b) ≡ true → a ≡ true
both-first true b h = refl
both-first false b h = h

both-second : (a b : Bool) → (a && b) ≡ true → b ≡ true
both-second true b h = h
both-second false b h = absurd (cc)

less-later : {X : Type 0} (f : X → ℕ) (n : ℕ) (xs : List X) → above n (map f xs) ≡ true → (y : X) → Contains xs y → n < f y
less-later f n [] h y c = absurd (nothing c)
less-later f n (x ∷ xs) h y c = elim (which x y xs c) as (λ _. n < f y) [
  | inl e ↦ subst (λ z. n < f z) e (is-less n (f x) (both-first (nat_lt n (f x)) (above n (map f xs)) h))
  | inr d ↦ less-later f n xs (both-second (nat_lt n (f x)) (above n (map f xs)) h) y d
]

unlike-less : {X : Type 0} (f : X → ℕ) (x y : X) → f x < f y → x ≢ y
unlike-less f x y h e = let k = ap f e in omega arith

rising-apart : {X : Type 0} (f : X → ℕ) (xs : List X) → rising (map f xs) ≡ true → Apart (λ x y. x ≢ y) xs
rising-apart f [] h = tt
rising-apart f (x ∷ xs) h = (
  (λ y c. unlike-less f x y (less-later f (f x) xs (both-first (above (f x) (map f xs)) (rising (map f xs)) h) y c)),
  rising-apart f xs (both-second (above (f x) (map f xs)) (rising (map f xs)) h),
)

every-operator : (o : Operator) → Contains operators o
every-operator (operator.Binary bin.Eq) = (0, omega arith, refl)
every-operator (operator.Binary bin.Ne) = (1, omega arith, refl)
every-operator (operator.Binary bin.Lt) = (2, omega arith, refl)
every-operator (operator.Binary bin.Le) = (3, omega arith, refl)
every-operator (operator.Binary bin.Gt) = (4, omega arith, refl)
every-operator (operator.Binary bin.Ge) = (5, omega arith, refl)
every-operator (operator.Binary bin.And) = (6, omega arith, refl)
every-operator (operator.Binary bin.Or) = (7, omega arith, refl)
every-operator (operator.Unary un.Not) = (8, omega arith, refl)
every-operator (operator.Binary bin.Add) = (9, omega arith, refl)
every-operator (operator.Binary bin.Sub) = (10, omega arith, refl)
every-operator (operator.Unary un.Neg) = (11, omega arith, refl)
every-operator (operator.Binary bin.Mul) = (12, omega arith, refl)
every-operator (operator.Binary bin.Div) = (13, omega arith, refl)
every-operator (operator.Binary bin.Rem) = (14, omega arith, refl)
every-operator (operator.Binary bin.BitAnd) = (15, omega arith, refl)
every-operator (operator.Binary bin.BitOr) = (16, omega arith, refl)
every-operator (operator.Binary bin.BitXor) = (17, omega arith, refl)
every-operator (operator.Unary un.BitNot) = (18, omega arith, refl)
every-operator (operator.Binary bin.Shl) = (19, omega arith, refl)
every-operator (operator.Binary bin.Shr) = (20, omega arith, refl)

abbrev operator_of : Label → Operator
operator_of (label.Num n) = operator.Unary un.Neg
operator_of (label.Atom a) = operator.Unary un.Neg
operator_of (label.Un op) = operator.Unary op
operator_of (label.Bin op) = operator.Binary op
operator_of label.Cond = operator.Unary un.Neg

back : (o : Operator) → operator_of (operator_label o) ≡ o
back (operator.Unary op) = refl
back (operator.Binary op) = refl

abbrev IsOperator : Sets → Label → Type 0
IsOperator sets l = (o : Operator) × (operator_label o ≡ l) × (has_operator sets o ≡ true)

operators-part : (sets : Sets) → IsPart (IsOperator sets) (operator_labels sets)
operators-part sets = record {
  sound = λ l c. (let r = map-from operator_label (filter (has_operator sets) operators) l c in
      let s = filter-from (has_operator sets) operators r.0 r.1 in (r.0, r.2, s.1));
  complete = λ l h. subst (Contains (operator_labels sets)) h.1
      (map-has operator_label (filter (has_operator sets) operators) h.0 (filter-has (has_operator sets) operators h.0 (every-operator h.0) h.2));
  once = pairs_from (λ x y. x ≢ y) (operator_labels sets)
      (Apart-map (λ x y. x ≢ y) (λ x y. x ≢ y) operator_label (λ x y n e. n (sym (back x) ∙ ap operator_of e ∙ back y)) (filter (has_operator sets) operators)
      (Apart-filter (λ x y. x ≢ y) (has_operator sets) operators (rising-apart place operators refl)));
}

-- atoms
abbrev atom_of : Atom → Label → Atom
atom_of d (label.Num n) = d
atom_of d (label.Atom a) = a
atom_of d (label.Un op) = d
atom_of d (label.Bin op) = d
atom_of d label.Cond = d

is-atom : (slot : Slot) (a : Atom) → ((v : VarId) × Contains slot.scope v × (variable v ≡ a)) ⊎ ((span : Span) × Contains slot.atoms (a, span)) → IsAtomOf slot a
is-atom slot a (inl h) = subst (IsAtomOf slot) h.2 (fit.variable h.1)
is-atom slot a (inr h) = fit.own h.0 h.1

collected-has : (slot : Slot) (found : List Atom) → IsCollected slot.scope slot.atoms found → {a : Atom} → IsAtomOf slot a → Contains found a
collected-has slot found h (fit.variable c) = h.variables _ c
collected-has slot found h (fit.own span c) = h.others _ span c

pub atoms-part : (sets : Sets) (slot : Slot) (found : List Atom) → sets.vars ≡ true → IsCollected slot.scope slot.atoms found → IsPart (IsChosenAtom sets slot) (map (λ a. label.Atom a) found)
atoms-part sets slot found on h = record {
  sound = λ l c. (let r = map-from (λ a. label.Atom a) found l c in (on, r.0, sym r.2, is-atom slot r.0 (h.sound r.0 r.1)));
  complete = λ l p. subst (Contains (map (λ a. label.Atom a) found)) (sym p.2) (map-has (λ a. label.Atom a) found p.1 (collected-has slot found h p.3));
  once = pairs_from (λ x y. x ≢ y) (map (λ a. label.Atom a) found)
      (Apart-map (λ x y. x ≢ y) (λ x y. x ≢ y) (λ a. label.Atom a) (λ x y n e. n (ap (atom_of x) e)) found (from_pairs (λ x y. x ≢ y) found h.once));
}

off-on : (b : Bool) → b ≡ false → b ≡ true → ⊥
off-on b f t = let e : true ≡ false = sym t ∙ f in cc

pub no-atoms : (sets : Sets) (slot : Slot) → sets.vars ≡ false → IsPart (IsChosenAtom sets slot) []
no-atoms sets slot h = part-none (IsChosenAtom sets slot) (λ l p. off-on sets.vars h p.0)

pub collected-none : IsCollected [] [] []
collected-none = record { sound = λ a c. absurd (nothing c); variables = λ v c. absurd (nothing c); others = λ a s c. absurd (nothing c); once = λ i j d lt h. absurd (omega arith) }

pub collected-variable : (vs : List VarId) (before after : List Atom) (i : ℕ) (v : VarId) → i < length vs → v ≡ get_or vs i v → IsCollected (take i vs) [] before → IsAdded before (variable v) after → IsCollected (take (i + 1) vs) [] after
collected-variable vs before after i v lt is h add = rw (take_more vs i v lt) (subst (λ w. IsCollected (take i vs ++ w ∷ []) [] after) is (record {
  sound = λ a c. elim (add.only a c) as (λ _. ((w : VarId) × Contains (take i vs ++ v ∷ []) w × (variable w ≡ a)) ⊎ ((span : Span) × Contains {X = Atom × Span} [] (a, span))) [
    | inl d ↦ (elim (h.sound a d) as (λ _. ((w : VarId) × Contains (take i vs ++ v ∷ []) w × (variable w ≡ a)) ⊎ ((span : Span) × Contains {X = Atom × Span} [] (a, span))) [
      | inl s ↦ inl (s.0, Contains-append_left (take i vs) (v ∷ []) s.0 s.1, s.2)
      | inr s ↦ inr s
    ])
    | inr e ↦ inl (v, Contains-push (take i vs) v, sym e)
  ];
  variables = λ w c. elim (Contains-push_cases (take i vs) v w c) as (λ _. Contains after (variable w)) [
    | inl d ↦ add.kept (variable w) (h.variables w d)
    | inr e ↦ subst (λ z. Contains after (variable z)) e add.has
  ];
  others = λ a s c. absurd (nothing c);
  once = add.once h.once;
}))

pub collected-other : (vs : List VarId) (pairs : List (Atom × Span)) (before after : List Atom) (i : ℕ) (p : Atom × Span) → i < length pairs → p ≡ get_or pairs i p → IsCollected vs (take i pairs) before → IsAdded before p.0 after → IsCollected vs (take (i + 1) pairs) after
collected-other vs pairs before after i p lt is h add = rw (take_more pairs i p lt) (subst (λ w. IsCollected vs (take i pairs ++ w ∷ []) after) is (record {
  sound = λ a c. elim (add.only a c) as (λ _. ((w : VarId) × Contains vs w × (variable w ≡ a)) ⊎ ((span : Span) × Contains (take i pairs ++ p ∷ []) (a, span))) [
    | inl d ↦ (elim (h.sound a d) as (λ _. ((w : VarId) × Contains vs w × (variable w ≡ a)) ⊎ ((span : Span) × Contains (take i pairs ++ p ∷ []) (a, span))) [
      | inl s ↦ inl s
      | inr s ↦ inr (s.0, Contains-append_left (take i pairs) (p ∷ []) (a, s.0) s.1)
    ])
    | inr e ↦ inr (p.1, subst (λ z. Contains (take i pairs ++ p ∷ []) (z, p.1)) (sym e) (Contains-push (take i pairs) p))
  ];
  variables = λ w c. add.kept (variable w) (h.variables w c);
  others = λ a s c. elim (Contains-push_cases (take i pairs) p (a, s) c) as (λ _. Contains after a) [
    | inl d ↦ add.kept a (h.others a s d)
    | inr e ↦ subst (Contains after) (ap (λ z. z.0) e) add.has
  ];
  once = add.once h.once;
}))

pub collected-whole : (vs : List VarId) (found : List Atom) (i : ℕ) → length vs ≤ i → IsCollected (take i vs) [] found → IsCollected vs [] found
collected-whole vs found i h c = subst (λ z. IsCollected z [] found) (take-whole vs i h) c

pub collected-all : (vs : List VarId) (pairs : List (Atom × Span)) (found : List Atom) (i : ℕ) → length pairs ≤ i → IsCollected vs (take i pairs) found → IsCollected vs pairs found
collected-all vs pairs found i h c = subst (λ z. IsCollected vs z found) (take-whole pairs i h) c

pub added-there : (before : List Atom) (a : Atom) → Contains before a → IsAdded before a before
added-there before a c = record { only = λ b d. inl d; kept = λ b d. d; has = c; once = λ h. h }

pub added-new : (before : List Atom) (a : Atom) → (Contains before a → ⊥) → IsAdded before a (before ++ a ∷ [])
added-new before a fresh = record {
  only = λ b c. elim (Contains-push_cases before a b c) as (λ _. Contains before b ⊎ (b ≡ a)) [ inl d ↦ inl d | inr e ↦ inr (sym e) ];
  kept = λ b c. Contains-append_left before (a ∷ []) b c;
  has = Contains-push before a;
  once = λ h. pairs_from (λ x y. x ≢ y) (before ++ a ∷ [])
      (Apart-append (λ x y. x ≢ y) before (a ∷ []) (from_pairs (λ x y. x ≢ y) before h) ((λ y c. absurd (nothing c)), tt)
      (λ x y c d e. fresh (subst (Contains before) (e ∙ sym (only a y d)) c)));
}

-- numbers
abbrev number_of : Label → ℤ
number_of (label.Num n) = n
number_of (label.Atom a) = pos 0
number_of (label.Un op) = pos 0
number_of (label.Bin op) = pos 0
number_of label.Cond = pos 0

pos-same : (m n : ℕ) → pos m ≡ pos n → m ≡ n
pos-same m n e = cc

pub numbers-none : IsPart (IsNumberBelow 0) []
numbers-none = part-none (IsNumberBelow 0) (λ l p. (let h = p.2 in absurd (omega arith)))

split : (j k : ℕ) → j < k + 1 → (j < k) ⊎ (j ≡ k)
split j zero h = inr (omega arith)
split zero (suc k) h = inl (omega arith)
split (suc j) (suc k) h = elim (split j k (omega arith)) as (λ _. (suc j < suc k) ⊎ (suc j ≡ suc k)) [ inl e ↦ inl (omega arith) | inr e ↦ inr (ap suc e) ]

pub numbers-more : (i : ℕ) (xs : List Label) → IsPart (IsNumberBelow i) xs → IsPart (IsNumberBelow (i + 1)) (xs ++ label.Num (pos i) ∷ [])
numbers-more i xs h = record {
  sound = λ l c. elim (Contains-push_cases xs (label.Num (pos i)) l c) as (λ _. IsNumberBelow (i + 1) l) [
    | inl d ↦ (let s = h.sound l d in (s.0, s.1, (let k = s.2 in omega arith)))
    | inr e ↦ (i, sym e, omega arith)
  ];
  complete = λ l p. elim (split p.0 i p.2) as (λ _. Contains (xs ++ label.Num (pos i) ∷ []) l) [
    | inl k ↦ Contains-append_left xs (label.Num (pos i) ∷ []) l (h.complete l (p.0, p.1, k))
    | inr e ↦ subst (Contains (xs ++ label.Num (pos i) ∷ [])) (ap (λ n. label.Num (pos n)) (sym e) ∙ sym p.1) (Contains-push xs (label.Num (pos i)))
  ];
  once = pairs_from (λ x y. x ≢ y) (xs ++ label.Num (pos i) ∷ [])
      (Apart-append (λ x y. x ≢ y) xs (label.Num (pos i) ∷ []) (from_pairs (λ x y. x ≢ y) xs h.once) ((λ y c. absurd (nothing c)), tt)
      (λ x y c d e. (let s = h.sound x c in let n = pos-same s.0 i (ap number_of (sym s.1 ∙ e ∙ sym (only (label.Num (pos i)) y d))) in let k = s.2 in omega arith)));
}

below-limit : (n m : ℕ) → n < m + 1 → pos n ≤ℤ pos m
below-limit n m h = grind arith

limit-below : (n m : ℕ) → pos n ≤ℤ pos m → n < m + 1
limit-below n m h = grind arith

pub numbers-part : (sets : Sets) (m : ℕ) (xs : List Label) → sets.consts ≡ true → IsPart (IsNumberBelow (m + 1)) xs → IsPart (IsChosenNumber sets (pos m)) xs
numbers-part sets m xs on h =
    part-like (IsNumberBelow (m + 1)) (IsChosenNumber sets (pos m)) xs
    (λ l p. (on, p.0, p.1, below-limit p.0 m p.2)) (λ l p. (p.1, p.2, limit-below p.1 m p.3)) h

pub no-numbers : (sets : Sets) (limit : ℤ) → sets.consts ≡ false → IsPart (IsChosenNumber sets limit) []
no-numbers sets limit h = part-none (IsChosenNumber sets limit) (λ l p. off-on sets.consts h p.0)

negative : (n : ℕ) (limit : ℤ) → limit <ℤ pos 0 → pos n ≤ℤ limit → ⊥
negative n (pos m) h k = grind arith
negative n (negsuc m) h k = grind arith

pub no-negatives : (sets : Sets) (limit : ℤ) → limit <ℤ pos 0 → IsPart (IsChosenNumber sets limit) []
no-negatives sets limit h = part-none (IsChosenNumber sets limit) (λ l p. negative p.1 limit h p.3)

-- all labels
abbrev kind : Label → ℕ
kind (label.Num n) = 0
kind (label.Atom a) = 1
kind (label.Un op) = 2
kind (label.Bin op) = 2
kind label.Cond = 3

operator-kind : (o : Operator) → kind (operator_label o) ≡ 2
operator-kind (operator.Unary op) = refl
operator-kind (operator.Binary op) = refl

other-kinds : (l : Label) (m n : ℕ) → kind l ≡ m → kind l ≡ n → (m ≡ n → ⊥) → ⊥
other-kinds l m n a b f = f (sym a ∙ b)

abbrev Whole : Sets → Slot → ℤ → Label → Type 0
Whole sets slot limit l = (IsOperator sets l ⊎ IsChosenAtom sets slot l) ⊎ IsChosenNumber sets limit l

operator-allowed : (sets : Sets) (slot : Slot) (o : Operator) → has_operator sets o ≡ true → IsAllowed sets slot (operator_label o)
operator-allowed sets slot (operator.Unary op) h = allowed.unary h
operator-allowed sets slot (operator.Binary op) h = allowed.binary h

no-number : (l : Label) (k : ℕ) → kind l ≡ k → (k ≡ 0 → ⊥) → (n : ℤ) → l ≡ label.Num n → ⊥
no-number l k is f n e = f (sym is ∙ ap kind e)

at-most : (n : ℕ) (limit : ℤ) → pos n ≤ℤ limit → limit ≤ℤ pos 2147483647 → n ≤ 2147483647
at-most n (pos m) h k = grind arith
at-most n (negsuc m) h k = grind arith

whole-allowed : (sets : Sets) (slot : Slot) (limit : ℤ) → limit ≤ℤ pos 2147483647 → (l : Label) → Whole sets slot limit l → IsAllowedWithin sets slot limit l
whole-allowed sets slot limit small l (inl (inl h)) = (
  subst (IsAllowed sets slot) h.1 (operator-allowed sets slot h.0 h.2),
  (λ n e. absurd (no-number l 2 (ap kind (sym h.1) ∙ operator-kind h.0) (λ z. omega arith) n e)),
)
whole-allowed sets slot limit small l (inl (inr h)) = (
  subst (IsAllowed sets slot) (sym h.2) (allowed.atom h.0 h.3),
  (λ n e. absurd (no-number l 1 (ap kind h.2) (λ z. omega arith) n e)),
)
whole-allowed sets slot limit small l (inr h) = (
  subst (IsAllowed sets slot) (sym h.2) (allowed.number h.0 (at-most h.1 limit h.3 small)),
  (λ n e. subst (λ z. z ≤ℤ limit) (ap number_of (sym h.2 ∙ e)) h.3),
)

allowed-whole : (sets : Sets) (slot : Slot) (limit : ℤ) {l : Label} → IsAllowed sets slot l → ((n : ℤ) → l ≡ label.Num n → n ≤ℤ limit) → Whole sets slot limit l
allowed-whole sets slot limit (allowed.unary {op} h) f = inl (inl (operator.Unary op, refl, h))
allowed-whole sets slot limit (allowed.binary {op} h) f = inl (inl (operator.Binary op, refl, h))
allowed-whole sets slot limit (allowed.atom {a} h is) f = inl (inr (h, a, refl, is))
allowed-whole sets slot limit (allowed.number {n} h le) f = inr (h, n, refl, f (pos n) refl)

pub all-labels : (sets : Sets) (slot : Slot) (limit : ℤ) (xs ys : List Label) → limit ≤ℤ pos 2147483647 → IsPart (IsChosenAtom sets slot) xs → IsPart (IsChosenNumber sets limit) ys → IsPart (IsAllowedWithin sets slot limit) ((operator_labels sets ++ xs) ++ ys)
all-labels sets slot limit xs ys small p q =
    part-like (Whole sets slot limit) (IsAllowedWithin sets slot limit) ((operator_labels sets ++ xs) ++ ys) (whole-allowed sets slot limit small) (λ l h. allowed-whole sets slot limit h.0 h.1)
    (part-append (λ l. IsOperator sets l ⊎ IsChosenAtom sets slot l) (IsChosenNumber sets limit) (operator_labels sets ++ xs) ys
    (part-append (IsOperator sets) (IsChosenAtom sets slot) (operator_labels sets) xs (operators-part sets) p
    (λ l a b. other-kinds l 2 1 (ap kind (sym a.1) ∙ operator-kind a.0) (ap kind b.2) (λ z. omega arith)))
    q
    (λ l a b. elim a as (λ _. ⊥) [
      | inl o ↦ other-kinds l 2 0 (ap kind (sym o.1) ∙ operator-kind o.0) (ap kind b.2) (λ z. omega arith)
      | inr o ↦ other-kinds l 1 0 (ap kind o.2) (ap kind b.2) (λ z. omega arith)
    ]))

pub small-limit : (limit : ℤ) → FitsSigned w32 limit → limit ≤ℤ pos 2147483647
small-limit (pos n) f = below-limit n 2147483647 (omega (arith, f.sfits))
small-limit (negsuc n) f = grind arith
