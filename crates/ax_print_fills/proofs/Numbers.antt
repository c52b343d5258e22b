-- Numbers that are slots: what they add, and what a part adds that has one.
use Rattle.std.proofs.Common.{◌≡◌, ℕ, List, [], ◌∷◌, ◌++◌, length, refl, sym, ap, subst}
use Rattle.ax_prog.specs.declared.Span.{Span}
use Rattle.ax_prog.specs.declared.SlotId.{SlotId}
use Rattle.ax_prog.specs.declared.Expr as ex
use Rattle.ax_prog.specs.declared.Atom.{Atom}
use Rattle.ax_prog.specs.declared.Slot.{Slot}
use Rattle.ax_parse_grammar.specs.declared.tree.Expr.{Expr}
use Rattle.ax_names_types.specs.declared.Typed.TheVariants as t
use Rattle.ax_names_rules.specs.declared.State.{State}
use Rattle.ax_names_rules.specs.States.{here, visible, next_slot, with_slot}
use Rattle.ax_names_rules.specs.Values.{IsNumber}
use Rattle.ax_print_holes.specs.Moved.{moved_expr}
use Rattle.ax_print_fills.specs.Replaced.{moved_atoms, moved_slot}
use Rattle.ax_print_fills.proofs.Words.{span_moved}
use Rattle.ax_print_fills.proofs.Meanings.{is_moved, means_moved}
use Rattle.ax_print_fills.proofs.Grown.{Grown, grown_same, grown_by}
use Rattle.ax_print_fills.proofs.Added.{over, slot_of, Moving, Putting, Fills, Adds, alone, added_as, added_then}

pub number_over : (st : State) (s : List Slot) (a : Expr) (x : ex.Expr) (atoms : List (Atom × Span)) → IsNumber st a x atoms → IsNumber (over st s) a x atoms
number_over st s a _ _ (IsNumber.number {m = m} x atoms d h) = IsNumber.number {m = m} x atoms d h

pub number_moved : (f : ℕ → ℕ) (st : State) (s : List Slot) (a : Expr) (x : ex.Expr) (atoms : List (Atom × Span)) → IsNumber st a x atoms → IsNumber (over st s) (moved_expr f a) x (moved_atoms f atoms)
number_moved f st s a _ _ (IsNumber.number {m = m} x atoms d h) = IsNumber.number x (moved_atoms f atoms) (means_moved f (here st) a m d) (is_moved f a m (t.Int x atoms) h)

-- the expression is the number itself
pub data Whole (a : Expr) : Expr → Type 0 where
  whole : Whole a a

abbrev pub whole_by : (a : Expr) (T : (old : Expr) → Whole a old → Type 0) → T a Whole.whole → (old : Expr) (h : Whole a old) → T old h
whole_by a T t _ Whole.whole = t

-- the part has this number alone, as Q says
abbrev pub AddsNumber : State → State → Expr → (Expr → List Slot → List Slot → Type 0) → Type 0
AddsNumber st st2 a Q = Adds st st2 (λ f s t. Q (moved_expr f a) s t) (Whole a) (λ f old h new s t. Q new s t)

-- the number is the next slot, where these slots are; those are behind it
abbrev pub IsNext : State → Expr → List Slot → List Slot → Type 0
IsNext st a s t = (x : ex.Expr) × (atoms : List (Atom × Span)) × IsNumber (over st s) a x atoms × (t ≡ s ++ slot_of st a x atoms ∷ []) × (length s ≡ length st.slots)

slot_moved : (f : ℕ → ℕ) (st : State) (a : Expr) (x : ex.Expr) (atoms : List (Atom × Span)) → moved_slot f (slot_of st a x atoms) ≡ slot_of st (moved_expr f a) x (moved_atoms f atoms)
slot_moved f st a x atoms = ap (λ (at : Span). let made : Slot = record { span = at; expr = x; scope = visible st.names; atoms = moved_atoms f atoms } in made) (sym (span_moved f a))

pub number_adds : (st : State) (a : Expr) (x : ex.Expr) (atoms : List (Atom × Span)) → IsNumber st a x atoms → AddsNumber st (with_slot st a x atoms) a (IsNext st)
number_adds st a x atoms n = (
  slot_of st a x atoms ∷ [],
  refl,
  behind,
  λ f s h. (x, moved_atoms f atoms, number_moved f st s a x atoms n, ap (λ l. s ++ l ∷ []) (slot_moved f st a x atoms), h),
  λ before slot after e. let q = alone (slot_of st a x atoms) before slot after e in
      subst (λ (l : List Slot). FillsHere l slot after) (sym q.0) (subst (λ (z : Slot). FillsHere [] z after) q.1 (subst (λ (l : List Slot). FillsHere [] (slot_of st a x atoms) l) (sym q.2) filled)),
)
  where
    behind : Grown st (with_slot st a x atoms)
    behind = grown_by st (with_slot st a x atoms) refl (λ h. h)

    FillsHere : List Slot → Slot → List Slot → Type 0
    FillsHere before slot after = Fills st (with_slot st a x atoms) before slot after (Whole a) (λ f old h new s t. IsNext st new s t)

    filled : Fills st (with_slot st a x atoms) [] (slot_of st a x atoms) [] (Whole a) (λ f old h new s t. IsNext st new s t)
    filled = (a, Whole.whole, st, refl, refl, n, grown_same st, behind, λ f new y atoms k s h. (y, atoms, number_over st s new y atoms k, refl, h))

slot_id : ℕ → SlotId
slot_id n = record { 0 = n }

-- what holds of the next slot and the state behind it
pub by_next : (st : State) (a : Expr) (s t : List Slot) (P : SlotId → State → Type 0) → IsNext st a s t → ((x : ex.Expr) (atoms : List (Atom × Span)) → IsNumber (over st s) a x atoms → P (next_slot (over st s)) (with_slot (over st s) a x atoms)) → P (next_slot st) (over st t)
unfolding slot_id
by_next st a s t P n h =
    subst (λ (id : SlotId). P id (over st t)) (ap slot_id n.4) (subst (λ (l : List Slot). P (next_slot (over st s)) (over st l)) (sym n.3) (h n.0 n.1 n.2))

-- ---- a part that has the number

module _ (x : Expr) (Q : Expr → List Slot → List Slot → Type 0) where
  -- alone
  pub number_as : (st st2 : State) (O : Moving) (L : Expr → Type 0) (R : Putting L) → AddsNumber st st2 x Q → ((f : ℕ → ℕ) (s t : List Slot) → length s ≡ length st.slots → Q (moved_expr f x) s t → O f s t) → (here : L x) → ((f : ℕ → ℕ) (new : Expr) (s t : List Slot) → length s ≡ length st.slots → Q new s t → R f x here new s t) → Adds st st2 O L R
  number_as st st2 O L R d moved here put =
      added_as st st2 st st2 (λ f s t. Q (moved_expr f x) s t) O (Whole x) L (λ f old h new s t. Q new s t) R d refl refl (grown_same st) (grown_same st2) moved (whole_by x (λ old h. L old) here)
      (λ f old h new s t e q. whole_by x (λ old h. R f old (whole_by x (λ old h. L old) here old h) new s t) (put f new s t e q) old h)

  module _ (a b c : State) (N O : Moving) (K L : Expr → Type 0) (P : Putting K) (R : Putting L) where
    -- and something behind it
    pub number_then : AddsNumber a b x Q → Adds b c N K P → ((f : ℕ → ℕ) (s t u : List Slot) → length s ≡ length a.slots → Q (moved_expr f x) s t → N f t u → O f s u) → (here : L x) → ((f : ℕ → ℕ) (new : Expr) (s t u : List Slot) → length s ≡ length a.slots → Q new s t → N f t u → R f x here new s u) → (right : (old : Expr) → K old → L old) → ((f : ℕ → ℕ) (old : Expr) (k : K old) (new : Expr) (s t u : List Slot) → length s ≡ length a.slots → Q (moved_expr f x) s t → P f old k new t u → R f old (right old k) new s u) → Adds a c O L R
    number_then d g both here on_here right on_right =
        added_then a b c (λ f s t. Q (moved_expr f x) s t) N O (Whole x) K L (λ f old h new s t. Q new s t) P R both (whole_by x (λ old h. L old) here)
        (λ f old h new s t u e q n. whole_by x (λ old h. R f old (whole_by x (λ old h. L old) here old h) new s u) (on_here f new s t u e q n) old h) right on_right d g

    -- and something before it
    pub then_number : Adds a b N K P → AddsNumber b c x Q → ((f : ℕ → ℕ) (s t u : List Slot) → length s ≡ length a.slots → N f s t → Q (moved_expr f x) t u → O f s u) → (left : (old : Expr) → K old → L old) → ((f : ℕ → ℕ) (old : Expr) (k : K old) (new : Expr) (s t u : List Slot) → length s ≡ length a.slots → P f old k new s t → Q (moved_expr f x) t u → R f old (left old k) new s u) → (here : L x) → ((f : ℕ → ℕ) (new : Expr) (s t u : List Slot) → length s ≡ length a.slots → N f s t → Q new t u → R f x here new s u) → Adds a c O L R
    then_number d g both left on_left here on_here =
        added_then a b c N (λ f s t. Q (moved_expr f x) s t) O K (Whole x) L P (λ f old h new s t. Q new s t) R both left on_left (whole_by x (λ old h. L old) here)
        (λ f old h new s t u e n q. whole_by x (λ old h. R f old (whole_by x (λ old h. L old) here old h) new s u) (on_here f new s t u e n q) old h) d g
