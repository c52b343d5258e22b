-- Values, arguments and calls: what they add.
use Rattle.std.proofs.Common.{ℕ, List, [], ◌∷◌, map, Option, Some, refl, sym, ◌∙◌, subst}
use Rattle.ax_prog.specs.declared.Ty.{Ty}
use Rattle.ax_prog.specs.declared.Ty.TheVariants as ty
use Rattle.ax_prog.specs.declared.FunId.{FunId}
use Rattle.ax_prog.specs.declared.SlotId.{SlotId}
use Rattle.ax_prog.specs.declared.Lval.{Lval}
use Rattle.ax_prog.specs.declared.Pexpr.{Pexpr}
use Rattle.ax_prog.specs.declared.Arg.{Arg}
use Rattle.ax_prog.specs.declared.Value.{Value}
use Rattle.ax_prog.specs.declared.Value.TheVariants as value
use Rattle.ax_prog.specs.declared.Slot.{Slot}
use Rattle.ax_parse_grammar.specs.declared.tree.Expr.{Expr}
use Rattle.ax_parse_grammar.specs.declared.tree.Expr.TheVariants as form
use Rattle.ax_names_types.specs.declared.Typed.TheVariants as t
use Rattle.ax_names_rules.specs.declared.Signature.{Signature}
use Rattle.ax_names_rules.specs.declared.State.{State}
use Rattle.ax_names_rules.specs.States.{here, next_slot, with_slot}
use Rattle.ax_names_rules.specs.Values.{IsPointer, Offers, arg_of, Arguments, IsFunction, Calls, Given, IsTarget}
use Rattle.ax_print_holes.specs.Moved.{moved_span, moved_expr}
use Rattle.ax_print_holes.specs.Holes.{HoldsArgument, HoldsInCall, HoldsValue, put_argument, put_in_call, put_value}
use Rattle.ax_print_holes.proofs.Layers.{moved-Call}
use Rattle.ax_print_fills.proofs.Words.{zero_moved}
use Rattle.ax_print_fills.proofs.Meanings.{is_moved, means_moved}
use Rattle.ax_print_fills.proofs.Grown.{grown_same}
use Rattle.ax_print_fills.proofs.Added.{over, Moving, Putting, Adds, nothing_added, added_as}
use Rattle.ax_print_fills.proofs.Numbers.{AddsNumber, IsNext, number_adds, by_next, number_as, number_then, Whole}

-- ---- what adds nothing

pointer_moved : (f : ℕ → ℕ) (st : State) (s : List Slot) (a : Expr) (u : Ty) (q : Pexpr) → IsPointer st a u q → IsPointer (over st s) (moved_expr f a) u q
pointer_moved f st s a _ _ (IsPointer.pointer {m = m} u q d h) = IsPointer.pointer u q (means_moved f (here st) a m d) (is_moved f a m (t.Ptr u q) h)
pointer_moved f st s _ u _ (IsPointer.null a z) = IsPointer.null (moved_expr f a) (zero_moved f a ∙ z)

pub target_moved : (f : ℕ → ℕ) (st : State) (s : List Slot) (a : Expr) (u : Ty) (l : Lval) → IsTarget st a u l → IsTarget (over st s) (moved_expr f a) u l
target_moved f st s a u l (IsTarget.target d h) = IsTarget.target (means_moved f (here st) a (t.Place u l) d) h

function_over : (defs : List (List ℕ)) (st : State) (s : List Slot) (x : List ℕ) (head : Signature) (j : FunId) → IsFunction defs st x head j → IsFunction defs (over st s) x head j
function_over defs st s x _ _ (IsFunction.function d k hd he hs hj) = IsFunction.function d k hd he hs hj

-- ---- values

abbrev pub Offered : State → Ty → Value → State → Expr → List Slot → List Slot → Type 0
Offered st u v st2 a s t = Offers (over st s) u a v (over st2 t)

next_offered : (st : State) (a : Expr) (s t : List Slot) → IsNext st a s t → Offers (over st s) ty.Int a (value.Int (next_slot st)) (over st t)
next_offered st a s t n = by_next st a s t (λ (id : SlotId) (w : State). Offers (over st s) ty.Int a (value.Int id) w) n (λ x atoms k. Offers.number x atoms k)

pub offer_adds : (st : State) (u : Ty) (a : Expr) (v : Value) (st2 : State) → Offers st u a v st2 → AddsNumber st st2 a (Offered st u v st2)
offer_adds st _ a _ _ (Offers.number x atoms n) =
    let st2 : State = with_slot st a x atoms in
    let Q : Expr → List Slot → List Slot → Type 0 = Offered st ty.Int (value.Int (next_slot st)) st2 in
    number_as a (IsNext st) st st2 (λ f s t. Q (moved_expr f a) s t) (Whole a) (λ f old h new s t. Q new s t) (number_adds st a x atoms n)
    (λ f s t e q. next_offered st (moved_expr f a) s t q) Whole.whole (λ f new s t e q. next_offered st new s t q)
offer_adds st _ a _ _ (Offers.pointer u q d) =
    let Q : Expr → List Slot → List Slot → Type 0 = Offered st (ty.Ptr u) (value.Ptr q) st in
    nothing_added st (λ f s t. Q (moved_expr f a) s t) (Whole a) (λ f old h new s t. Q new s t) (λ f s e. Offers.pointer u q (pointer_moved f st s a u q d))

-- ---- arguments

abbrev pub InArguments : List Expr → Expr → Type 0
InArguments xs old = HoldsArgument old xs

abbrev pub ArgumentsMoved : State → List Ty → List Expr → List Arg → State → Moving
ArgumentsMoved st us xs args st2 f s t = Arguments (over st s) us (map (moved_expr f) xs) args (over st2 t)

abbrev pub ArgumentsPut : State → List Ty → (xs : List Expr) → List Arg → State → Putting (InArguments xs)
ArgumentsPut st us xs args st2 f old h new s t = Arguments (over st s) us (put_argument f new h) args (over st2 t)

pub args_add : (st : State) (us : List Ty) (xs : List Expr) (args : List Arg) (st2 : State) → Arguments st us xs args st2 → Adds st st2 (ArgumentsMoved st us xs args st2) (InArguments xs) (ArgumentsPut st us xs args st2)
args_add st _ _ _ _ Arguments.none = nothing_added st (ArgumentsMoved st [] [] [] st) (InArguments []) (ArgumentsPut st [] [] [] st) (λ f s e. Arguments.none)
args_add st _ _ _ st3 (Arguments.more {st2 = st2} {u = u} {us = us} {a = a} {rest = rest} {args = args} v d e) =
    number_then a (Offered st u v st2) st st2 st3 (ArgumentsMoved st2 us rest args st3) (ArgumentsMoved st (u ∷ us) (a ∷ rest) (arg_of v ∷ args) st3) (InArguments rest) (InArguments (a ∷ rest)) (ArgumentsPut st2 us rest args st3) (ArgumentsPut st (u ∷ us) (a ∷ rest) (arg_of v ∷ args) st3)
    (offer_adds st u a v st2 d) (args_add st2 us rest args st3 e)
    (λ f s t w l q n. Arguments.more v q n) HoldsArgument.this (λ f new s t w l q n. Arguments.more v q n) (λ old h. HoldsArgument.later h) (λ f old h new s t w l q n. Arguments.more v q n)

-- ---- calls, and values that may be calls

abbrev pub InCall : Expr → Expr → Type 0
InCall a old = HoldsInCall old a

abbrev pub InValue : Expr → Expr → Type 0
InValue a old = HoldsValue old a

module _ (defs : List (List ℕ)) where
  abbrev pub CallMoved : State → Expr → Option Ty → FunId → List Arg → State → Moving
  CallMoved st a r j args st2 f s t = Calls defs (over st s) (moved_expr f a) r j args (over st2 t)

  abbrev pub CallPut : State → (a : Expr) → Option Ty → FunId → List Arg → State → Putting (InCall a)
  CallPut st a r j args st2 f old h new s t = Calls defs (over st s) (put_in_call f new h) r j args (over st2 t)

  pub call_adds : (st : State) (a : Expr) (r : Option Ty) (j : FunId) (args : List Arg) (st2 : State) → Calls defs st a r j args st2 → Adds st st2 (CallMoved st a r j args st2) (InCall a) (CallPut st a r j args st2)
  call_adds st _ _ _ _ st2 (Calls.call {at = at} {xs = xs} {j = j} {args = args} at2 x head fn b) =
      let a : Expr = form.Call at (form.Name at2 x) xs in
      added_as st st2 st st2 (ArgumentsMoved st head.params xs args st2) (CallMoved st a head.result j args st2) (InArguments xs) (InCall a) (ArgumentsPut st head.params xs args st2) (CallPut st a head.result j args st2)
      (args_add st head.params xs args st2 b) refl refl (grown_same st) (grown_same st2)
      (λ f s t e m. subst (λ (y : Expr). Calls defs (over st s) y head.result j args (over st2 t)) (sym (moved-Call f at (form.Name at2 x) xs)) (Calls.call (moved_span f at2) x head (function_over defs st s x head j fn) m))
      (λ old h. HoldsInCall.argument (form.Name at2 x) h) (λ f old h new s t e m. Calls.call (moved_span f at2) x head (function_over defs st s x head j fn) m)

  abbrev pub GivenMoved : State → Ty → Expr → Value → State → Moving
  GivenMoved st u a v st2 f s t = Given defs (over st s) u (moved_expr f a) v (over st2 t)

  abbrev pub GivenPut : State → Ty → (a : Expr) → Value → State → Putting (InValue a)
  GivenPut st u a v st2 f old h new s t = Given defs (over st s) u (put_value f new h) v (over st2 t)

  pub given_adds : (st : State) (u : Ty) (a : Expr) (v : Value) (st2 : State) → Given defs st u a v st2 → Adds st st2 (GivenMoved st u a v st2) (InValue a) (GivenPut st u a v st2)
  given_adds st u a v st2 (Given.offered d) =
      number_as a (Offered st u v st2) st st2 (GivenMoved st u a v st2) (InValue a) (GivenPut st u a v st2) (offer_adds st u a v st2 d)
      (λ f s t e q. Given.offered q) HoldsValue.whole (λ f new s t e q. Given.offered q)
  given_adds st u a _ st2 (Given.call {j = j} {args = args} d) =
      added_as st st2 st st2 (CallMoved st a (Some u) j args st2) (GivenMoved st u a (value.Call j args) st2) (InCall a) (InValue a) (CallPut st a (Some u) j args st2) (GivenPut st u a (value.Call j args) st2)
      (call_adds st a (Some u) j args st2 d) refl refl (grown_same st) (grown_same st2) (λ f s t e m. Given.call m) (λ old h. HoldsValue.call h) (λ f old h new s t e m. Given.call m)
