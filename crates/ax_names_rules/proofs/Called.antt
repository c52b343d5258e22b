-- Calls, values that may be calls, and targets: what the functions give is what the rules say.
use Rattle.std.proofs.Common.{◌≡◌, ℕ, Bool, true, false, List, length, Option, Some, None, Ok, Err, refl, sym, ap, ◌∙◌, subst, if◌then◌else◌}
use Rattle.std.specs.Prelude.{nat_eq, slice_get}
use Rattle.std.proofs.lemmas.Bool.Decides.{Decides-eqb}
use Rattle.ax_prog.specs.declared.Span.{Span}
use Rattle.ax_prog.specs.declared.Ty.{Ty, Ptr', Array'}
use Rattle.ax_prog.specs.declared.Ty.TheVariants as ty
use Rattle.ax_prog.specs.declared.FunId.{FunId}
use Rattle.ax_prog.specs.declared.Lval.{Lval}
use Rattle.ax_prog.specs.declared.Arg.{Arg}
use Rattle.ax_prog.specs.declared.Value.{Value}
use Rattle.ax_prog.specs.declared.Value.TheVariants as value
use Rattle.ax_parse_grammar.specs.declared.tree.Expr.{Expr, Name, Number, Unary', Binary', Cond', Index', Member', Arrow', Call'}
use Rattle.ax_parse_grammar.specs.declared.tree.Expr.TheVariants as s
use Rattle.ax_parse_grammar.specs.declared.tree.Expr.TheBlock.{more_of-Expr, end_of-Expr, backs-Expr, seen-the_row-Expr-1, shown-the_row-Expr-1, shape-the_row-Expr-0, hidden-the_row-Expr-0, shape-the_row-Expr-1, hidden-the_row-Expr-1}
use Rattle.ax_parse_grammar.specs.Trees.{span_of}
use Rattle.ax_names_types.specs.declared.Entry.{Entry}
use Rattle.ax_names_types.specs.declared.Entity.{Entity}
use Rattle.ax_names_types.specs.declared.Entity.TheVariants as entity
use Rattle.ax_names_types.specs.declared.Typed.{Typed}
use Rattle.ax_names_types.specs.declared.Typed.TheVariants as t
use Rattle.ax_names_types.specs.declared.TypeKind.TheVariants.{UnknownName, WrongType, NotLvalue, WrongCount}
use Rattle.ax_names_types.specs.declared.TypeFault.{TypeFault}
use Rattle.ax_names_types.specs.Faults.{fault, Verdict}
use Rattle.ax_names_types.specs.Scopes.{innermost, is_function}
use Rattle.ax_names_types.specs.Types.{is_call}
use Rattle.ax_names_types.specs.Meaning.{Means}
use Rattle.ax_names_types.specs.Breaks.{Breaks}
use Rattle.ax_names_types.specs.Verdicts.{unless_function, verdict_of}
use Rattle.ax_names_types.proofs.Equality.{same_is, same_itself}
use Rattle.ax_names_types.proofs.Sound.{Judged, judged, clash}
use Rattle.ax_names_types.proofs.Meant.{means_verdict, means_place}
use Rattle.ax_names_types.proofs.Broken.{Faulty, function_faulty, place_faulty, breaks_verdict}
use Rattle.ax_names_rules.specs.declared.Signature.{Signature}
use Rattle.ax_names_rules.specs.declared.State.{State}
use Rattle.ax_names_rules.specs.States.{here}
use Rattle.ax_names_rules.specs.Values.{Offers, Arguments, is_name, function_at, fun_id, IsFunction, Calls, Given, is_array, IsTarget}
use Rattle.ax_names_rules.specs.ValueFaults.{BreaksValue, BreaksCallee, BreaksCall, BreaksGiven, BreaksTarget}
use Rattle.ax_names_rules.specs.ValueWalk.{◌>>=◌, Made, value_for, args_of, entity_of, head_at, head_of, defined_at, Called, with_args, called, no_callee, callee_of, call_of, gives, given_by, given_for, unless_array, as_target, target_of}
use Rattle.ax_names_rules.proofs.Steps.{choose, false_or_true, bind_judged, bind_is, bind_faulty, bind_behind, moved_to, fault_is, ok_is_err}
use Rattle.ax_names_rules.proofs.Offered.{JudgedValue, value_judged, value_is, value_breaks, JudgedArgs, args_judged, args_are, args_count, args_break}
use denote.Hole.Carrier

-- ---- what a callee's name denotes

abbrev looked : List (List ℕ) → State → Span → List ℕ → (Signature → FunId → Made Called) → Made Called
looked defs st at x k = head_of st.heads at (entity_of (innermost x st.names)) >>= λ head. defined_at (function_at defs x) at >>= λ j. k head j

module _ (defs : List (List ℕ)) (st : State) (at : Span) (x : List ℕ) (P : Made Called → Type 0) (k : Signature → FunId → Made Called) (h : (head : Signature) (j : FunId) → IsFunction defs st x head j → P (k head j)) (e : (f : TypeFault) → BreaksCallee defs st at x f → P (Err f)) where
  defined : (d : Entry) (i : ℕ) (head : Signature) (o : Option ℕ) → innermost x st.names ≡ Some d → d.entity ≡ entity.Function i → slice_get st.heads i ≡ Some head → function_at defs x ≡ o → P (defined_at o at >>= λ j. k head j)
  defined d i head None hd he hs ho = e (fault UnknownName at) (BreaksCallee.undefined d i hd he ho)
  defined d i head (Some j) hd he hs ho = h head (fun_id j) (IsFunction.function d i hd he hs ho)

  headed : (d : Entry) (i : ℕ) (o : Option Signature) → innermost x st.names ≡ Some d → d.entity ≡ entity.Function i → slice_get st.heads i ≡ o → P (head_at o at >>= λ head. defined_at (function_at defs x) at >>= λ j. k head j)
  headed d i None hd he hs = e (fault UnknownName at) (BreaksCallee.headless d i hd he hs)
  headed d i (Some head) hd he hs = defined d i head (function_at defs x) hd he hs refl

  entitled : (d : Entry) (w : Entity) → innermost x st.names ≡ Some d → d.entity ≡ w → P (head_of st.heads at (Some w) >>= λ head. defined_at (function_at defs x) at >>= λ j. k head j)
  entitled d (entity.Variable id u) hd he = e (fault WrongType at) (BreaksCallee.variable d id u hd he)
  entitled d (entity.Function i) hd he = headed d i (slice_get st.heads i) hd he refl

  named : (o : Option Entry) → innermost x st.names ≡ o → P (head_of st.heads at (entity_of o) >>= λ head. defined_at (function_at defs x) at >>= λ j. k head j)
  named None hd = e (fault UnknownName at) (BreaksCallee.unknown hd)
  named (Some d) hd = entitled d d.entity hd refl

  callee_judged : P (looked defs st at x k)
  callee_judged = named (innermost x st.names) refl

head_found : (st : State) (at : Span) (x : List ℕ) (d : Entry) (i : ℕ) (o : Option Signature) → innermost x st.names ≡ Some d → d.entity ≡ entity.Function i → slice_get st.heads i ≡ o → head_of st.heads at (entity_of (innermost x st.names)) ≡ head_at o at
head_found st at x d i o hd he hs = ap (λ o. head_of st.heads at (entity_of o)) hd ∙ ap (λ (w : Entity). head_of st.heads at (Some w)) he ∙ ap (λ o. head_at o at) hs

callee_is : (defs : List (List ℕ)) (st : State) (at : Span) (x : List ℕ) (head : Signature) (j : FunId) (k : Signature → FunId → Made Called) (w : Made Called) → IsFunction defs st x head j → k head j ≡ w → looked defs st at x k ≡ w
callee_is defs st at x _ _ k w (IsFunction.function {head = head} {j = j} d i hd he hs hj) q =
    bind_is _ _ head _ (head_found st at x d i (Some head) hd he hs) (bind_is _ _ (fun_id j) _ (ap (λ o. defined_at o at) hj) q)

undefined_by : (defs : List (List ℕ)) (st : State) (at : Span) (x : List ℕ) (k : Signature → FunId → Made Called) (d : Entry) (i : ℕ) (o : Option Signature) → innermost x st.names ≡ Some d → d.entity ≡ entity.Function i → slice_get st.heads i ≡ o → function_at defs x ≡ None → Faulty (looked defs st at x k) (fault UnknownName at)
undefined_by defs st at x k d i None hd he hs hj = bind_faulty _ _ (fault UnknownName at) (fault_is _ _ (head_found st at x d i None hd he hs))
undefined_by defs st at x k d i (Some head) hd he hs hj = bind_behind _ _ head (fault UnknownName at) (head_found st at x d i (Some head) hd he hs) (bind_faulty _ _ (fault UnknownName at) (fault_is _ _ (ap (λ o. defined_at o at) hj)))

callee_breaks : (defs : List (List ℕ)) (st : State) (at : Span) (x : List ℕ) (k : Signature → FunId → Made Called) (g : TypeFault) → BreaksCallee defs st at x g → Faulty (looked defs st at x k) g
callee_breaks defs st at x k _ (BreaksCallee.unknown hd) = bind_faulty _ _ (fault UnknownName at) (fault_is _ _ (ap (λ o. head_of st.heads at (entity_of o)) hd))
callee_breaks defs st at x k _ (BreaksCallee.variable d id u hd he) = bind_faulty _ _ (fault WrongType at) (fault_is _ _ (ap (λ o. head_of st.heads at (entity_of o)) hd ∙ ap (λ (w : Entity). head_of st.heads at (Some w)) he))
callee_breaks defs st at x k _ (BreaksCallee.headless d i hd he hs) = bind_faulty _ _ (fault UnknownName at) (fault_is _ _ (head_found st at x d i None hd he hs))
callee_breaks defs st at x k _ (BreaksCallee.undefined d i hd he hj) = undefined_by defs st at x k d i (slice_get st.heads i) hd he refl hj

-- ---- calls

abbrev pub JudgedCall : List (List ℕ) → State → Expr → Made Called → Type 0
JudgedCall defs st a (Ok c) = Calls defs st a (c.0).0 ((c.0).1).0 ((c.0).1).1 c.1
JudgedCall defs st a (Err f) = BreaksCall defs st a f

counts : (m n : ℕ) → nat_eq m n ≡ true → m ≡ n
counts m n h = (Decides-eqb m n).0 h

counted : (m n : ℕ) → m ≡ n → nat_eq m n ≡ true
counted m n h = (Decides-eqb m n).1 h

with_judged : (defs : List (List ℕ)) (st : State) (at at2 : Span) (x : List ℕ) (xs : List Expr) (head : Signature) (j : FunId) → IsFunction defs st x head j → JudgedCall defs st (s.Call at (s.Name at2 x) xs) (with_args at head j xs st)
with_judged defs st at at2 x xs head j fn =
    choose (JudgedCall defs st (s.Call at (s.Name at2 x) xs)) (nat_eq (length xs) (length head.params)) (args_of head.params xs st >>= λ r. Ok ((head.result, (j, r.0)), r.1)) (Err (fault WrongCount at))
    (λ z. bind_judged (JudgedArgs head.params xs st) (JudgedCall defs st (s.Call at (s.Name at2 x) xs)) _ (args_of head.params xs st) (args_judged head.params xs st (counts (length xs) (length head.params) z)) (λ r b. Calls.call at2 x head fn b) (λ f b. BreaksCall.argument xs at2 x head j fn (counts (length xs) (length head.params) z) b))
    (λ z. BreaksCall.count xs at2 x head j fn (λ q. clash (nat_eq (length xs) (length head.params)) (counted (length xs) (length head.params) q) z))

called_judged : (defs : List (List ℕ)) (st : State) (at at2 : Span) (x : List ℕ) (xs : List Expr) → JudgedCall defs st (s.Call at (s.Name at2 x) xs) (called defs st at at2 x xs)
called_judged defs st at at2 x xs = callee_judged defs st at2 x (JudgedCall defs st (s.Call at (s.Name at2 x) xs)) (λ head j. with_args at head j xs st) (λ head j fn. with_judged defs st at at2 x xs head j fn) (λ f b. BreaksCall.name xs at2 x b)

no_callee_judged : (defs : List (List ℕ)) (st : State) (at : Span) (a : Expr) (xs : List Expr) → is_name a ≡ false → JudgedCall defs st (s.Call at a xs) (no_callee st a)
no_callee_judged defs st at a xs z =
    bind_judged (Judged (here st) a) (JudgedCall defs st (s.Call at a xs)) _ (verdict_of (here st) a) (judged (here st) a) (λ m d. BreaksCall.callee a xs z d) (λ f d. BreaksCall.within_callee a xs z d)

behind_callee : (defs : List (List ℕ)) (st : State) (at : Span) (a : Expr) (xs : List Expr) → JudgedCall defs st (s.Call at a xs) (callee_of defs st at a xs)
behind_callee defs st at (Name at2 x) xs = called_judged defs st at at2 x xs
behind_callee defs st at (Number at2 n) xs = no_callee_judged defs st at (Number at2 n) xs refl
behind_callee defs st at (Unary' at2 op sh r) xs = no_callee_judged defs st at (Unary' at2 op sh r) xs refl
behind_callee defs st at (Binary' at2 op sh r sh2 r2) xs = no_callee_judged defs st at (Binary' at2 op sh r sh2 r2) xs refl
behind_callee defs st at (Cond' at2 sh r sh2 r2 sh3 r3) xs = no_callee_judged defs st at (Cond' at2 sh r sh2 r2 sh3 r3) xs refl
behind_callee defs st at (Index' at2 sh r sh2 r2) xs = no_callee_judged defs st at (Index' at2 sh r sh2 r2) xs refl
behind_callee defs st at (Member' at2 sh r x) xs = no_callee_judged defs st at (Member' at2 sh r x) xs refl
behind_callee defs st at (Arrow' at2 sh r x) xs = no_callee_judged defs st at (Arrow' at2 sh r x) xs refl
behind_callee defs st at (Call' at2 sh r sh2 r2) xs = no_callee_judged defs st at (Call' at2 sh r sh2 r2) xs refl

pub call_judged : (defs : List (List ℕ)) (st : State) (a : Expr) → JudgedCall defs st a (call_of defs st a)
unfolding shape-the_row-Expr-0 hidden-the_row-Expr-0 shape-the_row-Expr-1 hidden-the_row-Expr-1 shown-the_row-Expr-1 Carrier.hidden Carrier.shown
call_judged defs st (Call' at sh (more_of-Expr a end_of-Expr) sh2 row) =
    let d : JudgedCall defs st (s.Call at a (shown-the_row-Expr-1 sh2 row)) (callee_of defs st at a (shown-the_row-Expr-1 sh2 row)) = behind_callee defs st at a (shown-the_row-Expr-1 sh2 row) in
    subst (λ (x : Expr). JudgedCall defs st x (callee_of defs st at a (shown-the_row-Expr-1 sh2 row))) (backs-Expr (Call' at sh (more_of-Expr a end_of-Expr) sh2 row)) d
call_judged defs st (Name at x) = BreaksCall.no_call refl
call_judged defs st (Number at n) = BreaksCall.no_call refl
call_judged defs st (Unary' at op sh r) = BreaksCall.no_call refl
call_judged defs st (Binary' at op sh r sh2 r2) = BreaksCall.no_call refl
call_judged defs st (Cond' at sh r sh2 r2 sh3 r3) = BreaksCall.no_call refl
call_judged defs st (Index' at sh r sh2 r2) = BreaksCall.no_call refl
call_judged defs st (Member' at sh r x) = BreaksCall.no_call refl
call_judged defs st (Arrow' at sh r x) = BreaksCall.no_call refl

call_of-Call : (defs : List (List ℕ)) (st : State) (at : Span) (a : Expr) (xs : List Expr) → call_of defs st (s.Call at a xs) ≡ callee_of defs st at a xs
unfolding shape-the_row-Expr-0 hidden-the_row-Expr-0 shape-the_row-Expr-1 hidden-the_row-Expr-1 Carrier.hidden
call_of-Call defs st at a xs = ap (callee_of defs st at a) (seen-the_row-Expr-1 xs)

with_is : (at : Span) (head : Signature) (j : FunId) (xs : List Expr) (st : State) (args : List Arg) (st2 : State) → Arguments st head.params xs args st2 → with_args at head j xs st ≡ Ok ((head.result, (j, args)), st2)
with_is at head j xs st args st2 b = rw (counted (length xs) (length head.params) (args_count head.params xs st args st2 b)) (bind_is _ _ (args, st2) _ (args_are head.params xs st args st2 b) refl)

pub call_is : (defs : List (List ℕ)) (st : State) (a : Expr) (r : Option Ty) (j : FunId) (args : List Arg) (st2 : State) → Calls defs st a r j args st2 → call_of defs st a ≡ Ok ((r, (j, args)), st2)
call_is defs st _ _ _ _ _ (Calls.call {at = at} {xs = xs} {j = j} {args = args} {st2 = st2} at2 x head fn b) =
    call_of-Call defs st at (s.Name at2 x) xs ∙ callee_is defs st at2 x head j (λ head j. with_args at head j xs st) _ fn (with_is at head j xs st args st2 b)

no_call_is : (defs : List (List ℕ)) (st : State) (a : Expr) → is_call a ≡ false → call_of defs st a ≡ Err (fault WrongType (span_of a))
no_call_is defs st (Call' at sh r sh2 r2) h = cc
no_call_is defs st (Name at x) h = refl
no_call_is defs st (Number at n) h = refl
no_call_is defs st (Unary' at op sh r) h = refl
no_call_is defs st (Binary' at op sh r sh2 r2) h = refl
no_call_is defs st (Cond' at sh r sh2 r2 sh3 r3) h = refl
no_call_is defs st (Index' at sh r sh2 r2) h = refl
no_call_is defs st (Member' at sh r x) h = refl
no_call_is defs st (Arrow' at sh r x) h = refl

no_name_is : (defs : List (List ℕ)) (st : State) (at : Span) (a : Expr) (xs : List Expr) → is_name a ≡ false → callee_of defs st at a xs ≡ no_callee st a
no_name_is defs st at (Name at2 x) xs h = cc
no_name_is defs st at (Number at2 n) xs h = refl
no_name_is defs st at (Unary' at2 op sh r) xs h = refl
no_name_is defs st at (Binary' at2 op sh r sh2 r2) xs h = refl
no_name_is defs st at (Cond' at2 sh r sh2 r2 sh3 r3) xs h = refl
no_name_is defs st at (Index' at2 sh r sh2 r2) xs h = refl
no_name_is defs st at (Member' at2 sh r x) xs h = refl
no_name_is defs st at (Arrow' at2 sh r x) xs h = refl
no_name_is defs st at (Call' at2 sh r sh2 r2) xs h = refl

behind_no_callee : (defs : List (List ℕ)) (st : State) (at : Span) (a : Expr) (xs : List Expr) (g : TypeFault) → is_name a ≡ false → Faulty (no_callee st a) g → Faulty (call_of defs st (s.Call at a xs)) g
behind_no_callee defs st at a xs g h q = moved_to _ _ g (call_of-Call defs st at a xs) (moved_to _ _ g (no_name_is defs st at a xs h) q)

-- what goes wrong behind the callee goes wrong with the call
behind_function : (defs : List (List ℕ)) (st : State) (at at2 : Span) (x : List ℕ) (xs : List Expr) (head : Signature) (j : FunId) (g : TypeFault) → IsFunction defs st x head j → Faulty (with_args at head j xs st) g → Faulty (call_of defs st (s.Call at (s.Name at2 x) xs)) g
behind_function defs st at at2 x xs head j g fn q =
    (q.0, call_of-Call defs st at (s.Name at2 x) xs ∙ callee_is defs st at2 x head j (λ head j. with_args at head j xs st) (Err q.0) fn q.1, q.2)

pub call_breaks : (defs : List (List ℕ)) (st : State) (a : Expr) (g : TypeFault) → BreaksCall defs st a g → Faulty (call_of defs st a) g
call_breaks defs st a _ (BreaksCall.no_call h) = fault_is _ _ (no_call_is defs st a h)
call_breaks defs st _ _ (BreaksCall.callee {at = at} {m = m} a xs h d) =
    behind_no_callee defs st at a xs (fault WrongType (span_of a)) h (bind_behind _ (verdict_of (here st) a) m (fault WrongType (span_of a)) (means_verdict (here st) a m d) (fault_is _ _ refl))
call_breaks defs st _ g (BreaksCall.within_callee {at = at} a xs h d) = behind_no_callee defs st at a xs g h (bind_faulty _ (verdict_of (here st) a) g (breaks_verdict (here st) a g d))
call_breaks defs st _ g (BreaksCall.name {at = at} xs at2 x b) = moved_to _ _ g (call_of-Call defs st at (s.Name at2 x) xs) (callee_breaks defs st at2 x (λ head j. with_args at head j xs st) g b)
call_breaks defs st _ _ (BreaksCall.count {at = at} xs at2 x head j fn h) =
    behind_function defs st at at2 x xs head j (fault WrongCount at) fn (fault_is (with_args at head j xs st) (fault WrongCount at) (rw (false_or_true (nat_eq (length xs) (length head.params)) (λ q. h (counts (length xs) (length head.params) q))) refl))
call_breaks defs st _ g (BreaksCall.argument {at = at} xs at2 x head j fn h b) =
    behind_function defs st at at2 x xs head j g fn (let q = args_break head.params xs st g b in (q.0, rw (counted (length xs) (length head.params) h) (rw q.1 refl), q.2))

-- ---- values that may be calls

abbrev pub JudgedGiven : List (List ℕ) → Ty → Span → State → Expr → Made Value → Type 0
JudgedGiven defs u at st a (Ok r) = Given defs st u a r.0 r.1
JudgedGiven defs u at st a (Err f) = BreaksGiven defs st u at a f

gives_is : (u : Ty) (r : Option Ty) → gives u r ≡ true → r ≡ Some u
gives_is u None h = cc
gives_is u (Some v) h = ap Some (sym (same_is u v h))

it_gives : (u : Ty) (r : Option Ty) → r ≡ Some u → gives u r ≡ true
it_gives u r q = ap (gives u) q ∙ same_itself u

by_value : (defs : List (List ℕ)) (u : Ty) (at : Span) (st : State) (a : Expr) (v : Made Value) → is_call a ≡ false → JudgedValue u at st a v → JudgedGiven defs u at st a v
by_value defs u at st a (Ok r) z d = Given.offered d
by_value defs u at st a (Err f) z d = BreaksGiven.value z d

by_call : (defs : List (List ℕ)) (u : Ty) (at : Span) (st : State) (a : Expr) (c : Called × State) → JudgedCall defs st a (Ok c) → JudgedGiven defs u at st a (if gives u (c.0).0 then Ok (value.Call ((c.0).1).0 ((c.0).1).1, c.1) else Err (fault WrongType at))
by_call defs u at st a c d =
    choose (JudgedGiven defs u at st a) (gives u (c.0).0) (Ok (value.Call ((c.0).1).0 ((c.0).1).1, c.1)) (Err (fault WrongType at))
    (λ g. Given.call (subst (λ (r : Option Ty). Calls defs st a r ((c.0).1).0 ((c.0).1).1 c.1) (gives_is u (c.0).0 g) d))
    (λ g. BreaksGiven.result d (λ q. clash (gives u (c.0).0) (it_gives u (c.0).0 q) g))

pub given_judged : (defs : List (List ℕ)) (u : Ty) (at : Span) (st : State) (a : Expr) → JudgedGiven defs u at st a (given_for defs u at st a)
given_judged defs u at st a =
    choose (JudgedGiven defs u at st a) (is_call a) (given_by u at (call_of defs st a)) (value_for u at st a)
    (λ z. bind_judged (JudgedCall defs st a) (JudgedGiven defs u at st a) _ (call_of defs st a) (call_judged defs st a) (λ c d. by_call defs u at st a c d) (λ f d. BreaksGiven.call z d))
    (λ z. by_value defs u at st a (value_for u at st a) z (value_judged u at st a))

calls_are : (defs : List (List ℕ)) (st : State) (a : Expr) (r : Option Ty) (j : FunId) (args : List Arg) (st2 : State) → Calls defs st a r j args st2 → is_call a ≡ true
unfolding shape-the_row-Expr-0 hidden-the_row-Expr-0 shape-the_row-Expr-1 hidden-the_row-Expr-1 Carrier.hidden
calls_are defs st _ _ _ _ _ (Calls.call at2 x head fn b) = refl

offers_no_call : (u : Ty) (st : State) (a : Expr) (v : Value) (st2 : State) → Offers st u a v st2 → is_call a ≡ false
offers_no_call u st a v st2 d =
    false_or_true (is_call a) (λ z. let q = value_breaks u (span_of a) st a (fault WrongType (span_of a)) (BreaksValue.within (Breaks.call z)) in ok_is_err (value_for u (span_of a) st a) (v, st2) q.0 (value_is u (span_of a) st a v st2 d) q.1)

given_call : (defs : List (List ℕ)) (u : Ty) (at : Span) (st : State) (a : Expr) → is_call a ≡ true → given_for defs u at st a ≡ given_by u at (call_of defs st a)
given_call defs u at st a z = rw z refl

given_value : (defs : List (List ℕ)) (u : Ty) (at : Span) (st : State) (a : Expr) → is_call a ≡ false → given_for defs u at st a ≡ value_for u at st a
given_value defs u at st a z = rw z refl

pub given_is : (defs : List (List ℕ)) (u : Ty) (at : Span) (st : State) (a : Expr) (v : Value) (st2 : State) → Given defs st u a v st2 → given_for defs u at st a ≡ Ok (v, st2)
given_is defs u at st a v st2 (Given.offered d) = given_value defs u at st a (offers_no_call u st a v st2 d) ∙ value_is u at st a v st2 d
given_is defs u at st a _ st2 (Given.call {j = j} {args = args} d) =
    given_call defs u at st a (calls_are defs st a (Some u) j args st2 d) ∙ bind_is _ _ ((Some u, (j, args)), st2) _ (call_is defs st a (Some u) j args st2 d) (rw (same_itself u) refl)

pub given_breaks : (defs : List (List ℕ)) (u : Ty) (at : Span) (st : State) (a : Expr) (g : TypeFault) → BreaksGiven defs st u at a g → Faulty (given_for defs u at st a) g
given_breaks defs u at st a g (BreaksGiven.value z d) = moved_to _ _ g (given_value defs u at st a z) (value_breaks u at st a g d)
given_breaks defs u at st a g (BreaksGiven.call z d) = moved_to _ _ g (given_call defs u at st a z) (bind_faulty _ _ g (call_breaks defs st a g d))
given_breaks defs u at st a _ (BreaksGiven.result {r = r} {j = j} {args = args} {st2 = st2} d k) =
    moved_to _ _ (fault WrongType at) (given_call defs u at st a (calls_are defs st a r j args st2 d))
    (bind_behind _ _ ((r, (j, args)), st2) (fault WrongType at) (call_is defs st a r j args st2 d) (fault_is (if gives u r then Ok (value.Call j args, st2) else Err (fault WrongType at)) (fault WrongType at) (rw (false_or_true (gives u r) (λ g. k (gives_is u r g))) refl)))

-- ---- targets

abbrev pub JudgedTarget : State → Expr → Verdict (Ty × Lval) → Type 0
JudgedTarget st a (Ok l) = IsTarget st a l.0 l.1
JudgedTarget st a (Err f) = BreaksTarget st a f

abbrev is_place : Typed → Bool
is_place (t.Place u l) = true
is_place (t.Int x xs) = false
is_place (t.Ptr u q) = false

place_judged : (st : State) (a : Expr) (u : Ty) (l : Lval) → Means (here st) a (t.Place u l) → JudgedTarget st a (unless_array (span_of a) u l)
place_judged st a ty.Int l d = IsTarget.target d refl
place_judged st a (Ptr' sh row) l d = IsTarget.target d refl
place_judged st a (Array' sh row n) l d = BreaksTarget.array (Array' sh row n) l d refl
place_judged st a (ty.Struct k) l d = IsTarget.target d refl

meaning_judged : (st : State) (a : Expr) (m : Typed) → Means (here st) a m → JudgedTarget st a (as_target (span_of a) m)
meaning_judged st a (t.Place u l) d = place_judged st a u l d
meaning_judged st a (t.Int x xs) d = BreaksTarget.no_place d (λ u l h. clash (is_place (t.Int x xs)) (ap is_place h) refl)
meaning_judged st a (t.Ptr v q) d = BreaksTarget.no_place d (λ u l h. clash (is_place (t.Ptr v q)) (ap is_place h) refl)

-- what stands where a place is wanted
abbrev JudgedPlace : State → Expr → Verdict Typed → Type 0
JudgedPlace st a (Ok m) = Means (here st) a m
JudgedPlace st a (Err f) = BreaksTarget st a f

function_judged : (st : State) (a : Expr) (b : Bool) (v : Verdict Typed) → is_function st.names a ≡ b → Judged (here st) a v → JudgedPlace st a (unless_function b (span_of a) v)
function_judged st a true v h d = BreaksTarget.function h
function_judged st a false (Ok m) h d = d
function_judged st a false (Err f) h d = BreaksTarget.within h d

pub target_judged : (st : State) (a : Expr) → JudgedTarget st a (target_of st a)
target_judged st a =
    bind_judged (JudgedPlace st a) (JudgedTarget st a) _ (unless_function (is_function st.names a) (span_of a) (verdict_of (here st) a))
    (function_judged st a (is_function st.names a) (verdict_of (here st) a) refl (judged (here st) a)) (λ m d. meaning_judged st a m d) (λ f d. d)

no_array : (at : Span) (u : Ty) (l : Lval) → is_array u ≡ false → unless_array at u l ≡ Ok (u, l)
no_array at ty.Int l h = refl
no_array at (Ptr' sh row) l h = refl
no_array at (Array' sh row n) l h = cc
no_array at (ty.Struct k) l h = refl

an_array : (at : Span) (u : Ty) (l : Lval) → is_array u ≡ true → unless_array at u l ≡ Err (fault NotLvalue at)
an_array at ty.Int l h = cc
an_array at (Ptr' sh row) l h = cc
an_array at (Array' sh row n) l h = refl
an_array at (ty.Struct k) l h = cc

no_place : (at : Span) (m : Typed) → ((u : Ty) (l : Lval) → m ≡ t.Place u l → ⊥) → as_target at m ≡ Err (fault NotLvalue at)
no_place at (t.Place u l) k = absurd (k u l refl)
no_place at (t.Int x xs) k = refl
no_place at (t.Ptr u q) k = refl

pub target_is : (st : State) (a : Expr) (u : Ty) (l : Lval) → IsTarget st a u l → target_of st a ≡ Ok (u, l)
target_is st a u l (IsTarget.target d h) = bind_is _ _ (t.Place u l) _ (means_place (here st) a (t.Place u l) d) (no_array (span_of a) u l h)

pub target_breaks : (st : State) (a : Expr) (g : TypeFault) → BreaksTarget st a g → Faulty (target_of st a) g
target_breaks st a _ (BreaksTarget.function h) = bind_faulty _ _ (fault NotLvalue (span_of a)) (function_faulty (is_function st.names a) (span_of a) (verdict_of (here st) a) h)
target_breaks st a g (BreaksTarget.within h d) = bind_faulty _ _ g (place_faulty (is_function st.names a) (span_of a) (verdict_of (here st) a) g h (breaks_verdict (here st) a g d))
target_breaks st a _ (BreaksTarget.no_place {m = m} d k) = bind_behind _ _ m (fault NotLvalue (span_of a)) (means_place (here st) a m d) (fault_is _ _ (no_place (span_of a) m k))
target_breaks st a _ (BreaksTarget.array u l d h) = bind_behind _ _ (t.Place u l) (fault NotLvalue (span_of a)) (means_place (here st) a (t.Place u l) d) (fault_is _ _ (an_array (span_of a) u l h))
