-- Values for a place of a type: what the functions give is what the rules say.
use Rattle.std.proofs.Common.{◌≡◌, ℤ, Bool, true, List, [], ◌∷◌, length, Ok, Err, refl, sym, ap, ◌∙◌, subst, arith, if◌then◌else◌}
use Rattle.ax_prog.specs.declared.Span.{Span}
use Rattle.ax_prog.specs.declared.Ty.{Ty, Ptr', Array', more_of-Ty, end_of-Ty}
use Rattle.ax_prog.specs.declared.Ty.TheVariants as ty
use Rattle.ax_prog.specs.declared.Ty.TheBlock.{shape-the_row-Ty-0, hidden-the_row-Ty-0}
use Rattle.ax_prog.specs.declared.Expr as ex
use Rattle.ax_prog.specs.declared.Expr.TheVariants as e
use Rattle.ax_prog.specs.declared.Atom.{Atom}
use Rattle.ax_prog.specs.declared.Pexpr.{Pexpr}
use Rattle.ax_prog.specs.declared.Pexpr.TheVariants as p
use Rattle.ax_prog.specs.declared.Arg.{Arg}
use Rattle.ax_prog.specs.declared.Value.{Value}
use Rattle.ax_prog.specs.declared.Value.TheVariants as value
use Rattle.ax_parse_grammar.specs.declared.tree.Expr.{Expr, Name, Number, Unary', Binary', Cond', Index', Member', Arrow', Call'}
use Rattle.ax_parse_grammar.specs.Trees.{span_of}
use Rattle.ax_names_types.specs.declared.Typed.{Typed}
use Rattle.ax_names_types.specs.declared.Typed.TheVariants as t
use Rattle.ax_names_types.specs.declared.TypeKind.TheVariants.{WrongType}
use Rattle.ax_names_types.specs.declared.TypeFault.{TypeFault}
use Rattle.ax_names_types.specs.Faults.{fault}
use Rattle.ax_names_types.specs.Scopes.{Env}
use Rattle.ax_names_types.specs.Types.{value_of, is_zero}
use Rattle.ax_names_types.specs.Meaning.{Means, Is}
use Rattle.ax_names_types.specs.Verdicts.{same_ty, verdict_of}
use Rattle.ax_names_types.proofs.Equality.{same_is, same_itself}
use Rattle.ax_names_types.proofs.Sound.{Judged, judged}
use Rattle.ax_names_types.proofs.Meant.{means_verdict}
use Rattle.ax_names_types.proofs.Broken.{Faulty, breaks_verdict}
use Rattle.ax_names_types.proofs.Exact.{one}
use Rattle.ax_names_rules.specs.declared.State.{State}
use Rattle.ax_names_rules.specs.States.{here, next_slot, with_slot}
use Rattle.ax_names_rules.specs.Values.{IsNumber, IsPointer, Offers, Arguments}
use Rattle.ax_names_rules.specs.ValueFaults.{Suits, BreaksValue, BreaksArguments}
use Rattle.ax_names_rules.specs.ValueWalk.{Made, number_for, pointer_for, suited, value_for, args_of}
use Rattle.ax_names_rules.proofs.Steps.{choose, bind_judged, bind_is, bind_faulty, bind_behind, ok_same, ok_is_err}
use denote.Hole.Carrier

-- ---- each definition at a pointer

number_for-Ptr : (u : Ty) (at : Span) (zero : Bool) (st : State) (a : Expr) (x : ex.Expr) (atoms : List (Atom × Span)) → number_for (ty.Ptr u) at zero st a x atoms ≡ (if zero then Ok (value.Ptr p.Null, st) else Err (fault WrongType at))
unfolding shape-the_row-Ty-0 hidden-the_row-Ty-0 Carrier.hidden
number_for-Ptr u at zero st a x atoms = refl

pointer_for-Ptr : (u : Ty) (at : Span) (st : State) (v : Ty) (q : Pexpr) → pointer_for (ty.Ptr u) at st v q ≡ (if same_ty u v then Ok (value.Ptr q, st) else Err (fault WrongType at))
unfolding shape-the_row-Ty-0 hidden-the_row-Ty-0 Carrier.hidden
pointer_for-Ptr u at st v q = refl

null_for : (u : Ty) (at : Span) (zero : Bool) (st : State) (a : Expr) (x : ex.Expr) (atoms : List (Atom × Span)) → zero ≡ true → number_for (ty.Ptr u) at zero st a x atoms ≡ Ok (value.Ptr p.Null, st)
null_for u at zero st a x atoms h = number_for-Ptr u at zero st a x atoms ∙ rw h refl

same_for : (u : Ty) (at : Span) (st : State) (q : Pexpr) → pointer_for (ty.Ptr u) at st u q ≡ Ok (value.Ptr q, st)
same_for u at st q = pointer_for-Ptr u at st u q ∙ rw (same_itself u) refl

-- the literal 0 is a number
zero_verdict : (env : Env) (a : Expr) → is_zero a ≡ true → (n : ℤ) × (verdict_of env a ≡ Ok (t.Int (e.Num n) []))
zero_verdict env (Number at n) h = (n, refl)
zero_verdict env (Name at x) h = cc
zero_verdict env (Unary' at op sh r) h = cc
zero_verdict env (Binary' at op sh r sh2 r2) h = cc
zero_verdict env (Cond' at sh r sh2 r2 sh3 r3) h = cc
zero_verdict env (Index' at sh r sh2 r2) h = cc
zero_verdict env (Member' at sh r x) h = cc
zero_verdict env (Arrow' at sh r x) h = cc
zero_verdict env (Call' at sh r sh2 r2) h = cc

-- ---- a value is what the rules say

number_value : (at : Span) (st : State) (a : Expr) (x : ex.Expr) (atoms : List (Atom × Span)) → IsNumber st a x atoms → value_for ty.Int at st a ≡ Ok (value.Int (next_slot st), with_slot st a x atoms)
number_value at st a _ _ (IsNumber.number {m = m} x atoms d h) = bind_is _ _ m _ (means_verdict (here st) a m d) (ap (suited ty.Int at st a) h)

pointer_value : (at : Span) (st : State) (a : Expr) (u : Ty) (q : Pexpr) → IsPointer st a u q → value_for (ty.Ptr u) at st a ≡ Ok (value.Ptr q, st)
pointer_value at st a _ _ (IsPointer.pointer {m = m} u q d h) = bind_is _ _ m _ (means_verdict (here st) a m d) (ap (suited (ty.Ptr u) at st a) h ∙ same_for u at st q)
pointer_value at st _ _ _ (IsPointer.null {u = u} a z) = let o = zero_verdict (here st) a z in bind_is _ _ (t.Int (e.Num o.0) []) _ o.1 (null_for u at (is_zero a) st a (e.Num o.0) [] z)

pub value_is : (u : Ty) (at : Span) (st : State) (a : Expr) (v : Value) (st2 : State) → Offers st u a v st2 → value_for u at st a ≡ Ok (v, st2)
value_is _ at st a _ _ (Offers.number x atoms d) = number_value at st a x atoms d
value_is _ at st a _ _ (Offers.pointer u q d) = pointer_value at st a u q d

-- ---- what suits a type

abbrev Suit : Ty → Span → State → Expr → Made Value → Type 0
Suit u at st a (Ok r) = Offers st u a r.0 r.1
Suit u at st a (Err f) = f ≡ fault WrongType at

suit : (u : Ty) (at : Span) (st : State) (a : Expr) (m w : Typed) → Means (here st) a m → Is a m w → Suit u at st a (suited u at st a w)
unfolding shape-the_row-Ty-0 hidden-the_row-Ty-0 Carrier.hidden
suit ty.Int at st a m (t.Int x atoms) d h = Offers.number x atoms (IsNumber.number x atoms d h)
suit (Ptr' s (more_of-Ty v end_of-Ty)) at st a m (t.Int x atoms) d h =
    choose (Suit (Ptr' s (more_of-Ty v end_of-Ty)) at st a) (is_zero a) (Ok (value.Ptr p.Null, st)) (Err (fault WrongType at)) (λ z. Offers.pointer v p.Null (IsPointer.null a z)) (λ z. refl)
suit (Array' s row n) at st a m (t.Int x atoms) d h = refl
suit (ty.Struct k) at st a m (t.Int x atoms) d h = refl
suit ty.Int at st a m (t.Ptr u q) d h = refl
suit (Ptr' s (more_of-Ty v end_of-Ty)) at st a m (t.Ptr u q) d h =
    choose (Suit (Ptr' s (more_of-Ty v end_of-Ty)) at st a) (same_ty v u) (Ok (value.Ptr q, st)) (Err (fault WrongType at)) (λ z. Offers.pointer v q (IsPointer.pointer v q d (subst (λ (w : Ty). Is a m (t.Ptr w q)) (sym (same_is v u z)) h))) (λ z. refl)
suit (Array' s row n) at st a m (t.Ptr u q) d h = refl
suit (ty.Struct k) at st a m (t.Ptr u q) d h = refl
suit u at st a m (t.Place v l) d h = refl

suits_value : (u : Ty) (at : Span) (st : State) (a : Expr) (m : Typed) → Means (here st) a m → Suits a m u → (r : Value × State) × (suited u at st a (value_of (span_of a) m) ≡ Ok r)
suits_value _ at st a m d (Suits.number x atoms h) = ((value.Int (next_slot st), with_slot st a x atoms), ap (suited ty.Int at st a) h)
suits_value _ at st a m d (Suits.pointer u q h) = ((value.Ptr q, st), ap (suited (ty.Ptr u) at st a) h ∙ same_for u at st q)
suits_value _ at st a m d (Suits.null u z) =
    let o = zero_verdict (here st) a z in
    let same = ok_same m (t.Int (e.Num o.0) []) (verdict_of (here st) a) (means_verdict (here st) a m d) o.1 in
    ((value.Ptr p.Null, st), ap (λ m. suited (ty.Ptr u) at st a (value_of (span_of a) m)) same ∙ null_for u at (is_zero a) st a (e.Num o.0) [] z)

number_suits : (st : State) (a : Expr) (m : Typed) (x : ex.Expr) (atoms : List (Atom × Span)) → Means (here st) a m → IsNumber st a x atoms → Suits a m ty.Int
number_suits st a m _ _ dm (IsNumber.number {m = n} x atoms d h) = Suits.number x atoms (subst (λ (m : Typed). Is a m (t.Int x atoms)) (one (here st) a n m d dm) h)

pointer_suits : (st : State) (a : Expr) (m : Typed) (u : Ty) (q : Pexpr) → Means (here st) a m → IsPointer st a u q → Suits a m (ty.Ptr u)
pointer_suits st a m _ _ dm (IsPointer.pointer {m = n} u q d h) = Suits.pointer u q (subst (λ (m : Typed). Is a m (t.Ptr u q)) (one (here st) a n m d dm) h)
pointer_suits st _ m _ _ dm (IsPointer.null {u = u} a z) = Suits.null u z

offer_suits : (u : Ty) (st : State) (a : Expr) (m : Typed) (v : Value) (st2 : State) → Means (here st) a m → Offers st u a v st2 → Suits a m u
offer_suits _ st a m _ _ dm (Offers.number x atoms d) = number_suits st a m x atoms dm d
offer_suits _ st a m _ _ dm (Offers.pointer u q d) = pointer_suits st a m u q dm d

-- ---- the verdict on a value

abbrev pub JudgedValue : Ty → Span → State → Expr → Made Value → Type 0
JudgedValue u at st a (Ok r) = Offers st u a r.0 r.1
JudgedValue u at st a (Err f) = BreaksValue st u at a f

value_at : (u : Ty) (at : Span) (st : State) (a : Expr) (m : Typed) (v : Made Value) → Means (here st) a m → suited u at st a (value_of (span_of a) m) ≡ v → Suit u at st a v → JudgedValue u at st a v
value_at u at st a m (Ok r) d h s = s
value_at u at st a m (Err f) d h s = subst (λ (f : TypeFault). BreaksValue st u at a f) (sym s) (BreaksValue.unlike d (λ k. let p = suits_value u at st a m d k in ok_is_err (suited u at st a (value_of (span_of a) m)) p.0 f p.1 h))

pub value_judged : (u : Ty) (at : Span) (st : State) (a : Expr) → JudgedValue u at st a (value_for u at st a)
value_judged u at st a =
    bind_judged (Judged (here st) a) (JudgedValue u at st a) (λ m. suited u at st a (value_of (span_of a) m)) (verdict_of (here st) a) (judged (here st) a)
    (λ m d. value_at u at st a m (suited u at st a (value_of (span_of a) m)) d refl (suit u at st a m (value_of (span_of a) m) d refl))
    (λ f d. BreaksValue.within d)

unsuited : (u : Ty) (at : Span) (st : State) (a : Expr) (m : Typed) (v : Made Value) → Means (here st) a m → Suit u at st a v → (Suits a m u → ⊥) → Faulty v (fault WrongType at)
unsuited u at st a m (Ok r) d s k = absurd (k (offer_suits u st a m r.0 r.1 d s))
unsuited u at st a m (Err f) d s k = (f, refl, rw s (omega arith))

pub value_breaks : (u : Ty) (at : Span) (st : State) (a : Expr) (g : TypeFault) → BreaksValue st u at a g → Faulty (value_for u at st a) g
value_breaks u at st a g (BreaksValue.within d) = bind_faulty _ _ g (breaks_verdict (here st) a g d)
value_breaks u at st a g (BreaksValue.unlike {m = m} d k) =
    bind_behind _ _ m g (means_verdict (here st) a m d) (unsuited u at st a m (suited u at st a (value_of (span_of a) m)) d (suit u at st a m (value_of (span_of a) m) d refl) k)

-- ---- arguments

abbrev pub JudgedArgs : List Ty → List Expr → State → Made (List Arg) → Type 0
JudgedArgs us xs st (Ok r) = Arguments st us xs r.0 r.1
JudgedArgs us xs st (Err f) = BreaksArguments st us xs f

pub args_judged : (us : List Ty) (xs : List Expr) (st : State) → length xs ≡ length us → JudgedArgs us xs st (args_of us xs st)
args_judged [] [] st h = Arguments.none
args_judged [] (a ∷ rest) st h = cc
args_judged (u ∷ us) [] st h = cc
args_judged (u ∷ us) (a ∷ rest) st h =
    bind_judged (JudgedValue u (span_of a) st a) (JudgedArgs (u ∷ us) (a ∷ rest) st) _ (value_for u (span_of a) st a) (value_judged u (span_of a) st a)
    (λ v d. bind_judged (JudgedArgs us rest v.1) (JudgedArgs (u ∷ us) (a ∷ rest) st) _ (args_of us rest v.1) (args_judged us rest v.1 (omega (arith, h))) (λ r b. Arguments.more v.0 d b) (λ f b. BreaksArguments.behind v.0 d b))
    (λ f d. BreaksArguments.this d)

pub args_are : (us : List Ty) (xs : List Expr) (st : State) (args : List Arg) (st2 : State) → Arguments st us xs args st2 → args_of us xs st ≡ Ok (args, st2)
args_are _ _ st _ _ Arguments.none = refl
args_are _ _ st _ st3 (Arguments.more {st2 = st2} {u = u} {us = us} {a = a} {rest = rest} {args = args} v d b) =
    bind_is _ _ (v, st2) _ (value_is u (span_of a) st a v st2 d) (bind_is _ _ (args, st3) _ (args_are us rest st2 args st3 b) refl)

pub args_count : (us : List Ty) (xs : List Expr) (st : State) (args : List Arg) (st2 : State) → Arguments st us xs args st2 → length xs ≡ length us
args_count _ _ st _ _ Arguments.none = refl
args_count _ _ st _ st3 (Arguments.more {st2 = st2} {us = us} {rest = rest} {args = args} v d b) = let h = args_count us rest st2 args st3 b in omega (arith, h)

pub args_break : (us : List Ty) (xs : List Expr) (st : State) (g : TypeFault) → BreaksArguments st us xs g → Faulty (args_of us xs st) g
args_break _ _ st g (BreaksArguments.this {u = u} {a = a} d) = bind_faulty _ _ g (value_breaks u (span_of a) st a g d)
args_break _ _ st g (BreaksArguments.behind {st2 = st2} {u = u} {us = us} {a = a} {rest = rest} v d b) =
    bind_behind _ _ (v, st2) g (value_is u (span_of a) st a v st2 d) (bind_faulty _ _ g (args_break us rest st2 g b))
