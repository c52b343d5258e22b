-- Simple statements, and the parts of heads of loops: what the functions give is what the rules say.
use Rattle.std.proofs.Common.{◌≡◌, ℕ, Bool, true, List, Option, Some, None, Ok, Err, refl, sym, subst, inl, inr, ◌⊎◌}
use Rattle.ax_prog.specs.declared.Span.{Span}
use Rattle.ax_prog.specs.declared.Ty.{Ty, Ptr', Array', more_of-Ty, end_of-Ty}
use Rattle.ax_prog.specs.declared.Ty.TheVariants as ty
use Rattle.ax_prog.specs.declared.Ty.TheBlock.{shape-the_row-Ty-0, hidden-the_row-Ty-0}
use Rattle.ax_prog.specs.declared.Bin.{Bin}
use Rattle.ax_prog.specs.declared.Bin.TheVariants as bin
use Rattle.ax_prog.specs.declared.SlotId.{SlotId}
use Rattle.ax_prog.specs.declared.Lval.{Lval}
use Rattle.ax_prog.specs.declared.Value.{Value}
use Rattle.ax_prog.specs.declared.Stmt as ps
use Rattle.ax_parse_grammar.specs.declared.tree.Expr.{Expr}
use Rattle.ax_parse_grammar.specs.declared.tree.Decl.{Decl}
use Rattle.ax_parse_grammar.specs.declared.tree.Simple.{Simple}
use Rattle.ax_parse_grammar.specs.declared.tree.Simple.TheVariants as act
use Rattle.ax_parse_grammar.specs.declared.tree.Opening.{Opening}
use Rattle.ax_parse_grammar.specs.declared.tree.Opening.TheVariants as opening
use Rattle.ax_parse_grammar.specs.Trees.{span_of}
use Rattle.ax_names_types.specs.declared.TypeKind.TheVariants.{WrongType}
use Rattle.ax_names_types.specs.declared.TypeFault.{TypeFault}
use Rattle.ax_names_types.specs.Faults.{fault, Verdict}
use Rattle.ax_names_types.proofs.Sound.{clash}
use Rattle.ax_names_types.proofs.Broken.{Faulty}
use Rattle.ax_names_rules.specs.declared.State.{State}
use Rattle.ax_names_rules.specs.States.{next_slot, with_slot, depth}
use Rattle.ax_names_rules.specs.Values.{IsTarget}
use Rattle.ax_names_rules.specs.Statements.{IsChangedBy, Does, Opens, Tests, Steps, Returns}
use Rattle.ax_names_rules.specs.ValueFaults.{BreaksTarget}
use Rattle.ax_names_rules.specs.StatementFaults.{BreaksSimple, BreaksOpening, BreaksTest, BreaksStep, BreaksReturn}
use Rattle.ax_names_rules.specs.ValueWalk.{◌>>=◌, Made, call_of, given_for, target_of}
use Rattle.ax_names_rules.specs.StatementWalk.{vars_of, is_changed_by, changed_by, simple_of, opening_of, test_of, step_of, return_of}
use Rattle.ax_names_rules.proofs.Steps.{choose, false_or_true, bind_judged, bind_is, bind_faulty, bind_behind, fault_is}
use Rattle.ax_names_rules.proofs.Numbers.{slot_judged, slot_is, slot_breaks}
use Rattle.ax_names_rules.proofs.Called.{JudgedCall, call_judged, call_is, call_breaks, JudgedGiven, given_judged, given_is, given_breaks, JudgedTarget, target_judged, target_is, target_breaks}
use Rattle.ax_names_rules.proofs.Variables.{JudgedVars, vars_judged, vars_are, vars_break}
use denote.Hole.Carrier

-- ---- what compound assignments change

changed_is : (op : Bin) (u : Ty) → is_changed_by op u ≡ true → IsChangedBy op u
unfolding shape-the_row-Ty-0 hidden-the_row-Ty-0 Carrier.hidden
changed_is op ty.Int h = IsChangedBy.number
changed_is bin.Add (Ptr' s (more_of-Ty v end_of-Ty)) h = IsChangedBy.further v
changed_is bin.Sub (Ptr' s (more_of-Ty v end_of-Ty)) h = IsChangedBy.back v
changed_is _ (Ptr' s row) h = cc
changed_is op (Array' s row n) h = cc
changed_is op (ty.Struct k) h = cc

it_changes : (op : Bin) (u : Ty) → IsChangedBy op u → is_changed_by op u ≡ true
unfolding shape-the_row-Ty-0 hidden-the_row-Ty-0 Carrier.hidden
it_changes op _ IsChangedBy.number = refl
it_changes _ _ (IsChangedBy.further u) = refl
it_changes _ _ (IsChangedBy.back u) = refl

abbrev JudgedChanged : State → Expr → Bin → Verdict Lval → Type 0
JudgedChanged st a op (Ok l) = (u : Ty) × IsTarget st a u l × IsChangedBy op u
JudgedChanged st a op (Err f) = BreaksTarget st a f ⊎ ((u : Ty) × (l : Lval) × IsTarget st a u l × (IsChangedBy op u → ⊥) × (f ≡ fault WrongType (span_of a)))

changed_judged : (st : State) (a : Expr) (op : Bin) → JudgedChanged st a op (target_of st a >>= changed_by op (span_of a))
changed_judged st a op =
    bind_judged (JudgedTarget st a) (JudgedChanged st a op) (changed_by op (span_of a)) (target_of st a) (target_judged st a)
    (λ l t. choose (JudgedChanged st a op) (is_changed_by op l.0) (Ok l.1) (Err (fault WrongType (span_of a))) (λ z. (l.0, t, changed_is op l.0 z)) (λ z. inr (l.0, l.1, t, (λ c. clash (is_changed_by op l.0) (it_changes op l.0 c) z), refl)))
    (λ f d. inl d)

changed_at : (st : State) (a : Expr) (op : Bin) (u : Ty) (l : Lval) → IsTarget st a u l → IsChangedBy op u → (target_of st a >>= changed_by op (span_of a)) ≡ Ok l
changed_at st a op u l t c = bind_is _ _ (u, l) _ (target_is st a u l t) (rw (it_changes op u c) refl)

changed_breaks : (st : State) (a : Expr) (op : Bin) (u : Ty) (l : Lval) → IsTarget st a u l → (IsChangedBy op u → ⊥) → Faulty (target_of st a >>= changed_by op (span_of a)) (fault WrongType (span_of a))
changed_breaks st a op u l t k =
    bind_behind _ _ (u, l) (fault WrongType (span_of a)) (target_is st a u l t) (fault_is (changed_by op (span_of a) (u, l)) (fault WrongType (span_of a)) (rw (false_or_true (is_changed_by op u) (λ z. k (changed_is op u z))) refl))

-- ---- simple statements

abbrev pub JudgedSimple : List (List ℕ) → State → Simple → Made ps.Stmt → Type 0
JudgedSimple defs st x (Ok r) = Does defs st x r.0 r.1
JudgedSimple defs st x (Err f) = BreaksSimple defs st x f

no_change : (defs : List (List ℕ)) (st : State) (at : Span) (a b : Expr) (op : Bin) (f : TypeFault) → JudgedChanged st a op (Err f) → BreaksSimple defs st (act.Change at a op b) f
no_change defs st at a b op f (inl d) = BreaksSimple.changed b d
no_change defs st at a b op f (inr d) = subst (λ (f : TypeFault). BreaksSimple defs st (act.Change at a op b) f) (sym d.4) (BreaksSimple.changed_kind b d.0 d.1 d.2 d.3)

no_step : (defs : List (List ℕ)) (st : State) (at : Span) (a : Expr) (up : Bool) (f : TypeFault) → JudgedChanged st a bin.Add (Err f) → BreaksSimple defs st (act.Step at a up) f
no_step defs st at a up f (inl d) = BreaksSimple.stepped d
no_step defs st at a up f (inr d) = subst (λ (f : TypeFault). BreaksSimple defs st (act.Step at a up) f) (sym d.4) (BreaksSimple.stepped_kind d.0 d.1 d.2 d.3)

pub simple_judged : (defs : List (List ℕ)) (x : Simple) (st : State) → JudgedSimple defs st x (simple_of defs x st)
simple_judged defs (act.Assign at a b) st =
    bind_judged (JudgedTarget st a) (JudgedSimple defs st (act.Assign at a b)) _ (target_of st a) (target_judged st a)
    (λ l t. bind_judged (JudgedGiven defs l.0 at st b) (JudgedSimple defs st (act.Assign at a b)) _ (given_for defs l.0 at st b) (given_judged defs l.0 at st b) (λ r d. Does.assign l.0 l.1 t d) (λ f d. BreaksSimple.given l.0 l.1 t d))
    (λ f d. BreaksSimple.target b d)
simple_judged defs (act.Change at a op b) st =
    bind_judged (JudgedChanged st a op) (JudgedSimple defs st (act.Change at a op b)) _ (target_of st a >>= changed_by op (span_of a)) (changed_judged st a op)
    (λ l c. slot_judged (JudgedSimple defs st (act.Change at a op b)) _ st b (λ x atoms n. Does.change c.0 l x atoms c.1 c.2 n) (λ f d. BreaksSimple.change c.0 l c.1 c.2 d))
    (λ f d. no_change defs st at a b op f d)
simple_judged defs (act.Step at a up) st =
    bind_judged (JudgedChanged st a bin.Add) (JudgedSimple defs st (act.Step at a up)) _ (target_of st a >>= changed_by bin.Add (span_of a)) (changed_judged st a bin.Add)
    (λ l c. Does.step c.0 l c.1 c.2) (λ f d. no_step defs st at a up f d)
simple_judged defs (act.Call at a) st = bind_judged (JudgedCall defs st a) (JudgedSimple defs st (act.Call at a)) _ (call_of defs st a) (call_judged defs st a) (λ c d. Does.call d) (λ f d. BreaksSimple.call d)

pub simple_is : (defs : List (List ℕ)) (x : Simple) (st : State) (b : ps.Stmt) (st2 : State) → Does defs st x b st2 → simple_of defs x st ≡ Ok (b, st2)
simple_is defs _ st _ st2 (Does.assign {at = at} {a = a} {b = b} {v = v} u l t d) = bind_is _ _ (u, l) _ (target_is st a u l t) (bind_is _ _ (v, st2) _ (given_is defs u at st b v st2 d) refl)
simple_is defs _ st _ _ (Does.change {at = at} {a = a} {b = b} {op = op} u l x atoms t c n) = bind_is _ _ l _ (changed_at st a op u l t c) (bind_is _ _ (next_slot st, with_slot st b x atoms) _ (slot_is st b x atoms n) refl)
simple_is defs _ st _ _ (Does.step {a = a} u l t c) = bind_is _ _ l _ (changed_at st a bin.Add u l t c) refl
simple_is defs _ st _ st2 (Does.call {a = a} {r = r} {j = j} {args = args} d) = bind_is _ _ ((r, (j, args)), st2) _ (call_is defs st a r j args st2 d) refl

pub simple_breaks : (defs : List (List ℕ)) (x : Simple) (st : State) (g : TypeFault) → BreaksSimple defs st x g → Faulty (simple_of defs x st) g
simple_breaks defs _ st g (BreaksSimple.target {a = a} b d) = bind_faulty _ _ g (target_breaks st a g d)
simple_breaks defs _ st g (BreaksSimple.given {at = at} {a = a} {b = b} u l t d) = bind_behind _ _ (u, l) g (target_is st a u l t) (bind_faulty _ _ g (given_breaks defs u at st b g d))
simple_breaks defs _ st g (BreaksSimple.changed {a = a} {op = op} b d) = bind_faulty _ _ g (bind_faulty (changed_by op (span_of a)) (target_of st a) g (target_breaks st a g d))
simple_breaks defs _ st _ (BreaksSimple.changed_kind {a = a} {op = op} b u l t k) = bind_faulty _ _ (fault WrongType (span_of a)) (changed_breaks st a op u l t k)
simple_breaks defs _ st g (BreaksSimple.change {a = a} {b = b} {op = op} u l t c d) = bind_behind _ _ l g (changed_at st a op u l t c) (bind_faulty _ _ g (slot_breaks st b g d))
simple_breaks defs _ st g (BreaksSimple.stepped {a = a} d) = bind_faulty _ _ g (bind_faulty (changed_by bin.Add (span_of a)) (target_of st a) g (target_breaks st a g d))
simple_breaks defs _ st _ (BreaksSimple.stepped_kind {a = a} u l t k) = bind_faulty _ _ (fault WrongType (span_of a)) (changed_breaks st a bin.Add u l t k)
simple_breaks defs _ st g (BreaksSimple.call {a = a} d) = bind_faulty _ _ g (call_breaks defs st a g d)

-- ---- how a `for` begins

abbrev pub JudgedOpening : List (List ℕ) → State → Opening → Made (List ps.Stmt) → Type 0
JudgedOpening defs st o (Ok r) = Opens defs st o r.0 r.1
JudgedOpening defs st o (Err f) = BreaksOpening defs st o f

opening_by : (defs : List (List ℕ)) (st : State) (d : Decl) (v : Made (List ps.Stmt)) → JudgedVars defs (depth st) d.base d.items st v → JudgedOpening defs st (opening.Decl d) v
opening_by defs st d (Ok r) b = Opens.decl b
opening_by defs st d (Err f) b = BreaksOpening.decl b

pub opening_judged : (defs : List (List ℕ)) (o : Opening) (st : State) → JudgedOpening defs st o (opening_of defs o st)
opening_judged defs opening.Nothing st = Opens.nothing
opening_judged defs (opening.Simple x) st = bind_judged (JudgedSimple defs st x) (JudgedOpening defs st (opening.Simple x)) _ (simple_of defs x st) (simple_judged defs x st) (λ r d. Opens.simple d) (λ f d. BreaksOpening.simple d)
opening_judged defs (opening.Decl d) st = opening_by defs st d (vars_of defs (depth st) d.base d.items st) (vars_judged defs (depth st) d.base d.items st)

pub opening_is : (defs : List (List ℕ)) (o : Opening) (st : State) (bs : List ps.Stmt) (st2 : State) → Opens defs st o bs st2 → opening_of defs o st ≡ Ok (bs, st2)
opening_is defs _ st _ _ Opens.nothing = refl
opening_is defs _ st _ st2 (Opens.simple {x = x} {b = b} d) = bind_is _ _ (b, st2) _ (simple_is defs x st b st2 d) refl
opening_is defs _ st bs st2 (Opens.decl {d = d} b) = vars_are defs (depth st) d.base d.items st bs st2 b

pub opening_breaks : (defs : List (List ℕ)) (o : Opening) (st : State) (g : TypeFault) → BreaksOpening defs st o g → Faulty (opening_of defs o st) g
opening_breaks defs _ st g (BreaksOpening.simple {x = x} d) = bind_faulty _ _ g (simple_breaks defs x st g d)
opening_breaks defs _ st g (BreaksOpening.decl {d = d} b) = vars_break defs (depth st) d.base d.items st g b

-- ---- its condition and its last part

abbrev pub JudgedTest : State → Option Expr → Made (Option SlotId) → Type 0
JudgedTest st c (Ok r) = Tests st c r.0 r.1
JudgedTest st c (Err f) = BreaksTest st c f

pub test_judged : (c : Option Expr) (st : State) → JudgedTest st c (test_of c st)
test_judged None st = Tests.none
test_judged (Some a) st = slot_judged (JudgedTest st (Some a)) _ st a (λ x atoms n. Tests.number x atoms n) (λ f d. BreaksTest.number d)

pub test_is : (c : Option Expr) (st : State) (id : Option SlotId) (st2 : State) → Tests st c id st2 → test_of c st ≡ Ok (id, st2)
test_is _ st _ _ Tests.none = refl
test_is _ st _ _ (Tests.number {a = a} x atoms n) = bind_is _ _ (next_slot st, with_slot st a x atoms) _ (slot_is st a x atoms n) refl

pub test_breaks : (c : Option Expr) (st : State) (g : TypeFault) → BreaksTest st c g → Faulty (test_of c st) g
test_breaks _ st g (BreaksTest.number {a = a} d) = bind_faulty _ _ g (slot_breaks st a g d)

abbrev pub JudgedStep : List (List ℕ) → State → Option Simple → Made (Option ps.Stmt) → Type 0
JudgedStep defs st x (Ok r) = Steps defs st x r.0 r.1
JudgedStep defs st x (Err f) = BreaksStep defs st x f

pub step_judged : (defs : List (List ℕ)) (x : Option Simple) (st : State) → JudgedStep defs st x (step_of defs x st)
step_judged defs None st = Steps.none
step_judged defs (Some x) st = bind_judged (JudgedSimple defs st x) (JudgedStep defs st (Some x)) _ (simple_of defs x st) (simple_judged defs x st) (λ r d. Steps.simple d) (λ f d. BreaksStep.simple d)

pub step_is : (defs : List (List ℕ)) (x : Option Simple) (st : State) (y : Option ps.Stmt) (st2 : State) → Steps defs st x y st2 → step_of defs x st ≡ Ok (y, st2)
step_is defs _ st _ _ Steps.none = refl
step_is defs _ st _ st2 (Steps.simple {x = x} {b = b} d) = bind_is _ _ (b, st2) _ (simple_is defs x st b st2 d) refl

pub step_breaks : (defs : List (List ℕ)) (x : Option Simple) (st : State) (g : TypeFault) → BreaksStep defs st x g → Faulty (step_of defs x st) g
step_breaks defs _ st g (BreaksStep.simple {x = x} d) = bind_faulty _ _ g (simple_breaks defs x st g d)

-- ---- returns

abbrev pub JudgedReturn : List (List ℕ) → Option Ty → Span → State → Option Expr → Made (Option Value) → Type 0
JudgedReturn defs result at st a (Ok r) = Returns defs st result a r.0 r.1
JudgedReturn defs result at st a (Err f) = BreaksReturn defs st at result a f

pub return_judged : (defs : List (List ℕ)) (result : Option Ty) (at : Span) (a : Option Expr) (st : State) → JudgedReturn defs result at st a (return_of defs result at a st)
return_judged defs None at None st = Returns.none
return_judged defs None at (Some a) st = BreaksReturn.void
return_judged defs (Some u) at None st = BreaksReturn.missing
return_judged defs (Some u) at (Some a) st = bind_judged (JudgedGiven defs u at st a) (JudgedReturn defs (Some u) at st (Some a)) _ (given_for defs u at st a) (given_judged defs u at st a) (λ r d. Returns.value d) (λ f d. BreaksReturn.given d)

pub return_is : (defs : List (List ℕ)) (result : Option Ty) (at : Span) (a : Option Expr) (st : State) (v : Option Value) (st2 : State) → Returns defs st result a v st2 → return_of defs result at a st ≡ Ok (v, st2)
return_is defs _ at _ st _ _ Returns.none = refl
return_is defs _ at _ st _ st2 (Returns.value {u = u} {a = a} {v = v} d) = bind_is _ _ (v, st2) _ (given_is defs u at st a v st2 d) refl

pub return_breaks : (defs : List (List ℕ)) (result : Option Ty) (at : Span) (a : Option Expr) (st : State) (g : TypeFault) → BreaksReturn defs st at result a g → Faulty (return_of defs result at a st) g
return_breaks defs _ at _ st _ BreaksReturn.missing = fault_is _ _ refl
return_breaks defs _ at _ st _ BreaksReturn.void = fault_is _ _ refl
return_breaks defs _ at _ st g (BreaksReturn.given {u = u} {a = a} d) = bind_faulty _ _ g (given_breaks defs u at st a g d)
