-- Simple statements, heads of `for`, and what is returned: what they add.
use Rattle.std.proofs.Common.{ℕ, List, [], ◌∷◌, Option, Some, None, refl}
use Rattle.std.specs.Option.{option_map}
use Rattle.ax_prog.specs.declared.Span.{Span}
use Rattle.ax_prog.specs.declared.Ty.{Ty}
use Rattle.ax_prog.specs.declared.Bin.{Bin}
use Rattle.ax_prog.specs.declared.SlotId.{SlotId}
use Rattle.ax_prog.specs.declared.Lval.{Lval}
use Rattle.ax_prog.specs.declared.Value.{Value}
use Rattle.ax_prog.specs.declared.Slot.{Slot}
use Rattle.ax_prog.specs.declared.Stmt as ps
use Rattle.ax_prog.specs.declared.Stmt.TheVariants as to
use Rattle.ax_parse_grammar.specs.declared.tree.Expr.{Expr}
use Rattle.ax_parse_grammar.specs.declared.tree.Simple.{Simple}
use Rattle.ax_parse_grammar.specs.declared.tree.Simple.TheVariants as act
use Rattle.ax_parse_grammar.specs.declared.tree.Opening.{Opening}
use Rattle.ax_parse_grammar.specs.declared.tree.Opening.TheVariants as opening
use Rattle.ax_names_rules.specs.declared.State.{State}
use Rattle.ax_names_rules.specs.States.{next_slot, with_slot, depth}
use Rattle.ax_names_rules.specs.Values.{IsTarget}
use Rattle.ax_names_rules.specs.Statements.{IsChangedBy, Does, Opens, Tests, Steps, Returns}
use Rattle.ax_print_holes.specs.Moved.{moved_span, moved_expr, moved_simple, moved_opening}
use Rattle.ax_print_holes.specs.Holes.{HoldsValue, HoldsSimple, HoldsOpening, put_simple, put_opening, put_value}
use Rattle.ax_print_fills.proofs.Grown.{grown_same}
use Rattle.ax_print_fills.proofs.Added.{over, Moving, Putting, Adds, nothing_added, added_as}
use Rattle.ax_print_fills.proofs.Numbers.{IsNext, number_adds, by_next, number_as}
use Rattle.ax_print_fills.proofs.Values.{target_moved, InCall, CallMoved, CallPut, call_adds, InValue, GivenMoved, GivenPut, given_adds}
use Rattle.ax_print_fills.proofs.Declared.{InVars, VarsMoved, VarsPut, vars_add}

abbrev pub InSimple : Simple → Expr → Type 0
InSimple x old = HoldsSimple old x

abbrev pub InOpening : Opening → Expr → Type 0
InOpening o old = HoldsOpening old o

-- the last part of a `for`'s head
pub data InStep : Option Simple → Expr → Type 0 where
  simple : {x : Simple} {old : Expr} → HoldsSimple old x → InStep (Some x) old

-- the condition of a `for`
pub data InTest : Option Expr → Expr → Type 0 where
  number : {old : Expr} → InTest (Some old) old

-- what is returned
pub data InReturn : Option Expr → Expr → Type 0 where
  value : {a old : Expr} → HoldsValue old a → InReturn (Some a) old

module _ (f : ℕ → ℕ) (new : Expr) where
  abbrev pub put_step : (x : Option Simple) (old : Expr) → InStep x old → Option Simple
  put_step _ _ (InStep.simple h) = Some (put_simple f new h)

  abbrev pub put_test : (c : Option Expr) (old : Expr) → InTest c old → Option Expr
  put_test _ _ InTest.number = Some new

  abbrev pub put_return : (a : Option Expr) (old : Expr) → InReturn a old → Option Expr
  put_return _ _ (InReturn.value h) = Some (put_value f new h)

module _ (defs : List (List ℕ)) where
  abbrev pub SimpleMoved : State → Simple → ps.Stmt → State → Moving
  SimpleMoved st x b st2 f s t = Does defs (over st s) (moved_simple f x) b (over st2 t)

  abbrev pub SimplePut : State → (x : Simple) → ps.Stmt → State → Putting (InSimple x)
  SimplePut st x b st2 f old h new s t = Does defs (over st s) (put_simple f new h) b (over st2 t)

  changed : (at : Span) (st : State) (a c : Expr) (op : Bin) (u : Ty) (l : Lval) (s t : List Slot) → IsTarget (over st s) a u l → IsChangedBy op u → IsNext st c s t → Does defs (over st s) (act.Change at a op c) (to.Change l op (next_slot st)) (over st t)
  changed at st a c op u l s t g k n = by_next st c s t (λ (id : SlotId) (w : State). Does defs (over st s) (act.Change at a op c) (to.Change l op id) w) n (λ x atoms n. Does.change u l x atoms g k n)

  pub simple_adds : (st : State) (x : Simple) (b : ps.Stmt) (st2 : State) → Does defs st x b st2 → Adds st st2 (SimpleMoved st x b st2) (InSimple x) (SimplePut st x b st2)
  simple_adds st _ _ st2 (Does.assign {at = at} {a = a} {b = b} {v = v} u l g d) =
      let x : Simple = act.Assign at a b in
      let made : ps.Stmt = to.Assign l v in
      added_as st st2 st st2 (GivenMoved defs st u b v st2) (SimpleMoved st x made st2) (InValue b) (InSimple x) (GivenPut defs st u b v st2) (SimplePut st x made st2) (given_adds defs st u b v st2 d) refl refl (grown_same st) (grown_same st2)
      (λ f s t e m. Does.assign u l (target_moved f st s a u l g) m) (λ old h. HoldsSimple.assign h) (λ f old h new s t e m. Does.assign u l (target_moved f st s a u l g) m)
  simple_adds st _ _ _ (Does.change {at = at} {a = a} {b = b} {op = op} u l x atoms g k n) =
      let y : Simple = act.Change at a op b in
      let made : ps.Stmt = to.Change l op (next_slot st) in
      let st2 : State = with_slot st b x atoms in
      number_as b (IsNext st) st st2 (SimpleMoved st y made st2) (InSimple y) (SimplePut st y made st2) (number_adds st b x atoms n)
      (λ f s t e q. changed (moved_span f at) st (moved_expr f a) (moved_expr f b) op u l s t (target_moved f st s a u l g) k q) HoldsSimple.change (λ f new s t e q. changed (moved_span f at) st (moved_expr f a) new op u l s t (target_moved f st s a u l g) k q)
  simple_adds st _ _ _ (Does.step {at = at} {a = a} {up = up} u l g k) =
      let x : Simple = act.Step at a up in
      nothing_added st (SimpleMoved st x (to.Bump l up) st) (InSimple x) (SimplePut st x (to.Bump l up) st) (λ f s e. Does.step u l (target_moved f st s a u l g) k)
  simple_adds st _ _ st2 (Does.call {at = at} {a = a} {r = r} {j = j} {args = args} d) =
      let x : Simple = act.Call at a in
      let made : ps.Stmt = to.Call j args in
      added_as st st2 st st2 (CallMoved defs st a r j args st2) (SimpleMoved st x made st2) (InCall a) (InSimple x) (CallPut defs st a r j args st2) (SimplePut st x made st2) (call_adds defs st a r j args st2 d) refl refl (grown_same st) (grown_same st2)
      (λ f s t e m. Does.call m) (λ old h. HoldsSimple.call h) (λ f old h new s t e m. Does.call m)

  -- ---- heads of `for`

  abbrev pub OpeningMoved : State → Opening → List ps.Stmt → State → Moving
  OpeningMoved st o bs st2 f s t = Opens defs (over st s) (moved_opening f o) bs (over st2 t)

  abbrev pub OpeningPut : State → (o : Opening) → List ps.Stmt → State → Putting (InOpening o)
  OpeningPut st o bs st2 f old h new s t = Opens defs (over st s) (put_opening f new h) bs (over st2 t)

  pub opening_adds : (st : State) (o : Opening) (bs : List ps.Stmt) (st2 : State) → Opens defs st o bs st2 → Adds st st2 (OpeningMoved st o bs st2) (InOpening o) (OpeningPut st o bs st2)
  opening_adds st _ _ _ Opens.nothing = nothing_added st (OpeningMoved st opening.Nothing [] st) (InOpening opening.Nothing) (OpeningPut st opening.Nothing [] st) (λ f s e. Opens.nothing)
  opening_adds st _ _ st2 (Opens.simple {x = x} {b = b} d) =
      let o : Opening = opening.Simple x in
      added_as st st2 st st2 (SimpleMoved st x b st2) (OpeningMoved st o (b ∷ []) st2) (InSimple x) (InOpening o) (SimplePut st x b st2) (OpeningPut st o (b ∷ []) st2) (simple_adds st x b st2 d) refl refl (grown_same st) (grown_same st2)
      (λ f s t e m. Opens.simple m) (λ old h. HoldsOpening.simple h) (λ f old h new s t e m. Opens.simple m)
  opening_adds st _ bs st2 (Opens.decl {d = d} b) =
      let o : Opening = opening.Decl d in
      added_as st st2 st st2 (VarsMoved defs (depth st) d.base st d.items bs st2) (OpeningMoved st o bs st2) (InVars d.items) (InOpening o) (VarsPut defs (depth st) d.base st d.items bs st2) (OpeningPut st o bs st2) (vars_add defs (depth st) d.base st d.items bs st2 b) refl refl (grown_same st) (grown_same st2)
      (λ f s t e m. Opens.decl m) (λ old h. HoldsOpening.decl h) (λ f old h new s t e m. Opens.decl m)

  abbrev pub TestMoved : State → Option Expr → Option SlotId → State → Moving
  TestMoved st c id st2 f s t = Tests (over st s) (option_map (moved_expr f) c) id (over st2 t)

  abbrev pub TestPut : State → (c : Option Expr) → Option SlotId → State → Putting (InTest c)
  TestPut st c id st2 f old h new s t = Tests (over st s) (put_test f new c old h) id (over st2 t)

  tested : (st : State) (a : Expr) (s t : List Slot) → IsNext st a s t → Tests (over st s) (Some a) (Some (next_slot st)) (over st t)
  tested st a s t n = by_next st a s t (λ (id : SlotId) (w : State). Tests (over st s) (Some a) (Some id) w) n (λ x atoms n. Tests.number x atoms n)

  pub test_adds : (st : State) (c : Option Expr) (id : Option SlotId) (st2 : State) → Tests st c id st2 → Adds st st2 (TestMoved st c id st2) (InTest c) (TestPut st c id st2)
  test_adds st _ _ _ Tests.none = nothing_added st (TestMoved st None None st) (InTest None) (TestPut st None None st) (λ f s e. Tests.none)
  test_adds st _ _ _ (Tests.number {a = a} x atoms n) =
      let st2 : State = with_slot st a x atoms in
      number_as a (IsNext st) st st2 (TestMoved st (Some a) (Some (next_slot st)) st2) (InTest (Some a)) (TestPut st (Some a) (Some (next_slot st)) st2) (number_adds st a x atoms n)
      (λ f s t e q. tested st (moved_expr f a) s t q) InTest.number (λ f new s t e q. tested st new s t q)

  abbrev pub StepMoved : State → Option Simple → Option ps.Stmt → State → Moving
  StepMoved st x y st2 f s t = Steps defs (over st s) (option_map (moved_simple f) x) y (over st2 t)

  abbrev pub StepPut : State → (x : Option Simple) → Option ps.Stmt → State → Putting (InStep x)
  StepPut st x y st2 f old h new s t = Steps defs (over st s) (put_step f new x old h) y (over st2 t)

  pub step_adds : (st : State) (x : Option Simple) (y : Option ps.Stmt) (st2 : State) → Steps defs st x y st2 → Adds st st2 (StepMoved st x y st2) (InStep x) (StepPut st x y st2)
  step_adds st _ _ _ Steps.none = nothing_added st (StepMoved st None None st) (InStep None) (StepPut st None None st) (λ f s e. Steps.none)
  step_adds st _ _ st2 (Steps.simple {x = x} {b = b} d) =
      added_as st st2 st st2 (SimpleMoved st x b st2) (StepMoved st (Some x) (Some b) st2) (InSimple x) (InStep (Some x)) (SimplePut st x b st2) (StepPut st (Some x) (Some b) st2) (simple_adds st x b st2 d) refl refl (grown_same st) (grown_same st2)
      (λ f s t e m. Steps.simple m) (λ old h. InStep.simple h) (λ f old h new s t e m. Steps.simple m)

  -- ---- what is returned

  abbrev pub ReturnMoved : State → Option Ty → Option Expr → Option Value → State → Moving
  ReturnMoved st r a v st2 f s t = Returns defs (over st s) r (option_map (moved_expr f) a) v (over st2 t)

  abbrev pub ReturnPut : State → Option Ty → (a : Option Expr) → Option Value → State → Putting (InReturn a)
  ReturnPut st r a v st2 f old h new s t = Returns defs (over st s) r (put_return f new a old h) v (over st2 t)

  pub return_adds : (st : State) (r : Option Ty) (a : Option Expr) (v : Option Value) (st2 : State) → Returns defs st r a v st2 → Adds st st2 (ReturnMoved st r a v st2) (InReturn a) (ReturnPut st r a v st2)
  return_adds st _ _ _ _ Returns.none = nothing_added st (ReturnMoved st None None None st) (InReturn None) (ReturnPut st None None None st) (λ f s e. Returns.none)
  return_adds st _ _ _ st2 (Returns.value {u = u} {a = a} {v = v} d) =
      added_as st st2 st st2 (GivenMoved defs st u a v st2) (ReturnMoved st (Some u) (Some a) (Some v) st2) (InValue a) (InReturn (Some a)) (GivenPut defs st u a v st2) (ReturnPut st (Some u) (Some a) (Some v) st2) (given_adds defs st u a v st2 d) refl refl (grown_same st) (grown_same st2)
      (λ f s t e m. Returns.value m) (λ old h. InReturn.value h) (λ f old h new s t e m. Returns.value m)
