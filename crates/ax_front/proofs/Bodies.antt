-- What becomes something in a program has no call inside an expression: declarations, statements and parts of a file.
use Rattle.std.proofs.Common.{◌≡◌, ℕ, ℤ, Bool, true, false, List, Option, None, refl, ◌∙◌}
use Rattle.ax_prog.specs.declared.Ty.{Ty}
use Rattle.ax_prog.specs.declared.SlotId.{SlotId}
use Rattle.ax_prog.specs.declared.Value.{Value}
use Rattle.ax_prog.specs.declared.Init.{Init}
use Rattle.ax_prog.specs.declared.Program.{Program}
use Rattle.ax_prog.specs.declared.Stmt as ps
use Rattle.ax_parse_grammar.specs.declared.tree.Prefix.TheVariants as pre
use Rattle.ax_parse_grammar.specs.declared.tree.Expr.{Expr}
use Rattle.ax_parse_grammar.specs.declared.tree.Expr.TheVariants as e
use Rattle.ax_parse_grammar.specs.declared.tree.Base.{Base}
use Rattle.ax_parse_grammar.specs.declared.tree.Initialiser.{Initialiser}
use Rattle.ax_parse_grammar.specs.declared.tree.Declared.{Declared}
use Rattle.ax_parse_grammar.specs.declared.tree.Simple.{Simple}
use Rattle.ax_parse_grammar.specs.declared.tree.Opening.{Opening}
use Rattle.ax_parse_grammar.specs.declared.tree.Stmt.{Stmt}
use Rattle.ax_parse_grammar.specs.declared.tree.Head.{Head}
use Rattle.ax_parse_grammar.specs.declared.tree.Part.{Part}
use Rattle.ax_parse_grammar.specs.declared.tree.Tree.{Tree}
use Rattle.ax_names_rules.specs.declared.State.{State}
use Rattle.ax_names_rules.specs.States.{with_slot, with_var, depth}
use Rattle.ax_names_rules.specs.Declarations.{Begins, BecomeVars, IsLiteral, BeginsGlobal, with_global, BecomeGlobals}
use Rattle.ax_names_rules.specs.Statements.{Does, Opens, Tests, Steps, Returns, Becomes, BecomeAll}
use Rattle.ax_names_rules.specs.Functions.{with_params, DefinesFunction}
use Rattle.ax_names_rules.specs.Programs.{definitions_of, start, BecomesPart, BecomeParts, IsProgramOf}
use Rattle.ax_parse_limits.specs.Calls.{◌or◌, first_of, maybe, first_call, inner_call, call_in_simple, call_in_initialiser, call_in_declared, call_in_decl, call_in_opening, call_in_stmt, call_in_part, call_inside}
use Rattle.ax_parse_limits.proofs.CallLayers.{first_call-Unary, call_in_stmt-Block, call_in_stmt-If, call_in_stmt-IfElse, call_in_stmt-While, call_in_stmt-Do, call_in_stmt-For}
use Rattle.ax_front.proofs.Outside.{neither, zero_is_plain, inner, number, target, called, given}

-- ---- globals

literal : (a : Expr) (n : ℤ) → IsLiteral a n → first_call a ≡ None
literal _ _ IsLiteral.plain = refl
literal _ _ (IsLiteral.negative {at = at} at2 n) = first_call-Unary at pre.Neg (e.Number at2 n)

global : (u : Ty) (i : Initialiser) (v : Init) → BeginsGlobal u i v → call_in_initialiser i ≡ None
global u _ _ BeginsGlobal.nothing = refl
global u _ _ (BeginsGlobal.number {a = a} {n = n} h l) = inner a (literal a n l)
global u _ _ (BeginsGlobal.null {a = a} v h z) = inner a (zero_is_plain a z)
global u _ _ (BeginsGlobal.list h) = refl

globals : (base : Base) (st : State) (ds : List Declared) (st2 : State) → BecomeGlobals base st ds st2 → first_of call_in_declared ds ≡ None
globals base st _ _ BecomeGlobals.none = refl
globals base st _ st2 (BecomeGlobals.more {d = d} {rest = rest} u v k b h) =
    neither (call_in_declared d) (first_of call_in_declared rest) (global u d.initialiser v b) (globals base (with_global st (d.declarator).name.text u v) rest st2 h)

module _ (defs : List (List ℕ)) where
  -- ---- variables

  begun : (st : State) (u : Ty) (i : Initialiser) (v : Init) (st2 : State) → Begins defs st u i v st2 → call_in_initialiser i ≡ None
  begun st u _ _ _ Begins.nothing = refl
  begun st u _ _ st2 (Begins.single {a = a} {v = v} d) = given defs st u a v st2 d
  begun st u _ _ _ (Begins.list h) = refl

  vars : (floor : ℕ) (base : Base) (st : State) (ds : List Declared) (bs : List ps.Stmt) (st2 : State) → BecomeVars defs floor base st ds bs st2 → first_of call_in_declared ds ≡ None
  vars floor base st _ _ _ BecomeVars.none = refl
  vars floor base st _ _ st3 (BecomeVars.more {st2 = st2} {d = d} {rest = rest} {bs = bs} u v k b h) =
      neither (call_in_declared d) (first_of call_in_declared rest) (begun (with_var st (d.declarator).name.text u) u d.initialiser v st2 b) (vars floor base st2 rest bs st3 h)

  -- ---- simple statements, and the head of a `for`

  simple : (st : State) (x : Simple) (b : ps.Stmt) (st2 : State) → Does defs st x b st2 → call_in_simple x ≡ None
  simple st _ _ st2 (Does.assign {a = a} {b = b} {v = v} u l g d) = neither (first_call a) (inner_call b) (target st a u l g) (given defs st u b v st2 d)
  simple st _ _ _ (Does.change {a = a} {b = b} u l x atoms g k n) = neither (first_call a) (first_call b) (target st a u l g) (number st b x atoms n)
  simple st _ _ _ (Does.step {a = a} u l g k) = target st a u l g
  simple st _ _ st2 (Does.call {a = a} {r = r} {j = j} {args = args} d) = called defs st a r j args st2 d

  opening : (st : State) (o : Opening) (bs : List ps.Stmt) (st2 : State) → Opens defs st o bs st2 → call_in_opening o ≡ None
  opening st _ _ _ Opens.nothing = refl
  opening st _ _ st2 (Opens.simple {x = x} {b = b} d) = simple st x b st2 d
  opening st _ bs st2 (Opens.decl {d = d} h) = vars (depth st) d.base st d.items bs st2 h

  test : (st : State) (c : Option Expr) (id : Option SlotId) (st2 : State) → Tests st c id st2 → maybe first_call c ≡ None
  test st _ _ _ Tests.none = refl
  test st _ _ _ (Tests.number {a = a} x atoms n) = number st a x atoms n

  step : (st : State) (x : Option Simple) (y : Option ps.Stmt) (st2 : State) → Steps defs st x y st2 → maybe call_in_simple x ≡ None
  step st _ _ _ Steps.none = refl
  step st _ _ st2 (Steps.simple {x = x} {b = b} d) = simple st x b st2 d

  returned : (st : State) (r : Option Ty) (a : Option Expr) (v : Option Value) (st2 : State) → Returns defs st r a v st2 → maybe inner_call a ≡ None
  returned st _ _ _ _ Returns.none = refl
  returned st _ _ _ st2 (Returns.value {u = u} {a = a} {v = v} d) = given defs st u a v st2 d

  -- ---- statements

  module _ (result : Option Ty) where
    mutual
      stmt : (f : Bool) (st : State) (x : Stmt) (b : ps.Stmt) (st2 : State) → Becomes defs result f st x b st2 → call_in_stmt x ≡ None
      stmt f st _ _ _ Becomes.empty = refl
      stmt f st _ _ _ (Becomes.block {st2 = st2} {at = at} xs {bs = bs} d) = call_in_stmt-Block at xs ∙ items f (depth st) st xs bs st2 d
      stmt f st _ b st2 (Becomes.simple {x = x} d) = simple st x b st2 d
      stmt f st _ _ st2 (Becomes.lone_if {at = at} {c = c} {a = a} {b = b} x atoms n d) =
          call_in_stmt-If at c a ∙ neither (first_call c) (call_in_stmt a) (number st c x atoms n) (stmt f (with_slot st c x atoms) a b st2 d)
      stmt f st _ _ st3 (Becomes.if_else {st2 = st2} {at = at} {c = c} {a = a} {other = other} {b = b} {d = q} x atoms n d g) =
          call_in_stmt-IfElse at c a other ∙ neither (first_call c) (call_in_stmt a or call_in_stmt other) (number st c x atoms n)
          (neither (call_in_stmt a) (call_in_stmt other) (stmt f (with_slot st c x atoms) a b st2 d) (stmt f st2 other q st3 g))
      stmt f st _ _ st2 (Becomes.while {at = at} {c = c} {a = a} {b = b} x atoms n d) =
          call_in_stmt-While at c a ∙ neither (first_call c) (call_in_stmt a) (number st c x atoms n) (stmt true (with_slot st c x atoms) a b st2 d)
      stmt f st _ _ _ (Becomes.do_while {st2 = st2} {at = at} {c = c} {a = a} {b = b} x atoms d n) =
          call_in_stmt-Do at a c ∙ neither (call_in_stmt a) (first_call c) (stmt true st a b st2 d) (number st2 c x atoms n)
      stmt f st _ _ _ (Becomes.for {st2 = st2} {st3 = st3} {st4 = st4} {st5 = st5} {at = at} {o = o} {c = c} {x = x} {a = a} {bs = bs} {id = id} {y = y} {b = b} h k l d) =
          call_in_stmt-For at o c x a ∙ neither (call_in_opening o) (maybe first_call c or maybe call_in_simple x or call_in_stmt a) (opening st o bs st2 h)
          (neither (maybe first_call c) (maybe call_in_simple x or call_in_stmt a) (test st2 c id st3 k)
          (neither (maybe call_in_simple x) (call_in_stmt a) (step st3 x y st4 l) (stmt true st4 a b st5 d)))
      stmt f st _ _ _ Becomes.break = refl
      stmt f st _ _ _ Becomes.continue = refl
      stmt f st _ _ st2 (Becomes.return {a = a} {v = v} d) = returned st result a v st2 d
      stmt f st _ _ _ (Becomes.read {a = a} l g) = target st a _ l g
      stmt f st _ _ _ (Becomes.print {a = a} x atoms n) = number st a x atoms n

      items : (f : Bool) (floor : ℕ) (st : State) (xs : List Stmt) (bs : List ps.Stmt) (st2 : State) → BecomeAll defs result f floor st xs bs st2 → first_of call_in_stmt xs ≡ None
      items f floor st _ _ _ BecomeAll.none = refl
      items f floor st _ _ st3 (BecomeAll.decl {st2 = st2} {d = d} {rest = rest} {ds = ds} {bs = bs} h g) =
          neither (call_in_decl d) (first_of call_in_stmt rest) (vars floor d.base st d.items ds st2 h) (items f floor st2 rest bs st3 g)
      items f floor st _ _ st3 (BecomeAll.more {st2 = st2} {a = a} {rest = rest} {b = b} {bs = bs} d g) =
          neither (call_in_stmt a) (first_of call_in_stmt rest) (stmt f st a b st2 d) (items f floor st2 rest bs st3 g)

  -- ---- parts of a file

  function : (st : State) (h : Head) (xs : List Stmt) (st2 : State) → DefinesFunction defs st h xs st2 → first_of call_in_stmt xs ≡ None
  function st h xs _ (DefinesFunction.function {g = g} {st2 = st2} {st3 = st3} {body = body} k d) = items g.result false (depth st2) (with_params st2 h.params g.params) xs body st3 d

  part : (st : State) (p : Part) (st2 : State) → BecomesPart defs st p st2 → call_in_part p ≡ None
  part st _ _ (BecomesPart.struct s d) = refl
  part st _ st2 (BecomesPart.decl {d = d} h) = globals d.base st d.items st2 h
  part st _ st2 (BecomesPart.function {h = h} {items = xs} d) = function st h xs st2 d
  part st _ _ (BecomesPart.prototype j k h) = refl

  parts : (st : State) (ps : List Part) (st2 : State) → BecomeParts defs st ps st2 → first_of call_in_part ps ≡ None
  parts st _ _ BecomeParts.none = refl
  parts st _ st3 (BecomeParts.more {st2 = st2} {p = p} {rest = rest} d g) = neither (call_in_part p) (first_of call_in_part rest) (part st p st2 d) (parts st2 rest st3 g)

-- the source of a program has no call inside an expression
pub outside : (tree : Tree) (program : Program) → IsProgramOf tree program → call_inside tree ≡ None
outside tree _ (IsProgramOf.file {st = st} d m) = parts (definitions_of tree.parts) start tree.parts st d
