-- The atoms of each slot are those of its expression.
use Rattle.std.proofs.Common.{◌≡◌, ℕ, Bool, true, false, List, [], ◌∷◌, Option, Some}
use Rattle.std.proofs.lemmas.List.Elements.{All-nil, All-cons, All-append}
use Rattle.ax_prog.specs.declared.Span.{Span}
use Rattle.ax_prog.specs.declared.Ty.{Ty}
use Rattle.ax_prog.specs.declared.FunId.{FunId}
use Rattle.ax_prog.specs.declared.SlotId.{SlotId}
use Rattle.ax_prog.specs.declared.Slot.{Slot}
use Rattle.ax_prog.specs.declared.Expr as ex
use Rattle.ax_prog.specs.declared.Atom.{Atom}
use Rattle.ax_prog.specs.declared.Arg.{Arg}
use Rattle.ax_prog.specs.declared.Value.{Value}
use Rattle.ax_prog.specs.declared.Init.{Init}
use Rattle.ax_prog.specs.declared.Stmt as ps
use Rattle.ax_prog.specs.declared.Program.{Program}
use Rattle.ax_parse_grammar.specs.declared.tree.Expr.{Expr}
use Rattle.ax_parse_grammar.specs.declared.tree.Base.{Base}
use Rattle.ax_parse_grammar.specs.declared.tree.Initialiser.{Initialiser}
use Rattle.ax_parse_grammar.specs.declared.tree.Declared.{Declared}
use Rattle.ax_parse_grammar.specs.declared.tree.Param.{Param}
use Rattle.ax_parse_grammar.specs.declared.tree.Head.{Head}
use Rattle.ax_parse_grammar.specs.declared.tree.Simple.{Simple}
use Rattle.ax_parse_grammar.specs.declared.tree.Opening.{Opening}
use Rattle.ax_parse_grammar.specs.declared.tree.Stmt.{Stmt}
use Rattle.ax_parse_grammar.specs.declared.tree.Part.{Part}
use Rattle.ax_parse_grammar.specs.declared.tree.Tree.{Tree}
use Rattle.ax_parse_grammar.specs.Trees.{span_of}
use Rattle.ax_names_types.specs.Atoms.{atoms_of, atoms_in}
use Rattle.ax_names_types.proofs.Carried.{value_carried}
use Rattle.ax_names_rules.specs.declared.Signature.{Signature}
use Rattle.ax_names_rules.specs.declared.State.{State}
use Rattle.ax_names_rules.specs.States.{here, visible, with_var, with_slot, depth}
use Rattle.ax_names_rules.specs.Values.{IsNumber, Offers, Arguments, Calls, Given}
use Rattle.ax_names_rules.specs.Declarations.{Begins, BecomeVars, with_global, BecomeGlobals}
use Rattle.ax_names_rules.specs.Statements.{Does, Opens, Tests, Steps, Returns, Becomes, BecomeAll}
use Rattle.ax_names_rules.specs.Functions.{text_of, with_params, Introduces, IsHead, DefinesFunction}
use Rattle.ax_names_rules.specs.Programs.{BecomesPart, BecomeParts, start, IsProgramOf}
use Rattle.ax_names_rules.specs.Slots.{CarryTheirAtoms}

abbrev Carry : State → Type 0
Carry st = CarryTheirAtoms st.slots

number_carries : (st : State) (a : Expr) (x : ex.Expr) (atoms : List (Atom × Span)) → IsNumber st a x atoms → Carry st → Carry (with_slot st a x atoms)
number_carries st a _ _ (IsNumber.number {m = m} x atoms d h) c =
    let made : Slot = record { span = span_of a; expr = x; scope = visible st.names; atoms = atoms } in
    All-append (λ (s : Slot). atoms_in s.atoms ≡ atoms_of s.expr) st.slots (made ∷ []) c (All-cons (λ (s : Slot). atoms_in s.atoms ≡ atoms_of s.expr) made [] (value_carried (here st) a m (span_of a) d x atoms h) (All-nil (λ (s : Slot). atoms_in s.atoms ≡ atoms_of s.expr)))

offer_carries : (st : State) (u : Ty) (a : Expr) (v : Value) (s : State) → Offers st u a v s → Carry st → Carry s
offer_carries st _ a _ _ (Offers.number x atoms d) c = number_carries st a x atoms d c
offer_carries st _ a _ _ (Offers.pointer u q d) c = c

args_carry : (st : State) (us : List Ty) (xs : List Expr) (args : List Arg) (s : State) → Arguments st us xs args s → Carry st → Carry s
args_carry st _ _ _ _ Arguments.none c = c
args_carry st _ _ _ s (Arguments.more {st2 = st2} {u = u} {us = us} {a = a} {rest = rest} {args = args} v d e) c = args_carry st2 us rest args s e (offer_carries st u a v st2 d c)

module _ (defs : List (List ℕ)) where
  call_carries : (st : State) (a : Expr) (r : Option Ty) (j : FunId) (args : List Arg) (s : State) → Calls defs st a r j args s → Carry st → Carry s
  call_carries st _ _ _ _ s (Calls.call {xs = xs} {args = args} at2 x head fn b) c = args_carry st head.params xs args s b c

  given_carries : (st : State) (u : Ty) (a : Expr) (v : Value) (s : State) → Given defs st u a v s → Carry st → Carry s
  given_carries st u a v s (Given.offered d) c = offer_carries st u a v s d c
  given_carries st u a _ s (Given.call {j = j} {args = args} d) c = call_carries st a (Some u) j args s d c

  initial_carries : (st : State) (u : Ty) (i : Initialiser) (v : Init) (s : State) → Begins defs st u i v s → Carry st → Carry s
  initial_carries st u _ _ _ Begins.nothing c = c
  initial_carries st u _ _ s (Begins.single {a = a} {v = v} d) c = given_carries st u a v s d c
  initial_carries st u _ _ _ (Begins.list d) c = c

  vars_carry : (floor : ℕ) (base : Base) (st : State) (ds : List Declared) (bs : List ps.Stmt) (s : State) → BecomeVars defs floor base st ds bs s → Carry st → Carry s
  vars_carry floor base st _ _ _ BecomeVars.none c = c
  vars_carry floor base st _ _ s (BecomeVars.more {st2 = st2} {d = d} {rest = rest} {bs = bs} u v dv b e) c =
      vars_carry floor base st2 rest bs s e (initial_carries (with_var st (d.declarator).name.text u) u d.initialiser v st2 b c)

  simple_carries : (st : State) (x : Simple) (b : ps.Stmt) (s : State) → Does defs st x b s → Carry st → Carry s
  simple_carries st _ _ s (Does.assign {b = b} {v = v} u l t d) c = given_carries st u b v s d c
  simple_carries st _ _ _ (Does.change {b = b} u l x atoms t k n) c = number_carries st b x atoms n c
  simple_carries st _ _ _ (Does.step u l t k) c = c
  simple_carries st _ _ s (Does.call {a = a} {r = r} {j = j} {args = args} d) c = call_carries st a r j args s d c

  opening_carries : (st : State) (o : Opening) (bs : List ps.Stmt) (s : State) → Opens defs st o bs s → Carry st → Carry s
  opening_carries st _ _ _ Opens.nothing c = c
  opening_carries st _ _ s (Opens.simple {x = x} {b = b} d) c = simple_carries st x b s d c
  opening_carries st _ bs s (Opens.decl {d = d} b) c = vars_carry (depth st) d.base st d.items bs s b c

  test_carries : (st : State) (o : Option Expr) (id : Option SlotId) (s : State) → Tests st o id s → Carry st → Carry s
  test_carries st _ _ _ Tests.none c = c
  test_carries st _ _ _ (Tests.number {a = a} x atoms n) c = number_carries st a x atoms n c

  step_carries : (st : State) (x : Option Simple) (y : Option ps.Stmt) (s : State) → Steps defs st x y s → Carry st → Carry s
  step_carries st _ _ _ Steps.none c = c
  step_carries st _ _ s (Steps.simple {x = x} {b = b} d) c = simple_carries st x b s d c

  return_carries : (st : State) (result : Option Ty) (a : Option Expr) (v : Option Value) (s : State) → Returns defs st result a v s → Carry st → Carry s
  return_carries st _ _ _ _ Returns.none c = c
  return_carries st _ _ _ s (Returns.value {u = u} {a = a} {v = v} d) c = given_carries st u a v s d c

  module _ (result : Option Ty) where
    mutual
      stmt_carries : (f : Bool) (st : State) (x : Stmt) (b : ps.Stmt) (s : State) → Becomes defs result f st x b s → Carry st → Carry s
      stmt_carries f st _ _ _ Becomes.empty c = c
      stmt_carries f st _ _ _ (Becomes.block {st2 = st2} items {bs = bs} d) c = items_carry f (depth st) st items bs st2 d c
      stmt_carries f st _ b s (Becomes.simple {x = x} d) c = simple_carries st x b s d c
      stmt_carries f st _ _ s (Becomes.lone_if {c = e} {a = a} {b = b} x atoms n d) c = stmt_carries f (with_slot st e x atoms) a b s d (number_carries st e x atoms n c)
      stmt_carries f st _ _ s (Becomes.if_else {st2 = st2} {c = e} {a = a} {other = other} {b = b} {d = q} x atoms n d g) c =
          stmt_carries f st2 other q s g (stmt_carries f (with_slot st e x atoms) a b st2 d (number_carries st e x atoms n c))
      stmt_carries f st _ _ s (Becomes.while {c = e} {a = a} {b = b} x atoms n d) c = stmt_carries true (with_slot st e x atoms) a b s d (number_carries st e x atoms n c)
      stmt_carries f st _ _ _ (Becomes.do_while {st2 = st2} {c = e} {a = a} {b = b} x atoms d n) c = number_carries st2 e x atoms n (stmt_carries true st a b st2 d c)
      stmt_carries f st _ _ _ (Becomes.for {st2 = st2} {st3 = st3} {st4 = st4} {st5 = st5} {o = o} {c = e} {x = x} {a = a} {bs = bs} {id = id} {y = y} {b = b} dq di dy d) c =
          stmt_carries true st4 a b st5 d (step_carries st3 x y st4 dy (test_carries st2 e id st3 di (opening_carries st o bs st2 dq c)))
      stmt_carries _ st _ _ _ Becomes.break c = c
      stmt_carries _ st _ _ _ Becomes.continue c = c
      stmt_carries f st _ _ s (Becomes.return {a = a} {v = v} d) c = return_carries st result a v s d c
      stmt_carries f st _ _ _ (Becomes.read l t) c = c
      stmt_carries f st _ _ _ (Becomes.print {a = a} x atoms n) c = number_carries st a x atoms n c

      items_carry : (f : Bool) (floor : ℕ) (st : State) (xs : List Stmt) (bs : List ps.Stmt) (s : State) → BecomeAll defs result f floor st xs bs s → Carry st → Carry s
      items_carry f floor st _ _ _ BecomeAll.none c = c
      items_carry f floor st _ _ s (BecomeAll.decl {st2 = st2} {d = d} {rest = rest} {ds = ds} {bs = bs} b e) c = items_carry f floor st2 rest bs s e (vars_carry floor d.base st d.items ds st2 b c)
      items_carry f floor st _ _ s (BecomeAll.more {st2 = st2} {a = a} {rest = rest} {b = b} {bs = bs} d e) c = items_carry f floor st2 rest bs s e (stmt_carries f st a b st2 d c)

  -- ---- parts of files

  params_carry : (st : State) (list : List Param) (us : List Ty) → Carry st → Carry (with_params st list us)
  params_carry st [] us c = c
  params_carry st (p ∷ rest) [] c = c
  params_carry st (p ∷ rest) (u ∷ us) c = params_carry (with_var st (text_of p.name) u) rest us c

  globals_carry : (base : Base) (st : State) (ds : List Declared) (s : State) → BecomeGlobals base st ds s → Carry st → Carry s
  globals_carry base st _ _ BecomeGlobals.none c = c
  globals_carry base st _ s (BecomeGlobals.more {d = d} {rest = rest} u v dv b e) c = globals_carry base (with_global st (d.declarator).name.text u v) rest s e c

  introduced_carry : (st : State) (g : Signature) (s : State) → Introduces st g s → Carry st → Carry s
  introduced_carry st g _ (Introduces.first h) c = c
  introduced_carry st g _ (Introduces.again d k h e i) c = c

  head_carries : (st : State) (defined : Bool) (h : Head) (g : Signature) (s : State) → IsHead st defined h g s → Carry st → Carry s
  head_carries st defined h g s (IsHead.head d i u) c = introduced_carry st g s i c

  function_carries : (st : State) (h : Head) (items : List Stmt) (s : State) → DefinesFunction defs st h items s → Carry st → Carry s
  function_carries st h items _ (DefinesFunction.function {g = g} {st2 = st2} {st3 = st3} {body = body} d b) c =
      items_carry g.result false (depth st2) (with_params st2 h.params g.params) items body st3 b (params_carry st2 h.params g.params (head_carries st true h g st2 d c))

  part_carries : (st : State) (p : Part) (s : State) → BecomesPart defs st p s → Carry st → Carry s
  part_carries st _ _ (BecomesPart.struct s d) c = c
  part_carries st _ s (BecomesPart.decl {d = d} b) c = globals_carry d.base st d.items s b c
  part_carries st _ s (BecomesPart.function {h = h} {items = items} d) c = function_carries st h items s d c
  part_carries st _ s (BecomesPart.prototype {h = h} {g = g} j d e) c = head_carries st false h g s d c

  parts_carry : (st : State) (list : List Part) (s : State) → BecomeParts defs st list s → Carry st → Carry s
  parts_carry st _ _ BecomeParts.none c = c
  parts_carry st _ s (BecomeParts.more {st2 = st2} {p = p} {rest = rest} d e) c = parts_carry st2 rest s e (part_carries st p st2 d c)

pub program_carries : (tree : Tree) (p : Program) → IsProgramOf tree p → CarryTheirAtoms p.slots
program_carries tree _ (IsProgramOf.file {st = st} d m) = parts_carry _ start tree.parts st d (All-nil (λ (s : Slot). atoms_in s.atoms ≡ atoms_of s.expr))
