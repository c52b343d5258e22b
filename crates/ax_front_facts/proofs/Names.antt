-- The variables of a program that a text spells have words for names.
use Rattle.std.proofs.Common.{ℕ, Bool, true, false, List, [], Option, Some}
use Rattle.std.specs.List.{All}
use Rattle.std.proofs.lemmas.List.Elements.{All-nil, All-push}
use Rattle.ax_prog.specs.declared.Ty.{Ty}
use Rattle.ax_prog.specs.declared.FunId.{FunId}
use Rattle.ax_prog.specs.declared.Arg.{Arg}
use Rattle.ax_prog.specs.declared.Value.{Value}
use Rattle.ax_prog.specs.declared.Init.{Init}
use Rattle.ax_prog.specs.declared.Var.{Var}
use Rattle.ax_prog.specs.declared.Struct.{Struct}
use Rattle.ax_prog.specs.declared.Stmt as ps
use Rattle.ax_prog.specs.declared.Program.{Program}
use Rattle.ax_prog.specs.declared.SlotId.{SlotId}
use Rattle.ax_prog.specs.declared.tokens.Token.{Token}
use Rattle.ax_lex.specs.Bytes.{Text}
use Rattle.ax_lex.specs.Pieces.{SpellsTokens}
use Rattle.ax_parse_grammar.specs.declared.tree.Name.{Name}
use Rattle.ax_parse_grammar.specs.declared.tree.Expr.{Expr}
use Rattle.ax_parse_grammar.specs.declared.tree.Base.{Base}
use Rattle.ax_parse_grammar.specs.declared.tree.Initialiser.{Initialiser}
use Rattle.ax_parse_grammar.specs.declared.tree.Declared.{Declared}
use Rattle.ax_parse_grammar.specs.declared.tree.Param.{Param}
use Rattle.ax_parse_grammar.specs.declared.tree.Head.{Head}
use Rattle.ax_parse_grammar.specs.declared.tree.Simple.{Simple}
use Rattle.ax_parse_grammar.specs.declared.tree.Opening.{Opening}
use Rattle.ax_parse_grammar.specs.declared.tree.Stmt.{Stmt}
use Rattle.ax_parse_grammar.specs.declared.tree.Part.{Part}
use Rattle.ax_parse_grammar.specs.declared.tree.Tree.{Tree}
use Rattle.ax_parse_grammar.specs.Sources.{SpellsTree}
use Rattle.ax_names_declared.specs.declared.heads.Signature as said
use Rattle.ax_names_declared.specs.Heads.{IsNamed, and_name, AreParams, DeclaresFunction}
use Rattle.ax_names_rules.specs.declared.Signature.{Signature}
use Rattle.ax_names_rules.specs.declared.State.{State}
use Rattle.ax_names_rules.specs.States.{with_var, with_slot, depth}
use Rattle.ax_names_rules.specs.Values.{Offers, Arguments, Calls, Given}
use Rattle.ax_names_rules.specs.Declarations.{Begins, BecomeVars, with_global, BecomeGlobals}
use Rattle.ax_names_rules.specs.Statements.{Does, Opens, Tests, Steps, Returns, Becomes, BecomeAll}
use Rattle.ax_names_rules.specs.Functions.{text_of, with_params, Signs, Introduces, IsHead, DefinesFunction}
use Rattle.ax_names_rules.specs.Programs.{BecomesPart, BecomeParts, start, IsProgramOf}
use Rattle.ax_front_facts.specs.Spans.{IsWord, NamesAreWords}
use Rattle.ax_front_facts.proofs.Tokens.{lexed}
use Rattle.ax_front_facts.proofs.Worded.{WordedVars, WordedName, WordedParams, WordedOpening, Worded, WordedItems, WordedPart, WordedParts, Worded-Block, Worded-If, Worded-IfElse, Worded-While, Worded-Do, Worded-For}
use Rattle.ax_front_facts.proofs.Spelled.{tree_words}

-- the variables so far have words for names
abbrev Words : State → Type 0
Words st = All (λ (v : Var). IsWord v.name) st.vars

var_words : (st : State) (x : List ℕ) (u : Ty) → IsWord x → Words st → Words (with_var st x u)
var_words st x u w c = let v : Var = record { name = x; ty = u } in All-push (λ (v : Var). IsWord v.name) st.vars v c w

-- ---- globals, heads and their parameters

globals_words : (base : Base) (st : State) (ds : List Declared) (s : State) → BecomeGlobals base st ds s → WordedVars ds → Words st → Words s
globals_words base st _ _ BecomeGlobals.none w c = c
globals_words base st _ s (BecomeGlobals.more {d = d} {rest = rest} u v dv b e) w c = globals_words base (with_global st (d.declarator).name.text u v) rest s e w.1 (var_words st (d.declarator).name.text u w.0 c)

introduced_words : (st : State) (g : Signature) (s : State) → Introduces st g s → Words st → Words s
introduced_words st g _ (Introduces.first h) c = c
introduced_words st g _ (Introduces.again d k h e i) c = c

head_words : (st : State) (defined : Bool) (h : Head) (g : Signature) (s : State) → IsHead st defined h g s → Words st → Words s
head_words st defined h g s (IsHead.head d i u) c = introduced_words st g s i c

-- in a definition each parameter has a name
name_words : (names : List (List ℕ)) (o : Option Name) → IsNamed true names o → WordedName o → IsWord (text_of o)
name_words names _ (IsNamed.named n) w = w
name_words names _ (IsNamed.nameless h) w = cc

params_words : (structs : List Struct) (names : List (List ℕ)) (st : State) (list : List Param) (us : List Ty) → AreParams structs true names list us → WordedParams list → Words st → Words (with_params st list us)
params_words structs names st _ _ AreParams.none w c = c
params_words structs names st _ _ (AreParams.more {p = p} {u = u} {rest = rest} {us = us} n d e) w c =
    params_words structs (and_name names p.name) (with_var st (text_of p.name) u) rest us e w.1 (var_words st (text_of p.name) u (name_words names p.name n w.0) c)

function_params : (structs : List Struct) (h : Head) (g : said.Signature) → DeclaresFunction structs true h g → AreParams structs true [] h.params g.params
function_params structs h _ (DeclaresFunction.function r e) = e

signed_params : (structs : List Struct) (h : Head) (g : Signature) → Signs structs true h g → AreParams structs true [] h.params g.params
signed_params structs h _ (Signs.head g d) = function_params structs h g d

head_params : (st : State) (h : Head) (g : Signature) (s : State) → IsHead st true h g s → AreParams st.structs true [] h.params g.params
head_params st h g s (IsHead.head d i u) = signed_params st.structs h g d

-- ---- values

offer_words : (st : State) (u : Ty) (a : Expr) (v : Value) (s : State) → Offers st u a v s → Words st → Words s
offer_words st _ a _ _ (Offers.number x atoms d) c = c
offer_words st _ a _ _ (Offers.pointer u q d) c = c

args_words : (st : State) (us : List Ty) (xs : List Expr) (args : List Arg) (s : State) → Arguments st us xs args s → Words st → Words s
args_words st _ _ _ _ Arguments.none c = c
args_words st _ _ _ s (Arguments.more {st2 = st2} {u = u} {us = us} {a = a} {rest = rest} {args = args} v d e) c = args_words st2 us rest args s e (offer_words st u a v st2 d c)

module _ (defs : List (List ℕ)) where
  call_words : (st : State) (a : Expr) (r : Option Ty) (j : FunId) (args : List Arg) (s : State) → Calls defs st a r j args s → Words st → Words s
  call_words st _ _ _ _ s (Calls.call {xs = xs} {args = args} at2 x head fn b) c = args_words st head.params xs args s b c

  given_words : (st : State) (u : Ty) (a : Expr) (v : Value) (s : State) → Given defs st u a v s → Words st → Words s
  given_words st u a v s (Given.offered d) c = offer_words st u a v s d c
  given_words st u a _ s (Given.call {j = j} {args = args} d) c = call_words st a (Some u) j args s d c

  -- ---- declarations

  initial_words : (st : State) (u : Ty) (i : Initialiser) (v : Init) (s : State) → Begins defs st u i v s → Words st → Words s
  initial_words st u _ _ _ Begins.nothing c = c
  initial_words st u _ _ s (Begins.single {a = a} {v = v} d) c = given_words st u a v s d c
  initial_words st u _ _ _ (Begins.list d) c = c

  vars_words : (floor : ℕ) (base : Base) (st : State) (ds : List Declared) (bs : List ps.Stmt) (s : State) → BecomeVars defs floor base st ds bs s → WordedVars ds → Words st → Words s
  vars_words floor base st _ _ _ BecomeVars.none w c = c
  vars_words floor base st _ _ s (BecomeVars.more {st2 = st2} {d = d} {rest = rest} {bs = bs} u v dv b e) w c =
      vars_words floor base st2 rest bs s e w.1 (initial_words (with_var st (d.declarator).name.text u) u d.initialiser v st2 b (var_words st (d.declarator).name.text u w.0 c))

  -- ---- statements

  simple_words : (st : State) (x : Simple) (b : ps.Stmt) (s : State) → Does defs st x b s → Words st → Words s
  simple_words st _ _ s (Does.assign {b = b} {v = v} u l t d) c = given_words st u b v s d c
  simple_words st _ _ _ (Does.change u l x atoms t k n) c = c
  simple_words st _ _ _ (Does.step u l t k) c = c
  simple_words st _ _ s (Does.call {a = a} {r = r} {j = j} {args = args} d) c = call_words st a r j args s d c

  opening_words : (st : State) (o : Opening) (bs : List ps.Stmt) (s : State) → Opens defs st o bs s → WordedOpening o → Words st → Words s
  opening_words st _ _ _ Opens.nothing w c = c
  opening_words st _ _ s (Opens.simple {x = x} {b = b} d) w c = simple_words st x b s d c
  opening_words st _ bs s (Opens.decl {d = d} b) w c = vars_words (depth st) d.base st d.items bs s b w c

  test_words : (st : State) (o : Option Expr) (id : Option SlotId) (s : State) → Tests st o id s → Words st → Words s
  test_words st _ _ _ Tests.none c = c
  test_words st _ _ _ (Tests.number x atoms n) c = c

  step_words : (st : State) (x : Option Simple) (y : Option ps.Stmt) (s : State) → Steps defs st x y s → Words st → Words s
  step_words st _ _ _ Steps.none c = c
  step_words st _ _ s (Steps.simple {x = x} {b = b} d) c = simple_words st x b s d c

  return_words : (st : State) (result : Option Ty) (a : Option Expr) (v : Option Value) (s : State) → Returns defs st result a v s → Words st → Words s
  return_words st _ _ _ _ Returns.none c = c
  return_words st _ _ _ s (Returns.value {u = u} {a = a} {v = v} d) c = given_words st u a v s d c

  module _ (result : Option Ty) where
    mutual
      stmt_words : (f : Bool) (st : State) (x : Stmt) (b : ps.Stmt) (s : State) → Becomes defs result f st x b s → Worded x → Words st → Words s
      stmt_words f st _ _ _ Becomes.empty w c = c
      stmt_words f st _ _ _ (Becomes.block {st2 = st2} {at = at} items {bs = bs} d) w c = items_words f (depth st) st items bs st2 d (rw (Worded-Block at items) at w) c
      stmt_words f st _ b s (Becomes.simple {x = x} d) w c = simple_words st x b s d c
      stmt_words f st _ _ s (Becomes.lone_if {at = at} {c = e} {a = a} {b = b} x atoms n d) w c = stmt_words f (with_slot st e x atoms) a b s d (rw (Worded-If at e a) at w) c
      stmt_words f st _ _ s (Becomes.if_else {st2 = st2} {at = at} {c = e} {a = a} {other = other} {b = b} {d = q} x atoms n d g) w c =
          let r = rw (Worded-IfElse at e a other) at w in
          stmt_words f st2 other q s g r.1 (stmt_words f (with_slot st e x atoms) a b st2 d r.0 c)
      stmt_words f st _ _ s (Becomes.while {at = at} {c = e} {a = a} {b = b} x atoms n d) w c = stmt_words true (with_slot st e x atoms) a b s d (rw (Worded-While at e a) at w) c
      stmt_words f st _ _ _ (Becomes.do_while {st2 = st2} {at = at} {c = e} {a = a} {b = b} x atoms d n) w c = stmt_words true st a b st2 d (rw (Worded-Do at a e) at w) c
      stmt_words f st _ _ _ (Becomes.for {st2 = st2} {st3 = st3} {st4 = st4} {st5 = st5} {at = at} {o = o} {c = e} {x = x} {a = a} {bs = bs} {id = id} {y = y} {b = b} dq di dy d) w c =
          let r = rw (Worded-For at o e x a) at w in
          stmt_words true st4 a b st5 d r.1 (step_words st3 x y st4 dy (test_words st2 e id st3 di (opening_words st o bs st2 dq r.0 c)))
      stmt_words _ st _ _ _ Becomes.break w c = c
      stmt_words _ st _ _ _ Becomes.continue w c = c
      stmt_words f st _ _ s (Becomes.return {a = a} {v = v} d) w c = return_words st result a v s d c
      stmt_words f st _ _ _ (Becomes.read l t) w c = c
      stmt_words f st _ _ _ (Becomes.print x atoms n) w c = c

      items_words : (f : Bool) (floor : ℕ) (st : State) (xs : List Stmt) (bs : List ps.Stmt) (s : State) → BecomeAll defs result f floor st xs bs s → WordedItems xs → Words st → Words s
      items_words f floor st _ _ _ BecomeAll.none w c = c
      items_words f floor st _ _ s (BecomeAll.decl {st2 = st2} {d = d} {rest = rest} {ds = ds} {bs = bs} b e) w c = items_words f floor st2 rest bs s e w.1 (vars_words floor d.base st d.items ds st2 b w.0 c)
      items_words f floor st _ _ s (BecomeAll.more {st2 = st2} {a = a} {rest = rest} {b = b} {bs = bs} d e) w c = items_words f floor st2 rest bs s e w.1 (stmt_words f st a b st2 d w.0 c)

  -- ---- parts of files

  function_words : (st : State) (h : Head) (items : List Stmt) (s : State) → DefinesFunction defs st h items s → WordedParams h.params → WordedItems items → Words st → Words s
  function_words st h items _ (DefinesFunction.function {g = g} {st2 = st2} {st3 = st3} {body = body} d b) v w c =
      items_words g.result false (depth st2) (with_params st2 h.params g.params) items body st3 b w (params_words st.structs [] st2 h.params g.params (head_params st h g st2 d) v (head_words st true h g st2 d c))

  part_words : (st : State) (p : Part) (s : State) → BecomesPart defs st p s → WordedPart p → Words st → Words s
  part_words st _ _ (BecomesPart.struct s d) w c = c
  part_words st _ s (BecomesPart.decl {d = d} b) w c = globals_words d.base st d.items s b w c
  part_words st _ s (BecomesPart.function {h = h} {items = items} d) w c = function_words st h items s d w.0 w.1 c
  part_words st _ s (BecomesPart.prototype {h = h} {g = g} j d e) w c = head_words st false h g s d c

  parts_words : (st : State) (list : List Part) (s : State) → BecomeParts defs st list s → WordedParts list → Words st → Words s
  parts_words st _ _ BecomeParts.none w c = c
  parts_words st _ s (BecomeParts.more {st2 = st2} {p = p} {rest = rest} d e) w c = parts_words st2 rest s e w.1 (part_words st p st2 d w.0 c)

program_words : (tree : Tree) (p : Program) → IsProgramOf tree p → WordedParts tree.parts → NamesAreWords p
program_words tree _ (IsProgramOf.file {st = st} d m) w = parts_words _ start tree.parts st d w (All-nil (λ (v : Var). IsWord v.name))

pub names_words : (bytes : Text) (tokens : List Token) (tree : Tree) (program : Program) → SpellsTokens bytes tokens → SpellsTree tree tokens → IsProgramOf tree program → NamesAreWords program
names_words bytes tokens tree program s p d = program_words tree program d (tree_words p (lexed bytes tokens s))
