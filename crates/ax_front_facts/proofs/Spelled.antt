-- The names that a source declares are words where its tokens are those of a text.
use Rattle.std.proofs.Common.{Bool, List, [], ◌∷◌, ◌++◌}
use Rattle.ax_prog.specs.declared.tokens.Token.{Token}
use Rattle.ax_parse_grammar.specs.declared.tree.Declarator.{Declarator}
use Rattle.ax_parse_grammar.specs.declared.tree.Declared.{Declared}
use Rattle.ax_parse_grammar.specs.declared.tree.Decl.{Decl}
use Rattle.ax_parse_grammar.specs.declared.tree.Param.{Param}
use Rattle.ax_parse_grammar.specs.declared.tree.Head.{Head}
use Rattle.ax_parse_grammar.specs.declared.tree.Opening.{Opening}
use Rattle.ax_parse_grammar.specs.declared.tree.Stmt.{Stmt}
use Rattle.ax_parse_grammar.specs.declared.tree.Part.{Part}
use Rattle.ax_parse_grammar.specs.declared.tree.Tree.{Tree}
use Rattle.ax_parse_grammar.specs.Terminals.{extent}
use Rattle.ax_parse_grammar.specs.Declarations.{SpellAll, SpellSeparated, SpellsDeclarator, SpellsDeclared, SpellsDecl}
use Rattle.ax_parse_grammar.specs.Statements.{SpellsOpening, SpellsStmt, SpellItems}
use Rattle.ax_parse_grammar.specs.Sources.{SpellsParam, SpellParams, SpellsHead, SpellsPart, SpellsTree}
use Rattle.ax_front_facts.specs.Spans.{IsWord}
use Rattle.ax_front_facts.proofs.Tokens.{Lexed, lexed_parts, lexed_around, word_token}
use Rattle.ax_front_facts.proofs.Worded.{WordedVars, WordedName, WordedParams, WordedOpening, Worded, WordedItems, WordedPart, WordedParts, Worded-Block, Worded-If, Worded-IfElse, Worded-While, Worded-Do, Worded-For}

-- ---- declarations

declarator_words : {f : Bool} {d : Declarator} {ts : List Token} → SpellsDeclarator f d ts → Lexed ts → IsWord d.name.text
declarator_words (SpellsDeclarator.declarator {x = x} {stars = stars} {ts = ts} t is p q) l = word_token t x (lexed_around stars ts t l).1 is

declared_words : {d : Declared} {ts : List Token} → SpellsDeclared d ts → Lexed ts → IsWord (d.declarator).name.text
declared_words (SpellsDeclared.plain p) l = declarator_words p l
declared_words (SpellsDeclared.value {ts = ts} {us = us} mark h p q) l = declarator_words p (lexed_around ts us mark l).0
declared_words (SpellsDeclared.list {ts = ts} {us = us} mark first last h o c p q) l = declarator_words p (lexed_around ts (first ∷ (us ++ last ∷ [])) mark l).0

vars_words : {xs : List Declared} {ts : List Token} → SpellSeparated SpellsDeclared xs ts → Lexed ts → WordedVars xs
vars_words (SpellSeparated.one p) l = (declared_words p l, tt)
vars_words (SpellSeparated.more {ts = ts} {us = us} comma c p q) l = let r = lexed_around ts us comma l in (declared_words p r.0, vars_words q r.2)

decl_words : {d : Decl} {ts : List Token} → SpellsDecl d ts → Lexed ts → WordedVars d.items
decl_words (SpellsDecl.decl {bs = bs} {ts = ts} last h p q) l = vars_words q (lexed_around ts [] last (lexed_parts bs (ts ++ last ∷ []) l).1).0

-- ---- statements

opening_words : {o : Opening} {ts : List Token} → SpellsOpening o ts → Lexed ts → WordedOpening o
opening_words (SpellsOpening.nothing last h) l = tt
opening_words (SpellsOpening.simple last h p) l = tt
opening_words (SpellsOpening.decl p) l = decl_words p l

mutual
  stmt_words : {f : Bool} {x : Stmt} {ts : List Token} → SpellsStmt f x ts → Lexed ts → Worded x
  stmt_words (SpellsStmt.empty t h) l = tt
  stmt_words (SpellsStmt.block {xs = xs} {ts = ts} first last o c p) l = rw (Worded-Block (extent (first ∷ (ts ++ last ∷ []))) xs) (items_words p (lexed_around ts [] last l.1).0)
  stmt_words (SpellsStmt.simple last h p) l = tt
  stmt_words (SpellsStmt.lone_if {c = c} {x = x} {test = test} {body = body} t first last i o k p q) l =
      rw (Worded-If (extent (t ∷ first ∷ (test ++ last ∷ body))) c x) (stmt_words q (lexed_around test body last l.1.1).2)
  stmt_words (SpellsStmt.if_else {c = c} {x = x} {y = y} {test = test} {body = body} {other = other} t first last u i o k n p q r) l =
      let rest = lexed_around body other u (lexed_around test (body ++ u ∷ other) last l.1.1).2 in
      rw (Worded-IfElse (extent (t ∷ first ∷ (test ++ last ∷ (body ++ u ∷ other)))) c x y) (stmt_words q rest.0, stmt_words r rest.2)
  stmt_words (SpellsStmt.while {c = c} {x = x} {test = test} {body = body} t first last i o k p q) l =
      rw (Worded-While (extent (t ∷ first ∷ (test ++ last ∷ body))) c x) (stmt_words q (lexed_around test body last l.1.1).2)
  stmt_words (SpellsStmt.do_while {c = c} {x = x} {body = body} {test = test} t u first last end i n o k z p q) l =
      rw (Worded-Do (extent (t ∷ (body ++ u ∷ first ∷ (test ++ last ∷ end ∷ [])))) x c) (stmt_words p (lexed_around body (first ∷ (test ++ last ∷ end ∷ [])) u l.1).0)
  stmt_words (SpellsStmt.for {o = o} {c = c} {step = step} {x = x} {os = os} {cs = cs} {ss = ss} {body = body} t first middle last i k m n p q r v) l =
      let begin = lexed_parts os (cs ++ middle ∷ (ss ++ last ∷ body)) l.1.1 in
      let end = lexed_around ss body last (lexed_around cs (ss ++ last ∷ body) middle begin.1).2 in
      rw (Worded-For (extent (t ∷ first ∷ (os ++ (cs ++ middle ∷ (ss ++ last ∷ body))))) o c step x) (opening_words p begin.0, stmt_words v end.2)
  stmt_words (SpellsStmt.break t last h k) l = tt
  stmt_words (SpellsStmt.continue t last h k) l = tt
  stmt_words (SpellsStmt.return t last h k p) l = tt
  stmt_words (SpellsStmt.read t start end h k n p) l = tt
  stmt_words (SpellsStmt.print t first format comma end h k m c j p) l = tt

  items_words : {xs : List Stmt} {ts : List Token} → SpellItems xs ts → Lexed ts → WordedItems xs
  items_words SpellItems.none l = tt
  items_words (SpellItems.decl_item {ts = ts} {us = us} p q) l = let r = lexed_parts ts us l in (decl_words p r.0, items_words q r.1)
  items_words (SpellItems.stmt_item {ts = ts} {us = us} p q) l = let r = lexed_parts ts us l in (stmt_words p r.0, items_words q r.1)

-- ---- parts of files

param_words : {x : Param} {ts : List Token} → SpellsParam x ts → Lexed ts → WordedName x.name
param_words (SpellsParam.with_name {x = x} {bs = bs} {stars = stars} {ts = ts} t is p q r) l = word_token t x (lexed_around stars ts t (lexed_parts bs (stars ++ t ∷ ts) l).1).1 is
param_words (SpellsParam.nameless p q r) l = tt

params_words : {xs : List Param} {ts : List Token} → SpellSeparated SpellsParam xs ts → Lexed ts → WordedParams xs
params_words (SpellSeparated.one p) l = (param_words p l, tt)
params_words (SpellSeparated.more {ts = ts} {us = us} comma c p q) l = let r = lexed_around ts us comma l in (param_words p r.0, params_words q r.2)

all_params_words : {xs : List Param} {ts : List Token} → SpellParams xs ts → Lexed ts → WordedParams xs
all_params_words SpellParams.nothing l = tt
all_params_words (SpellParams.void t h) l = tt
all_params_words (SpellParams.some p) l = params_words p l

head_words : {h : Head} {ts : List Token} → SpellsHead h ts → Lexed ts → WordedParams h.params
head_words (SpellsHead.head {rs = rs} {stars = stars} {ts = ts} t first last h o c p q v) l =
    let behind = lexed_around stars (first ∷ (ts ++ last ∷ [])) t (lexed_parts rs (stars ++ t ∷ first ∷ (ts ++ last ∷ [])) l).1 in
    all_params_words v (lexed_around ts [] last behind.2.1).0

part_words : {x : Part} {ts : List Token} → SpellsPart x ts → Lexed ts → WordedPart x
part_words (SpellsPart.struct s t first end h n o k p) l = tt
part_words (SpellsPart.decl p) l = decl_words p l
part_words (SpellsPart.function {hs = hs} {ts = ts} first last o c p q) l =
    let r = lexed_around hs (ts ++ last ∷ []) first l in
    (head_words p r.0, items_words q (lexed_around ts [] last r.2).0)
part_words (SpellsPart.prototype last k p) l = tt

parts_words : {xs : List Part} {ts : List Token} → SpellAll SpellsPart xs ts → Lexed ts → WordedParts xs
parts_words SpellAll.none l = tt
parts_words (SpellAll.more {ts = ts} {us = us} p q) l = let r = lexed_parts ts us l in (part_words p r.0, parts_words q r.1)

pub tree_words : {tree : Tree} {ts : List Token} → SpellsTree tree ts → Lexed ts → WordedParts tree.parts
tree_words (SpellsTree.tree p) l = parts_words p l
