-- The expressions of a source stand in turn where its tokens do.
use Rattle.std.proofs.Common.{ℕ, Bool, List, [], ◌∷◌, ◌++◌, Option, arith}
use Rattle.ax_prog.specs.declared.tokens.Token.{Token}
use Rattle.ax_parse_grammar.specs.declared.tree.Expr.{Expr}
use Rattle.ax_parse_grammar.specs.declared.tree.Declared.{Declared}
use Rattle.ax_parse_grammar.specs.declared.tree.Decl.{Decl}
use Rattle.ax_parse_grammar.specs.declared.tree.Simple.{Simple}
use Rattle.ax_parse_grammar.specs.declared.tree.Opening.{Opening}
use Rattle.ax_parse_grammar.specs.declared.tree.Stmt.{Stmt}
use Rattle.ax_parse_grammar.specs.declared.tree.Part.{Part}
use Rattle.ax_parse_grammar.specs.declared.tree.Tree.{Tree}
use Rattle.ax_parse_grammar.specs.Terminals.{extent}
use Rattle.ax_parse_grammar.specs.Expressions.{Spells, SpellArgs, SpellMany}
use Rattle.ax_parse_grammar.specs.Declarations.{SpellAll, SpellSeparated, SpellsDeclared, SpellsDecl}
use Rattle.ax_parse_grammar.specs.Statements.{SpellsSimple, SpellsOpening, SpellsMaybe, SpellsStmt, SpellItems}
use Rattle.ax_parse_grammar.specs.Sources.{SpellsPart, SpellsTree}
use Rattle.ax_front_facts.proofs.InTurn.{Stand, in_order, split, rest, behind, before, around, extent_within, extent_around}
use Rattle.ax_front_facts.proofs.Places.{Each, Held, OfWhole, OfCall, OfValue, call_of, OfDeclared, OfSimple, OfOpening, OfStmt, block_of, if_of, else_of, while_of, do_of, for_of, OfPart}

-- what stands between the parentheses behind some tokens
inside : (a b : ℕ) (ts us : List Token) (first last : Token) → Stand a (ts ++ first ∷ (us ++ last ∷ [])) b → Stand a us b
inside a b ts us first last h = before a b us (last ∷ []) (rest a b first (us ++ last ∷ []) (behind a b ts (first ∷ (us ++ last ∷ [])) h))

-- what stands behind some tokens and one more
right : (a b : ℕ) (ts us : List Token) (t : Token) → Stand a (ts ++ t ∷ us) b → Stand a us b
right a b ts us t h = rest a b t us (behind a b ts (t ∷ us) h)

-- ---- expressions

whole : {l : ℕ} {x : Expr} {ts : List Token} → Spells l x ts → (a b : ℕ) → Stand a ts b → OfWhole a x b
whole (Spells.name t i) a b h = h
whole (Spells.number t i) a b h = h
whole (Spells.parens {ts = ts} first last o c p) a b h = whole p a b (inside a b [] ts first last h)
whole (Spells.index {ts = ts} {us = us} first last le o c p q) a b h = extent_around a b ts (us ++ last ∷ []) first h
whole (Spells.member {ts = ts} dot t le d n p) a b h = extent_around a b ts (t ∷ []) dot h
whole (Spells.arrow {ts = ts} mark t le d n p) a b h = extent_around a b ts (t ∷ []) mark h
whole (Spells.call {ts = ts} {us = us} first last le o c p q) a b h = extent_around a b ts (us ++ last ∷ []) first h
whole (Spells.unary {ts = ts} t le o p) a b h = extent_within a b t ts h
whole (Spells.binary {left = left} {right = right} t le o p q) a b h = extent_around a b left right t h
whole (Spells.cond {test = test} {then = then} {else = else} question colon q k p r v) a b h = extent_around a b test (then ++ colon ∷ else) question h

many : {xs : List Expr} {ts : List Token} → SpellMany xs ts → (a b : ℕ) → Stand a ts b → Each OfWhole a xs b
many (SpellMany.one p) a b h = (b, whole p a b h, omega arith)
many (SpellMany.more {ts = ts} {us = us} comma c p q) a b h = let r = around a b ts us comma h in (r.0, whole p a r.0 r.1, many q r.0 b r.2)

arguments : {xs : List Expr} {ts : List Token} → SpellArgs xs ts → (a b : ℕ) → Stand a ts b → Each OfWhole a xs b
arguments SpellArgs.nothing a b h = h
arguments (SpellArgs.some p) a b h = many p a b h

of_call : {l : ℕ} {x : Expr} {ts : List Token} → Spells l x ts → (a b : ℕ) → Stand a ts b → OfCall a x b
of_call (Spells.name t i) a b h = tt
of_call (Spells.number t i) a b h = tt
of_call (Spells.parens {ts = ts} first last o c p) a b h = of_call p a b (inside a b [] ts first last h)
of_call (Spells.index first last le o c p q) a b h = tt
of_call (Spells.member dot t le d n p) a b h = tt
of_call (Spells.arrow mark t le d n p) a b h = tt
of_call (Spells.call {f = g} {xs = xs} {ts = ts} {us = us} first last le o c p q) a b h = call_of a b (extent (ts ++ first ∷ (us ++ last ∷ []))) g xs (arguments q a b (inside a b ts us first last h))
of_call (Spells.unary t le o p) a b h = tt
of_call (Spells.binary t le o p q) a b h = tt
of_call (Spells.cond question colon q k p r v) a b h = tt

value : {x : Expr} {ts : List Token} → Spells 0 x ts → (a b : ℕ) → Stand a ts b → OfValue a x b
value p a b h = (whole p a b h, of_call p a b h)

-- ---- declarations

declared : {d : Declared} {ts : List Token} → SpellsDeclared d ts → (a b : ℕ) → Stand a ts b → OfDeclared a d b
declared (SpellsDeclared.plain {ts = ts} p) a b h = in_order a b ts h
declared (SpellsDeclared.value {ts = ts} {us = us} mark i p q) a b h = value q a b (right a b ts us mark h)
declared (SpellsDeclared.list {ts = ts} {us = us} mark first last i o c p q) a b h = in_order a b (ts ++ mark ∷ first ∷ (us ++ last ∷ [])) h

all_declared : {xs : List Declared} {ts : List Token} → SpellSeparated SpellsDeclared xs ts → (a b : ℕ) → Stand a ts b → Each OfDeclared a xs b
all_declared (SpellSeparated.one p) a b h = (b, declared p a b h, omega arith)
all_declared (SpellSeparated.more {ts = ts} {us = us} comma c p q) a b h = let r = around a b ts us comma h in (r.0, declared p a r.0 r.1, all_declared q r.0 b r.2)

decl : {d : Decl} {ts : List Token} → SpellsDecl d ts → (a b : ℕ) → Stand a ts b → Each OfDeclared a d.items b
decl (SpellsDecl.decl {bs = bs} {ts = ts} last i p q) a b h = all_declared q a b (before a b ts (last ∷ []) (behind a b bs (ts ++ last ∷ []) h))

-- ---- statements

simple : {x : Simple} {ts : List Token} → SpellsSimple x ts → (a b : ℕ) → Stand a ts b → OfSimple a x b
simple (SpellsSimple.assign {ts = ts} {us = us} mark i p q) a b h = value q a b (right a b ts us mark h)
simple (SpellsSimple.change {ts = ts} {us = us} mark i p q) a b h = whole q a b (right a b ts us mark h)
simple (SpellsSimple.behind {ts = ts} mark i p) a b h = in_order a b (ts ++ mark ∷ []) h
simple (SpellsSimple.before {ts = ts} mark i p) a b h = in_order a b (mark ∷ ts) h
simple (SpellsSimple.call {f = g} {xs = xs} {ts = ts} {us = us} first last o c p q) a b h = call_of a b (extent (ts ++ first ∷ (us ++ last ∷ []))) g xs (arguments q a b (inside a b ts us first last h))

begun : {x : Opening} {ts : List Token} → SpellsOpening x ts → (a b : ℕ) → Stand a ts b → OfOpening a x b
begun (SpellsOpening.nothing last i) a b h = in_order a b (last ∷ []) h
begun (SpellsOpening.simple {ts = ts} last i p) a b h = simple p a b (before a b ts (last ∷ []) h)
begun (SpellsOpening.decl p) a b h = decl p a b h

held : {A : Type 0} {P : A → List Token → Type 0} (Q : ℕ → A → ℕ → Type 0) → ((x : A) (ts : List Token) → P x ts → (a b : ℕ) → Stand a ts b → Q a x b) → {x : Option A} {ts : List Token} → SpellsMaybe P x ts → (a b : ℕ) → Stand a ts b → Held Q a x b
held Q go SpellsMaybe.nothing a b h = h
held Q go (SpellsMaybe.some {x = x} {ts = ts} p) a b h = go x ts p a b h

mutual
  stmt : {f : Bool} {x : Stmt} {ts : List Token} → SpellsStmt f x ts → (a b : ℕ) → Stand a ts b → OfStmt a x b
  stmt (SpellsStmt.empty t i) a b h = in_order a b (t ∷ []) h
  stmt (SpellsStmt.block {xs = xs} {ts = ts} first last o c p) a b h = block_of a b (extent (first ∷ (ts ++ last ∷ []))) xs (items p a b (inside a b [] ts first last h))
  stmt (SpellsStmt.simple {ts = ts} last i p) a b h = simple p a b (before a b ts (last ∷ []) h)
  stmt (SpellsStmt.lone_if {c = c} {x = x} {test = test} {body = body} t first last i o n p d) a b h =
      let r = around a b test body last (right a b (t ∷ []) (test ++ last ∷ body) first h) in
      if_of a b (extent (t ∷ first ∷ (test ++ last ∷ body))) c x (r.0, whole p a r.0 r.1, stmt d r.0 b r.2)
  stmt (SpellsStmt.if_else {c = c} {x = x} {y = y} {test = test} {body = body} {other = other} t first last u i o n m p d g) a b h =
      let r = around a b test (body ++ u ∷ other) last (right a b (t ∷ []) (test ++ last ∷ (body ++ u ∷ other)) first h) in
      let q = around r.0 b body other u r.2 in
      else_of a b (extent (t ∷ first ∷ (test ++ last ∷ (body ++ u ∷ other)))) c x y (r.0, q.0, whole p a r.0 r.1, stmt d r.0 q.0 q.1, stmt g q.0 b q.2)
  stmt (SpellsStmt.while {c = c} {x = x} {test = test} {body = body} t first last i o n p d) a b h =
      let r = around a b test body last (right a b (t ∷ []) (test ++ last ∷ body) first h) in
      while_of a b (extent (t ∷ first ∷ (test ++ last ∷ body))) c x (r.0, whole p a r.0 r.1, stmt d r.0 b r.2)
  stmt (SpellsStmt.do_while {c = c} {x = x} {body = body} {test = test} t u first last end i m o n z d p) a b h =
      let r = around a b body (first ∷ (test ++ last ∷ end ∷ [])) u (rest a b t (body ++ u ∷ first ∷ (test ++ last ∷ end ∷ [])) h) in
      do_of a b (extent (t ∷ (body ++ u ∷ first ∷ (test ++ last ∷ end ∷ [])))) x c (r.0, stmt d a r.0 r.1, whole p r.0 b (before r.0 b test (last ∷ end ∷ []) (rest r.0 b first (test ++ last ∷ end ∷ []) r.2)))
  stmt (SpellsStmt.for {o = o} {c = c} {step = step} {x = x} {os = os} {cs = cs} {ss = ss} {body = body} t first middle last i n m l p q v d) a b h =
      let head = right a b (t ∷ []) (os ++ (cs ++ middle ∷ (ss ++ last ∷ body))) first h in
      let r = split a b os (cs ++ middle ∷ (ss ++ last ∷ body)) head in
      let u = around r.0 b cs (ss ++ last ∷ body) middle r.2 in
      let w = around u.0 b ss body last u.2 in
      for_of a b (extent (t ∷ first ∷ (os ++ (cs ++ middle ∷ (ss ++ last ∷ body))))) o c step x
      (r.0, u.0, w.0, begun p a r.0 r.1, held OfWhole (λ y ts k. whole k) q r.0 u.0 u.1, held OfSimple (λ y ts k. simple k) v u.0 w.0 w.1, stmt d w.0 b w.2)
  stmt (SpellsStmt.break t last i o) a b h = in_order a b (t ∷ last ∷ []) h
  stmt (SpellsStmt.continue t last i o) a b h = in_order a b (t ∷ last ∷ []) h
  stmt (SpellsStmt.return {ts = ts} t last i o p) a b h = held OfValue (λ y us k. value k) p a b (inside a b [] ts t last h)
  stmt (SpellsStmt.read {ts = ts} t start end i n m p) a b h = in_order a b (t ∷ (start ++ (ts ++ end))) h
  stmt (SpellsStmt.print {ts = ts} t first format comma end i o m c z p) a b h = whole p a b (before a b ts end (behind a b (t ∷ first ∷ format ∷ comma ∷ []) (ts ++ end) h))

  items : {xs : List Stmt} {ts : List Token} → SpellItems xs ts → (a b : ℕ) → Stand a ts b → Each OfStmt a xs b
  items SpellItems.none a b h = h
  items (SpellItems.decl_item {ts = ts} {us = us} p q) a b h = let r = split a b ts us h in (r.0, decl p a r.0 r.1, items q r.0 b r.2)
  items (SpellItems.stmt_item {ts = ts} {us = us} p q) a b h = let r = split a b ts us h in (r.0, stmt p a r.0 r.1, items q r.0 b r.2)

-- ---- sources

part : {x : Part} {ts : List Token} → SpellsPart x ts → (a b : ℕ) → Stand a ts b → OfPart a x b
part (SpellsPart.struct {ts = ts} s t first end i n o c p) a b h = in_order a b (s ∷ t ∷ first ∷ (ts ++ end)) h
part (SpellsPart.decl {ts = ts} p) a b h = in_order a b ts h
part (SpellsPart.function {hs = hs} {ts = ts} first last o c p q) a b h = items q a b (inside a b hs ts first last h)
part (SpellsPart.prototype {hs = hs} last i p) a b h = in_order a b (hs ++ last ∷ []) h

parts : {xs : List Part} {ts : List Token} → SpellAll SpellsPart xs ts → (a b : ℕ) → Stand a ts b → Each OfPart a xs b
parts SpellAll.none a b h = h
parts (SpellAll.more {ts = ts} {us = us} p q) a b h = let r = split a b ts us h in (r.0, part p a r.0 r.1, parts q r.0 b r.2)

pub source : {tree : Tree} {ts : List Token} → SpellsTree tree ts → (a b : ℕ) → Stand a ts b → Each OfPart a tree.parts b
source (SpellsTree.tree p) a b h = parts p a b h
