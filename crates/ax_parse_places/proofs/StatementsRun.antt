-- What a statement's parts go on with: each statement that is spelled.
use Rattle.std.proofs.Common.{◌≡◌, ℕ, Bool, true, false, List, [], ◌∷◌, ◌++◌, Option, Some, None, refl, sym, ap, ◌∙◌, arith}
use Rattle.std.proofs.lemmas.Option.{none-some}
use Rattle.std.proofs.lemmas.Bool.{false≢true}
use Rattle.ax_prog.specs.declared.tokens.Keyword.TheVariants as kw
use Rattle.ax_prog.specs.declared.tokens.Mark.TheVariants as m
use Rattle.ax_prog.specs.declared.tokens.Kind.{Kind}
use Rattle.ax_prog.specs.declared.tokens.Kind.TheVariants as k
use Rattle.ax_prog.specs.declared.tokens.Token.{Token}
use Rattle.ax_parse_grammar.specs.declared.starts.Start.{Start}
use Rattle.ax_parse_grammar.specs.declared.starts.Start.TheVariants as start
use Rattle.ax_parse_grammar.specs.declared.terminals.Terminal.TheVariants as w
use Rattle.ax_parse_grammar.specs.declared.tree.Expr.{Expr}
use Rattle.ax_parse_grammar.specs.declared.tree.Simple.{Simple}
use Rattle.ax_parse_grammar.specs.declared.tree.Opening.{Opening}
use Rattle.ax_parse_grammar.specs.declared.tree.Stmt.{Stmt}
use Rattle.ax_parse_grammar.specs.Starts.{start_of}
use Rattle.ax_parse_grammar.specs.Terminals.{Is, is}
use Rattle.ax_parse_grammar.specs.Expressions.{Spells}
use Rattle.ax_parse_grammar.specs.Statements.{SpellsSimple, SpellsOpening, SpellsMaybe, SpellsStmt, SpellItems}
use Rattle.ax_parse_grammar.proofs.Tools.{is_true}
use Rattle.ax_parse_places.specs.declared.symbols.Symbol.TheVariants as y
use Rattle.ax_parse_places.specs.Turns.{Stack, step, turn, unary, simple, simple_part, stmt, stmt_by, item_by, opening_by, test_of}
use Rattle.ax_parse_places.specs.Turns as turns
use Rattle.ax_parse_places.proofs.Runs.{Runs, go, re, expand, took, takes, not_it, on_other, are, before}
use Rattle.ax_parse_places.proofs.ExpressionsRun.{Room, eleven, expr}
use Rattle.ax_parse_places.proofs.SimplesRun.{simple_start, simples, at_semicolon, at_round}
use Rattle.ax_parse_places.proofs.DeclarationsRun.{decl}

-- ---- how parts begin

value_begins : {s : Stack} {ts : List Token} → Runs (y.Unary ∷ y.More ∷ y.Take w.Semicolon ∷ s) ts → Runs (y.Value ∷ s) ts
value_begins {s = s} q = expand (λ kind r e.
    let tail : Stack = y.More ∷ y.Take w.Semicolon ∷ s in
    let h : unary kind tail ≡ Some r = took (unary kind tail) r e in
    takes (turn y.Value kind s) None r (on_other w.Semicolon kind _ (unary kind tail) (not_it w.Semicolon kind (λ i. unary i tail) r refl h) ∙ h)) q

step_begins : {s : Stack} {ts : List Token} → Runs (y.Simple ∷ y.Take w.CloseRound ∷ s) ts → Runs (y.Step ∷ s) ts
step_begins {s = s} q = expand (λ kind r e.
    let tail : Stack = y.Take w.CloseRound ∷ s in
    let h : simple kind tail ≡ Some r = took (simple kind tail) r e in
    takes (turn y.Step kind s) None r (on_other w.CloseRound kind _ (simple kind tail) (not_it w.CloseRound kind (λ i. simple i tail) r refl h) ∙ h)) q

stmt_begins : {s : Stack} {ts : List Token} → Runs (y.Simple ∷ y.Take w.Semicolon ∷ s) ts → Runs (y.Stmt ∷ s) ts
stmt_begins {s = s} q = expand (λ kind r e.
    let tail : Stack = y.Take w.Semicolon ∷ s in
    let h : simple kind tail ≡ Some r = took (simple kind tail) r e in
    takes (turn y.Stmt kind s) None r (ap (λ (b : Start). stmt_by b kind s) (simple_start kind tail r h) ∙ h)) q

opening_begins : {s : Stack} {ts : List Token} → Runs (y.Simple ∷ y.Take w.Semicolon ∷ s) ts → Runs (y.Opening ∷ s) ts
opening_begins {s = s} q = expand (λ kind r e.
    let tail : Stack = y.Take w.Semicolon ∷ s in
    let h : simple kind tail ≡ Some r = took (simple kind tail) r e in
    let same : opening_by (start_of kind) kind s ≡ simple kind tail = ap (λ (b : Start). opening_by b kind s) (simple_start kind tail r h) in
    takes (turn y.Opening kind s) None r (on_other w.Semicolon kind _ (opening_by (start_of kind) kind s) (not_it w.Semicolon kind (λ i. simple i tail) r refl h) ∙ (same ∙ h))) q

-- how a declaration begins
decl_start : (kind : Kind) (s r : Stack) → turns.decl kind s ≡ Some r → start_of kind ≡ start.Decl
decl_start kind s r h = by (is w.Int kind) (is w.Struct kind) refl refl
  where
    by : (a b : Bool) → is w.Int kind ≡ a → is w.Struct kind ≡ b → start_of kind ≡ start.Decl
    by true b e f = ap start_of (is_true w.Int kind e)
    by false true e f = ap start_of (is_true w.Struct kind f)
    by false false e f =
        let none : turns.decl kind s ≡ None = rw e (rw f refl) in
        absurd (none-some r (sym none ∙ h))

opening_declares : {s : Stack} {ts : List Token} → Runs (y.Decl ∷ s) ts → Runs (y.Opening ∷ s) ts
opening_declares {s = s} q = expand (λ kind r e.
    let h : turns.decl kind s ≡ Some r = took (turns.decl kind s) r e in
    let same : opening_by (start_of kind) kind s ≡ turns.decl kind s = ap (λ (b : Start). opening_by b kind s) (decl_start kind s r h) in
    takes (turn y.Opening kind s) None r (on_other w.Semicolon kind _ (opening_by (start_of kind) kind s) (not_it w.Semicolon kind (λ i. turns.decl i s) r refl h) ∙ (same ∙ h))) q

items_declare : {s : Stack} {ts : List Token} → Runs (y.Decl ∷ y.Items ∷ s) ts → Runs (y.Items ∷ s) ts
items_declare {s = s} q = expand (λ kind r e.
    let tail : Stack = y.Items ∷ s in
    let h : turns.decl kind tail ≡ Some r = took (turns.decl kind tail) r e in
    let same : item_by (start_of kind) kind s ≡ turns.decl kind tail = ap (λ (b : Start). item_by b kind s) (decl_start kind tail r h) in
    takes (turn y.Items kind s) None r (on_other w.CloseCurly kind _ (item_by (start_of kind) kind s) (not_it w.CloseCurly kind (λ i. turns.decl i tail) r refl h) ∙ (same ∙ h))) q

item_is : (b : Start) (kind : Kind) (s r : Stack) → stmt_by b kind (y.Items ∷ s) ≡ Some r → item_by b kind s ≡ Some r
item_is start.Decl kind s r h = absurd (none-some r h)
item_is _ kind s r h = h

items_begin : {s : Stack} {ts : List Token} → Runs (y.Stmt ∷ y.Items ∷ s) ts → Runs (y.Items ∷ s) ts
items_begin {s = s} q = expand (λ kind r e.
    let tail : Stack = y.Items ∷ s in
    let h : stmt kind tail ≡ Some r = took (stmt kind tail) r e in
    takes (turn y.Items kind s) None r (on_other w.CloseCurly kind _ (item_by (start_of kind) kind s) (not_it w.CloseCurly kind (λ i. stmt i tail) r refl h) ∙ item_is (start_of kind) kind s r h)) q

-- ---- `else`

-- no `else` comes first
abbrev pub NoElse : List Token → Type 0
NoElse [] = Unit {0}
NoElse (t ∷ ts) = is w.Else t.kind ≡ false

no_else : {s : Stack} {ts : List Token} → Runs (y.Items ∷ s) ts → NoElse ts
no_else Runs.ends = tt
no_else {s = s} (Runs.reads {r = r} t e q) = not_it w.Else t.kind (λ i. step (y.Items ∷ s) i) r refl e

skip_else : {s : Stack} {ts : List Token} → NoElse ts → Runs s ts → Runs (y.Else ∷ s) ts
skip_else off Runs.ends = Runs.ends
skip_else off (Runs.reads t e q) = Runs.reads t (rw off e) q

-- ---- parts that may be left out

value : {o : Option Expr} {ts : List Token} → SpellsMaybe (Spells 0) o ts → (s : Stack) (u : Token) → Is w.Semicolon u → (rest : List Token) → Runs s rest → Runs (y.Value ∷ s) (ts ++ u ∷ rest)
value SpellsMaybe.nothing s u h rest q = go u h refl q
value (SpellsMaybe.some x) s u h rest q = value_begins (expr x (y.More ∷ y.Take w.Semicolon ∷ s) Room.wide (u ∷ rest) (go u h refl q))

third : {o : Option Simple} {ts : List Token} → SpellsMaybe SpellsSimple o ts → (s : Stack) (u : Token) → Is w.CloseRound u → (rest : List Token) → Runs s rest → Runs (y.Step ∷ s) (ts ++ u ∷ rest)
third SpellsMaybe.nothing s u h rest q = go u h refl q
third (SpellsMaybe.some x) s u h rest q = step_begins (simples x (y.Take w.CloseRound ∷ s) (u ∷ rest) (at_round u h q))

opening : {o : Opening} {ts : List Token} → SpellsOpening o ts → (s : Stack) (rest : List Token) → Runs s rest → Runs (y.Opening ∷ s) (ts ++ rest)
opening (SpellsOpening.nothing u h) s rest q = go u h refl q
opening (SpellsOpening.simple {ts = ts} u h x) s rest q = re _ ts (u ∷ []) rest (opening_begins (simples x (y.Take w.Semicolon ∷ s) (u ∷ rest) (at_semicolon u h q)))
opening (SpellsOpening.decl d) s rest q = opening_declares (decl d s rest q)

-- ---- statements

mutual
  pub statement : {f : Bool} {x : Stmt} {ts : List Token} → SpellsStmt f x ts → (s : Stack) (rest : List Token) → (f ≡ true → NoElse rest) → Runs s rest → Runs (y.Stmt ∷ s) (ts ++ rest)
  statement (SpellsStmt.empty t h) s rest off q = go t h refl q
  statement (SpellsStmt.block {ts = ts} t u h g xs) s rest off q = go t h refl (re _ ts (u ∷ []) rest (items xs s u g rest q))
  statement (SpellsStmt.simple {ts = ts} u h x) s rest off q = re _ ts (u ∷ []) rest (stmt_begins (simples x (y.Take w.Semicolon ∷ s) (u ∷ rest) (at_semicolon u h q)))
  statement (SpellsStmt.lone_if {test = test} {body = body} t a b h g i c x) s rest off q = go t h refl (go a g refl (re _ test (b ∷ body) rest (expr c (y.More ∷ y.Take w.CloseRound ∷ y.Stmt ∷ y.Else ∷ s) Room.wide (b ∷ (body ++ rest)) (go b i refl (statement x (y.Else ∷ s) rest (λ e. off refl) (skip_else (off refl) q))))))
  statement (SpellsStmt.if_else {test = test} {body = body} {other = other} t a b u h g i j c x z) s rest off q = go t h refl (go a g refl (re _ test (b ∷ (body ++ u ∷ other)) rest (expr c (y.More ∷ y.Take w.CloseRound ∷ y.Stmt ∷ y.Else ∷ s) Room.wide (b ∷ ((body ++ u ∷ other) ++ rest)) (go b i refl (re _ body (u ∷ other) rest (statement x (y.Else ∷ s) (u ∷ (other ++ rest)) (λ e. absurd (false≢true e)) (go u j refl (statement z s rest off q))))))))
  statement (SpellsStmt.while {test = test} {body = body} t a b h g i c x) s rest off q = go t h refl (go a g refl (re _ test (b ∷ body) rest (expr c (y.More ∷ y.Take w.CloseRound ∷ y.Stmt ∷ s) Room.wide (b ∷ (body ++ rest)) (go b i refl (statement x s rest off q)))))
  statement (SpellsStmt.do_while {body = body} {test = test} t u a b v h i j l n x c) s rest off q = go t h refl (re _ body (u ∷ a ∷ (test ++ b ∷ v ∷ [])) rest (statement x (y.Take w.While ∷ test_of (y.Take w.Semicolon ∷ s)) (u ∷ a ∷ ((test ++ b ∷ v ∷ []) ++ rest)) (λ e. ap (is w.Else) i) (go u i refl (go a j refl (re _ test (b ∷ v ∷ []) rest (expr c (y.More ∷ y.Take w.CloseRound ∷ y.Take w.Semicolon ∷ s) Room.wide (b ∷ v ∷ rest) (go b l refl (go v n refl q))))))))
  statement (SpellsStmt.for {os = os} {cs = cs} {ss = ss} {body = body} t a u b h g i j o c z x) s rest off q = go t h refl (go a g refl (re _ os (cs ++ u ∷ (ss ++ b ∷ body)) rest (opening o (y.Value ∷ y.Step ∷ y.Stmt ∷ s) ((cs ++ u ∷ (ss ++ b ∷ body)) ++ rest) (re _ cs (u ∷ (ss ++ b ∷ body)) rest (value c (y.Step ∷ y.Stmt ∷ s) u i ((ss ++ b ∷ body) ++ rest) (re _ ss (b ∷ body) rest (third z (y.Stmt ∷ s) b j (body ++ rest) (statement x s rest off q))))))))
  statement (SpellsStmt.break t u h g) s rest off q = go t h refl (go u g refl q)
  statement (SpellsStmt.continue t u h g) s rest off q = go t h refl (go u g refl q)
  statement (SpellsStmt.return {ts = ts} t u h g x) s rest off q = go t h refl (re _ ts (u ∷ []) rest (value x s u g rest q))
  statement (SpellsStmt.read {ts = ts} t first last h g i a) s rest off q =
      let closed = before w.CloseRound refl (are (w.CloseRound ∷ w.Semicolon ∷ []) last i q) in
      go t h refl (re _ first (ts ++ last) rest (are (w.OpenRound ∷ w.Format ∷ w.Comma ∷ w.Amp ∷ []) first g (re _ ts last rest (expr a (y.Take w.CloseRound ∷ y.Take w.Semicolon ∷ s) eleven (last ++ rest) closed))))
  statement (SpellsStmt.print {ts = ts} t a format comma last h g i j n x) s rest off q =
      let closed = before w.CloseRound refl (are (w.CloseRound ∷ w.Semicolon ∷ []) last n q) in
      go t h refl (go a g refl (go format i refl (go comma j refl (re _ ts last rest (expr x (y.More ∷ y.Take w.CloseRound ∷ y.Take w.Semicolon ∷ s) Room.wide (last ++ rest) closed)))))

  pub items : {xs : List Stmt} {ts : List Token} → SpellItems xs ts → (s : Stack) (last : Token) → Is w.CloseCurly last → (rest : List Token) → Runs s rest → Runs (y.Items ∷ s) (ts ++ last ∷ rest)
  items SpellItems.none s last h rest q = go last h refl q
  items (SpellItems.decl_item {ts = ts} {us = us} d xs) s last h rest q = re _ ts us (last ∷ rest) (items_declare (decl d (y.Items ∷ s) (us ++ last ∷ rest) (items xs s last h rest q)))
  items (SpellItems.stmt_item {ts = ts} {us = us} x xs) s last h rest q =
      let more = items xs s last h rest q in
      re _ ts us (last ∷ rest) (items_begin (statement x (y.Items ∷ s) (us ++ last ∷ rest) (λ e. no_else more) more))
