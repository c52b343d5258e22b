-- What is spelled the parser of statements reads.
use Rattle.std.proofs.Common.{◌≡◌, ℕ, suc, Bool, true, false, List, [], ◌∷◌, ◌++◌, Option, Some, None, refl, sym, ap, ◌∙◌, subst, arith, append_assoc}
use Rattle.std.proofs.lemmas.Bool.{false≢true}
use Rattle.std.proofs.lemmas.Option.{same_Some}
use Rattle.ax_prog.specs.declared.Span.{Span}
use Rattle.ax_prog.specs.declared.tokens.Keyword.TheVariants as kw
use Rattle.ax_prog.specs.declared.tokens.Mark.TheVariants as m
use Rattle.ax_prog.specs.declared.tokens.Kind.{Kind}
use Rattle.ax_prog.specs.declared.tokens.Kind.TheVariants as k
use Rattle.ax_prog.specs.declared.tokens.Token.{Token}
use Rattle.ax_parse_grammar.specs.declared.starts.Start.TheVariants as start
use Rattle.ax_parse_grammar.specs.declared.terminals.Terminal.{Terminal}
use Rattle.ax_parse_grammar.specs.declared.terminals.Terminal.TheVariants as w
use Rattle.ax_parse_grammar.specs.declared.tree.Base.{Base}
use Rattle.ax_parse_grammar.specs.declared.tree.Expr.{Expr}
use Rattle.ax_parse_grammar.specs.declared.tree.Decl.{Decl}
use Rattle.ax_parse_grammar.specs.declared.tree.Simple.{Simple}
use Rattle.ax_parse_grammar.specs.declared.tree.Opening.{Opening}
use Rattle.ax_parse_grammar.specs.declared.tree.Opening.TheVariants as opening
use Rattle.ax_parse_grammar.specs.declared.tree.Stmt.{Stmt}
use Rattle.ax_parse_grammar.specs.declared.tree.Stmt.TheVariants as s
use Rattle.ax_parse_grammar.specs.Operators.{step_of}
use Rattle.ax_parse_grammar.specs.Starts.{start_of}
use Rattle.ax_parse_grammar.specs.Terminals.{kind_of, Is, is, Are, extent}
use Rattle.ax_parse_grammar.specs.Expressions.{Spells}
use Rattle.ax_parse_grammar.specs.Declarations.{SpellsBase, SpellsDecl}
use Rattle.ax_parse_grammar.specs.Statements.{SpellsSimple, SpellsOpening, SpellsMaybe, SpellsStmt, SpellItems}
use Rattle.ax_parse_grammar.specs.Reading.{extent_to, after, past, next, until, maybe_until, Settles}
use Rattle.ax_parse_grammar.specs.ReadExpressions.{expr, unary}
use Rattle.ax_parse_grammar.specs.ReadDeclarations.{decl}
use Rattle.ax_parse_grammar.specs.ReadStatements.{simple_stmt, is_decl, begins_decl, test_by, opening_by, for_head_by, format_of, stmt, items}
use Rattle.ax_parse_grammar.proofs.Tools.{after_is, after_other, past_is, are_first, next_is, span_to, settle_0, settle_1, settle_2, settle_3, also_1, also_3, settles_at, settles_one, until_turn, maybe_reads}
use Rattle.ax_parse_grammar.proofs.ExpressionsRead.{Stops, stops_close, stops_semicolon, read, First, leads, first_then, expr_first, after_first, after_leads}
use Rattle.ax_parse_grammar.proofs.DeclarationsRead.{ended_close, ended_semicolon, decl_reads}
use Rattle.ax_parse_grammar.proofs.SimplesRead.{simple_reads}

-- ---- how things begin

-- simple statements
abbrev acts : Kind → Bool
acts (k.Name x) = true
acts (k.Number n) = true
acts (k.Mark m.OpenRound) = true
acts (k.Mark m.Minus) = true
acts (k.Mark m.Bang) = true
acts (k.Mark m.Tilde) = true
acts (k.Mark m.Star) = true
acts (k.Mark m.Amp) = true
acts (k.Mark m.PlusPlus) = true
acts (k.Mark m.MinusMinus) = true
acts _ = false

-- statements
abbrev stands : Kind → Bool
stands (k.Name x) = true
stands (k.Number n) = true
stands (k.Mark m.OpenRound) = true
stands (k.Mark m.Minus) = true
stands (k.Mark m.Bang) = true
stands (k.Mark m.Tilde) = true
stands (k.Mark m.Star) = true
stands (k.Mark m.Amp) = true
stands (k.Mark m.PlusPlus) = true
stands (k.Mark m.MinusMinus) = true
stands (k.Mark m.Semicolon) = true
stands (k.Mark m.OpenCurly) = true
stands (k.Keyword kw.If) = true
stands (k.Keyword kw.While) = true
stands (k.Keyword kw.Do) = true
stands (k.Keyword kw.For) = true
stands (k.Keyword kw.Break) = true
stands (k.Keyword kw.Continue) = true
stands (k.Keyword kw.Return) = true
stands (k.Keyword kw.Scanf) = true
stands (k.Keyword kw.Printf) = true
stands _ = false

-- declarations
abbrev pub declares : Kind → Bool
declares (k.Keyword kw.Int) = true
declares (k.Keyword kw.Struct) = true
declares _ = false

leads_acts : (kind : Kind) → leads kind ≡ true → acts kind ≡ true
leads_acts (k.Name x) h = refl
leads_acts (k.Number n) h = refl
leads_acts (k.Mark m.OpenRound) h = refl
leads_acts (k.Mark m.Minus) h = refl
leads_acts (k.Mark m.Bang) h = refl
leads_acts (k.Mark m.Tilde) h = refl
leads_acts (k.Mark m.Star) h = refl
leads_acts (k.Mark m.Amp) h = refl
leads_acts _ h = absurd (false≢true h)

step_acts : (kind : Kind) (up : Bool) → step_of kind ≡ Some up → acts kind ≡ true
step_acts (k.Mark m.PlusPlus) up h = refl
step_acts (k.Mark m.MinusMinus) up h = refl
step_acts _ up h = cc

acts_stands : (kind : Kind) → acts kind ≡ true → stands kind ≡ true
acts_stands (k.Name x) h = refl
acts_stands (k.Number n) h = refl
acts_stands (k.Mark m.OpenRound) h = refl
acts_stands (k.Mark m.Minus) h = refl
acts_stands (k.Mark m.Bang) h = refl
acts_stands (k.Mark m.Tilde) h = refl
acts_stands (k.Mark m.Star) h = refl
acts_stands (k.Mark m.Amp) h = refl
acts_stands (k.Mark m.PlusPlus) h = refl
acts_stands (k.Mark m.MinusMinus) h = refl
acts_stands _ h = absurd (false≢true h)

acts_start : (kind : Kind) → acts kind ≡ true → start_of kind ≡ start.Simple
acts_start (k.Name x) h = refl
acts_start (k.Number n) h = refl
acts_start (k.Mark m.OpenRound) h = refl
acts_start (k.Mark m.Minus) h = refl
acts_start (k.Mark m.Bang) h = refl
acts_start (k.Mark m.Tilde) h = refl
acts_start (k.Mark m.Star) h = refl
acts_start (k.Mark m.Amp) h = refl
acts_start (k.Mark m.PlusPlus) h = refl
acts_start (k.Mark m.MinusMinus) h = refl
acts_start _ h = absurd (false≢true h)

stands_no_decl : (kind : Kind) → stands kind ≡ true → is_decl (start_of kind) ≡ false
stands_no_decl (k.Keyword kw.Int) h = absurd (false≢true h)
stands_no_decl (k.Keyword kw.Struct) h = absurd (false≢true h)
stands_no_decl (k.Mark m.Semicolon) h = refl
stands_no_decl (k.Mark m.OpenCurly) h = refl
stands_no_decl _ h = refl

declares_decl : (kind : Kind) → declares kind ≡ true → is_decl (start_of kind) ≡ true
declares_decl (k.Keyword kw.Int) h = refl
declares_decl (k.Keyword kw.Struct) h = refl
declares_decl _ h = absurd (false≢true h)

first_as : (p q : Kind → Bool) (ts : List Token) → ((kind : Kind) → p kind ≡ true → q kind ≡ true) → First p ts → First q ts
first_as p q ts step f = record { t = f.t; rest = f.rest; is = f.is; holds = step f.t.kind f.holds }

left_first : {l : ℕ} {a : Expr} {ts : List Token} → Spells l a ts → First acts ts
left_first {ts = ts} s = first_as leads acts ts leads_acts (expr_first s)

simple_first : (x : Simple) (ts : List Token) → SpellsSimple x ts → First acts ts
simple_first x ts (SpellsSimple.assign {ts = us} {us = vs} t h s r) = first_then acts us (t ∷ vs) (left_first s)
simple_first x ts (SpellsSimple.change {ts = us} {us = vs} t h s r) = first_then acts us (t ∷ vs) (left_first s)
simple_first x ts (SpellsSimple.behind {ts = us} t h s) = first_then acts us (t ∷ []) (left_first s)
simple_first x ts (SpellsSimple.before {up = up} {ts = us} t h s) = record { t = t; rest = us; is = refl; holds = step_acts t.kind up h }
simple_first x ts (SpellsSimple.call {ts = us} {us = vs} t u h g s r) = first_then acts us (t ∷ (vs ++ u ∷ [])) (left_first s)

pub base_first : {x : Base} {bs : List Token} → SpellsBase x bs → First declares bs
base_first (SpellsBase.int t h) = record { t = t; rest = []; is = refl; holds = ap declares h }
base_first (SpellsBase.struct t u h g) = record { t = t; rest = u ∷ []; is = refl; holds = ap declares h }

pub decl_first : (d : Decl) (ts : List Token) → SpellsDecl d ts → First declares ts
decl_first d ts (SpellsDecl.decl {bs = bs} {ts = us} t h s r) = first_then declares bs (us ++ t ∷ []) (base_first s)

first_is : (what : Terminal) (t : Token) (us : List Token) → Is what t → stands (kind_of what) ≡ true → First stands (t ∷ us)
first_is what t us h on = record { t = t; rest = us; is = refl; holds = ap stands h ∙ on }

stmt_first : {f : Bool} {x : Stmt} {ts : List Token} → SpellsStmt f x ts → First stands ts
stmt_first (SpellsStmt.empty t h) = first_is w.Semicolon t [] h refl
stmt_first (SpellsStmt.block {ts = ts} t u h g r) = first_is w.OpenCurly t (ts ++ u ∷ []) h refl
stmt_first (SpellsStmt.simple {x = x} {ts = ts} u h r) = first_then stands ts (u ∷ []) (first_as acts stands ts acts_stands (simple_first x ts r))
stmt_first (SpellsStmt.lone_if {test = test} {body = body} t a b h g l c r) = first_is w.If t (a ∷ (test ++ b ∷ body)) h refl
stmt_first (SpellsStmt.if_else {test = test} {body = body} {other = other} t a b u h g l j c r q) = first_is w.If t (a ∷ (test ++ b ∷ (body ++ u ∷ other))) h refl
stmt_first (SpellsStmt.while {test = test} {body = body} t a b h g l c r) = first_is w.While t (a ∷ (test ++ b ∷ body)) h refl
stmt_first (SpellsStmt.do_while {body = body} {test = test} t u a b d h g l j q r c) = first_is w.Do t (body ++ u ∷ a ∷ (test ++ b ∷ d ∷ [])) h refl
stmt_first (SpellsStmt.for {os = os} {cs = cs} {ss = ss} {body = body} t a u b h g l j o c q r) = first_is w.For t (a ∷ (os ++ (cs ++ u ∷ (ss ++ b ∷ body)))) h refl
stmt_first (SpellsStmt.break t u h g) = first_is w.Break t (u ∷ []) h refl
stmt_first (SpellsStmt.continue t u h g) = first_is w.Continue t (u ∷ []) h refl
stmt_first (SpellsStmt.return {ts = ts} t u h g r) = first_is w.Return t (ts ++ u ∷ []) h refl
stmt_first (SpellsStmt.read {ts = ts} t a b h g l r) = first_is w.Scanf t (a ++ (ts ++ b)) h refl
stmt_first (SpellsStmt.print {ts = ts} t a f c b h g l j q r) = first_is w.Printf t (a ∷ f ∷ c ∷ (ts ++ b)) h refl

stmt_no_decl : (ts rest : List Token) → First stands ts → begins_decl (ts ++ rest) ≡ false
stmt_no_decl ts rest f = ap (λ (w : List Token). begins_decl (w ++ rest)) f.is ∙ stands_no_decl f.t.kind f.holds

decl_begins : (ts rest : List Token) → First declares ts → begins_decl (ts ++ rest) ≡ true
decl_begins ts rest f = ap (λ (w : List Token). begins_decl (w ++ rest)) f.is ∙ declares_decl f.t.kind f.holds

-- behind a statement of a block stands no `else`
items_quiet : (xs : List Stmt) (ts : List Token) → SpellItems xs ts → (t : Token) (rest : List Token) → Is w.CloseCurly t → after w.Else (ts ++ t ∷ rest) ≡ None
items_quiet xs ts SpellItems.none t rest h = after_other w.Else w.CloseCurly t rest h refl
items_quiet xs ts (SpellItems.decl_item {d = d} {ts = us} {us = vs} s r) t rest h = ap (after w.Else) (append_assoc us vs (t ∷ rest)) ∙ after_first declares w.Else us (vs ++ t ∷ rest) (decl_first d us s) refl
items_quiet xs ts (SpellItems.stmt_item {ts = us} {us = vs} s r) t rest h = ap (after w.Else) (append_assoc us vs (t ∷ rest)) ∙ after_first stands w.Else us (vs ++ t ∷ rest) (stmt_first s) refl

-- ---- one turn each

test_turn : (n : ℕ) (ts us r rest : List Token) (c : Expr) → after w.OpenRound ts ≡ Some us → expr n us ≡ Some (c, r) → after w.CloseRound r ≡ Some rest → test_by (expr n) ts ≡ Some (c, rest)
test_turn n ts us r rest c a b d = rw a (until_turn w.CloseRound (expr n) us r rest c b d)

test_reads : (c : Expr) (test : List Token) (first last : Token) → Is w.OpenRound first → Is w.CloseRound last → Spells 0 c test → (rest : List Token) → Settles (λ n. test_by (expr n) (first ∷ (test ++ last ∷ rest))) (Some (c, rest))
test_reads c test first last h g s rest = also_1 (λ n. expr n (test ++ last ∷ rest)) (Some (c, last ∷ rest)) (λ n. test_by (expr n) (first ∷ (test ++ last ∷ rest))) (Some (c, rest)) ((read s).expr (last ∷ rest) (stops_close last rest g)) (λ n one. test_turn n (first ∷ (test ++ last ∷ rest)) (test ++ last ∷ rest) (last ∷ rest) rest c (after_is w.OpenRound first (test ++ last ∷ rest) h) one (after_is w.CloseRound last rest g))

empty_turn : (n : ℕ) (t : Token) (us : List Token) → start_of t.kind ≡ start.Empty → stmt (suc n) (t ∷ us) ≡ Some (s.Empty (extent_to (t ∷ us) us), us)
unfolding stmt
empty_turn n t us is = rw is refl

block_turn : (n : ℕ) (t : Token) (us rest : List Token) (xs : List Stmt) → start_of t.kind ≡ start.Block → items n us ≡ Some (xs, rest) → stmt (suc n) (t ∷ us) ≡ Some (s.Block (extent_to (t ∷ us) rest) xs, rest)
unfolding stmt
block_turn n t us rest xs is one = rw is (rw one refl)

simple_turn : (n : ℕ) (t : Token) (us rest : List Token) (x : Simple) → start_of t.kind ≡ start.Simple → until w.Semicolon (simple_stmt n) (t ∷ us) ≡ Some (x, rest) → stmt (suc n) (t ∷ us) ≡ Some (s.Simple (extent_to (t ∷ us) rest) x, rest)
unfolding stmt
simple_turn n t us rest x is one = rw is (rw one refl)

if_turn : (n : ℕ) (t : Token) (us r rest : List Token) (c : Expr) (x : Stmt) → start_of t.kind ≡ start.If → test_by (expr n) us ≡ Some (c, r) → stmt n r ≡ Some (x, rest) → after w.Else rest ≡ None → stmt (suc n) (t ∷ us) ≡ Some (s.If (extent_to (t ∷ us) rest) c x, rest)
unfolding stmt
if_turn n t us r rest c x is one two three = rw is (rw one (rw two (rw three refl)))

else_turn : (n : ℕ) (t : Token) (us r v o rest : List Token) (c : Expr) (x y : Stmt) → start_of t.kind ≡ start.If → test_by (expr n) us ≡ Some (c, r) → stmt n r ≡ Some (x, v) → after w.Else v ≡ Some o → stmt n o ≡ Some (y, rest) → stmt (suc n) (t ∷ us) ≡ Some (s.IfElse (extent_to (t ∷ us) rest) c x y, rest)
unfolding stmt
else_turn n t us r v o rest c x y is one two three four = rw is (rw one (rw two (rw three (rw four refl))))

while_turn : (n : ℕ) (t : Token) (us r rest : List Token) (c : Expr) (x : Stmt) → start_of t.kind ≡ start.While → test_by (expr n) us ≡ Some (c, r) → stmt n r ≡ Some (x, rest) → stmt (suc n) (t ∷ us) ≡ Some (s.While (extent_to (t ∷ us) rest) c x, rest)
unfolding stmt
while_turn n t us r rest c x is one two = rw is (rw one (rw two refl))

do_turn : (n : ℕ) (t : Token) (us r v o rest : List Token) (c : Expr) (x : Stmt) → start_of t.kind ≡ start.Do → stmt n us ≡ Some (x, r) → after w.While r ≡ Some v → test_by (expr n) v ≡ Some (c, o) → after w.Semicolon o ≡ Some rest → stmt (suc n) (t ∷ us) ≡ Some (s.Do (extent_to (t ∷ us) rest) x c, rest)
unfolding stmt
do_turn n t us r v o rest c x is one two three four = rw is (rw one (rw two (rw three (rw four refl))))

for_turn : (n : ℕ) (t : Token) (us vs r rest : List Token) (o : Opening) (c : Option Expr) (step : Option Simple) (x : Stmt) → start_of t.kind ≡ start.For → after w.OpenRound us ≡ Some vs → for_head_by (expr n) (decl n) (simple_stmt n) vs ≡ Some ((o, (c, step)), r) → stmt n r ≡ Some (x, rest) → stmt (suc n) (t ∷ us) ≡ Some (s.For (extent_to (t ∷ us) rest) o c step x, rest)
unfolding stmt
for_turn n t us vs r rest o c step x is one two three = rw is (rw one (rw two (rw three refl)))

for_head_turn : (n : ℕ) (ts u v rest : List Token) (o : Opening) (c : Option Expr) (step : Option Simple) → opening_by (decl n) (simple_stmt n) ts ≡ Some (o, u) → maybe_until w.Semicolon (expr n) u ≡ Some (c, v) → maybe_until w.CloseRound (simple_stmt n) v ≡ Some (step, rest) → for_head_by (expr n) (decl n) (simple_stmt n) ts ≡ Some ((o, (c, step)), rest)
for_head_turn n ts u v rest o c step one two three = rw one (rw two (rw three refl))

break_turn : (n : ℕ) (t : Token) (us rest : List Token) → start_of t.kind ≡ start.Break → after w.Semicolon us ≡ Some rest → stmt (suc n) (t ∷ us) ≡ Some (s.Break (extent_to (t ∷ us) rest), rest)
unfolding stmt
break_turn n t us rest is one = rw is (rw one refl)

continue_turn : (n : ℕ) (t : Token) (us rest : List Token) → start_of t.kind ≡ start.Continue → after w.Semicolon us ≡ Some rest → stmt (suc n) (t ∷ us) ≡ Some (s.Continue (extent_to (t ∷ us) rest), rest)
unfolding stmt
continue_turn n t us rest is one = rw is (rw one refl)

return_turn : (n : ℕ) (t : Token) (us rest : List Token) (x : Option Expr) → start_of t.kind ≡ start.Return → maybe_until w.Semicolon (expr n) us ≡ Some (x, rest) → stmt (suc n) (t ∷ us) ≡ Some (s.Return (extent_to (t ∷ us) rest) x, rest)
unfolding stmt
return_turn n t us rest x is one = rw is (rw one refl)

read_turn : (n : ℕ) (t : Token) (us v o rest : List Token) (a : Expr) → start_of t.kind ≡ start.Read → past (w.OpenRound ∷ w.Format ∷ w.Comma ∷ w.Amp ∷ []) us ≡ Some v → unary n v ≡ Some (a, o) → past (w.CloseRound ∷ w.Semicolon ∷ []) o ≡ Some rest → stmt (suc n) (t ∷ us) ≡ Some (s.Read (extent_to (t ∷ us) rest) a, rest)
unfolding stmt
read_turn n t us v o rest a is one two three = rw is (rw one (rw two (rw three refl)))

print_turn : (n : ℕ) (t : Token) (us v u p o rest : List Token) (i : ℕ) (a : Expr) → start_of t.kind ≡ start.Print → after w.OpenRound us ≡ Some v → next format_of v ≡ Some (i, u) → after w.Comma u ≡ Some p → expr n p ≡ Some (a, o) → past (w.CloseRound ∷ w.Semicolon ∷ []) o ≡ Some rest → stmt (suc n) (t ∷ us) ≡ Some (s.Print (extent_to (t ∷ us) rest) i a, rest)
unfolding stmt
print_turn n t us v u p o rest i a is one two three four five = rw is (rw one (rw two (rw three (rw four (rw five refl)))))

items_end : (n : ℕ) (ts rest : List Token) → after w.CloseCurly ts ≡ Some rest → items (suc n) ts ≡ Some ([], rest)
unfolding items
items_end n ts rest is = rw is refl

items_decl : (n : ℕ) (ts r rest : List Token) (d : Decl) (xs : List Stmt) → after w.CloseCurly ts ≡ None → begins_decl ts ≡ true → decl n ts ≡ Some (d, r) → items n r ≡ Some (xs, rest) → items (suc n) ts ≡ Some (s.Decl d ∷ xs, rest)
unfolding items
items_decl n ts r rest d xs off is one two = rw off (rw is (rw one (rw two refl)))

items_stmt : (n : ℕ) (ts r rest : List Token) (x : Stmt) (xs : List Stmt) → after w.CloseCurly ts ≡ None → begins_decl ts ≡ false → stmt n ts ≡ Some (x, r) → items n r ≡ Some (xs, rest) → items (suc n) ts ≡ Some (x ∷ xs, rest)
unfolding items
items_stmt n ts r rest x xs off is one two = rw off (rw is (rw one (rw two refl)))

-- ---- what is spelled is read

abbrev pub StmtReads : Bool → Stmt → List Token → Type 0
StmtReads f x ts = (rest : List Token) → (f ≡ true → after w.Else rest ≡ None) → Settles (λ n. stmt n (ts ++ rest)) (Some (x, rest))

-- the items and `}`
abbrev pub ItemsRead : List Stmt → List Token → Type 0
ItemsRead xs ts = (t : Token) (rest : List Token) → Is w.CloseCurly t → Settles (λ n. items n (ts ++ t ∷ rest)) (Some (xs, rest))

-- with the span of the front
spanned : (g : Span → Stmt) (front rest flat : List Token) → flat ≡ front ++ rest → Settles (λ n. stmt n flat) (Some (g (extent_to flat rest), rest)) → Settles (λ n. stmt n (front ++ rest)) (Some (g (extent front), rest))
spanned g front rest flat same a = subst (λ (at : Span). Settles (λ n. stmt n (front ++ rest)) (Some (g at, rest))) (span_to flat front rest same) (settles_at stmt flat (front ++ rest) (Some (g (extent_to flat rest), rest)) same a)

block_reads : (xs : List Stmt) (ts : List Token) (t u : Token) → Is w.OpenCurly t → Is w.CloseCurly u → ItemsRead xs ts → (rest : List Token) → Settles (λ n. stmt n ((t ∷ (ts ++ u ∷ [])) ++ rest)) (Some (s.Block (extent (t ∷ (ts ++ u ∷ []))) xs, rest))
block_reads xs ts t u h g r rest =
    let flat : List Token = t ∷ (ts ++ u ∷ rest) in
    spanned (λ (at : Span). s.Block at xs) (t ∷ (ts ++ u ∷ [])) rest flat (ap (λ (w : List Token). t ∷ w) (sym (append_assoc ts (u ∷ []) rest))) (settle_1 (λ n. items n (ts ++ u ∷ rest)) (Some (xs, rest)) (λ n. stmt n flat) (Some (s.Block (extent_to flat rest) xs, rest)) (r u rest g) (λ n one. block_turn n t (ts ++ u ∷ rest) rest xs (ap start_of h) one))

simple_stmt_reads : (x : Simple) (ts : List Token) (u : Token) → Is w.Semicolon u → SpellsSimple x ts → (rest : List Token) → Settles (λ n. stmt n ((ts ++ u ∷ []) ++ rest)) (Some (s.Simple (extent (ts ++ u ∷ [])) x, rest))
simple_stmt_reads x ts u h r rest =
    let f = simple_first x ts r in
    let flat : List Token = ts ++ u ∷ rest in
    let begin : flat ≡ f.t ∷ (f.rest ++ u ∷ rest) = ap (λ (w : List Token). w ++ u ∷ rest) f.is in
    let whole : Settles (λ n. stmt n (f.t ∷ (f.rest ++ u ∷ rest))) (Some (s.Simple (extent_to (f.t ∷ (f.rest ++ u ∷ rest)) rest) x, rest)) = settle_1 (λ n. simple_stmt n (f.t ∷ (f.rest ++ u ∷ rest))) (Some (x, u ∷ rest)) (λ n. stmt n (f.t ∷ (f.rest ++ u ∷ rest))) (Some (s.Simple (extent_to (f.t ∷ (f.rest ++ u ∷ rest)) rest) x, rest)) (settles_at simple_stmt flat (f.t ∷ (f.rest ++ u ∷ rest)) (Some (x, u ∷ rest)) begin (simple_reads x ts r (u ∷ rest) (ended_semicolon u rest h))) (λ n one. simple_turn n f.t (f.rest ++ u ∷ rest) rest x (acts_start f.t.kind f.holds) (until_turn w.Semicolon (simple_stmt n) (f.t ∷ (f.rest ++ u ∷ rest)) (u ∷ rest) rest x one (after_is w.Semicolon u rest h))) in
    spanned (λ (at : Span). s.Simple at x) (ts ++ u ∷ []) rest (f.t ∷ (f.rest ++ u ∷ rest)) (sym begin ∙ sym (append_assoc ts (u ∷ []) rest)) whole

if_reads : (f : Bool) (c : Expr) (x : Stmt) (test body : List Token) (t a b : Token) → Is w.If t → Is w.OpenRound a → Is w.CloseRound b → Spells 0 c test → StmtReads f x body → (rest : List Token) → after w.Else rest ≡ None → Settles (λ n. stmt n ((t ∷ a ∷ (test ++ b ∷ body)) ++ rest)) (Some (s.If (extent (t ∷ a ∷ (test ++ b ∷ body))) c x, rest))
if_reads f c x test body t a b h g l q r rest quiet =
    let us : List Token = a ∷ (test ++ b ∷ (body ++ rest)) in
    spanned (λ (at : Span). s.If at c x) (t ∷ a ∷ (test ++ b ∷ body)) rest (t ∷ us) (ap (λ (w : List Token). t ∷ a ∷ w) (sym (append_assoc test (b ∷ body) rest))) (settle_2 (λ n. test_by (expr n) us) (Some (c, body ++ rest)) (λ n. stmt n (body ++ rest)) (Some (x, rest)) (λ n. stmt n (t ∷ us)) (Some (s.If (extent_to (t ∷ us) rest) c x, rest)) (test_reads c test a b g l q (body ++ rest)) (r rest (λ flag. quiet)) (λ n one two. if_turn n t us (body ++ rest) rest c x (ap start_of h) one two quiet))

else_reads : (f : Bool) (c : Expr) (x y : Stmt) (test body other : List Token) (t a b u : Token) → Is w.If t → Is w.OpenRound a → Is w.CloseRound b → Is w.Else u → Spells 0 c test → StmtReads false x body → StmtReads f y other → StmtReads f (s.IfElse (extent (t ∷ a ∷ (test ++ b ∷ (body ++ u ∷ other)))) c x y) (t ∷ a ∷ (test ++ b ∷ (body ++ u ∷ other)))
else_reads f c x y test body other t a b u h g l j q r z rest quiet =
    let tail : List Token = u ∷ (other ++ rest) in
    let us : List Token = a ∷ (test ++ b ∷ (body ++ tail)) in
    let same : t ∷ us ≡ (t ∷ a ∷ (test ++ b ∷ (body ++ u ∷ other))) ++ rest = ap (λ (w : List Token). t ∷ a ∷ w) (ap (λ (w : List Token). test ++ b ∷ w) (sym (append_assoc body (u ∷ other) rest)) ∙ sym (append_assoc test (b ∷ (body ++ u ∷ other)) rest)) in
    spanned (λ (at : Span). s.IfElse at c x y) (t ∷ a ∷ (test ++ b ∷ (body ++ u ∷ other))) rest (t ∷ us) same (settle_3 (λ n. test_by (expr n) us) (Some (c, body ++ tail)) (λ n. stmt n (body ++ tail)) (Some (x, tail)) (λ n. stmt n (other ++ rest)) (Some (y, rest)) (λ n. stmt n (t ∷ us)) (Some (s.IfElse (extent_to (t ∷ us) rest) c x y, rest)) (test_reads c test a b g l q (body ++ tail)) (r tail (λ flag. absurd (false≢true flag))) (z rest quiet) (λ n one two three. else_turn n t us (body ++ tail) tail (other ++ rest) rest c x y (ap start_of h) one two (after_is w.Else u (other ++ rest) j) three))

while_reads : (f : Bool) (c : Expr) (x : Stmt) (test body : List Token) (t a b : Token) → Is w.While t → Is w.OpenRound a → Is w.CloseRound b → Spells 0 c test → StmtReads f x body → StmtReads f (s.While (extent (t ∷ a ∷ (test ++ b ∷ body))) c x) (t ∷ a ∷ (test ++ b ∷ body))
while_reads f c x test body t a b h g l q r rest quiet =
    let us : List Token = a ∷ (test ++ b ∷ (body ++ rest)) in
    spanned (λ (at : Span). s.While at c x) (t ∷ a ∷ (test ++ b ∷ body)) rest (t ∷ us) (ap (λ (w : List Token). t ∷ a ∷ w) (sym (append_assoc test (b ∷ body) rest))) (settle_2 (λ n. test_by (expr n) us) (Some (c, body ++ rest)) (λ n. stmt n (body ++ rest)) (Some (x, rest)) (λ n. stmt n (t ∷ us)) (Some (s.While (extent_to (t ∷ us) rest) c x, rest)) (test_reads c test a b g l q (body ++ rest)) (r rest quiet) (λ n one two. while_turn n t us (body ++ rest) rest c x (ap start_of h) one two))

do_reads : (f : Bool) (c : Expr) (x : Stmt) (body test : List Token) (t u a b d : Token) → Is w.Do t → Is w.While u → Is w.OpenRound a → Is w.CloseRound b → Is w.Semicolon d → StmtReads f x body → Spells 0 c test → (rest : List Token) → Settles (λ n. stmt n ((t ∷ (body ++ u ∷ a ∷ (test ++ b ∷ d ∷ []))) ++ rest)) (Some (s.Do (extent (t ∷ (body ++ u ∷ a ∷ (test ++ b ∷ d ∷ [])))) x c, rest))
do_reads f c x body test t u a b d h g l j o r q rest =
    let tail : List Token = a ∷ (test ++ b ∷ d ∷ rest) in
    let us : List Token = body ++ u ∷ tail in
    let same : t ∷ us ≡ (t ∷ (body ++ u ∷ a ∷ (test ++ b ∷ d ∷ []))) ++ rest = ap (λ (w : List Token). t ∷ w) (ap (λ (w : List Token). body ++ u ∷ a ∷ w) (sym (append_assoc test (b ∷ d ∷ []) rest)) ∙ sym (append_assoc body (u ∷ a ∷ (test ++ b ∷ d ∷ [])) rest)) in
    spanned (λ (at : Span). s.Do at x c) (t ∷ (body ++ u ∷ a ∷ (test ++ b ∷ d ∷ []))) rest (t ∷ us) same (settle_2 (λ n. stmt n us) (Some (x, u ∷ tail)) (λ n. test_by (expr n) tail) (Some (c, d ∷ rest)) (λ n. stmt n (t ∷ us)) (Some (s.Do (extent_to (t ∷ us) rest) x c, rest)) (r (u ∷ tail) (λ flag. after_other w.Else w.While u tail g refl)) (test_reads c test a b l j q (d ∷ rest)) (λ n one two. do_turn n t us (u ∷ tail) tail (d ∷ rest) rest c x (ap start_of h) one (after_is w.While u tail g) two (after_is w.Semicolon d rest o)))

nothing_opens : (n : ℕ) (ts rest : List Token) → after w.Semicolon ts ≡ Some rest → opening_by (decl n) (simple_stmt n) ts ≡ Some (opening.Nothing, rest)
nothing_opens n ts rest is = rw is refl

decl_opens : (n : ℕ) (ts rest : List Token) (d : Decl) → after w.Semicolon ts ≡ None → begins_decl ts ≡ true → decl n ts ≡ Some (d, rest) → opening_by (decl n) (simple_stmt n) ts ≡ Some (opening.Decl d, rest)
decl_opens n ts rest d off is one = rw off (rw is (rw one refl))

simple_opens : (n : ℕ) (ts rest : List Token) (x : Simple) → after w.Semicolon ts ≡ None → begins_decl ts ≡ false → until w.Semicolon (simple_stmt n) ts ≡ Some (x, rest) → opening_by (decl n) (simple_stmt n) ts ≡ Some (opening.Simple x, rest)
simple_opens n ts rest x off is one = rw off (rw is (rw one refl))

opening_reads : (o : Opening) (ts : List Token) → SpellsOpening o ts → (rest : List Token) → Settles (λ n. opening_by (decl n) (simple_stmt n) (ts ++ rest)) (Some (o, rest))
opening_reads o ts (SpellsOpening.nothing t h) rest = (0, λ m le. nothing_opens m (t ∷ rest) rest (after_is w.Semicolon t rest h))
opening_reads o ts (SpellsOpening.simple {x = x} {ts = us} t h r) rest =
    let f = simple_first x us r in
    let flat : List Token = us ++ t ∷ rest in
    settles_at (λ n w. opening_by (decl n) (simple_stmt n) w) flat ((us ++ t ∷ []) ++ rest) (Some (opening.Simple x, rest)) (sym (append_assoc us (t ∷ []) rest)) (also_1 (λ n. simple_stmt n flat) (Some (x, t ∷ rest)) (λ n. opening_by (decl n) (simple_stmt n) flat) (Some (opening.Simple x, rest)) (simple_reads x us r (t ∷ rest) (ended_semicolon t rest h)) (λ n one. simple_opens n flat rest x (after_first acts w.Semicolon us (t ∷ rest) f refl) (stmt_no_decl us (t ∷ rest) (first_as acts stands us acts_stands f)) (until_turn w.Semicolon (simple_stmt n) flat (t ∷ rest) rest x one (after_is w.Semicolon t rest h))))
opening_reads o ts (SpellsOpening.decl {d = d} {ts = us} r) rest = also_1 (λ n. decl n (us ++ rest)) (Some (d, rest)) (λ n. opening_by (decl n) (simple_stmt n) (us ++ rest)) (Some (opening.Decl d, rest)) (decl_reads d us r rest) (λ n one. decl_opens n (us ++ rest) rest d (after_first declares w.Semicolon us rest (decl_first d us r) refl) (decl_begins us rest (decl_first d us r)) one)

-- an expression that may be left out, and `;`
condition_reads : (c : Option Expr) (ts : List Token) → SpellsMaybe (Spells 0) c ts → (t : Token) (rest : List Token) → Is w.Semicolon t → Settles (λ n. maybe_until w.Semicolon (expr n) (ts ++ t ∷ rest)) (Some (c, rest))
condition_reads c ts r t rest h = maybe_reads (Spells 0) w.Semicolon expr (λ x us q u more g. (read q).expr (u ∷ more) (stops_semicolon u more g)) (λ x us q more. after_leads w.Semicolon us more (expr_first q) refl) c ts r t rest h

-- a simple statement that may be left out, and `)`
step_reads : (x : Option Simple) (ts : List Token) → SpellsMaybe SpellsSimple x ts → (t : Token) (rest : List Token) → Is w.CloseRound t → Settles (λ n. maybe_until w.CloseRound (simple_stmt n) (ts ++ t ∷ rest)) (Some (x, rest))
step_reads x ts r t rest h = maybe_reads SpellsSimple w.CloseRound simple_stmt (λ y us q u more g. simple_reads y us q (u ∷ more) (ended_close u more g)) (λ y us q more. after_first acts w.CloseRound us more (simple_first y us q) refl) x ts r t rest h

for_reads : (f : Bool) (o : Opening) (c : Option Expr) (step : Option Simple) (x : Stmt) (os cs ss body : List Token) (t a u b : Token) → Is w.For t → Is w.OpenRound a → Is w.Semicolon u → Is w.CloseRound b → SpellsOpening o os → SpellsMaybe (Spells 0) c cs → SpellsMaybe SpellsSimple step ss → StmtReads f x body → StmtReads f (s.For (extent (t ∷ a ∷ (os ++ (cs ++ u ∷ (ss ++ b ∷ body))))) o c step x) (t ∷ a ∷ (os ++ (cs ++ u ∷ (ss ++ b ∷ body))))
for_reads f o c step x os cs ss body t a u b h g l j p q v r rest quiet =
    let third : List Token = ss ++ b ∷ (body ++ rest) in
    let second : List Token = cs ++ u ∷ third in
    let us : List Token = a ∷ (os ++ second) in
    let one_same : third ≡ (ss ++ b ∷ body) ++ rest = sym (append_assoc ss (b ∷ body) rest) in
    let two_same : second ≡ (cs ++ u ∷ (ss ++ b ∷ body)) ++ rest = ap (λ (w : List Token). cs ++ u ∷ w) one_same ∙ sym (append_assoc cs (u ∷ (ss ++ b ∷ body)) rest) in
    let same : t ∷ us ≡ (t ∷ a ∷ (os ++ (cs ++ u ∷ (ss ++ b ∷ body)))) ++ rest = ap (λ (w : List Token). t ∷ a ∷ w) (ap (λ (w : List Token). os ++ w) two_same ∙ sym (append_assoc os (cs ++ u ∷ (ss ++ b ∷ body)) rest)) in
    let head : Settles (λ n. for_head_by (expr n) (decl n) (simple_stmt n) (os ++ second)) (Some ((o, (c, step)), body ++ rest)) = also_3 (λ n. opening_by (decl n) (simple_stmt n) (os ++ second)) (Some (o, second)) (λ n. maybe_until w.Semicolon (expr n) second) (Some (c, third)) (λ n. maybe_until w.CloseRound (simple_stmt n) third) (Some (step, body ++ rest)) (λ n. for_head_by (expr n) (decl n) (simple_stmt n) (os ++ second)) (Some ((o, (c, step)), body ++ rest)) (opening_reads o os p second) (condition_reads c cs q u third l) (step_reads step ss v b (body ++ rest) j) (λ n one two three. for_head_turn n (os ++ second) second third (body ++ rest) o c step one two three) in
    spanned (λ (at : Span). s.For at o c step x) (t ∷ a ∷ (os ++ (cs ++ u ∷ (ss ++ b ∷ body)))) rest (t ∷ us) same (settle_2 (λ n. for_head_by (expr n) (decl n) (simple_stmt n) (os ++ second)) (Some ((o, (c, step)), body ++ rest)) (λ n. stmt n (body ++ rest)) (Some (x, rest)) (λ n. stmt n (t ∷ us)) (Some (s.For (extent_to (t ∷ us) rest) o c step x, rest)) head (r rest quiet) (λ n one two. for_turn n t us (os ++ second) (body ++ rest) rest o c step x (ap start_of h) (after_is w.OpenRound a (os ++ second) g) one two))

return_reads : (x : Option Expr) (ts : List Token) (t u : Token) → Is w.Return t → Is w.Semicolon u → SpellsMaybe (Spells 0) x ts → (rest : List Token) → Settles (λ n. stmt n ((t ∷ (ts ++ u ∷ [])) ++ rest)) (Some (s.Return (extent (t ∷ (ts ++ u ∷ []))) x, rest))
return_reads x ts t u h g r rest =
    let us : List Token = ts ++ u ∷ rest in
    spanned (λ (at : Span). s.Return at x) (t ∷ (ts ++ u ∷ [])) rest (t ∷ us) (ap (λ (w : List Token). t ∷ w) (sym (append_assoc ts (u ∷ []) rest))) (settle_1 (λ n. maybe_until w.Semicolon (expr n) us) (Some (x, rest)) (λ n. stmt n (t ∷ us)) (Some (s.Return (extent_to (t ∷ us) rest) x, rest)) (condition_reads x ts r u rest g) (λ n one. return_turn n t us rest x (ap start_of h) one))

-- `)` and what follows it ends an expression
stops_are : (whats : List Terminal) (end rest : List Token) → Are (w.CloseRound ∷ whats) end → Stops (end ++ rest)
stops_are whats end rest h = let f = are_first w.CloseRound whats end h in subst (λ (l : List Token). Stops (l ++ rest)) (sym f.2) (stops_close f.0 (f.1 ++ rest) f.3)

read_reads : (a : Expr) (ts : List Token) (t : Token) (begin end : List Token) → Is w.Scanf t → Are (w.OpenRound ∷ w.Format ∷ w.Comma ∷ w.Amp ∷ []) begin → Are (w.CloseRound ∷ w.Semicolon ∷ []) end → Spells 11 a ts → (rest : List Token) → Settles (λ n. stmt n ((t ∷ (begin ++ (ts ++ end))) ++ rest)) (Some (s.Read (extent (t ∷ (begin ++ (ts ++ end)))) a, rest))
read_reads a ts t begin end h g l r rest =
    let tail : List Token = ts ++ (end ++ rest) in
    let us : List Token = begin ++ tail in
    let same : t ∷ us ≡ (t ∷ (begin ++ (ts ++ end))) ++ rest = ap (λ (w : List Token). t ∷ w) (ap (λ (w : List Token). begin ++ w) (sym (append_assoc ts end rest)) ∙ sym (append_assoc begin (ts ++ end) rest)) in
    spanned (λ (at : Span). s.Read at a) (t ∷ (begin ++ (ts ++ end))) rest (t ∷ us) same (settle_1 (λ n. unary n tail) (Some (a, end ++ rest)) (λ n. stmt n (t ∷ us)) (Some (s.Read (extent_to (t ∷ us) rest) a, rest)) ((read r).unary (omega arith) (end ++ rest) ((stops_are (w.Semicolon ∷ []) end rest l).post)) (λ n one. read_turn n t us tail (end ++ rest) rest a (ap start_of h) (past_is (w.OpenRound ∷ w.Format ∷ w.Comma ∷ w.Amp ∷ []) begin tail g) one (past_is (w.CloseRound ∷ w.Semicolon ∷ []) end rest l)))

print_reads : (i : ℕ) (a : Expr) (ts : List Token) (t first format comma : Token) (end : List Token) → Is w.Printf t → Is w.OpenRound first → format.kind ≡ k.Format i → Is w.Comma comma → Are (w.CloseRound ∷ w.Semicolon ∷ []) end → Spells 0 a ts → (rest : List Token) → Settles (λ n. stmt n ((t ∷ first ∷ format ∷ comma ∷ (ts ++ end)) ++ rest)) (Some (s.Print (extent (t ∷ first ∷ format ∷ comma ∷ (ts ++ end))) i a, rest))
print_reads i a ts t first format comma end h g l j q r rest =
    let tail : List Token = ts ++ (end ++ rest) in
    let us : List Token = first ∷ format ∷ comma ∷ tail in
    spanned (λ (at : Span). s.Print at i a) (t ∷ first ∷ format ∷ comma ∷ (ts ++ end)) rest (t ∷ us) (ap (λ (w : List Token). t ∷ first ∷ format ∷ comma ∷ w) (sym (append_assoc ts end rest))) (settle_1 (λ n. expr n tail) (Some (a, end ++ rest)) (λ n. stmt n (t ∷ us)) (Some (s.Print (extent_to (t ∷ us) rest) i a, rest)) ((read r).expr (end ++ rest) (stops_are (w.Semicolon ∷ []) end rest q)) (λ n one. print_turn n t us (format ∷ comma ∷ tail) (comma ∷ tail) tail (end ++ rest) rest i a (ap start_of h) (after_is w.OpenRound first (format ∷ comma ∷ tail) g) (next_is format_of format (comma ∷ tail) i (ap format_of l)) (after_is w.Comma comma tail j) one (past_is (w.CloseRound ∷ w.Semicolon ∷ []) end rest q)))

mutual
  pub stmt_reads : {f : Bool} {x : Stmt} {ts : List Token} → SpellsStmt f x ts → StmtReads f x ts
  stmt_reads (SpellsStmt.empty t h) = λ rest quiet. spanned (λ (at : Span). s.Empty at) (t ∷ []) rest (t ∷ rest) refl (settle_0 (λ n. stmt n (t ∷ rest)) (Some (s.Empty (extent_to (t ∷ rest) rest), rest)) (λ n. empty_turn n t rest (ap start_of h)))
  stmt_reads (SpellsStmt.block {xs = xs} {ts = ts} t u h g r) = λ rest quiet. block_reads xs ts t u h g (items_read r) rest
  stmt_reads (SpellsStmt.simple {x = x} {ts = ts} u h r) = λ rest quiet. simple_stmt_reads x ts u h r rest
  stmt_reads (SpellsStmt.lone_if {f = f} {c = c} {x = x} {test = test} {body = body} t a b h g l q r) = λ rest quiet. if_reads f c x test body t a b h g l q (stmt_reads r) rest (quiet refl)
  stmt_reads (SpellsStmt.if_else {f = f} {c = c} {x = x} {y = y} {test = test} {body = body} {other = other} t a b u h g l j q r z) = else_reads f c x y test body other t a b u h g l j q (stmt_reads r) (stmt_reads z)
  stmt_reads (SpellsStmt.while {f = f} {c = c} {x = x} {test = test} {body = body} t a b h g l q r) = while_reads f c x test body t a b h g l q (stmt_reads r)
  stmt_reads (SpellsStmt.do_while {f = f} {c = c} {x = x} {body = body} {test = test} t u a b d h g l j o r q) = λ rest quiet. do_reads f c x body test t u a b d h g l j o (stmt_reads r) q rest
  stmt_reads (SpellsStmt.for {f = f} {o = o} {c = c} {step = step} {x = x} {os = os} {cs = cs} {ss = ss} {body = body} t a u b h g l j p q v r) = for_reads f o c step x os cs ss body t a u b h g l j p q v (stmt_reads r)
  stmt_reads (SpellsStmt.break t u h g) = λ rest quiet. spanned (λ (at : Span). s.Break at) (t ∷ u ∷ []) rest (t ∷ u ∷ rest) refl (settle_0 (λ n. stmt n (t ∷ u ∷ rest)) (Some (s.Break (extent_to (t ∷ u ∷ rest) rest), rest)) (λ n. break_turn n t (u ∷ rest) rest (ap start_of h) (after_is w.Semicolon u rest g)))
  stmt_reads (SpellsStmt.continue t u h g) = λ rest quiet. spanned (λ (at : Span). s.Continue at) (t ∷ u ∷ []) rest (t ∷ u ∷ rest) refl (settle_0 (λ n. stmt n (t ∷ u ∷ rest)) (Some (s.Continue (extent_to (t ∷ u ∷ rest) rest), rest)) (λ n. continue_turn n t (u ∷ rest) rest (ap start_of h) (after_is w.Semicolon u rest g)))
  stmt_reads (SpellsStmt.return {x = x} {ts = ts} t u h g r) = λ rest quiet. return_reads x ts t u h g r rest
  stmt_reads (SpellsStmt.read {a = a} {ts = ts} t b d h g l r) = λ rest quiet. read_reads a ts t b d h g l r rest
  stmt_reads (SpellsStmt.print {n = i} {a = a} {ts = ts} t b f c d h g l j q r) = λ rest quiet. print_reads i a ts t b f c d h g l j q r rest

  pub items_read : {xs : List Stmt} {ts : List Token} → SpellItems xs ts → ItemsRead xs ts
  items_read SpellItems.none = λ t rest h. settle_0 (λ n. items n (t ∷ rest)) (Some ([], rest)) (λ n. items_end n (t ∷ rest) rest (after_is w.CloseCurly t rest h))
  items_read (SpellItems.decl_item {d = d} {xs = xs} {ts = ts} {us = us} q r) = λ t rest h.
      let tail : List Token = us ++ t ∷ rest in
      settles_at items (ts ++ tail) ((ts ++ us) ++ t ∷ rest) (Some (s.Decl d ∷ xs, rest)) (sym (append_assoc ts us (t ∷ rest))) (settle_2 (λ n. decl n (ts ++ tail)) (Some (d, tail)) (λ n. items n tail) (Some (xs, rest)) (λ n. items n (ts ++ tail)) (Some (s.Decl d ∷ xs, rest)) (decl_reads d ts q tail) (items_read r t rest h) (λ n one two. items_decl n (ts ++ tail) tail rest d xs (after_first declares w.CloseCurly ts tail (decl_first d ts q) refl) (decl_begins ts tail (decl_first d ts q)) one two))
  items_read (SpellItems.stmt_item {x = x} {xs = xs} {ts = ts} {us = us} q r) = λ t rest h.
      let tail : List Token = us ++ t ∷ rest in
      settles_at items (ts ++ tail) ((ts ++ us) ++ t ∷ rest) (Some (x ∷ xs, rest)) (sym (append_assoc ts us (t ∷ rest))) (settle_2 (λ n. stmt n (ts ++ tail)) (Some (x, tail)) (λ n. items n tail) (Some (xs, rest)) (λ n. items n (ts ++ tail)) (Some (x ∷ xs, rest)) (stmt_reads q tail (λ flag. items_quiet xs us r t rest h)) (items_read r t rest h) (λ n one two. items_stmt n (ts ++ tail) tail rest x xs (after_first stands w.CloseCurly ts tail (stmt_first q) refl) (stmt_no_decl ts tail (stmt_first q)) one two))

-- a token list spells at most one statement
pub one_stmt : (f g : Bool) (x y : Stmt) (ts : List Token) → SpellsStmt f x ts → SpellsStmt g y ts → x ≡ y
one_stmt f g x y ts a b = ap (λ (z : Stmt × List Token). z.0) (same_Some (x, []) (y, []) (settles_one (λ n. stmt n (ts ++ [])) (Some (x, [])) (Some (y, [])) (stmt_reads a [] (λ flag. refl)) (stmt_reads b [] (λ flag. refl))))
