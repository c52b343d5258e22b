-- The parser of statements as functions on lists; private contracts alone cite this.
use Rattle.std.specs.Prelude.{ℕ, zero, suc, Bool, true, false, if◌then◌else◌, List, [], ◌∷◌, Option, Some, None}
use Rattle.ax_prog.specs.declared.tokens.Kind.{Kind}
use Rattle.ax_prog.specs.declared.tokens.Kind.TheVariants as k
use Rattle.ax_prog.specs.declared.tokens.Token.{Token}
use Rattle.ax_parse_grammar.specs.declared.starts.Start.{Start}
use Rattle.ax_parse_grammar.specs.declared.starts.Start.TheVariants as start
use Rattle.ax_parse_grammar.specs.declared.terminals.Terminal.TheVariants as w
use Rattle.ax_parse_grammar.specs.declared.tree.Expr.{Expr}
use Rattle.ax_parse_grammar.specs.declared.tree.Decl.{Decl}
use Rattle.ax_parse_grammar.specs.declared.tree.Simple.{Simple}
use Rattle.ax_parse_grammar.specs.declared.tree.Simple.TheVariants as act
use Rattle.ax_parse_grammar.specs.declared.tree.Opening.{Opening}
use Rattle.ax_parse_grammar.specs.declared.tree.Opening.TheVariants as opening
use Rattle.ax_parse_grammar.specs.declared.tree.Stmt.{Stmt}
use Rattle.ax_parse_grammar.specs.declared.tree.Stmt.TheVariants as s
use Rattle.ax_parse_grammar.specs.Operators.{prefix_of, compound_of, step_of}
use Rattle.ax_parse_grammar.specs.Starts.{start_of}
use Rattle.ax_parse_grammar.specs.Reading.{Parser, ◌>>=◌, choose, extent_to, after, past, next, until, maybe_until}
use Rattle.ax_parse_grammar.specs.ReadExpressions.{Found, Chain, expr, unary, postfix}
use Rattle.ax_parse_grammar.specs.ReadDeclarations.{decl}

-- ---- simple statements

-- behind the left side x: an assignment, or else d
abbrev pub assign_by : Parser Expr → List Token → Found → Option (Simple × List Token) → Option (Simple × List Token)
assign_by whole ts x d = choose (after w.Assign x.1) (choose (next compound_of x.1) d (λ o. whole o.1 >>= λ y. Some (act.Change (extent_to ts y.1) x.0 o.0 y.0, y.1))) (λ us. whole us >>= λ y. Some (act.Assign (extent_to ts y.1) x.0 y.0, y.1))

abbrev pub call_by : List Token → Chain → Option (Simple × List Token)
call_by ts c = if (c.0).1 then Some (act.Call (extent_to ts c.1) (c.0).0, c.1) else None

abbrev pub chain_by : Parser Expr → List Token → Chain → Option (Simple × List Token)
chain_by whole ts c = choose (next step_of c.1) (assign_by whole ts ((c.0).0, c.1) (call_by ts c)) (λ p. Some (act.Step (extent_to ts p.1) (c.0).0 p.0, p.1))

abbrev pub left_by : Parser Expr → Parser Expr → (List Token → Option Chain) → Parser Simple
left_by whole unary postfix ts = choose (next prefix_of ts) (postfix ts >>= chain_by whole ts) (λ p. unary ts >>= λ x. assign_by whole ts x None)

abbrev pub simple_by : Parser Expr → Parser Expr → (List Token → Option Chain) → Parser Simple
simple_by whole unary postfix ts = choose (next step_of ts) (left_by whole unary postfix ts) (λ p. unary p.1 >>= λ x. Some (act.Step (extent_to ts x.1) x.0 p.0, x.1))

abbrev pub simple_stmt : ℕ → Parser Simple
simple_stmt n ts = simple_by (expr n) (unary n) (postfix n) ts

-- ---- statements

abbrev pub Stood : Type 0
Stood = Stmt × List Token

abbrev pub is_decl : Start → Bool
is_decl start.Decl = true
is_decl _ = false

abbrev pub begins_decl : List Token → Bool
begins_decl [] = false
begins_decl (t ∷ ts) = is_decl (start_of t.kind)

-- an expression in the parentheses of a statement
abbrev pub test_by : Parser Expr → Parser Expr
test_by whole ts = choose (after w.OpenRound ts) None (λ us. until w.CloseRound whole us)

abbrev pub opening_by : Parser Decl → Parser Simple → Parser Opening
opening_by decl simple ts = choose (after w.Semicolon ts) (if begins_decl ts then (decl ts >>= λ d. Some (opening.Decl d.0, d.1)) else (until w.Semicolon simple ts >>= λ x. Some (opening.Simple x.0, x.1))) (λ rest. Some (opening.Nothing, rest))

abbrev pub else_by : Parser Stmt → List Token → Expr → Stood → Option Stood
else_by part ts c a = choose (after w.Else a.1) (Some (s.If (extent_to ts a.1) c a.0, a.1)) (λ rest. part rest >>= λ b. Some (s.IfElse (extent_to ts b.1) c a.0 b.0, b.1))

abbrev pub if_by : Parser Expr → Parser Stmt → List Token → Parser Stmt
if_by whole part ts us = test_by whole us >>= λ c. part c.1 >>= else_by part ts c.0

abbrev pub while_by : Parser Expr → Parser Stmt → List Token → Parser Stmt
while_by whole part ts us = test_by whole us >>= λ c. part c.1 >>= λ x. Some (s.While (extent_to ts x.1) c.0 x.0, x.1)

abbrev pub do_by : Parser Expr → Parser Stmt → List Token → Parser Stmt
do_by whole part ts us = until w.While part us >>= λ x. until w.Semicolon (test_by whole) x.1 >>= λ c. Some (s.Do (extent_to ts c.1) x.0 c.0, c.1)

abbrev pub for_head_by : Parser Expr → Parser Decl → Parser Simple → Parser (Opening × (Option Expr × Option Simple))
for_head_by whole decl simple ts = opening_by decl simple ts >>= λ o. maybe_until w.Semicolon whole o.1 >>= λ c. maybe_until w.CloseRound simple c.1 >>= λ x. Some ((o.0, (c.0, x.0)), x.1)

abbrev pub for_by : Parser Expr → Parser Decl → Parser Simple → Parser Stmt → List Token → Parser Stmt
for_by whole decl simple part ts us = choose (after w.OpenRound us) None (λ vs. for_head_by whole decl simple vs >>= λ h. part h.1 >>= λ x. Some (s.For (extent_to ts x.1) (h.0).0 ((h.0).1).0 ((h.0).1).1 x.0, x.1))

abbrev pub return_by : Parser Expr → List Token → Parser Stmt
return_by whole ts us = maybe_until w.Semicolon whole us >>= λ x. Some (s.Return (extent_to ts x.1) x.0, x.1)

abbrev pub read_by : Parser Expr → List Token → Parser Stmt
read_by unary ts us = choose (past (w.OpenRound ∷ w.Format ∷ w.Comma ∷ w.Amp ∷ []) us) None (λ vs. unary vs >>= λ a. choose (past (w.CloseRound ∷ w.Semicolon ∷ []) a.1) None (λ rest. Some (s.Read (extent_to ts rest) a.0, rest)))

abbrev pub format_of : Kind → Option ℕ
format_of (k.Format n) = Some n
format_of _ = None

abbrev pub print_by : Parser Expr → List Token → Parser Stmt
print_by whole ts us = choose (after w.OpenRound us) None (λ vs. until w.Comma (next format_of) vs >>= λ n. whole n.1 >>= λ a. choose (past (w.CloseRound ∷ w.Semicolon ∷ []) a.1) None (λ rest. Some (s.Print (extent_to ts rest) n.0 a.0, rest)))

-- by how it begins; us are the tokens after the first of ts
abbrev pub stmt_by : ℕ → Parser Stmt → Parser (List Stmt) → List Token → List Token → Start → Option Stood
stmt_by n part items ts us start.Empty = Some (s.Empty (extent_to ts us), us)
stmt_by n part items ts us start.Block = items us >>= λ xs. Some (s.Block (extent_to ts xs.1) xs.0, xs.1)
stmt_by n part items ts us start.Decl = None
stmt_by n part items ts us start.If = if_by (expr n) part ts us
stmt_by n part items ts us start.While = while_by (expr n) part ts us
stmt_by n part items ts us start.Do = do_by (expr n) part ts us
stmt_by n part items ts us start.For = for_by (expr n) (decl n) (simple_stmt n) part ts us
stmt_by n part items ts us start.Break = choose (after w.Semicolon us) None (λ rest. Some (s.Break (extent_to ts rest), rest))
stmt_by n part items ts us start.Continue = choose (after w.Semicolon us) None (λ rest. Some (s.Continue (extent_to ts rest), rest))
stmt_by n part items ts us start.Return = return_by (expr n) ts us
stmt_by n part items ts us start.Read = read_by (unary n) ts us
stmt_by n part items ts us start.Print = print_by (expr n) ts us
stmt_by n part items ts us start.Simple = until w.Semicolon (simple_stmt n) ts >>= λ x. Some (s.Simple (extent_to ts x.1) x.0, x.1)

abbrev pub item_by : Parser Decl → Parser Stmt → Parser Stmt
item_by decl part ts = if begins_decl ts then (decl ts >>= λ d. Some (s.Decl d.0, d.1)) else part ts

abbrev pub items_by : Parser Stmt → Parser (List Stmt) → Parser (List Stmt)
items_by item again ts = choose (after w.CloseCurly ts) (item ts >>= λ x. again x.1 >>= λ xs. Some (x.0 ∷ xs.0, xs.1)) (λ rest. Some ([], rest))

unfoldable mutual
  pub stmt : ℕ → Parser Stmt
  stmt zero ts = None
  stmt (suc n) [] = None
  stmt (suc n) (t ∷ ts) = stmt_by n (stmt n) (items n) (t ∷ ts) ts (start_of t.kind)

  -- the items of a block and `}`
  pub items : ℕ → Parser (List Stmt)
  items zero ts = None
  items (suc n) ts = items_by (item_by (decl n) (stmt n)) (items n) ts
