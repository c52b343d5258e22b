-- What the definitions give at each kind of node.
use Rattle.std.proofs.Common.{◌≡◌, ℕ, suc, ◌+◌, ◌<◌, arith, List, [], ◌∷◌, Option, Some, None, refl, ap, ◌∙◌, sym}
use Rattle.ax_prog.specs.declared.Span.{Span}
use Rattle.ax_prog.specs.declared.Bin.{Bin}
use Rattle.ax_parse_grammar.specs.declared.tree.Prefix.{Prefix}
use Rattle.ax_parse_grammar.specs.declared.tree.Name as name
use Rattle.ax_parse_grammar.specs.declared.tree.Expr.{Expr, Name, Number, Unary', Binary', Cond', Index', Member', Arrow', Call'}
use Rattle.ax_parse_grammar.specs.declared.tree.Expr.TheBlock as b
use Rattle.ax_parse_grammar.specs.declared.tree.Expr.TheVariants as e
use Rattle.ax_parse_grammar.specs.declared.tree.Expr.TheBlock.{shape-the_row-Expr-0, hidden-the_row-Expr-0, shape-the_row-Expr-1, hidden-the_row-Expr-1}
use Rattle.ax_parse_grammar.specs.declared.tree.Simple.{Simple}
use Rattle.ax_parse_grammar.specs.declared.tree.Opening.{Opening}
use Rattle.ax_parse_grammar.specs.declared.tree.Stmt.{Stmt}
use Rattle.ax_parse_grammar.specs.declared.tree.Stmt.TheVariants as s
use Rattle.ax_parse_grammar.specs.declared.tree.Stmt.TheBlock.{shape-the_row-Stmt-0, hidden-the_row-Stmt-0, shape-the_row-Stmt-1, hidden-the_row-Stmt-1}
use Rattle.ax_parse_limits.specs.Calls.{◌or◌, first_of, maybe, first_call, front, behind_front, first_in_row, inner_call, call_in_simple, call_in_opening, call_in_stmt, call_in_row}
use denote.Hole.Carrier

-- ---- expressions

pub first_call-Unary : (at : Span) (op : Prefix) (a : Expr) → first_call (e.Unary at op a) ≡ (first_call a)
unfolding shape-the_row-Expr-0 hidden-the_row-Expr-0 Carrier.hidden
first_call-Unary at op a = refl

pub first_call-Binary : (at : Span) (op : Bin) (a b : Expr) → first_call (e.Binary at op a b) ≡ (first_call a or first_call b)
unfolding shape-the_row-Expr-0 hidden-the_row-Expr-0 Carrier.hidden
first_call-Binary at op a b = refl

pub first_call-Cond : (at : Span) (c a b : Expr) → first_call (e.Cond at c a b) ≡ (first_call c or first_call a or first_call b)
unfolding shape-the_row-Expr-0 hidden-the_row-Expr-0 Carrier.hidden
first_call-Cond at c a b = refl

pub first_call-Index : (at : Span) (a i : Expr) → first_call (e.Index at a i) ≡ (first_call a or first_call i)
unfolding shape-the_row-Expr-0 hidden-the_row-Expr-0 Carrier.hidden
first_call-Index at a i = refl

pub first_call-Member : (at : Span) (a : Expr) (x : name.Name) → first_call (e.Member at a x) ≡ (first_call a)
unfolding shape-the_row-Expr-0 hidden-the_row-Expr-0 Carrier.hidden
first_call-Member at a x = refl

pub first_call-Arrow : (at : Span) (a : Expr) (x : name.Name) → first_call (e.Arrow at a x) ≡ (first_call a)
unfolding shape-the_row-Expr-0 hidden-the_row-Expr-0 Carrier.hidden
first_call-Arrow at a x = refl

row_is_list : (xs : List Expr) → first_in_row (hidden-the_row-Expr-1 xs) ≡ first_of first_call xs
unfolding shape-the_row-Expr-0 hidden-the_row-Expr-0 shape-the_row-Expr-1 hidden-the_row-Expr-1 Carrier.hidden
row_is_list [] = refl
row_is_list (x ∷ xs) = ap (λ (o : Option ℕ). first_call x or o) (row_is_list xs)

pub inner_call-Call : (at : Span) (f : Expr) (xs : List Expr) → inner_call (e.Call at f xs) ≡ (first_call f or first_of first_call xs)
unfolding shape-the_row-Expr-0 hidden-the_row-Expr-0 shape-the_row-Expr-1 hidden-the_row-Expr-1 Carrier.hidden
inner_call-Call at f xs = ap (λ (o : Option ℕ). first_call f or o) (row_is_list xs)

pub inner_call-Unary : (at : Span) (op : Prefix) (a : Expr) → inner_call (e.Unary at op a) ≡ (first_call (e.Unary at op a))
unfolding shape-the_row-Expr-0 hidden-the_row-Expr-0 Carrier.hidden
inner_call-Unary at op a = refl

pub inner_call-Binary : (at : Span) (op : Bin) (a b : Expr) → inner_call (e.Binary at op a b) ≡ (first_call (e.Binary at op a b))
unfolding shape-the_row-Expr-0 hidden-the_row-Expr-0 Carrier.hidden
inner_call-Binary at op a b = refl

pub inner_call-Cond : (at : Span) (c a b : Expr) → inner_call (e.Cond at c a b) ≡ (first_call (e.Cond at c a b))
unfolding shape-the_row-Expr-0 hidden-the_row-Expr-0 Carrier.hidden
inner_call-Cond at c a b = refl

pub inner_call-Index : (at : Span) (a i : Expr) → inner_call (e.Index at a i) ≡ (first_call (e.Index at a i))
unfolding shape-the_row-Expr-0 hidden-the_row-Expr-0 Carrier.hidden
inner_call-Index at a i = refl

pub inner_call-Member : (at : Span) (a : Expr) (x : name.Name) → inner_call (e.Member at a x) ≡ (first_call (e.Member at a x))
unfolding shape-the_row-Expr-0 hidden-the_row-Expr-0 Carrier.hidden
inner_call-Member at a x = refl

pub inner_call-Arrow : (at : Span) (a : Expr) (x : name.Name) → inner_call (e.Arrow at a x) ≡ (first_call (e.Arrow at a x))
unfolding shape-the_row-Expr-0 hidden-the_row-Expr-0 Carrier.hidden
inner_call-Arrow at a x = refl

-- how many expressions it has, calls taken whole
abbrev pub size : Expr → ℕ
size (Name at x) = 1
size (Number at n) = 1
size (Unary' at op s (b.more_of-Expr a b.end_of-Expr)) = suc (size a)
size (Binary' at op s (b.more_of-Expr a b.end_of-Expr) t (b.more_of-Expr c b.end_of-Expr)) = suc (size a + size c)
size (Cond' at s (b.more_of-Expr c b.end_of-Expr) t (b.more_of-Expr a b.end_of-Expr) u (b.more_of-Expr d b.end_of-Expr)) = suc (size c + size a + size d)
size (Index' at s (b.more_of-Expr a b.end_of-Expr) t (b.more_of-Expr i b.end_of-Expr)) = suc (size a + size i)
size (Member' at s (b.more_of-Expr a b.end_of-Expr) x) = suc (size a)
size (Arrow' at s (b.more_of-Expr a b.end_of-Expr) x) = suc (size a)
size (Call' at s row t args) = 1

pub size-Unary : (at : Span) (op : Prefix) (a : Expr) → size (e.Unary at op a) ≡ (suc (size a))
unfolding shape-the_row-Expr-0 hidden-the_row-Expr-0 Carrier.hidden
size-Unary at op a = refl

pub front-Unary : (at : Span) (op : Prefix) (a : Expr) → front (e.Unary at op a) ≡ (Some a)
unfolding shape-the_row-Expr-0 hidden-the_row-Expr-0 Carrier.hidden
front-Unary at op a = refl

pub behind_front-Unary : (at : Span) (op : Prefix) (a : Expr) → behind_front (e.Unary at op a) ≡ (None)
unfolding shape-the_row-Expr-0 hidden-the_row-Expr-0 Carrier.hidden
behind_front-Unary at op a = refl

pub size-Binary : (at : Span) (op : Bin) (a b : Expr) → size (e.Binary at op a b) ≡ (suc (size a + size b))
unfolding shape-the_row-Expr-0 hidden-the_row-Expr-0 Carrier.hidden
size-Binary at op a b = refl

pub front-Binary : (at : Span) (op : Bin) (a b : Expr) → front (e.Binary at op a b) ≡ (Some a)
unfolding shape-the_row-Expr-0 hidden-the_row-Expr-0 Carrier.hidden
front-Binary at op a b = refl

pub behind_front-Binary : (at : Span) (op : Bin) (a b : Expr) → behind_front (e.Binary at op a b) ≡ (first_call b)
unfolding shape-the_row-Expr-0 hidden-the_row-Expr-0 Carrier.hidden
behind_front-Binary at op a b = refl

pub size-Cond : (at : Span) (c a b : Expr) → size (e.Cond at c a b) ≡ (suc (size c + size a + size b))
unfolding shape-the_row-Expr-0 hidden-the_row-Expr-0 Carrier.hidden
size-Cond at c a b = refl

pub front-Cond : (at : Span) (c a b : Expr) → front (e.Cond at c a b) ≡ (Some c)
unfolding shape-the_row-Expr-0 hidden-the_row-Expr-0 Carrier.hidden
front-Cond at c a b = refl

pub behind_front-Cond : (at : Span) (c a b : Expr) → behind_front (e.Cond at c a b) ≡ (first_call a or first_call b)
unfolding shape-the_row-Expr-0 hidden-the_row-Expr-0 Carrier.hidden
behind_front-Cond at c a b = refl

pub size-Index : (at : Span) (a i : Expr) → size (e.Index at a i) ≡ (suc (size a + size i))
unfolding shape-the_row-Expr-0 hidden-the_row-Expr-0 Carrier.hidden
size-Index at a i = refl

pub front-Index : (at : Span) (a i : Expr) → front (e.Index at a i) ≡ (Some a)
unfolding shape-the_row-Expr-0 hidden-the_row-Expr-0 Carrier.hidden
front-Index at a i = refl

pub behind_front-Index : (at : Span) (a i : Expr) → behind_front (e.Index at a i) ≡ (first_call i)
unfolding shape-the_row-Expr-0 hidden-the_row-Expr-0 Carrier.hidden
behind_front-Index at a i = refl

pub size-Member : (at : Span) (a : Expr) (x : name.Name) → size (e.Member at a x) ≡ (suc (size a))
unfolding shape-the_row-Expr-0 hidden-the_row-Expr-0 Carrier.hidden
size-Member at a x = refl

pub front-Member : (at : Span) (a : Expr) (x : name.Name) → front (e.Member at a x) ≡ (Some a)
unfolding shape-the_row-Expr-0 hidden-the_row-Expr-0 Carrier.hidden
front-Member at a x = refl

pub behind_front-Member : (at : Span) (a : Expr) (x : name.Name) → behind_front (e.Member at a x) ≡ (None)
unfolding shape-the_row-Expr-0 hidden-the_row-Expr-0 Carrier.hidden
behind_front-Member at a x = refl

pub size-Arrow : (at : Span) (a : Expr) (x : name.Name) → size (e.Arrow at a x) ≡ (suc (size a))
unfolding shape-the_row-Expr-0 hidden-the_row-Expr-0 Carrier.hidden
size-Arrow at a x = refl

pub front-Arrow : (at : Span) (a : Expr) (x : name.Name) → front (e.Arrow at a x) ≡ (Some a)
unfolding shape-the_row-Expr-0 hidden-the_row-Expr-0 Carrier.hidden
front-Arrow at a x = refl

pub behind_front-Arrow : (at : Span) (a : Expr) (x : name.Name) → behind_front (e.Arrow at a x) ≡ (None)
unfolding shape-the_row-Expr-0 hidden-the_row-Expr-0 Carrier.hidden
behind_front-Arrow at a x = refl

pub or_none : (o : Option ℕ) → (o or None) ≡ o
or_none None = refl
or_none (Some at) = refl

pub or_assoc : (p q r : Option ℕ) → ((p or q) or r) ≡ (p or (q or r))
or_assoc None q r = refl
or_assoc (Some at) q r = refl

-- a call in the first operand comes before those behind it
pub from_front : (t : Expr) → first_call t ≡ (maybe first_call (front t) or behind_front t)
from_front (Name at x) = refl
from_front (Number at n) = refl
from_front (Unary' at op s (b.more_of-Expr a b.end_of-Expr)) = sym (or_none (first_call a))
from_front (Binary' at op s (b.more_of-Expr a b.end_of-Expr) t (b.more_of-Expr c b.end_of-Expr)) = refl
from_front (Cond' at s (b.more_of-Expr c b.end_of-Expr) t (b.more_of-Expr a b.end_of-Expr) u (b.more_of-Expr d b.end_of-Expr)) = refl
from_front (Index' at s (b.more_of-Expr a b.end_of-Expr) t (b.more_of-Expr i b.end_of-Expr)) = refl
from_front (Member' at s (b.more_of-Expr a b.end_of-Expr) x) = sym (or_none (first_call a))
from_front (Arrow' at s (b.more_of-Expr a b.end_of-Expr) x) = sym (or_none (first_call a))
from_front (Call' at s row t args) = refl

pub front_smaller : (t a : Expr) → front t ≡ Some a → size a < size t
front_smaller (Name at x) z h = cc
front_smaller (Number at n) z h = cc
front_smaller (Unary' at op s (b.more_of-Expr a b.end_of-Expr)) z h = let e : a ≡ z = cc in rw (← e) (omega arith)
front_smaller (Binary' at op s (b.more_of-Expr a b.end_of-Expr) t (b.more_of-Expr c b.end_of-Expr)) z h = let e : a ≡ z = cc in rw (← e) (omega arith)
front_smaller (Cond' at s (b.more_of-Expr c b.end_of-Expr) t (b.more_of-Expr a b.end_of-Expr) u (b.more_of-Expr d b.end_of-Expr)) z h = let e : c ≡ z = cc in rw (← e) (omega arith)
front_smaller (Index' at s (b.more_of-Expr a b.end_of-Expr) t (b.more_of-Expr i b.end_of-Expr)) z h = let e : a ≡ z = cc in rw (← e) (omega arith)
front_smaller (Member' at s (b.more_of-Expr a b.end_of-Expr) x) z h = let e : a ≡ z = cc in rw (← e) (omega arith)
front_smaller (Arrow' at s (b.more_of-Expr a b.end_of-Expr) x) z h = let e : a ≡ z = cc in rw (← e) (omega arith)
front_smaller (Call' at s row t args) z h = cc

-- the loop goes down to the first operand
pub down : (node a : Expr) (found : Option ℕ) → front node ≡ Some a → (maybe first_call (front a) or (behind_front a or found)) ≡ (maybe first_call (front node) or found)
down node a found h = sym (or_assoc (maybe first_call (front a)) (behind_front a) found) ∙ ap (λ (o : Option ℕ). o or found) (sym (from_front a)) ∙ ap (λ (o : Option Expr). maybe first_call o or found) (sym h)

pub ruleset expressions = (first_call-Unary, first_call-Binary, first_call-Cond, first_call-Index, first_call-Member, first_call-Arrow, inner_call-Call, inner_call-Unary, inner_call-Binary, inner_call-Cond, inner_call-Index, inner_call-Member, inner_call-Arrow)

-- ---- statements

stmts_are_list : (xs : List Stmt) → call_in_row (hidden-the_row-Stmt-0 xs) ≡ first_of call_in_stmt xs
unfolding shape-the_row-Stmt-0 hidden-the_row-Stmt-0 shape-the_row-Stmt-1 hidden-the_row-Stmt-1 Carrier.hidden
stmts_are_list [] = refl
stmts_are_list (x ∷ xs) = ap (λ (o : Option ℕ). call_in_stmt x or o) (stmts_are_list xs)

pub call_in_stmt-Block : (at : Span) (xs : List Stmt) → call_in_stmt (s.Block at xs) ≡ (first_of call_in_stmt xs)
unfolding shape-the_row-Stmt-0 hidden-the_row-Stmt-0 shape-the_row-Stmt-1 hidden-the_row-Stmt-1 Carrier.hidden
call_in_stmt-Block at xs = stmts_are_list xs

pub call_in_stmt-If : (at : Span) (c : Expr) (x : Stmt) → call_in_stmt (s.If at c x) ≡ (first_call c or call_in_stmt x)
unfolding shape-the_row-Stmt-0 hidden-the_row-Stmt-0 shape-the_row-Stmt-1 hidden-the_row-Stmt-1 Carrier.hidden
call_in_stmt-If at c x = refl

pub call_in_stmt-IfElse : (at : Span) (c : Expr) (x y : Stmt) → call_in_stmt (s.IfElse at c x y) ≡ (first_call c or call_in_stmt x or call_in_stmt y)
unfolding shape-the_row-Stmt-0 hidden-the_row-Stmt-0 shape-the_row-Stmt-1 hidden-the_row-Stmt-1 Carrier.hidden
call_in_stmt-IfElse at c x y = refl

pub call_in_stmt-While : (at : Span) (c : Expr) (x : Stmt) → call_in_stmt (s.While at c x) ≡ (first_call c or call_in_stmt x)
unfolding shape-the_row-Stmt-0 hidden-the_row-Stmt-0 shape-the_row-Stmt-1 hidden-the_row-Stmt-1 Carrier.hidden
call_in_stmt-While at c x = refl

pub call_in_stmt-Do : (at : Span) (x : Stmt) (c : Expr) → call_in_stmt (s.Do at x c) ≡ (call_in_stmt x or first_call c)
unfolding shape-the_row-Stmt-0 hidden-the_row-Stmt-0 shape-the_row-Stmt-1 hidden-the_row-Stmt-1 Carrier.hidden
call_in_stmt-Do at x c = refl

pub call_in_stmt-For : (at : Span) (o : Opening) (c : Option Expr) (step : Option Simple) (x : Stmt) → call_in_stmt (s.For at o c step x) ≡ (call_in_opening o or maybe first_call c or maybe call_in_simple step or call_in_stmt x)
unfolding shape-the_row-Stmt-0 hidden-the_row-Stmt-0 shape-the_row-Stmt-1 hidden-the_row-Stmt-1 Carrier.hidden
call_in_stmt-For at o c step x = refl

pub ruleset statements = (call_in_stmt-Block, call_in_stmt-If, call_in_stmt-IfElse, call_in_stmt-While, call_in_stmt-Do, call_in_stmt-For)
