-- The first call of a source that stands inside an expression.
--
-- Calls stand only as a whole statement, as the whole right side of `=` or of an initialiser, or as the whole operand of `return`.
-- So a call in the arguments of a call stands inside an expression, wherever the outer one stands. A call is placed at its first
-- token. What follows goes by parts in source order, and the first call in that order has the least place.
use Rattle.std.specs.Prelude.{ℕ, List, [], ◌∷◌, Option, Some, None}
use Rattle.ax_parse_grammar.specs.declared.tree.Expr.{Expr, Name, Number, Unary', Binary', Cond', Index', Member', Arrow', Call'}
use Rattle.ax_parse_grammar.specs.declared.tree.Expr.TheBlock as e
use Rattle.ax_parse_grammar.specs.declared.tree.Initialiser.{Initialiser}
use Rattle.ax_parse_grammar.specs.declared.tree.Initialiser.TheVariants as init
use Rattle.ax_parse_grammar.specs.declared.tree.Declared.{Declared}
use Rattle.ax_parse_grammar.specs.declared.tree.Decl.{Decl}
use Rattle.ax_parse_grammar.specs.declared.tree.Simple.{Simple}
use Rattle.ax_parse_grammar.specs.declared.tree.Simple.TheVariants as act
use Rattle.ax_parse_grammar.specs.declared.tree.Opening.{Opening}
use Rattle.ax_parse_grammar.specs.declared.tree.Opening.TheVariants as opening
use Rattle.ax_parse_grammar.specs.declared.tree.Stmt.{Stmt}
use Rattle.ax_parse_grammar.specs.declared.tree.Stmt.TheBlock as b
use Rattle.ax_parse_grammar.specs.declared.tree.Stmt as s
use Rattle.ax_parse_grammar.specs.declared.tree.Part.{Part}
use Rattle.ax_parse_grammar.specs.declared.tree.Part.TheVariants as part
use Rattle.ax_parse_grammar.specs.declared.tree.Tree.{Tree}

-- the earlier of two parts that has one
infixr 10 ◌or◌
abbrev pub ◌or◌ : Option ℕ → Option ℕ → Option ℕ
None or q = q
(Some at) or q = Some at

-- in a list
abbrev pub first_of : {A : Type 0} → (A → Option ℕ) → List A → Option ℕ
first_of f [] = None
first_of f (x ∷ xs) = f x or first_of f xs

-- in what may be left out
abbrev pub maybe : {A : Type 0} → (A → Option ℕ) → Option A → Option ℕ
maybe f None = None
maybe f (Some x) = f x

-- in an expression
abbrev pub first_call : Expr → Option ℕ
first_call (Name at x) = None
first_call (Number at n) = None
first_call (Unary' at op s (e.more_of-Expr a e.end_of-Expr)) = first_call a
first_call (Binary' at op s (e.more_of-Expr a e.end_of-Expr) t (e.more_of-Expr b e.end_of-Expr)) = first_call a or first_call b
first_call (Cond' at s (e.more_of-Expr c e.end_of-Expr) t (e.more_of-Expr a e.end_of-Expr) u (e.more_of-Expr b e.end_of-Expr)) = first_call c or first_call a or first_call b
first_call (Index' at s (e.more_of-Expr a e.end_of-Expr) t (e.more_of-Expr i e.end_of-Expr)) = first_call a or first_call i
first_call (Member' at s (e.more_of-Expr a e.end_of-Expr) x) = first_call a
first_call (Arrow' at s (e.more_of-Expr a e.end_of-Expr) x) = first_call a
first_call (Call' at s row t args) = Some at.from

-- the operand with which an expression begins; a call has none here
abbrev pub front : Expr → Option Expr
front (Name at x) = None
front (Number at n) = None
front (Unary' at op s (e.more_of-Expr a e.end_of-Expr)) = Some a
front (Binary' at op s (e.more_of-Expr a e.end_of-Expr) t row) = Some a
front (Cond' at s (e.more_of-Expr c e.end_of-Expr) t row u row2) = Some c
front (Index' at s (e.more_of-Expr a e.end_of-Expr) t row) = Some a
front (Member' at s (e.more_of-Expr a e.end_of-Expr) x) = Some a
front (Arrow' at s (e.more_of-Expr a e.end_of-Expr) x) = Some a
front (Call' at s row t args) = None

-- the expression itself where it is a call, or the first call behind that operand
abbrev pub behind_front : Expr → Option ℕ
behind_front (Binary' at op s row t (e.more_of-Expr b e.end_of-Expr)) = first_call b
behind_front (Cond' at s row t (e.more_of-Expr a e.end_of-Expr) u (e.more_of-Expr b e.end_of-Expr)) = first_call a or first_call b
behind_front (Index' at s row t (e.more_of-Expr i e.end_of-Expr)) = first_call i
behind_front (Call' at s row t args) = Some at.from
behind_front (Name at x) = None
behind_front (Number at n) = None
behind_front (Unary' at op s row) = None
behind_front (Member' at s row x) = None
behind_front (Arrow' at s row x) = None

abbrev pub first_in_row : {n : _} → e.Row_of-Expr n → Option ℕ
first_in_row e.end_of-Expr = None
first_in_row (e.more_of-Expr a rest) = first_call a or first_in_row rest

-- in an expression that stands where it may be a call
abbrev pub inner_call : Expr → Option ℕ
inner_call (Call' at s (e.more_of-Expr f e.end_of-Expr) t args) = first_call f or first_in_row args
inner_call a = first_call a

abbrev pub call_in_simple : Simple → Option ℕ
call_in_simple (act.Assign at a x) = first_call a or inner_call x
call_in_simple (act.Change at a op x) = first_call a or first_call x
call_in_simple (act.Step at a up) = first_call a
call_in_simple (act.Call at x) = inner_call x

abbrev pub call_in_initialiser : Initialiser → Option ℕ
call_in_initialiser init.Nothing = None
call_in_initialiser (init.Value x) = inner_call x
call_in_initialiser (init.List at xs) = None

abbrev pub call_in_declared : Declared → Option ℕ
call_in_declared d = call_in_initialiser d.initialiser

abbrev pub call_in_decl : Decl → Option ℕ
call_in_decl d = first_of call_in_declared d.items

abbrev pub call_in_opening : Opening → Option ℕ
call_in_opening opening.Nothing = None
call_in_opening (opening.Simple x) = call_in_simple x
call_in_opening (opening.Decl d) = call_in_decl d

abbrev mutual
  pub call_in_stmt : Stmt → Option ℕ
  call_in_stmt (s.Empty at) = None
  call_in_stmt (s.Block' at sh row) = call_in_row row
  call_in_stmt (s.Decl d) = call_in_decl d
  call_in_stmt (s.Simple at x) = call_in_simple x
  call_in_stmt (s.If' at c sh (b.more_of-Stmt x b.end_of-Stmt)) = first_call c or call_in_stmt x
  call_in_stmt (s.IfElse' at c sh (b.more_of-Stmt x b.end_of-Stmt) sh2 (b.more_of-Stmt y b.end_of-Stmt)) = first_call c or call_in_stmt x or call_in_stmt y
  call_in_stmt (s.While' at c sh (b.more_of-Stmt x b.end_of-Stmt)) = first_call c or call_in_stmt x
  call_in_stmt (s.Do' at sh (b.more_of-Stmt x b.end_of-Stmt) c) = call_in_stmt x or first_call c
  call_in_stmt (s.For' at o c step sh (b.more_of-Stmt x b.end_of-Stmt)) = call_in_opening o or maybe first_call c or maybe call_in_simple step or call_in_stmt x
  call_in_stmt (s.Break at) = None
  call_in_stmt (s.Continue at) = None
  call_in_stmt (s.Return at x) = maybe inner_call x
  call_in_stmt (s.Read at a) = first_call a
  call_in_stmt (s.Print at format a) = first_call a

  pub call_in_row : {n : _} → b.Row_of-Stmt n → Option ℕ
  call_in_row b.end_of-Stmt = None
  call_in_row (b.more_of-Stmt x rest) = call_in_stmt x or call_in_row rest

abbrev pub call_in_part : Part → Option ℕ
call_in_part (part.Struct at x xs) = None
call_in_part (part.Decl d) = call_in_decl d
call_in_part (part.Function at h xs) = first_of call_in_stmt xs
call_in_part (part.Prototype at h) = None

-- the first call of a source that stands inside an expression
abbrev pub call_inside : Tree → Option ℕ
call_inside tree = first_of call_in_part tree.parts
