-- The walk at each statement that holds others, at arrays and at negated literals.
use Rattle.std.proofs.Common.{◌≡◌, ℕ, Bool, true, List, [], ◌∷◌, Option, Ok, refl}
use Rattle.ax_prog.specs.declared.Span.{Span}
use Rattle.ax_prog.specs.declared.Ty.{Ty, Ptr', Array'}
use Rattle.ax_prog.specs.declared.Ty.TheBlock.{shape-the_row-Ty-0, hidden-the_row-Ty-0}
use Rattle.ax_prog.specs.declared.Ty.TheVariants as ty
use Rattle.ax_parse_grammar.specs.declared.tree.Prefix.TheVariants as pre
use Rattle.ax_parse_grammar.specs.declared.tree.Signed.{Signed}
use Rattle.ax_parse_grammar.specs.declared.tree.Expr.{Expr, Name, Number, Unary', Binary', Cond', Index', Member', Arrow', Call'}
use Rattle.ax_parse_grammar.specs.declared.tree.Expr.TheVariants as e
use Rattle.ax_parse_grammar.specs.declared.tree.Expr.TheBlock.{shape-the_row-Expr-0, hidden-the_row-Expr-0}
use Rattle.ax_parse_grammar.specs.declared.tree.Simple as deed
use Rattle.ax_parse_grammar.specs.declared.tree.Opening.{Opening}
use Rattle.ax_parse_grammar.specs.declared.tree.Stmt.{Stmt}
use Rattle.ax_parse_grammar.specs.declared.tree.Stmt.TheVariants as s
use Rattle.ax_parse_grammar.specs.declared.tree.Stmt.TheBlock.{shape-the_row-Stmt-0, hidden-the_row-Stmt-0, shape-the_row-Stmt-1, hidden-the_row-Stmt-1}
use Rattle.ax_names_rules.specs.declared.State.{State}
use Rattle.ax_names_rules.specs.States.{depth}
use Rattle.ax_names_rules.specs.StatementWalk.{list_for, literal_of, if_of, if_else_of, while_of, do_of, for_of, block_of, followed_by, item_by, stmt_of, row_of, items_of}
use Rattle.ax_names.specs.Answers.{list_of_elements, negated_number}
use denote.Hole.Carrier

module _ (defs : List (List ℕ)) (result : Option Ty) where
  row_is : (f : Bool) (floor : ℕ) (items : List Stmt) (st : State) → row_of defs result f floor (hidden-the_row-Stmt-0 items) st ≡ items_of defs result f floor items st
  unfolding shape-the_row-Stmt-0 hidden-the_row-Stmt-0 shape-the_row-Stmt-1 hidden-the_row-Stmt-1 Carrier.hidden
  row_is f floor [] st i = Ok ([], st)
  row_is f floor (a ∷ rest) st i = followed_by (item_by defs floor a (stmt_of defs result f a) st) (λ st. row_is f floor rest st i)

  pub stmt_of-Block : (f : Bool) (at : Span) (items : List Stmt) (st : State) → stmt_of defs result f (s.Block at items) st ≡ block_of (items_of defs result f (depth st) items) st
  unfolding shape-the_row-Stmt-0 hidden-the_row-Stmt-0 shape-the_row-Stmt-1 hidden-the_row-Stmt-1 Carrier.hidden
  stmt_of-Block f at items st i = block_of (λ st2. row_is f (depth st) items st2 i) st

  pub stmt_of-If : (f : Bool) (at : Span) (c : Expr) (a : Stmt) (st : State) → stmt_of defs result f (s.If at c a) st ≡ if_of c (stmt_of defs result f a) st
  unfolding shape-the_row-Stmt-0 hidden-the_row-Stmt-0 shape-the_row-Stmt-1 hidden-the_row-Stmt-1 Carrier.hidden
  stmt_of-If f at c a st = refl

  pub stmt_of-IfElse : (f : Bool) (at : Span) (c : Expr) (a b : Stmt) (st : State) → stmt_of defs result f (s.IfElse at c a b) st ≡ if_else_of c (stmt_of defs result f a) (stmt_of defs result f b) st
  unfolding shape-the_row-Stmt-0 hidden-the_row-Stmt-0 shape-the_row-Stmt-1 hidden-the_row-Stmt-1 Carrier.hidden
  stmt_of-IfElse f at c a b st = refl

  -- the same, where the parts are known as the code has them
  pub if_else_as : (f : Bool) (tree : Stmt) (at : Span) (c : Expr) (a b a2 b2 : Stmt) (st : State) → tree ≡ s.IfElse at c a b → a2 ≡ a → b2 ≡ b → stmt_of defs result f tree st ≡ if_else_of c (stmt_of defs result f a2) (stmt_of defs result f b2) st
  if_else_as f tree at c a b a2 b2 st is p q = rw (is, p, q) (stmt_of-IfElse f at c a b st)

  pub stmt_of-While : (f : Bool) (at : Span) (c : Expr) (a : Stmt) (st : State) → stmt_of defs result f (s.While at c a) st ≡ while_of c (stmt_of defs result true a) st
  unfolding shape-the_row-Stmt-0 hidden-the_row-Stmt-0 shape-the_row-Stmt-1 hidden-the_row-Stmt-1 Carrier.hidden
  stmt_of-While f at c a st = refl

  pub stmt_of-Do : (f : Bool) (at : Span) (c : Expr) (a : Stmt) (st : State) → stmt_of defs result f (s.Do at a c) st ≡ do_of c (stmt_of defs result true a) st
  unfolding shape-the_row-Stmt-0 hidden-the_row-Stmt-0 shape-the_row-Stmt-1 hidden-the_row-Stmt-1 Carrier.hidden
  stmt_of-Do f at c a st = refl

  pub stmt_of-For : (f : Bool) (at : Span) (o : Opening) (c : Option Expr) (x : Option deed.Simple) (a : Stmt) (st : State) → stmt_of defs result f (s.For at o c x a) st ≡ for_of defs o c x (stmt_of defs result true a) st
  unfolding shape-the_row-Stmt-0 hidden-the_row-Stmt-0 shape-the_row-Stmt-1 hidden-the_row-Stmt-1 Carrier.hidden
  stmt_of-For f at o c x a st = refl

pub ruleset statements = (stmt_of-Block, stmt_of-If, stmt_of-While, stmt_of-Do, stmt_of-For)

-- ---- arrays

pub list_for-Array : (u : Ty) (n : ℕ) (at : Span) (xs : List Signed) → list_for (ty.Array u n) at xs ≡ list_of_elements u n at xs
unfolding shape-the_row-Ty-0 hidden-the_row-Ty-0 Carrier.hidden
list_for-Array ty.Int n at xs = refl
list_for-Array (Ptr' s row) n at xs = refl
list_for-Array (Array' s row m) n at xs = refl
list_for-Array (ty.Struct k) n at xs = refl

pub ruleset lists = (list_for-Array)

-- ---- negated literals

pub literal_of-Neg : (at : Span) (a : Expr) → literal_of (e.Unary at pre.Neg a) ≡ negated_number a
unfolding shape-the_row-Expr-0 hidden-the_row-Expr-0 Carrier.hidden
literal_of-Neg at (Name at2 x) = refl
literal_of-Neg at (Number at2 n) = refl
literal_of-Neg at (Unary' at2 op s r) = refl
literal_of-Neg at (Binary' at2 op s r s2 r2) = refl
literal_of-Neg at (Cond' at2 s r s2 r2 s3 r3) = refl
literal_of-Neg at (Index' at2 s r s2 r2) = refl
literal_of-Neg at (Member' at2 s r x) = refl
literal_of-Neg at (Arrow' at2 s r x) = refl
literal_of-Neg at (Call' at2 s r s2 r2) = refl

pub ruleset literals = (literal_of-Neg)
