-- The expressions of a source that may be slots, one after another.
--
-- Each definition says of a tree that its expressions stand in turn between two places: conditions, values that are printed,
-- returned, assigned or begun with in a block, and right sides of compound assignments. Of a value that is a call they are its
-- arguments as well as the whole: a program takes the one or the other.
use Rattle.std.proofs.Common.{◌≤◌, ℕ, List, [], ◌∷◌, Option, Some, None, sym, subst}
use Rattle.ax_prog.specs.declared.Span.{Span}
use Rattle.ax_parse_grammar.specs.declared.tree.Expr.{Expr, Name, Number, Unary', Binary', Cond', Index', Member', Arrow', Call'}
use Rattle.ax_parse_grammar.specs.declared.tree.Expr.TheVariants as e
use Rattle.ax_parse_grammar.specs.declared.tree.Expr.TheBlock.{shown-the_row-Expr-1, seen-the_row-Expr-1, shape-the_row-Expr-0, hidden-the_row-Expr-0}
use Rattle.ax_parse_grammar.specs.declared.tree.Initialiser.{Initialiser}
use Rattle.ax_parse_grammar.specs.declared.tree.Initialiser.TheVariants as by
use Rattle.ax_parse_grammar.specs.declared.tree.Declared.{Declared}
use Rattle.ax_parse_grammar.specs.declared.tree.Simple as deed
use Rattle.ax_parse_grammar.specs.declared.tree.Simple.TheVariants as act
use Rattle.ax_parse_grammar.specs.declared.tree.Opening.{Opening}
use Rattle.ax_parse_grammar.specs.declared.tree.Opening.TheVariants as opening
use Rattle.ax_parse_grammar.specs.declared.tree.Stmt.{Stmt, Empty, Block', Decl, Simple, If', IfElse', While', Do', For', Break, Continue, Return, Read, Print}
use Rattle.ax_parse_grammar.specs.declared.tree.Stmt.TheVariants as s
use Rattle.ax_parse_grammar.specs.declared.tree.Stmt.TheBlock.{Row_of-Stmt, more_of-Stmt, end_of-Stmt, shape-the_row-Stmt-0, hidden-the_row-Stmt-0, shape-the_row-Stmt-1, hidden-the_row-Stmt-1}
use Rattle.ax_parse_grammar.specs.declared.tree.Part.{Part}
use Rattle.ax_parse_grammar.specs.declared.tree.Part.TheVariants as part
use Rattle.ax_parse_grammar.specs.Trees.{span_of}
use Rattle.ax_front_facts.proofs.InTurn.{Within}
use denote.Hole.Carrier

-- each in turn, as P says
abbrev pub Each : {A : Type 0} → (ℕ → A → ℕ → Type 0) → ℕ → List A → ℕ → Type 0
Each P a [] b = a ≤ b
Each P a (x ∷ xs) b = (m : ℕ) × P a x m × Each P m xs b

-- what is not left out
abbrev pub Held : {A : Type 0} → (ℕ → A → ℕ → Type 0) → ℕ → Option A → ℕ → Type 0
Held P a None b = a ≤ b
Held P a (Some x) b = P a x b

-- ---- expressions

abbrev pub OfWhole : ℕ → Expr → ℕ → Type 0
OfWhole a x b = Within a (span_of x) b

abbrev pub OfCall : ℕ → Expr → ℕ → Type 0
OfCall a (Call' at sh row sh2 row2) b = Each OfWhole a (shown-the_row-Expr-1 sh2 row2) b
OfCall a (Name at x) b = Unit {0}
OfCall a (Number at n) b = Unit {0}
OfCall a (Unary' at op sh row) b = Unit {0}
OfCall a (Binary' at op sh row sh2 row2) b = Unit {0}
OfCall a (Cond' at sh row sh2 row2 sh3 row3) b = Unit {0}
OfCall a (Index' at sh row sh2 row2) b = Unit {0}
OfCall a (Member' at sh row x) b = Unit {0}
OfCall a (Arrow' at sh row x) b = Unit {0}

abbrev pub OfValue : ℕ → Expr → ℕ → Type 0
OfValue a x b = OfWhole a x b × OfCall a x b

pub call_of : (a b : ℕ) (at : Span) (g : Expr) (xs : List Expr) → Each OfWhole a xs b → OfCall a (e.Call at g xs) b
unfolding shape-the_row-Expr-0 hidden-the_row-Expr-0 Carrier.hidden
call_of a b at g xs h = subst (λ (l : List Expr). Each OfWhole a l b) (sym (seen-the_row-Expr-1 xs)) h

pub call_has : (a b : ℕ) (at : Span) (g : Expr) (xs : List Expr) → OfCall a (e.Call at g xs) b → Each OfWhole a xs b
unfolding shape-the_row-Expr-0 hidden-the_row-Expr-0 Carrier.hidden
call_has a b at g xs h = subst (λ (l : List Expr). Each OfWhole a l b) (seen-the_row-Expr-1 xs) h

-- ---- declarations

abbrev pub OfInitialiser : ℕ → Initialiser → ℕ → Type 0
OfInitialiser a by.Nothing b = a ≤ b
OfInitialiser a (by.Value x) b = OfValue a x b
OfInitialiser a (by.List at xs) b = a ≤ b

abbrev pub OfDeclared : ℕ → Declared → ℕ → Type 0
OfDeclared a d b = OfInitialiser a d.initialiser b

-- ---- statements

abbrev pub OfSimple : ℕ → deed.Simple → ℕ → Type 0
OfSimple a (act.Assign at x y) b = OfValue a y b
OfSimple a (act.Change at x op y) b = OfWhole a y b
OfSimple a (act.Step at x up) b = a ≤ b
OfSimple a (act.Call at x) b = OfCall a x b

abbrev pub OfOpening : ℕ → Opening → ℕ → Type 0
OfOpening a opening.Nothing b = a ≤ b
OfOpening a (opening.Simple x) b = OfSimple a x b
OfOpening a (opening.Decl d) b = Each OfDeclared a d.items b

abbrev mutual
  pub OfStmt : ℕ → Stmt → ℕ → Type 0
  OfStmt a (Empty at) b = a ≤ b
  OfStmt a (Block' at sh row) b = OfRow a row b
  OfStmt a (Decl d) b = Each OfDeclared a d.items b
  OfStmt a (Simple at x) b = OfSimple a x b
  OfStmt a (If' at c sh (more_of-Stmt x end_of-Stmt)) b = (m : ℕ) × OfWhole a c m × OfStmt m x b
  OfStmt a (IfElse' at c sh (more_of-Stmt x end_of-Stmt) sh2 (more_of-Stmt y end_of-Stmt)) b = (m : ℕ) × (n : ℕ) × OfWhole a c m × OfStmt m x n × OfStmt n y b
  OfStmt a (While' at c sh (more_of-Stmt x end_of-Stmt)) b = (m : ℕ) × OfWhole a c m × OfStmt m x b
  OfStmt a (Do' at sh (more_of-Stmt x end_of-Stmt) c) b = (m : ℕ) × OfStmt a x m × OfWhole m c b
  OfStmt a (For' at o c x sh (more_of-Stmt y end_of-Stmt)) b = (k : ℕ) × (m : ℕ) × (n : ℕ) × OfOpening a o k × Held OfWhole k c m × Held OfSimple m x n × OfStmt n y b
  OfStmt a (Break at) b = a ≤ b
  OfStmt a (Continue at) b = a ≤ b
  OfStmt a (Return at x) b = Held OfValue a x b
  OfStmt a (Read at x) b = a ≤ b
  OfStmt a (Print at format x) b = OfWhole a x b

  pub OfRow : ℕ → {n : _} → Row_of-Stmt n → ℕ → Type 0
  OfRow a end_of-Stmt b = a ≤ b
  OfRow a (more_of-Stmt x rest) b = (m : ℕ) × OfStmt a x m × OfRow m rest b

row_of : (a b : ℕ) (xs : List Stmt) → Each OfStmt a xs b → OfRow a (hidden-the_row-Stmt-0 xs) b
unfolding shape-the_row-Stmt-0 hidden-the_row-Stmt-0 Carrier.hidden
row_of a b [] h = h
row_of a b (x ∷ xs) h = (h.0, h.1, row_of h.0 b xs h.2)

row_has : (a b : ℕ) (xs : List Stmt) → OfRow a (hidden-the_row-Stmt-0 xs) b → Each OfStmt a xs b
unfolding shape-the_row-Stmt-0 hidden-the_row-Stmt-0 Carrier.hidden
row_has a b [] h = h
row_has a b (x ∷ xs) h = (h.0, h.1, row_has h.0 b xs h.2)

pub block_of : (a b : ℕ) (at : Span) (xs : List Stmt) → Each OfStmt a xs b → OfStmt a (s.Block at xs) b
unfolding shape-the_row-Stmt-0 hidden-the_row-Stmt-0 Carrier.hidden
block_of a b at xs h = row_of a b xs h

pub block_has : (a b : ℕ) (at : Span) (xs : List Stmt) → OfStmt a (s.Block at xs) b → Each OfStmt a xs b
unfolding shape-the_row-Stmt-0 hidden-the_row-Stmt-0 Carrier.hidden
block_has a b at xs h = row_has a b xs h

module _ (a b : ℕ) (at : Span) where
  pub if_of : (c : Expr) (x : Stmt) → ((m : ℕ) × OfWhole a c m × OfStmt m x b) → OfStmt a (s.If at c x) b
  unfolding shape-the_row-Stmt-1 hidden-the_row-Stmt-1 Carrier.hidden
  if_of c x h = h

  pub if_has : (c : Expr) (x : Stmt) → OfStmt a (s.If at c x) b → (m : ℕ) × OfWhole a c m × OfStmt m x b
  unfolding shape-the_row-Stmt-1 hidden-the_row-Stmt-1 Carrier.hidden
  if_has c x h = h

  pub else_of : (c : Expr) (x y : Stmt) → ((m : ℕ) × (n : ℕ) × OfWhole a c m × OfStmt m x n × OfStmt n y b) → OfStmt a (s.IfElse at c x y) b
  unfolding shape-the_row-Stmt-1 hidden-the_row-Stmt-1 Carrier.hidden
  else_of c x y h = h

  pub else_has : (c : Expr) (x y : Stmt) → OfStmt a (s.IfElse at c x y) b → (m : ℕ) × (n : ℕ) × OfWhole a c m × OfStmt m x n × OfStmt n y b
  unfolding shape-the_row-Stmt-1 hidden-the_row-Stmt-1 Carrier.hidden
  else_has c x y h = h

  pub while_of : (c : Expr) (x : Stmt) → ((m : ℕ) × OfWhole a c m × OfStmt m x b) → OfStmt a (s.While at c x) b
  unfolding shape-the_row-Stmt-1 hidden-the_row-Stmt-1 Carrier.hidden
  while_of c x h = h

  pub while_has : (c : Expr) (x : Stmt) → OfStmt a (s.While at c x) b → (m : ℕ) × OfWhole a c m × OfStmt m x b
  unfolding shape-the_row-Stmt-1 hidden-the_row-Stmt-1 Carrier.hidden
  while_has c x h = h

  pub do_of : (x : Stmt) (c : Expr) → ((m : ℕ) × OfStmt a x m × OfWhole m c b) → OfStmt a (s.Do at x c) b
  unfolding shape-the_row-Stmt-1 hidden-the_row-Stmt-1 Carrier.hidden
  do_of x c h = h

  pub do_has : (x : Stmt) (c : Expr) → OfStmt a (s.Do at x c) b → (m : ℕ) × OfStmt a x m × OfWhole m c b
  unfolding shape-the_row-Stmt-1 hidden-the_row-Stmt-1 Carrier.hidden
  do_has x c h = h

  pub for_of : (o : Opening) (c : Option Expr) (x : Option deed.Simple) (y : Stmt) → ((k : ℕ) × (m : ℕ) × (n : ℕ) × OfOpening a o k × Held OfWhole k c m × Held OfSimple m x n × OfStmt n y b) → OfStmt a (s.For at o c x y) b
  unfolding shape-the_row-Stmt-1 hidden-the_row-Stmt-1 Carrier.hidden
  for_of o c x y h = h

  pub for_has : (o : Opening) (c : Option Expr) (x : Option deed.Simple) (y : Stmt) → OfStmt a (s.For at o c x y) b → (k : ℕ) × (m : ℕ) × (n : ℕ) × OfOpening a o k × Held OfWhole k c m × Held OfSimple m x n × OfStmt n y b
  unfolding shape-the_row-Stmt-1 hidden-the_row-Stmt-1 Carrier.hidden
  for_has o c x y h = h

-- ---- sources

abbrev pub OfPart : ℕ → Part → ℕ → Type 0
OfPart a (part.Struct at x ms) b = a ≤ b
OfPart a (part.Decl d) b = a ≤ b
OfPart a (part.Function at h items) b = Each OfStmt a items b
OfPart a (part.Prototype at h) b = a ≤ b
