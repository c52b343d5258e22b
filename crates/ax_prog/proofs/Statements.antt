-- Induction over statements and lists of statements, in which a block is its list.
use Rattle.std.proofs.Common.{◌≡◌, refl, sym, ap, subst, ◌∙◌, Bool, List, [], ◌∷◌, Option, Some, None, ℤ}
use Rattle.std.specs.Prelude.{IfSome}
use Rattle.ax_prog.specs.declared.Arg.{Arg}
use Rattle.ax_prog.specs.declared.Bin.{Bin}
use Rattle.ax_prog.specs.declared.FunId.{FunId}
use Rattle.ax_prog.specs.declared.Init.{Init}
use Rattle.ax_prog.specs.declared.Lval.{Lval}
use Rattle.ax_prog.specs.declared.SlotId.{SlotId}
use Rattle.ax_prog.specs.declared.Value.{Value}
use Rattle.ax_prog.specs.declared.VarId.{VarId}
use Rattle.ax_prog.specs.declared.Stmt.{Stmt}
use Rattle.ax_prog.specs.declared.Stmt.TheVariants as s
use Rattle.ax_prog.specs.declared.Stmt.TheBlock as block
use Rattle.ax_prog.specs.declared.Stmt.TheViews as views
use denote.Hole.Carrier

-- what is owed for a fact of every statement and a fact of every list of statements
pub record StmtCases (P : Stmt → Type 0) (Q : List Stmt → Type 0) : Type 0 where
  pub nil : Q []
  pub cons : (a : Stmt) (rest : List Stmt) → P a → Q rest → Q (a ∷ rest)
  pub empty : P s.Empty
  pub block : (items : List Stmt) → Q items → P (s.Block items)
  pub decl : (id : VarId) (init : Init) → P (s.Decl id init)
  pub assign : (place : Lval) (value : Value) → P (s.Assign place value)
  pub change : (place : Lval) (op : Bin) (id : SlotId) → P (s.Change place op id)
  pub bump : (place : Lval) (up : Bool) → P (s.Bump place up)
  pub call : (f : FunId) (args : List Arg) → P (s.Call f args)
  pub if_then : (id : SlotId) (a : Stmt) (b : Option Stmt) → P a → IfSome b P → P (s.If id a b)
  pub while_do : (id : SlotId) (a : Stmt) → P a → P (s.While id a)
  pub do_while : (a : Stmt) (id : SlotId) → P a → P (s.Do a id)
  pub for_do : (first : List Stmt) (id : Option SlotId) (next : Option Stmt) (a : Stmt) → Q first → IfSome next P → P a → P (s.For first id next a)
  pub break_off : P s.Break
  pub go_on : P s.Continue
  pub return : (value : Option Value) → P (s.Return value)
  pub read : (place : Lval) → P (s.Read place)
  pub print : (id : SlotId) → P (s.Print id)

-- a statement made of shapes and rows is the statement of what they show
block_is : (x : _) (row : _) → s.Block (block.shown-the_row-Stmt-0 x row) ≡ s.Block' x row
block_is x row = sym (views.rolls-Block _) ∙ ap views.roll-Stmt (sym (views.outs-Block' x row)) ∙ views.roll-out-Stmt (s.Block' x row)

if_is : (id : SlotId) (x : _) (row : _) (b : _) → s.If id (block.shown-the_row-Stmt-1 x row) (block.view-Stmt-If-2 b) ≡ s.If' id x row b
if_is id x row b = sym (views.rolls-If id _ _) ∙ ap views.roll-Stmt (sym (views.outs-If' id x row b)) ∙ views.roll-out-Stmt (s.If' id x row b)

while_is : (id : SlotId) (x : _) (row : _) → s.While id (block.shown-the_row-Stmt-1 x row) ≡ s.While' id x row
while_is id x row = sym (views.rolls-While id _) ∙ ap views.roll-Stmt (sym (views.outs-While' id x row)) ∙ views.roll-out-Stmt (s.While' id x row)

do_is : (id : SlotId) (x : _) (row : _) → s.Do (block.shown-the_row-Stmt-1 x row) id ≡ s.Do' x row id
do_is id x row = sym (views.rolls-Do _ id) ∙ ap views.roll-Stmt (sym (views.outs-Do' x row id)) ∙ views.roll-out-Stmt (s.Do' x row id)

for_is : (x : _) (row : _) (id : Option SlotId) (b : _) (y : _) (body : _) → s.For (block.shown-the_row-Stmt-0 x row) id (block.view-Stmt-If-2 b) (block.shown-the_row-Stmt-1 y body) ≡ s.For' x row id b y body
for_is x row id b y body = sym (views.rolls-For _ id _ _) ∙ ap views.roll-Stmt (sym (views.outs-For' x row id b y body)) ∙ views.roll-out-Stmt (s.For' x row id b y body)

module _ (P : Stmt → Type 0) (Q : List Stmt → Type 0) (owed : StmtCases P Q) where
  mutual
    unfolding block.shown-the_row-Stmt-1 Carrier.shown

    pub stmt-induction : (t : Stmt) → P t
    stmt-induction s.Empty = owed.empty
    stmt-induction (s.Block' x row) = subst P (block_is x row) (owed.block _ (subst Q (sym (block.items_shown-the_row-Stmt-0 x row)) (row-induction row)))
    stmt-induction (s.Decl id init) = owed.decl id init
    stmt-induction (s.Assign place value) = owed.assign place value
    stmt-induction (s.Change place op id) = owed.change place op id
    stmt-induction (s.Bump place up) = owed.bump place up
    stmt-induction (s.Call f args) = owed.call f args
    stmt-induction (s.If' id x (block.more_of-Stmt a block.end_of-Stmt) b) = subst P (if_is id x _ b) (owed.if_then id a _ (stmt-induction a) (held-induction b))
    stmt-induction (s.While' id x (block.more_of-Stmt a block.end_of-Stmt)) = subst P (while_is id x _) (owed.while_do id a (stmt-induction a))
    stmt-induction (s.Do' x (block.more_of-Stmt a block.end_of-Stmt) id) = subst P (do_is id x _) (owed.do_while a id (stmt-induction a))
    stmt-induction (s.For' x row id b y (block.more_of-Stmt a block.end_of-Stmt)) = subst P (for_is x row id b y _) (owed.for_do _ id _ a (subst Q (sym (block.items_shown-the_row-Stmt-0 x row)) (row-induction row)) (held-induction b) (stmt-induction a))
    stmt-induction s.Break = owed.break_off
    stmt-induction s.Continue = owed.go_on
    stmt-induction (s.Return value) = owed.return value
    stmt-induction (s.Read place) = owed.read place
    stmt-induction (s.Print id) = owed.print id

    row-induction : {n : _} (row : block.Row_of-Stmt n) → Q (block.items-the_row-Stmt n row)
    row-induction block.end_of-Stmt = owed.nil
    row-induction (block.more_of-Stmt a rest) = owed.cons a _ (stmt-induction a) (row-induction rest)

    held-induction : (b : block.Held-Stmt-If-2) → IfSome (block.view-Stmt-If-2 b) P
    held-induction block.None' = tt
    held-induction (block.Some' x (block.more_of-Stmt a block.end_of-Stmt)) = stmt-induction a

  pub stmts-induction : (ts : List Stmt) → Q ts
  stmts-induction [] = owed.nil
  stmts-induction (t ∷ ts) = owed.cons t ts (stmt-induction t) (stmts-induction ts)
