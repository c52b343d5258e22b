-- Statements: what the rules say is what the functions give, and a break makes the functions answer a fault that comes no later.
use Rattle.std.proofs.Common.{◌≡◌, ℕ, Bool, true, false, List, [], ◌∷◌, Option, Ok, Err, refl, ◌∙◌}
use Rattle.ax_prog.specs.declared.Span.{Span}
use Rattle.ax_prog.specs.declared.Ty.{Ty, Ptr', Array'}
use Rattle.ax_prog.specs.declared.Ty.TheVariants as ty
use Rattle.ax_prog.specs.declared.Lval.{Lval}
use Rattle.ax_prog.specs.declared.Stmt as ps
use Rattle.ax_parse_grammar.specs.declared.tree.Expr.{Expr}
use Rattle.ax_parse_grammar.specs.declared.tree.Simple as deed
use Rattle.ax_parse_grammar.specs.declared.tree.Opening.{Opening}
use Rattle.ax_parse_grammar.specs.declared.tree.Stmt.{Stmt, Empty, Block', Decl, Simple, If', IfElse', While', Do', For', Break, Continue, Return, Read, Print}
use Rattle.ax_parse_grammar.specs.declared.tree.Stmt.TheVariants as s
use Rattle.ax_parse_grammar.specs.declared.tree.Stmt.TheBlock.{shape-the_row-Stmt-0, hidden-the_row-Stmt-0, shape-the_row-Stmt-1, hidden-the_row-Stmt-1}
use Rattle.ax_parse_grammar.specs.Trees.{span_of}
use Rattle.ax_names_types.specs.declared.TypeKind.TheVariants.{WrongType}
use Rattle.ax_names_types.specs.declared.TypeFault.{TypeFault}
use Rattle.ax_names_types.specs.Faults.{fault}
use Rattle.ax_names_types.proofs.Broken.{Faulty}
use Rattle.ax_names_rules.specs.declared.State.{State}
use Rattle.ax_names_rules.specs.States.{next_slot, with_slot, depth}
use Rattle.ax_names_rules.specs.Statements.{Becomes, BecomeAll}
use Rattle.ax_names_rules.specs.StatementFaults.{is_declaration, BreaksStmt, BreaksAll}
use Rattle.ax_names_rules.specs.StatementWalk.{read_for, Making, if_of, if_else_of, while_of, do_of, for_of, block_of, followed_by, alone, item_by, stmt_of, row_of, items_of}
use Rattle.ax_names_rules.proofs.Steps.{bind_is, bind_faulty, bind_behind, moved_to, fault_is}
use Rattle.ax_names_rules.proofs.Numbers.{slot_is, slot_breaks}
use Rattle.ax_names_rules.proofs.Called.{target_is, target_breaks}
use Rattle.ax_names_rules.proofs.Variables.{vars_are, vars_break}
use Rattle.ax_names_rules.proofs.Simples.{simple_is, simple_breaks, opening_is, opening_breaks, test_is, test_breaks, step_is, step_breaks, return_is, return_breaks}
use denote.Hole.Carrier

module _ (defs : List (List ℕ)) (result : Option Ty) where
  -- ---- the function at each statement

  row_is : (f : Bool) (floor : ℕ) (items : List Stmt) (st : State) → row_of defs result f floor (hidden-the_row-Stmt-0 items) st ≡ items_of defs result f floor items st
  unfolding shape-the_row-Stmt-0 hidden-the_row-Stmt-0 shape-the_row-Stmt-1 hidden-the_row-Stmt-1 Carrier.hidden
  row_is f floor [] st i = Ok ([], st)
  row_is f floor (a ∷ rest) st i = followed_by (item_by defs floor a (stmt_of defs result f a) st) (λ st. row_is f floor rest st i)

  stmt_of-Block : (f : Bool) (at : Span) (items : List Stmt) (st : State) → stmt_of defs result f (s.Block at items) st ≡ block_of (items_of defs result f (depth st) items) st
  unfolding shape-the_row-Stmt-0 hidden-the_row-Stmt-0 shape-the_row-Stmt-1 hidden-the_row-Stmt-1 Carrier.hidden
  stmt_of-Block f at items st i = block_of (λ st2. row_is f (depth st) items st2 i) st

  stmt_of-If : (f : Bool) (at : Span) (c : Expr) (a : Stmt) (st : State) → stmt_of defs result f (s.If at c a) st ≡ if_of c (stmt_of defs result f a) st
  unfolding shape-the_row-Stmt-0 hidden-the_row-Stmt-0 shape-the_row-Stmt-1 hidden-the_row-Stmt-1 Carrier.hidden
  stmt_of-If f at c a st = refl

  stmt_of-IfElse : (f : Bool) (at : Span) (c : Expr) (a b : Stmt) (st : State) → stmt_of defs result f (s.IfElse at c a b) st ≡ if_else_of c (stmt_of defs result f a) (stmt_of defs result f b) st
  unfolding shape-the_row-Stmt-0 hidden-the_row-Stmt-0 shape-the_row-Stmt-1 hidden-the_row-Stmt-1 Carrier.hidden
  stmt_of-IfElse f at c a b st = refl

  stmt_of-While : (f : Bool) (at : Span) (c : Expr) (a : Stmt) (st : State) → stmt_of defs result f (s.While at c a) st ≡ while_of c (stmt_of defs result true a) st
  unfolding shape-the_row-Stmt-0 hidden-the_row-Stmt-0 shape-the_row-Stmt-1 hidden-the_row-Stmt-1 Carrier.hidden
  stmt_of-While f at c a st = refl

  stmt_of-Do : (f : Bool) (at : Span) (c : Expr) (a : Stmt) (st : State) → stmt_of defs result f (s.Do at a c) st ≡ do_of c (stmt_of defs result true a) st
  unfolding shape-the_row-Stmt-0 hidden-the_row-Stmt-0 shape-the_row-Stmt-1 hidden-the_row-Stmt-1 Carrier.hidden
  stmt_of-Do f at c a st = refl

  stmt_of-For : (f : Bool) (at : Span) (o : Opening) (c : Option Expr) (x : Option deed.Simple) (a : Stmt) (st : State) → stmt_of defs result f (s.For at o c x a) st ≡ for_of defs o c x (stmt_of defs result true a) st
  unfolding shape-the_row-Stmt-0 hidden-the_row-Stmt-0 shape-the_row-Stmt-1 hidden-the_row-Stmt-1 Carrier.hidden
  stmt_of-For f at o c x a st = refl

  item_is : (floor : ℕ) (a : Stmt) (make : Making ps.Stmt) (st : State) → is_declaration a ≡ false → item_by defs floor a make st ≡ alone (make st)
  item_is floor (Decl d) make st h = cc
  item_is floor (Empty at) make st h = refl
  item_is floor (Block' at sh row) make st h = refl
  item_is floor (Simple at x) make st h = refl
  item_is floor (If' at c sh row) make st h = refl
  item_is floor (IfElse' at c sh row sh2 row2) make st h = refl
  item_is floor (While' at c sh row) make st h = refl
  item_is floor (Do' at sh row c) make st h = refl
  item_is floor (For' at o c x sh row) make st h = refl
  item_is floor (Break at) make st h = refl
  item_is floor (Continue at) make st h = refl
  item_is floor (Return at a) make st h = refl
  item_is floor (Read at a) make st h = refl
  item_is floor (Print at format a) make st h = refl

  no_declaration : (f : Bool) (st : State) (x : Stmt) (b : ps.Stmt) (st2 : State) → Becomes defs result f st x b st2 → is_declaration x ≡ false
  unfolding shape-the_row-Stmt-0 hidden-the_row-Stmt-0 shape-the_row-Stmt-1 hidden-the_row-Stmt-1 Carrier.hidden
  no_declaration f st _ b st2 Becomes.empty = refl
  no_declaration f st _ b st2 (Becomes.block items d) = refl
  no_declaration f st _ b st2 (Becomes.simple d) = refl
  no_declaration f st _ b st2 (Becomes.lone_if x atoms n d) = refl
  no_declaration f st _ b st2 (Becomes.if_else x atoms n d e) = refl
  no_declaration f st _ b st2 (Becomes.while x atoms n d) = refl
  no_declaration f st _ b st2 (Becomes.do_while x atoms d n) = refl
  no_declaration f st _ b st2 (Becomes.for o c y d) = refl
  no_declaration f st _ b st2 Becomes.break = refl
  no_declaration f st _ b st2 Becomes.continue = refl
  no_declaration f st _ b st2 (Becomes.return d) = refl
  no_declaration f st _ b st2 (Becomes.read l t) = refl
  no_declaration f st _ b st2 (Becomes.print x atoms n) = refl

  -- an item that is no declaration, and what stands behind it
  alone_is : (floor : ℕ) (a : Stmt) (make : Making ps.Stmt) (others : Making (List ps.Stmt)) (st : State) (b : ps.Stmt) (st2 : State) (bs : List ps.Stmt) (st3 : State) → is_declaration a ≡ false → make st ≡ Ok (b, st2) → others st2 ≡ Ok (bs, st3) → followed_by (item_by defs floor a make st) others ≡ Ok (b ∷ bs, st3)
  alone_is floor a make others st b st2 bs st3 z h k = bind_is _ _ (b ∷ [], st2) _ (item_is floor a make st z ∙ bind_is _ _ (b, st2) _ h refl) (bind_is _ _ (bs, st3) _ k refl)

  -- ---- what the rules say is what the functions give

  mutual
    pub stmt_is : (f : Bool) (x : Stmt) (st : State) (b : ps.Stmt) (st2 : State) → Becomes defs result f st x b st2 → stmt_of defs result f x st ≡ Ok (b, st2)
    stmt_is f _ st _ _ Becomes.empty = refl
    stmt_is f _ st _ _ (Becomes.block {st2 = st2} {at = at} items {bs = bs} d) = stmt_of-Block f at items st ∙ bind_is _ _ (bs, st2) _ (items_are f (depth st) items st bs st2 d) refl
    stmt_is f _ st b st2 (Becomes.simple {x = x} d) = simple_is defs x st b st2 d
    stmt_is f _ st _ st2 (Becomes.lone_if {at = at} {c = c} {a = a} {b = b} x atoms n d) =
        stmt_of-If f at c a st ∙ bind_is _ _ (next_slot st, with_slot st c x atoms) _ (slot_is st c x atoms n) (bind_is _ _ (b, st2) _ (stmt_is f a (with_slot st c x atoms) b st2 d) refl)
    stmt_is f _ st _ st3 (Becomes.if_else {st2 = st2} {at = at} {c = c} {a = a} {other = other} {b = b} {d = q} x atoms n d e) =
        stmt_of-IfElse f at c a other st ∙ bind_is _ _ (next_slot st, with_slot st c x atoms) _ (slot_is st c x atoms n) (bind_is _ _ (b, st2) _ (stmt_is f a (with_slot st c x atoms) b st2 d) (bind_is _ _ (q, st3) _ (stmt_is f other st2 q st3 e) refl))
    stmt_is f _ st _ st2 (Becomes.while {at = at} {c = c} {a = a} {b = b} x atoms n d) =
        stmt_of-While f at c a st ∙ bind_is _ _ (next_slot st, with_slot st c x atoms) _ (slot_is st c x atoms n) (bind_is _ _ (b, st2) _ (stmt_is true a (with_slot st c x atoms) b st2 d) refl)
    stmt_is f _ st _ _ (Becomes.do_while {st2 = st2} {at = at} {c = c} {a = a} {b = b} x atoms d n) =
        stmt_of-Do f at c a st ∙ bind_is _ _ (b, st2) _ (stmt_is true a st b st2 d) (bind_is _ _ (next_slot st2, with_slot st2 c x atoms) _ (slot_is st2 c x atoms n) refl)
    stmt_is f _ st _ _ (Becomes.for {st2 = st2} {st3 = st3} {st4 = st4} {st5 = st5} {at = at} {o = o} {c = c} {x = x} {a = a} {bs = bs} {id = id} {y = y} {b = b} dq di dy d) =
        stmt_of-For f at o c x a st ∙ bind_is _ _ (bs, st2) _ (opening_is defs o st bs st2 dq) (bind_is _ _ (id, st3) _ (test_is c st2 id st3 di) (bind_is _ _ (y, st4) _ (step_is defs x st3 y st4 dy) (bind_is _ _ (b, st5) _ (stmt_is true a st4 b st5 d) refl)))
    stmt_is _ _ st _ _ Becomes.break = refl
    stmt_is _ _ st _ _ Becomes.continue = refl
    stmt_is f _ st _ st2 (Becomes.return {at = at} {a = a} {v = v} d) = bind_is _ _ (v, st2) _ (return_is defs result at a st v st2 d) refl
    stmt_is f _ st _ _ (Becomes.read {a = a} l t) = bind_is _ _ (ty.Int, l) _ (target_is st a ty.Int l t) refl
    stmt_is f _ st _ _ (Becomes.print {a = a} x atoms n) = bind_is _ _ (next_slot st, with_slot st a x atoms) _ (slot_is st a x atoms n) refl

    pub items_are : (f : Bool) (floor : ℕ) (xs : List Stmt) (st : State) (bs : List ps.Stmt) (st2 : State) → BecomeAll defs result f floor st xs bs st2 → items_of defs result f floor xs st ≡ Ok (bs, st2)
    items_are f floor _ st _ _ BecomeAll.none = refl
    items_are f floor _ st _ st3 (BecomeAll.decl {st2 = st2} {d = d} {rest = rest} {ds = ds} {bs = bs} b e) =
        bind_is _ _ (ds, st2) _ (vars_are defs floor d.base d.items st ds st2 b) (bind_is _ _ (bs, st3) _ (items_are f floor rest st2 bs st3 e) refl)
    items_are f floor _ st _ st3 (BecomeAll.more {st2 = st2} {a = a} {rest = rest} {b = b} {bs = bs} d e) =
        alone_is floor a (stmt_of defs result f a) (items_of defs result f floor rest) st b st2 bs st3 (no_declaration f st a b st2 d) (stmt_is f a st b st2 d) (items_are f floor rest st2 bs st3 e)

  -- ---- breaks

  no_read : (at : Span) (u : Ty) (l : Lval) (st : State) → (u ≡ ty.Int → ⊥) → read_for at (u, l) st ≡ Err (fault WrongType at)
  no_read at ty.Int l st k = absurd (k refl)
  no_read at (Ptr' sh row) l st k = refl
  no_read at (Array' sh row n) l st k = refl
  no_read at (ty.Struct j) l st k = refl

  alone_breaks : (floor : ℕ) (a : Stmt) (make : Making ps.Stmt) (others : Making (List ps.Stmt)) (st : State) (g : TypeFault) → is_declaration a ≡ false → Faulty (make st) g → Faulty (followed_by (item_by defs floor a make st) others) g
  alone_breaks floor a make others st g z h = bind_faulty _ _ g (moved_to (item_by defs floor a make st) (alone (make st)) g (item_is floor a make st z) (bind_faulty _ (make st) g h))

  behind_breaks : (floor : ℕ) (a : Stmt) (make : Making ps.Stmt) (others : Making (List ps.Stmt)) (st : State) (b : ps.Stmt) (st2 : State) (g : TypeFault) → is_declaration a ≡ false → make st ≡ Ok (b, st2) → Faulty (others st2) g → Faulty (followed_by (item_by defs floor a make st) others) g
  behind_breaks floor a make others st b st2 g z h k = bind_behind _ _ (b ∷ [], st2) g (item_is floor a make st z ∙ bind_is _ _ (b, st2) _ h refl) (bind_faulty _ (others st2) g k)

  mutual
    pub stmt_breaks : (f : Bool) (x : Stmt) (st : State) (g : TypeFault) → BreaksStmt defs result f st x g → Faulty (stmt_of defs result f x st) g
    stmt_breaks f _ st g (BreaksStmt.block {at = at} items d) = moved_to _ _ g (stmt_of-Block f at items st) (bind_faulty _ _ g (items_break f (depth st) items st g d))
    stmt_breaks f _ st _ BreaksStmt.declaration = fault_is _ _ refl
    stmt_breaks f _ st g (BreaksStmt.simple {x = x} d) = simple_breaks defs x st g d
    stmt_breaks f _ st g (BreaksStmt.lone_test {at = at} {c = c} a d) = moved_to _ _ g (stmt_of-If f at c a st) (bind_faulty _ _ g (slot_breaks st c g d))
    stmt_breaks f _ st g (BreaksStmt.lone_first {at = at} {c = c} {a = a} x atoms n d) =
        moved_to _ _ g (stmt_of-If f at c a st) (bind_behind _ _ (next_slot st, with_slot st c x atoms) g (slot_is st c x atoms n) (bind_faulty _ _ g (stmt_breaks f a (with_slot st c x atoms) g d)))
    stmt_breaks f _ st g (BreaksStmt.if_test {at = at} {c = c} a other d) = moved_to _ _ g (stmt_of-IfElse f at c a other st) (bind_faulty _ _ g (slot_breaks st c g d))
    stmt_breaks f _ st g (BreaksStmt.if_first {at = at} {c = c} {a = a} other x atoms n d) =
        moved_to _ _ g (stmt_of-IfElse f at c a other st) (bind_behind _ _ (next_slot st, with_slot st c x atoms) g (slot_is st c x atoms n) (bind_faulty _ _ g (stmt_breaks f a (with_slot st c x atoms) g d)))
    stmt_breaks f _ st g (BreaksStmt.if_second {st2 = st2} {at = at} {c = c} {a = a} {other = other} {b = b} x atoms n d e) =
        moved_to _ _ g (stmt_of-IfElse f at c a other st) (bind_behind _ _ (next_slot st, with_slot st c x atoms) g (slot_is st c x atoms n) (bind_behind _ _ (b, st2) g (stmt_is f a (with_slot st c x atoms) b st2 d) (bind_faulty _ _ g (stmt_breaks f other st2 g e))))
    stmt_breaks f _ st g (BreaksStmt.while_test {at = at} {c = c} a d) = moved_to _ _ g (stmt_of-While f at c a st) (bind_faulty _ _ g (slot_breaks st c g d))
    stmt_breaks f _ st g (BreaksStmt.while_body {at = at} {c = c} {a = a} x atoms n d) =
        moved_to _ _ g (stmt_of-While f at c a st) (bind_behind _ _ (next_slot st, with_slot st c x atoms) g (slot_is st c x atoms n) (bind_faulty _ _ g (stmt_breaks true a (with_slot st c x atoms) g d)))
    stmt_breaks f _ st g (BreaksStmt.do_body {at = at} c {a = a} d) = moved_to _ _ g (stmt_of-Do f at c a st) (bind_faulty _ _ g (stmt_breaks true a st g d))
    stmt_breaks f _ st g (BreaksStmt.do_test {st2 = st2} {at = at} {c = c} {a = a} {b = b} d e) =
        moved_to _ _ g (stmt_of-Do f at c a st) (bind_behind _ _ (b, st2) g (stmt_is true a st b st2 d) (bind_faulty _ _ g (slot_breaks st2 c g e)))
    stmt_breaks f _ st g (BreaksStmt.for_opening {at = at} {o = o} {c = c} {x = x} a d) = moved_to _ _ g (stmt_of-For f at o c x a st) (bind_faulty _ _ g (opening_breaks defs o st g d))
    stmt_breaks f _ st g (BreaksStmt.for_test {st2 = st2} {at = at} {o = o} {c = c} {x = x} a {bs = bs} dq d) =
        moved_to _ _ g (stmt_of-For f at o c x a st) (bind_behind _ _ (bs, st2) g (opening_is defs o st bs st2 dq) (bind_faulty _ _ g (test_breaks c st2 g d)))
    stmt_breaks f _ st g (BreaksStmt.for_step {st2 = st2} {st3 = st3} {at = at} {o = o} {c = c} {x = x} a {bs = bs} {id = id} dq di d) =
        moved_to _ _ g (stmt_of-For f at o c x a st) (bind_behind _ _ (bs, st2) g (opening_is defs o st bs st2 dq) (bind_behind _ _ (id, st3) g (test_is c st2 id st3 di) (bind_faulty _ _ g (step_breaks defs x st3 g d))))
    stmt_breaks f _ st g (BreaksStmt.for_body {st2 = st2} {st3 = st3} {st4 = st4} {at = at} {o = o} {c = c} {x = x} {a = a} {bs = bs} {id = id} {y = y} dq di dy d) =
        moved_to _ _ g (stmt_of-For f at o c x a st) (bind_behind _ _ (bs, st2) g (opening_is defs o st bs st2 dq) (bind_behind _ _ (id, st3) g (test_is c st2 id st3 di) (bind_behind _ _ (y, st4) g (step_is defs x st3 y st4 dy) (bind_faulty _ _ g (stmt_breaks true a st4 g d)))))
    stmt_breaks _ _ st _ BreaksStmt.break = fault_is _ _ refl
    stmt_breaks _ _ st _ BreaksStmt.continue = fault_is _ _ refl
    stmt_breaks f _ st g (BreaksStmt.return {at = at} {a = a} d) = bind_faulty _ _ g (return_breaks defs result at a st g d)
    stmt_breaks f _ st g (BreaksStmt.read {a = a} d) = bind_faulty _ _ g (target_breaks st a g d)
    stmt_breaks f _ st _ (BreaksStmt.read_kind {a = a} u l t k) = bind_behind _ _ (u, l) (fault WrongType (span_of a)) (target_is st a u l t) (fault_is _ _ (no_read (span_of a) u l st k))
    stmt_breaks f _ st g (BreaksStmt.print {a = a} d) = bind_faulty _ _ g (slot_breaks st a g d)

    pub items_break : (f : Bool) (floor : ℕ) (xs : List Stmt) (st : State) (g : TypeFault) → BreaksAll defs result f floor st xs g → Faulty (items_of defs result f floor xs st) g
    items_break f floor _ st g (BreaksAll.this_decl {d = d} rest b) = bind_faulty _ _ g (vars_break defs floor d.base d.items st g b)
    items_break f floor _ st g (BreaksAll.behind_decl {st2 = st2} {d = d} {rest = rest} {ds = ds} b e) =
        bind_behind _ _ (ds, st2) g (vars_are defs floor d.base d.items st ds st2 b) (bind_faulty _ _ g (items_break f floor rest st2 g e))
    items_break f floor _ st g (BreaksAll.this {a = a} rest z d) = alone_breaks floor a (stmt_of defs result f a) (items_of defs result f floor rest) st g z (stmt_breaks f a st g d)
    items_break f floor _ st g (BreaksAll.behind {st2 = st2} {a = a} {rest = rest} {b = b} d e) =
        behind_breaks floor a (stmt_of defs result f a) (items_of defs result f floor rest) st b st2 g (no_declaration f st a b st2 d) (stmt_is f a st b st2 d) (items_break f floor rest st2 g e)
