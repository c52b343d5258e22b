-- Statements: what the functions give is a meaning or a break.
use Rattle.std.proofs.Common.{◌≡◌, ℕ, Bool, true, false, List, [], ◌∷◌, Option, Ok, Err, refl, sym, ap, subst}
use Rattle.ax_prog.specs.declared.Span.{Span}
use Rattle.ax_prog.specs.declared.Ty.{Ty, Ptr', Array'}
use Rattle.ax_prog.specs.declared.Ty.TheVariants as ty
use Rattle.ax_prog.specs.declared.Lval.{Lval}
use Rattle.ax_prog.specs.declared.Stmt as ps
use Rattle.ax_prog.specs.declared.Stmt.TheVariants as to
use Rattle.ax_parse_grammar.specs.declared.tree.Expr.{Expr}
use Rattle.ax_parse_grammar.specs.declared.tree.Simple as deed
use Rattle.ax_parse_grammar.specs.declared.tree.Opening.{Opening}
use Rattle.ax_parse_grammar.specs.declared.tree.Stmt.{Stmt, Empty, Block', Decl, Simple, If', IfElse', While', Do', For', Break, Continue, Return, Read, Print}
use Rattle.ax_parse_grammar.specs.declared.tree.Stmt.TheVariants as s
use Rattle.ax_parse_grammar.specs.declared.tree.Stmt.TheBlock.{Row_of-Stmt, more_of-Stmt, end_of-Stmt, backs-Stmt, items-the_row-Stmt, items_shown-the_row-Stmt-0, shown-the_row-Stmt-0, shape-the_row-Stmt-0, hidden-the_row-Stmt-0, shape-the_row-Stmt-1, hidden-the_row-Stmt-1}
use Rattle.ax_parse_grammar.specs.Trees.{span_of}
use Rattle.ax_names_types.proofs.Sound.{clash}
use Rattle.ax_names_rules.specs.declared.State.{State}
use Rattle.ax_names_rules.specs.States.{is_int, with_slot, depth, leaving}
use Rattle.ax_names_rules.specs.Values.{IsTarget}
use Rattle.ax_names_rules.specs.Statements.{Becomes, BecomeAll}
use Rattle.ax_names_rules.specs.StatementFaults.{is_declaration, BreaksStmt, BreaksAll}
use Rattle.ax_names_rules.specs.ValueWalk.{◌>>=◌, Made, target_of}
use Rattle.ax_names_rules.specs.StatementWalk.{vars_of, simple_of, opening_of, test_of, step_of, return_of, read_for, Making, if_of, if_else_of, while_of, do_of, for_of, block_of, in_loop, followed_by, alone, item_by, stmt_of, row_of, items_of}
use Rattle.ax_names_rules.proofs.Steps.{bind_judged}
use Rattle.ax_names_rules.proofs.Numbers.{slot_judged}
use Rattle.ax_names_rules.proofs.Called.{JudgedTarget, target_judged}
use Rattle.ax_names_rules.proofs.Variables.{JudgedVars, vars_judged}
use Rattle.ax_names_rules.proofs.Simples.{JudgedSimple, simple_judged, JudgedOpening, opening_judged, JudgedTest, test_judged, JudgedStep, step_judged, JudgedReturn, return_judged}
use denote.Hole.Carrier

module _ (defs : List (List ℕ)) (result : Option Ty) where
  abbrev pub JudgedStmt : Bool → State → Stmt → Made ps.Stmt → Type 0
  JudgedStmt f st x (Ok r) = Becomes defs result f st x r.0 r.1
  JudgedStmt f st x (Err g) = BreaksStmt defs result f st x g

  abbrev pub JudgedAll : Bool → ℕ → State → List Stmt → Made (List ps.Stmt) → Type 0
  JudgedAll f floor st xs (Ok r) = BecomeAll defs result f floor st xs r.0 r.1
  JudgedAll f floor st xs (Err g) = BreaksAll defs result f floor st xs g

  -- ---- each statement, from its parts

  block_judged : (f : Bool) (st : State) (at : Span) (items : List Stmt) (v : Made (List ps.Stmt)) → JudgedAll f (depth st) st items v → JudgedStmt f st (s.Block at items) (v >>= λ r. Ok (to.Block r.0, leaving (depth st) r.1))
  block_judged f st at items (Ok r) d = Becomes.block items d
  block_judged f st at items (Err g) d = BreaksStmt.block items d

  plain_judged : (f : Bool) (st : State) (at : Span) (x : deed.Simple) (v : Made ps.Stmt) → JudgedSimple defs st x v → JudgedStmt f st (s.Simple at x) v
  plain_judged f st at x (Ok r) d = Becomes.simple d
  plain_judged f st at x (Err g) d = BreaksStmt.simple d

  if_judged : (f : Bool) (st : State) (at : Span) (c : Expr) (a : Stmt) (make : Making ps.Stmt) → ((st : State) → JudgedStmt f st a (make st)) → JudgedStmt f st (s.If at c a) (if_of c make st)
  if_judged f st at c a make h =
      slot_judged (JudgedStmt f st (s.If at c a)) _ st c
      (λ x atoms n. bind_judged (JudgedStmt f (with_slot st c x atoms) a) (JudgedStmt f st (s.If at c a)) _ (make (with_slot st c x atoms)) (h (with_slot st c x atoms)) (λ r d. Becomes.lone_if x atoms n d) (λ g d. BreaksStmt.lone_first x atoms n d))
      (λ g d. BreaksStmt.lone_test a d)

  if_else_judged : (f : Bool) (st : State) (at : Span) (c : Expr) (a b : Stmt) (make other : Making ps.Stmt) → ((st : State) → JudgedStmt f st a (make st)) → ((st : State) → JudgedStmt f st b (other st)) → JudgedStmt f st (s.IfElse at c a b) (if_else_of c make other st)
  if_else_judged f st at c a b make other h k =
      slot_judged (JudgedStmt f st (s.IfElse at c a b)) _ st c
      (λ x atoms n. bind_judged (JudgedStmt f (with_slot st c x atoms) a) (JudgedStmt f st (s.IfElse at c a b)) _ (make (with_slot st c x atoms)) (h (with_slot st c x atoms))
      (λ r d. bind_judged (JudgedStmt f r.1 b) (JudgedStmt f st (s.IfElse at c a b)) _ (other r.1) (k r.1) (λ q e. Becomes.if_else x atoms n d e) (λ g e. BreaksStmt.if_second x atoms n d e))
      (λ g d. BreaksStmt.if_first b x atoms n d))
      (λ g d. BreaksStmt.if_test a b d)

  while_judged : (f : Bool) (st : State) (at : Span) (c : Expr) (a : Stmt) (make : Making ps.Stmt) → ((st : State) → JudgedStmt true st a (make st)) → JudgedStmt f st (s.While at c a) (while_of c make st)
  while_judged f st at c a make h =
      slot_judged (JudgedStmt f st (s.While at c a)) _ st c
      (λ x atoms n. bind_judged (JudgedStmt true (with_slot st c x atoms) a) (JudgedStmt f st (s.While at c a)) _ (make (with_slot st c x atoms)) (h (with_slot st c x atoms)) (λ r d. Becomes.while x atoms n d) (λ g d. BreaksStmt.while_body x atoms n d))
      (λ g d. BreaksStmt.while_test a d)

  do_judged : (f : Bool) (st : State) (at : Span) (c : Expr) (a : Stmt) (make : Making ps.Stmt) → ((st : State) → JudgedStmt true st a (make st)) → JudgedStmt f st (s.Do at a c) (do_of c make st)
  do_judged f st at c a make h =
      bind_judged (JudgedStmt true st a) (JudgedStmt f st (s.Do at a c)) _ (make st) (h st)
      (λ r d. slot_judged (JudgedStmt f st (s.Do at a c)) _ r.1 c (λ x atoms n. Becomes.do_while x atoms d n) (λ g e. BreaksStmt.do_test d e))
      (λ g d. BreaksStmt.do_body c d)

  for_judged : (f : Bool) (st : State) (at : Span) (o : Opening) (c : Option Expr) (x : Option deed.Simple) (a : Stmt) (make : Making ps.Stmt) → ((st : State) → JudgedStmt true st a (make st)) → JudgedStmt f st (s.For at o c x a) (for_of defs o c x make st)
  for_judged f st at o c x a make h =
      bind_judged (JudgedOpening defs st o) (JudgedStmt f st (s.For at o c x a)) _ (opening_of defs o st) (opening_judged defs o st)
      (λ b db. bind_judged (JudgedTest b.1 c) (JudgedStmt f st (s.For at o c x a)) _ (test_of c b.1) (test_judged c b.1)
      (λ i di. bind_judged (JudgedStep defs i.1 x) (JudgedStmt f st (s.For at o c x a)) _ (step_of defs x i.1) (step_judged defs x i.1)
      (λ y dy. bind_judged (JudgedStmt true y.1 a) (JudgedStmt f st (s.For at o c x a)) _ (make y.1) (h y.1) (λ r d. Becomes.for db di dy d) (λ g d. BreaksStmt.for_body db di dy d))
      (λ g dy. BreaksStmt.for_step a db di dy))
      (λ g di. BreaksStmt.for_test a db di))
      (λ g db. BreaksStmt.for_opening a db)

  break_judged : (f : Bool) (st : State) (at : Span) → JudgedStmt f st (s.Break at) (in_loop f at to.Break st)
  break_judged true st at = Becomes.break
  break_judged false st at = BreaksStmt.break

  continue_judged : (f : Bool) (st : State) (at : Span) → JudgedStmt f st (s.Continue at) (in_loop f at to.Continue st)
  continue_judged true st at = Becomes.continue
  continue_judged false st at = BreaksStmt.continue

  no_int : (u : Ty) → is_int u ≡ false → u ≡ ty.Int → ⊥
  no_int u h q = clash (is_int u) (ap is_int q) h

  read_judged : (f : Bool) (st : State) (at : Span) (a : Expr) (u : Ty) (l : Lval) → IsTarget st a u l → JudgedStmt f st (s.Read at a) (read_for (span_of a) (u, l) st)
  read_judged f st at a ty.Int l t = Becomes.read l t
  read_judged f st at a (Ptr' sh row) l t = BreaksStmt.read_kind (Ptr' sh row) l t (no_int (Ptr' sh row) refl)
  read_judged f st at a (Array' sh row n) l t = BreaksStmt.read_kind (Array' sh row n) l t (no_int (Array' sh row n) refl)
  read_judged f st at a (ty.Struct k) l t = BreaksStmt.read_kind (ty.Struct k) l t (no_int (ty.Struct k) refl)

  -- ---- items

  alone_judged : (f : Bool) (floor : ℕ) (st : State) (a : Stmt) (rest : List Stmt) (others : Making (List ps.Stmt)) → is_declaration a ≡ false → ((st : State) → JudgedAll f floor st rest (others st)) → (v : Made ps.Stmt) → JudgedStmt f st a v → JudgedAll f floor st (a ∷ rest) (followed_by (alone v) others)
  alone_judged f floor st a rest others z k (Ok r) d = bind_judged (JudgedAll f floor r.1 rest) (JudgedAll f floor st (a ∷ rest)) _ (others r.1) (k r.1) (λ q e. BecomeAll.more d e) (λ g e. BreaksAll.behind d e)
  alone_judged f floor st a rest others z k (Err g) d = BreaksAll.this rest z d

  pub item_judged : (f : Bool) (floor : ℕ) (st : State) (a : Stmt) (rest : List Stmt) (make : Making ps.Stmt) (others : Making (List ps.Stmt)) → ((st : State) → JudgedStmt f st a (make st)) → ((st : State) → JudgedAll f floor st rest (others st)) → JudgedAll f floor st (a ∷ rest) (followed_by (item_by defs floor a make st) others)
  item_judged f floor st (Decl d) rest make others h k =
      bind_judged (JudgedVars defs floor d.base d.items st) (JudgedAll f floor st (s.Decl d ∷ rest)) _ (vars_of defs floor d.base d.items st) (vars_judged defs floor d.base d.items st)
      (λ r b. bind_judged (JudgedAll f floor r.1 rest) (JudgedAll f floor st (s.Decl d ∷ rest)) _ (others r.1) (k r.1) (λ q e. BecomeAll.decl b e) (λ g e. BreaksAll.behind_decl b e))
      (λ g b. BreaksAll.this_decl rest b)
  item_judged f floor st (Empty at) rest make others h k = alone_judged f floor st (Empty at) rest others refl k (make st) (h st)
  item_judged f floor st (Block' at sh row) rest make others h k = alone_judged f floor st (Block' at sh row) rest others refl k (make st) (h st)
  item_judged f floor st (Simple at x) rest make others h k = alone_judged f floor st (Simple at x) rest others refl k (make st) (h st)
  item_judged f floor st (If' at c sh row) rest make others h k = alone_judged f floor st (If' at c sh row) rest others refl k (make st) (h st)
  item_judged f floor st (IfElse' at c sh row sh2 row2) rest make others h k = alone_judged f floor st (IfElse' at c sh row sh2 row2) rest others refl k (make st) (h st)
  item_judged f floor st (While' at c sh row) rest make others h k = alone_judged f floor st (While' at c sh row) rest others refl k (make st) (h st)
  item_judged f floor st (Do' at sh row c) rest make others h k = alone_judged f floor st (Do' at sh row c) rest others refl k (make st) (h st)
  item_judged f floor st (For' at o c x sh row) rest make others h k = alone_judged f floor st (For' at o c x sh row) rest others refl k (make st) (h st)
  item_judged f floor st (Break at) rest make others h k = alone_judged f floor st (Break at) rest others refl k (make st) (h st)
  item_judged f floor st (Continue at) rest make others h k = alone_judged f floor st (Continue at) rest others refl k (make st) (h st)
  item_judged f floor st (Return at a) rest make others h k = alone_judged f floor st (Return at a) rest others refl k (make st) (h st)
  item_judged f floor st (Read at a) rest make others h k = alone_judged f floor st (Read at a) rest others refl k (make st) (h st)
  item_judged f floor st (Print at format a) rest make others h k = alone_judged f floor st (Print at format a) rest others refl k (make st) (h st)

  -- ---- the whole

  mutual
    unfolding shape-the_row-Stmt-0 hidden-the_row-Stmt-0 shape-the_row-Stmt-1 hidden-the_row-Stmt-1 shown-the_row-Stmt-0 Carrier.hidden Carrier.shown

    pub stmt_judged : (f : Bool) (x : Stmt) (st : State) → JudgedStmt f st x (stmt_of defs result f x st)
    stmt_judged f (Empty at) st = Becomes.empty
    stmt_judged f (Block' at sh row) st =
        let d : JudgedStmt f st (s.Block at (shown-the_row-Stmt-0 sh row)) (block_of (row_of defs result f (depth st) row) st) =
        block_judged f st at (shown-the_row-Stmt-0 sh row) (row_of defs result f (depth st) row st) (subst (λ (l : List Stmt). JudgedAll f (depth st) st l (row_of defs result f (depth st) row st)) (sym (items_shown-the_row-Stmt-0 sh row)) (row_judged f (depth st) row st)) in
        subst (λ (x : Stmt). JudgedStmt f st x (block_of (row_of defs result f (depth st) row) st)) (backs-Stmt (Block' at sh row)) d
    stmt_judged f (Decl d) st = BreaksStmt.declaration
    stmt_judged f (Simple at x) st = plain_judged f st at x (simple_of defs x st) (simple_judged defs x st)
    stmt_judged f (If' at c sh (more_of-Stmt a end_of-Stmt)) st = if_judged f st at c a (stmt_of defs result f a) (λ st. stmt_judged f a st)
    stmt_judged f (IfElse' at c sh (more_of-Stmt a end_of-Stmt) sh2 (more_of-Stmt b end_of-Stmt)) st = if_else_judged f st at c a b (stmt_of defs result f a) (stmt_of defs result f b) (λ st. stmt_judged f a st) (λ st. stmt_judged f b st)
    stmt_judged f (While' at c sh (more_of-Stmt a end_of-Stmt)) st = while_judged f st at c a (stmt_of defs result true a) (λ st. stmt_judged true a st)
    stmt_judged f (Do' at sh (more_of-Stmt a end_of-Stmt) c) st = do_judged f st at c a (stmt_of defs result true a) (λ st. stmt_judged true a st)
    stmt_judged f (For' at o c x sh (more_of-Stmt a end_of-Stmt)) st = for_judged f st at o c x a (stmt_of defs result true a) (λ st. stmt_judged true a st)
    stmt_judged f (Break at) st = break_judged f st at
    stmt_judged f (Continue at) st = continue_judged f st at
    stmt_judged f (Return at a) st = bind_judged (JudgedReturn defs result at st a) (JudgedStmt f st (s.Return at a)) _ (return_of defs result at a st) (return_judged defs result at a st) (λ r d. Becomes.return d) (λ g d. BreaksStmt.return d)
    stmt_judged f (Read at a) st = bind_judged (JudgedTarget st a) (JudgedStmt f st (s.Read at a)) _ (target_of st a) (target_judged st a) (λ l t. read_judged f st at a l.0 l.1 t) (λ g d. BreaksStmt.read d)
    stmt_judged f (Print at format a) st = slot_judged (JudgedStmt f st (s.Print at format a)) _ st a (λ x atoms n. Becomes.print x atoms n) (λ g d. BreaksStmt.print d)

    pub row_judged : (f : Bool) (floor : ℕ) {n : _} (row : Row_of-Stmt n) (st : State) → JudgedAll f floor st (items-the_row-Stmt n row) (row_of defs result f floor row st)
    row_judged f floor end_of-Stmt st = BecomeAll.none
    row_judged f floor (more_of-Stmt a rest) st = item_judged f floor st a (items-the_row-Stmt _ rest) (stmt_of defs result f a) (row_of defs result f floor rest) (λ st. stmt_judged f a st) (λ st. row_judged f floor rest st)

  pub items_judged : (f : Bool) (floor : ℕ) (xs : List Stmt) (st : State) → JudgedAll f floor st xs (items_of defs result f floor xs st)
  items_judged f floor [] st = BecomeAll.none
  items_judged f floor (a ∷ rest) st = item_judged f floor st a rest (stmt_of defs result f a) (items_of defs result f floor rest) (λ st. stmt_judged f a st) (λ st. items_judged f floor rest st)
