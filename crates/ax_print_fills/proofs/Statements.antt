-- Statements: what they add.
use Rattle.std.proofs.Common.{◌≡◌, ℕ, Bool, true, List, map, Option, None, refl, sym, subst}
use Rattle.ax_prog.specs.declared.Span.{Span}
use Rattle.ax_prog.specs.declared.Ty.{Ty}
use Rattle.ax_prog.specs.declared.SlotId.{SlotId}
use Rattle.ax_prog.specs.declared.Expr as ex
use Rattle.ax_prog.specs.declared.Atom.{Atom}
use Rattle.ax_prog.specs.declared.Slot.{Slot}
use Rattle.ax_prog.specs.declared.Stmt as ps
use Rattle.ax_prog.specs.declared.Stmt.TheVariants as to
use Rattle.ax_parse_grammar.specs.declared.tree.Expr.{Expr}
use Rattle.ax_parse_grammar.specs.declared.tree.Simple.{Simple}
use Rattle.ax_parse_grammar.specs.declared.tree.Stmt.{Stmt}
use Rattle.ax_parse_grammar.specs.declared.tree.Stmt.TheVariants as form
use Rattle.ax_names_rules.specs.declared.State.{State}
use Rattle.ax_names_rules.specs.States.{next_slot, with_slot, depth, leaving}
use Rattle.ax_names_rules.specs.Values.{IsNumber}
use Rattle.ax_names_rules.specs.Statements.{Becomes, BecomeAll}
use Rattle.ax_print_holes.specs.Moved.{moved_span, moved_expr, moved_stmt}
use Rattle.ax_print_holes.specs.Holes.{HoldsStmt, HoldsItem, put_stmt, put_item}
use Rattle.ax_print_holes.proofs.Layers.{moved-Block, moved-If, moved-While, moved-Do}
use Rattle.ax_print_fills.proofs.Grown.{grown_same, grown_leaving}
use Rattle.ax_print_fills.proofs.Added.{over, Moving, Putting, Adds, nothing_added, added_as}
use Rattle.ax_print_fills.proofs.Numbers.{IsNext, number_adds, by_next, number_as, number_then, then_number}
use Rattle.ax_print_fills.proofs.Simples.{InSimple, SimpleMoved, SimplePut}

abbrev pub InStmt : Stmt → Expr → Type 0
InStmt x old = HoldsStmt old x

abbrev pub InItems : List Stmt → Expr → Type 0
InItems xs old = HoldsItem old xs

module _ (defs : List (List ℕ)) (result : Option Ty) where
  abbrev pub StmtMoved : Bool → State → Stmt → ps.Stmt → State → Moving
  StmtMoved l st x b st2 f s t = Becomes defs result l (over st s) (moved_stmt f x) b (over st2 t)

  abbrev pub StmtPut : Bool → State → (x : Stmt) → ps.Stmt → State → Putting (InStmt x)
  StmtPut l st x b st2 f old h new s t = Becomes defs result l (over st s) (put_stmt f new h) b (over st2 t)

  abbrev pub AddsStmt : Bool → State → Stmt → ps.Stmt → State → Type 0
  AddsStmt l st x b st2 = Adds st st2 (StmtMoved l st x b st2) (InStmt x) (StmtPut l st x b st2)

  abbrev pub ItemsMoved : Bool → ℕ → State → List Stmt → List ps.Stmt → State → Moving
  ItemsMoved l floor st xs bs st2 f s t = BecomeAll defs result l floor (over st s) (map (moved_stmt f) xs) bs (over st2 t)

  abbrev pub ItemsPut : Bool → ℕ → State → (xs : List Stmt) → List ps.Stmt → State → Putting (InItems xs)
  ItemsPut l floor st xs bs st2 f old h new s t = BecomeAll defs result l floor (over st s) (put_item f new h) bs (over st2 t)

  abbrev pub AddsItems : Bool → ℕ → State → List Stmt → List ps.Stmt → State → Type 0
  AddsItems l floor st xs bs st2 = Adds st st2 (ItemsMoved l floor st xs bs st2) (InItems xs) (ItemsPut l floor st xs bs st2)

  pub stmt_said : (l : Bool) (st st2 : State) (x y : Stmt) (b : ps.Stmt) → x ≡ y → Becomes defs result l st y b st2 → Becomes defs result l st x b st2
  stmt_said l st st2 x y b e d = subst (λ (z : Stmt). Becomes defs result l st z b st2) (sym e) d

  -- a statement that adds nothing
  pub stmt_alone : (l : Bool) (st : State) (x : Stmt) (b : ps.Stmt) → ((f : ℕ → ℕ) (s : List Slot) → Becomes defs result l (over st s) (moved_stmt f x) b (over st s)) → AddsStmt l st x b st
  stmt_alone l st x b h = nothing_added st (StmtMoved l st x b st) (InStmt x) (StmtPut l st x b st) (λ f s e. h f s)

  pub block_adds : (l : Bool) (st st2 : State) (at : Span) (xs : List Stmt) (bs : List ps.Stmt) → AddsItems l (depth st) st xs bs st2 → AddsStmt l st (form.Block at xs) (to.Block bs) (leaving (depth st) st2)
  block_adds l st st2 at xs bs d =
      let x : Stmt = form.Block at xs in
      let st3 : State = leaving (depth st) st2 in
      added_as st st2 st st3 (ItemsMoved l (depth st) st xs bs st2) (StmtMoved l st x (to.Block bs) st3) (InItems xs) (InStmt x) (ItemsPut l (depth st) st xs bs st2) (StmtPut l st x (to.Block bs) st3) d refl refl (grown_same st) (grown_leaving (depth st) st2)
      (λ f s t e m. stmt_said l (over st s) (over st3 t) (moved_stmt f x) (form.Block (moved_span f at) (map (moved_stmt f) xs)) (to.Block bs) (moved-Block f at xs) (Becomes.block (map (moved_stmt f) xs) m))
      (λ old h. HoldsStmt.block h) (λ f old h new s t e m. Becomes.block (put_item f new h) m)

  pub plain_adds : (l : Bool) (st st2 : State) (at : Span) (x : Simple) (b : ps.Stmt) → Adds st st2 (SimpleMoved defs st x b st2) (InSimple x) (SimplePut defs st x b st2) → AddsStmt l st (form.Simple at x) b st2
  plain_adds l st st2 at x b d =
      let y : Stmt = form.Simple at x in
      added_as st st2 st st2 (SimpleMoved defs st x b st2) (StmtMoved l st y b st2) (InSimple x) (InStmt y) (SimplePut defs st x b st2) (StmtPut l st y b st2) d refl refl (grown_same st) (grown_same st2)
      (λ f s t e m. Becomes.simple m) (λ old h. HoldsStmt.simple h) (λ f old h new s t e m. Becomes.simple m)

  -- ---- statements with a condition

  module _ (l : Bool) (st : State) (at : Span) (c : Expr) (x : ex.Expr) (atoms : List (Atom × Span)) (n : IsNumber st c x atoms) where
    abbrev behind : State
    behind = with_slot st c x atoms

    if_by : (st2 : State) (at : Span) (c : Expr) (a : Stmt) (b : ps.Stmt) (s t w : List Slot) → IsNext st c s t → Becomes defs result l (over st t) a b (over st2 w) → Becomes defs result l (over st s) (form.If at c a) (to.If (next_slot st) b None) (over st2 w)
    if_by st2 at c a b s t w q d =
        by_next st c s t (λ (id : SlotId) (z : State). Becomes defs result l z a b (over st2 w) → Becomes defs result l (over st s) (form.If at c a) (to.If id b None) (over st2 w)) q (λ x atoms n d. Becomes.lone_if x atoms n d) d

    pub if_adds : (st2 : State) (a : Stmt) (b : ps.Stmt) → AddsStmt l behind a b st2 → AddsStmt l st (form.If at c a) (to.If (next_slot st) b None) st2
    if_adds st2 a b d =
        let y : Stmt = form.If at c a in
        let made : ps.Stmt = to.If (next_slot st) b None in
        number_then c (IsNext st) st behind st2 (StmtMoved l behind a b st2) (StmtMoved l st y made st2) (InStmt a) (InStmt y) (StmtPut l behind a b st2) (StmtPut l st y made st2) (number_adds st c x atoms n) d
        (λ f s t w e q m. stmt_said l (over st s) (over st2 w) (moved_stmt f y) (form.If (moved_span f at) (moved_expr f c) (moved_stmt f a)) made (moved-If f at c a) (if_by st2 (moved_span f at) (moved_expr f c) (moved_stmt f a) b s t w q m))
        (HoldsStmt.if_test a) (λ f new s t w e q m. if_by st2 (moved_span f at) new (moved_stmt f a) b s t w q m)
        (λ old h. HoldsStmt.if_body h) (λ f old h new s t w e q m. if_by st2 (moved_span f at) (moved_expr f c) (put_stmt f new h) b s t w q m)

    while_by : (st2 : State) (at : Span) (c : Expr) (a : Stmt) (b : ps.Stmt) (s t w : List Slot) → IsNext st c s t → Becomes defs result true (over st t) a b (over st2 w) → Becomes defs result l (over st s) (form.While at c a) (to.While (next_slot st) b) (over st2 w)
    while_by st2 at c a b s t w q d =
        by_next st c s t (λ (id : SlotId) (z : State). Becomes defs result true z a b (over st2 w) → Becomes defs result l (over st s) (form.While at c a) (to.While id b) (over st2 w)) q (λ x atoms n d. Becomes.while x atoms n d) d

    pub while_adds : (st2 : State) (a : Stmt) (b : ps.Stmt) → AddsStmt true behind a b st2 → AddsStmt l st (form.While at c a) (to.While (next_slot st) b) st2
    while_adds st2 a b d =
        let y : Stmt = form.While at c a in
        let made : ps.Stmt = to.While (next_slot st) b in
        number_then c (IsNext st) st behind st2 (StmtMoved true behind a b st2) (StmtMoved l st y made st2) (InStmt a) (InStmt y) (StmtPut true behind a b st2) (StmtPut l st y made st2) (number_adds st c x atoms n) d
        (λ f s t w e q m. stmt_said l (over st s) (over st2 w) (moved_stmt f y) (form.While (moved_span f at) (moved_expr f c) (moved_stmt f a)) made (moved-While f at c a) (while_by st2 (moved_span f at) (moved_expr f c) (moved_stmt f a) b s t w q m))
        (HoldsStmt.while_test a) (λ f new s t w e q m. while_by st2 (moved_span f at) new (moved_stmt f a) b s t w q m)
        (λ old h. HoldsStmt.while_body h) (λ f old h new s t w e q m. while_by st2 (moved_span f at) (moved_expr f c) (put_stmt f new h) b s t w q m)

    print_by : (at : Span) (format : ℕ) (c : Expr) (s t : List Slot) → IsNext st c s t → Becomes defs result l (over st s) (form.Print at format c) (to.Print (next_slot st)) (over st t)
    print_by at format c s t q = by_next st c s t (λ (id : SlotId) (z : State). Becomes defs result l (over st s) (form.Print at format c) (to.Print id) z) q (λ x atoms n. Becomes.print x atoms n)

    pub print_adds : (format : ℕ) → AddsStmt l st (form.Print at format c) (to.Print (next_slot st)) behind
    print_adds format =
        let y : Stmt = form.Print at format c in
        number_as c (IsNext st) st behind (StmtMoved l st y (to.Print (next_slot st)) behind) (InStmt y) (StmtPut l st y (to.Print (next_slot st)) behind) (number_adds st c x atoms n)
        (λ f s t e q. print_by (moved_span f at) format (moved_expr f c) s t q) HoldsStmt.print (λ f new s t e q. print_by (moved_span f at) format new s t q)

    -- the body stands before the condition
    do_by : (before : State) (at : Span) (c : Expr) (a : Stmt) (b : ps.Stmt) (s t w : List Slot) → Becomes defs result true (over before s) a b (over st t) → IsNext st c t w → Becomes defs result l (over before s) (form.Do at a c) (to.Do b (next_slot st)) (over st w)
    do_by before at c a b s t w d q = by_next st c t w (λ (id : SlotId) (z : State). Becomes defs result l (over before s) (form.Do at a c) (to.Do b id) z) q (λ x atoms n. Becomes.do_while x atoms d n)

    pub do_adds : (before : State) (a : Stmt) (b : ps.Stmt) → AddsStmt true before a b st → AddsStmt l before (form.Do at a c) (to.Do b (next_slot st)) behind
    do_adds before a b d =
        let y : Stmt = form.Do at a c in
        let made : ps.Stmt = to.Do b (next_slot st) in
        then_number c (IsNext st) before st behind (StmtMoved true before a b st) (StmtMoved l before y made behind) (InStmt a) (InStmt y) (StmtPut true before a b st) (StmtPut l before y made behind) d (number_adds st c x atoms n)
        (λ f s t w e m q. stmt_said l (over before s) (over behind w) (moved_stmt f y) (form.Do (moved_span f at) (moved_stmt f a) (moved_expr f c)) made (moved-Do f at a c) (do_by before (moved_span f at) (moved_expr f c) (moved_stmt f a) b s t w m q))
        (λ old h. HoldsStmt.do_body h) (λ f old h new s t w e m q. do_by before (moved_span f at) (moved_expr f c) (put_stmt f new h) b s t w m q)
        (HoldsStmt.do_test a) (λ f new s t w e m q. do_by before (moved_span f at) new (moved_stmt f a) b s t w m q)
