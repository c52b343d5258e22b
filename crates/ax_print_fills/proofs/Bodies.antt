-- Statements of several parts, and items of blocks: what they add.
use Rattle.std.proofs.Common.{ℕ, Bool, true, List, [], ◌∷◌, ◌++◌, Option, Some, refl, inl, inr}
use Rattle.std.specs.Option.{option_map}
use Rattle.ax_prog.specs.declared.Span.{Span}
use Rattle.ax_prog.specs.declared.Ty.{Ty}
use Rattle.ax_prog.specs.declared.SlotId.{SlotId}
use Rattle.ax_prog.specs.declared.Expr as ex
use Rattle.ax_prog.specs.declared.Atom.{Atom}
use Rattle.ax_prog.specs.declared.Slot.{Slot}
use Rattle.ax_prog.specs.declared.Stmt as ps
use Rattle.ax_prog.specs.declared.Stmt.TheVariants as to
use Rattle.ax_parse_grammar.specs.declared.tree.Expr.{Expr}
use Rattle.ax_parse_grammar.specs.declared.tree.Decl.{Decl}
use Rattle.ax_parse_grammar.specs.declared.tree.Simple.{Simple}
use Rattle.ax_parse_grammar.specs.declared.tree.Opening.{Opening}
use Rattle.ax_parse_grammar.specs.declared.tree.Stmt.{Stmt}
use Rattle.ax_parse_grammar.specs.declared.tree.Stmt.TheVariants as form
use Rattle.ax_names_rules.specs.declared.State.{State}
use Rattle.ax_names_rules.specs.States.{next_slot, with_slot, depth, leaving}
use Rattle.ax_names_rules.specs.Values.{IsNumber}
use Rattle.ax_names_rules.specs.Statements.{Opens, Tests, Steps, Becomes, BecomeAll}
use Rattle.ax_names_rules.specs.Declarations.{BecomeVars}
use Rattle.ax_print_holes.specs.Moved.{moved_span, moved_expr, moved_simple, moved_opening, moved_decl, moved_stmt}
use Rattle.ax_print_holes.specs.Holes.{HoldsStmt, HoldsItem, put_stmt}
use Rattle.ax_print_holes.proofs.Layers.{moved-IfElse, moved-For}
use Rattle.ax_print_fills.proofs.Grown.{grown_same, grown_leaving}
use Rattle.ax_print_fills.proofs.Added.{over, Moving, Putting, Adds, nothing_added, added_as, added_then, Then, Either, ThenPut, added_both}
use Rattle.ax_print_fills.proofs.Numbers.{IsNext, number_adds, by_next, number_then}
use Rattle.ax_print_fills.proofs.Values.{target_moved}
use Rattle.ax_print_fills.proofs.Declared.{InVars, VarsMoved, VarsPut, vars_add}
use Rattle.ax_print_fills.proofs.Simples.{InOpening, OpeningMoved, OpeningPut, opening_adds, InTest, TestMoved, TestPut, test_adds, InStep, StepMoved, StepPut, step_adds, InReturn, ReturnMoved, ReturnPut, return_adds, simple_adds}
use Rattle.ax_print_fills.proofs.Statements.{InStmt, StmtMoved, StmtPut, AddsStmt, InItems, ItemsMoved, ItemsPut, AddsItems, stmt_said, stmt_alone, block_adds, plain_adds, if_adds, while_adds, print_adds, do_adds}

module _ (defs : List (List ℕ)) (result : Option Ty) where
  -- ---- `if` with `else`

  module _ (l : Bool) (st : State) (at : Span) (c : Expr) (x : ex.Expr) (atoms : List (Atom × Span)) (n : IsNumber st c x atoms) (st2 st3 : State) (a other : Stmt) (b d : ps.Stmt) where
    abbrev Two : Moving
    Two = Then (StmtMoved defs result l (with_slot st c x atoms) a b st2) (StmtMoved defs result l st2 other d st3)

    abbrev TwoPut : Putting (Either (InStmt a) (InStmt other))
    TwoPut = ThenPut (StmtMoved defs result l (with_slot st c x atoms) a b st2) (StmtMoved defs result l st2 other d st3) (InStmt a) (InStmt other) (StmtPut defs result l (with_slot st c x atoms) a b st2) (StmtPut defs result l st2 other d st3)

    abbrev whole : Stmt
    whole = form.IfElse at c a other

    abbrev made : ps.Stmt
    made = to.If (next_slot st) b (Some d)

    else_by : (at : Span) (c : Expr) (a other : Stmt) (s t v w : List Slot) → IsNext st c s t → Becomes defs result l (over st t) a b (over st2 v) → Becomes defs result l (over st2 v) other d (over st3 w) → Becomes defs result l (over st s) (form.IfElse at c a other) (to.If (next_slot st) b (Some d)) (over st3 w)
    else_by at c a other s t v w q g h =
        by_next st c s t (λ (id : SlotId) (z : State). Becomes defs result l z a b (over st2 v) → Becomes defs result l (over st s) (form.IfElse at c a other) (to.If id b (Some d)) (over st3 w)) q (λ x atoms n g. Becomes.if_else x atoms n g h) g

    else_path : (old : Expr) → Either (InStmt a) (InStmt other) old → HoldsStmt old whole
    else_path old (inl h) = HoldsStmt.else_first other h
    else_path old (inr h) = HoldsStmt.else_second a h

    else_put : (f : ℕ → ℕ) (old : Expr) (k : Either (InStmt a) (InStmt other) old) (new : Expr) (s t w : List Slot) → IsNext st (moved_expr f c) s t → TwoPut f old k new t w → Becomes defs result l (over st s) (put_stmt f new (else_path old k)) made (over st3 w)
    unfolding else_path
    else_put f old (inl h) new s t w q m = else_by (moved_span f at) (moved_expr f c) (put_stmt f new h) (moved_stmt f other) s t m.0 w q m.1 m.2
    else_put f old (inr h) new s t w q m = else_by (moved_span f at) (moved_expr f c) (moved_stmt f a) (put_stmt f new h) s t m.0 w q m.1 m.2

    else_adds : AddsStmt defs result l (with_slot st c x atoms) a b st2 → AddsStmt defs result l st2 other d st3 → AddsStmt defs result l st whole made st3
    else_adds g h =
        let behind : State = with_slot st c x atoms in
        number_then c (IsNext st) st behind st3 Two (StmtMoved defs result l st whole made st3) (Either (InStmt a) (InStmt other)) (InStmt whole) TwoPut (StmtPut defs result l st whole made st3) (number_adds st c x atoms n)
        (added_both behind st2 st3 (StmtMoved defs result l behind a b st2) (StmtMoved defs result l st2 other d st3) (InStmt a) (InStmt other) (StmtPut defs result l behind a b st2) (StmtPut defs result l st2 other d st3) g h)
        (λ f s t w e q m. stmt_said defs result l (over st s) (over st3 w) (moved_stmt f whole) (form.IfElse (moved_span f at) (moved_expr f c) (moved_stmt f a) (moved_stmt f other)) made (moved-IfElse f at c a other)
        (else_by (moved_span f at) (moved_expr f c) (moved_stmt f a) (moved_stmt f other) s t m.0 w q m.1 m.2))
        (HoldsStmt.else_test a other) (λ f new s t w e q m. else_by (moved_span f at) new (moved_stmt f a) (moved_stmt f other) s t m.0 w q m.1 m.2)
        else_path (λ f old k new s t w e q m. else_put f old k new s t w q m)

  -- ---- `for`

  for_path : (at : Span) (o : Opening) (c : Option Expr) (x : Option Simple) (a : Stmt) (old : Expr) → Either (Either (InOpening o) (InTest c)) (InStep x) old → HoldsStmt old (form.For at o c x a)
  for_path at o c x a old (inl (inl h)) = HoldsStmt.for_opening a h
  for_path at o _ x a old (inl (inr InTest.number)) = HoldsStmt.for_test a
  for_path at o c _ a old (inr (InStep.simple h)) = HoldsStmt.for_step a h

  module _ (l : Bool) (st st2 st3 st4 st5 : State) (at : Span) (o : Opening) (a : Stmt) (bs : List ps.Stmt) (id : Option SlotId) (y : Option ps.Stmt) (b : ps.Stmt) where
    abbrev Front : Option Expr → Moving
    Front c = Then (OpeningMoved defs st o bs st2) (TestMoved defs st2 c id st3)

    abbrev FrontPut : (c : Option Expr) → Putting (Either (InOpening o) (InTest c))
    FrontPut c = ThenPut (OpeningMoved defs st o bs st2) (TestMoved defs st2 c id st3) (InOpening o) (InTest c) (OpeningPut defs st o bs st2) (TestPut defs st2 c id st3)

    abbrev Heading : Option Expr → Option Simple → Moving
    Heading c x = Then (Front c) (StepMoved defs st3 x y st4)

    abbrev InHeading : Option Expr → Option Simple → Expr → Type 0
    InHeading c x = Either (Either (InOpening o) (InTest c)) (InStep x)

    abbrev HeadingPut : (c : Option Expr) (x : Option Simple) → Putting (InHeading c x)
    HeadingPut c x = ThenPut (Front c) (StepMoved defs st3 x y st4) (Either (InOpening o) (InTest c)) (InStep x) (FrontPut c) (StepPut defs st3 x y st4)

    for_put : (c : Option Expr) (x : Option Simple) (f : ℕ → ℕ) (old : Expr) (k : InHeading c x old) (new : Expr) (s t w : List Slot) → HeadingPut c x f old k new s t → StmtMoved defs result true st4 a b st5 f t w → Becomes defs result l (over st s) (put_stmt f new (for_path at o c x a old k)) (to.For bs id y b) (over (leaving (depth st) st5) w)
    unfolding for_path
    for_put c x f old (inl (inl h)) new s t w q m = Becomes.for (q.1).1 (q.1).2 q.2 m
    for_put _ x f old (inl (inr InTest.number)) new s t w q m = Becomes.for (q.1).1 (q.1).2 q.2 m
    for_put c _ f old (inr (InStep.simple h)) new s t w q m = Becomes.for (q.1).1 (q.1).2 q.2 m

    abbrev left : State
    left = leaving (depth st) st5

    for_adds : (c : Option Expr) (x : Option Simple) → Opens defs st o bs st2 → Tests st2 c id st3 → Steps defs st3 x y st4 → AddsStmt defs result true st4 a b st5 → AddsStmt defs result l st (form.For at o c x a) (to.For bs id y b) left
    for_adds c x d1 d2 d3 d4 =
        let loop : Stmt = form.For at o c x a in
        let looped : ps.Stmt = to.For bs id y b in
        let heading : Adds st st4 (Heading c x) (InHeading c x) (HeadingPut c x) =
        added_both st st3 st4 (Front c) (StepMoved defs st3 x y st4) (Either (InOpening o) (InTest c)) (InStep x) (FrontPut c) (StepPut defs st3 x y st4)
        (added_both st st2 st3 (OpeningMoved defs st o bs st2) (TestMoved defs st2 c id st3) (InOpening o) (InTest c) (OpeningPut defs st o bs st2) (TestPut defs st2 c id st3) (opening_adds defs st o bs st2 d1) (test_adds defs st2 c id st3 d2))
        (step_adds defs st3 x y st4 d3) in
        let body : Adds st4 left (StmtMoved defs result true st4 a b st5) (InStmt a) (StmtPut defs result true st4 a b st5) =
        added_as st4 st5 st4 left (StmtMoved defs result true st4 a b st5) (StmtMoved defs result true st4 a b st5) (InStmt a) (InStmt a) (StmtPut defs result true st4 a b st5) (StmtPut defs result true st4 a b st5) d4 refl refl (grown_same st4) (grown_leaving (depth st) st5)
        (λ f s t e m. m) (λ old h. h) (λ f old h new s t e m. m) in
        added_then st st4 left (Heading c x) (StmtMoved defs result true st4 a b st5) (StmtMoved defs result l st loop looped left) (InHeading c x) (InStmt a) (InStmt loop) (HeadingPut c x) (StmtPut defs result true st4 a b st5) (StmtPut defs result l st loop looped left)
        (λ f s t w e q m. stmt_said defs result l (over st s) (over left w) (moved_stmt f loop) (form.For (moved_span f at) (moved_opening f o) (option_map (moved_expr f) c) (option_map (moved_simple f) x) (moved_stmt f a)) looped (moved-For f at o c x a) (Becomes.for (q.1).1 (q.1).2 q.2 m))
        (for_path at o c x a) (λ f old k new s t w e q m. for_put c x f old k new s t w q m) (λ old h. HoldsStmt.for_body h) (λ f old h new s t w e q m. Becomes.for (q.1).1 (q.1).2 q.2 m) heading body

  -- ---- `return`

  return_path : (at : Span) (a : Option Expr) (old : Expr) → InReturn a old → HoldsStmt old (form.Return at a)
  return_path at _ old (InReturn.value h) = HoldsStmt.return h

  return_put : (l : Bool) (st st2 : State) (at : Span) (a : Option Expr) (v : Option _) (f : ℕ → ℕ) (old : Expr) (h : InReturn a old) (new : Expr) (s t : List Slot) → ReturnPut defs st result a v st2 f old h new s t → Becomes defs result l (over st s) (put_stmt f new (return_path at a old h)) (to.Return v) (over st2 t)
  unfolding return_path
  return_put l st st2 at _ v f old (InReturn.value h) new s t m = Becomes.return m

  -- ---- items of blocks

  module _ (l : Bool) (floor : ℕ) (st st2 st3 : State) (rest : List Stmt) (bs : List ps.Stmt) where
    item_adds : (x : Stmt) (b : ps.Stmt) → AddsStmt defs result l st x b st2 → AddsItems defs result l floor st2 rest bs st3 → AddsItems defs result l floor st (x ∷ rest) (b ∷ bs) st3
    item_adds x b d g =
        added_then st st2 st3 (StmtMoved defs result l st x b st2) (ItemsMoved defs result l floor st2 rest bs st3) (ItemsMoved defs result l floor st (x ∷ rest) (b ∷ bs) st3) (InStmt x) (InItems rest) (InItems (x ∷ rest))
        (StmtPut defs result l st x b st2) (ItemsPut defs result l floor st2 rest bs st3) (ItemsPut defs result l floor st (x ∷ rest) (b ∷ bs) st3)
        (λ f s t w e m n. BecomeAll.more m n) (λ old h. HoldsItem.this h) (λ f old h new s t w e m n. BecomeAll.more m n) (λ old h. HoldsItem.later h) (λ f old h new s t w e m n. BecomeAll.more m n) d g

    decl_adds : (d : Decl) (ds : List ps.Stmt) → BecomeVars defs floor d.base st d.items ds st2 → AddsItems defs result l floor st2 rest bs st3 → AddsItems defs result l floor st (form.Decl d ∷ rest) (ds ++ bs) st3
    decl_adds d ds b g =
        let x : Stmt = form.Decl d in
        added_then st st2 st3 (VarsMoved defs floor d.base st d.items ds st2) (ItemsMoved defs result l floor st2 rest bs st3) (ItemsMoved defs result l floor st (x ∷ rest) (ds ++ bs) st3) (InVars d.items) (InItems rest) (InItems (x ∷ rest))
        (VarsPut defs floor d.base st d.items ds st2) (ItemsPut defs result l floor st2 rest bs st3) (ItemsPut defs result l floor st (x ∷ rest) (ds ++ bs) st3)
        (λ f s t w e m n. BecomeAll.decl {d = moved_decl f d} m n) (λ old h. HoldsItem.this (HoldsStmt.decl h)) (λ f old h new s t w e m n. BecomeAll.decl m n) (λ old h. HoldsItem.later h) (λ f old h new s t w e m n. BecomeAll.decl {d = moved_decl f d} m n)
        (vars_add defs floor d.base st d.items ds st2 b) g

  -- ---- all statements

  mutual
    pub stmt_adds : (l : Bool) (st : State) (x : Stmt) (b : ps.Stmt) (st2 : State) → Becomes defs result l st x b st2 → AddsStmt defs result l st x b st2
    stmt_adds l st _ _ _ (Becomes.empty {at = at}) = stmt_alone defs result l st (form.Empty at) to.Empty (λ f s. Becomes.empty)
    stmt_adds l st _ _ _ (Becomes.block {st2 = st2} {at = at} items {bs = bs} d) = block_adds defs result l st st2 at items bs (items_add l (depth st) st items bs st2 d)
    stmt_adds l st _ b s (Becomes.simple {at = at} {x = x} d) = plain_adds defs result l st s at x b (simple_adds defs st x b s d)
    stmt_adds l st _ _ s (Becomes.lone_if {at = at} {c = c} {a = a} {b = b} x atoms n d) = if_adds defs result l st at c x atoms n s a b (stmt_adds l (with_slot st c x atoms) a b s d)
    stmt_adds l st _ _ s (Becomes.if_else {st2 = st2} {at = at} {c = c} {a = a} {other = other} {b = b} {d = q} x atoms n d g) =
        else_adds l st at c x atoms n st2 s a other b q (stmt_adds l (with_slot st c x atoms) a b st2 d) (stmt_adds l st2 other q s g)
    stmt_adds l st _ _ s (Becomes.while {at = at} {c = c} {a = a} {b = b} x atoms n d) = while_adds defs result l st at c x atoms n s a b (stmt_adds true (with_slot st c x atoms) a b s d)
    stmt_adds l st _ _ _ (Becomes.do_while {st2 = st2} {at = at} {c = c} {a = a} {b = b} x atoms d n) = do_adds defs result l st2 at c x atoms n st a b (stmt_adds true st a b st2 d)
    stmt_adds l st _ _ _ (Becomes.for {st2 = st2} {st3 = st3} {st4 = st4} {st5 = st5} {at = at} {o = o} {c = c} {x = x} {a = a} {bs = bs} {id = id} {y = y} {b = b} d1 d2 d3 d4) =
        for_adds l st st2 st3 st4 st5 at o a bs id y b c x d1 d2 d3 (stmt_adds true st4 a b st5 d4)
    stmt_adds _ st _ _ _ (Becomes.break {at = at}) = stmt_alone defs result true st (form.Break at) to.Break (λ f s. Becomes.break)
    stmt_adds _ st _ _ _ (Becomes.continue {at = at}) = stmt_alone defs result true st (form.Continue at) to.Continue (λ f s. Becomes.continue)
    stmt_adds l st _ _ s (Becomes.return {at = at} {a = a} {v = v} d) =
        let x : Stmt = form.Return at a in
        let made : ps.Stmt = to.Return v in
        added_as st s st s (ReturnMoved defs st result a v s) (StmtMoved defs result l st x made s) (InReturn a) (InStmt x) (ReturnPut defs st result a v s) (StmtPut defs result l st x made s) (return_adds defs st result a v s d) refl refl (grown_same st) (grown_same s)
        (λ f s t e m. Becomes.return m) (λ old h. return_path at a old h) (λ f old h new p t e m. return_put l st s at a v f old h new p t m)
    stmt_adds l st _ _ _ (Becomes.read {at = at} {a = a} u t) = stmt_alone defs result l st (form.Read at a) (to.Read u) (λ f s. Becomes.read u (target_moved f st s a _ u t))
    stmt_adds l st _ _ _ (Becomes.print {at = at} {format = format} {a = a} x atoms n) = print_adds defs result l st at a x atoms n format

    pub items_add : (l : Bool) (floor : ℕ) (st : State) (xs : List Stmt) (bs : List ps.Stmt) (st2 : State) → BecomeAll defs result l floor st xs bs st2 → AddsItems defs result l floor st xs bs st2
    items_add l floor st _ _ _ BecomeAll.none = nothing_added st (ItemsMoved defs result l floor st [] [] st) (InItems []) (ItemsPut defs result l floor st [] [] st) (λ f s e. BecomeAll.none)
    items_add l floor st _ _ s (BecomeAll.decl {st2 = st2} {d = d} {rest = rest} {ds = ds} {bs = bs} b e) = decl_adds l floor st st2 s rest bs d ds b (items_add l floor st2 rest bs s e)
    items_add l floor st _ _ s (BecomeAll.more {st2 = st2} {a = a} {rest = rest} {b = b} {bs = bs} d e) = item_adds l floor st st2 s rest bs a b (stmt_adds l st a b st2 d) (items_add l floor st2 rest bs s e)
