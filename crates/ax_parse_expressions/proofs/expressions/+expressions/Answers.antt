use Rattle.std.proofs.Common.{◌≡◌, ◌+◌, Bool, List, [], ◌∷◌, ◌++◌, drop, Some, None, refl, sym, ap, ◌∙◌, subst}
use Rattle.std.proofs.lemmas.Result.{err_from_is_err_and}
use Rattle.ax_prog.specs.declared.Span.{Span}
use Rattle.ax_parse_grammar.specs.declared.terminals.Terminal.TheVariants as w
use Rattle.ax_parse_grammar.specs.declared.tree.Expr.{Expr}
use Rattle.ax_parse_grammar.specs.declared.tree.Expr.TheVariants as e
use Rattle.ax_parse_grammar.specs.Reading.{until, Settles}
use Rattle.ax_parse_grammar.specs.ReadExpressions.{leaf, post_by, expr, climb, unary, postfix, primary, args, many}
use Rattle.ax_parse_grammar.proofs.ExpressionsRead.{unary_postfix, expr_climb, args_end, args_many}
use Rattle.ax_parse_expressions.specs.Answers.{branches_by}
use Rattle.ax_parse_expressions.proofs.Turns.{Listed, passed, handed, expr_fault, expr_asks, branches_fault, branches_open, branches_read, unary_fault, unary_open, unary_reads, climb_fault, climb_starts, climb_stuck, climb_goes, climb_ends, postfix_fault, links_start, links_stuck, links_go, links_end, primary_parens, primary_leaf, args_fault, args_open, list_no_first, list_starts, list_stuck, list_goes, list_ends}
use Rattle.ax_parse_expressions.proofs.expressions.+expressions.Goals as goal

pub whole-returns-in_err-test-clause-exact : goal.whole-returns-in_err-test-clause-exact
whole-returns-in_err-test-clause-exact t c =
    let p = err_from_is_err_and c.from_residual.result c.from_residual.ensures.1 in
    rw (p.1, p.2) (passed {A = Expr} {B = Expr} c.args.tokens.now c.in_err-test.field-0.0 (λ n. climb n 1 (drop c.args.at c.args.tokens.now)) (λ n. expr n (drop c.args.at c.args.tokens.now)) c.in_err-test.ensures.exact (expr_fault (drop c.args.at c.args.tokens.now)))

pub whole-returns-then-not-is_at-clause-exact : goal.whole-returns-then-not-is_at-clause-exact
whole-returns-then-not-is_at-clause-exact t c = expr_climb (drop c.args.at c.args.tokens.now) (c.in_ok-test.test, drop c.in_ok-test.next c.args.tokens.now) (c.if-not-is_at.ensures.none refl) c.in_ok-test.ensures.exact

pub whole-returns-clause-exact : goal.whole-returns-clause-exact
whole-returns-clause-exact t c = handed c.args.tokens.now c.branches.result (λ n. branches_by (expr n) (drop c.args.at c.args.tokens.now) c.in_ok-test.test (drop (c.in_ok-test.next + 1) c.args.tokens.now)) (λ n. expr n (drop c.args.at c.args.tokens.now)) c.branches.ensures.exact (λ o. expr_asks (drop c.args.at c.args.tokens.now) (drop c.in_ok-test.next c.args.tokens.now) (drop (c.in_ok-test.next + 1) c.args.tokens.now) c.in_ok-test.test o c.in_ok-test.ensures.exact (c.if-not-is_at.ensures.some refl).1)

pub branches-returns-in_err-a-clause-exact : goal.branches-returns-in_err-a-clause-exact
branches-returns-in_err-a-clause-exact t c =
    let p = err_from_is_err_and c.from_residual.result c.from_residual.ensures.1 in
    rw (p.1, p.2) (passed {A = Expr} {B = Expr} c.args.tokens.now c.in_err-a.field-0.0 (λ n. until w.Colon (expr n) (drop c.args.at c.args.tokens.now)) (λ n. branches_by (expr n) (drop c.args.start c.args.tokens.now) c.args.test (drop c.args.at c.args.tokens.now)) c.in_err-a.ensures.exact (branches_fault (drop c.args.start c.args.tokens.now) (drop c.args.at c.args.tokens.now) c.args.test))

pub branches-returns-in_err-b-clause-exact : goal.branches-returns-in_err-b-clause-exact
branches-returns-in_err-b-clause-exact t c =
    let p = err_from_is_err_and c.from_residual-in_err-b.result c.from_residual-in_err-b.ensures.1 in
    rw (p.1, p.2) (passed {A = Expr} {B = Expr} c.args.tokens.now c.in_err-b.field-0.0 (λ n. expr n (drop c.in_ok-a.next c.args.tokens.now)) (λ n. branches_by (expr n) (drop c.args.start c.args.tokens.now) c.args.test (drop c.args.at c.args.tokens.now)) c.in_err-b.ensures.exact (branches_open (drop c.args.start c.args.tokens.now) (drop c.args.at c.args.tokens.now) (drop c.in_ok-a.next c.args.tokens.now) c.args.test c.in_ok-a.a c.in_ok-a.ensures.exact))

pub branches-returns-clause-exact : goal.branches-returns-clause-exact
branches-returns-clause-exact t c = branches_read (drop c.args.start c.args.tokens.now) (drop c.args.at c.args.tokens.now) (drop c.in_ok-a.next c.args.tokens.now) (drop c.in_ok-b.end c.args.tokens.now) c.args.test c.in_ok-a.a c.in_ok-b.b c.in_ok-made.made c.in_ok-a.ensures.exact c.in_ok-b.ensures.exact (c.in_ok-made.ensures ∙ ap (λ (s : Span). e.Cond s c.args.test c.in_ok-a.a c.in_ok-b.b) c.extent.ensures)

pub climb-returns-in_err-left-clause-exact : goal.climb-returns-in_err-left-clause-exact
climb-returns-in_err-left-clause-exact t c =
    let p = err_from_is_err_and c.from_residual.result c.from_residual.ensures.1 in
    rw (p.1, p.2) (passed {A = Expr} {B = Expr} c.args.tokens.now c.in_err-left.field-0.0 (λ n. unary n (drop c.args.at c.args.tokens.now)) (λ n. climb n c.args.min (drop c.args.at c.args.tokens.now)) c.in_err-left.ensures.exact (climb_fault c.args.min (drop c.args.at c.args.tokens.now)))

pub climb-loop-op-init : goal.climb-loop-op-init
climb-loop-op-init t c = climb_starts c.args.tokens.now c.args.at c.args.min c.in_ok-left.left c.in_ok-left.next c.in_ok-left.ensures.forward c.in_ok-left.ensures.exact

pub climb-returns-in_err-right-clause-exact : goal.climb-returns-in_err-right-clause-exact
climb-returns-in_err-right-clause-exact t c =
    let p = err_from_is_err_and c.from_residual-in_err-right.result c.from_residual-in_err-right.ensures.1 in
    rw (p.1, p.2) (passed {A = Expr} {B = Expr} c.args.tokens.now c.in_err-right.field-0.0 (λ n. climb n (c.level.result + 1) (drop (c.loop-op.next + 1) c.args.tokens.now)) (λ n. climb n c.args.min (drop c.args.at c.args.tokens.now)) c.in_err-right.ensures.exact (climb_stuck c.args.tokens.now c.args.at c.args.min c.loop-op.left c.loop-op.next c.in-Some.op (Some c.in-Some.op) c.level.result c.loop-op.invariant c.in-Some.ensures.found refl c.level.ensures.value))

pub climb-loop-op-preserved : goal.climb-loop-op-preserved
climb-loop-op-preserved t c = climb_goes c.args.tokens.now c.args.at c.args.min c.loop-op.left c.in_ok-right.right c.in_ok-left-2.left c.loop-op.next c.in_ok-right.end c.in-Some.op (Some c.in-Some.op) c.level.result c.loop-op.invariant c.in-Some.ensures.found refl c.level.ensures.value c.in_ok-right.ensures.exact c.in_ok-right.ensures.forward (c.in_ok-left-2.ensures ∙ ap (λ (s : Span). e.Binary s c.in-Some.op c.loop-op.left c.in_ok-right.right) c.extent.ensures)

pub climb-returns-clause-exact : goal.climb-returns-clause-exact
climb-returns-clause-exact t c = climb_ends c.args.tokens.now c.args.at c.args.min c.loop-op.left c.loop-op.next None c.loop-op.invariant c.in_default.ensures.found refl

pub unary-returns-in_err-found-in-None-clause-exact : goal.unary-returns-in_err-found-in-None-clause-exact
unary-returns-in_err-found-in-None-clause-exact t c =
    let p = err_from_is_err_and c.from_residual.result c.from_residual.ensures.1 in
    rw (p.1, p.2) (passed {A = (Expr × Bool)} {B = Expr} c.args.tokens.now c.in_err-found-in-None.field-0.0 (λ n. postfix n (drop c.args.at c.args.tokens.now)) (λ n. unary n (drop c.args.at c.args.tokens.now)) c.in_err-found-in-None.ensures.exact (unary_fault (drop c.args.at c.args.tokens.now) c.in-None.ensures.found))

pub unary-returns-in_ok-found-in-None-clause-exact : goal.unary-returns-in_ok-found-in-None-clause-exact
unary-returns-in_ok-found-in-None-clause-exact t c = unary_postfix (drop c.args.at c.args.tokens.now) ((c.in_ok-found-in-None.found, c.in_ok-found-in-None.field-0-0-1), drop c.in_ok-found-in-None.next c.args.tokens.now) c.in-None.ensures.found c.in_ok-found-in-None.ensures.exact

pub unary-returns-in_err-under-in-Some-clause-exact : goal.unary-returns-in_err-under-in-Some-clause-exact
unary-returns-in_err-under-in-Some-clause-exact t c =
    let p = err_from_is_err_and c.from_residual-in_err-under-in-Some.result c.from_residual-in_err-under-in-Some.ensures.1 in
    rw (p.1, p.2) (passed {A = Expr} {B = Expr} c.args.tokens.now c.in_err-under-in-Some.field-0.0 (λ n. unary n (drop (c.args.at + 1) c.args.tokens.now)) (λ n. unary n (drop c.args.at c.args.tokens.now)) c.in_err-under-in-Some.ensures.exact (unary_open (drop c.args.at c.args.tokens.now) (drop (c.args.at + 1) c.args.tokens.now) c.in-Some.op c.in-Some.ensures.found))

pub unary-returns-in_ok-made-in-Some-clause-exact : goal.unary-returns-in_ok-made-in-Some-clause-exact
unary-returns-in_ok-made-in-Some-clause-exact t c = unary_reads (drop c.args.at c.args.tokens.now) (drop (c.args.at + 1) c.args.tokens.now) (drop c.in_ok-under-in-Some.next c.args.tokens.now) c.in-Some.op c.in_ok-under-in-Some.under c.in_ok-made-in-Some.made c.in-Some.ensures.found c.in_ok-under-in-Some.ensures.exact (c.in_ok-made-in-Some.ensures ∙ ap (λ (s : Span). e.Unary s c.in-Some.op c.in_ok-under-in-Some.under) c.extent.ensures)

pub postfix-returns-in_err-found-clause-exact : goal.postfix-returns-in_err-found-clause-exact
postfix-returns-in_err-found-clause-exact t c =
    let p = err_from_is_err_and c.from_residual.result c.from_residual.ensures.1 in
    rw (p.1, p.2) (passed {A = Expr} {B = (Expr × Bool)} c.args.tokens.now c.in_err-found.field-0.0 (λ n. primary n (drop c.args.at c.args.tokens.now)) (λ n. postfix n (drop c.args.at c.args.tokens.now)) c.in_err-found.ensures.exact (postfix_fault (drop c.args.at c.args.tokens.now)))

pub postfix-loop-mark-init : goal.postfix-loop-mark-init
postfix-loop-mark-init t c = links_start c.args.tokens.now c.args.at c.in_ok-found.found c.in_ok-found.next c.in_ok-found.ensures.forward c.in_ok-found.ensures.exact

pub postfix-returns-in_err-made-clause-exact : goal.postfix-returns-in_err-made-clause-exact
postfix-returns-in_err-made-clause-exact t c =
    let p = err_from_is_err_and c.from_residual-in_err-made.result c.from_residual-in_err-made.ensures.1 in
    rw (p.1, p.2) (passed {A = (Expr × Bool)} {B = (Expr × Bool)} c.args.tokens.now c.in_err-made.field-0.0 (λ n. post_by (expr n) (args n) (drop c.args.at c.args.tokens.now) c.loop-mark.found c.in-Some.mark (drop (c.loop-mark.next + 1) c.args.tokens.now)) (λ n. postfix n (drop c.args.at c.args.tokens.now)) c.in_err-made.ensures.exact (links_stuck c.args.tokens.now c.args.at c.loop-mark.found c.loop-mark.called c.loop-mark.next c.in-Some.mark (Some c.in-Some.mark) c.loop-mark.invariant c.in-Some.ensures.found refl))

pub postfix-loop-mark-preserved : goal.postfix-loop-mark-preserved
postfix-loop-mark-preserved t c = links_go c.args.tokens.now c.args.at c.loop-mark.found c.loop-mark.called c.loop-mark.next c.in_ok-made.end c.in_ok-made.made c.in-Some.mark (Some c.in-Some.mark) c.loop-mark.invariant c.in-Some.ensures.found refl c.in_ok-made.ensures.exact c.in_ok-made.ensures.forward

pub postfix-returns-clause-exact : goal.postfix-returns-clause-exact
postfix-returns-clause-exact t c = links_end c.args.tokens.now c.args.at c.loop-mark.found c.loop-mark.called c.loop-mark.next None c.loop-mark.invariant c.in_default.ensures.found refl

pub primary-returns-then-is_at-clause-exact : goal.primary-returns-then-is_at-clause-exact
primary-returns-then-is_at-clause-exact t c = handed c.args.tokens.now c.whole_until.result (λ n. until w.CloseRound (expr n) (drop (c.args.at + 1) c.args.tokens.now)) (λ n. primary n (drop c.args.at c.args.tokens.now)) c.whole_until.ensures.exact (λ o. primary_parens (drop c.args.at c.args.tokens.now) (drop (c.args.at + 1) c.args.tokens.now) o (c.if-is_at.ensures.some refl).1)

pub primary-returns-clause-exact : goal.primary-returns-clause-exact
primary-returns-clause-exact t c = handed c.args.tokens.now c.leaf.result (λ n. leaf (drop c.args.at c.args.tokens.now)) (λ n. primary n (drop c.args.at c.args.tokens.now)) c.leaf.ensures.exact (λ o. primary_leaf (drop c.args.at c.args.tokens.now) o (c.if-is_at.ensures.none refl))

pub args-returns-then-is_at-clause-exact : goal.args-returns-then-is_at-clause-exact
args-returns-then-is_at-clause-exact t c = subst (λ (xs : List Expr). Settles (λ n. args n (drop c.args.at c.args.tokens.now)) (Some (xs, (drop (c.args.at + 1) c.args.tokens.now)))) (sym c.new.ensures) (args_end (drop c.args.at c.args.tokens.now) (drop (c.args.at + 1) c.args.tokens.now) (c.if-is_at.ensures.some refl).1)

pub args-returns-in_err-xs-clause-exact : goal.args-returns-in_err-xs-clause-exact
args-returns-in_err-xs-clause-exact t c =
    let p = err_from_is_err_and c.from_residual.result c.from_residual.ensures.1 in
    rw (p.1, p.2) (passed {A = (List Expr)} {B = (List Expr)} c.args.tokens.now c.in_err-xs.field-0.0 (λ n. many n (drop c.args.at c.args.tokens.now)) (λ n. args n (drop c.args.at c.args.tokens.now)) c.in_err-xs.ensures.exact (args_fault (drop c.args.at c.args.tokens.now) (c.if-is_at.ensures.none refl)))

pub args-returns-then-not-is_at-clause-exact : goal.args-returns-then-not-is_at-clause-exact
args-returns-then-not-is_at-clause-exact t c = args_open (drop c.args.at c.args.tokens.now) (drop c.in_ok-xs.next c.args.tokens.now) c.in_ok-xs.xs (c.if-is_at.ensures.none refl) c.in_ok-xs.ensures.exact (c.if-not-is_at.ensures.none refl)

pub args-returns-clause-exact : goal.args-returns-clause-exact
args-returns-clause-exact t c = args_many (drop c.args.at c.args.tokens.now) (drop c.in_ok-xs.next c.args.tokens.now) (drop (c.in_ok-xs.next + 1) c.args.tokens.now) c.in_ok-xs.xs (c.if-is_at.ensures.none refl) c.in_ok-xs.ensures.exact (c.if-not-is_at.ensures.some refl).1

pub many-returns-in_err-first-clause-exact : goal.many-returns-in_err-first-clause-exact
many-returns-in_err-first-clause-exact t c =
    let p = err_from_is_err_and c.from_residual.result c.from_residual.ensures.1 in
    rw (p.1, p.2) (passed {A = Expr} {B = (List Expr)} c.args.tokens.now c.in_err-first.field-0.0 (λ n. expr n (drop c.args.at c.args.tokens.now)) (λ n. many n (drop c.args.at c.args.tokens.now)) c.in_err-first.ensures.exact (list_no_first c.args.tokens.now c.args.at))

pub many-loop-alloc-init : goal.many-loop-alloc-init
many-loop-alloc-init t c =
    let is : c.push.new.self ≡ c.in_ok-first.first ∷ [] = c.in_ok-push.ensures.ok ∙ ap (λ (xs : List Expr). xs ++ c.in_ok-first.first ∷ []) c.new-found.ensures in
    subst (λ (xs : List Expr). Listed c.args.tokens.now c.args.at xs c.in_ok-first.next) (sym is) (list_starts c.args.tokens.now c.args.at c.in_ok-first.first c.in_ok-first.next c.in_ok-first.ensures.forward c.in_ok-first.ensures.exact)

pub many-returns-in_err-another-clause-exact : goal.many-returns-in_err-another-clause-exact
many-returns-in_err-another-clause-exact t c =
    let p = err_from_is_err_and c.from_residual-in_err-another.result c.from_residual-in_err-another.ensures.1 in
    rw (p.1, p.2) (passed {A = Expr} {B = (List Expr)} c.args.tokens.now c.in_err-another.field-0.0 (λ n. expr n (drop (c.loop-alloc.next + 1) c.args.tokens.now)) (λ n. many n (drop c.args.at c.args.tokens.now)) c.in_err-another.ensures.exact (list_stuck c.args.tokens.now c.args.at c.loop-alloc.found c.loop-alloc.next c.loop-alloc.invariant (c.loop-alloc-test.ensures.some refl).1))

pub many-loop-alloc-preserved : goal.many-loop-alloc-preserved
many-loop-alloc-preserved t c = list_goes c.args.tokens.now c.args.at c.loop-alloc.found c.push-in-loop-alloc.new.self c.in_ok-another.another c.loop-alloc.next c.in_ok-another.end c.loop-alloc.invariant (c.loop-alloc-test.ensures.some refl).1 c.in_ok-another.ensures.exact c.in_ok-another.ensures.forward c.in_ok-push-2.ensures.ok

pub many-returns-clause-exact : goal.many-returns-clause-exact
many-returns-clause-exact t c = list_ends c.args.tokens.now c.args.at c.loop-alloc.found c.loop-alloc.next c.loop-alloc.invariant (c.loop-alloc-test.ensures.none refl)
