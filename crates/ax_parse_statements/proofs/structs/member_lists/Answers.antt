use Rattle.std.proofs.Common.{◌≡◌, ℕ, ◌+◌, ◌<◌, ◌≤◌, List, Some, sym, refl, ap, subst, arith, drop}
use Rattle.std.specs.Prelude.{is_some}
use Rattle.std.proofs.lemmas.Result.{err_from_is_err_and}
use Rattle.ax_parse_grammar.specs.declared.tree.Members.{Members}
use Rattle.ax_parse_grammar.specs.ReadSources.{members, ends_members}
use Rattle.ax_parse_statements.proofs.DeclarationTurns.{OnTo, gives_err, on_start, on_push, on_fail, on_end, repeated_on, repeated_fail, repeated_end}
use Rattle.ax_parse_statements.specs.HeadsFound.{member_lists}
use Rattle.ax_parse_statements.proofs.structs.member_lists.Goals as goal

pub returns-in_err-more-clause-exact : goal.returns-in_err-more-clause-exact
returns-in_err-more-clause-exact c =
    let p = err_from_is_err_and c.from_residual.result c.from_residual.ensures.1 in
    let tokens = c.args.tokens.now in
    let ts = drop c.args.at tokens in
    let us = drop c.loop-alloc.next tokens in
    rw (p.1, p.2) (gives_err tokens c.in_err-more.field-0.0 (λ n. members n us) (λ n. member_lists n ts) c.in_err-more.ensures.exact (λ none. on_fail (λ n. member_lists n ts) (λ n. member_lists n us) c.loop-alloc.found c.loop-alloc.invariant.2 (repeated_fail ends_members members us (ap is_some (c.loop-alloc-test.ensures.none refl)) none)))

pub loop-alloc-preserved : goal.loop-alloc-preserved
loop-alloc-preserved c =
    let tokens = c.args.tokens.now in
    let ts = drop c.args.at tokens in
    let us = drop c.loop-alloc.next tokens in
    let r = drop c.in_ok-more.end tokens in
    let after : c.args.at ≤ c.in_ok-more.end = omega (arith, c.in_ok-more.ensures.forward.0, c.loop-alloc.invariant.0) in
    (after, c.in_ok-more.ensures.forward.1, subst (λ (l : List Members). OnTo (λ n. member_lists n ts) (λ n. member_lists n r) l) (sym c.in_ok-push.ensures.ok) (on_push (λ n. member_lists n ts) (λ n. member_lists n us) (λ n. member_lists n r) c.loop-alloc.found c.in_ok-more.more c.loop-alloc.invariant.2 (repeated_on ends_members members us r c.in_ok-more.more (ap is_some (c.loop-alloc-test.ensures.none refl)) c.in_ok-more.ensures.exact)))

pub returns-clause-exact : goal.returns-clause-exact
returns-clause-exact c =
    let tokens = c.args.tokens.now in
    let ts = drop c.args.at tokens in
    let us = drop c.loop-alloc.next tokens in
    on_end (λ n. member_lists n ts) (λ n. member_lists n us) c.loop-alloc.found us c.loop-alloc.invariant.2 (repeated_end ends_members members us (ap is_some (c.loop-alloc-test.ensures.some refl).1))
