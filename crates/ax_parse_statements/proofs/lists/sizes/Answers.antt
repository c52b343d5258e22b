use Rattle.std.proofs.Common.{◌+◌, ◌≤◌, false, List, sym, refl, subst, arith, drop}
use Rattle.std.proofs.lemmas.Result.{err_from_is_err_and}
use Rattle.ax_parse_grammar.specs.declared.tree.Size.{Size}
use Rattle.ax_parse_grammar.specs.ReadDeclarations.{size_by, sizes}
use Rattle.ax_parse_statements.proofs.DeclarationTurns.{OnTo, finds_err, on_push, on_fail, on_end}
use Rattle.ax_parse_statements.proofs.ListTurns.{sizes_on, sizes_fail, sizes_end}
use Rattle.ax_parse_statements.proofs.lists.sizes.Goals as goal

pub returns-in_err-one-clause-exact : goal.returns-in_err-one-clause-exact
returns-in_err-one-clause-exact c =
    let p = err_from_is_err_and c.from_residual.result c.from_residual.ensures.1 in
    let tokens = c.args.tokens.now in
    let ts = drop c.args.at tokens in
    let us = drop c.loop-found.next tokens in
    let vs = drop (c.loop-found.next + 1) tokens in
    rw (p.1, p.2) (finds_err tokens c.in_err-one.field-0.0 (size_by c.loop-found.may us vs) (λ n. sizes n c.args.leave ts) c.in_err-one.ensures.exact (λ none. on_fail (λ n. sizes n c.args.leave ts) (λ n. sizes n c.loop-found.may us) c.loop-found.found c.loop-found.invariant.2 (sizes_fail c.loop-found.may us vs (c.loop-found-test.ensures.some refl).1 none)))

pub loop-found-preserved : goal.loop-found-preserved
loop-found-preserved c =
    let tokens = c.args.tokens.now in
    let ts = drop c.args.at tokens in
    let us = drop c.loop-found.next tokens in
    let vs = drop (c.loop-found.next + 1) tokens in
    let r = drop c.in_ok-one.end tokens in
    let after : c.args.at ≤ c.in_ok-one.end = omega (arith, c.in_ok-one.ensures.forward.0, c.loop-found.invariant.0) in
    (after, c.in_ok-one.ensures.forward.1, subst (λ (l : List Size). OnTo (λ n. sizes n c.args.leave ts) (λ n. sizes n false r) l) (sym c.in_ok-push.ensures.ok) (on_push (λ n. sizes n c.args.leave ts) (λ n. sizes n c.loop-found.may us) (λ n. sizes n false r) c.loop-found.found c.in_ok-one.one c.loop-found.invariant.2 (sizes_on c.loop-found.may us vs r c.in_ok-one.one (c.loop-found-test.ensures.some refl).1 c.in_ok-one.ensures.exact)))

pub returns-clause-exact : goal.returns-clause-exact
returns-clause-exact c =
    let tokens = c.args.tokens.now in
    let ts = drop c.args.at tokens in
    let us = drop c.loop-found.next tokens in
    on_end (λ n. sizes n c.args.leave ts) (λ n. sizes n c.loop-found.may us) c.loop-found.found us c.loop-found.invariant.2 (sizes_end c.loop-found.may us (c.loop-found-test.ensures.none refl))
