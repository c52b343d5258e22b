use Rattle.std.proofs.Common.{◌+◌, ◌<◌, List, [], ◌∷◌, ◌++◌, sym, refl, ap, ◌∙◌, subst, arith, drop}
use Rattle.std.specs.Prelude.{option_map}
use Rattle.std.proofs.lemmas.Result.{err_from_is_err_and}
use Rattle.ax_parse_grammar.specs.declared.tree.Signed.{Signed}
use Rattle.ax_parse_grammar.specs.ReadDeclarations.{signed, numbers}
use Rattle.ax_parse_statements.specs.DeclarationsFound.{list_end}
use Rattle.ax_parse_statements.proofs.DeclarationTurns.{OnTo, finds_err, finds_settled, on_push, on_fail}
use Rattle.ax_parse_statements.proofs.ListTurns.{further, numbers_on, numbers_fail, further_on, further_fail, numbers_end}
use Rattle.ax_parse_statements.proofs.lists.numbers.Goals as goal

pub returns-in_err-first-clause-exact : goal.returns-in_err-first-clause-exact
returns-in_err-first-clause-exact c =
    let p = err_from_is_err_and c.from_residual.result c.from_residual.ensures.1 in
    let ts = drop c.args.at c.args.tokens.now in
    rw (p.1, p.2) (finds_err c.args.tokens.now c.in_err-first.field-0.0 (signed ts) (λ n. numbers n ts) c.in_err-first.ensures.exact (numbers_fail ts))

pub loop-found-init : goal.loop-found-init
loop-found-init c =
    let ts = drop c.args.at c.args.tokens.now in
    let r = drop c.in_ok-first.next c.args.tokens.now in
    (c.in_ok-first.ensures.forward.0, c.in_ok-first.ensures.forward.1, subst (λ (l : List Signed). OnTo (λ n. numbers n ts) (further r) l) (sym (c.in_ok-push.ensures.ok ∙ ap (λ (l : List Signed). l ++ c.in_ok-first.first ∷ []) c.new-found.ensures)) (numbers_on ts r c.in_ok-first.first c.in_ok-first.ensures.exact))

pub returns-in_err-more-clause-exact : goal.returns-in_err-more-clause-exact
returns-in_err-more-clause-exact c =
    let p = err_from_is_err_and c.from_residual-in_err-more.result c.from_residual-in_err-more.ensures.1 in
    let tokens = c.args.tokens.now in
    let ts = drop c.args.at tokens in
    let us = drop c.loop-found.next tokens in
    let vs = drop (c.loop-found.next + 1) tokens in
    rw (p.1, p.2) (finds_err tokens c.in_err-more.field-0.0 (signed vs) (λ n. numbers n ts) c.in_err-more.ensures.exact (λ none. on_fail (λ n. numbers n ts) (further us) c.loop-found.found c.loop-found.invariant.2 (further_fail us vs (c.loop-found-test.ensures.comma refl) (sym c.loop-found-test.ensures.value) none)))

pub loop-found-preserved : goal.loop-found-preserved
loop-found-preserved c =
    let tokens = c.args.tokens.now in
    let ts = drop c.args.at tokens in
    let us = drop c.loop-found.next tokens in
    let vs = drop (c.loop-found.next + 1) tokens in
    let r = drop c.in_ok-more.end tokens in
    let after : c.args.at < c.in_ok-more.end = omega (arith, c.in_ok-more.ensures.forward.0, c.loop-found.invariant.0) in
    (after, c.in_ok-more.ensures.forward.1, subst (λ (l : List Signed). OnTo (λ n. numbers n ts) (further r) l) (sym c.in_ok-push-2.ensures.ok) (on_push (λ n. numbers n ts) (further us) (further r) c.loop-found.found c.in_ok-more.more c.loop-found.invariant.2 (further_on us vs r c.in_ok-more.more (c.loop-found-test.ensures.comma refl) (sym c.loop-found-test.ensures.value) c.in_ok-more.ensures.exact)))

pub returns-clause-exact : goal.returns-clause-exact
returns-clause-exact c =
    let tokens = c.args.tokens.now in
    let ts = drop c.args.at tokens in
    let us = drop c.loop-found.next tokens in
    finds_settled tokens c.ended.result (option_map (λ rest. (c.loop-found.found, rest)) (list_end us)) (λ n. numbers n ts) c.ended.ensures.exact (numbers_end c.loop-found.found us c.loop-found.invariant.2 (sym c.loop-found-test.ensures.value))
