use Rattle.std.proofs.Common.{◌+◌, ◌<◌, false, List, [], ◌∷◌, ◌++◌, sym, refl, ap, ◌∙◌, subst, arith, drop}
use Rattle.std.proofs.lemmas.Result.{err_from_is_err_and}
use Rattle.ax_parse_grammar.specs.declared.tree.Declarator.{Declarator}
use Rattle.ax_parse_grammar.specs.ReadDeclarations.{declarator}
use Rattle.ax_parse_statements.specs.DeclarationsFound.{declarators}
use Rattle.ax_parse_statements.proofs.DeclarationTurns.{OnTo, behind, gives_err, on_push, on_fail, on_end, separated_on, separated_fail, behind_turn, behind_fail, behind_end}
use Rattle.ax_parse_statements.proofs.lists.declarators.Goals as goal

pub returns-in_err-first-clause-exact : goal.returns-in_err-first-clause-exact
returns-in_err-first-clause-exact c =
    let p = err_from_is_err_and c.from_residual.result c.from_residual.ensures.1 in
    let ts = drop c.args.at c.args.tokens.now in
    rw (p.1, p.2) (gives_err c.args.tokens.now c.in_err-first.field-0.0 (λ n. declarator false n ts) (λ n. declarators n ts) c.in_err-first.ensures.exact (separated_fail (declarator false) ts))

pub loop-alloc-init : goal.loop-alloc-init
loop-alloc-init c =
    let ts = drop c.args.at c.args.tokens.now in
    let r = drop c.in_ok-first.next c.args.tokens.now in
    (c.in_ok-first.ensures.forward.0, c.in_ok-first.ensures.forward.1, subst (λ (l : List Declarator). OnTo (λ n. declarators n ts) (behind (declarator false) r) l) (sym (c.in_ok-push.ensures.ok ∙ ap (λ (l : List Declarator). l ++ c.in_ok-first.first ∷ []) c.new-found.ensures)) (separated_on (declarator false) ts r c.in_ok-first.first c.in_ok-first.ensures.exact))

pub returns-in_err-another-clause-exact : goal.returns-in_err-another-clause-exact
returns-in_err-another-clause-exact c =
    let p = err_from_is_err_and c.from_residual-in_err-another.result c.from_residual-in_err-another.ensures.1 in
    let tokens = c.args.tokens.now in
    let ts = drop c.args.at tokens in
    let us = drop c.loop-alloc.next tokens in
    let vs = drop (c.loop-alloc.next + 1) tokens in
    rw (p.1, p.2) (gives_err tokens c.in_err-another.field-0.0 (λ n. declarator false n vs) (λ n. declarators n ts) c.in_err-another.ensures.exact (λ none. on_fail (λ n. declarators n ts) (behind (declarator false) us) c.loop-alloc.found c.loop-alloc.invariant.2 (behind_fail (declarator false) us vs (c.loop-alloc-test.ensures.some refl).1 none)))

pub loop-alloc-preserved : goal.loop-alloc-preserved
loop-alloc-preserved c =
    let tokens = c.args.tokens.now in
    let ts = drop c.args.at tokens in
    let us = drop c.loop-alloc.next tokens in
    let vs = drop (c.loop-alloc.next + 1) tokens in
    let r = drop c.in_ok-another.end tokens in
    let after : c.args.at < c.in_ok-another.end = omega (arith, c.in_ok-another.ensures.forward.0, c.loop-alloc.invariant.0) in
    (after, c.in_ok-another.ensures.forward.1, subst (λ (l : List Declarator). OnTo (λ n. declarators n ts) (behind (declarator false) r) l) (sym c.in_ok-push-2.ensures.ok) (on_push (λ n. declarators n ts) (behind (declarator false) us) (behind (declarator false) r) c.loop-alloc.found c.in_ok-another.another c.loop-alloc.invariant.2 (behind_turn (declarator false) us vs r c.in_ok-another.another (c.loop-alloc-test.ensures.some refl).1 c.in_ok-another.ensures.exact)))

pub returns-clause-exact : goal.returns-clause-exact
returns-clause-exact c =
    let tokens = c.args.tokens.now in
    let ts = drop c.args.at tokens in
    let us = drop c.loop-alloc.next tokens in
    on_end (λ n. declarators n ts) (behind (declarator false) us) c.loop-alloc.found us c.loop-alloc.invariant.2 (behind_end (declarator false) us (c.loop-alloc-test.ensures.none refl))
