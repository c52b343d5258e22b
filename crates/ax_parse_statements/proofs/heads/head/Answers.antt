use Rattle.std.proofs.Common.{◌≡◌, ℕ, ◌+◌, List, Option, Some, None, refl, ap, ◌∙◌, arith, drop}
use Rattle.std.proofs.lemmas.Result.{err_from_is_err_and}
use Rattle.std.specs.Prelude.{option_map}
use Rattle.ax_prog.specs.declared.tokens.Token.{Token}
use Rattle.ax_parse_grammar.specs.declared.tree.Name.{Name}
use Rattle.ax_parse_grammar.specs.ReadSources.{params, head}
use Rattle.ax_parse_statements.proofs.DeclarationTurns.{fails_err}
use Rattle.ax_parse_statements.proofs.HeadExits.{head_no_params}
use Rattle.ax_parse_statements.proofs.heads.head.Goals as goal

pub returns-in_err-params-in-Some-clause-exact : goal.returns-in_err-params-in-Some-clause-exact
returns-in_err-params-in-Some-clause-exact c =
    let tokens = c.args.tokens.now in
    let ts = drop c.args.at tokens in
    let us = drop c.in_ok-returns.next tokens in
    let behind = c.stars-stars.result.1 in
    let vs = drop behind tokens in
    let ws = drop (behind + 1) tokens in
    let xs = drop (behind + 2) tokens in
    let p = err_from_is_err_and c.from_residual-in_err-params-in-Some.result c.from_residual-in_err-params-in-Some.ensures.1 in
    let same : behind + 1 + 1 ≡ behind + 2 = omega arith in
    let named = c.in_ok-name_at.ensures.found ∙ ap (option_map (λ (y : Name). (y, ws))) c.in-Some.is in
    rw (p.1, p.2) (fails_err tokens c.in_err-params-in-Some.field-0.0 (λ n. params n xs) (λ n. head n ts) c.in_err-params-in-Some.ensures.exact (λ n none. head_no_params n ts us vs ws xs c.in_ok-returns.returns c.stars-stars.result.0 c.in-Some.name c.in_ok-returns.ensures.exact c.stars-stars.ensures.exact named ((c.if-not-is_at.ensures.some refl).1 ∙ ap (λ (i : ℕ). Some (drop i tokens)) same) none))
