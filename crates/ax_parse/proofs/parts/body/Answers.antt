use Rattle.std.proofs.Common.{◌≡◌, ℕ, ◌+◌, refl, drop}
use Rattle.std.proofs.lemmas.Result.{err_from_is_err_and}
use Rattle.ax_parse_grammar.specs.ReadStatements.{items}
use Rattle.ax_parse_grammar.specs.ReadSources.{body_by}
use Rattle.ax_parse_statements.proofs.DeclarationTurns.{fails_err}
use Rattle.ax_parse.proofs.Turns.{body_none}
use Rattle.ax_parse.proofs.parts.body.Goals as goal

pub returns-in_err-stmts-clause-exact : goal.returns-in_err-stmts-clause-exact
returns-in_err-stmts-clause-exact c =
    let tokens = c.args.tokens.now in
    let ts = drop c.args.start tokens in
    let us = drop c.args.at tokens in
    let vs = drop (c.args.at + 1) tokens in
    let p = err_from_is_err_and c.from_residual.result c.from_residual.ensures.1 in
    rw (p.1, p.2) (fails_err tokens c.in_err-stmts.field-0.0 (λ n. items n vs) (λ n. body_by n ts (c.args.head, us)) c.in_err-stmts.ensures.exact (λ n none. body_none n ts us vs c.args.head (c.if-is_at.ensures.none refl) (c.if-not-is_at.ensures.some refl).1 none))
