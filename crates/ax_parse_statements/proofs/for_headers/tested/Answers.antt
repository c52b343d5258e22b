use Rattle.std.proofs.Common.{◌+◌, Some, drop}
use Rattle.std.proofs.lemmas.Result.{err_from_is_err_and}
use Rattle.ax_parse_grammar.specs.declared.terminals.Terminal.TheVariants as w
use Rattle.ax_parse_grammar.specs.Reading.{maybe_until}
use Rattle.ax_parse_grammar.specs.ReadExpressions.{expr}
use Rattle.ax_parse_grammar.specs.ReadDeclarations.{decl}
use Rattle.ax_parse_grammar.specs.ReadStatements.{simple_stmt}
use Rattle.ax_parse_grammar.proofs.Tools.{also_1}
use Rattle.ax_parse_statements.proofs.DeclarationTurns.{fails_err}
use Rattle.ax_parse_statements.specs.ForsFound.{tested_by}
use Rattle.ax_parse_statements.proofs.ForExits as x
use Rattle.ax_parse_statements.proofs.for_headers.tested.Goals as goal

pub returns-in_err-step-clause-exact : goal.returns-in_err-step-clause-exact
returns-in_err-step-clause-exact c =
    let tokens = c.args.tokens.now in
    let ts = drop c.args.at tokens in
    let us = drop (c.args.at + 1) tokens in
    let p = err_from_is_err_and c.from_residual.result c.from_residual.ensures.1 in
    let d = c.in_err-step.field-0.0 in
    rw (p.1, p.2) (fails_err tokens d (λ n. maybe_until w.CloseRound (simple_stmt n) ts) (λ n. tested_by (simple_stmt n) c.args.begun.0 c.args.begun.1 ts) c.in_err-step.ensures.exact (λ n none. x.tested_none (expr n) (decl n) (simple_stmt n) ts c.args.begun.0 c.args.begun.1 none))

pub returns-clause-exact : goal.returns-clause-exact
returns-clause-exact c =
    let tokens = c.args.tokens.now in
    let ts = drop c.args.at tokens in
    let us = drop (c.args.at + 1) tokens in
    let rest = drop c.in_ok-step.end tokens in
    rw c.into_inner-opening.ensures (also_1 (λ n. maybe_until w.CloseRound (simple_stmt n) ts) (Some (c.in_ok-step.step, rest)) (λ n. tested_by (simple_stmt n) c.args.begun.0 c.args.begun.1 ts) (Some ((c.args.begun.0, (c.args.begun.1, c.in_ok-step.step)), rest)) c.in_ok-step.ensures.exact (λ n one. x.tested_is (expr n) (decl n) (simple_stmt n) ts c.args.begun.0 c.args.begun.1 c.in_ok-step.step rest one))
