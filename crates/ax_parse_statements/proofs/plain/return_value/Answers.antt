use Rattle.std.proofs.Common.{◌+◌, Some, drop}
use Rattle.std.proofs.lemmas.Result.{err_from_is_err_and}
use Rattle.ax_parse_grammar.specs.declared.starts.Start.TheVariants as start
use Rattle.ax_parse_grammar.specs.declared.terminals.Terminal.TheVariants as w
use Rattle.ax_parse_grammar.specs.declared.tree.Stmt.TheVariants as s
use Rattle.ax_parse_grammar.specs.Reading.{maybe_until}
use Rattle.ax_parse_grammar.specs.ReadExpressions.{expr}
use Rattle.ax_parse_grammar.specs.ReadStatements.{stmt_by, stmt, items}
use Rattle.ax_parse_grammar.proofs.Tools.{also_1}
use Rattle.ax_parse_statements.proofs.DeclarationTurns.{fails_err}
use Rattle.ax_parse_statements.proofs.SimpleExits as x
use Rattle.ax_parse_statements.proofs.plain.return_value.Goals as goal

pub returns-in_err-value-clause-exact : goal.returns-in_err-value-clause-exact
returns-in_err-value-clause-exact c =
    let tokens = c.args.tokens.now in
    let ts = drop c.args.at tokens in
    let us = drop (c.args.at + 1) tokens in
    let p = err_from_is_err_and c.from_residual.result c.from_residual.ensures.1 in
    let d = c.in_err-value.field-0.0 in
    rw (p.1, p.2) (fails_err tokens d (λ n. maybe_until w.Semicolon (expr n) us) (λ n. stmt_by n (stmt n) (items n) ts us start.Return) c.in_err-value.ensures.exact (λ n none. x.return_none (expr n) ts us none))

pub returns-clause-exact : goal.returns-clause-exact
returns-clause-exact c =
    let tokens = c.args.tokens.now in
    let ts = drop c.args.at tokens in
    let us = drop (c.args.at + 1) tokens in
    also_1 (λ n. maybe_until w.Semicolon (expr n) us) (Some (c.in_ok-value.value, drop c.in_ok-value.end tokens)) (λ n. stmt_by n (stmt n) (items n) ts us start.Return) (Some (s.Return c.extent.result c.in_ok-value.value, drop c.in_ok-value.end tokens)) c.in_ok-value.ensures.exact (λ n one. x.return_is (expr n) ts us c.in_ok-value.value (drop c.in_ok-value.end tokens) c.extent.result c.extent.ensures one)
