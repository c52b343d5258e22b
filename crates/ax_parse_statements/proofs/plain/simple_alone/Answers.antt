use Rattle.std.proofs.Common.{◌+◌, Some, drop}
use Rattle.std.proofs.lemmas.Result.{err_from_is_err_and}
use Rattle.ax_parse_grammar.specs.declared.starts.Start.TheVariants as start
use Rattle.ax_parse_grammar.specs.declared.terminals.Terminal.TheVariants as w
use Rattle.ax_parse_grammar.specs.declared.tree.Stmt.TheVariants as s
use Rattle.ax_parse_grammar.specs.Reading.{until}
use Rattle.ax_parse_grammar.specs.ReadStatements.{simple_stmt, stmt_by, stmt, items}
use Rattle.ax_parse_grammar.proofs.Tools.{also_1}
use Rattle.ax_parse_statements.proofs.DeclarationTurns.{fails_err}
use Rattle.ax_parse_statements.proofs.SimpleExits as x
use Rattle.ax_parse_statements.proofs.plain.simple_alone.Goals as goal

pub returns-in_err-act-clause-exact : goal.returns-in_err-act-clause-exact
returns-in_err-act-clause-exact c =
    let tokens = c.args.tokens.now in
    let ts = drop c.args.at tokens in
    let us = drop (c.args.at + 1) tokens in
    let p = err_from_is_err_and c.from_residual.result c.from_residual.ensures.1 in
    let d = c.in_err-act.field-0.0 in
    rw (p.1, p.2) (fails_err tokens d (λ n. until w.Semicolon (simple_stmt n) ts) (λ n. stmt_by n (stmt n) (items n) ts us start.Simple) c.in_err-act.ensures.exact (λ n none. x.alone_none (simple_stmt n) ts none))

pub returns-clause-exact : goal.returns-clause-exact
returns-clause-exact c =
    let tokens = c.args.tokens.now in
    let ts = drop c.args.at tokens in
    let us = drop (c.args.at + 1) tokens in
    also_1 (λ n. until w.Semicolon (simple_stmt n) ts) (Some (c.in_ok-act.act, drop c.in_ok-act.end tokens)) (λ n. stmt_by n (stmt n) (items n) ts us start.Simple) (Some (s.Simple c.extent.result c.in_ok-act.act, drop c.in_ok-act.end tokens)) c.in_ok-act.ensures.exact (λ n one. x.alone_is (simple_stmt n) ts c.in_ok-act.act (drop c.in_ok-act.end tokens) c.extent.result c.extent.ensures one)
