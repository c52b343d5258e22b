use Rattle.std.proofs.Common.{◌+◌, Some, drop, sym, ap}
use Rattle.ax_prog.specs.declared.Span.{Span}
use Rattle.ax_parse_grammar.specs.declared.starts.Start.TheVariants as start
use Rattle.ax_parse_grammar.specs.declared.tree.Stmt.TheVariants as s
use Rattle.ax_parse_grammar.specs.ReadStatements.{stmt_by, stmt, items}
use Rattle.ax_parse_statements.proofs.DeclarationTurns.{settled}
use Rattle.ax_parse_statements.proofs.statement_parts.empty.Goals as goal

pub returns-clause-exact : goal.returns-clause-exact
returns-clause-exact c =
    let tokens = c.args.tokens.now in
    let ts = drop c.args.at tokens in
    let us = drop (c.args.at + 1) tokens in
    settled (λ n. stmt_by n (stmt n) (items n) ts us start.Empty) (Some (s.Empty c.extent.result, us)) (λ n. ap (λ (q : Span). Some (s.Empty q, us)) (sym c.extent.ensures))
