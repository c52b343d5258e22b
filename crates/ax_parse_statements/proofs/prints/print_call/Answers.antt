use Rattle.std.proofs.Common.{◌+◌, None, drop}
use Rattle.std.proofs.lemmas.Result.{err_from_is_err_and}
use Rattle.ax_parse_grammar.specs.declared.starts.Start.TheVariants as start
use Rattle.ax_parse_grammar.specs.ReadExpressions.{expr}
use Rattle.ax_parse_grammar.specs.ReadStatements.{stmt_by, stmt, items}
use Rattle.ax_parse_statements.proofs.DeclarationTurns.{finds_err, gives_same, settled}
use Rattle.ax_parse_statements.specs.ForsFound.{format_by, printed_by}
use Rattle.ax_parse_statements.proofs.ForExits as x
use Rattle.ax_parse_statements.proofs.prints.print_call.Goals as goal

pub returns-in_err-format-clause-exact : goal.returns-in_err-format-clause-exact
returns-in_err-format-clause-exact c =
    let tokens = c.args.tokens.now in
    let ts = drop c.args.at tokens in
    let us = drop (c.args.at + 1) tokens in
    let p = err_from_is_err_and c.from_residual.result c.from_residual.ensures.1 in
    let d = c.in_err-format.field-0.0 in
    rw (p.1, p.2) (finds_err tokens d (format_by us) (λ n. stmt_by n (stmt n) (items n) ts us start.Print) c.in_err-format.ensures.exact (λ none. settled (λ n. stmt_by n (stmt n) (items n) ts us start.Print) None (λ n. x.print_none (expr n) ts us none)))

pub returns-clause-exact : goal.returns-clause-exact
returns-clause-exact c =
    let tokens = c.args.tokens.now in
    let ts = drop c.args.at tokens in
    let us = drop (c.args.at + 1) tokens in
    let vs = drop c.in_ok-format.next tokens in
    gives_same tokens c.printed.result (λ n. printed_by (expr n) ts c.in_ok-format.format vs) (λ n. stmt_by n (stmt n) (items n) ts us start.Print) c.printed.ensures.exact (λ n. x.print_is (expr n) ts us c.in_ok-format.format vs c.in_ok-format.ensures.exact)
