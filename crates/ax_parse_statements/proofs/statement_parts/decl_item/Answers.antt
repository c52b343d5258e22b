use Rattle.std.proofs.Common.{Some, drop}
use Rattle.std.proofs.lemmas.Result.{err_from_is_err_and}
use Rattle.ax_parse_grammar.specs.declared.tree.Stmt.TheVariants as s
use Rattle.ax_parse_grammar.specs.ReadDeclarations.{decl}
use Rattle.ax_parse_grammar.specs.ReadStatements.{stmt}
use Rattle.ax_parse_grammar.proofs.Tools.{also_1}
use Rattle.ax_parse_statements.proofs.DeclarationTurns.{fails_err}
use Rattle.ax_parse_statements.specs.StatementsFound.{decl_item_by}
use Rattle.ax_parse_statements.proofs.StatementExits as x
use Rattle.ax_parse_statements.proofs.statement_parts.decl_item.Goals as goal

pub returns-in_err-found-clause-exact : goal.returns-in_err-found-clause-exact
returns-in_err-found-clause-exact c =
    let tokens = c.args.tokens.now in
    let ts = drop c.args.at tokens in
    let p = err_from_is_err_and c.from_residual.result c.from_residual.ensures.1 in
    let d = c.in_err-found.field-0.0 in
    rw (p.1, p.2) (fails_err tokens d (λ n. decl n ts) (λ n. decl_item_by (decl n) ts) c.in_err-found.ensures.exact (λ n none. x.decl_item_none (decl n) (stmt n) ts none))

pub returns-clause-exact : goal.returns-clause-exact
returns-clause-exact c =
    let tokens = c.args.tokens.now in
    let ts = drop c.args.at tokens in
    let rest = drop c.in_ok-found.end tokens in
    also_1 (λ n. decl n ts) (Some (c.in_ok-found.found, rest)) (λ n. decl_item_by (decl n) ts) (Some (s.Decl c.in_ok-found.found, rest)) c.in_ok-found.ensures.exact (λ n one. x.decl_item_is (decl n) (stmt n) ts c.in_ok-found.found rest one)
