use Rattle.std.proofs.Common.{◌+◌, None, refl, drop}
use Rattle.ax_parse_grammar.specs.ReadExpressions.{expr}
use Rattle.ax_parse_grammar.specs.ReadDeclarations.{decl}
use Rattle.ax_parse_grammar.specs.ReadStatements.{simple_stmt, for_head_by}
use Rattle.ax_parse_statements.proofs.DeclarationTurns.{gives_same, settled}
use Rattle.ax_parse_statements.specs.ForsFound.{header_by}
use Rattle.ax_parse_statements.proofs.ForExits as x
use Rattle.ax_parse_statements.proofs.for_headers.for_header.Goals as goal

pub returns-then-not-is_at-clause-exact : goal.returns-then-not-is_at-clause-exact
returns-then-not-is_at-clause-exact c =
    let tokens = c.args.tokens.now in
    let ts = drop c.args.at tokens in
    let us = drop (c.args.at + 1) tokens in
    settled (λ n. header_by (expr n) (decl n) (simple_stmt n) ts) None (λ n. x.header_off (expr n) (decl n) (simple_stmt n) ts (c.if-not-is_at.ensures.none refl))

pub returns-clause-exact : goal.returns-clause-exact
returns-clause-exact c =
    let tokens = c.args.tokens.now in
    let ts = drop c.args.at tokens in
    let us = drop (c.args.at + 1) tokens in
    gives_same tokens c.inner.result (λ n. for_head_by (expr n) (decl n) (simple_stmt n) us) (λ n. header_by (expr n) (decl n) (simple_stmt n) ts) c.inner.ensures.exact (λ n. x.header_on (expr n) (decl n) (simple_stmt n) ts us (c.if-not-is_at.ensures.some refl).1)
