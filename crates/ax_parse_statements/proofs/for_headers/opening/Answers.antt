use Rattle.std.proofs.Common.{◌+◌, Some, refl, sym, drop}
use Rattle.ax_parse_grammar.specs.declared.tree.Opening.TheVariants as opening
use Rattle.ax_parse_grammar.specs.ReadDeclarations.{decl}
use Rattle.ax_parse_grammar.specs.ReadStatements.{simple_stmt, opening_by}
use Rattle.ax_parse_statements.specs.SimplesFound.{decl_opening_by, simple_opening_by}
use Rattle.ax_parse_statements.proofs.DeclarationTurns.{gives_same, settled}
use Rattle.ax_parse_statements.proofs.ForExits as x
use Rattle.ax_parse_statements.proofs.for_headers.opening.Goals as goal

pub returns-then-is_at-clause-exact : goal.returns-then-is_at-clause-exact
returns-then-is_at-clause-exact c =
    let tokens = c.args.tokens.now in
    let ts = drop c.args.at tokens in
    let us = drop (c.args.at + 1) tokens in
    settled (λ n. opening_by (decl n) (simple_stmt n) ts) (Some (opening.Nothing, us)) (λ n. x.opening_nothing (decl n) (simple_stmt n) ts us (c.if-is_at.ensures.some refl).1)

pub returns-then-begins_decl-clause-exact : goal.returns-then-begins_decl-clause-exact
returns-then-begins_decl-clause-exact c =
    let tokens = c.args.tokens.now in
    let ts = drop c.args.at tokens in
    let us = drop (c.args.at + 1) tokens in
    gives_same tokens c.decl_opening.result (λ n. decl_opening_by (decl n) ts) (λ n. opening_by (decl n) (simple_stmt n) ts) c.decl_opening.ensures.exact (λ n. x.opening_decl (decl n) (simple_stmt n) ts (c.if-is_at.ensures.none refl) (sym c.if-begins_decl.ensures))

pub returns-clause-exact : goal.returns-clause-exact
returns-clause-exact c =
    let tokens = c.args.tokens.now in
    let ts = drop c.args.at tokens in
    let us = drop (c.args.at + 1) tokens in
    gives_same tokens c.simple_opening.result (λ n. simple_opening_by (simple_stmt n) ts) (λ n. opening_by (decl n) (simple_stmt n) ts) c.simple_opening.ensures.exact (λ n. x.opening_simple (decl n) (simple_stmt n) ts (c.if-is_at.ensures.none refl) (sym c.if-begins_decl.ensures))
