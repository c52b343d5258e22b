use Rattle.std.proofs.Common.{◌+◌, None, refl, drop}
use Rattle.ax_parse_grammar.specs.declared.terminals.Terminal.TheVariants as w
use Rattle.ax_parse_grammar.specs.Reading.{until}
use Rattle.ax_parse_grammar.specs.ReadExpressions.{expr}
use Rattle.ax_parse_grammar.specs.ReadStatements.{test_by}
use Rattle.ax_parse_statements.specs.SimplesFound.{do_end_by}
use Rattle.ax_parse_statements.proofs.DeclarationTurns.{gives_same, settled}
use Rattle.ax_parse_statements.proofs.SimpleExits as x
use Rattle.ax_parse_statements.proofs.headers.do_end.Goals as goal

pub returns-then-not-is_at-clause-exact : goal.returns-then-not-is_at-clause-exact
returns-then-not-is_at-clause-exact c =
    let tokens = c.args.tokens.now in
    let ts = drop c.args.at tokens in
    let us = drop (c.args.at + 1) tokens in
    settled (λ n. do_end_by (expr n) ts) None (λ n. x.end_off (expr n) ts (c.if-not-is_at.ensures.none refl))

pub returns-clause-exact : goal.returns-clause-exact
returns-clause-exact c =
    let tokens = c.args.tokens.now in
    let ts = drop c.args.at tokens in
    let us = drop (c.args.at + 1) tokens in
    gives_same tokens c.test_ended.result (λ n. until w.Semicolon (test_by (expr n)) us) (λ n. do_end_by (expr n) ts) c.test_ended.ensures.exact (λ n. x.end_on (expr n) ts us (c.if-not-is_at.ensures.some refl).1)
