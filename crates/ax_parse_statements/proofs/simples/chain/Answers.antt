use Rattle.std.proofs.Common.{◌+◌, Some, drop}
use Rattle.ax_parse_grammar.specs.declared.tree.Simple.TheVariants as act
use Rattle.ax_parse_grammar.specs.ReadExpressions.{expr}
use Rattle.ax_parse_grammar.specs.ReadStatements.{assign_by, call_by, chain_by}
use Rattle.ax_parse_statements.proofs.DeclarationTurns.{gives_same, settled}
use Rattle.ax_parse_statements.proofs.SimpleExits as x
use Rattle.ax_parse_statements.proofs.simples.chain.Goals as goal

pub returns-in-None-clause-exact : goal.returns-in-None-clause-exact
returns-in-None-clause-exact c =
    let tokens = c.args.tokens.now in
    let ts = drop c.args.start tokens in
    let us = drop c.args.at tokens in
    let vs = drop (c.args.at + 1) tokens in
    gives_same tokens c.assigned.result (λ n. assign_by (expr n) ts (c.args.x, us) (call_by ts ((c.args.x, c.args.called), us))) (λ n. chain_by (expr n) ts ((c.args.x, c.args.called), us)) c.assigned.ensures.exact (λ n. x.chain_off (expr n) ts us c.args.x c.args.called c.in-None.ensures.found)

pub returns-in-Some-clause-exact : goal.returns-in-Some-clause-exact
returns-in-Some-clause-exact c =
    let tokens = c.args.tokens.now in
    let ts = drop c.args.start tokens in
    let us = drop c.args.at tokens in
    let vs = drop (c.args.at + 1) tokens in
    settled (λ n. chain_by (expr n) ts ((c.args.x, c.args.called), us)) (Some (act.Step c.extent.result c.args.x c.in-Some.up, vs)) (λ n. x.chain_step (expr n) ts us c.args.x c.args.called vs c.in-Some.up c.extent.result c.in-Some.ensures.found c.extent.ensures)
