use Rattle.std.proofs.Common.{◌+◌, refl, drop}
use Rattle.ax_parse_grammar.specs.ReadExpressions.{expr}
use Rattle.ax_parse_grammar.specs.ReadStatements.{assign_by, call_by}
use Rattle.ax_parse_statements.specs.SimplesFound.{set_by, change_by}
use Rattle.ax_parse_statements.proofs.DeclarationTurns.{gives_same, finds_same}
use Rattle.ax_parse_statements.proofs.SimpleExits as x
use Rattle.ax_parse_statements.proofs.simples.assigned.Goals as goal

pub returns-then-is_at-clause-exact : goal.returns-then-is_at-clause-exact
returns-then-is_at-clause-exact c =
    let tokens = c.args.tokens.now in
    let ts = drop c.args.start tokens in
    let us = drop c.args.at tokens in
    let vs = drop (c.args.at + 1) tokens in
    gives_same tokens c.set.result (λ n. set_by (expr n) ts c.args.x vs) (λ n. assign_by (expr n) ts (c.args.x, us) (call_by ts ((c.args.x, c.args.called), us))) c.set.ensures.exact (λ n. x.assign_on (expr n) ts us c.args.x (call_by ts ((c.args.x, c.args.called), us)) vs (c.if-is_at.ensures.some refl).1)

pub returns-in-None-clause-exact : goal.returns-in-None-clause-exact
returns-in-None-clause-exact c =
    let tokens = c.args.tokens.now in
    let ts = drop c.args.start tokens in
    let us = drop c.args.at tokens in
    let vs = drop (c.args.at + 1) tokens in
    finds_same tokens c.call_alone.result (call_by ts ((c.args.x, c.args.called), us)) (λ n. assign_by (expr n) ts (c.args.x, us) (call_by ts ((c.args.x, c.args.called), us))) c.call_alone.ensures.exact (λ n. x.assign_off (expr n) ts us c.args.x (call_by ts ((c.args.x, c.args.called), us)) (c.if-is_at.ensures.none refl) c.in-None.ensures.found)

pub returns-in-Some-clause-exact : goal.returns-in-Some-clause-exact
returns-in-Some-clause-exact c =
    let tokens = c.args.tokens.now in
    let ts = drop c.args.start tokens in
    let us = drop c.args.at tokens in
    let vs = drop (c.args.at + 1) tokens in
    gives_same tokens c.change.result (λ n. change_by (expr n) ts c.args.x c.in-Some.op vs) (λ n. assign_by (expr n) ts (c.args.x, us) (call_by ts ((c.args.x, c.args.called), us))) c.change.ensures.exact (λ n. x.compound_on (expr n) ts us c.args.x (call_by ts ((c.args.x, c.args.called), us)) vs c.in-Some.op (c.if-is_at.ensures.none refl) c.in-Some.ensures.found)
