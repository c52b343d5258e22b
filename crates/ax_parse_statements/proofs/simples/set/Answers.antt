use Rattle.std.proofs.Common.{◌+◌, Some, drop}
use Rattle.std.proofs.lemmas.Result.{err_from_is_err_and}
use Rattle.ax_parse_grammar.specs.declared.tree.Simple.TheVariants as act
use Rattle.ax_parse_grammar.specs.ReadExpressions.{expr}
use Rattle.ax_parse_grammar.proofs.Tools.{also_1}
use Rattle.ax_parse_statements.specs.SimplesFound.{set_by}
use Rattle.ax_parse_statements.proofs.DeclarationTurns.{fails_err}
use Rattle.ax_parse_statements.proofs.SimpleExits as x
use Rattle.ax_parse_statements.proofs.simples.set.Goals as goal

pub returns-in_err-value-clause-exact : goal.returns-in_err-value-clause-exact
returns-in_err-value-clause-exact c =
    let tokens = c.args.tokens.now in
    let ts = drop c.args.start tokens in
    let us = drop c.args.at tokens in
    let vs = drop (c.args.at + 1) tokens in
    let p = err_from_is_err_and c.from_residual.result c.from_residual.ensures.1 in
    let d = c.in_err-value.field-0.0 in
    rw (p.1, p.2) (fails_err tokens d (λ n. expr n us) (λ n. set_by (expr n) ts c.args.x us) c.in_err-value.ensures.exact (λ n none. x.set_none (expr n) ts us c.args.x none))

pub returns-clause-exact : goal.returns-clause-exact
returns-clause-exact c =
    let tokens = c.args.tokens.now in
    let ts = drop c.args.start tokens in
    let us = drop c.args.at tokens in
    let vs = drop (c.args.at + 1) tokens in
    also_1 (λ n. expr n us) (Some (c.in_ok-value.value, (drop c.in_ok-value.end tokens))) (λ n. set_by (expr n) ts c.args.x us) (Some (act.Assign c.extent.result c.args.x c.in_ok-value.value, (drop c.in_ok-value.end tokens))) c.in_ok-value.ensures.exact (λ n one. x.set_is (expr n) ts us c.args.x (drop c.in_ok-value.end tokens) c.in_ok-value.value c.extent.result c.extent.ensures one)
