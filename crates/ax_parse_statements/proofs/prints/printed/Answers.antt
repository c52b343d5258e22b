use Rattle.std.proofs.Common.{[], ◌∷◌, Some, None, drop}
use Rattle.std.proofs.lemmas.Result.{err_from_is_err_and}
use Rattle.ax_parse_grammar.specs.declared.terminals.Terminal.TheVariants as w
use Rattle.ax_parse_grammar.specs.declared.tree.Stmt.TheVariants as s
use Rattle.ax_parse_grammar.specs.Reading.{past}
use Rattle.ax_parse_grammar.specs.ReadExpressions.{expr}
use Rattle.ax_parse_grammar.proofs.Tools.{also_1}
use Rattle.ax_parse_statements.proofs.DeclarationTurns.{fails_err}
use Rattle.ax_parse_statements.proofs.Passes.{ends_err}
use Rattle.ax_parse_statements.specs.ForsFound.{printed_by}
use Rattle.ax_parse_statements.proofs.ForExits as x
use Rattle.ax_parse_statements.proofs.prints.printed.Goals as goal

pub returns-in_err-value-clause-exact : goal.returns-in_err-value-clause-exact
returns-in_err-value-clause-exact c =
    let tokens = c.args.tokens.now in
    let ts = drop c.args.start tokens in
    let us = drop c.args.at tokens in
    let p = err_from_is_err_and c.from_residual.result c.from_residual.ensures.1 in
    let d = c.in_err-value.field-0.0 in
    rw (p.1, p.2) (fails_err tokens d (λ n. expr n us) (λ n. printed_by (expr n) ts c.args.format us) c.in_err-value.ensures.exact (λ n none. x.printed_none (expr n) ts us c.args.format none))

pub returns-in_err-end-clause-exact : goal.returns-in_err-end-clause-exact
returns-in_err-end-clause-exact c =
    let tokens = c.args.tokens.now in
    let ts = drop c.args.start tokens in
    let us = drop c.args.at tokens in
    let vs = drop c.in_ok-value.next tokens in
    let p = err_from_is_err_and c.from_residual-in_err-end.result c.from_residual-in_err-end.ensures.1 in
    let d = c.in_err-end.field-0.0 in
    rw (p.1, p.2) (ends_err tokens d (past (w.CloseRound ∷ w.Semicolon ∷ []) vs) (λ n. printed_by (expr n) ts c.args.format us) c.in_err-end.ensures.exact (λ off. also_1 (λ n. expr n us) (Some (c.in_ok-value.value, vs)) (λ n. printed_by (expr n) ts c.args.format us) None c.in_ok-value.ensures.exact (λ n one. x.printed_unended (expr n) ts us c.args.format c.in_ok-value.value vs off one)))

pub returns-clause-exact : goal.returns-clause-exact
returns-clause-exact c =
    let tokens = c.args.tokens.now in
    let ts = drop c.args.start tokens in
    let us = drop c.args.at tokens in
    let vs = drop c.in_ok-value.next tokens in
    let rest = drop c.in_ok-end.end tokens in
    also_1 (λ n. expr n us) (Some (c.in_ok-value.value, vs)) (λ n. printed_by (expr n) ts c.args.format us) (Some (s.Print c.extent.result c.args.format c.in_ok-value.value, rest)) c.in_ok-value.ensures.exact (λ n one. x.printed_is (expr n) ts us c.args.format c.in_ok-value.value vs rest c.extent.result c.in_ok-end.ensures.exact c.extent.ensures one)
