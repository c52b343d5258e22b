use Rattle.std.proofs.Common.{◌+◌, [], ◌∷◌, Some, None, drop}
use Rattle.std.proofs.lemmas.Result.{err_from_is_err_and}
use Rattle.ax_parse_grammar.specs.declared.starts.Start.TheVariants as start
use Rattle.ax_parse_grammar.specs.declared.terminals.Terminal.TheVariants as w
use Rattle.ax_parse_grammar.specs.declared.tree.Stmt.TheVariants as s
use Rattle.ax_parse_grammar.specs.Reading.{past}
use Rattle.ax_parse_grammar.specs.ReadExpressions.{unary}
use Rattle.ax_parse_grammar.specs.ReadStatements.{stmt_by, stmt, items}
use Rattle.ax_parse_grammar.proofs.Tools.{also_1}
use Rattle.ax_parse_statements.proofs.DeclarationTurns.{fails_err, settled}
use Rattle.ax_parse_statements.proofs.Passes.{ends_err}
use Rattle.ax_parse_statements.proofs.SimpleExits as x
use Rattle.ax_parse_statements.proofs.plain.read_call.Goals as goal

pub returns-in_err-inner-clause-exact : goal.returns-in_err-inner-clause-exact
returns-in_err-inner-clause-exact c =
    let tokens = c.args.tokens.now in
    let ts = drop c.args.at tokens in
    let us = drop (c.args.at + 1) tokens in
    let p = err_from_is_err_and c.from_residual.result c.from_residual.ensures.1 in
    let d = c.in_err-inner.field-0.0 in
    rw (p.1, p.2) (ends_err tokens d (past (w.OpenRound ∷ w.Format ∷ w.Comma ∷ w.Amp ∷ []) us) (λ n. stmt_by n (stmt n) (items n) ts us start.Read) c.in_err-inner.ensures.exact (λ off. settled (λ n. stmt_by n (stmt n) (items n) ts us start.Read) None (λ n. x.read_off (unary n) ts us off)))

pub returns-in_err-target-clause-exact : goal.returns-in_err-target-clause-exact
returns-in_err-target-clause-exact c =
    let tokens = c.args.tokens.now in
    let ts = drop c.args.at tokens in
    let us = drop (c.args.at + 1) tokens in
    let p = err_from_is_err_and c.from_residual-in_err-target.result c.from_residual-in_err-target.ensures.1 in
    let d = c.in_err-target.field-0.0 in
    rw (p.1, p.2) (fails_err tokens d (λ n. unary n (drop c.in_ok-inner.inner tokens)) (λ n. stmt_by n (stmt n) (items n) ts us start.Read) c.in_err-target.ensures.exact (λ n none. x.read_none (unary n) ts us (drop c.in_ok-inner.inner tokens) c.in_ok-inner.ensures.exact none))

pub returns-in_err-end-clause-exact : goal.returns-in_err-end-clause-exact
returns-in_err-end-clause-exact c =
    let tokens = c.args.tokens.now in
    let ts = drop c.args.at tokens in
    let us = drop (c.args.at + 1) tokens in
    let p = err_from_is_err_and c.from_residual-in_err-end.result c.from_residual-in_err-end.ensures.1 in
    let d = c.in_err-end.field-0.0 in
    rw (p.1, p.2) (ends_err tokens d (past (w.CloseRound ∷ w.Semicolon ∷ []) (drop c.in_ok-target.next tokens)) (λ n. stmt_by n (stmt n) (items n) ts us start.Read) c.in_err-end.ensures.exact (λ off. also_1 (λ n. unary n (drop c.in_ok-inner.inner tokens)) (Some (c.in_ok-target.target, (drop c.in_ok-target.next tokens))) (λ n. stmt_by n (stmt n) (items n) ts us start.Read) None c.in_ok-target.ensures.exact (λ n two. x.read_unended (unary n) ts us (drop c.in_ok-inner.inner tokens) c.in_ok-inner.ensures.exact c.in_ok-target.target (drop c.in_ok-target.next tokens) off two)))

pub returns-clause-exact : goal.returns-clause-exact
returns-clause-exact c =
    let tokens = c.args.tokens.now in
    let ts = drop c.args.at tokens in
    let us = drop (c.args.at + 1) tokens in
    also_1 (λ n. unary n (drop c.in_ok-inner.inner tokens)) (Some (c.in_ok-target.target, (drop c.in_ok-target.next tokens))) (λ n. stmt_by n (stmt n) (items n) ts us start.Read) (Some (s.Read c.extent.result c.in_ok-target.target, (drop c.in_ok-end.end tokens))) c.in_ok-target.ensures.exact (λ n two. x.read_is (unary n) ts us (drop c.in_ok-inner.inner tokens) c.in_ok-inner.ensures.exact c.in_ok-target.target (drop c.in_ok-target.next tokens) (drop c.in_ok-end.end tokens) c.extent.result c.in_ok-end.ensures.exact c.extent.ensures two)
