use Rattle.std.proofs.Common.{◌≡◌, ℕ, ◌+◌, Some, None, refl, ap, ◌∙◌, arith, drop}
use Rattle.ax_parse_grammar.specs.declared.starts.Start.TheVariants as start
use Rattle.ax_parse_grammar.specs.declared.tree.Stmt.TheVariants as s
use Rattle.ax_parse_grammar.specs.ReadStatements.{stmt_by, stmt, items}
use Rattle.ax_parse_statements.proofs.DeclarationTurns.{settled}
use Rattle.ax_parse_statements.proofs.SimpleExits as x
use Rattle.ax_parse_statements.proofs.plain.break_alone.Goals as goal

pub returns-then-not-is_at-clause-exact : goal.returns-then-not-is_at-clause-exact
returns-then-not-is_at-clause-exact c =
    let tokens = c.args.tokens.now in
    let ts = drop c.args.at tokens in
    let us = drop (c.args.at + 1) tokens in
    settled (λ n. stmt_by n (stmt n) (items n) ts us start.Break) None (λ n. x.ended_off (λ q. s.Break q) ts us (c.if-not-is_at.ensures.none refl))

pub returns-clause-exact : goal.returns-clause-exact
returns-clause-exact c =
    let tokens = c.args.tokens.now in
    let ts = drop c.args.at tokens in
    let us = drop (c.args.at + 1) tokens in
    settled (λ n. stmt_by n (stmt n) (items n) ts us start.Break) (Some (s.Break c.extent.result, drop (c.args.at + 2) tokens)) (λ n. x.ended_is (λ q. s.Break q) ts us (drop (c.args.at + 2) tokens) c.extent.result ((c.if-not-is_at.ensures.some refl).1 ∙ ap (λ (i : ℕ). Some (drop i tokens)) (let e : c.args.at + 1 + 1 ≡ c.args.at + 2 = omega arith in e)) c.extent.ensures)
