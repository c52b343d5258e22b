use Rattle.std.proofs.Common.{ℕ, ◌+◌, ◌*◌, ◌≤◌, length, subst}
use Rattle.std.proofs.lemmas.Result.{IfOk-weaker}
use Rattle.ax_term.specs.Order.{trees, order_of}
use Rattle.ax_blast.proofs.Valuations.{blasted_extends, blasted_bound, blasted_over, length-trees}
use Rattle.ax_blast.proofs.blasted.clauses.Goals as goal

pub returns-clause-extends : goal.returns-clause-extends
returns-clause-extends c =
    IfOk-weaker _ _ _ (λ b h. blasted_extends c.args.bank.now (trees c.args.asserted.now) (trees c.args.named.now) b c.len-size.ensures.sound h) c.blasted_flags.ensures.blasted

pub returns-clause-bound : goal.returns-clause-bound
returns-clause-bound c =
    IfOk-weaker _ _ _ (λ b h. subst (λ (k : ℕ). length b.cnf.clauses.items ≤ 64000 * length (order_of (trees c.args.asserted.now) (trees c.args.named.now)) + k + 1) (length-trees c.args.asserted.now)
    (blasted_bound c.args.bank.now (trees c.args.asserted.now) (trees c.args.named.now) b c.len-size.ensures.sound h)) c.blasted_flags.ensures.blasted

pub returns-clause-over : goal.returns-clause-over
returns-clause-over c =
    IfOk-weaker _ _ _ (λ b h. blasted_over c.args.bank.now (trees c.args.asserted.now) (trees c.args.named.now) b c.len-size.ensures.sound h) c.blasted_flags.ensures.blasted
