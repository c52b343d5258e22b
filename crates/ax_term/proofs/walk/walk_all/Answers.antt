use Rattle.std.proofs.Common.{ℕ, ◌<◌, length, sym, subst}
use Rattle.ax_term.proofs.Walks.{root_below}
use Rattle.ax_term.proofs.walk.walk_all.Goals as goal

pub walk-requires-clause-root : goal.walk-requires-clause-root
walk-requires-clause-root c =
    subst (λ (n : ℕ). n < length c.args.bank.now) (sym c.number.ensures)
    (root_below c.args.bank.now c.args.roots.now c.loop-root.root-index c.root-item.result c.loop-root.invariant.roots c.loop-root-test.true c.root-item.is)
