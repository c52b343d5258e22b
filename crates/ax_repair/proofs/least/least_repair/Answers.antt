use Rattle.std.proofs.Common.{arith}
use Rattle.ax_repair.proofs.Costs.{none-at-all, none-up-to}
use Rattle.ax_repair.proofs.least.least_repair.Goals as goal
use Rattle.ax_repair.proofs.least.least_repair.Goals.{else-loop-cost-test, then-loop-cost-test+in_ok-patch+in_default+else-cost-most}

pub returns : goal.returns
returns c =
    none-at-all c.cost_exists.ensures c.args.program.now c.args.tests.now c.args.bounds.now c.args.space.now c.most-most.result c.requires.no_guard c.most-most.ensures
    (elim c.loop-cost-test.branch [
      | else-loop-cost-test w ↦ (λ k h. c.loop-cost.invariant k (omega arith))
      | then-loop-cost-test+in_ok-patch+in_default+else-cost-most w ↦ (λ k h.
          none-up-to c.args.program.now c.args.tests.now c.args.bounds.now c.args.space.now c.loop-cost.cost c.loop-cost.invariant
          (rw w.in_default.is at w.in_ok-patch.ensures) k (omega arith))
    ])
