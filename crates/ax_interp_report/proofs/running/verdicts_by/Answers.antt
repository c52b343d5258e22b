use Rattle.std.proofs.Common.{List, subst, take_all}
use Rattle.ax_interp_report.proofs.Zips.{zip-more}
use Rattle.ax_prog.specs.declared.Test.{Test}
use Rattle.ax_interp_report.specs.Verdicts.{FareIn, Fares}
use Rattle.ax_interp_report.proofs.running.verdicts_by.Goals as goal

pub loop-test-preserved : goal.loop-test-preserved
loop-test-preserved c =
    rw c.in_ok-push.ensures.items
    (zip-more (Fares c.args.flow.now.program c.args.steps) c.args.tests.now c.loop-test.verdicts.items c.loop-test.test-index c.test-item.result _
    c.loop-test-test.true c.test-item.is c.loop-test.invariant c.in_ok-verdict_in.ensures)

pub returns : goal.returns
returns c =
    subst (λ (ts : List Test). FareIn c.args.flow.now.program c.args.steps ts c.loop-test.verdicts.items)
    (take_all c.loop-test.test-index c.args.tests.now c.loop-test-test.false) c.loop-test.invariant
