use Rattle.std.proofs.Common.{List, subst, take_all}
use Rattle.ax_rank_coverage.proofs.Zips.{zip-more}
use Rattle.ax_prog.specs.declared.Test.{Test}
use Rattle.ax_rank_coverage.specs.Coverage.{AreRunsOf, IsRunOf}
use Rattle.ax_rank_coverage.proofs.seen.runs_by.Goals as goal

pub loop-test-preserved : goal.loop-test-preserved
loop-test-preserved c =
    rw c.in_ok-push.ensures.items
    (zip-more (IsRunOf c.args.flow.now.program c.args.steps) c.args.tests.now c.loop-test.runs.items c.loop-test.test-index c.test-item.result _
    c.loop-test-test.true c.test-item.is c.loop-test.invariant c.in_ok-seen_run.ensures)

pub returns : goal.returns
returns c =
    subst (λ (ts : List Test). AreRunsOf c.args.flow.now.program c.args.steps ts c.loop-test.runs.items)
    (take_all c.loop-test.test-index c.args.tests.now c.loop-test-test.false) c.loop-test.invariant
