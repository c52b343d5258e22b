use Rattle.std.proofs.Common.{take}
use Rattle.ax_rank_coverage.specs.Coverage.{AreRunsOf}
use Rattle.ax_rank_coverage.proofs.seen.runs_by.Given as goal

abbrev pub invariant-loop-test : goal.invariant-loop-test
invariant-loop-test l = AreRunsOf l.flow.program l.steps (take l.test-index l.tests) l.runs.items
