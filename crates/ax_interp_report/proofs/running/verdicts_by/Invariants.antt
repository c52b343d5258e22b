use Rattle.std.proofs.Common.{take}
use Rattle.ax_interp_report.specs.Verdicts.{FareIn}
use Rattle.ax_interp_report.proofs.running.verdicts_by.Given as goal

abbrev pub invariant-loop-test : goal.invariant-loop-test
invariant-loop-test l = FareIn l.flow.program l.steps (take l.test-index l.tests) l.verdicts.items
