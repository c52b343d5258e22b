use Rattle.std.proofs.Common.{◌≡◌, take}
use Rattle.ax_prog.proofs.copy.copy_tests.Given as goal

abbrev pub invariant-loop-test : goal.invariant-loop-test
invariant-loop-test l = l.all ≡ take l.test-index l.tests
