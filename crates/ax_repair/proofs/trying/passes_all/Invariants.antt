use Rattle.std.proofs.Common.{take}
use Rattle.std.specs.List.{All}
use Rattle.ax_least.specs.Least.{PassesWithin}
use Rattle.ax_repair.proofs.trying.passes_all.Given as goal

abbrev pub invariant-loop-test : goal.invariant-loop-test
invariant-loop-test l = All (PassesWithin l.flow.program l.bounds l.chosen) (take l.test-index l.tests)
