use Rattle.std.proofs.Common.{◌+◌, ◌≤◌, length}
use Rattle.serde_json.specs.View.{items_view}
use Rattle.ax_suite.proofs.Turns.{IsReadUpTo}
use Rattle.ax_suite.proofs.suite.read_tests.Given as goal

abbrev pub invariant-loop-rest : goal.invariant-loop-rest
invariant-loop-rest l = record {
  read : IsReadUpTo (items_view l.fn.values) (items_view l.rest) l.tests l.number;
  few : l.number + length l.rest ≤ 257;
}

abbrev pub decreases-loop-rest : goal.decreases-loop-rest
decreases-loop-rest l = length l.rest
