use Rattle.std.proofs.Common.{◌≡◌, is_some, length}
use Rattle.serde_json.specs.View.{items_view}
use Rattle.ax_suite.specs.Tests.{integers_of}
use Rattle.ax_suite.proofs.numbers.lists_integers.Given as goal

abbrev pub invariant-loop-rest : goal.invariant-loop-rest
invariant-loop-rest l = is_some (integers_of (items_view l.rest)) ≡ is_some (integers_of (items_view l.fn.values))

abbrev pub decreases-loop-rest : goal.decreases-loop-rest
decreases-loop-rest l = length l.rest
