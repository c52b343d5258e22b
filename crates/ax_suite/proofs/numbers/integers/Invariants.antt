use Rattle.std.proofs.Common.{◌≡◌, ◌++◌, length, option_map, true}
use Rattle.serde_json.specs.View.{items_view}
use Rattle.ax_suite.specs.Tests.{integers_of, all_fit}
use Rattle.ax_suite.proofs.numbers.integers.Given as goal

abbrev pub invariant-loop-rest : goal.invariant-loop-rest
invariant-loop-rest l = (integers_of (items_view l.fn.values) ≡ option_map (λ zs. l.list.items ++ zs) (integers_of (items_view l.rest)))
    × (all_fit l.list.items ≡ true)

abbrev pub decreases-loop-rest : goal.decreases-loop-rest
decreases-loop-rest l = length l.rest
