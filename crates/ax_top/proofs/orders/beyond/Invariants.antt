use Rattle.std.proofs.Common.{◌≡◌, length}
use Rattle.ax_top.specs.Orders.{first_beyond}
use Rattle.ax_top.proofs.orders.beyond.Given as goal

abbrev pub invariant-loop-rest : goal.invariant-loop-rest
invariant-loop-rest l = first_beyond l.count l.rest ≡ first_beyond l.count l.fn.numbers

abbrev pub decreases-loop-rest : goal.decreases-loop-rest
decreases-loop-rest l = length l.rest
