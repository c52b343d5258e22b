-- The laws of least cost.
use Rattle.std.proofs.Common.{◌≤◌, arith}
use Rattle.ax_least.specs.Laws.{OneLeastCost, LeastIsRepair}

pub one_least_cost : OneLeastCost
one_least_cost program tests bounds space j k a b =
    let ab : j ≤ k = (a.1).least b.0 k (b.1).repair (b.1).costs in
    let ba : k ≤ j = (b.1).least a.0 j (a.1).repair (a.1).costs in
    omega arith

pub least_is_repair : LeastIsRepair
least_is_repair program tests bounds space none cost a = none a.0 (a.1).repair
