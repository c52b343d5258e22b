use Rattle.ax_repair.proofs.Costs.{all-patches, found-costs, none-costs}
use Rattle.ax_repair.proofs.least.repair_of_cost.Goals as goal

pub first_repair-requires-clause-patches : goal.first_repair-requires-clause-patches
first_repair-requires-clause-patches c =
    rw c.as_slice.ensures (all-patches c.costed_is_patch.ensures c.args.space.now c.args.cost 2147483647 c.in_ok-patches.patches c.in_ok-patches.ensures)

pub returns-in-None : goal.returns-in-None
returns-in-None c =
    let none = rw (c.in-None.is, c.as_slice.ensures) at c.in_ok-first_repair.ensures in
    none-costs c.constants_are_ints.ensures c.args.program.now c.args.tests.now c.args.bounds.now c.args.space.now c.args.cost c.in_ok-patches.patches c.requires.no_guard c.in_ok-patches.ensures none

pub returns : goal.returns
returns c =
    let found = rw (c.in-Some.is, c.as_slice.ensures) at c.in_ok-first_repair.ensures in
    found-costs c.args.program.now c.args.tests.now c.args.bounds.now c.args.space.now c.args.cost 2147483647 c.in_ok-patches.patches c.in-Some.at c.remove-patch.result c.in_ok-patches.ensures found c.remove-patch.ensures.item
