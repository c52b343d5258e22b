use Rattle.std.proofs.Common.{arith}
use Rattle.ax_space.proofs.Slices.{sum-empty, sum-step, small-parts, tail-length}
use Rattle.ax_space.proofs.sums.+sum_of_changes.Goals as goal

pub returns-in-empty-clause-sum : goal.returns-in-empty-clause-sum
returns-in-empty-clause-sum t c = sum-empty c.args.slots.now c.args.trees.now c.in-empty.len_below c.requires.small

pub returns-in-len1-up-trees-clause-sum : goal.returns-in-len1-up-trees-clause-sum
returns-in-len1-up-trees-clause-sum t c =
    sum-step c.args.slots.now c.args.trees.now c.slot-item.result c.tree-item.result _ _ c.in-len1-up.len_at_least c.in-len1-up-trees.len_at_least c.slot-item.is c.tree-item.is c.changed_nodes-own.ensures c.sum_of_changes.ensures.sum

pub sum_of_changes-requires : goal.sum_of_changes-requires
sum_of_changes-requires t c =
    let n = tail-length c.args.slots.now c.slot-item.result c.in-len1-up.len_at_least c.slot-item.is in (
      omega arith,
      (
        (small-parts c.args.slots.now c.args.trees.now c.slot-item.result c.tree-item.result c.in-len1-up.len_at_least c.in-len1-up-trees.len_at_least c.slot-item.is c.tree-item.is c.requires.small).1,
        omega (arith, n, c.requires.few),
      ),
    )
