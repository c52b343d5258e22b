use Rattle.std.proofs.Common.{arith}
use Rattle.ax_space_trees.proofs.Sizes.{words-small, words-next}
use Rattle.ax_space_trees.proofs.counting.word_count.Goals as goal

pub loop-at-preserved : goal.loop-at-preserved
loop-at-preserved c = let h = c.loop-at.invariant in omega (arith, words-next c.loop-at.at)

pub overflow_add-count : goal.overflow_add-count
overflow_add-count c =
    let h = c.loop-at.invariant in
    let w = words-small c.loop-at.at (omega (arith, c.loop-at-test.true, c.requires)) in omega arith

pub overflow_add-count-in-loop-at : goal.overflow_add-count-in-loop-at
overflow_add-count-in-loop-at c =
    let h = c.loop-at.invariant in
    let w = words-small c.loop-at.at (omega (arith, c.loop-at-test.true, c.requires)) in omega arith

pub returns-clause-small : goal.returns-clause-small
returns-clause-small c =
    let h = c.loop-at.invariant in
    let w = words-small c.loop-at.at (omega (arith, c.loop-at.auto.at-end, c.requires)) in omega arith
