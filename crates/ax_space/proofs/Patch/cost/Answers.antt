use Rattle.std.proofs.Common.{◌≡◌, sym, subst, false}
use Rattle.ax_space.specs.Patches.{AreTrees}
use Rattle.ax_space.specs.Sums.{SumOfChanges}
use Rattle.ax_space.proofs.Costs.{trees-small, patch-cost}
use Rattle.ax_space.proofs.Patch.cost.Goals as goal

pub sum_of_changes-requires-clause-small : goal.sum_of_changes-requires-clause-small
sum_of_changes-requires-clause-small c =
    rw (c.as_slice.ensures, c.as_slice-2.ensures)
    (trees-small c.space.inside.sets c.space.inside.grow (subst (λ z. z.sets.guard ≡ false) (sym c.space.view_is) c.requires.no_guard) c.space.invariant.grown c.space.inside.slots c.args.self.now.trees c.space.invariant.small
    (subst (λ z. AreTrees z.sets z.grow z.slots c.args.self.now.trees) (sym c.space.view_is) c.requires.patch))

pub returns : goal.returns
returns c =
    let s = rw (c.as_slice.ensures, c.as_slice-2.ensures) at c.sum_of_changes.ensures.sum in
    patch-cost c.args.space.now c.args.self.now c.sum_of_changes.result c.requires.no_guard c.requires.patch
    (subst (λ z. SumOfChanges z.slots c.args.self.now.trees c.sum_of_changes.result) c.space.view_is s)
