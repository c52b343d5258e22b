use Rattle.std.proofs.Common.{subst, w32}
use Rattle.std.proofs.lemmas.Int.{to_z-of_z}
use Rattle.ax_space.specs.Rows.{IsRows}
use Rattle.ax_space.proofs.Listing.{patches-of-rows}
use Rattle.ax_space.proofs.Space.patches_of_cost.Goals as goal

pub returns : goal.returns
returns c =
    let rows = rw (c.as_slice.ensures, to_z-of_z w32 c.args.limit c.ranges.limit) at c.in_ok-rows.ensures in
    rw (c.in_ok-found.ensures, c.as_slice-2.ensures)
    (patches-of-rows c.args.self.now c.args.cost c.args.limit c.in_ok-rows.rows
    (subst (λ z. IsRows z.sets z.grow c.args.limit c.args.cost z.slots c.in_ok-rows.rows) c.self.view_is rows))
