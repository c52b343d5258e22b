use Rattle.std.proofs.Common.{sym, subst, w32}
use Rattle.std.proofs.lemmas.Int.{to_z-of_z}
use Rattle.ax_space.specs.Rows.{IsRows}
use Rattle.ax_space.proofs.Slices.{tail_of, tail-is, empty-is}
use Rattle.ax_space.proofs.Listing.{rows-none, rows-more}
use Rattle.ax_space.proofs.rows.+rows.Goals as goal

pub returns-in_ok-all-in-empty : goal.returns-in_ok-all-in-empty
returns-in_ok-all-in-empty t c =
    subst (λ z. IsRows c.args.within.now.sets c.args.within.now.grow c.args.limit c.args.within.now.budget z c.in_ok-all-in-empty.all) (sym (empty-is c.args.slots.now c.in-empty.len_below))
    (rw c.in_ok-all-in-empty.ensures (rows-none c.args.within.now.sets c.args.within.now.grow c.args.limit c.args.within.now.budget))

pub returns-in_ok-all-in-len1-up : goal.returns-in_ok-all-in-len1-up
returns-in_ok-all-in-len1-up t c =
    let heads = rw (to_z-of_z w32 c.args.limit c.ranges.limit) at c.in_ok-heads-in-len1-up.ensures in
    let tails = rw (to_z-of_z w32 c.args.limit c.ranges.limit) at c.in_ok-tails-in-len1-up.ensures in
    subst (λ z. IsRows c.args.within.now.sets c.args.within.now.grow c.args.limit c.args.within.now.budget z c.in_ok-all-in-len1-up.all) (sym (tail-is c.args.slots.now c.slot-item.result c.in-len1-up.len_at_least c.slot-item.is))
    (rw (c.in_ok-all-in-len1-up.ensures, c.as_slice.ensures, c.as_slice-in-len1-up.ensures)
    (rows-more c.args.within.now.sets c.args.within.now.grow c.args.limit c.args.within.now.budget c.slot-item.result (tail_of c.args.slots.now) c.in_ok-heads-in-len1-up.heads c.in_ok-tails-in-len1-up.tails heads tails))
