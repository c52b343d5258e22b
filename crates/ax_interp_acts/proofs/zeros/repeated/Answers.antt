use Rattle.std.proofs.Common.{sym, add-one}
use Rattle.ax_interp_acts.proofs.Repeats.{repeated-nil, repeated-last}
use Rattle.ax_interp_acts.proofs.zeros.repeated.Goals as goal

pub returns-then-is_empty : goal.returns-then-is_empty
returns-then-is_empty c = rw (c.new-all.ensures, c.is_empty.ensures.0 c.if-is_empty.true) (sym (repeated-nil c.args.count))

pub loop-at-preserved : goal.loop-at-preserved
loop-at-preserved c =
    rw (c.in_ok-append.ensures, c.in_ok-from_slice.ensures, c.as_slice.ensures, c.loop-at.invariant, add-one) (sym (repeated-last c.loop-at.at c.args.cells.now))
