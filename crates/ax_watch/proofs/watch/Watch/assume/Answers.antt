use Rattle.std.proofs.Common.{◌≤◌, ◌-◌, Some, arith}
use Rattle.ax_watch.proofs.Trails.{over_push, paired_push, reasons_push}
use Rattle.ax_watch.proofs.Marks.{mark_push}
use Rattle.ax_watch.proofs.Reaching.{head_push}
use Rattle.ax_watch.proofs.watch.Watch.assume.Goals as goal

pub invariant_of-self : goal.invariant_of-self
invariant_of-self c =
    let low : 1 ≤ c.args.lit.var = omega arith in
    let high : c.args.lit.var ≤ c.self.inside.trail.size - 1 = rw (← c.self.view_is) at c.requires.within in
    record {
      size = rw c.push.ensures.size c.self.invariant.size;
      over = rw c.push.ensures.size c.self.invariant.over;
      literals = rw (c.push.ensures.size, c.push.ensures.lits) (over_push _ _ c.args.lit low high c.self.invariant.literals);
      paired = rw (c.push.ensures.reasons, c.push.ensures.lits) (paired_push _ _ c.args.lit c.self.invariant.paired);
      reasons = rw (c.push.ensures.reasons, c.push.ensures.lits) (reasons_push _ _ _ c.args.lit c.self.invariant.paired c.self.invariant.reasons);
      watching = rw c.push.ensures.size c.self.invariant.watching;
      short = c.self.invariant.short;
      marks = λ len there. rw c.push.ensures.lits (mark_push _ _ _ c.args.lit (Some len) (c.self.invariant.marks len there));
      head = rw c.push.ensures.lits (head_push _ _ _ c.args.lit _ c.self.invariant.head);
      lists_fit = c.self.invariant.lists_fit;
      watched_fit = c.self.invariant.watched_fit;
      short_fit = c.self.invariant.short_fit;
    }
