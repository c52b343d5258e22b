use Rattle.std.proofs.Common.{◌≤◌, length, Some, refl}
use Rattle.ax_watch.proofs.Trails.{over_take, paired_take, reasons_take}
use Rattle.ax_watch.proofs.Marks.{mark_cut}
use Rattle.ax_watch.proofs.watch.Watch.back.Goals as goal

pub invariant_of-self : goal.invariant_of-self
invariant_of-self c =
    let within : c.args.len ≤ length c.self.inside.trail.lits = rw (← c.self.view_is) at c.requires in
    record {
      size = rw c.back.ensures.size c.self.invariant.size;
      over = rw c.back.ensures.size c.self.invariant.over;
      literals = rw (c.back.ensures.size, c.back.ensures.lits) (over_take _ c.args.len _ c.self.invariant.literals);
      paired = rw (c.back.ensures.reasons, c.back.ensures.lits) (paired_take _ _ c.args.len within c.self.invariant.paired);
      reasons = rw (c.back.ensures.reasons, c.back.ensures.lits) (reasons_take _ _ _ c.args.len c.self.invariant.reasons);
      watching = rw c.back.ensures.size c.self.invariant.watching;
      short = c.self.invariant.short;
      marks = λ len there.
          let (was, low) = c.cut.ensures len there in
          rw c.back.ensures.lits (mark_cut _ _ _ c.args.len (Some len) (Some len) within (low, refl) (c.self.invariant.marks len was));
      head = tt;
      lists_fit = c.self.invariant.lists_fit;
      watched_fit = c.self.invariant.watched_fit;
      short_fit = c.self.invariant.short_fit;
    }
