use Rattle.std.proofs.Common.{◌≤◌, ◌-◌, arith}
use Rattle.ax_watch.proofs.Trails.{over_wider, all_over_wider}
use Rattle.ax_watch.proofs.Marks.{watching_lists}
use Rattle.ax_watch.proofs.watch.Watch.widen.Goals as goal

pub invariant_of-self-2 : goal.invariant_of-self-2
invariant_of-self-2 c =
    let before = c.self.invariant in
    let rises : c.self.inside.trail.size - 1 ≤ c.args.vars = rw (← c.self.view_is) at c.requires in
    let wider : c.self.inside.trail.size - 1 ≤ c.in_ok-size.size - 1 = omega arith in
    let done = c.in_ok-make_tables.ensures.done in
    rw c.in_ok-widen.ensures.done (record {
      size = omega arith;
      over = all_over_wider _ _ _ wider before.over;
      literals = over_wider _ _ _ wider before.literals;
      paired = before.paired;
      reasons = before.reasons;
      watching = watching_lists _ _ _ _ c.self.inside.lists c.make_tables.new.lists c.make_tables.ensures.kept c.make_tables.ensures.cells (omega arith) before.watching;
      short = before.short;
      marks = λ len there. before.marks len (rw c.make_tables.ensures.marks at there);
      head = before.head;
      lists_fit = let r = c.make_tables.ensures.room in let f = before.lists_fit in omega arith;
      watched_fit = before.watched_fit;
      short_fit = before.short_fit;
    })

pub invariant_of-self-in_err-widen : goal.invariant_of-self-in_err-widen
invariant_of-self-in_err-widen c =
    let before = c.self.invariant in
    let more = c.make_tables.ensures.more in
    let enough = before.watching.listed.enough in
    rw c.in_err-widen.ensures.err (record {
      size = before.size;
      over = before.over;
      literals = before.literals;
      paired = before.paired;
      reasons = before.reasons;
      watching = watching_lists _ _ _ _ c.self.inside.lists c.make_tables.new.lists c.make_tables.ensures.kept c.make_tables.ensures.cells (omega arith) before.watching;
      short = before.short;
      marks = λ len there. before.marks len (rw c.make_tables.ensures.marks at there);
      head = before.head;
      lists_fit = let r = c.make_tables.ensures.room in let f = before.lists_fit in omega arith;
      watched_fit = before.watched_fit;
      short_fit = before.short_fit;
    })

pub invariant_of-self : goal.invariant_of-self
invariant_of-self c =
    let before = c.self.invariant in
    let more = c.make_tables.ensures.more in
    let enough = before.watching.listed.enough in
    record {
      size = before.size;
      over = before.over;
      literals = before.literals;
      paired = before.paired;
      reasons = before.reasons;
      watching = watching_lists _ _ _ _ c.self.inside.lists c.make_tables.new.lists c.make_tables.ensures.kept c.make_tables.ensures.cells (omega arith) before.watching;
      short = before.short;
      marks = λ len there. before.marks len (rw c.make_tables.ensures.marks at there);
      head = before.head;
      lists_fit = let r = c.make_tables.ensures.room in let f = before.lists_fit in omega arith;
      watched_fit = before.watched_fit;
      short_fit = before.short_fit;
    }
