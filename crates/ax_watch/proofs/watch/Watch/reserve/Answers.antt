use Rattle.std.proofs.Common.{arith, inl, inr}
use Rattle.ax_watch.proofs.Marks.{watching_lists}
use Rattle.ax_watch.proofs.watch.Watch.reserve.Goals as goal

pub invariant_of-self : goal.invariant_of-self
invariant_of-self c =
    let before = c.self.invariant in
    let same = c.make_room.ensures.lists in
    let enough = before.watching.listed.enough in
    record {
      size = before.size;
      over = before.over;
      literals = before.literals;
      paired = before.paired;
      reasons = before.reasons;
      watching = rw c.make_room.ensures.watched (watching_lists _ _ _ _ c.self.inside.lists c.make_room.new.lists c.make_room.ensures.kept c.make_room.ensures.cells (omega arith) before.watching);
      short = rw c.make_room.ensures.short before.short;
      marks = λ len there. rw c.make_room.ensures.watched (before.marks len there);
      head = rw c.make_room.ensures.watched before.head;
      lists_fit = let r = c.make_room.ensures.lists_more in let f = before.lists_fit in omega arith;
      watched_fit = let n = c.make_room.ensures.len in let r = c.make_room.ensures.more in let f = before.watched_fit in omega arith;
      short_fit = let n = c.make_room.ensures.short_len in let r = c.make_room.ensures.short_more in let f = before.short_fit in omega arith;
    }

pub invariant_of-self-2 : goal.invariant_of-self-2
invariant_of-self-2 c =
    let before = c.self.invariant in
    let same = c.make_room.ensures.lists in
    let enough = before.watching.listed.enough in
    record {
      size = before.size;
      over = rw c.reserve.ensures.kept before.over;
      literals = before.literals;
      paired = before.paired;
      reasons = rw c.reserve.ensures.kept before.reasons;
      watching = rw (c.reserve.ensures.kept, c.make_room.ensures.watched) (watching_lists _ _ _ _ c.self.inside.lists c.make_room.new.lists c.make_room.ensures.kept c.make_room.ensures.cells (omega arith) before.watching);
      short = rw (c.reserve.ensures.kept, c.make_room.ensures.short) before.short;
      marks = λ len there. rw (c.reserve.ensures.kept, c.make_room.ensures.watched) (before.marks len there);
      head = rw (c.reserve.ensures.kept, c.make_room.ensures.watched) before.head;
      lists_fit =
          let r = c.make_room.ensures.lists_more in
          let f = before.lists_fit in
          let m = c.in_ok-make_room.ensures.lists_room in
          elim c.reserve.ensures.no_more [ inl e ↦ omega arith | inr e ↦ omega arith ];
      watched_fit =
          let n = c.make_room.ensures.len in
          let r = c.make_room.ensures.more in
          let f = before.watched_fit in
          let m = c.in_ok-make_room.ensures.room in
          elim c.reserve.ensures.no_more [ inl e ↦ omega arith | inr e ↦ omega arith ];
      short_fit =
          let n = c.make_room.ensures.short_len in
          let r = c.make_room.ensures.short_more in
          let f = before.short_fit in
          let m = c.in_ok-make_room.ensures.short_room in
          elim c.reserve.ensures.no_more [ inl e ↦ omega arith | inr e ↦ omega arith ];
    }
