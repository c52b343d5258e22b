use Rattle.std.proofs.Common.{◌-◌, ◌<◌, arith}
use Rattle.std.proofs.lemmas.List.Elements.{All-push}
use Rattle.ax_proof.specs.Literal.{IsOver}
use Rattle.ax_watch.proofs.Trails.{reasons_add}
use Rattle.ax_watch.proofs.Marks.{codes_fit}
use Rattle.ax_watch.proofs.Reaching.{marks_left, head_left}
use Rattle.ax_watch.proofs.watch.Watch.add.Goals as goal

pub enter-until-requires-clause-codes : goal.enter-until-requires-clause-codes
enter-until-requires-clause-codes c =
    let over : IsOver (c.self.inside.trail.size - 1) c.args.clause.now = rw (← c.self.view_is) at c.requires.over in
    rw c.lits.ensures.value (codes_fit _ _ c.args.clause.now c.self.invariant.size c.self.invariant.watching.listed.enough over)

pub invariant_of-self : goal.invariant_of-self
invariant_of-self c =
    let over : IsOver (c.self.inside.trail.size - 1) c.args.clause.now = rw (← c.self.view_is) at c.requires.over in
    let some : 0 < c.self.inside.store.room_clauses = rw (← c.self.view_is) at c.requires.room_clauses in
    record {
      size = c.self.invariant.size;
      over = rw c.push.ensures.clauses (All-push (IsOver (c.self.inside.trail.size - 1)) _ c.args.clause.now c.self.invariant.over over);
      literals = c.self.invariant.literals;
      paired = c.self.invariant.paired;
      reasons = rw c.push.ensures.clauses (reasons_add _ c.args.clause.now _ _ c.self.invariant.reasons);
      watching = let h = c.enter-until.ensures.watching _ c.self.invariant.watching in rw c.push.ensures.clauses (rw c.lits.ensures.value at h);
      short = let h = c.enter-until.ensures.short c.self.invariant.short in rw c.push.ensures.clauses (rw c.lits.ensures.value at h);
      marks = λ len there.
          let h = marks_left _ c.lits.result.now _ c.enter-until.new.watched.items c.self.inside.trail.lits _ _ c.self.invariant.watching c.enter-until.result c.enter-until.ensures.long c.enter-until.ensures.kept _ _ c.lower-self-inside.ensures.marks c.self.invariant.marks len there in
          rw c.push.ensures.clauses (rw c.lits.ensures.value at h);
      head =
          let h = head_left _ c.lits.result.now _ c.enter-until.new.watched.items c.self.inside.trail.lits _ _ c.self.invariant.watching c.enter-until.result c.enter-until.ensures.long c.enter-until.ensures.kept _ _ c.lower-self-inside.result c.self.invariant.marks c.self.invariant.head c.lower-self-inside.ensures.head in
          rw c.push.ensures.clauses (rw c.lits.ensures.value at h);
      lists_fit =
          let a = c.self.invariant.lists_fit in
          let r = c.push.ensures.room_clauses in
          let n = c.enter-until.ensures.lists_room in
          omega arith;
      watched_fit =
          let a = c.self.invariant.watched_fit in
          let r = c.push.ensures.room_clauses in
          let n = c.enter-until.ensures.len in
          let m = c.enter-until.ensures.capacity in
          omega arith;
      short_fit =
          let a = c.self.invariant.short_fit in
          let r = c.push.ensures.room_clauses in
          let n = c.enter-until.ensures.short_len in
          let m = c.enter-until.ensures.short_capacity in
          omega arith;
    }
