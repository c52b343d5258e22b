use Rattle.std.proofs.Common.{◌≤◌, length, arith}
use Rattle.ax_watch.proofs.Stores.{clauses_at-add, inside_add, rising_add, all_items}
use Rattle.ax_watch.proofs.store.Store.push.Goals as goal

pub invariant_of-self : goal.invariant_of-self
invariant_of-self c =
    let all : length c.args.clause.now ≤ c.loop-lit.lit-index = rw (← c.lits-lit-items.ensures.value) (omega arith) in
    let full = all_items _ _ c.args.clause.now c.loop-lit.lit-index all c.loop-lit.invariant.items in
    record {
      inside = rw (full, c.push_reserved-2.ensures.items, c.loop-lit.invariant.spans) (inside_add _ c.args.clause.now _ _ c.self.invariant.inside (omega arith) c.len-len.ensures);
      rising = rw (full, c.push_reserved-2.ensures.items, c.loop-lit.invariant.spans) (rising_add _ c.args.clause.now _ _ c.self.invariant.inside c.self.invariant.rising (omega arith) c.len-len.ensures c.lits-lit-items.ensures.rising);
      spans_fit =
          let a = c.self.invariant.spans_fit in
          let n = rw c.loop-lit.invariant.spans at c.push_reserved-2.ensures.len in
          let m = rw c.loop-lit.invariant.spans at c.push_reserved-2.ensures.capacity in
          let r = c.loop-lit.invariant.room_clauses in
          omega arith;
      literals_fit =
          let a = c.self.invariant.literals_fit in
          let n = c.loop-lit.invariant.len in
          let m = c.loop-lit.invariant.capacity in
          let r = c.loop-lit.invariant.room_literals in
          let e = c.len-len.ensures in
          let some : c.loop-lit.lit-index ≤ length c.args.clause.now = rw (← c.lits-lit-items.ensures.value) (omega arith) in
          omega arith;
    }

pub returns-clause-clauses : goal.returns-clause-clauses
returns-clause-clauses c =
    let all : length c.args.clause.now ≤ c.loop-lit.lit-index = rw (← c.lits-lit-items.ensures.value) (omega arith) in
    let full = all_items _ _ c.args.clause.now c.loop-lit.lit-index all c.loop-lit.invariant.items in
    rw (← c.self.view_is, full, c.push_reserved-2.ensures.items, c.loop-lit.invariant.spans)
    (clauses_at-add _ c.args.clause.now _ _ c.self.invariant.inside (omega arith) c.len-len.ensures)
