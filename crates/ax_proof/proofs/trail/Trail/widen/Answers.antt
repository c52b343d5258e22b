use Rattle.std.proofs.Common.{arith, ◌≤◌, ◌-◌, length, vec_len}
use Rattle.std.proofs.lemmas.List.{take_all}
use Rattle.ax_proof.proofs.Tables.{Tabulates-wider}
use Rattle.ax_proof.proofs.trail.Trail.widen.Goals as goal

pub invariant_of-self-2 : goal.invariant_of-self-2
invariant_of-self-2 c =
    let within : length c.self.inside.values.items ≤ c.args.size = rw (← c.self.view_is) at c.requires in
    let table = Tabulates-wider _ _ (c.args.size - vec_len c.self.inside.values) c.self.invariant.table in
    record {
      table = rw (c.in_ok-resize.ensures.items, c.reserve.ensures.items, take_all _ _ within) table;
      paired = let p = c.self.invariant.paired in rw (c.reserve.ensures.items, c.reserve-2.ensures.items) p;
      room = let n = c.in_ok-resize.ensures.len in let r = c.in_ok-reserve.ensures.ok in omega arith;
      reason_room = let n = c.in_ok-resize.ensures.len in let r = c.in_ok-reserve-2.ensures.ok in let p = c.self.invariant.paired in omega arith;
    }
