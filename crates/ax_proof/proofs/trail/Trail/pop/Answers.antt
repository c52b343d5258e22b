use Rattle.std.proofs.Common.{◌<◌, ◌≤◌, ◌≡◌, length, arith, length-set, length-take}
use Rattle.ax_proof.proofs.Tables.{last_within, Tabulates-pop}
use Rattle.ax_proof.proofs.trail.Trail.pop.Goals as goal

pub index_mut-requires : goal.index_mut-requires
index_mut-requires c =
    let tab = rw c.in-Some.ensures.items at c.self.invariant.table in
    let h = last_within _ _ c.in-Some.lit tab in
    omega arith

pub invariant_of-self : goal.invariant_of-self
invariant_of-self c =
    let tab = rw c.in-Some.ensures.items at c.self.invariant.table in
    record {
      table = rw c.var.ensures.value (Tabulates-pop _ _ c.in-Some.lit tab);
      paired = let p = c.self.invariant.paired in let a = c.pop.ensures.rest in let b = c.pop-2.ensures.rest in rw (a, b) (simp length-take (omega arith));
      room = let r = c.self.invariant.room in let e = c.pop-2.ensures.capacity in simp length-set (omega arith);
      reason_room = let r = c.self.invariant.reason_room in let e = c.pop.ensures.capacity in simp length-set (omega arith);
    }
