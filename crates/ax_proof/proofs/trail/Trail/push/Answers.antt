use Rattle.std.proofs.Common.{◌<◌, length, arith, length-set, length-append}
use Rattle.ax_proof.proofs.Tables.{push_within, Tabulates-push}
use Rattle.ax_proof.proofs.trail.Trail.push.Goals as goal

pub push_reserved-requires : goal.push_reserved-requires
push_reserved-requires c =
    let is_free = rw (← c.self.view_is) at c.requires.open in
    let within = rw (← c.self.view_is) at c.requires.within in
    let h = push_within _ _ c.args.lit c.self.invariant.table is_free within in let r = c.self.invariant.room in omega arith

pub push_reserved-requires-2 : goal.push_reserved-requires-2
push_reserved-requires-2 c =
    let is_free = rw (← c.self.view_is) at c.requires.open in
    let within = rw (← c.self.view_is) at c.requires.within in
    let h = push_within _ _ c.args.lit c.self.invariant.table is_free within in let r = c.self.invariant.reason_room in let p = c.self.invariant.paired in omega arith

pub invariant_of-self : goal.invariant_of-self
invariant_of-self c =
    let is_free = rw (← c.self.view_is) at c.requires.open in
    let within = rw (← c.self.view_is) at c.requires.within in
    record {
      table = rw (c.var.ensures.value, c.signed.ensures, c.positive.ensures, c.push_reserved.ensures.items) (Tabulates-push _ _ c.args.lit c.self.invariant.table is_free within);
      paired = let p = c.self.invariant.paired in rw (c.push_reserved.ensures.items, c.push_reserved-2.ensures.items) (simp length-append (omega arith));
      room = let r = c.self.invariant.room in let e = c.push_reserved.ensures.capacity in simp length-set (omega arith);
      reason_room = let r = c.self.invariant.reason_room in let e = c.push_reserved-2.ensures.capacity in simp length-set (omega arith);
    }
