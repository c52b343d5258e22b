use Rattle.std.proofs.Common.{◌≡◌, subst, arith}
use Rattle.ax_space.specs.Sums.{total_room}
use Rattle.ax_space.proofs.Costs.{patch-most}
use Rattle.ax_space.proofs.Space.most.Goals as goal

pub returns : goal.returns
returns c = λ patch cost h.
    (let r = rw c.as_slice.ensures at c.room.ensures.room in
    let s = subst (λ z. c.room.result ≡ total_room z.grow z.slots) c.self.view_is r in
    let m = patch-most c.args.self.now c.requires patch cost h in
    omega arith)
