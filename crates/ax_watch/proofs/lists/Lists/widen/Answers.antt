use Rattle.std.proofs.Common.{◌≤◌, ◌-◌, length, vec_len, arith}
use Rattle.std.proofs.lemmas.List.{take_all}
use Rattle.ax_watch.proofs.Chains.{wider_linked}
use Rattle.ax_watch.proofs.lists.Lists.widen.Goals as goal

pub invariant_of-self : goal.invariant_of-self
invariant_of-self c =
    let fewer = c.if-len-count.true in
    let n = c.len.ensures in
    let within : length c.self.inside.first.items ≤ c.args.count = omega arith in
    record {
      linked = rw (c.in_ok-resize.ensures.items, take_all _ _ within) (wider_linked _ _ c.self.invariant.linked (c.args.count - vec_len c.self.inside.first));
      fit = c.self.invariant.fit;
    }
