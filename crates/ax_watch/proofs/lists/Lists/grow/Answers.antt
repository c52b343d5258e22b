use Rattle.std.proofs.Common.{arith}
use Rattle.ax_watch.proofs.Chains.{grown_linked, grown_same, grown_idle}
use Rattle.ax_watch.proofs.lists.Lists.grow.Goals as goal

pub invariant_of-self : goal.invariant_of-self
invariant_of-self c = record {
  linked = rw c.push_reserved.ensures.items (grown_linked _ _ c.self.invariant.linked);
  fit =
      let a = c.self.invariant.fit in
      let n = c.push_reserved.ensures.len in
      let m = c.push_reserved.ensures.capacity in
      let r = rw (← c.self.view_is) at c.requires in
      omega arith;
}

pub returns-clause-kept : goal.returns-clause-kept
returns-clause-kept c = λ l. rw (← c.self.view_is, c.push_reserved.ensures.items) (grown_same _ _ c.self.invariant.linked l)

pub returns-clause-idle : goal.returns-clause-idle
returns-clause-idle c = λ l. rw (← c.self.view_is, c.push_reserved.ensures.items) (grown_idle _ _ c.self.invariant.linked l)
