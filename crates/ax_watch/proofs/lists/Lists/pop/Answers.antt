use Rattle.std.proofs.Common.{◌<◌, length, arith}
use Rattle.ax_watch.proofs.Chains.{taken_below, taken_linked, taken_says}
use Rattle.ax_watch.proofs.lists.Lists.pop.Goals as goal

pub index-requires : goal.index-requires
index-requires c =
    let within : c.args.list < length c.self.inside.first.items = rw (← c.self.view_is) at c.requires.list in
    let below = taken_below _ _ c.self.inside.room c.args.list c.self.invariant.linked within c.index-link.result.now 0 c.index-link.ensures c.if-link-eq0.false in
    omega arith

pub invariant_of-self : goal.invariant_of-self
invariant_of-self c =
    let within : c.args.list < length c.self.inside.first.items = rw (← c.self.view_is) at c.requires.list in
    record {
      linked = taken_linked _ _ c.self.inside.room c.args.list c.self.invariant.linked within c.index-link.result.now c.index.result.now c.index-link.ensures c.if-link-eq0.false c.index.ensures;
      fit = c.self.invariant.fit;
    }

pub returns-clause-some : goal.returns-clause-some
returns-clause-some c =
    let within : c.args.list < length c.self.inside.first.items = rw (← c.self.view_is) at c.requires.list in
    rw (← c.self.view_is) (taken_says _ _ c.self.inside.room c.args.list c.self.invariant.linked within c.index-link.result.now c.index.result.now c.index-link.ensures c.if-link-eq0.false c.index.ensures)
