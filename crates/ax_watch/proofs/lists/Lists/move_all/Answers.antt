use Rattle.std.proofs.Common.{◌<◌, length}
use Rattle.ax_watch.proofs.Chains.{move_linked, move_says}
use Rattle.ax_watch.proofs.lists.Lists.move_all.Goals as goal

pub invariant_of-self : goal.invariant_of-self
invariant_of-self c =
    let from_in : c.args.from < length c.self.inside.first.items = rw (← c.self.view_is) at c.requires.from in
    let to_in : c.args.to < length c.self.inside.first.items = rw (← c.self.view_is) at c.requires.to in
    let none = rw (← c.self.view_is) at c.requires.none in
    record {
      linked = move_linked _ _ c.self.inside.room c.args.from c.args.to c.index.result.now c.self.invariant.linked from_in to_in c.requires.differ none c.index.ensures;
      fit = c.self.invariant.fit;
    }

pub returns : goal.returns
returns c =
    let from_in : c.args.from < length c.self.inside.first.items = rw (← c.self.view_is) at c.requires.from in
    let to_in : c.args.to < length c.self.inside.first.items = rw (← c.self.view_is) at c.requires.to in
    let none = rw (← c.self.view_is) at c.requires.none in
    rw (← c.self.view_is) (move_says _ _ c.self.inside.room c.args.from c.args.to c.index.result.now c.self.invariant.linked from_in to_in c.requires.differ none c.index.ensures)
