use Rattle.std.proofs.Common.{◌<◌, length}
use Rattle.ax_watch.proofs.Chains.{put_linked, put_says}
use Rattle.ax_watch.proofs.lists.Lists.push.Goals as goal

pub invariant_of-self : goal.invariant_of-self
invariant_of-self c =
    let within : c.args.list < length c.self.inside.first.items = rw (← c.self.view_is) at c.requires.list in
    let below : c.args.cell < length c.self.inside.next.items = rw (← c.self.view_is) at c.requires.cell in
    let idle = rw (← c.self.view_is) at c.requires.idle in
    record {
      linked = put_linked _ _ c.self.inside.room c.args.list c.self.invariant.linked within c.args.cell c.index.result.now below idle c.index.ensures;
      fit = c.self.invariant.fit;
    }

pub returns : goal.returns
returns c =
    let within : c.args.list < length c.self.inside.first.items = rw (← c.self.view_is) at c.requires.list in
    let below : c.args.cell < length c.self.inside.next.items = rw (← c.self.view_is) at c.requires.cell in
    let idle = rw (← c.self.view_is) at c.requires.idle in
    rw (← c.self.view_is) (put_says _ _ c.self.inside.room c.args.list c.self.invariant.linked within c.args.cell c.index.result.now below idle c.index.ensures)
