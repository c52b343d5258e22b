use Rattle.std.proofs.Common.{ap}
use Rattle.ax_watch.specs.Watch.{WatchState}
use Rattle.ax_sat.proofs.Decisions.{stands_cut, asks_after}
use Rattle.ax_sat.proofs.search.restart.Goals as goal

pub returns-clause-stands : goal.returns-clause-stands
returns-clause-stands c =
    let low = c.is_root.ensures.some c.if-is_root.false in
    stands_cut c.args.watch.now _ _ _ _ c.in_ok-back.ensures.watch c.in_ok-back.ensures.levels.starts low c.requires.stands c.trail-known.ensures.sound.trail.paired

pub returns-clause-asks : goal.returns-clause-asks
returns-clause-asks c =
    let low = c.is_root.ensures.some c.if-is_root.false in
    asks_after _ _ _ _ _ _ _ _ _ _ _ _ c.requires.stands c.requires.asks low (ap (λ (x : WatchState). x.trail) c.in_ok-back.ensures.watch) c.in_ok-back.ensures.levels.starts c.in_ok-back.ensures.levels.roots
