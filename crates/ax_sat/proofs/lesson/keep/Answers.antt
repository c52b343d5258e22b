use Rattle.std.proofs.Common.{◌≡◌, ap}
use Rattle.ax_watch.specs.Watch.{WatchState}
use Rattle.ax_sat.proofs.Watches.{over_along}
use Rattle.ax_sat.proofs.lesson.keep.Goals as goal

pub add-place-requires-clause-over : goal.add-place-requires-clause-over
add-place-requires-clause-over c =
    let room : c.reserve.new.self.vars ≡ c.args.watch.now.vars = ap (λ (x : WatchState). x.vars) c.in_ok-reserve.ensures.done.kept in
    over_along _ _ c.args.line room c.requires
