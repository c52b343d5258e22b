use Rattle.std.proofs.Common.{◌≡◌, ◌≤◌, arith, refl, sym, ap, length}
use Rattle.std.specs.List.{Contains}
use Rattle.ax_watch.specs.Watch.{WatchState}
use Rattle.ax_sat.proofs.Learning.{assumed_over}
use Rattle.ax_sat.proofs.Decisions.{asks_told, decided_assumed}
use Rattle.ax_sat.proofs.Denying.{all_asked, root_denied}
use Rattle.ax_sat.proofs.Descents.{told_all}
use Rattle.ax_sat.proofs.levels.ask.Goals as goal

pub returns-in-False-clause-says : goal.returns-in-False-clause-says
returns-in-False-clause-says c =
    let lit = c.index-assumptions-index.result in
    let here : Contains c.args.assumptions.now lit = (c.loop-index.index, c.loop-index-test.true, sym c.index-assumptions-index.is) in
    let said = rw c.loop-index.invariant.watch at c.in-False.ensures in
    let reasoned = rw c.loop-index.invariant.watch at c.trail-known.ensures.sound.reasons in
    let all = all_asked _ _ _ _ _ lit c.loop-index.invariant.asks here said.1 in
    root_denied _ _ _ _ _ _ _ c.requires.stands reasoned c.loop-index.invariant.asks all lit here said.0

pub decide-requires-clause-within : goal.decide-requires-clause-within
decide-requires-clause-within c =
    let over = assumed_over _ _ c.loop-index.index _ c.loop-index-test.true c.index-assumptions-index.is c.requires.over in
    let high : c.index-assumptions-index.result.var ≤ c.args.watch.now.vars = over.1 in
    let e : c.loop-index.watch.vars ≡ c.args.watch.now.vars = ap (λ (x : WatchState). x.vars) c.loop-index.invariant.watch in
    omega arith

pub returns-in-Open-clause-says : goal.returns-in-Open-clause-says
returns-in-Open-clause-says c =
    let lit = c.index-assumptions-index.result in
    let here : Contains c.args.assumptions.now lit = (c.loop-index.index, c.loop-index-test.true, sym c.index-assumptions-index.is) in
    let is_open = rw c.loop-index.invariant.watch at c.in-Open.ensures in
    let made = rw c.loop-index.invariant.watch at c.in_ok-decide-in-Open.ensures.watch in
    let put = rw (c.loop-index.invariant.watch, c.loop-index.invariant.starts) at c.in_ok-decide-in-Open.ensures.starts in
    let paired = rw c.loop-index.invariant.watch at c.trail-known.ensures.sound.trail.paired in
    decided_assumed c.args.watch.now _ c.args.assumptions.now lit _ _ _ _ _ _ made put c.requires.stands c.loop-index.invariant.asks paired c.requires.settled (ap length c.as_slice.ensures.value) c.decide.ensures.asked here is_open

pub loop-index-preserved : goal.loop-index-preserved
loop-index-preserved c =
    let now = rw c.loop-index.invariant.watch at c.in-True.ensures.0 in
    record {
      watch = c.loop-index.invariant.watch;
      marks = c.loop-index.invariant.marks;
      starts = c.loop-index.invariant.starts;
      asks = asks_told _ _ _ _ _ c.loop-index.index c.index-assumptions-index.result c.loop-index.invariant.asks c.loop-index.invariant.next c.loop-index-test.true c.index-assumptions-index.is now;
      next = omega arith;
    }

pub returns-clause-says : goal.returns-clause-says
returns-clause-says c =
    let all = told_all _ _ _ _ _ c.loop-index.invariant.asks (let h = c.loop-index.invariant.next in omega arith) in
    rw (c.loop-index.invariant.watch, c.loop-index.invariant.starts) (refl, c.requires.stands, c.loop-index.invariant.asks, all)
