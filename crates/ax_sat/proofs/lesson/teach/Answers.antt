use Rattle.std.proofs.Common.{◌∙◌, ap}
use Rattle.ax_proof.specs.Literal.{negation}
use Rattle.ax_watch.specs.Watch.{WatchState}
use Rattle.ax_sat.proofs.Lessons.{stands_left}
use Rattle.ax_sat.proofs.Watches.{over_along}
use Rattle.ax_sat.proofs.lesson.teach.Goals as goal

pub keep-requires : goal.keep-requires
keep-requires c = over_along _ _ c.in_ok-line.line c.back.ensures.vars (λ l h. c.trail-known.ensures.sound.literals (negation l) (c.in_ok-line.ensures.explains.denied l h))

pub returns-clause-learns : goal.returns-clause-learns
returns-clause-learns c =
    let value = c.as_slice-starts.ensures.value in
    let cut = c.in_ok-back.ensures.watch in
    let line = c.in_ok-line.line in
    let explains = rw value at c.in_ok-line.ensures.explains in
    let low = rw value at c.jump-kept.ensures.low in
    let clauses = rw c.back.ensures.clauses at c.in_ok-keep.ensures.watched in
    let trail = c.keep.ensures.trail ∙ ap (λ (x : WatchState). x.trail) cut in
    let reasons = c.keep.ensures.reasons ∙ ap (λ (x : WatchState). x.reasons) cut in
    let sound = c.trail-known.ensures.sound in
    let denied = rw (c.last-start.ensures, value) at c.jump-kept.ensures.denied in
    record {
      line = line;
      explains = explains;
      clauses = clauses;
      vars = c.keep.ensures.vars ∙ c.back.ensures.vars;
      left = c.jump-kept.result;
      low = low;
      trail = trail;
      stands = stands_left _ _ _ _ line c.requires.stands sound.consistent sound.trail.once explains c.jump-kept.result low denied sound.trail.paired _ _ _ _ clauses trail reasons c.in_ok-back.ensures.levels.starts;
      goes_back = c.in_ok-back.ensures.levels;
      logged = c.in_ok-keep.ensures.logged;
    }
