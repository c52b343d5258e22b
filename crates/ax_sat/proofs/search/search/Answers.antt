use Rattle.std.proofs.Common.{ap, ◌≡◌}
use Rattle.ax_watch.specs.Watch.{WatchState}
use Rattle.ax_sat.proofs.search.search.Goals as goal

pub learn_lines-answer-requires : goal.learn_lines-answer-requires
learn_lines-answer-requires c =
    let same : c.in_ok-watch.watch.vars ≡ c.args.vars = ap (λ (x : WatchState). x.vars) c.in_ok-watch.ensures in
    rw same (record {
      none = ap (λ (x : WatchState). x.clauses) c.in_ok-watch.ensures;
      bare = ap (λ (x : WatchState). x.trail) c.in_ok-watch.ensures;
      size = c.in_ok-marks.ensures;
      vars = c.requires.vars;
      over = c.requires.over;
      assumptions = c.requires.assumptions;
      lines = c.requires.lines;
      not_empty = c.requires.not_empty;
      lawful = c.requires.lawful;
    })

pub returns-clause-log : goal.returns-clause-log
returns-clause-log c =
    let same : c.in_ok-watch.watch.vars ≡ c.args.vars = ap (λ (x : WatchState). x.vars) c.in_ok-watch.ensures in
    rw same at c.learn_lines-answer.ensures.log

pub returns-clause-answer : goal.returns-clause-answer
returns-clause-answer c =
    let same : c.in_ok-watch.watch.vars ≡ c.args.vars = ap (λ (x : WatchState). x.vars) c.in_ok-watch.ensures in
    rw same at c.learn_lines-answer.ensures.answer
