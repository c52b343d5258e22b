use Rattle.std.proofs.Common.{◌≡◌, ◌≤◌, ◌<◌, ◌∙◌, arith, length}
use Rattle.ax_sat.proofs.Watches.{clauses_kept, vars_kept, kept_more, over_along}
use Rattle.ax_sat.proofs.Descents.{spread_stands, spread_asks, spread_false, spread_settled, end_says, full_says}
use Rattle.ax_sat.proofs.descent.descend.Goals as goal

pub returns-in-Some-clause-says : goal.returns-in-Some-clause-says
returns-in-Some-clause-says c =
    let kept = c.spread-found.ensures.kept in
    let goes = c.spread-found.ensures.goes_on in
    let sound = c.trail-known.ensures.sound in
    let s = c.decisions.invariant.stands in
    let said = rw c.in-Some.is at c.spread-found.ensures.says in
    end_says _ c.spread-found.new.watch c.args.assumptions.now c.decisions.levels c.in-Some.place c.conflict.ensures sound
    (spread_stands c.decisions.watch _ _ kept goes sound s)
    (spread_asks c.decisions.watch _ _ kept goes sound s _ _ _ c.decisions.invariant.asks)
    (spread_false c.decisions.watch _ _ kept goes sound s c.in-Some.place said)

pub step-requires-clause-over : goal.step-requires-clause-over
step-requires-clause-over c =
    let now = kept_more c.args.watch.now c.decisions.watch c.decisions.invariant.kept c.spread-found.new.watch c.spread-found.ensures.kept in
    over_along _ _ c.args.assumptions.now (vars_kept c.args.watch.now c.spread-found.new.watch now) c.requires.over

pub step-requires-clause-settled : goal.step-requires-clause-settled
step-requires-clause-settled c =
    let said = rw c.in-None.is at c.spread-found.ensures.says in
    spread_settled c.decisions.watch _ _ c.spread-found.ensures.kept c.spread-found.ensures.goes_on c.trail-known.ensures.sound c.decisions.invariant.stands said

pub step-requires-clause-stands : goal.step-requires-clause-stands
step-requires-clause-stands c = spread_stands c.decisions.watch _ _ c.spread-found.ensures.kept c.spread-found.ensures.goes_on c.trail-known.ensures.sound c.decisions.invariant.stands

pub step-requires-clause-asks : goal.step-requires-clause-asks
step-requires-clause-asks c = spread_asks c.decisions.watch _ _ c.spread-found.ensures.kept c.spread-found.ensures.goes_on c.trail-known.ensures.sound c.decisions.invariant.stands _ _ _ c.decisions.invariant.asks

pub returns-in-Denied-clause-says : goal.returns-in-Denied-clause-says
returns-in-Denied-clause-says c =
    let said = rw c.in-Denied.is at c.in_ok-step.ensures.says in
    rw (clauses_kept c.spread-found.new.watch c.step.new.watch c.step.ensures.kept) said

pub returns-in-Full-clause-says : goal.returns-in-Full-clause-says
returns-in-Full-clause-says c =
    let said = rw c.in-Full.is at c.in_ok-step.ensures.says in
    let quiet = rw c.in-None.is at c.spread-found.ensures.says in
    let now = kept_more c.args.watch.now c.decisions.watch c.decisions.invariant.kept c.spread-found.new.watch c.spread-found.ensures.kept in
    let settled = spread_settled c.decisions.watch _ _ c.spread-found.ensures.kept c.spread-found.ensures.goes_on c.trail-known.ensures.sound c.decisions.invariant.stands quiet in
    full_says c.complete.result c.spread-found.new.watch c.step.new.watch c.args.assumptions.now c.step.new.levels said.0 c.complete.ensures c.trail-known.ensures.sound
    (over_along _ _ c.args.assumptions.now (vars_kept c.args.watch.now c.spread-found.new.watch now) c.requires.over)
    settled said.1 said.2

pub decisions-preserved : goal.decisions-preserved
decisions-preserved c =
    let said = rw c.in-Decided.is at c.in_ok-step.ensures.says in
    let now = kept_more c.args.watch.now c.decisions.watch c.decisions.invariant.kept c.spread-found.new.watch c.spread-found.ensures.kept in
    record {
      kept = kept_more c.args.watch.now c.spread-found.new.watch now c.step.new.watch c.step.ensures.kept;
      marks = c.step.ensures.marks ∙ (c.spread-found.ensures.marks ∙ c.decisions.invariant.marks);
      stands = said.0;
      asks = said.1;
    }

pub decisions-smaller : goal.decisions-smaller
decisions-smaller c =
    let said = rw c.in-Decided.is at c.in_ok-step.ensures.says in
    let a : length c.decisions.watch.trail ≤ length c.spread-found.new.watch.trail = c.spread-found.ensures.longer in
    let b : length c.spread-found.new.watch.trail < length c.step.new.watch.trail = said.2 in
    let w = c.trail-known-in-decisions.ensures.sound.trail.within in
    let e : c.step.new.watch.vars ≡ c.spread-found.new.watch.vars = vars_kept c.spread-found.new.watch c.step.new.watch c.step.ensures.kept in
    let f : c.spread-found.new.watch.vars ≡ c.decisions.watch.vars = vars_kept c.decisions.watch c.spread-found.new.watch c.spread-found.ensures.kept in
    omega arith
