use Rattle.std.proofs.Common.{◌≡◌, ◌+◌, ◌∙◌, length, refl, ap, sym}
use Rattle.ax_proof.proofs.Runs.{goes_on_along, false_conflicts, quiet_no_conflict, below_along}
use Rattle.ax_watch.proofs.Trails.{number_says}
use Rattle.ax_watch.proofs.scan.scan.Goals as goal

pub sweep-requires-clause-below : goal.sweep-requires-clause-below
sweep-requires-clause-below c = below_along _ c.args.trail.now c.sweeps.trail c.sweeps.invariant.goes_on c.requires

pub returns-in-Some-clause-goes_on : goal.returns-in-Some-clause-goes_on
returns-in-Some-clause-goes_on c = goes_on_along _ _ c.sweeps.trail _ c.lits-known.ensures.trail.paired c.sweeps.invariant.goes_on c.sweep.ensures.goes_on

pub returns-in-Some-clause-exact : goal.returns-in-Some-clause-exact
returns-in-Some-clause-exact c =
    let goes = goes_on_along _ c.args.trail.now c.sweeps.trail c.sweep.new.trail c.lits-known.ensures.trail.paired c.sweeps.invariant.goes_on c.sweep.ensures.goes_on in
    ((λ _. false_conflicts _ _ c.sweep.new.trail goes (c.in-Some.place + 1) (number_says _ _ c.in-Some.place c.in-Some.ensures.conflict)), λ _. refl)

pub returns-then-now_known-known-clause-goes_on : goal.returns-then-now_known-known-clause-goes_on
returns-then-now_known-known-clause-goes_on c = goes_on_along _ _ c.sweeps.trail _ c.lits-known.ensures.trail.paired c.sweeps.invariant.goes_on c.sweep.ensures.goes_on

pub returns-then-now_known-known-clause-says : goal.returns-then-now_known-known-clause-says
returns-then-now_known-known-clause-says c =
    let seen : length c.lits-now_known.result.now ≡ length c.sweep.new.trail.lits = ap length c.lits-now_known.ensures.value in
    let same : length c.sweep.new.trail.lits ≡ length c.sweeps.trail.lits = sym seen ∙ c.if-now_known-known.true ∙ c.sweeps.invariant.known in
    c.in-None.ensures.quiet same

pub returns-then-now_known-known-clause-exact : goal.returns-then-now_known-known-clause-exact
returns-then-now_known-known-clause-exact c =
    let goes = goes_on_along _ c.args.trail.now c.sweeps.trail c.sweep.new.trail c.lits-known.ensures.trail.paired c.sweeps.invariant.goes_on c.sweep.ensures.goes_on in
    let seen : length c.lits-now_known.result.now ≡ length c.sweep.new.trail.lits = ap length c.lits-now_known.ensures.value in
    let same : length c.sweep.new.trail.lits ≡ length c.sweeps.trail.lits = sym seen ∙ c.if-now_known-known.true ∙ c.sweeps.invariant.known in
    ((λ e. cc), λ h. absurd (quiet_no_conflict _ _ c.sweep.new.trail goes c.lits-now_known.ensures.consistent (c.in-None.ensures.quiet same) h))

pub sweeps-preserved : goal.sweeps-preserved
sweeps-preserved c = record {
  goes_on = goes_on_along _ _ c.sweeps.trail _ c.lits-known.ensures.trail.paired c.sweeps.invariant.goes_on c.sweep.ensures.goes_on;
  known = ap length c.lits-now_known.ensures.value;
}
