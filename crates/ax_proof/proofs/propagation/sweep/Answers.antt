use Rattle.std.proofs.Common.{◌<◌, ◌≤◌, ◌++◌, length, arith, length-append}
use Rattle.ax_proof.proofs.Runs.{step_below, step_false, step_goes_on, step_settled, all_settled}
use Rattle.ax_proof.proofs.propagation.sweep.Goals as goal

pub apply-requires : goal.apply-requires
apply-requires c =
    let within : c.loop-place.place < length (c.args.clauses.now ++ c.args.lines.now) = omega (arith, length-append c.args.clauses.now c.args.lines.now) in
    step_below _ c.loop-place.place c.clause_numbered.result.now c.args.trail.now c.loop-place.trail c.loop-place.trail within c.clause_numbered.ensures
    c.loop-place.invariant.goes_on.size c.requires.below

pub returns-then-not-apply-clause-conflict : goal.returns-then-not-apply-clause-conflict
returns-then-not-apply-clause-conflict c =
    let within : c.loop-place.place < length (c.args.clauses.now ++ c.args.lines.now) = omega (arith, length-append c.args.clauses.now c.args.lines.now) in
    step_false _ c.loop-place.place c.clause_numbered.result.now c.args.trail.now c.loop-place.trail c.apply.new.trail within c.clause_numbered.ensures
    c.if-not-apply.ensures

pub loop-place-preserved : goal.loop-place-preserved
loop-place-preserved c =
    let within : c.loop-place.place < length (c.args.clauses.now ++ c.args.lines.now) = omega (arith, length-append c.args.clauses.now c.args.lines.now) in
    record {
      goes_on =
          step_goes_on _ c.loop-place.place c.clause_numbered.result.now c.args.trail.now c.loop-place.trail c.apply.new.trail within c.clause_numbered.ensures
          c.requires.paired c.loop-place.invariant.goes_on c.apply.result c.apply.ensures;
      settled =
          step_settled _ c.loop-place.place c.clause_numbered.result.now c.args.trail.now c.loop-place.trail c.apply.new.trail within c.clause_numbered.ensures
          c.requires.paired c.loop-place.invariant.goes_on c.loop-place.invariant.settled c.if-not-apply.ensures;
    }

pub returns-clause-quiet : goal.returns-clause-quiet
returns-clause-quiet c = λ e.
    let past : length (c.args.clauses.now ++ c.args.lines.now) ≤ c.loop-place.place = omega (arith, length-append c.args.clauses.now c.args.lines.now) in
    all_settled _ _ c.loop-place.place past (c.loop-place.invariant.settled e)
