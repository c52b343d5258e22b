use Rattle.ax_proof.proofs.Runs.{same_state}
use Rattle.ax_proof.specs.Runs.{pushed}
use Rattle.std.proofs.Common.{◌+◌, ◌/◌, ◌≤◌, arith}
use Rattle.ax_watch.proofs.Watching.{stays_fits, moved_fits, other_below, found_true, found_moved, found_unit, found_false}
use Rattle.ax_watch.proofs.watched.visit.Goals as goal

pub link-requires-clause-enough : goal.link-requires-clause-enough
link-requires-clause-enough c = stays_fits _ c.args.cell _ _ _ c.requires.two c.requires.cell c.requires.below c.requires.enough

pub link-requires-in-Moves-clause-enough : goal.link-requires-in-Moves-clause-enough
link-requires-in-Moves-clause-enough c = moved_fits _ c.args.cell _ _ _ c.requires.two c.requires.cell c.requires.below c.requires.enough _ c.in-Moves.lit c.get.ensures.value c.in-Moves.ensures.0

pub link-requires-in-Unit-clause-enough : goal.link-requires-in-Unit-clause-enough
link-requires-in-Unit-clause-enough c = stays_fits _ c.args.cell _ _ _ c.requires.two c.requires.cell c.requires.below c.requires.enough

pub push-requires-clause-within : goal.push-requires-clause-within
push-requires-clause-within c = other_below _ c.args.cell c.args.trail.now _ c.requires.two c.requires.cell _ c.index-watched-twin_of.result _ c.twin_of.ensures c.index-watched-twin_of.is c.get.ensures.value _ c.requires.below

pub link-requires-in-Falsified-clause-enough : goal.link-requires-in-Falsified-clause-enough
link-requires-in-Falsified-clause-enough c = stays_fits _ c.args.cell _ _ _ c.requires.two c.requires.cell c.requires.below c.requires.enough

pub returns-in-Satisfied-clause-visits : goal.returns-in-Satisfied-clause-visits
returns-in-Satisfied-clause-visits c = found_true _ c.args.cell c.args.trail.now _ c.requires.two c.requires.cell _ c.index-watched-twin_of.result _ c.twin_of.ensures c.index-watched-twin_of.is c.get.ensures.value c.in-Satisfied.ensures

pub returns-in-Moves-clause-visits : goal.returns-in-Moves-clause-visits
returns-in-Moves-clause-visits c =
    let e = c.var-var.ensures.value in
    let h = c.var-var.ensures.low in
    let low : 1 ≤ c.in-Moves.lit.var = omega arith in
    found_moved _ c.args.cell c.args.trail.now _ c.requires.two c.requires.cell _ c.index-watched-twin_of.result _ c.twin_of.ensures c.index-watched-twin_of.is c.get.ensures.value c.in-Moves.lit low c.in-Moves.ensures

pub returns-in-Unit-clause-visits : goal.returns-in-Unit-clause-visits
returns-in-Unit-clause-visits c =
    found_unit _ c.args.cell c.args.trail.now _ c.requires.two c.requires.cell _ c.index-watched-twin_of.result _ c.twin_of.ensures c.index-watched-twin_of.is c.get.ensures.value c.push.new.self c.requires.paired c.in-Unit.ensures
    (same_state c.push.new.self (pushed c.args.trail.now c.index-watched-twin_of.result (c.args.cell / 2 + 1)) c.push.ensures.lits c.push.ensures.reasons c.push.ensures.size)

pub returns-in-Falsified-clause-visits : goal.returns-in-Falsified-clause-visits
returns-in-Falsified-clause-visits c = found_false _ c.args.cell c.args.trail.now _ c.requires.two c.requires.cell _ c.index-watched-twin_of.result _ c.twin_of.ensures c.index-watched-twin_of.is c.get.ensures.value c.in-Falsified.ensures
