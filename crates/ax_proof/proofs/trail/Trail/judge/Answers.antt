use Rattle.std.proofs.Common.{◌<◌, ◌≤◌, length, arith}
use Rattle.ax_proof.proofs.Judgements.{false_more, first_open, second_open, all_seen}
use Rattle.ax_proof.proofs.trail.Trail.judge.Goals as goal
use Rattle.ax_proof.proofs.trail.Trail.judge.Goals.{in-False, in-Open+in-None}

pub returns-in-Some : goal.returns-in-Some
returns-in-Some c =
    let here = c.lit-item.is in
    let within = c.loop-lit-test.true in
    let seen = rw c.in-Some.is at c.loop-lit.invariant in
    second_open _ _ c.loop-lit.lit-index c.lit-item.result within here c.in-Some.field-0 c.requires seen c.in-Open.ensures

pub loop-lit-preserved : goal.loop-lit-preserved
loop-lit-preserved c =
    let here = c.lit-item.is in
    let within = c.loop-lit-test.true in
    elim c.match-truth.branch [
      | in-False w ↦ rw w.unit-is (false_more _ _ c.loop-lit.lit-index c.lit-item.result within here c.loop-lit.unit c.loop-lit.invariant w.in-False.ensures.0)
      | in-Open+in-None w ↦
          let seen = rw w.in-None.is at c.loop-lit.invariant in
          rw w.unit-is (first_open _ _ c.loop-lit.lit-index c.lit-item.result within here seen w.in-Open.ensures)
    ]

pub returns-in-Some-unit : goal.returns-in-Some-unit
returns-in-Some-unit c =
    let all : length c.args.lits.now ≤ c.loop-lit.lit-index = omega arith in
    let seen = all_seen _ _ _ c.loop-lit.unit all c.loop-lit.invariant in
    rw c.in-Some-unit.is at seen

pub returns-in-None-unit : goal.returns-in-None-unit
returns-in-None-unit c =
    let all : length c.args.lits.now ≤ c.loop-lit.lit-index = omega arith in
    let seen = all_seen _ _ _ c.loop-lit.unit all c.loop-lit.invariant in
    rw c.in-None-unit.is at seen
