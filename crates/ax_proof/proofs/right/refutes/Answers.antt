use Rattle.std.proofs.Common.{arith}
use Rattle.ax_proof.proofs.Rights.{not_true, uses_stuck, uses_forced, named_step}
use Rattle.ax_proof.proofs.right.refutes.Goals as goal

pub returns-then-not-branch-clause-exact : goal.returns-then-not-branch-clause-exact
returns-then-not-branch-clause-exact g c =
    let forced = rw c.if-not-branch.true at c.in_ok-force.ensures.forced in (
      (λ e. absurd (not_true e)),
      (λ h. absurd (uses_stuck _ _ _ c.args.uses.now c.in-Some.firsts.now c.in-Some.last.now c.loop-number.number-index c.in-Some.ensures.cases.0 c.loop-number.invariant.same c.loop-number-test.true c.force.new.known forced h)),
    )

pub loop-number-preserved : goal.loop-number-preserved
loop-number-preserved g c =
    let forced = rw c.if-not-branch.false at c.in_ok-force.ensures.forced in
    record {
      same = uses_forced _ _ _ c.args.uses.now c.in-Some.firsts.now c.in-Some.last.now c.loop-number.number-index c.in-Some.ensures.cases.0 c.loop-number.invariant.same c.loop-number-test.true c.force.new.known forced;
      steps =
          let step = named_step (g.S.Shown.clauses c.args.shown.now) c.args.uses.now c.in-Some.firsts.now c.in-Some.last.now c.loop-number.number-index c.in-Some.ensures.cases.0 c.loop-number-test.true in
          let cost = c.force.ensures.steps in
          let before = c.loop-number.invariant.steps in
          omega arith;
    }
