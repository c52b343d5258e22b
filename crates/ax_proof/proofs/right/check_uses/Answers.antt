use Rattle.std.proofs.Common.{◌≡◌, arith, true}
use Rattle.ax_proof.proofs.Shows.{all_right_more, first_wrong, named_left, all_right}
use Rattle.ax_proof.proofs.right.check_uses.Goals as goal

pub returns-in_err-is_right-clause-steps : goal.returns-in_err-is_right-clause-steps
returns-in_err-is_right-clause-steps g c =
    let left = named_left (g.S.Shown.clauses c.args.shown.now) c.args.from c.loop-at.at c.args.uses.now c.index-uses-at.result c.requires.low c.requires.lines c.loop-at-test.true c.index-uses-at.is in
    let cost = rw c.as_slice.ensures.value at c.is_right.ensures.steps in
    let before = c.loop-at.invariant.steps in
    omega arith

pub returns-then-not-branch-clause-steps : goal.returns-then-not-branch-clause-steps
returns-then-not-branch-clause-steps g c =
    let left = named_left (g.S.Shown.clauses c.args.shown.now) c.args.from c.loop-at.at c.args.uses.now c.index-uses-at.result c.requires.low c.requires.lines c.loop-at-test.true c.index-uses-at.is in
    let cost = rw c.as_slice.ensures.value at c.is_right.ensures.steps in
    let before = c.loop-at.invariant.steps in
    omega arith

pub returns-then-not-branch-clause-fault : goal.returns-then-not-branch-clause-fault
returns-then-not-branch-clause-fault g c =
    let exact = rw c.as_slice.ensures.value at c.in_ok-is_right.ensures.exact in
    first_wrong (g.S.Shown.clauses c.args.shown.now) c.args.from c.loop-at.at c.args.uses.now c.index-uses-at.result c.requires.low c.requires.lines c.loop-at-test.true c.index-uses-at.is
    c.loop-at.invariant.right (λ h. let yes : c.in_ok-is_right.field-0 ≡ true = exact.1 h in cc)

pub loop-at-preserved : goal.loop-at-preserved
loop-at-preserved g c =
    let exact = rw c.as_slice.ensures.value at c.in_ok-is_right.ensures.exact in
    let left = named_left (g.S.Shown.clauses c.args.shown.now) c.args.from c.loop-at.at c.args.uses.now c.index-uses-at.result c.requires.low c.requires.lines c.loop-at-test.true c.index-uses-at.is in
    let cost = rw c.as_slice.ensures.value at c.is_right.ensures.steps in
    let before = c.loop-at.invariant.steps in
    record {
      empty = c.in_ok-is_right.ensures.empty;
      right =
          all_right_more (g.S.Shown.clauses c.args.shown.now) c.args.from c.loop-at.at c.args.uses.now c.index-uses-at.result c.requires.low c.requires.lines c.loop-at-test.true c.index-uses-at.is
          c.loop-at.invariant.right (exact.0 c.if-not-branch.false);
      steps = omega arith;
    }

pub returns-clause-right : goal.returns-clause-right
returns-clause-right g c = all_right (g.S.Shown.clauses c.args.shown.now) c.args.from c.loop-at.at c.args.uses.now c.requires.low c.requires.lines c.loop-at-test.false c.loop-at.invariant.right
