use Rattle.std.proofs.Common.{◌≡◌, ◌∙◌, arith, length-append, refl}
use Rattle.ax_proof.proofs.Checks.{below_front, below_line, first_unlawful}
use Rattle.ax_proof.proofs.Rights.{rights_more, right_lawful}
use Rattle.ax_proof.proofs.uses.uses_below.Goals as goal

pub uses_of-requires-clause-below : goal.uses_of-requires-clause-below
uses_of-requires-clause-below c =
    let size : c.loop-at.trail.size ≡ c.args.size = c.loop-at.invariant.size ∙ c.in_ok-trail.ensures.size in
    below_front _ _ c.loop-at.at c.args.size c.args.size _ (omega arith) (omega arith) c.requires.below c.requires.lines

pub uses_of-requires-clause-line : goal.uses_of-requires-clause-line
uses_of-requires-clause-line c =
    let size : c.loop-at.trail.size ≡ c.args.size = c.loop-at.invariant.size ∙ c.in_ok-trail.ensures.size in
    below_line c.args.lines.now c.loop-at.at c.args.size _ c.index-lines-at.result (omega arith) c.loop-at-test.true c.index-lines-at.is c.requires.lines

pub returns-in-None-clause-fault : goal.returns-in-None-clause-fault
returns-in-None-clause-fault c =
    let found = rw c.in-None.is at c.in_ok-uses.ensures.found in
    first_unlawful _ _ _ c.loop-at.at c.index-lines-at.result refl c.loop-at-test.true c.index-lines-at.is
    (λ k h. right_lawful _ _ _ (c.loop-at.invariant.right k h)) found

pub loop-at-preserved : goal.loop-at-preserved
loop-at-preserved c =
    let found = rw c.in-Some.is at c.in_ok-uses.ensures.found in
    record {
      count = let n = c.loop-at.invariant.count in rw c.in_ok-push-in-Some.ensures.items (simp length-append (omega arith));
      right =
          rights_more _ _ _ c.loop-at.at c.index-lines-at.result refl c.loop-at-test.true c.index-lines-at.is
          c.loop-at.all.items _ c.in-Some.uses c.loop-at.invariant.count c.in_ok-push-in-Some.ensures.items c.loop-at.invariant.right found;
      empty = c.in_ok-uses.ensures.empty;
      size = c.uses_of.ensures.size ∙ c.loop-at.invariant.size;
      marks = c.uses_of.auto.marks ∙ c.loop-at.invariant.marks;
    }
