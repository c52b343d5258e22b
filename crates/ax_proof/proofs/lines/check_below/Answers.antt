use Rattle.std.proofs.Common.{◌≡◌, ◌∙◌, arith, true, refl}
use Rattle.ax_proof.proofs.Checks.{below_front, below_line, lawful_more, first_unlawful}
use Rattle.ax_proof.proofs.lines.check_below.Goals as goal

pub has_rup-requires-clause-below : goal.has_rup-requires-clause-below
has_rup-requires-clause-below c =
    let size : c.loop-at.trail.size ≡ c.args.size = c.loop-at.invariant.size ∙ c.in_ok-trail.ensures.size in
    below_front _ _ c.loop-at.at c.args.size c.args.size _ (omega arith) (omega arith) c.requires.below c.requires.lines

pub has_rup-requires-clause-line : goal.has_rup-requires-clause-line
has_rup-requires-clause-line c =
    let size : c.loop-at.trail.size ≡ c.args.size = c.loop-at.invariant.size ∙ c.in_ok-trail.ensures.size in
    below_line c.args.lines.now c.loop-at.at c.args.size _ c.index-lines-at.result (omega arith) c.loop-at-test.true c.index-lines-at.is c.requires.lines

pub returns-then-not-has_rup-clause-fault : goal.returns-then-not-has_rup-clause-fault
returns-then-not-has_rup-clause-fault c =
    first_unlawful _ _ _ c.loop-at.at c.index-lines-at.result refl c.loop-at-test.true c.index-lines-at.is c.loop-at.invariant.lawful
    (λ h. let yes : c.has_rup.result ≡ true = c.has_rup.ensures.exact.1 h in cc)

pub loop-at-preserved : goal.loop-at-preserved
loop-at-preserved c = record {
  lawful =
      lawful_more _ _ _ c.loop-at.at c.index-lines-at.result refl c.loop-at-test.true c.index-lines-at.is c.loop-at.invariant.lawful
      (c.has_rup.ensures.exact.0 c.if-not-has_rup.false);
  empty = c.has_rup.ensures.empty;
  size = c.has_rup.ensures.size ∙ c.loop-at.invariant.size;
}
