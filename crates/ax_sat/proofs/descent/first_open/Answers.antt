use Rattle.std.proofs.Common.{ℕ, inl, inr, ◌+◌, arith}
use borrow.Author.Count.{below_more}
use Rattle.ax_sat.specs.Search.{IsAssigned}
use Rattle.ax_sat.proofs.descent.first_open.Goals as goal
use Rattle.ax_sat.proofs.descent.first_open.Goals.{in-True, in-False}

pub loop-before-preserved : goal.loop-before-preserved
loop-before-preserved c =
    let P : ℕ → Type 0 = λ k. IsAssigned c.args.watch.now.trail (k + 1) in
    elim c.match-truth.branch [
      | in-True w ↦ let here = rw c.new-lit.ensures at w.in-True.ensures.0 in below_more P c.loop-before.before c.loop-before.invariant (inr here)
      | in-False w ↦ let here = rw c.new-lit.ensures at w.in-False.ensures.0 in below_more P c.loop-before.before c.loop-before.invariant (inl here)
    ]

pub returns-clause-full : goal.returns-clause-full
returns-clause-full c = λ k h. c.loop-before.invariant k (let n = c.vars-before-end.ensures in omega arith)
