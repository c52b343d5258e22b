use Rattle.std.proofs.Common.{◌∙◌, sym, arith}
use Rattle.ax_sat_policy.proofs.Choosing.{done_none, done_more, done_all}
use Rattle.ax_sat_policy.proofs.choice.choose.Goals as goal

pub loop-at-init : goal.loop-at-init
loop-at-init c = record {
  within = let e = c.len-at.ensures in omega arith;
  size = c.requires;
  done = done_none _ _ _ (let e = c.len-at.ensures in omega arith);
}

pub visit-requires : goal.visit-requires
visit-requires c = record { place = let w = c.loop-at.invariant.within in omega arith; size = c.loop-at.invariant.size }

pub loop-at-preserved : goal.loop-at-preserved
loop-at-preserved c = record {
  within = let w = c.loop-at.invariant.within in omega arith;
  size = c.visit.ensures.size ∙ c.loop-at.invariant.size;
  done = done_more c.args.watch.now.clauses _ _ c.loop-at.at (omega arith) c.visit.ensures.more c.in_ok-visit.ensures.part c.loop-at.invariant.done;
}

pub returns-clause-size : goal.returns-clause-size
returns-clause-size c = c.loop-at.invariant.size ∙ sym c.requires

pub returns-clause-core : goal.returns-clause-core
returns-clause-core c = done_all _ _ c.loop-at.at (omega arith) c.loop-at.invariant.done
