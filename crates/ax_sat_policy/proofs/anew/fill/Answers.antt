use Rattle.std.proofs.Common.{◌∙◌, arith, refl}
use Rattle.ax_sat_policy.proofs.Choosing.{fills_none, fills_more, fills_core}
use Rattle.ax_sat_policy.proofs.anew.fill.Goals as goal

pub loop-place-init : goal.loop-place-init
loop-place-init c = record { fills = fills_none _ _ _ c.requires.none; vars = refl; trail = refl }

pub take-requires : goal.take-requires
take-requires c = record {
  vars = c.loop-place.invariant.vars ∙ c.requires.vars;
  size = c.requires.size;
  place = let e = c.len-place-end.ensures in omega arith;
}

pub loop-place-preserved : goal.loop-place-preserved
loop-place-preserved c = record {
  fills = fills_more _ _ _ _ c.loop-place.place (let e = c.len-place-end.ensures in omega arith) c.in_ok-take.ensures.takes c.loop-place.invariant.fills;
  vars = c.take.ensures.vars ∙ c.loop-place.invariant.vars;
  trail = c.take.ensures.trail ∙ c.loop-place.invariant.trail;
}

pub returns-clause-core : goal.returns-clause-core
returns-clause-core c = fills_core _ _ _ c.loop-place.place (let e = c.len-place-end.ensures in omega arith) c.requires.core c.loop-place.invariant.fills
