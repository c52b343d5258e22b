use Rattle.ax_sat_policy.proofs.anew.renewed.Goals as goal

pub fill-requires-clause-core : goal.fill-requires-clause-core
fill-requires-clause-core c = rw c.as_slice.ensures.value c.in_ok-kept.ensures.core
