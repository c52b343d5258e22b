use Rattle.std.proofs.Common.{◌∙◌}
use Rattle.ax_sat.proofs.base.Base.new.Goals as goal

pub invariant_of-result : goal.invariant_of-result
invariant_of-result c = record {
  many = c.requires.vars;
  over = rw (c.in_ok-clauses.ensures ∙ c.as_slice.ensures.value) c.requires.over;
}
