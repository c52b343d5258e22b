use Rattle.std.proofs.Common.{arith}
use Rattle.ax_sat_policy.proofs.Choosing.{part_there}
use Rattle.ax_sat_policy.proofs.parts.is_marked_part.Goals as goal

pub returns : goal.returns
returns c = λ e. part_there c.args.watch.now.clauses c.args.kept.now c.args.place c.clause.result.now c.args.lits.now (omega (arith, c.len.ensures)) c.if-not-kept-place.false c.clause.ensures.value (c.is_part.ensures e)
