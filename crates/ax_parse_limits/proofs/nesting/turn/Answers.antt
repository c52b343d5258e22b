use Rattle.ax_parse_limits.proofs.Closing.{closing}
use Rattle.ax_parse_limits.proofs.nesting.turn.Goals as goal

pub returns-in-Some-clause-value : goal.returns-in-Some-clause-value
returns-in-Some-clause-value c = closing c.args.state c.args.class c.args.value c.args.stays c.pop.new.self c.in-Some.outer c.kept.result c.in-CloseCurly.is c.in-Some.ensures c.kept.ensures
