use Rattle.std.proofs.Common.{◌≡◌}
use Rattle.ax_parse_limits.proofs.CallLayers.{inner_call-Call}
use Rattle.ax_parse_limits.proofs.call_expressions.inner_call.Goals as goal

pub returns-in-Call : goal.returns-in-Call
returns-in-Call c = rw (c.in-Call.is, inner_call-Call, ← c.get.ensures, ← c.as_slice.ensures, ← c.first_call-in-Call.ensures, ← c.first_in_args.ensures) c.or.ensures
