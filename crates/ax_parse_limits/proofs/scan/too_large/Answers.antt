use Rattle.std.proofs.Common.{◌∙◌}
use Rattle.ax_parse_limits.proofs.Found.{tree_found}
use Rattle.ax_parse_limits.proofs.scan.too_large.Goals as goal

pub returns : goal.returns
returns c = λ t s. c.scan.ensures ∙ tree_found t c.args.tokens.now s
