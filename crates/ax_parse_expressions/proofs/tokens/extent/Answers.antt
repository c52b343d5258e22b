use Rattle.ax_parse_grammar.proofs.Tools.{extent_at}
use Rattle.ax_parse_expressions.proofs.tokens.extent.Goals as goal

pub returns : goal.returns
returns c = extent_at c.args.tokens.now c.args.from c.args.to _ _ c.requires.order c.requires.within
