use Rattle.ax_lex.proofs.Numerals.{value_over}
use Rattle.ax_lex.proofs.numbers.value_of.Goals as goal

pub returns-then-n-gt2147483647-clause-none : goal.returns-then-n-gt2147483647-clause-none
returns-then-n-gt2147483647-clause-none c = value_over c.args.base c.loop-s.n c.digit.result c.loop-s.s.now _ (c.requires.base.0) c.in-len1-up.len_at_least c.digit.ensures.value c.if-n-gt2147483647.true c.loop-s.invariant.0
