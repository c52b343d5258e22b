use Rattle.std.proofs.Common.{sym, ap, ◌∙◌, arith, length}
use Rattle.std.proofs.lemmas.List.{take_all}
use Rattle.ax_lex.specs.Bytes.{last_of}
use Rattle.ax_lex.proofs.Texts.{last_of_take}
use Rattle.ax_lex.proofs.numbers.last_of.Goals as goal

pub returns : goal.returns
returns c = sym (last_of_take (length c.args.s.now) c.args.s.now c.requires (omega arith)) ∙ ap last_of (take_all (length c.args.s.now) c.args.s.now (omega arith))
