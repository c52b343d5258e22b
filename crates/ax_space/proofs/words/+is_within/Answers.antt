use Rattle.std.proofs.Common.{sym, refl, ◌∙◌}
use Rattle.std.specs.Option.{option_copied}
use Rattle.ax_space.proofs.Walking.{out-at}
use Rattle.ax_space.proofs.words.+is_within.Goals as goal

pub returns-else-fits : goal.returns-else-fits
returns-else-fits t c =
    out-at c.args.grow c.args.room (option_copied c.args.old) c.args.word.now _ _ c.in-len1-up.len_at_least refl (sym (rw c.in-None.is at c.operand_at-below.ensures)) (sym c.is_new_letter-fits.ensures ∙ c.if-fits.false)
