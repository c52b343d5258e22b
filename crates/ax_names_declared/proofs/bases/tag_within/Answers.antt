use Rattle.std.proofs.Common.{sym, ◌∙◌}
use Rattle.ax_names_declared.proofs.Tags.{within_found, within_own, within_none}
use Rattle.ax_names_declared.proofs.bases.tag_within.Goals as goal

pub returns-in-Some : goal.returns-in-Some
returns-in-Some c = sym (within_found c.args.structs.now c.args.own.now c.args.tag.now c.in-Some.at (sym c.name_at.ensures ∙ c.in-Some.is))

pub returns-then-same_text : goal.returns-then-same_text
returns-then-same_text c = sym (within_own c.args.structs.now c.args.own.now c.args.tag.now (sym c.name_at.ensures ∙ c.in-None.is) (sym c.same_text.ensures ∙ c.if-same_text.true))

pub returns-else-same_text : goal.returns-else-same_text
returns-else-same_text c = sym (within_none c.args.structs.now c.args.own.now c.args.tag.now (sym c.name_at.ensures ∙ c.in-None.is) (sym c.same_text.ensures ∙ c.if-same_text.false))
