use Rattle.std.proofs.Common.{rules, ◌≡◌, Some, ap, ◌∙◌, slice_get}
use Rattle.ax_flow.proofs.Filling.{made_stays}
use Rattle.ax_flow.proofs.ops.fill_one.Goals as goal

pub returns-in-Made : goal.returns-in-Made
returns-in-Made c =
    let h : slice_get c.args.code.now c.args.at ≡ Some c.in-Some.draft.now = search rules in
    made_stays c.args.code.now c.args.at c.args.broke c.args.continued c.in-Made.field-0 (h ∙ ap Some c.in-Made.is)
