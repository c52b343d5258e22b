use Rattle.std.proofs.Common.{sym, ◌∙◌}
use Rattle.ax_names_rules.specs.StatementWalk.{var_of}
use Rattle.ax_names.proofs.Kept.{kept, var_keeps}
use Rattle.ax_names.proofs.BecomingSteps.{vars_step}
use Rattle.ax_names.proofs.declarations.vars_of.Goals as goal

pub loop-d-preserved : goal.loop-d-preserved
loop-d-preserved c =
    let defs = c.args.defs.now in
    let base = c.args.base.now in
    let d = c.d-item.result in (
      sym (vars_step defs c.args.floor base c.args.items.now c.loop-d.d-index d c.loop-d.all c.push.new.self c.loop-d.st c.var_of.new.st c.in_ok-made.made c.loop-d-test.true c.d-item.is c.in_ok-made.ensures.made c.in_ok-push.ensures.ok) ∙ c.loop-d.invariant.0,
      kept c.loop-d.st c.var_of.new.st (var_of defs c.args.floor base d c.loop-d.st) c.in_ok-made.made (var_keeps defs c.args.floor base d c.loop-d.st) c.in_ok-made.ensures.made ∙ c.loop-d.invariant.1,
    )
