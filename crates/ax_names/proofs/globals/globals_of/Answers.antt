use Rattle.std.proofs.Common.{sym, ◌∙◌}
use Rattle.ax_names_rules.specs.StatementWalk.{global_of}
use Rattle.ax_names.proofs.Kept.{all_kept, global_keeps}
use Rattle.ax_names.proofs.BecomingSteps.{globals_step}
use Rattle.ax_names.proofs.globals.globals_of.Goals as goal

pub loop-d-preserved : goal.loop-d-preserved
loop-d-preserved c =
    let base = c.args.base.now in
    let d = c.d-item.result in (
      sym (globals_step base c.args.items.now c.loop-d.d-index d c.loop-d.st c.global_of.new.st c.loop-d-test.true c.d-item.is c.in_ok-global_of.ensures.done) ∙ c.loop-d.invariant.0,
      all_kept c.loop-d.st c.global_of.new.st (global_of base d c.loop-d.st) (global_keeps base d c.loop-d.st) c.in_ok-global_of.ensures.done ∙ c.loop-d.invariant.1,
    )
