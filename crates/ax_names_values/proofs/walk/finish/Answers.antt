use Rattle.std.proofs.Common.{◌∙◌}
use Rattle.ax_names_values.proofs.Walks.{step_taken}
use Rattle.ax_names_values.proofs.walk.finish.Goals as goal

pub loop-step-preserved : goal.loop-step-preserved
loop-step-preserved c = step_taken c.args.structs.now c.pop.new.self c.loop-step.steps c.in-Some.step c.loop-step.verdict c.in_ok-verdict.verdict c.in-Some.ensures c.in_ok-verdict.ensures ∙ c.loop-step.invariant
