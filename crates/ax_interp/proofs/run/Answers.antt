use Rattle.std.proofs.Common.{ap, ◌∙◌}
use Rattle.ax_meaning.specs.Runs.{run_of}
use Rattle.ax_interp.proofs.run.Goals as goal

pub run_end-requires : goal.run_end-requires
run_end-requires c = c.in_ok-end.ensures.finishes

pub returns : goal.returns
returns c = c.run_end.ensures _ _ ∙ ap (λ f. f.shown) c.in_ok-end.ensures.comes ∙ ap (λ p. run_of p c.args.inputs.now c.args.steps) c.in_ok-layout.ensures
