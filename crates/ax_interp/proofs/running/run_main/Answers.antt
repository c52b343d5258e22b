use Rattle.std.proofs.Common.{◌≡◌, refl, ap, ◌∙◌, subst, IfOk}
use Rattle.ax_flow.specs.Machine.{final, final_of}
use Rattle.ax_meaning.specs.Runs.{outcome_of}
use Rattle.ax_interp.specs.Moves.{ending_of, setting_of}
use Rattle.ax_interp.proofs.Ops.{inputs_at_start}
use Rattle.ax_interp.proofs.Calls.{begins_as}
use Rattle.ax_interp.proofs.running.run_main.Goals as goal

pub returns-in-None : goal.returns-in-None
returns-in-None c = record {
  comes = rw (c.in_ok-state.ensures, ← c.in-None.ensures.value) refl;
  finishes = λ e. cc;
}

pub run_ops-requires : goal.run_ops-requires
run_ops-requires c =
    let context = c.args.context.now in
    record {
      program = c.requires;
      start = begins_as context.layout.program.now context.steps context.flow.now.starts c.args.inputs.now c.in-Some.field-0.now c.in_ok-state.state c.start_of.result c.new.result
          c.in-Some.ensures.value c.in_ok-state.ensures c.start_of.ensures c.new.ensures;
    }

pub returns-in-Some : goal.returns-in-Some
returns-in-Some c =
    let context = c.args.context.now in
    let left = ap (λ s. s.inputs) c.in_ok-state.ensures ∙ inputs_at_start context.layout.program.now c.args.inputs.now in
    record {
      comes = subst (λ ins. IfOk c.run_ops.result (λ it. final (ending_of it.0) it.1 ≡ final_of (outcome_of (setting_of context) ins))) left c.run_ops.ensures.comes;
      finishes = c.run_ops.ensures.finishes;
    }
