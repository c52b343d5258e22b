use Rattle.std.proofs.Common.{◌≡◌, sym, ap, ◌∙◌, ◌+◌, suc, arith}
use Rattle.ax_meaning.specs.Execution.{ends}
use Rattle.ax_meaning.specs.Runs.{outcome_of, plain_setting, seen_of}
use Rattle.ax_meaning.proofs.Fuel.{outcome-finishes}
use Rattle.ax_interp_plain.specs.Completions.{ending_of}
use Rattle.ax_interp_plain.proofs.Calls.{run_outcome}
use Rattle.ax_interp_plain.proofs.run.Goals as goal

pub run_end-requires : goal.run_end-requires
run_end-requires c =
    let p = c.args.program.now in
    let count : c.from-calls.result + 1 ≡ suc c.args.steps = omega arith in
    let same : ends (ending_of c.in_ok-end.end) c.call.new.state ≡ outcome_of (plain_setting p c.args.steps) c.args.inputs.now =
    run_outcome p c.in_ok-layout.layout.program.now c.args.steps (c.from-calls.result + 1) c.args.inputs.now c.in_ok-state.state c.new.result
    (ends (ending_of c.in_ok-end.end) c.call.new.state) c.in_ok-layout.ensures count c.in_ok-state.ensures c.new.ensures c.in_ok-end.ensures in
    λ e. outcome-finishes (plain_setting p c.args.steps) c.args.inputs.now (sym (ap (λ out. out.ending) same) ∙ e)

pub returns : goal.returns
returns c =
    let p = c.args.program.now in
    let count : c.from-calls.result + 1 ≡ suc c.args.steps = omega arith in
    let same : ends (ending_of c.in_ok-end.end) c.call.new.state ≡ outcome_of (plain_setting p c.args.steps) c.args.inputs.now =
    run_outcome p c.in_ok-layout.layout.program.now c.args.steps (c.from-calls.result + 1) c.args.inputs.now c.in_ok-state.state c.new.result
    (ends (ending_of c.in_ok-end.end) c.call.new.state) c.in_ok-layout.ensures count c.in_ok-state.ensures c.new.ensures c.in_ok-end.ensures in
    c.run_end.ensures c.call.new.state.used c.call.new.state.counts ∙ ap seen_of same
