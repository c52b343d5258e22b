use Rattle.std.proofs.Common.{◌≡◌, IsTrue, subst, sym}
use Rattle.ax_flow.specs.Machine.{final, Go, stays, move, Comes}
use Rattle.ax_interp.specs.Moves.{ending_of, here_of, move_of, setting_of}
use Rattle.ax_interp.specs.Gaps.{StillEnded}
use Rattle.ax_interp.proofs.Ops.{stops_within, ops_of_run, stops_on, left_falls, stops_here, goes_on, run_stops, comes_as_run, is_finished, code_of_program, starts_of_program}
use Rattle.ax_interp.proofs.running.run_ops.Goals as goal

pub ops-init : goal.ops-init
ops-init c =
    let context = c.args.context.now in
    let flow = context.flow.now in
    let p = context.layout.program.now in
    let inputs = c.args.machine.state.inputs in
    record {
      stops = subst (λ m. IsTrue (stops_within (setting_of context) flow.code flow.starts (ops_of_run p inputs context.steps) m)) (sym c.requires.start)
          (run_stops p flow.code flow.starts inputs context.steps (code_of_program flow p c.requires.program) (starts_of_program flow p c.requires.program));
      back = λ f x. x;
      ended = rw c.new-gaps.ensures tt;
    }

pub ops-preserved : goal.ops-preserved
ops-preserved c =
    let context = c.args.context.now in
    let flow = context.flow.now in
    let p = context.layout.program.now in
    let most = ops_of_run p c.args.machine.state.inputs context.steps in
    let e : Go (here_of c.step.new.machine) ≡ move (setting_of context) flow.code flow.starts (here_of c.ops.now) =
    subst (λ o. move_of o c.step.new.machine ≡ move (setting_of context) flow.code flow.starts (here_of c.ops.now)) c.in-None.is c.in_ok-step.ensures.next in
    record {
      stops = subst (λ m. IsTrue (stops_within (setting_of context) flow.code flow.starts most m)) (sym e) (stops_on (setting_of context) flow.code flow.starts most (here_of c.ops.now) c.ops.invariant.stops);
      back = λ f x. c.ops.invariant.back f (goes_on (setting_of context) flow.code flow.starts (here_of c.ops.now) (here_of c.step.new.machine) f e x);
      ended = subst (λ o. StillEnded o c.step.new.gaps c.step.new.machine) c.in-None.is c.in_ok-step.ensures.ended;
    }

pub step-requires : goal.step-requires
step-requires c = c.ops.invariant.ended

pub ops-smaller : goal.ops-smaller
ops-smaller c =
    let context = c.args.context.now in
    let flow = context.flow.now in
    let p = context.layout.program.now in
    let most = ops_of_run p c.args.machine.state.inputs context.steps in
    let e : Go (here_of c.step.new.machine) ≡ move (setting_of context) flow.code flow.starts (here_of c.ops.now) =
    subst (λ o. move_of o c.step.new.machine ≡ move (setting_of context) flow.code flow.starts (here_of c.ops.now)) c.in-None.is c.in_ok-step.ensures.next in
    rw e (left_falls (setting_of context) flow.code flow.starts most (here_of c.ops.now) c.ops.invariant.stops)

pub returns-in-Some : goal.returns-in-Some
returns-in-Some c =
    let context = c.args.context.now in
    let flow = context.flow.now in
    let p = context.layout.program.now in
    let inputs = c.args.machine.state.inputs in
    let st = c.step.new.machine.state in
    let end = ending_of c.in-Some.end in
    let e : stays end st ≡ move (setting_of context) flow.code flow.starts (here_of c.ops.now) =
    subst (λ o. move_of o c.step.new.machine ≡ move (setting_of context) flow.code flow.starts (here_of c.ops.now)) c.in-Some.is c.in_ok-step.ensures.next in
    let came : Comes (setting_of context) flow.code flow.starts (final end st) (Go (here_of c.args.machine)) =
    c.ops.invariant.back (final end st) (stops_here (setting_of context) flow.code flow.starts (here_of c.ops.now) (final end st) e) in
    let comes = comes_as_run p flow.code flow.starts inputs context.steps (code_of_program flow p c.requires.program) (starts_of_program flow p c.requires.program)
    (final end st) (subst (λ m. Comes (setting_of context) flow.code flow.starts (final end st) m) c.requires.start came) in
    record { comes = comes; finishes = is_finished (setting_of context) inputs end st comes }
