use Rattle.std.proofs.Common.{refl, ◌+◌}
use Rattle.ax_interp.specs.Moves.{setting_of}
use Rattle.ax_interp.proofs.Calls.{entered_as}
use Rattle.ax_interp.proofs.calling.enter_fun.Goals as goal

pub returns-in-None : goal.returns-in-None
returns-in-None c = rw (← c.in-None.ensures.value) refl

pub returns-in_ok-enter-in-Some : goal.returns-in_ok-enter-in-Some
returns-in_ok-enter-in-Some c =
    let context = c.args.context.now in
    let begins = rw c.as_slice.ensures at c.in_ok-enter-in-Some.ensures in
    entered_as (setting_of context) context.flow.now.starts c.args.f c.in-Some.fun.now (c.args.machine.now.place + 1) c.args.machine.now c.args.cells.now c.wait.new.machine
    c.enter.new.state c.start_of-machine.result c.in-Some.ensures.value c.in_ok-wait-in-Some.ensures begins c.start_of-machine.ensures
