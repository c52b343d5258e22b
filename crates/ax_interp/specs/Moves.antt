-- What the interpreter's values are, as the definitions of flat code have them.
use Rattle.std.specs.Prelude.{◌∷◌, [], ◌++◌, reverse, Option, Some, None}
use Rattle.ax_meaning.specs.declared.Cell.{Cell}
use Rattle.ax_meaning.specs.Acts.{Setting, Source, give}
use Rattle.ax_meaning.specs.Execution.{Ending, Returned, Stopped, Unfinished}
use Rattle.ax_meaning.specs.Runs.{plain_setting}
use Rattle.ax_interp_acts.specs.Gives.{halt_of}
use Rattle.ax_flow.specs.declared.Frame.{Frame}
use Rattle.ax_flow.specs.Machine.{Calls, Here, Move, Go, stays, moves, returned, given_back}
use Rattle.ax_interp.specs.declared.machine.Context.{Context}
use Rattle.ax_interp.specs.declared.machine.Machine.{Machine}
use Rattle.ax_interp.specs.declared.machine.Finish.{Finish}
use Rattle.ax_interp.specs.declared.machine.Finish.TheVariants as by

abbrev pub setting_of : Context → Setting
setting_of context = plain_setting context.layout.program.now context.steps

abbrev pub ending_of : Finish → Ending
ending_of (by.Returned v) = Returned v
ending_of (by.Stopped stop) = Stopped (halt_of stop)
ending_of by.Unfinished = Unfinished

-- the interpreter keeps the latest caller last
abbrev pub calls_of : Machine → Calls
calls_of machine = record { running = machine.running; callers = reverse machine.callers }

abbrev pub here_of : Machine → Here
here_of machine = record { place = machine.place; calls = calls_of machine; last = machine.last; state = machine.state }

-- after an op: the run goes on from where the machine is, or it is over
abbrev pub move_of : Option Finish → Machine → Move
move_of None machine = Go (here_of machine)
move_of (Some end) machine = stays (ending_of end) machine.state

abbrev pub with_caller : Frame → Machine → Machine
with_caller frame machine = record machine { callers = machine.callers ++ frame ∷ [] }

-- the caller that waited goes on with the value of its call
abbrev pub given_to : Frame → Option Cell → Machine → Machine
given_to frame value machine = record machine {
  place = frame.back;
  running = frame.fun;
  last = value;
  state = given_back frame machine.state;
}

-- a `return` of a value
abbrev pub given_by : Setting → Source → Here → Move
given_by r source h = moves (give r source h.state) (λ cell st. returned (h.calls).callers (Some cell) st)
