-- What an act of a plain run gave, with the state afterwards, as the definitions have it.
use Rattle.std.specs.Prelude.{Result, Ok, Err}
use Rattle.ax_meaning.specs.declared.State.{State}
use Rattle.ax_meaning.specs.declared.Stop.{Stop}
use Rattle.ax_meaning.specs.declared.Stop.TheVariants as stop
use Rattle.ax_meaning.specs.Acts.{Halt, Undefined, OutOfSteps, Got, Done, Halted}

abbrev pub halt_of : Stop → Halt
halt_of (stop.Undefined why) = Undefined why
halt_of stop.OutOfSteps = OutOfSteps

abbrev pub got_by : {A : Type 0} → Result A Stop → State → Got A
got_by (Err stop) st = Halted (halt_of stop) st
got_by (Ok x) st = Done x st
