-- What it means that code made what a walk gives.
use Rattle.std.specs.Prelude.{◌≡◌, Result, Ok, Err}
use Rattle.ax_names_types.specs.Faults.{Verdict}
use Rattle.ax_names_rules.specs.declared.State.{State}
use Rattle.ax_names_given.specs.declared.stops.Stop.{Stop}
use Rattle.ax_names_given.specs.declared.stops.Stop.TheVariants.{Memory, Fault}

-- the walk gives the fault by which the code stops; where it stops for want of memory nothing is said
abbrev pub IsStopped : {A : Type 0} → Verdict A → Stop → Type 0
IsStopped w (Fault f) = w ≡ Err f
IsStopped w Memory = Unit {0}

-- what the code found is what the walk gives
abbrev pub IsFound : {A : Type 0} → Verdict A → Result A Stop → Type 0
IsFound w (Ok v) = w ≡ Ok v
IsFound w (Err stop) = IsStopped w stop

-- what the code made, and the state behind it, are what the walk gives
abbrev pub IsMade : {A : Type 0} → Verdict (A × State) → Result A Stop → State → Type 0
IsMade w (Ok v) st = w ≡ Ok (v, st)
IsMade w (Err stop) st = IsStopped w stop
