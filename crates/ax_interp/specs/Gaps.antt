-- Objects that have ended, by their numbers.
use Rattle.std.specs.Prelude.{◌≤◌, ◌<◌, ℕ, Bool, true, false, if◌then◌else◌, IsTrue, List, [], ◌∷◌, Option, Some, None, slice_get}
use Rattle.ax_meaning.specs.declared.Extent.{Extent}
use Rattle.ax_interp.specs.declared.machine.Gap.{Gap}
use Rattle.ax_interp.specs.declared.machine.Machine.{Machine}
use Rattle.ax_interp.specs.declared.machine.Finish.{Finish}

abbrev pub has_ended : Option Extent → Bool
has_ended None = false
has_ended (Some o) = if o.live then false else true

-- each object from this number up to that one has ended
abbrev pub EndedIn : ℕ → ℕ → List Extent → Type 0
EndedIn from to objects = (i : ℕ) → from ≤ i → i < to → IsTrue (has_ended (slice_get objects i))

-- all objects of these gaps have ended
abbrev pub AllEnded : List Gap → List Extent → Type 0
AllEnded [] objects = Unit {0}
AllEnded (gap ∷ rest) objects = EndedIn gap.from gap.to objects × AllEnded rest objects

-- what has ended among these objects has ended among those
abbrev pub StayEnded : List Extent → List Extent → Type 0
StayEnded before after = (i : ℕ) → IsTrue (has_ended (slice_get before i)) → IsTrue (has_ended (slice_get after i))

-- all objects of these gaps have ended, where the run goes on
abbrev pub StillEnded : Option Finish → List Gap → Machine → Type 0
StillEnded None gaps machine = AllEnded gaps ((machine.state).store).objects
StillEnded (Some end) gaps machine = Unit {0}
