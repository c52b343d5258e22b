-- Which fault comes first where several rules are judged.
use Rattle.std.specs.Prelude.{◌≤◌, Bool, if◌then◌else◌, Option, Some, None, Ok, Err}
use Rattle.ax_prog.specs.declared.Span.{Span}
use Rattle.ax_names_types.specs.declared.TypeKind.{TypeKind}
use Rattle.ax_names_types.specs.declared.TypeFault.{TypeFault}
use Rattle.ax_names_types.specs.Faults.{fault, turn, Verdict}
use Rattle.ax_names_types.specs.Verdicts.{sooner}

-- the answer is what is meant, and no rule is broken; or it is a break before which no other comes, and nothing is meant
abbrev pub Exact : {A : Type 0} → (A → Type 0) → (TypeFault → Type 0) → Verdict A → Type 0
Exact P B (Ok a) = P a × ((g : TypeFault) → B g → ⊥)
Exact {A} P B (Err f) = (B f × ((g : TypeFault) → B g → turn f ≤ turn g)) × ((a : A) → P a → ⊥)

-- the sooner of two faults, where there are any
abbrev pub earlier : Option TypeFault → Option TypeFault → Option TypeFault
earlier None o = o
earlier (Some f) None = Some f
earlier (Some f) (Some g) = Some (sooner f g)

-- a fault where the test fails
abbrev pub unless : Bool → TypeKind → Span → Option TypeFault
unless b kind at = if b then None else Some (fault kind at)

-- the fault, or else the answer
abbrev pub closed : {A : Type 0} → Option TypeFault → A → Verdict A
closed None a = Ok a
closed (Some f) a = Err f

abbrev pub fault_of : {A : Type 0} → Verdict A → Option TypeFault
fault_of (Ok a) = None
fault_of (Err f) = Some f
