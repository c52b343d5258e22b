-- Flat code runs as its program does.
use Rattle.std.specs.Prelude.{◌≡◌, ℕ, ℤ, List}
use Rattle.ax_prog.specs.declared.Program.{Program}
use Rattle.ax_meaning.specs.Acts.{Setting}
use Rattle.ax_meaning.specs.Runs.{outcome_of}
use Rattle.ax_flow.specs.declared.Op.{Op}
use Rattle.ax_flow.specs.Flat.{IsFlat}
use Rattle.ax_flow.specs.Machine.{Move, Final, final_of, Comes, start}
use Rattle.ax_flow.specs.Drafts.{flat_code, flat_starts}

-- from `main` the flat code comes to what the program's outcome is, however slots take their values
abbrev pub FlatRuns : Type 0
FlatRuns =
    (r : Setting) (code : List Op) (starts : List ℕ) (inputs : List ℤ) → IsFlat r.program code starts →
    Comes r code starts (final_of (outcome_of r inputs)) (start r starts inputs)

-- code comes to one thing only
abbrev pub ComesToOne : Type 0
ComesToOne =
    (r : Setting) (code : List Op) (starts : List ℕ) (a b : Final) (m : Move) → Comes r code starts a m → Comes r code starts b m → a ≡ b

-- the code that each program is given is its flat code
abbrev pub HasFlatCode : Type 0
HasFlatCode = (p : Program) → IsFlat p (flat_code p) (flat_starts p)
