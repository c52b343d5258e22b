-- Runs of programs that are the same, spans aside.
use Rattle.std.specs.Prelude.{◌≡◌, ℕ, ℤ, List}
use Rattle.ax_prog.specs.declared.Program.{Program}
use Rattle.ax_prog.specs.Same.{SameProgram}
use Rattle.ax_meaning.specs.Runs.{run_of}

-- programs that are the same, spans aside, have the same runs
abbrev pub SameRuns : Type 0
SameRuns = (a b : Program) → SameProgram a b → (inputs : List ℤ) (steps : ℕ) → run_of a inputs steps ≡ run_of b inputs steps
