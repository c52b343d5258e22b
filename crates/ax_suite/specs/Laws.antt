-- A text says one thing.
use Rattle.std.specs.Prelude.{◌≡◌, ℕ, List, Err}
use Rattle.ax_prog.specs.declared.Test.{Test}
use Rattle.ax_suite.specs.Suites.{IsSuite, Reads}
use Rattle.ax_suite.specs.declared.SuiteFault.{SuiteFault}
use Rattle.ax_suite.specs.declared.SuiteFault.TheVariants.{Memory}

-- a text spells at most one suite
abbrev pub OneSuite : Type 0
OneSuite = (bytes : List ℕ) (a b : List Test) → IsSuite bytes a → IsSuite bytes b → a ≡ b

-- a text that spells a suite is refused for want of memory alone
abbrev pub SuitesHaveNoFault : Type 0
SuitesHaveNoFault = (bytes : List ℕ) (tests : List Test) (fault : SuiteFault) → IsSuite bytes tests → Reads bytes (Err fault) → fault ≡ Memory
