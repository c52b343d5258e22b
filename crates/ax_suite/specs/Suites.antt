-- A suite as a JSON text: an array of at most 256 tests.
use Rattle.std.specs.Prelude.{◌≡◌, ◌≤◌, ◌<◌, ℕ, zero, suc, List, [], ◌∷◌, Option, None, Some, Result, Ok, Err, IsUtf8}
use Rattle.serde_json.specs.Data.{Data, Items, no_items, item}
use Rattle.serde_json.specs.Events.{items_len}
use Rattle.serde_json.specs.Find.{as_array}
use Rattle.serde_json.specs.Read.{read}
use Rattle.ax_prog.specs.declared.Suite.{Suite}
use Rattle.ax_prog.specs.declared.Test.{Test}
use Rattle.ax_suite.specs.Tests.{HasFault, IsTest}
use Rattle.ax_suite.specs.declared.test.Kind.{Kind}
use Rattle.ax_suite.specs.declared.test.Kind.TheVariants as kind
use Rattle.ax_suite.specs.declared.test.TestFault.{TestFault}
use Rattle.ax_suite.specs.declared.test.TestFault.TheVariants as test
use Rattle.ax_suite.specs.declared.suite.Stop.{Stop}
use Rattle.ax_suite.specs.declared.suite.Stop.TheVariants as stop
use Rattle.ax_suite.specs.declared.SuiteFault.{SuiteFault}
use Rattle.ax_suite.specs.declared.SuiteFault.TheVariants.{BadShape, Memory, NotJson, OutOfInt, TooMany}

-- the bytes are UTF-8, and the reader gives this value of them
pub record Spells (bytes : List ℕ) (d : Data) : Type 0 where
  pub utf8 : IsUtf8 bytes
  pub value : read bytes ≡ Some d

-- each value is the test at its place
abbrev pub AreTests : Items → List Test → Type 0
AreTests no_items [] = Unit {0}
AreTests (item d ds) (t ∷ ts) = IsTest d t × AreTests ds ts
AreTests _ _ = ⊥

-- the value at that place, from 0, is the first that is no test
abbrev pub FaultsAt : Items → ℕ → Kind → Type 0
FaultsAt no_items place what = ⊥
FaultsAt (item d ds) zero what = HasFault d what
FaultsAt (item d ds) (suc place) what = (t : Test) × IsTest d t × FaultsAt ds place what

-- of the values of an array, or of a value that is none: these are its tests
abbrev pub AreSuite : Option Items → List Test → Type 0
AreSuite None tests = ⊥
AreSuite (Some ds) tests = (items_len ds ≤ 256) × AreTests ds tests

-- this is the first that is wrong: tests are numbered from 1, and 0 stands for the whole
abbrev pub HaveFault : Option Items → ℕ → Kind → Type 0
HaveFault None zero kind.BadShape = Unit {0}
HaveFault None _ _ = ⊥
HaveFault (Some ds) zero kind.TooMany = 256 < items_len ds
HaveFault (Some ds) zero _ = ⊥
HaveFault (Some ds) (suc place) what = (items_len ds ≤ 256) × FaultsAt ds place what

-- a text of a suite
abbrev pub IsSuite : List ℕ → List Test → Type 0
IsSuite bytes tests = (d : Data) × Spells bytes d × AreSuite (as_array d) tests

-- a text of JSON that is no suite
abbrev pub IsFaulty : List ℕ → ℕ → Kind → Type 0
IsFaulty bytes number what = (d : Data) × Spells bytes d × HaveFault (as_array d) number what

-- the suite that the bytes spell, or the first that is wrong with them
abbrev pub Reads : List ℕ → Result Suite SuiteFault → Type 0
Reads bytes (Ok suite) = IsSuite bytes suite.tests
Reads bytes (Err NotJson) = (d : Data) → ¬ Spells bytes d
Reads bytes (Err (BadShape number)) = IsFaulty bytes number kind.BadShape
Reads bytes (Err (TooMany number)) = IsFaulty bytes number kind.TooMany
Reads bytes (Err (OutOfInt number)) = IsFaulty bytes number kind.OutOfInt
Reads bytes (Err Memory) = Unit {0}

-- a test's fault, as that of the suite
abbrev pub stop_at : TestFault → ℕ → Stop
stop_at (test.Fault what) number = stop.At number what
stop_at test.Memory number = stop.Memory

-- the tests that the values are, or the first that is none, numbered from 1
abbrev pub ReadsTests : Items → Result (List Test) Stop → Type 0
ReadsTests ds (Ok tests) = AreTests ds tests
ReadsTests ds (Err (stop.At number what)) = (place : ℕ) × (number ≡ suc place) × FaultsAt ds place what
ReadsTests ds (Err stop.Memory) = Unit {0}

abbrev pub ReadsArray : Option Items → Result Suite Stop → Type 0
ReadsArray ds (Ok suite) = AreSuite ds suite.tests
ReadsArray ds (Err (stop.At number what)) = HaveFault ds number what
ReadsArray ds (Err stop.Memory) = Unit {0}
