-- What is wrong with the source and the tests of an order.
use Rattle.std.specs.Prelude.{◌≢◌, ◌≤◌, ℕ, List, length, Result, Ok, Err}
use Rattle.ax_prog.specs.declared.Program.{Program}
use Rattle.ax_prog.specs.declared.Suite.{Suite}
use Rattle.ax_front.specs.Texts.{FaultIs, IsProgramOfText, KeepsLimits, RefusesRightly}
use Rattle.ax_front.specs.declared.SourceFault.{SourceFault}
use Rattle.ax_front.specs.declared.SourceFault.TheVariants as front
use Rattle.ax_suite.specs.Suites.{IsSuite, Reads}
use Rattle.ax_suite.specs.declared.SuiteFault.TheVariants as suite_fault
use Rattle.ax_outside.specs.Seen.{OnKept, Rose, Seen, Told}
use Rattle.ax_top.specs.declared.files.File.TheVariants as file
use Rattle.ax_top.specs.declared.files.Stop.{Stop}
use Rattle.ax_top.specs.declared.files.Stop.TheVariants as stop
use Rattle.ax_top.specs.declared.judging.Judged.{Judged}
use Rattle.ax_top.specs.declared.judging.Source.{Source}
use Rattle.ax_top.specs.Files.{IsLong, WasRead, limit_of}

-- ---- texts

-- the source has this fault, and no program within the limits
pub record HasFault (source : List ℕ) (fault : SourceFault) : Type 0 where
  pub cause : FaultIs source fault
  pub none : RefusesRightly source fault

-- a fault that refuses a source: want of memory doesn't
abbrev pub Refuses : SourceFault → Type 0
Refuses front.Memory = ⊥
Refuses other = Unit {0}

abbrev pub SourceJudged : List ℕ → Result Program Stop → Type 0
SourceJudged source (Ok program) = IsProgramOfText source program × KeepsLimits source
SourceJudged source (Err stop.Memory) = Unit {0}
SourceJudged source (Err (stop.Source fault)) = Refuses fault × HasFault source fault
SourceJudged source (Err other) = ⊥

abbrev pub SuiteJudged : List ℕ → Result Suite Stop → Type 0
SuiteJudged tests (Ok suite) = IsSuite tests suite.tests
SuiteJudged tests (Err stop.Memory) = Unit {0}
SuiteJudged tests (Err (stop.Suite fault)) = (fault ≢ suite_fault.Memory) × Reads tests (Err fault)
SuiteJudged tests (Err other) = ⊥

-- ---- files, where the shelf tells them

-- these bytes were read of the source, and they spell this program within the limits
pub record IsSource (told : Told) (bytes : List ℕ) (program : Program) : Type 0 where
  pub read : WasRead told file.Source bytes
  pub meant : IsProgramOfText bytes program
  pub limits : KeepsLimits bytes

abbrev pub SourceIsFine : Told → Type 0
SourceIsFine told = (bytes : List ℕ) × (program : Program) × IsSource told bytes program

-- the tests are this suite
abbrev pub IsTests : Told → Suite → Type 0
IsTests told suite = OnKept told (λ tests. (length tests ≤ limit_of file.Tests) × IsSuite tests suite.tests)

-- what stops an order at its source
abbrev pub StopsAtSource : Seen → Seen → List ℕ → Stop → Type 0
StopsAtSource old new name stop.Memory = Unit {0}
StopsAtSource old new name (stop.ReadFailed file.Source) = Rose (old.reads name) (new.reads name)
StopsAtSource old new name (stop.TooLong file.Source) = IsLong (old.kept name) file.Source
StopsAtSource old new name (stop.Source fault) = Refuses fault × OnKept (old.kept name) (λ source. (length source ≤ limit_of file.Source) × HasFault source fault)
StopsAtSource old new name other = ⊥

-- what stops it at its tests
abbrev pub StopsAtTests : Seen → Seen → List ℕ → Stop → Type 0
StopsAtTests old new name stop.Memory = Unit {0}
StopsAtTests old new name (stop.ReadFailed file.Tests) = Rose (old.reads name) (new.reads name)
StopsAtTests old new name (stop.TooLong file.Tests) = IsLong (old.kept name) file.Tests
StopsAtTests old new name (stop.Suite fault) =
    (fault ≢ suite_fault.Memory) × OnKept (old.kept name) (λ tests. (length tests ≤ limit_of file.Tests) × Reads tests (Err fault))
StopsAtTests old new name other = ⊥

abbrev pub SourceFileJudged : Seen → Seen → List ℕ → Result Source Stop → Type 0
SourceFileJudged old new name (Ok source) = IsSource (old.kept name) source.bytes.items source.program
SourceFileJudged old new name (Err why) = StopsAtSource old new name why

abbrev pub TestsFileJudged : Seen → Seen → List ℕ → Result Suite Stop → Type 0
TestsFileJudged old new name (Ok suite) = IsTests (old.kept name) suite
TestsFileJudged old new name (Err why) = StopsAtTests old new name why

-- what stops an order at its two files: the source is judged before the tests are read
pub data StopsAtFiles (old new : Seen) (source tests : List ℕ) (why : Stop) : Type 0 where
  at_source : StopsAtSource old new source why → StopsAtFiles old new source tests why
  at_tests : SourceIsFine (old.kept source) → StopsAtTests old new tests why → StopsAtFiles old new source tests why

-- nothing is wrong with the two files
pub record FilesAreFine (old : Seen) (source tests bytes : List ℕ) (program : Program) (suite : Suite) : Type 0 where
  pub spelled : IsSource (old.kept source) bytes program
  pub tested : IsTests (old.kept tests) suite

abbrev pub FilesJudged : Seen → Seen → List ℕ → List ℕ → Result Judged Stop → Type 0
FilesJudged old new source tests (Ok judged) = FilesAreFine old source tests judged.source.bytes.items judged.source.program judged.suite
FilesJudged old new source tests (Err why) = StopsAtFiles old new source tests why
