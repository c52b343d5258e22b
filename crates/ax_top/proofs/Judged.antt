-- From a judged text to its judged file.
use Rattle.std.proofs.Common.{◌≡◌, ◌≤◌, ℕ, List, length, Some, None, subst, arith}
use Rattle.std.specs.Prelude.{Err}
use Rattle.ax_outside.specs.Seen.{NoLess, OnKept, Rose, Same, Seen, Told}
use Rattle.ax_prog.specs.declared.Program.{Program}
use Rattle.ax_prog.specs.declared.Suite.{Suite}
use Rattle.ax_top.specs.declared.files.File.{File}
use Rattle.ax_top.specs.declared.files.File.TheVariants as file
use Rattle.ax_top.specs.declared.files.Stop.{Stop}
use Rattle.ax_top.specs.declared.files.Stop.TheVariants as stop
use Rattle.ax_top.specs.Files.{FileRead, IsLong, WasRead, limit_of}
use Rattle.ax_top.specs.Judging.{FilesAreFine, HasFault, IsSource, IsTests, SourceJudged, StopsAtSource}

-- a fact of the bytes that were read is one of the file's
on_kept : (told : Told) (bytes : List ℕ) (P : List ℕ → Type 0) → WasRead told file.Source bytes → P bytes
    → OnKept told (λ source. (length source ≤ limit_of file.Source) × P source)
on_kept None bytes P read fact = tt
on_kept (Some None) bytes P read fact = read
on_kept (Some (Some source)) bytes P read fact = (read.short, subst P read.same fact)

by_stop : (old new : Seen) (name bytes : List ℕ) (why : Stop) → WasRead (old.kept name) file.Source bytes
    → SourceJudged bytes (Err why) → StopsAtSource old new name why
by_stop old new name bytes stop.Memory read judged = tt
by_stop old new name bytes stop.NoRanker read judged = absurd judged
by_stop old new name bytes (stop.ReadFailed which) read judged = absurd judged
by_stop old new name bytes (stop.TooLong which) read judged = absurd judged
by_stop old new name bytes (stop.Source fault) read judged = (judged.0, on_kept _ _ (λ source. HasFault source fault) read judged.1)
by_stop old new name bytes (stop.Suite fault) read judged = absurd judged
by_stop old new name bytes (stop.NoCandidate picked count) read judged = absurd judged
by_stop old new name bytes stop.NotBuilt read judged = absurd judged

-- the bytes were lent as a text that is theirs
pub stops_at_source : (old new : Seen) (name text bytes : List ℕ) (why : Stop) → text ≡ bytes → WasRead (old.kept name) file.Source bytes
    → SourceJudged text (Err why) → StopsAtSource old new name why
stops_at_source old new name text bytes why same read judged =
    by_stop old new name bytes why read (subst (λ ts. SourceJudged ts (Err why)) same judged)

-- what a read said of a file after reads that changed nothing
pub read_after : (old mid new : Seen) (name : List ℕ) (at : File) (why : Stop) → Same old mid → NoLess old mid
    → FileRead mid new name at (Err why) → FileRead old new name at (Err why)
read_after old mid new name at stop.Memory same less h = tt
read_after old mid new name at (stop.TooLong which) same less h = (h.0, subst (λ told. IsLong told at) (same.kept name) h.1)
read_after old mid new name at (stop.ReadFailed which) same less h =
    let before : old.reads name ≤ mid.reads name = less.reads name in
    let rose : Rose (mid.reads name) (new.reads name) = h.1 in
    (h.0, omega arith)
read_after old mid new name at stop.NoRanker same less h = absurd h
read_after old mid new name at (stop.Source fault) same less h = absurd h
read_after old mid new name at (stop.Suite fault) same less h = absurd h
read_after old mid new name at (stop.NoCandidate picked count) same less h = absurd h
read_after old mid new name at stop.NotBuilt same less h = absurd h

-- files of the same names
pub fine_under : (old : Seen) (source tests source_is tests_is bytes : List ℕ) (program : Program) (suite : Suite) → source ≡ source_is
    → tests ≡ tests_is → FilesAreFine old source tests bytes program suite → FilesAreFine old source_is tests_is bytes program suite
fine_under old source tests source_is tests_is bytes program suite a b fine = record {
  spelled = subst (λ (name : List ℕ). IsSource (old.kept name) bytes program) a fine.spelled;
  tested = subst (λ (name : List ℕ). IsTests (old.kept name) suite) b fine.tested;
}
