-- What stops an order, command by command: each row stands behind those before it.
use Rattle.std.specs.Prelude.{◌≡◌, nat_lt, ℕ, List, [], length, Option, None, Some, IsSome, Result, Ok, Err, string_bytes}
use Rattle.std.specs.List.{find}
use Rattle.ax_prog.specs.declared.Program.{Program}
use Rattle.ax_prog.specs.declared.Suite.{Suite}
use Rattle.ax_prog.specs.Candidates.{candidates_of}
use Rattle.ax_rank_coverage.specs.Handed.{Handed, ranker_at}
use Rattle.ax_outside.specs.Seen.{Seen}
use Rattle.ax_words.specs.declared.order.Choice.{Choice}
use Rattle.ax_words.specs.declared.order.Choice.TheVariants.{Pick, Top}
use Rattle.ax_words.specs.declared.order.RepairOrder.{RepairOrder}
use Rattle.ax_top.specs.declared.files.File.TheVariants.{Cert}
use Rattle.ax_top.specs.declared.files.Stop.{Stop}
use Rattle.ax_top.specs.declared.files.Stop.TheVariants.{Memory, NoCandidate, NoRanker, NotBuilt}
use Rattle.ax_top.specs.declared.judging.Judged.{Judged}
use Rattle.ax_top.specs.Files.{FileRead, WasRead}
use Rattle.ax_top.specs.Judging.{FilesAreFine, StopsAtFiles}

-- ---- rankers, by their names

abbrev pub RankerJudged : List Handed → List ℕ → Result ℕ Stop → Type 0
RankerJudged rankers name (Ok place) = ranker_at rankers name ≡ Some place
RankerJudged rankers name (Err NoRanker) = ranker_at rankers name ≡ None
RankerJudged rankers name (Err other) = ⊥

-- a choice by a formula needs its ranker
abbrev pub HasRanker : List Handed → Choice → Type 0
HasRanker rankers (Top count formula) = IsSome (ranker_at rankers (string_bytes formula))
HasRanker rankers (Pick numbers) = Unit {0}

abbrev pub LacksRanker : List Handed → Choice → Type 0
LacksRanker rankers (Top count formula) = ranker_at rankers (string_bytes formula) ≡ None
LacksRanker rankers (Pick numbers) = ⊥

abbrev pub ChoiceJudged : List Handed → Choice → Result (Unit {0}) Stop → Type 0
ChoiceJudged rankers choice (Ok done) = HasRanker rankers choice
ChoiceJudged rankers choice (Err NoRanker) = LacksRanker rankers choice
ChoiceJudged rankers choice (Err other) = ⊥

-- ---- picked numbers

abbrev pub numbers_of : Choice → List ℕ
numbers_of (Top count formula) = []
numbers_of (Pick numbers) = numbers

-- how many candidates the program has
abbrev pub candidate_count : Program → ℕ
candidate_count program = length (candidates_of program)

-- the first of the numbers that is greater than that
abbrev pub first_beyond : ℕ → List ℕ → Option ℕ
first_beyond count numbers = find (λ n. nat_lt count n) numbers

abbrev pub PicksJudged : List ℕ → Program → Result (Unit {0}) Stop → Type 0
PicksJudged numbers program (Ok done) = first_beyond (candidate_count program) numbers ≡ None
PicksJudged numbers program (Err Memory) = Unit {0}
PicksJudged numbers program (Err (NoCandidate picked count)) = (count ≡ candidate_count program) × (first_beyond count numbers ≡ Some picked)
PicksJudged numbers program (Err other) = ⊥

-- ---- commands

-- `run`: its files; or memory is wanting
pub data RunStops (old new : Seen) (source tests : List ℕ) (why : Stop) : Type 0 where
  at_files : StopsAtFiles old new source tests why → RunStops old new source tests why
  memory : why ≡ Memory → RunStops old new source tests why

-- `rank`: the ranker; then as `run`
pub data RankStops (old new : Seen) (rankers : List Handed) (source tests formula : List ℕ) (why : Stop) : Type 0 where
  at_ranker : ranker_at rankers formula ≡ None → why ≡ NoRanker → RankStops old new rankers source tests formula why
  behind : IsSome (ranker_at rankers formula) → RunStops old new source tests why → RankStops old new rankers source tests formula why

-- `check`: its files; its certificate; and what that says isn't read yet
pub data CheckStops (old new : Seen) (source tests cert : List ℕ) (why : Stop) : Type 0 where
  at_files : StopsAtFiles old new source tests why → CheckStops old new source tests cert why
  at_cert : (bytes : List ℕ) (program : Program) (suite : Suite) → FilesAreFine old source tests bytes program suite
      → FileRead old new cert Cert (Err why) → CheckStops old new source tests cert why
  unbuilt : (bytes : List ℕ) (program : Program) (suite : Suite) → FilesAreFine old source tests bytes program suite
      → (text : List ℕ) → WasRead (old.kept cert) Cert text → why ≡ NotBuilt → CheckStops old new source tests cert why

-- nothing is wrong with the order to repair: it has its ranker, its files are fine, and the picked numbers are candidates
pub record RepairIsFine (old : Seen) (rankers : List Handed) (o : RepairOrder) (bytes : List ℕ) (program : Program) (suite : Suite) : Type 0 where
  pub ranker : HasRanker rankers o.choice
  pub files : FilesAreFine old (string_bytes o.source) (string_bytes o.tests) bytes program suite
  pub picks : first_beyond (candidate_count program) (numbers_of o.choice) ≡ None

-- what refuses it: the ranker; the files; the picked numbers
pub data RepairRefused (old new : Seen) (rankers : List Handed) (o : RepairOrder) (why : Stop) : Type 0 where
  at_ranker : LacksRanker rankers o.choice → why ≡ NoRanker → RepairRefused old new rankers o why
  at_files : HasRanker rankers o.choice → StopsAtFiles old new (string_bytes o.source) (string_bytes o.tests) why → RepairRefused old new rankers o why
  at_picks : HasRanker rankers o.choice → (bytes : List ℕ) (program : Program) (suite : Suite)
      → FilesAreFine old (string_bytes o.source) (string_bytes o.tests) bytes program suite
      → PicksJudged (numbers_of o.choice) program (Err why) → RepairRefused old new rankers o why

abbrev pub RepairJudged : Seen → Seen → List Handed → RepairOrder → Result Judged Stop → Type 0
RepairJudged old new rankers o (Ok judged) = RepairIsFine old rankers o judged.source.bytes.items judged.source.program judged.suite
RepairJudged old new rankers o (Err why) = RepairRefused old new rankers o why
