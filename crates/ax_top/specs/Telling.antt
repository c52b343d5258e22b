-- Orders of which only a report comes: to run and to rank.
use Rattle.std.specs.Prelude.{◌≡◌, ℕ, List, Some, Result, Ok, Err, string_bytes}
use Rattle.ax_prog.specs.declared.Program.{Program}
use Rattle.ax_prog.specs.declared.Suite.{Suite}
use Rattle.ax_interp_report.specs.Outcomes.{IsOutcome}
use Rattle.ax_rank_coverage.specs.Handed.{Handed, ranker_named}
use Rattle.ax_rank_coverage.specs.Orders.{IsRanked}
use Rattle.ax_outside.specs.Seen.{Seen}
use Rattle.ax_words.specs.declared.order.Order.{Order}
use Rattle.ax_words.specs.declared.order.Order.TheVariants.{Rank, Run}
use Rattle.ax_top.specs.declared.files.Stop.{Stop}
use Rattle.ax_top.specs.declared.files.Stop.TheVariants.{Memory}
use Rattle.ax_top.specs.declared.telling.Told.{Told}
use Rattle.ax_top.specs.Judging.{FilesAreFine}
use Rattle.ax_top.specs.Orders.{RankStops, RunStops}

-- The report of `run`, and its own status: a line for the run of each test of the suite, and how many pass; 0 where all do.
pub record RunTells (old : Seen) (source tests : List ℕ) (steps : ℕ) (report : List ℕ) (own : ℕ) : Type 0 where
  pub bytes : List ℕ
  pub program : Program
  pub suite : Suite
  pub fine : FilesAreFine old source tests bytes program suite
  pub outcome : IsOutcome program suite.tests steps report own

-- The report of `rank`: the candidates in the order of suspicion, by the first ranker of that name. Its own status is 0.
pub record RankTells (old : Seen) (rankers : List Handed) (source tests formula : List ℕ) (steps : ℕ) (report : List ℕ) (own : ℕ) : Type 0 where
  pub bytes : List ℕ
  pub program : Program
  pub suite : Suite
  pub ranker : Handed
  pub first : ranker_named rankers formula ≡ Some ranker
  pub fine : FilesAreFine old source tests bytes program suite
  pub ranked : IsRanked ranker.formula ranker.runs program steps suite.tests report
  pub done : own ≡ 0

-- what an order comes to of which only a report comes
abbrev pub Tells : Seen → List Handed → Order → List ℕ → ℕ → Type 0
Tells old rankers (Run source tests steps) report own = RunTells old (string_bytes source) (string_bytes tests) steps report own
Tells old rankers (Rank source tests formula steps) report own =
    RankTells old rankers (string_bytes source) (string_bytes tests) (string_bytes formula) steps report own
Tells old rankers other report own = ⊥

abbrev pub OnlyReports : Order → Type 0
OnlyReports (Run source tests steps) = Unit {0}
OnlyReports (Rank source tests formula steps) = Unit {0}
OnlyReports other = ⊥

-- ---- calls

-- the report on a program's runs, where memory isn't wanting
abbrev pub RunTold : Program → Suite → ℕ → Result Told Stop → Type 0
RunTold program suite steps (Ok told) = IsOutcome program suite.tests steps told.report told.status
RunTold program suite steps (Err Memory) = Unit {0}
RunTold program suite steps (Err other) = ⊥

abbrev pub RankTold : Handed → Program → Suite → ℕ → Result Told Stop → Type 0
RankTold ranker program suite steps (Ok told) = IsRanked ranker.formula ranker.runs program steps suite.tests told.report × (told.status ≡ 0)
RankTold ranker program suite steps (Err Memory) = Unit {0}
RankTold ranker program suite steps (Err other) = ⊥

abbrev pub RunEnds : Seen → Seen → List ℕ → List ℕ → ℕ → Result Told Stop → Type 0
RunEnds old new source tests steps (Ok told) = RunTells old source tests steps told.report told.status
RunEnds old new source tests steps (Err why) = RunStops old new source tests why

abbrev pub RankEnds : Seen → Seen → List Handed → List ℕ → List ℕ → List ℕ → ℕ → Result Told Stop → Type 0
RankEnds old new rankers source tests formula steps (Ok told) = RankTells old rankers source tests formula steps told.report told.status
RankEnds old new rankers source tests formula steps (Err why) = RankStops old new rankers source tests formula why
