-- The other direction of the headline: how an order to repair that is built ends, and how orders to run and to rank do.
use Rattle.std.specs.Prelude.{◌≡◌, ◌≤◌, ◌⊎◌, ℕ, List, length, Some, IsSome, Ok, String, string_bytes}
use Rattle.std.specs.Global.{Global}
use Rattle.std.specs.List.{All}
use Rattle.ax_prog.specs.declared.Program.{Program}
use Rattle.ax_prog.specs.declared.SlotId.{SlotId}
use Rattle.ax_prog.specs.declared.Suite.{Suite}
use Rattle.ax_space.specs.declared.Patch.{Patch}
use Rattle.ax_least.specs.Least.{IsRepair, NoRepair}
use Rattle.ax_meaning.specs.Runs.{Passes}
use Rattle.ax_front.specs.Texts.{IsProgramOfText, KeepsLimits}
use Rattle.ax_suite.specs.Suites.{IsSuite}
use Rattle.ax_rank_coverage.specs.Handed.{Handed, ranker_at}
use Rattle.ax_outside.specs.Seen.{Rose, Seen}
use Rattle.ax_words.specs.declared.order.Order.TheVariants.{Rank, Repair, Run}
use Rattle.ax_words.specs.declared.order.RepairOrder.{RepairOrder}
use Rattle.ax_words.specs.Words.{Says}
use Rattle.ax_top.specs.declared.files.File.TheVariants as file
use Rattle.ax_top.specs.Built.{space_for}
use Rattle.ax_top.specs.Choices.{IsChosen}
use Rattle.ax_top.specs.Files.{limit_of}

-- The shelf tells two files: within the limits the first spells this program, and the second this suite.
pub record AreTold (old : Seen) (source tests : List ℕ) (program : Program) (suite : Suite) : Type 0 where
  pub bytes : List ℕ
  pub rows : List ℕ
  pub source_told : old.kept source ≡ Some (Some bytes)
  pub source_short : length bytes ≤ limit_of file.Source
  pub spelled : IsProgramOfText bytes program
  pub limits : KeepsLimits bytes
  pub tests_told : old.kept tests ≡ Some (Some rows)
  pub tests_short : length rows ≤ limit_of file.Tests
  pub tested : IsSuite rows suite.tests

-- memory was wanting, or a read of the source or of the tests failed
pub data IsCutShort (old new : Seen) (source tests : List ℕ) (status : ℕ) : Type 0 where
  wants_memory : status ≡ 10 → IsCutShort old new source tests status
  fails_to_read : status ≡ 6 → Rose (old.reads source) (new.reads source) ⊎ Rose (old.reads tests) (new.reads tests)
      → IsCutShort old new source tests status

-- ---- orders to repair

-- The words are this order to repair, and its two files are this program and this suite. The order is built, and chooses
-- these expressions, by these rankers where it picks none.
pub record IsAsked (old : Seen) (rankers : List Handed) (words : List (List ℕ)) (order : RepairOrder) (program : Program) (suite : Suite) (chosen : List SlotId) : Type 0 where
  pub says : Says words (Ok (Repair order))
  pub files : AreTold old (string_bytes order.source) (string_bytes order.tests) program suite
  pub numbers : List ℕ
  pub is_chosen : IsChosen rankers order program suite.tests numbers chosen

abbrev pub IsCutOff : Seen → Seen → RepairOrder → ℕ → Type 0
IsCutOff old new order status = IsCutShort old new (string_bytes order.source) (string_bytes order.tests) status

-- a repair was written, or it couldn't be put or reported, or the order was cut off
pub data EndsRepaired (old new : Seen) (order : RepairOrder) (status : ℕ) : Type 0 where
  repaired : status ≡ 0 → EndsRepaired old new order status
  fails_to_give : status ≡ 7
      → Rose (old.puts (string_bytes order.out)) (new.puts (string_bytes order.out)) ⊎ Rose old.prints new.prints
      → EndsRepaired old new order status
  cut_off : IsCutOff old new order status → EndsRepaired old new order status

-- there is no repair, or that couldn't be reported, or the order was cut off
pub data EndsUnrepaired (old new : Seen) (order : RepairOrder) (status : ℕ) : Type 0 where
  unrepaired : status ≡ 1 → EndsUnrepaired old new order status
  fails_to_print : status ≡ 7 → Rose old.prints new.prints → EndsUnrepaired old new order status
  cut_off : IsCutOff old new order status → EndsUnrepaired old new order status

-- Where some patch of the space is a repair, the status is 0, 6, 7 or 10; where none is, it is 1, 6, 7 or 10. So 1 comes
-- exactly where no patch is a repair, when none of 6, 7 and 10 comes.
pub record Complete (old new : Seen) (rankers : List Handed) (words : List (List ℕ)) (status : ℕ) : Type 0 where
  pub some : (order : RepairOrder) (program : Program) (suite : Suite) (chosen : List SlotId) (patch : Patch)
      → IsAsked old rankers words order program suite chosen
      → IsRepair program suite.tests order.bounds (space_for program order chosen) patch → EndsRepaired old new order status
  pub none : (order : RepairOrder) (program : Program) (suite : Suite) (chosen : List SlotId)
      → IsAsked old rankers words order program suite chosen
      → NoRepair program suite.tests order.bounds (space_for program order chosen) → EndsUnrepaired old new order status

-- ---- orders to run and to rank

-- the report was printed, and the status is its own; or it couldn't be printed, or the order was cut off
pub data EndsReported (old new : Seen) (source tests : List ℕ) (own status : ℕ) : Type 0 where
  reported : status ≡ own → EndsReported old new source tests own status
  fails_to_print : status ≡ 7 → Rose old.prints new.prints → EndsReported old new source tests own status
  cut_off : IsCutShort old new source tests status → EndsReported old new source tests own status

-- Of an order to run, where the program passes every test, the status is 0, 6, 7 or 10; where it doesn't, it is 1, 6, 7 or 10.
-- Of an order to rank, by a ranker that was handed in, it is 0, 6, 7 or 10.
pub record CompleteReports (old new : Seen) (rankers : List Handed) (words : List (List ℕ)) (status : ℕ) : Type 0 where
  pub passes : (source tests : String Global) (steps : ℕ) (program : Program) (suite : Suite) → Says words (Ok (Run source tests steps))
      → AreTold old (string_bytes source) (string_bytes tests) program suite → All (Passes program steps) suite.tests
      → EndsReported old new (string_bytes source) (string_bytes tests) 0 status
  pub fails : (source tests : String Global) (steps : ℕ) (program : Program) (suite : Suite) → Says words (Ok (Run source tests steps))
      → AreTold old (string_bytes source) (string_bytes tests) program suite → (All (Passes program steps) suite.tests → ⊥)
      → EndsReported old new (string_bytes source) (string_bytes tests) 1 status
  pub ranks : (source tests formula : String Global) (steps : ℕ) (program : Program) (suite : Suite) → Says words (Ok (Rank source tests formula steps))
      → IsSome (ranker_at rankers (string_bytes formula)) → AreTold old (string_bytes source) (string_bytes tests) program suite
      → EndsReported old new (string_bytes source) (string_bytes tests) 0 status
