-- Which expressions an order to repair chooses.
use Rattle.std.specs.Prelude.{◌≡◌, ℕ, List, None, Some, string_bytes}
use Rattle.ax_prog.specs.declared.Program.{Program}
use Rattle.ax_prog.specs.declared.SlotId.{SlotId}
use Rattle.ax_prog.specs.declared.Test.{Test}
use Rattle.ax_rank_coverage.specs.Handed.{Handed, ranker_named}
use Rattle.ax_rank_coverage.specs.Orders.{Chooses}
use Rattle.ax_words.specs.declared.order.Choice.{Choice}
use Rattle.ax_words.specs.declared.order.Choice.TheVariants.{Pick, Top}
use Rattle.ax_words.specs.declared.order.RepairOrder.{RepairOrder}
use Rattle.ax_top.specs.Built.{chosen_of}

-- The chosen numbers: those that are picked; or those of the first candidates in the order of suspicion, by the first ranker
-- of the name, which counts the runs that it had seen when it was handed in and, behind them, the run of each test.
abbrev pub IsChoice : List Handed → Program → List Test → ℕ → Choice → List ℕ → Type 0
IsChoice rankers program tests steps (Pick picked) numbers = numbers ≡ picked
IsChoice rankers program tests steps (Top count formula) numbers =
    (ranker : Handed) × (ranker_named rankers (string_bytes formula) ≡ Some ranker)
    × Chooses ranker.formula ranker.runs program steps tests count numbers

abbrev pub ChoosesNumbers : List Handed → RepairOrder → Program → List Test → List ℕ → Type 0
ChoosesNumbers rankers o program tests numbers = IsChoice rankers program tests o.bounds.steps o.choice numbers

-- the order is built, and chooses these expressions, which have these numbers
pub record IsChosen (rankers : List Handed) (o : RepairOrder) (program : Program) (tests : List Test) (numbers : List ℕ) (chosen : List SlotId) : Type 0 where
  pub choice : ChoosesNumbers rankers o program tests numbers
  pub built : chosen_of program o.sets numbers ≡ Some chosen

-- the order isn't built for what it chooses
pub record IsUnbuilt (rankers : List Handed) (o : RepairOrder) (program : Program) (tests : List Test) : Type 0 where
  pub numbers : List ℕ
  pub choice : ChoosesNumbers rankers o program tests numbers
  pub none : chosen_of program o.sets numbers ≡ None
