-- What an order to repair comes to.
use Rattle.std.specs.Prelude.{◌≡◌, ◌++◌, ℕ, if◌then◌else◌, List, [], ◌∷◌, None, Some, Result, Ok, Err, codes}
use Rattle.std.specs.Fmt.{decimal}
use Rattle.ax_prog.specs.declared.Expr.{Expr}
use Rattle.ax_prog.specs.declared.Program.{Program}
use Rattle.ax_prog.specs.declared.SlotId.{SlotId}
use Rattle.ax_prog.specs.declared.Suite.{Suite}
use Rattle.ax_prog.specs.declared.Test.{Test}
use Rattle.ax_print.specs.Text.{text_of}
use Rattle.ax_space.specs.declared.Patch.{Patch}
use Rattle.ax_least.specs.Least.{IsLeastRepair, NoRepair}
use Rattle.ax_repair.specs.Written.{is_changed, written}
use Rattle.ax_repair_laws.specs.Reading.{PassesBack}
use Rattle.ax_rank_coverage.specs.Handed.{Handed}
use Rattle.ax_outside.specs.Seen.{Seen}
use Rattle.ax_words.specs.declared.order.RepairOrder.{RepairOrder}
use Rattle.ax_top.specs.declared.answer.Answer.{Answer}
use Rattle.ax_top.specs.declared.answer.Answer.TheVariants as answer
use Rattle.ax_top.specs.declared.files.Stop.{Stop}
use Rattle.ax_top.specs.declared.files.Stop.TheVariants.{Memory, NotBuilt}
use Rattle.ax_top.specs.Built.{chosen_of, space_for}
use Rattle.ax_top.specs.Choices.{IsChosen, IsUnbuilt}
use Rattle.ax_top.specs.Orders.{RepairIsFine, RepairRefused}

-- ---- reports

abbrev pub no_repair_report : List ℕ
no_repair_report = codes "no repair\n"

abbrev pub cost_line : ℕ → List ℕ
cost_line cost = codes "repaired, cost " ++ (decimal cost ++ codes "\n")

abbrev pub expression_line : ℕ → List ℕ → List ℕ
expression_line number text = codes "expression " ++ (decimal number ++ (codes ": " ++ (text ++ codes "\n")))

-- the line of an expression: none where its tree stays
abbrev pub change_line : List ℕ → Program → ℕ → SlotId → Expr → List ℕ
change_line source program number id tree =
    if is_changed program (id, tree) then expression_line number (text_of source program id tree) else []

-- the lines of the changed expressions, by their numbers
abbrev pub change_lines : List ℕ → Program → List ℕ → List SlotId → List Expr → List ℕ
change_lines source program [] ids trees = []
change_lines source program (number ∷ numbers) [] trees = []
change_lines source program (number ∷ numbers) (id ∷ ids) [] = []
change_lines source program (number ∷ numbers) (id ∷ ids) (tree ∷ trees) =
    change_line source program number id tree ++ change_lines source program numbers ids trees

-- the cost, and the text of each changed expression
abbrev pub repaired_report : List ℕ → Program → List ℕ → List SlotId → List Expr → ℕ → List ℕ
repaired_report source program numbers ids trees cost = cost_line cost ++ change_lines source program numbers ids trees

-- ---- answers

-- a least repair of the program, the source with its text, which reads back as a program that passes every test and at
-- cost 0 is the source itself, and its report
pub record IsMended (o : RepairOrder) (source : List ℕ) (program : Program) (tests : List Test) (numbers : List ℕ) (chosen : List SlotId) (text report : List ℕ) : Type 0 where
  pub patch : Patch
  pub cost : ℕ
  pub least : IsLeastRepair program tests o.bounds (space_for program o chosen) patch cost
  pub is_text : text ≡ written source program chosen patch.trees
  pub back : PassesBack source program tests o.bounds chosen patch
  pub unchanged : cost ≡ 0 → text ≡ source
  pub is_report : report ≡ repaired_report source program numbers chosen patch.trees cost

abbrev pub IsAnswer : RepairOrder → List ℕ → Program → List Test → List ℕ → List SlotId → Answer → Type 0
IsAnswer o source program tests numbers chosen (answer.Repaired text report) = IsMended o source program tests numbers chosen text report
IsAnswer o source program tests numbers chosen answer.NoRepair = NoRepair program tests o.bounds (space_for program o chosen)
IsAnswer o source program tests numbers chosen (answer.Reported told) = ⊥

-- what the search says that takes these numbers as chosen: an answer, or that the order isn't built
abbrev pub Answered : RepairOrder → List ℕ → Program → List Test → List ℕ → Result Answer Stop → Type 0
Answered o source program tests numbers (Ok answer) =
    (chosen : List SlotId) × (chosen_of program o.sets numbers ≡ Some chosen) × IsAnswer o source program tests numbers chosen answer
Answered o source program tests numbers (Err Memory) = Unit {0}
Answered o source program tests numbers (Err NotBuilt) = chosen_of program o.sets numbers ≡ None
Answered o source program tests numbers (Err other) = ⊥

-- what the search in a source says: an answer for the chosen expressions, or that the order isn't built
abbrev pub Searched : List Handed → RepairOrder → List ℕ → Program → List Test → Result Answer Stop → Type 0
Searched rankers o source program tests (Ok answer) =
    (numbers : List ℕ) × (chosen : List SlotId) × IsChosen rankers o program tests numbers chosen × IsAnswer o source program tests numbers chosen answer
Searched rankers o source program tests (Err Memory) = Unit {0}
Searched rankers o source program tests (Err NotBuilt) = IsUnbuilt rankers o program tests
Searched rankers o source program tests (Err other) = ⊥

-- nothing is wrong with the order, it is built, and chooses these expressions of the program of this source
pub record IsSought (old : Seen) (rankers : List Handed) (o : RepairOrder) (source : List ℕ) (program : Program) (suite : Suite) (numbers : List ℕ) (chosen : List SlotId) : Type 0 where
  pub fine : RepairIsFine old rankers o source program suite
  pub is_chosen : IsChosen rankers o program suite.tests numbers chosen

-- the answer to an order, which is sought
pub record Answers (old : Seen) (rankers : List Handed) (o : RepairOrder) (answer : Answer) : Type 0 where
  pub source : List ℕ
  pub program : Program
  pub suite : Suite
  pub numbers : List ℕ
  pub chosen : List SlotId
  pub sought : IsSought old rankers o source program suite numbers chosen
  pub answered : IsAnswer o source program suite.tests numbers chosen answer

-- `repair` is stopped: it is refused; or it isn't built; or memory is wanting
pub data RepairStops (old new : Seen) (rankers : List Handed) (o : RepairOrder) (why : Stop) : Type 0 where
  refused : RepairRefused old new rankers o why → RepairStops old new rankers o why
  unbuilt : (source : List ℕ) (program : Program) (suite : Suite) → RepairIsFine old rankers o source program suite
      → IsUnbuilt rankers o program suite.tests → why ≡ NotBuilt → RepairStops old new rankers o why
  memory : why ≡ Memory → RepairStops old new rankers o why

abbrev pub RepairEnds : Seen → Seen → List Handed → RepairOrder → Result Answer Stop → Type 0
RepairEnds old new rankers o (Ok answer) = Answers old rankers o answer
RepairEnds old new rankers o (Err why) = RepairStops old new rankers o why
