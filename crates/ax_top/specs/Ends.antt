-- How an order ends: with an answer, or with what stops it.
use Rattle.std.specs.Prelude.{◌≡◌, ◌≤◌, List, Result, Ok, Err, string_bytes}
use Rattle.ax_rank_coverage.specs.Handed.{Handed}
use Rattle.ax_outside.specs.Seen.{Seen}
use Rattle.ax_words.specs.declared.order.Order.{Order}
use Rattle.ax_words.specs.declared.order.Order.TheVariants.{Check, Gen, Prove, Rank, Repair, Run}
use Rattle.ax_top.specs.declared.answer.Answer.{Answer}
use Rattle.ax_top.specs.declared.answer.Answer.TheVariants as answer
use Rattle.ax_top.specs.declared.files.Stop.{Stop}
use Rattle.ax_top.specs.declared.files.Stop.TheVariants.{NotBuilt}
use Rattle.ax_top.specs.declared.telling.Told.{Told}
use Rattle.ax_top.specs.Orders.{CheckStops, RankStops, RunStops}
use Rattle.ax_top.specs.Repairs.{Answers, RepairStops}
use Rattle.ax_top.specs.Telling.{Tells}

abbrev pub Stops : Seen → Seen → List Handed → Order → Stop → Type 0
Stops old new rankers (Repair o) why = RepairStops old new rankers o why
Stops old new rankers (Check source tests patched cert) why = CheckStops old new (string_bytes source) (string_bytes tests) (string_bytes cert) why
Stops old new rankers (Run source tests steps) why = RunStops old new (string_bytes source) (string_bytes tests) why
Stops old new rankers (Rank source tests formula steps) why =
    RankStops old new rankers (string_bytes source) (string_bytes tests) (string_bytes formula) why
Stops old new rankers (Gen n) why = why ≡ NotBuilt
Stops old new rankers (Prove cnf proof budget) why = ⊥

-- an order to repair has an answer; of orders to run and to rank only a report comes; no other one comes to anything yet
abbrev pub Ends : Seen → Seen → List Handed → Order → Result Answer Stop → Type 0
Ends old new rankers order (Err why) = Stops old new rankers order why
Ends old new rankers (Repair o) (Ok answer) = Answers old rankers o answer
Ends old new rankers other (Ok (answer.Reported told)) = Tells old rankers other told.report told.status
Ends old new rankers other (Ok answer) = ⊥

-- the answer of which only a report comes
abbrev pub told_answer : Result Told Stop → Result Answer Stop
told_answer (Ok told) = Ok (answer.Reported told)
told_answer (Err why) = Err why

-- an order to prove has ends of its own
abbrev pub IsOther : Order → Type 0
IsOther (Prove cnf proof budget) = ⊥
IsOther other = Unit {0}

-- the growth that the search takes
abbrev pub GrowsLittle : Order → Type 0
GrowsLittle (Repair o) = o.bounds.grow ≤ 20
GrowsLittle other = Unit {0}
