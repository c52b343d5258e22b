-- Each status, with its cause. There is no other status.
use Rattle.std.specs.Prelude.{◌≡◌, ◌≢◌, ◌⊎◌, ℕ, List, Ok, Err, String, string_bytes}
use Rattle.std.specs.Global.{Global}
use Rattle.ax_rank_coverage.specs.Handed.{Handed}
use Rattle.ax_outside.specs.Seen.{NoLess, Same, Seen}
use Rattle.ax_words.specs.declared.order.Order.{Order}
use Rattle.ax_words.specs.declared.order.Order.TheVariants.{Prove, Repair}
use Rattle.ax_words.specs.declared.order.RepairOrder.{RepairOrder}
use Rattle.ax_words.specs.declared.order.WordFault.{WordFault}
use Rattle.ax_words.specs.declared.order.WordFault.TheVariants.{Memory}
use Rattle.ax_words.specs.Words.{Says}
use Rattle.ax_top.specs.declared.answer.Answer.{Answer}
use Rattle.ax_top.specs.declared.files.Stop.{Stop}
use Rattle.ax_top.specs.Delivery.{Gives, Reports}
use Rattle.ax_top.specs.Ends.{Stops}
use Rattle.ax_top.specs.Proving.{DoesProve}
use Rattle.ax_top.specs.Repairs.{Answers}
use Rattle.ax_top.specs.Telling.{Tells}
use Rattle.ax_top_texts.specs.Texts.{words_report}
use Rattle.ax_top.specs.Reports.{Finishes, stop_report, stop_status}

-- What the program does, over these rankers: want of memory, after which nothing is printed; or the words are refused,
-- and the report says why; or they are an order, which something stops, and the report says what; or they are an order to
-- repair, and its answer is given; or they are an order to run or to rank, and its report is printed; or they are an order to
-- prove, which is done.
pub data Does (old new : Seen) (rankers : List Handed) (words : List (List ℕ)) (status : ℕ) : Type 0 where
  memory : status ≡ 10 → Same old new → NoLess old new → Does old new rankers words status
  refused : (fault : WordFault) → fault ≢ Memory → Says words (Err fault) → status ≡ 2 → Finishes old new (words_report fault)
      → Does old new rankers words status
  stopped : (order : Order) (why : Stop) (mid : Seen) → Says words (Ok order) → Stops old mid rankers order why → Same old mid → NoLess old mid
      → status ≡ stop_status why → Finishes mid new (stop_report order why) → Does old new rankers words status
  answered : (o : RepairOrder) (answer : Answer) → Says words (Ok (Repair o)) → Answers old rankers o answer
      → Gives old new (string_bytes o.out) answer status → Does old new rankers words status
  told : (order : Order) (report : List ℕ) (own : ℕ) → Says words (Ok order) → Tells old rankers order report own
      → Reports old new report own status → Does old new rankers words status
  proves : (cnf proof : String Global) (budget : ℕ) → Says words (Ok (Prove cnf proof budget))
      → DoesProve old new (string_bytes cnf) (string_bytes proof) budget status → Does old new rankers words status

-- the name isn't that of the OUT, or of the PROOF, of the order
pub record IsNotOut (words : List (List ℕ)) (f : List ℕ) : Type 0 where
  pub out : (o : RepairOrder) → Says words (Ok (Repair o)) → f ≢ string_bytes o.out
  pub proof : (cnf proof : String Global) (budget : ℕ) → Says words (Ok (Prove cnf proof budget)) → f ≢ string_bytes proof

-- no name but that of OUT, or of PROOF, changes, and no count of faults falls
pub record Keeps (old new : Seen) (words : List (List ℕ)) : Type 0 where
  pub kept : (f : List ℕ) → IsNotOut words f → new.kept f ≡ old.kept f
  pub counts : NoLess old new

abbrev pub WantsMemory : Seen → Seen → ℕ → Type 0
WantsMemory old new status = (status ≡ 10) × Same old new × NoLess old new

abbrev pub WordsRefused : Seen → Seen → WordFault → ℕ → Type 0
WordsRefused old new fault status = WantsMemory old new status
    ⊎ ((fault ≢ Memory) × (status ≡ 2) × Finishes old new (words_report fault))

abbrev pub OrderStopped : Seen → Seen → Order → Stop → ℕ → Type 0
OrderStopped old new order why status = WantsMemory old new status ⊎ ((status ≡ stop_status why) × Finishes old new (stop_report order why))
