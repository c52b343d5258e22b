-- How an order that is asked ends, from what the program does.
use Rattle.std.proofs.Common.{◌≡◌, ℕ, List, inl, inr, sym, subst, string_bytes}
use Rattle.std.specs.Prelude.{◌⊎◌, Ok}
use Rattle.ax_prog.specs.declared.Program.{Program}
use Rattle.ax_prog.specs.declared.SlotId.{SlotId}
use Rattle.ax_prog.specs.declared.Suite.{Suite}
use Rattle.ax_space.specs.declared.Patch.{Patch}
use Rattle.ax_least.specs.Least.{IsRepair, NoRepair}
use Rattle.ax_rank_coverage.specs.Handed.{Handed}
use Rattle.ax_rank_coverage.specs.Orders.{OneCandidateOrder}
use Rattle.ax_outside.specs.Seen.{Adds, AddsPart, NoLess, Rose, Seen}
use Rattle.ax_words.specs.declared.order.Order.{Order}
use Rattle.ax_words.specs.declared.order.Order.TheVariants.{Check, Gen, Prove, Rank, Repair, Run}
use Rattle.ax_words.specs.declared.order.RepairOrder.{RepairOrder}
use Rattle.ax_words.specs.Laws.{SameRepair}
use Rattle.ax_words.specs.Words.{Says}
use Rattle.ax_words.proofs.Single.{one_order, orders_have_no_fault}
use Rattle.ax_top.specs.declared.answer.Answer.{Answer}
use Rattle.ax_top.specs.declared.answer.Answer.TheVariants as answer
use Rattle.ax_top.specs.declared.files.Stop.{Stop}
use Rattle.ax_top.specs.Built.{space_for}
use Rattle.ax_top.specs.Causes.{Does, answered, memory, proves, refused, stopped, told}
use Rattle.ax_top.specs.Complete.{Complete, EndsRepaired, EndsUnrepaired, IsAsked, IsCutOff, cut_off, fails_to_give, fails_to_print, repaired, unrepaired, wants_memory}
use Rattle.ax_top.specs.Delivery.{Delivery, Gives, print_failed, put_failed, whole}
use Rattle.ax_top.specs.Ends.{Stops}
use Rattle.ax_top.specs.Repairs.{Answers, no_repair_report}
use Rattle.ax_top.specs.Reports.{stop_status}
use Rattle.ax_top.proofs.Asked.{SameTask, repair-back, repair-there, same-order, same-task}
use Rattle.ax_top.proofs.Told.{no-repair}
use Rattle.ax_top.proofs.Filed.{cut-short-later}
use Rattle.ax_top.proofs.Unstopped.{cut-off}

module _ (law : OneCandidateOrder) (old new : Seen) (rankers : List Handed) (words : List (List ℕ)) (status : ℕ) (o : RepairOrder) (program : Program) (suite : Suite) (chosen : List SlotId)
    (asked : IsAsked old rankers words o program suite chosen) where
  by-stop : (order : Order) (why : Stop) (mid : Seen) → Says words (Ok order) → Stops old mid rankers order why → NoLess mid new
      → IsCutOff old new o (stop_status why)
  by-stop (Repair it) why mid says stops less =
      cut-short-later old mid new (string_bytes o.source) (string_bytes o.tests) (stop_status why) less
      (cut-off law old mid rankers words o program suite chosen asked it (same-order law old rankers words o program suite chosen asked it says) why stops)
  by-stop (Check source tests patched cert) why mid says stops less = absurd (one_order words (Check source tests patched cert) (Repair o) says asked.says)
  by-stop (Run source tests steps) why mid says stops less = absurd (one_order words (Run source tests steps) (Repair o) says asked.says)
  by-stop (Rank source tests formula steps) why mid says stops less = absurd (one_order words (Rank source tests formula steps) (Repair o) says asked.says)
  by-stop (Gen n) why mid says stops less = absurd (one_order words (Gen n) (Repair o) says asked.says)
  by-stop (Prove cnf proof budget) why mid says stops less = absurd (one_order words (Prove cnf proof budget) (Repair o) says asked.says)

  stopped-off : (order : Order) (why : Stop) (mid : Seen) → Says words (Ok order) → Stops old mid rankers order why → NoLess mid new
      → status ≡ stop_status why → IsCutOff old new o status
  stopped-off order why mid says stops less e = subst (λ (n : ℕ). IsCutOff old new o n) (sym e) (by-stop order why mid says stops less)

  module _ (it : RepairOrder) (says : Says words (Ok (Repair it))) where
    alike : SameRepair it o
    alike = same-order law old rankers words o program suite chosen asked it says

    task : (a : Answer) (answers : Answers old rankers it a) → SameTask answers.program answers.suite.tests it answers.chosen program suite.tests o chosen
    task a answers = same-task law old rankers words o program suite chosen asked it alike answers.source answers.program answers.suite answers.numbers answers.chosen answers.sought

    -- ---- some patch is a repair

    by-delivery : (text report : List ℕ) → Delivery old new (string_bytes it.out) text report 0 status → EndsRepaired old new o status
    by-delivery text report (whole e holds adds) = repaired e
    by-delivery text report (put_failed e holds stays rose) =
        fails_to_give e (inl (subst (λ (name : List ℕ). Rose (old.puts name) (new.puts name)) alike.out rose))
    by-delivery text report (print_failed e holds adds rose) = fails_to_give e (inr rose)

    answered-some : (a : Answer) (patch : Patch) → IsRepair program suite.tests o.bounds (space_for program o chosen) patch
        → Answers old rankers it a → Gives old new (string_bytes it.out) a status → EndsRepaired old new o status
    answered-some (answer.Repaired text report) patch is answers gives = by-delivery text report gives.ended
    answered-some answer.NoRepair patch is answers gives =
        absurd (answers.answered patch
        (repair-back answers.program program answers.suite.tests suite.tests it o answers.chosen chosen (task answer.NoRepair answers) patch is))
    answered-some (answer.Reported it) patch is answers gives = absurd answers.answered

    -- ---- no patch is

    by-report : ((status ≡ 1) × Adds old.printed no_repair_report new.printed) ⊎ ((status ≡ 7) × AddsPart old.printed no_repair_report new.printed × Rose old.prints new.prints)
        → EndsUnrepaired old new o status
    by-report (inl done) = unrepaired done.0
    by-report (inr failed) = fails_to_print failed.0 failed.2

    answered-none : (a : Answer) → NoRepair program suite.tests o.bounds (space_for program o chosen)
        → Answers old rankers it a → Gives old new (string_bytes it.out) a status → EndsUnrepaired old new o status
    answered-none (answer.Repaired text report) none answers gives =
        absurd (none answers.answered.patch
        (repair-there answers.program program answers.suite.tests suite.tests it o answers.chosen chosen (task (answer.Repaired text report) answers)
        answers.answered.patch answers.answered.least.repair))
    answered-none answer.NoRepair none answers gives = by-report gives.ended
    answered-none (answer.Reported it) none answers gives = absurd answers.answered

  ends-some : (patch : Patch) → IsRepair program suite.tests o.bounds (space_for program o chosen) patch → Does old new rankers words status → EndsRepaired old new o status
  ends-some patch is (memory e same less) = cut_off (wants_memory e)
  ends-some patch is (refused fault m says e f) = absurd (m (orders_have_no_fault words (Repair o) fault asked.says says))
  ends-some patch is (stopped order why mid says stops same less e f) = cut_off (stopped-off order why mid says stops f.counts e)
  ends-some patch is (answered it a says answers gives) = answered-some it says a patch is answers gives
  ends-some patch is (told order report own says tells gives) = absurd (no-repair old rankers words order report own says o asked.says tells)
  ends-some patch is (proves cnf proof budget says d) = absurd (one_order words (Prove cnf proof budget) (Repair o) says asked.says)

  ends-none : NoRepair program suite.tests o.bounds (space_for program o chosen) → Does old new rankers words status → EndsUnrepaired old new o status
  ends-none none (memory e same less) = cut_off (wants_memory e)
  ends-none none (refused fault m says e f) = absurd (m (orders_have_no_fault words (Repair o) fault asked.says says))
  ends-none none (stopped order why mid says stops same less e f) = cut_off (stopped-off order why mid says stops f.counts e)
  ends-none none (answered it a says answers gives) = answered-none it says a none answers gives
  ends-none none (told order report own says tells gives) = absurd (no-repair old rankers words order report own says o asked.says tells)
  ends-none none (proves cnf proof budget says d) = absurd (one_order words (Prove cnf proof budget) (Repair o) says asked.says)

pub complete : OneCandidateOrder → (old new : Seen) (rankers : List Handed) (words : List (List ℕ)) (status : ℕ) → Does old new rankers words status
    → Complete old new rankers words status
complete law old new rankers words status does = record {
  some = λ o program suite chosen patch asked is. ends-some law old new rankers words status o program suite chosen asked patch is does;
  none = λ o program suite chosen asked none. ends-none law old new rankers words status o program suite chosen asked none does;
}
