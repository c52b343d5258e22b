-- How orders to run and to rank end, from what the program does.
use Rattle.std.proofs.Common.{◌≡◌, ◌∙◌, ℕ, List, Option, None, Some, false, true, inl, inr, sym, subst, string_bytes, arith}
use Rattle.std.proofs.lemmas.Option.{none-some}
use Rattle.std.specs.Prelude.{IsSome, Ok, String}
use Rattle.std.specs.Global.{Global}
use Rattle.std.specs.List.{All}
use Rattle.ax_prog.specs.declared.Program.{Program}
use Rattle.ax_prog.specs.declared.Suite.{Suite}
use Rattle.ax_prog.specs.declared.Test.{Test}
use Rattle.ax_meaning.specs.Runs.{Passes}
use Rattle.ax_interp_report.specs.Outcomes.{IsStatus}
use Rattle.ax_rank_coverage.specs.Handed.{Handed, ranker_at}
use Rattle.ax_outside.specs.Seen.{NoLess, Seen}
use Rattle.ax_words.specs.declared.order.Order.{Order}
use Rattle.ax_words.specs.declared.order.Order.TheVariants.{Check, Gen, Prove, Rank, Repair, Run}
use Rattle.ax_words.specs.Laws.{SameOrder}
use Rattle.ax_words.specs.Words.{Says}
use Rattle.ax_words.proofs.Single.{one_order, orders_have_no_fault}
use Rattle.ax_top.specs.declared.files.Stop.{Stop}
use Rattle.ax_top.specs.Causes.{Does, answered, memory, proves, refused, stopped, told}
use Rattle.ax_top.specs.Complete.{AreTold, CompleteReports, EndsReported, IsCutShort, cut_off, fails_to_print, reported, wants_memory}
use Rattle.ax_top.specs.Delivery.{Reports}
use Rattle.ax_top.specs.Ends.{Stops}
use Rattle.ax_top.specs.Judging.{IsSource, IsTests}
use Rattle.ax_top.specs.Orders.{RunStops, at_ranker, behind}
use Rattle.ax_top.specs.Reports.{stop_status}
use Rattle.ax_top.specs.Telling.{Tells}
use Rattle.ax_top.proofs.Filed.{by-run, cut-short-later, one-program, one-tests}

moved-status : (p q : Program) (n m : ℕ) (ts us : List Test) (own : ℕ) → p ≡ q → n ≡ m → ts ≡ us → IsStatus p n ts own → IsStatus q m us own
moved-status p q n m ts us own ep en et h =
    let one = subst (λ (x : Program). IsStatus x n ts own) ep h in
    let two = subst (λ (x : ℕ). IsStatus q x ts own) en one in
    subst (λ (x : List Test). IsStatus q m x own) et two

module _ (old new : Seen) (rankers : List Handed) (words : List (List ℕ)) (status : ℕ) (source tests : List ℕ) (program : Program) (suite : Suite)
    (files : AreTold old source tests program suite) where
  by-print : (report : List ℕ) (own wanted : ℕ) → own ≡ wanted → Reports old new report own status → EndsReported old new source tests wanted status
  by-print report own wanted e gives = elim gives.ended [ inl done ↦ reported (done.0 ∙ e) | inr failed ↦ fails_to_print failed.0 failed.2 ]

  by-stop : (s t : List ℕ) (why : Stop) (mid : Seen) → s ≡ source → t ≡ tests → RunStops old mid s t why → NoLess mid new → status ≡ stop_status why
      → IsCutShort old new source tests status
  by-stop s t why mid es et stops less e =
      let one = subst (λ (x : List ℕ). RunStops old mid x t why) es stops in
      let two = subst (λ (x : List ℕ). RunStops old mid source x why) et one in
      let short = cut-short-later old mid new source tests (stop_status why) less (by-run old source tests program suite files mid why two) in
      subst (λ (k : ℕ). IsCutShort old new source tests k) (sym e) short

  there-program : (s bytes : List ℕ) (p : Program) → s ≡ source → IsSource (old.kept s) bytes p → p ≡ program
  there-program s bytes p e is = one-program old source tests program suite files bytes p (subst (λ (x : List ℕ). IsSource (old.kept x) bytes p) e is)

  there-tests : (t : List ℕ) (s : Suite) → t ≡ tests → IsTests (old.kept t) s → s.tests ≡ suite.tests
  there-tests t s e is = one-tests old source tests program suite files s (subst (λ (x : List ℕ). IsTests (old.kept x) s) e is)

-- ---- to run

module _ (old new : Seen) (rankers : List Handed) (words : List (List ℕ)) (status : ℕ) (source tests : String Global) (steps : ℕ) (program : Program) (suite : Suite)
    (said : Says words (Ok (Run source tests steps))) (files : AreTold old (string_bytes source) (string_bytes tests) program suite) where
  abbrev RunEnded : ℕ → Type 0
  RunEnded wanted = EndsReported old new (string_bytes source) (string_bytes tests) wanted status

  run-stopped : (order : Order) (why : Stop) (mid : Seen) → SameOrder order (Run source tests steps) → Stops old mid rankers order why → NoLess mid new
      → status ≡ stop_status why → IsCutShort old new (string_bytes source) (string_bytes tests) status
  run-stopped (Run s t n) why mid same stops less e =
      by-stop old new rankers words status (string_bytes source) (string_bytes tests) program suite files (string_bytes s) (string_bytes t) why mid same.0 same.1 stops less e
  run-stopped (Repair o) why mid same stops less e = absurd same
  run-stopped (Check a b c d) why mid same stops less e = absurd same
  run-stopped (Rank a b c n) why mid same stops less e = absurd same
  run-stopped (Gen n) why mid same stops less e = absurd same
  run-stopped (Prove a b n) why mid same stops less e = absurd same

  run-told : (order : Order) (report : List ℕ) (own : ℕ) → SameOrder order (Run source tests steps) → Tells old rankers order report own
      → IsStatus program steps suite.tests own
  run-told (Run s t n) report own same tells =
      moved-status tells.program program n steps tells.suite.tests suite.tests own
      (there-program old new rankers words status (string_bytes source) (string_bytes tests) program suite files (string_bytes s) tells.bytes tells.program same.0 tells.fine.spelled)
      same.2
      (there-tests old new rankers words status (string_bytes source) (string_bytes tests) program suite files (string_bytes t) tells.suite same.1 tells.fine.tested)
      tells.outcome.is_status
  run-told (Repair o) report own same tells = absurd same
  run-told (Check a b c d) report own same tells = absurd same
  run-told (Rank a b c n) report own same tells = absurd same
  run-told (Gen n) report own same tells = absurd same
  run-told (Prove a b n) report own same tells = absurd same

  run-ended : (wanted : ℕ) → ((own : ℕ) → IsStatus program steps suite.tests own → own ≡ wanted) → Does old new rankers words status → RunEnded wanted
  run-ended wanted is (memory e same less) = cut_off (wants_memory e)
  run-ended wanted is (refused fault m says e f) = absurd (m (orders_have_no_fault words (Run source tests steps) fault said says))
  run-ended wanted is (stopped order why mid says stops same less e f) =
      cut_off (run-stopped order why mid (one_order words order (Run source tests steps) says said) stops f.counts e)
  run-ended wanted is (answered it a says answers gives) = absurd (one_order words (Repair it) (Run source tests steps) says said)
  run-ended wanted is (told order report own says tells gives) =
      let own-is = is own (run-told order report own (one_order words order (Run source tests steps) says said) tells) in
      by-print old new rankers words status (string_bytes source) (string_bytes tests) program suite files report own wanted own-is gives
  run-ended wanted is (proves cnf proof budget says d) = absurd (one_order words (Prove cnf proof budget) (Run source tests steps) says said)

all-pass : (program : Program) (steps : ℕ) (tests : List Test) → All (Passes program steps) tests → (own : ℕ) → IsStatus program steps tests own → own ≡ 0
all-pass program steps tests all own (inl done) = done.0
all-pass program steps tests all own (inr failed) = absurd (failed.1 all)

some-fail : (program : Program) (steps : ℕ) (tests : List Test) → (All (Passes program steps) tests → ⊥) → (own : ℕ) → IsStatus program steps tests own → own ≡ 1
some-fail program steps tests none own (inl done) = absurd (none done.1)
some-fail program steps tests none own (inr failed) = failed.0

-- ---- to rank

none-is-not : (o : Option ℕ) → o ≡ None → IsSome o → ⊥
none-is-not None e some = let h : false ≡ true = some in absurd (grind arith)
none-is-not (Some n) e some = absurd (none-some n (sym e))

no-ranker : (rankers : List Handed) (a b : List ℕ) → a ≡ b → ranker_at rankers a ≡ None → IsSome (ranker_at rankers b) → ⊥
no-ranker rankers a b e none some = none-is-not (ranker_at rankers b) (subst (λ (x : List ℕ). ranker_at rankers x ≡ None) e none) some

module _ (old new : Seen) (rankers : List Handed) (words : List (List ℕ)) (status : ℕ) (source tests formula : String Global) (steps : ℕ) (program : Program) (suite : Suite)
    (said : Says words (Ok (Rank source tests formula steps))) (handed : IsSome (ranker_at rankers (string_bytes formula)))
    (files : AreTold old (string_bytes source) (string_bytes tests) program suite) where
  rank-stopped : (order : Order) (why : Stop) (mid : Seen) → SameOrder order (Rank source tests formula steps) → Stops old mid rankers order why → NoLess mid new
      → status ≡ stop_status why → IsCutShort old new (string_bytes source) (string_bytes tests) status
  rank-stopped (Rank s t f n) why mid same (at_ranker none e) less is = absurd (no-ranker rankers (string_bytes f) (string_bytes formula) same.2 none handed)
  rank-stopped (Rank s t f n) why mid same (behind some stops) less e =
      by-stop old new rankers words status (string_bytes source) (string_bytes tests) program suite files (string_bytes s) (string_bytes t) why mid same.0 same.1 stops less e
  rank-stopped (Repair o) why mid same stops less e = absurd same
  rank-stopped (Check a b c d) why mid same stops less e = absurd same
  rank-stopped (Run a b n) why mid same stops less e = absurd same
  rank-stopped (Gen n) why mid same stops less e = absurd same
  rank-stopped (Prove a b n) why mid same stops less e = absurd same

  rank-told : (order : Order) (report : List ℕ) (own : ℕ) → SameOrder order (Rank source tests formula steps) → Tells old rankers order report own → own ≡ 0
  rank-told (Rank s t f n) report own same tells = tells.done
  rank-told (Repair o) report own same tells = absurd same
  rank-told (Check a b c d) report own same tells = absurd same
  rank-told (Run a b n) report own same tells = absurd same
  rank-told (Gen n) report own same tells = absurd same
  rank-told (Prove a b n) report own same tells = absurd same

  rank-ended : Does old new rankers words status → EndsReported old new (string_bytes source) (string_bytes tests) 0 status
  rank-ended (memory e same less) = cut_off (wants_memory e)
  rank-ended (refused fault m says e f) = absurd (m (orders_have_no_fault words (Rank source tests formula steps) fault said says))
  rank-ended (stopped order why mid says stops same less e f) =
      cut_off (rank-stopped order why mid (one_order words order (Rank source tests formula steps) says said) stops f.counts e)
  rank-ended (answered it a says answers gives) = absurd (one_order words (Repair it) (Rank source tests formula steps) says said)
  rank-ended (told order report own says tells gives) =
      by-print old new rankers words status (string_bytes source) (string_bytes tests) program suite files report own 0
      (rank-told order report own (one_order words order (Rank source tests formula steps) says said) tells) gives
  rank-ended (proves cnf proof budget says d) = absurd (one_order words (Prove cnf proof budget) (Rank source tests formula steps) says said)

pub reports-complete : (old new : Seen) (rankers : List Handed) (words : List (List ℕ)) (status : ℕ) → Does old new rankers words status
    → CompleteReports old new rankers words status
reports-complete old new rankers words status does = record {
  passes = λ source tests steps program suite said files all. run-ended old new rankers words status source tests steps program suite said files 0 (all-pass program steps suite.tests all) does;
  fails = λ source tests steps program suite said files none. run-ended old new rankers words status source tests steps program suite said files 1 (some-fail program steps suite.tests none) does;
  ranks = λ source tests formula steps program suite said handed files. rank-ended old new rankers words status source tests formula steps program suite said handed files does;
}
