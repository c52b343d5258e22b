-- What stops an order that is asked: want of memory, or a read that failed.
use Rattle.std.proofs.Common.{◌≡◌, ◌∙◌, ◌<◌, ◌-◌, ℕ, Bool, true, false, List, [], ◌∷◌, Some, None, ap, refl, sym, subst, string_bytes, arith}
use Rattle.std.specs.Prelude.{Option, Err, if◌then◌else◌, nat_lt, option_and_then, option_map}
use Rattle.std.proofs.lemmas.Option.{none-some, slice_get_within}
use Rattle.ax_prog.specs.declared.Program.{Program}
use Rattle.ax_prog.specs.declared.Sets.{Sets}
use Rattle.ax_prog.specs.declared.SlotId.{SlotId}
use Rattle.ax_prog.specs.declared.Suite.{Suite}
use Rattle.ax_prog.specs.declared.Test.{Test}
use Rattle.ax_prog.specs.Candidates.{candidates_of}
use Rattle.ax_outside.specs.Seen.{Seen}
use Rattle.ax_rank_coverage.specs.Handed.{Handed, ranker_at, ranker_named}
use Rattle.ax_rank_coverage.specs.Orders.{OneCandidateOrder}
use Rattle.ax_words.specs.Laws.{SameChoice, SameRepair}
use Rattle.ax_words.specs.declared.order.Choice.{Choice}
use Rattle.ax_words.specs.declared.order.Choice.TheVariants.{Pick, Top}
use Rattle.ax_words.specs.declared.order.RepairOrder.{RepairOrder}
use Rattle.ax_top.specs.declared.files.Stop.{Stop}
use Rattle.ax_top.specs.declared.files.Stop.TheVariants as stop
use Rattle.ax_top.specs.Built.{are_comparisons, candidate_at, chosen_of, only, small_slot}
use Rattle.ax_top.specs.Choices.{IsChoice}
use Rattle.ax_top.specs.Complete.{IsAsked, IsCutOff, wants_memory}
use Rattle.ax_top.specs.Judging.{StopsAtFiles}
use Rattle.ax_top.specs.Orders.{LacksRanker, PicksJudged, RepairRefused, at_files, at_picks, at_ranker, candidate_count, first_beyond, numbers_of}
use Rattle.ax_top.specs.Repairs.{RepairStops, memory, refused, unbuilt}
use Rattle.ax_top.specs.Reports.{stop_status}
use Rattle.ax_top.proofs.Asked.{chosen-there, same-program, same-tests}
use Rattle.ax_top.proofs.Filed.{by-files as stopped-at-files}

-- ---- picked numbers

same-picks : (a b : Choice) → SameChoice a b → numbers_of a ≡ numbers_of b
same-picks (Top count formula) (Top number name) h = refl
same-picks (Top count formula) (Pick others) h = absurd h
same-picks (Pick numbers) (Top number name) h = absurd h
same-picks (Pick numbers) (Pick others) h = h

has-candidate : (program : Program) (found : Option SlotId) (chosen : List SlotId)
    → option_map (λ (id : SlotId). id ∷ []) (option_and_then (small_slot program) found) ≡ Some chosen → (id : SlotId) × (found ≡ Some id)
has-candidate program None chosen h = absurd (none-some chosen h)
has-candidate program (Some id) chosen h = (id, refl)

-- one number is picked, that of a candidate
abbrev PicksOne : Program → List ℕ → Type 0
PicksOne program numbers = (n : ℕ) × (numbers ≡ n ∷ []) × (id : SlotId) × (candidate_at program n ≡ Some id)

by-sets : (program : Program) (b : Bool) (numbers : List ℕ) (chosen : List SlotId)
    → option_map (λ (id : SlotId). id ∷ []) (if b then option_and_then (λ number. option_and_then (small_slot program) (candidate_at program number)) (only numbers) else None) ≡ Some chosen
    → PicksOne program numbers
by-sets program false numbers chosen h = absurd (none-some chosen h)
by-sets program true [] chosen h = absurd (none-some chosen h)
by-sets program true (n ∷ m ∷ ns) chosen h = absurd (none-some chosen h)
by-sets program true (n ∷ []) chosen h =
    let found = has-candidate program (candidate_at program n) chosen h in
    (n, refl, found.0, found.1)

picks-one : (program : Program) (sets : Sets) (numbers : List ℕ) (chosen : List SlotId) → chosen_of program sets numbers ≡ Some chosen → PicksOne program numbers
picks-one program sets numbers chosen h = by-sets program (are_comparisons sets) numbers chosen h

not-beyond : (count n : ℕ) → n - 1 < count → nat_lt count n ≡ false
not-beyond count n h = grind arith

none-beyond : (program : Program) (numbers : List ℕ) → PicksOne program numbers → first_beyond (candidate_count program) numbers ≡ None
none-beyond program numbers one =
    let within : one.0 - 1 < candidate_count program = slice_get_within (candidates_of program) (one.0 - 1) one.2 one.3 in
    rw (one.1, not-beyond (candidate_count program) one.0 within) refl

-- none of the picked numbers, where some are picked
none-picked : (rankers : List Handed) (program : Program) (tests : List Test) (steps : ℕ) (choice : Choice) (numbers : List ℕ)
    → IsChoice rankers program tests steps choice numbers → PicksOne program numbers → first_beyond (candidate_count program) (numbers_of choice) ≡ None
none-picked rankers program tests steps (Top count formula) numbers is one = refl
none-picked rankers program tests steps (Pick picked) numbers is one = rw (sym is) (none-beyond program numbers one)

has-ranker : (rankers : List Handed) (program : Program) (tests : List Test) (steps : ℕ) (a b : Choice) (numbers : List ℕ) → SameChoice a b
    → IsChoice rankers program tests steps b numbers → LacksRanker rankers a → ⊥
has-ranker rankers program tests steps (Pick picked) b numbers same is lacks = lacks
has-ranker rankers program tests steps (Top count formula) (Pick picked) numbers same is lacks = same
has-ranker rankers program tests steps (Top count formula) (Top number name) numbers same is lacks =
    let gone : ranker_at rankers (string_bytes name) ≡ None = ap (λ (n : List ℕ). ranker_at rankers n) (sym same.1) ∙ lacks in
    let none : ranker_named rankers (string_bytes name) ≡ None = rw gone refl in
    none-some is.0 (sym none ∙ is.1)

-- ---- stops

module _ (law : OneCandidateOrder) (old new : Seen) (rankers : List Handed) (words : List (List ℕ)) (o : RepairOrder) (program : Program) (suite : Suite) (chosen : List SlotId)
    (asked : IsAsked old rankers words o program suite chosen) (it : RepairOrder) (same : SameRepair it o) where
  abbrev CutOff : Stop → Type 0
  CutOff why = IsCutOff old new o (stop_status why)

  by-files : (why : Stop) → StopsAtFiles old new (string_bytes it.source) (string_bytes it.tests) why → CutOff why
  by-files why h =
      let there = subst (λ (name : List ℕ). StopsAtFiles old new name (string_bytes it.tests) why) same.source h in
      stopped-at-files old (string_bytes o.source) (string_bytes o.tests) program suite asked.files new why
      (subst (λ (name : List ℕ). StopsAtFiles old new (string_bytes o.source) name why) same.tests there)

  picks-here : PicksOne program asked.numbers
  picks-here = picks-one program o.sets asked.numbers chosen asked.is_chosen.built

  none-here : first_beyond (candidate_count program) (numbers_of o.choice) ≡ None
  none-here = none-picked rankers program suite.tests o.bounds.steps o.choice asked.numbers asked.is_chosen.choice picks-here

  by-picks : (why : Stop) → PicksJudged (numbers_of o.choice) program (Err why) → CutOff why
  by-picks stop.Memory h = wants_memory refl
  by-picks (stop.NoCandidate picked count) h =
      absurd (none-some picked (sym none-here ∙ sym (ap (λ (n : ℕ). first_beyond n (numbers_of o.choice)) h.0) ∙ h.1))
  by-picks stop.NoRanker h = absurd h
  by-picks (stop.ReadFailed which) h = absurd h
  by-picks (stop.TooLong which) h = absurd h
  by-picks (stop.Source fault) h = absurd h
  by-picks (stop.Suite fault) h = absurd h
  by-picks stop.NotBuilt h = absurd h

  moved-picks : (p : Program) (numbers : List ℕ) (why : Stop) → p ≡ program → numbers ≡ numbers_of o.choice
      → PicksJudged numbers p (Err why) → PicksJudged (numbers_of o.choice) program (Err why)
  moved-picks p numbers why e n h =
      subst (λ (ns : List ℕ). PicksJudged ns program (Err why)) n (subst (λ (x : Program). PicksJudged numbers x (Err why)) e h)

  by-refusal : (why : Stop) → RepairRefused old new rankers it why → CutOff why
  by-refusal why (at_ranker lacks e) =
      absurd (has-ranker rankers program suite.tests o.bounds.steps it.choice o.choice asked.numbers same.choice asked.is_chosen.choice lacks)
  by-refusal why (at_files has h) = by-files why h
  by-refusal why (at_picks has bytes p s fine h) =
      by-picks why (moved-picks p (numbers_of it.choice) why (same-program law old rankers words o program suite chosen asked it same bytes p fine.spelled)
      (same-picks it.choice o.choice same.choice) h)

  pub cut-off : (why : Stop) → RepairStops old new rankers it why → CutOff why
  cut-off why (refused h) = by-refusal why h
  cut-off why (unbuilt bytes p s fine un e) =
      let program-is = same-program law old rankers words o program suite chosen asked it same bytes p fine.files.spelled in
      let tests-are = same-tests law old rankers words o program suite chosen asked it same s fine.files.tested in
      let there = chosen-there law old rankers words o program suite chosen asked it same p s.tests un.numbers program-is tests-are un.choice in
      absurd (none-some chosen (sym un.none ∙ there))
  cut-off why (memory e) = wants_memory (ap stop_status e)
