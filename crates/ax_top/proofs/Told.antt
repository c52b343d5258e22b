-- Orders of which only a report comes.
use Rattle.std.proofs.Common.{◌≡◌, ◌≤◌, ℕ, List, inl, inr, refl, subst, string_bytes, String, Global, arith}
use Rattle.std.specs.Prelude.{Result, Ok, Err, Some}
use Rattle.ax_prog.specs.declared.Program.{Program}
use Rattle.ax_prog.specs.declared.Suite.{Suite}
use Rattle.ax_prog.specs.declared.Test.{Test}
use Rattle.ax_interp_report.specs.Outcomes.{IsStatus}
use Rattle.ax_rank_coverage.specs.Handed.{Handed, ranker_at, ranker_named}
use Rattle.ax_outside.specs.Seen.{Seen}
use Rattle.ax_words.specs.declared.order.Order.{Order}
use Rattle.ax_words.specs.declared.order.Order.TheVariants.{Check, Gen, Prove, Rank, Repair, Run}
use Rattle.ax_words.specs.declared.order.RepairOrder.{RepairOrder}
use Rattle.ax_words.specs.Words.{Says}
use Rattle.ax_words.proofs.Single.{one_order}
use Rattle.ax_top.specs.declared.answer.Answer.{Answer}
use Rattle.ax_top.specs.declared.files.Stop.{Stop}
use Rattle.ax_top.specs.declared.files.Stop.TheVariants as stop
use Rattle.ax_top.specs.declared.telling.Told.{Told}
use Rattle.ax_top.specs.Ends.{Ends, told_answer}
use Rattle.ax_top.specs.Judging.{FilesAreFine}
use Rattle.ax_top.specs.Orders.{RankStops, RunStops, behind, memory}
use Rattle.ax_top.specs.Telling.{OnlyReports, RankEnds, RankTells, RankTold, RunEnds, RunTells, RunTold, Tells}

-- ---- what is told

one-or-none : (program : Program) (steps : ℕ) (tests : List Test) (own : ℕ) → IsStatus program steps tests own → own ≤ 1
one-or-none program steps tests own (inl all) = let e : own ≡ 0 = all.0 in omega arith
one-or-none program steps tests own (inr not) = let e : own ≡ 1 = not.0 in omega arith

module _ (old : Seen) (rankers : List Handed) where
  pub own-small : (order : Order) (report : List ℕ) (own : ℕ) → Tells old rankers order report own → own ≤ 1
  own-small (Run source tests steps) report own h = one-or-none h.program steps (h.suite).tests own h.outcome.is_status
  own-small (Rank source tests formula steps) report own h = let e : own ≡ 0 = h.done in omega arith
  own-small (Repair o) report own h = absurd h
  own-small (Check a b c d) report own h = absurd h
  own-small (Gen n) report own h = absurd h
  own-small (Prove a b n) report own h = absurd h

  pub only-reports : (order : Order) (report : List ℕ) (own : ℕ) → Tells old rankers order report own → OnlyReports order
  only-reports (Run source tests steps) report own h = tt
  only-reports (Rank source tests formula steps) report own h = tt
  only-reports (Repair o) report own h = absurd h
  only-reports (Check a b c d) report own h = absurd h
  only-reports (Gen n) report own h = absurd h
  only-reports (Prove a b n) report own h = absurd h

  -- words say one order
  module _ (words : List (List ℕ)) (order : Order) (report : List ℕ) (own : ℕ) (says : Says words (Ok order)) where
    pub no-repair : (o : RepairOrder) → Says words (Ok (Repair o)) → Tells old rankers order report own → ⊥
    no-repair o said h = apart order says h
      where
        apart : (it : Order) → Says words (Ok it) → Tells old rankers it report own → ⊥
        apart (Run a b n) s t = one_order words (Run a b n) (Repair o) s said
        apart (Rank a b c n) s t = one_order words (Rank a b c n) (Repair o) s said
        apart (Repair a) s t = t
        apart (Check a b c d) s t = t
        apart (Gen n) s t = t
        apart (Prove a b n) s t = t

    pub no-proof : (cnf proof : String Global) (budget : ℕ) → Says words (Ok (Prove cnf proof budget)) → Tells old rankers order report own → ⊥
    no-proof cnf proof budget said h = apart order says h
      where
        apart : (it : Order) → Says words (Ok it) → Tells old rankers it report own → ⊥
        apart (Run a b n) s t = one_order words (Run a b n) (Prove cnf proof budget) s said
        apart (Rank a b c n) s t = one_order words (Rank a b c n) (Prove cnf proof budget) s said
        apart (Repair a) s t = t
        apart (Check a b c d) s t = t
        apart (Gen n) s t = t
        apart (Prove a b n) s t = t

-- ---- ends

module _ (old new : Seen) where
  pub run-from : (source tests bytes : List ℕ) (program : Program) (suite : Suite) (steps : ℕ) (r : Result Told Stop) → FilesAreFine old source tests bytes program suite
      → RunTold program suite steps r → RunEnds old new source tests steps r
  run-from source tests bytes program suite steps (Ok told) fine h = record { bytes = bytes; program = program; suite = suite; fine = fine; outcome = h }
  run-from source tests bytes program suite steps (Err stop.Memory) fine h = memory refl
  run-from source tests bytes program suite steps (Err stop.NoRanker) fine h = absurd h
  run-from source tests bytes program suite steps (Err (stop.ReadFailed file)) fine h = absurd h
  run-from source tests bytes program suite steps (Err (stop.TooLong file)) fine h = absurd h
  run-from source tests bytes program suite steps (Err (stop.Source fault)) fine h = absurd h
  run-from source tests bytes program suite steps (Err (stop.Suite fault)) fine h = absurd h
  run-from source tests bytes program suite steps (Err (stop.NoCandidate picked count)) fine h = absurd h
  run-from source tests bytes program suite steps (Err stop.NotBuilt) fine h = absurd h

  pub run-ends : (rankers : List Handed) (source tests : String Global) (steps : ℕ) (name text : List ℕ) → name ≡ string_bytes source → text ≡ string_bytes tests
      → (r : Result Told Stop) (it : Result Answer Stop) → it ≡ told_answer r → RunEnds old new name text steps r → Ends old new rankers (Run source tests steps) it
  run-ends rankers source tests steps name text a b (Ok told) it e h =
      let one = subst (λ (t : List ℕ). RunTells old t text steps told.report told.status) a h in
      rw e (subst (λ (t : List ℕ). RunTells old (string_bytes source) t steps told.report told.status) b one)
  run-ends rankers source tests steps name text a b (Err why) it e h =
      let one = subst (λ (t : List ℕ). RunStops old new t text why) a h in
      rw e (subst (λ (t : List ℕ). RunStops old new (string_bytes source) t why) b one)

  module _ (rankers : List Handed) where
    pub rank-from : (source tests formula bytes : List ℕ) (program : Program) (suite : Suite) (steps at : ℕ) (ranker : Handed) (r : Result Told Stop)
        → ranker_named rankers formula ≡ Some ranker → FilesAreFine old source tests bytes program suite
        → RankTold ranker program suite steps r → RunStops old new source tests stop.Memory → ranker_at rankers formula ≡ Some at
        → RankEnds old new rankers source tests formula steps r
    rank-from source tests formula bytes program suite steps at ranker (Ok told) first fine h m e =
        record { bytes = bytes; program = program; suite = suite; ranker = ranker; first = first; fine = fine; ranked = h.0; done = h.1 }
    rank-from source tests formula bytes program suite steps at ranker (Err stop.Memory) first fine h m e = behind (rw e refl) m
    rank-from source tests formula bytes program suite steps at ranker (Err stop.NoRanker) first fine h m e = absurd h
    rank-from source tests formula bytes program suite steps at ranker (Err (stop.ReadFailed file)) first fine h m e = absurd h
    rank-from source tests formula bytes program suite steps at ranker (Err (stop.TooLong file)) first fine h m e = absurd h
    rank-from source tests formula bytes program suite steps at ranker (Err (stop.Source fault)) first fine h m e = absurd h
    rank-from source tests formula bytes program suite steps at ranker (Err (stop.Suite fault)) first fine h m e = absurd h
    rank-from source tests formula bytes program suite steps at ranker (Err (stop.NoCandidate picked count)) first fine h m e = absurd h
    rank-from source tests formula bytes program suite steps at ranker (Err stop.NotBuilt) first fine h m e = absurd h

    pub rank-ends : (source tests formula : String Global) (steps : ℕ) (name text title : List ℕ) → name ≡ string_bytes source → text ≡ string_bytes tests → title ≡ string_bytes formula
        → (r : Result Told Stop) (it : Result Answer Stop) → it ≡ told_answer r → RankEnds old new rankers name text title steps r → Ends old new rankers (Rank source tests formula steps) it
    rank-ends source tests formula steps name text title a b d (Ok told) it e h =
        let one = subst (λ (t : List ℕ). RankTells old rankers t text title steps told.report told.status) a h in
        let two = subst (λ (t : List ℕ). RankTells old rankers (string_bytes source) t title steps told.report told.status) b one in
        rw e (subst (λ (t : List ℕ). RankTells old rankers (string_bytes source) (string_bytes tests) t steps told.report told.status) d two)
    rank-ends source tests formula steps name text title a b d (Err why) it e h =
        let one = subst (λ (t : List ℕ). RankStops old new rankers t text title why) a h in
        let two = subst (λ (t : List ℕ). RankStops old new rankers (string_bytes source) t title why) b one in
        rw e (subst (λ (t : List ℕ). RankStops old new rankers (string_bytes source) (string_bytes tests) t why) d two)
