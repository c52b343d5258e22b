-- The order of suspicion of a program's candidates, and what is made of it.
use Rattle.std.specs.Prelude.{◌≡◌, ◌≤◌, ℕ, ◌+◌, ◌++◌, List, length, map, take}
use Rattle.ax_prog.specs.declared.Program.{Program}
use Rattle.ax_prog.specs.declared.Test.{Test}
use Rattle.ax_prog.specs.Candidates.{candidates_of}
use Rattle.ax_rank.specs.declared.ranker.SeenRun.{SeenRun}
use Rattle.ax_rank.specs.Runs.{Counts}
use Rattle.ax_rank.specs.declared.places.Standing.{Standing}
use Rattle.ax_rank.specs.Suspicion.{IsSuspicionOrder, score_of, standings}
use Rattle.ax_rank_coverage.specs.Coverage.{AreRunsOf}
use Rattle.ax_rank_coverage.specs.Texts.{order_report}

abbrev pub Formula : Type 0
Formula = ℕ → Counts → ℕ × ℕ

-- the candidates in the order of suspicion, by a formula over the runs that were seen before and, behind them, those of
-- the tests; candidate I is place I - 1
pub record IsOrderOf (formula : Formula) (before : List SeenRun) (program : Program) (steps : ℕ) (tests : List Test) (order : List Standing) : Type 0 where
  pub runs : List SeenRun
  pub are_runs : AreRunsOf program steps tests runs
  pub is_order : IsSuspicionOrder (standings (score_of formula (before ++ runs)) (length (candidates_of program))) order

-- the candidates have one order
abbrev pub OneCandidateOrder : Type 0
OneCandidateOrder = (formula : Formula) (before : List SeenRun) (program : Program) (steps : ℕ) (tests : List Test) (a b : List Standing)
    → IsOrderOf formula before program steps tests a → IsOrderOf formula before program steps tests b → a ≡ b

-- the runs of the tests were seen behind those before
abbrev pub HasSeen : Program → ℕ → List Test → List SeenRun → List SeenRun → Type 0
HasSeen program steps tests before after = (runs : List SeenRun) × AreRunsOf program steps tests runs × (after ≡ before ++ runs)

-- the runs of the first few tests were
abbrev pub HasSeenSome : Program → ℕ → List Test → List SeenRun → List SeenRun → Type 0
HasSeenSome program steps tests before after = (n : ℕ) × (n ≤ length tests) × HasSeen program steps (take n tests) before after

-- the report of the order
abbrev pub IsRanked : Formula → List SeenRun → Program → ℕ → List Test → List ℕ → Type 0
IsRanked formula before program steps tests text =
    (order : List Standing) × IsOrderOf formula before program steps tests order × (text ≡ order_report order)

-- the numbers of the first so many candidates of the order, or of all where there are fewer
abbrev pub first_numbers : ℕ → List Standing → List ℕ
first_numbers count order = map (λ s. s.place + 1) (take count order)

abbrev pub Chooses : Formula → List SeenRun → Program → ℕ → List Test → ℕ → List ℕ → Type 0
Chooses formula before program steps tests count numbers =
    (order : List Standing) × IsOrderOf formula before program steps tests order × (numbers ≡ first_numbers count order)
