-- The four counts of a place over the runs that a ranker has seen.
use Rattle.std.specs.Prelude.{ℕ, Bool, false, not, ◌&&◌, List, slice_index_or, count_by}
use Rattle.ax_rank.specs.declared.ranker.SeenRun.{SeenRun}

-- a place past the end of a run's list is not covered by it
abbrev pub covers : SeenRun → ℕ → Bool
covers run place = slice_index_or run.covered place false

-- failing and passing runs that cover a place, and those that don't
pub record Counts : Type 0 where
  pub ef : ℕ
  pub ep : ℕ
  pub nf : ℕ
  pub np : ℕ

abbrev pub counts_at : List SeenRun → ℕ → Counts
counts_at runs place = record {
  ef = count_by (λ run. covers run place && not run.passed) runs;
  ep = count_by (λ run. covers run place && run.passed) runs;
  nf = count_by (λ run. not (covers run place) && not run.passed) runs;
  np = count_by (λ run. not (covers run place) && run.passed) runs;
}
