-- Rankers as they were handed in.
use Rattle.std.specs.Prelude.{◌≡◌, ◌≢◌, ℕ, List, Option, position, option_and_then, slice_get}
use Rattle.std.specs.Str.{bytes_eq}
use Rattle.ax_rank.specs.declared.ranker.SeenRun.{SeenRun}
use Rattle.ax_rank_coverage.specs.Orders.{Formula}

-- what is known of a ranker: its name, the runs that it has seen, and its formula
pub record Handed : Type 0 where
  pub title : List ℕ
  pub runs : List SeenRun
  pub formula : Formula

abbrev pub handed : List ℕ → List SeenRun → Formula → Handed
handed title runs formula = record { title = title; runs = runs; formula = formula }

-- the place of the first ranker of that name
abbrev pub ranker_at : List Handed → List ℕ → Option ℕ
ranker_at rankers name = position (λ (r : Handed). bytes_eq r.title name) rankers

-- the first ranker of that name
abbrev pub ranker_named : List Handed → List ℕ → Option Handed
ranker_named rankers name = option_and_then (λ at. slice_get rankers at) (ranker_at rankers name)

-- no ranker but that at this place has changed
abbrev pub OthersStay : List Handed → List Handed → ℕ → Type 0
OthersStay old new at = (k : ℕ) → k ≢ at → slice_get new k ≡ slice_get old k
