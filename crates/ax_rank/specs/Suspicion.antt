-- The order of suspicion.
use Rattle.std.specs.Prelude.{◌≡◌, ◌<◌, ℕ, ◌⊎◌, List, map, AllPairs}
use Rattle.std.specs.List.{range_with_len}
use Rattle.std.specs.List.Sorted.{IsPermutation}
use Rattle.ax_rank.specs.declared.ranker.Score.{Score}
use Rattle.ax_rank.specs.declared.ranker.SeenRun.{SeenRun}
use Rattle.ax_rank.specs.Runs.{Counts, counts_at}
use Rattle.ax_rank.specs.Scores.{IsAbove}
use Rattle.ax_rank.specs.declared.places.Standing.{Standing}

-- the formula's fraction, of a place's number and its four counts in the runs
abbrev pub score_of : (ℕ → Counts → ℕ × ℕ) → List SeenRun → ℕ → Score
score_of formula runs place = record {
  num = (formula place (counts_at runs place)).0;
  den = (formula place (counts_at runs place)).1;
}

-- the places below n, each with its score
abbrev pub standings : (ℕ → Score) → ℕ → List Standing
standings score n = map (λ place. record { place = place; score = score place }) (range_with_len 0 n)

-- neither is the greater fraction
abbrev pub AreEqual : Score → Score → Type 0
AreEqual a b = (IsAbove a b → ⊥) × (IsAbove b a → ⊥)

-- the greater score, and of equal scores the place that comes first in the source
abbrev pub StandsBefore : Standing → Standing → Type 0
StandsBefore a b = IsAbove a.score b.score ⊎ (AreEqual a.score b.score × (a.place < b.place))

-- the same places, each before all that follow it
abbrev pub IsSuspicionOrder : List Standing → List Standing → Type 0
IsSuspicionOrder places order = IsPermutation places order × AllPairs StandsBefore order

-- places have one order of suspicion
abbrev pub OneSuspicionOrder : Type 0
OneSuspicionOrder = (places a b : List Standing) → IsSuspicionOrder places a → IsSuspicionOrder places b → a ≡ b
