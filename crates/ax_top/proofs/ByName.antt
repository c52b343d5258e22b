-- The ranker at the place of the first of a name.
use Rattle.std.proofs.Common.{◌≡◌, ◌<◌, ℕ, zero, suc, List, [], ◌∷◌, length, Some, refl, subst, arith, String, Global}
use Rattle.std.specs.Prelude.{Result, Ok, Err, IfOk, slice_get, string_bytes}
use Rattle.ax_prog.specs.declared.Program.{Program}
use Rattle.ax_prog.specs.declared.Suite.{Suite}
use Rattle.ax_prog.specs.declared.Test.{Test}
use Rattle.ax_rank_coverage.specs.Handed.{Handed, ranker_at, ranker_named}
use Rattle.ax_rank_coverage.specs.Orders.{Chooses}
use Rattle.ax_outside.specs.Seen.{Seen}
use Rattle.ax_top.specs.declared.files.Stop.{Stop}
use Rattle.ax_top.specs.declared.telling.Told.{Told}
use Rattle.ax_words.specs.declared.order.Choice.TheVariants.{Top}
use Rattle.ax_top.specs.Choices.{IsChoice}
use Rattle.ax_top.specs.Judging.{FilesAreFine}
use Rattle.ax_top.specs.Telling.{RankEnds, RankTold}
use Rattle.ax_top.specs.Orders.{memory}
use Rattle.ax_top.proofs.Told.{rank-from}

pub there : {X : Type 0} (xs : List X) (at : ℕ) → at < length xs → (x : X) × (slice_get xs at ≡ Some x)
there [] at lt = absurd (omega (arith, lt))
there (x ∷ xs) zero lt = (x, refl)
there (x ∷ xs) (suc at) lt = there xs at (omega (arith, lt))

module _ (rankers : List Handed) (name : List ℕ) (at : ℕ) (first : ranker_at rankers name ≡ Some at) (within : at < length rankers) where
  it : Handed
  it = (there rankers at within).0

  here : slice_get rankers at ≡ Some it
  unfolding it there
  here = (there rankers at within).1

  named : ranker_named rankers name ≡ Some it
  named = rw first here

  -- what it chooses is chosen by the first of the name
  pub chosen-by : {E : Type 0} (program : Program) (steps : ℕ) (tests : List Test) (count : ℕ) (formula : String Global) → name ≡ string_bytes formula
      → (r : Result (List ℕ) E) → ((x : Handed) → slice_get rankers at ≡ Some x → IfOk r (Chooses x.formula x.runs program steps tests count))
      → IfOk r (IsChoice rankers program tests steps (Top count formula))
  chosen-by program steps tests count formula is (Ok ns) h = (it, subst (λ (n : List ℕ). ranker_named rankers n ≡ Some it) is named, h it here)
  chosen-by program steps tests count formula is (Err e) h = tt

  -- and so is what it ranks
  pub ranked-by : (old new : Seen) (source tests bytes : List ℕ) (program : Program) (suite : Suite) (steps : ℕ) (r : Result Told Stop)
      → FilesAreFine old source tests bytes program suite → ((x : Handed) → slice_get rankers at ≡ Some x → RankTold x program suite steps r)
      → RankEnds old new rankers source tests name steps r
  ranked-by old new source tests bytes program suite steps r fine h =
      rank-from old new rankers source tests name bytes program suite steps at it r named fine (h it here) (memory refl) first
