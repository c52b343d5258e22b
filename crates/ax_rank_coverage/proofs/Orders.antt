-- Orders of a program's candidates.
use Rattle.std.proofs.Common.{◌≡◌, ◌∙◌, ◌<◌, ◌+◌, ◌++◌, ℕ, List, length, Result, Ok, Err, IfOk, refl, sym, ap, subst, arith}
use Rattle.std.specs.List.{All}
use Rattle.std.proofs.lemmas.List.FromFn.{get_or-map-range_with_len, length-map-range_with_len}
use Rattle.std.proofs.lemmas.List.Sorted.{All-permutation}
use Rattle.ax_prog.specs.declared.Program.{Program}
use Rattle.ax_prog.specs.declared.Test.{Test}
use Rattle.ax_prog.specs.Candidates.{candidates_of}
use Rattle.ax_rank.specs.declared.ranker.Score.{Score}
use Rattle.ax_rank.specs.declared.ranker.SeenRun.{SeenRun}
use Rattle.ax_rank.specs.declared.places.Standing.{Standing}
use Rattle.ax_rank.specs.Suspicion.{IsSuspicionOrder, OneSuspicionOrder, score_of, standings}
use Rattle.ax_rank_coverage.specs.Coverage.{AreRunsOf}
use Rattle.ax_rank_coverage.specs.Orders.{Formula, IsOrderOf, OneCandidateOrder}
use Rattle.ax_rank_coverage.proofs.Shown.{one-list}

pub one_candidate_order : OneSuspicionOrder → OneCandidateOrder
one_candidate_order law formula before program steps tests a b h k =
    let same : h.runs ≡ k.runs = one-list program steps tests h.runs k.runs h.are_runs k.are_runs in
    law (standings (score_of formula (before ++ k.runs)) (length (candidates_of program))) a b
    (subst (λ (runs : List SeenRun). IsSuspicionOrder (standings (score_of formula (before ++ runs)) (length (candidates_of program))) a) same h.is_order)
    k.is_order

-- ---- places

all-standings : (score : ℕ → Score) (n : ℕ) → All (λ (s : Standing). s.place < n) (standings score n)
all-standings score n = λ i d l.
    let long : length (standings score n) ≡ n = length-map-range_with_len (λ place. record { place = place; score = score place }) 0 n in
    let place = ap (λ (s : Standing). s.place) (get_or-map-range_with_len (λ place. record { place = place; score = score place }) 0 n i i d (omega (arith, long, l)) (omega arith)) in
    rw place (omega (arith, long, l))

module _ (formula : Formula) (before : List SeenRun) (program : Program) (steps : ℕ) (tests : List Test) where
  pub order-is : (runs : List SeenRun) (count : ℕ) (order : List Standing) → AreRunsOf program steps tests runs → count ≡ length (candidates_of program)
      → IsSuspicionOrder (standings (score_of formula (before ++ runs)) count) order → IsOrderOf formula before program steps tests order
  order-is runs count order h e is = record {
    runs = runs;
    are_runs = h;
    is_order = subst (λ (n : ℕ). IsSuspicionOrder (standings (score_of formula (before ++ runs)) n) order) e is;
  }

  pub places-below : (runs : List SeenRun) (count most : ℕ) (order : List Standing) → count < most + 1
      → IsSuspicionOrder (standings (score_of formula (before ++ runs)) count) order → All (λ (s : Standing). s.place < most) order
  places-below runs count most order few is =
      let all = All-permutation (λ (s : Standing). s.place < count) _ _ is.0 (all-standings (score_of formula (before ++ runs)) count) in
      λ i d l. let one = all i d l in omega (arith, one, few)

  -- of what a ranking answers; the runs were lent
  pub order-of : {E : Type 0} (r : Result (List Standing) E) (runs lent : List SeenRun) (count : ℕ) → lent ≡ runs → AreRunsOf program steps tests runs
      → count ≡ length (candidates_of program) → IfOk r (IsSuspicionOrder (standings (score_of formula (before ++ lent)) count))
      → IfOk r (IsOrderOf formula before program steps tests)
  order-of (Ok order) runs lent count same h e is =
      order-is runs count order h e (subst (λ (l : List SeenRun). IsSuspicionOrder (standings (score_of formula (before ++ l)) count) order) same is)
  order-of (Err e) runs lent count same h is found = tt

  pub places-of : {E : Type 0} (r : Result (List Standing) E) (lent : List SeenRun) (count most : ℕ) → count < most + 1
      → IfOk r (IsSuspicionOrder (standings (score_of formula (before ++ lent)) count)) → IfOk r (All (λ (s : Standing). s.place < most))
  places-of (Ok order) lent count most few is = places-below lent count most order few is
  places-of (Err e) lent count most few is = tt
