-- The first of a name among things that are known as rankers.
use Rattle.std.proofs.Common.{◌≡◌, ◌∙◌, ◌≤◌, ◌<◌, ◌+◌, ℕ, true, false, List, [], length, map, Some, None, sym, refl, ap, arith, below_more}
use Rattle.std.specs.Str.{bytes_eq}
use Rattle.std.specs.Prelude.{slice_index_or, nat_lt}
use Rattle.std.proofs.lemmas.List.Sums.{position_or_len_is}
use Rattle.std.proofs.lemmas.List.{get_or-map, length-map}
use Rattle.ax_rank_coverage.specs.Handed.{Handed, handed, ranker_at}

-- a ranker of no name
abbrev pub nobody : Handed
nobody = handed [] [] (λ place counts. (0, 0))

module _ {X : Type 0} (known : X → Handed) (name : List ℕ) where
  known-at : (xs : List X) (i : ℕ) (x : X) → i < length xs → x ≡ slice_index_or xs i x
      → slice_index_or (map known xs) i nobody ≡ known x
  known-at xs i x lt at_x = get_or-map known xs i x nobody lt ∙ sym (ap known at_x)

  pub found : (xs : List X) (i : ℕ) (x : X) → i < length xs → x ≡ slice_index_or xs i x
      → ((k : ℕ) → k < i → bytes_eq (slice_index_or (map known xs) k nobody).title name ≡ false)
      → bytes_eq (known x).title name ≡ true → Some i ≡ ranker_at (map known xs) name
  found xs i x lt at before hit =
      let here : bytes_eq (slice_index_or (map known xs) i nobody).title name ≡ true = rw (known-at xs i x lt at) hit in
      let long : length (map known xs) ≡ length xs = length-map xs known in
      let first = position_or_len_is (λ (r : Handed). bytes_eq r.title name) (map known xs) i nobody (omega arith) before (λ _. here) in
      let inside : nat_lt i (length (map known xs)) ≡ true = grind arith in
      rw (first, inside) refl

  pub not_there : (xs : List X) (i : ℕ) → length xs ≤ i
      → ((k : ℕ) → k < i → bytes_eq (slice_index_or (map known xs) k nobody).title name ≡ false)
      → None ≡ ranker_at (map known xs) name
  not_there xs i end before =
      let long : length (map known xs) ≡ length xs = length-map xs known in
      let first = position_or_len_is (λ (r : Handed). bytes_eq r.title name) (map known xs) (length (map known xs)) nobody (omega arith) (λ k lt. before k (omega arith)) (λ lt. absurd (omega arith)) in
      let outside : nat_lt (length (map known xs)) (length (map known xs)) ≡ false = grind arith in
      rw (first, outside) refl

  pub more : (xs : List X) (i : ℕ) (x : X) → i < length xs → x ≡ slice_index_or xs i x
      → ((k : ℕ) → k < i → bytes_eq (slice_index_or (map known xs) k nobody).title name ≡ false)
      → bytes_eq (known x).title name ≡ false
      → (k : ℕ) → k < i + 1 → bytes_eq (slice_index_or (map known xs) k nobody).title name ≡ false
  more xs i x lt at before miss = below_more _ _ before (rw (known-at xs i x lt at) miss)
