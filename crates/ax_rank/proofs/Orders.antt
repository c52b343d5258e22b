-- Places in the order of suspicion.
use Rattle.std.proofs.Common.{◌≡◌, ◌≢◌, ◌≤◌, take, take_all, Result, Ok, Err, OnErr, ◌↔◌, ℕ, Bool, false, IsTrue, ◌+◌, ◌*◌, ◌<◌, ◌++◌, ◌∷◌, [], List, length, get_or, eqb, Ordering, Less, Equal, Greater, nat_cmp, is_lt, ap, subst, refl, sym, ◌∙◌, inl, inr, ⊎_elim, true≢false, arith, ne_eqb}
use Rattle.std.proofs.lemmas.Bool.{eqb-false}
use Rattle.std.specs.Bool.{Decides, one_answer}
use Rattle.std.specs.Cmp.{IsStrictWeakOrder, nat_cmp_total, on_total, then_total}
use Rattle.std.specs.List.{IsDistinct}
use Rattle.std.specs.List.Sorted.{IsPermutation, IsSortedBy}
use Rattle.std.specs.Ordering.{MatchOrdering, ordering_then, then_cmp, on}
use Rattle.std.proofs.lemmas.List.FromFn.{map-range_with_len_more, get_or-map-range_with_len, length-map-range_with_len}
use Rattle.std.proofs.lemmas.List.Sorted.{ranks_by, sorted_far}
use Rattle.std.proofs.lemmas.Map.Keys.{IsDistinct-IsPermutation, IsDistinct-from_apart, apart_from_distinct}
use Rattle.ax_rank.specs.declared.ranker.Score.{Score}
use Rattle.ax_rank.specs.Scores.{IsAbove}
use Rattle.ax_rank.specs.declared.places.Standing.{Standing}
use Rattle.ax_rank.specs.Suspicion.{standings, AreEqual, StandsBefore, IsSuspicionOrder}
use Rattle.ax_rank.proofs.Fractions.{cross, cross_total, top, over, more_to, more_from, found}

-- one place more
pub standings_more : (score : ℕ → Score) (n : ℕ) (s : Score) (f : ℕ × ℕ) → (s.num, s.den) ≡ f → score n ≡ record { num = f.0; den = f.1 } → (xs : List Standing) → xs ≡ standings score n → xs ++ record { place = n; score = s } ∷ [] ≡ standings score (n + 1)
standings_more score n s f found is xs before =
    let one : s ≡ score n = ap (λ (p : ℕ × ℕ). record { num = p.0; den = p.1 }) found ∙ sym is in
    rw (before, one) (sym (map-range_with_len_more (λ place. record { place = place; score = score place }) 0 n n (omega arith)))

-- ---- the comparison

never_both : (a b : Score) → IsAbove a b → IsAbove b a → ⊥
never_both a b p q = omega (arith, more_to a.num a.den b.num b.den p, more_to b.num b.den a.num a.den q)

abbrev pub goes_by : Standing → Standing → Ordering
goes_by = then_cmp (on (λ (s : Standing). s.score) cross) (on (λ (s : Standing). s.place) nat_cmp)

abbrev pub earlier : Standing → Standing → Bool
earlier a b = is_lt (goes_by a b)

pub earlier_order : IsStrictWeakOrder earlier
earlier_order = ranks_by (then_total (on_total (λ (s : Standing). s.score) cross_total) (on_total (λ (s : Standing). s.place) nat_cmp_total)) (λ (s : Standing). s)

abbrev Worths : Standing → Standing → Ordering → Type 0
Worths a b r = MatchOrdering r (top b.score.num b.score.den * over a.score.den < top a.score.num a.score.den * over b.score.den)
    (top b.score.num b.score.den * over a.score.den ≡ top a.score.num a.score.den * over b.score.den)
    (top a.score.num a.score.den * over b.score.den < top b.score.num b.score.den * over a.score.den)

abbrev Places : Standing → Standing → Ordering → Type 0
Places a b s = MatchOrdering s (a.place < b.place) (a.place ≡ b.place) (b.place < a.place)

not_above : (a b : Standing) → Worths a b Equal → IsAbove a.score b.score → ⊥
not_above a b h p = omega (arith, h, more_to a.score.num a.score.den b.score.num b.score.den p)

not_below : (a b : Standing) → Worths a b Equal → IsAbove b.score a.score → ⊥
not_below a b h p = omega (arith, h, more_to b.score.num b.score.den a.score.num a.score.den p)

decide : (a b : Standing) (r s : Ordering) → Worths a b r → Places a b s → Decides (is_lt (ordering_then r s)) (StandsBefore a b)
decide a b Less s h k = (λ e. inl (more_from a.score.num a.score.den b.score.num b.score.den h), λ st. refl)
decide a b Greater s h k =
    let below = more_from b.score.num b.score.den a.score.num a.score.den h in
    (λ e. absurd (true≢false (sym e)), λ st. absurd (⊎_elim (λ above. never_both a.score b.score above below) (λ tie. tie.0.1 below) st))
decide a b Equal Less h k = (λ e. inr ((not_above a b h, not_below a b h), k), λ st. refl)
decide a b Equal Equal h k = (λ e. absurd (true≢false (sym e)), λ st. absurd (⊎_elim (not_above a b h) (λ tie. omega (arith, tie.1, k)) st))
decide a b Equal Greater h k = (λ e. absurd (true≢false (sym e)), λ st. absurd (⊎_elim (not_above a b h) (λ tie. omega (arith, tie.1, k)) st))

pub Decides-earlier : (a b : Standing) → Decides (earlier a b) (StandsBefore a b)
Decides-earlier a b = decide a b (cross a.score b.score) (nat_cmp a.place b.place) (found _ _ (cross a.score b.score) refl) (found a.place b.place (nat_cmp a.place b.place) refl)

pub answers_earlier : (a b : Standing) (r : Ordering) → IsTrue (is_lt r) ↔ StandsBefore a b → is_lt r ≡ earlier a b
answers_earlier a b r h = one_answer (is_lt r) (earlier a b) h (Decides-earlier a b)

-- what the three ends of the comparison answer
pub is_above : (a b : Standing) → IsAbove a.score b.score → IsTrue (is_lt Less) ↔ StandsBefore a b
is_above a b h = (λ e. inl h, λ st. refl)

pub is_below : (a b : Standing) → IsAbove b.score a.score → IsTrue (is_lt Greater) ↔ StandsBefore a b
is_below a b h = (λ e. absurd (true≢false (sym e)), λ st. absurd (⊎_elim (λ above. never_both a.score b.score above h) (λ tie. tie.0.1 h) st))

by_place : (a b : Standing) (s : Ordering) → AreEqual a.score b.score → Places a b s → IsTrue (is_lt s) ↔ StandsBefore a b
by_place a b Less h k = (λ e. inr (h, k), λ st. refl)
by_place a b Equal h k = (λ e. absurd (true≢false (sym e)), λ st. absurd (⊎_elim h.0 (λ tie. omega (arith, tie.1, k)) st))
by_place a b Greater h k = (λ e. absurd (true≢false (sym e)), λ st. absurd (⊎_elim h.0 (λ tie. omega (arith, tie.1, k)) st))

pub is_tied : (a b : Standing) (r : Ordering) → (IsAbove a.score b.score → ⊥) → (IsAbove b.score a.score → ⊥) → r ≡ nat_cmp a.place b.place → IsTrue (is_lt r) ↔ StandsBefore a b
is_tied a b r p q e = by_place a b r (p, q) (found a.place b.place r (sym e))

-- ---- what a sort of the places gives

-- not later, and another place
stands_first : (a b : Standing) (r s : Ordering) → Worths b a r → Places b a s → is_lt (ordering_then r s) ≡ false → a.place ≢ b.place → StandsBefore a b
stands_first a b Less s h k e apart = absurd (true≢false e)
stands_first a b Greater s h k e apart = inl (more_from a.score.num a.score.den b.score.num b.score.den h)
stands_first a b Equal Less h k e apart = absurd (true≢false e)
stands_first a b Equal Equal h k e apart = absurd (apart (sym k))
stands_first a b Equal Greater h k e apart = inr ((not_below b a h, not_above b a h), k)

first_from_sorted : (a b : Standing) → earlier b a ≡ false → a.place ≢ b.place → StandsBefore a b
first_from_sorted a b e apart = stands_first a b (cross b.score a.score) (nat_cmp b.place a.place) (found _ _ (cross b.score a.score) refl) (found b.place a.place (nat_cmp b.place a.place) refl) e apart

abbrev same_place : Standing → Standing → Bool
same_place a b = eqb a.place b.place

flips : (a b : ℕ) → eqb a b ≡ eqb b a
flips a b = grind arith

numbered : (score : ℕ → Score) (n i : ℕ) (d : Standing) → i < n → (get_or (standings score n) i d).place ≡ i
numbered score n i d l = ap (λ (s : Standing). s.place) (get_or-map-range_with_len (λ place. record { place = place; score = score place }) 0 n i i d l (omega arith))

distinct : (score : ℕ → Score) (n : ℕ) → IsDistinct same_place (standings score n)
distinct score n = IsDistinct-from_apart same_place (standings score n) (λ i j d ij lj.
    let long : length (standings score n) ≡ n = length-map-range_with_len (λ place. record { place = place; score = score place }) 0 n in
    let one = numbered score n i d (omega (arith, long, ij, lj)) in
    let two = numbered score n j d (omega (arith, long, ij, lj)) in
    rw (one, two) (ne_eqb i j (λ e. omega (arith, e, ij))))

pub in_order : (score : ℕ → Score) (n : ℕ) (xs ys : List Standing) → xs ≡ standings score n → IsPermutation xs ys → IsSortedBy earlier ys → IsSuspicionOrder (standings score n) ys
in_order score n xs ys is moved sorted =
    let same = subst (λ l. IsPermutation l ys) is moved in
    let apart = IsDistinct-IsPermutation same_place (λ a b. flips a.place b.place) (standings score n) ys same (distinct score n) in
    (same, λ i j d ij lj. first_from_sorted _ _ (sorted_far earlier earlier_order ys sorted i j d (omega (arith, ij)) lj) (eqb-false _ _ (apart_from_distinct same_place ys i j d apart ij lj)))

-- no two stand before each other
pub stands_one_way : (a b : Standing) → StandsBefore a b → StandsBefore b a → ⊥
stands_one_way a b p q = ⊎_elim
    (λ above. ⊎_elim (never_both a.score b.score above) (λ tie. tie.0.1 above) q)
    (λ tie. ⊎_elim tie.0.1 (λ other. omega (arith, tie.1, other.1)) q)
    p

-- ---- after want of memory

on_err : {T E P : Type 0} (r : Result T E) → P → OnErr r P
on_err (Ok x) p = tt
on_err (Err e) p = p

-- all of the list is a first part of it
pub all_seen : {T E X : Type 0} (r : Result T E) (old xs now : List X) → now ≡ old ++ xs → OnErr r ((n : ℕ) × (n ≤ length xs) × (now ≡ old ++ take n xs))
all_seen r old xs now e = on_err r (length xs, omega arith, e ∙ ap (λ l. old ++ l) (sym (take_all (length xs) xs (omega arith))))
