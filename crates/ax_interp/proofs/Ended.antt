-- Objects that have ended, and what ends them.
use Rattle.std.proofs.Common.{◌≡◌, ℕ, zero, suc, ◌+◌, ◌<◌, ◌≤◌, Bool, true, false, IsTrue, List, [], ◌∷◌, ◌++◌, length, map, Some, None, refl, sym, ap, subst, arith, inl, inr}
use Rattle.std.specs.Prelude.{Option, slice_get, if◌then◌else◌}
use Rattle.std.proofs.lemmas.Bool.{cases_lt}
use Rattle.ax_meaning.specs.declared.Extent.{Extent}
use Rattle.ax_meaning.specs.Store.{dead, end_extent, end_object, end_from}
use Rattle.ax_interp.specs.declared.machine.Gap.{Gap}
use Rattle.ax_interp.specs.Gaps.{has_ended, EndedIn, AllEnded, StayEnded}

-- ---- one object

ended_live : (live : Bool) → IsTrue (if live then false else true) → live ≡ false
ended_live true e = absurd (cc)
ended_live false e = refl

-- its end changes nothing where it has ended
dead_same : (o : Extent) → IsTrue (has_ended (Some o)) → dead o ≡ o
dead_same o e = ap (λ b. record o { live = b }) (sym (ended_live o.live e))

end_extent-cons : (e : Option Extent) (n : ℕ) (x : Extent) (xs : List Extent) → end_extent e (suc n) (x ∷ xs) ≡ x ∷ end_extent e n xs
end_extent-cons None n x xs = refl
end_extent-cons (Some o) n x xs = refl

dead_end_object : (at : ℕ) (xs : List Extent) → map dead (end_object at xs) ≡ map dead xs
dead_end_object zero [] = refl
dead_end_object (suc at) [] = refl
dead_end_object zero (x ∷ xs) = refl
dead_end_object (suc at) (x ∷ xs) = rw (end_extent-cons (slice_get xs at) at x xs) (ap (λ ys. dead x ∷ ys) (dead_end_object at xs))

pub before_end_object : (n at : ℕ) (xs : List Extent) → n ≤ at → end_from n (end_object at xs) ≡ end_from n xs
before_end_object zero at xs le = dead_end_object at xs
before_end_object (suc n) zero xs le = absurd (omega arith)
before_end_object (suc n) (suc at) [] le = refl
before_end_object (suc n) (suc at) (x ∷ xs) le = rw (end_extent-cons (slice_get xs at) at x xs) (ap (λ ys. x ∷ ys) (before_end_object n at xs (omega arith)))

pub end_object_stays : (at : ℕ) (xs : List Extent) → StayEnded xs (end_object at xs)
end_object_stays zero [] i e = e
end_object_stays (suc at) [] i e = e
end_object_stays zero (x ∷ xs) zero e = refl
end_object_stays zero (x ∷ xs) (suc i) e = e
end_object_stays (suc at) (x ∷ xs) zero e = rw (end_extent-cons (slice_get xs at) at x xs) e
end_object_stays (suc at) (x ∷ xs) (suc i) e = rw (end_extent-cons (slice_get xs at) at x xs) (end_object_stays at xs i e)

pub end_object_ends : (at : ℕ) (xs : List Extent) → at < length xs → IsTrue (has_ended (slice_get (end_object at xs) at))
end_object_ends at [] l = absurd (omega arith)
end_object_ends zero (x ∷ xs) l = refl
end_object_ends (suc at) (x ∷ xs) l = rw (end_extent-cons (slice_get xs at) at x xs) (end_object_ends at xs (omega arith))

-- ---- all from a number on

dead_stays : (xs : List Extent) → StayEnded xs (map dead xs)
dead_stays [] i e = e
dead_stays (x ∷ xs) zero e = refl
dead_stays (x ∷ xs) (suc i) e = dead_stays xs i e

pub end_from_stays : (n : ℕ) (xs : List Extent) → StayEnded xs (end_from n xs)
end_from_stays zero xs i e = dead_stays xs i e
end_from_stays (suc n) [] i e = e
end_from_stays (suc n) (x ∷ xs) zero e = e
end_from_stays (suc n) (x ∷ xs) (suc i) e = end_from_stays n xs i e

length-dead : (xs : List Extent) → length (map dead xs) ≡ length xs
length-dead [] = refl
length-dead (x ∷ xs) = ap suc (length-dead xs)

pub length-end_from : (n : ℕ) (xs : List Extent) → length (end_from n xs) ≡ length xs
length-end_from zero xs = length-dead xs
length-end_from (suc n) [] = refl
length-end_from (suc n) (x ∷ xs) = ap suc (length-end_from n xs)

all_dead : (xs : List Extent) → EndedIn 0 (length xs) xs → map dead xs ≡ xs
all_dead [] h = refl
all_dead (x ∷ xs) h = rw (dead_same x (h 0 (omega arith) (omega arith))) (ap (λ ys. x ∷ ys) (all_dead xs (λ i ge l. h (suc i) (omega arith) (omega arith))))

-- where all of them have ended, their end changes nothing
pub all_ended : (n : ℕ) (xs : List Extent) → EndedIn n (length xs) xs → end_from n xs ≡ xs
all_ended zero xs h = all_dead xs h
all_ended (suc n) [] h = refl
all_ended (suc n) (x ∷ xs) h = ap (λ ys. x ∷ ys) (all_ended n xs (λ i ge l. h (suc i) (omega arith) (omega arith)))

-- ---- objects that begin

pub more_stay : (xs ys : List Extent) → StayEnded xs (xs ++ ys)
more_stay [] ys i e = absurd (cc)
more_stay (x ∷ xs) ys zero e = e
more_stay (x ∷ xs) ys (suc i) e = more_stay xs ys i e

-- ---- gaps

pub all_stay : (gaps : List Gap) (xs ys : List Extent) → StayEnded xs ys → AllEnded gaps xs → AllEnded gaps ys
all_stay [] xs ys stay all = tt
all_stay (gap ∷ rest) xs ys stay all = (λ i ge l. stay i (all.0 i ge l), all_stay rest xs ys stay all.1)

pub all_more : (gaps : List Gap) (gap : Gap) (xs : List Extent) → AllEnded gaps xs → EndedIn gap.from gap.to xs → AllEnded (gaps ++ gap ∷ []) xs
all_more [] gap xs all h = (h, tt)
all_more (g ∷ rest) gap xs all h = (all.0, all_more rest gap xs all.1 h)

pub all_but_last : (gaps : List Gap) (gap : Gap) (xs : List Extent) → AllEnded (gaps ++ gap ∷ []) xs → AllEnded gaps xs
all_but_last [] gap xs all = tt
all_but_last (g ∷ rest) gap xs all = (all.0, all_but_last rest gap xs all.1)

pub last_ended : (gaps : List Gap) (gap : Gap) (xs : List Extent) → AllEnded (gaps ++ gap ∷ []) xs → EndedIn gap.from gap.to xs
last_ended [] gap xs all = all.0
last_ended (g ∷ rest) gap xs all = last_ended rest gap xs all.1

pub last_of : (gaps : List Gap) (gap : Gap) → slice_get (gaps ++ gap ∷ []) (length gaps) ≡ Some gap
last_of [] gap = refl
last_of (g ∷ rest) gap = last_of rest gap

-- all from the start of a gap on, where those behind the gap have ended now and the others before
pub ended_on : (from to end : ℕ) (xs ys : List Extent) → EndedIn from to xs → EndedIn end (length xs) xs → StayEnded xs ys → length ys ≡ length xs →
    ((i : ℕ) → to ≤ i → i < end → i < length ys → IsTrue (has_ended (slice_get ys i))) → EndedIn from (length ys) ys
ended_on from to end xs ys gap rest stay same now i ge l =
    elim (cases_lt i to) [
      | inl below ↦ stay i (gap i ge below)
      | inr above ↦ elim (cases_lt i end) [ inl before ↦ now i above before l | inr behind ↦ stay i (rest i behind (omega (arith, same))) ]
    ]

pub length-end_object : (at : ℕ) (xs : List Extent) → length (end_object at xs) ≡ length xs
length-end_object zero [] = refl
length-end_object (suc at) [] = refl
length-end_object zero (x ∷ xs) = refl
length-end_object (suc at) (x ∷ xs) = rw (end_extent-cons (slice_get xs at) at x xs) (ap suc (length-end_object at xs))

-- the next of a row of objects ends
pub ended_more : (from at : ℕ) (xs : List Extent) → ((i : ℕ) → from ≤ i → i < at → i < length xs → IsTrue (has_ended (slice_get xs i))) →
    (i : ℕ) → from ≤ i → i < at + 1 → i < length xs → IsTrue (has_ended (slice_get (end_object at xs) i))
ended_more from at xs done i ge l within =
    elim (cases_lt i at) [
      | inl before ↦ end_object_stays at xs i (done i ge before within)
      | inr behind ↦ let here : at ≡ i = omega arith in subst (λ k. IsTrue (has_ended (slice_get (end_object at xs) k))) here (end_object_ends at xs (omega arith))
    ]
