-- Numbers of one to ten digits.
use Rattle.std.proofs.Common.{◌≡◌, ◌≤◌, ◌<◌, ◌^◌, ◌+◌, ◌*◌, ◌-◌, ◌∙◌, ◌&&◌, ℕ, zero, suc, Bool, true, false, List, [], ◌∷◌, length, get_or, take, refl, ap, sym, arith}
use Rattle.std.specs.Int.{IsInRange}
use Rattle.std.specs.List.{list_all}
use Rattle.std.specs.Char.{is_ascii_digit}
use Rattle.std.specs.Str.{all_ascii_digits}
use Rattle.std.specs.Str.Parse.{digits_value}
use Rattle.std.proofs.lemmas.List.{length-take}
use Rattle.std.proofs.lemmas.Bool.Decides.{nat_tests}
use Rattle.std.proofs.lemmas.Int.Digits.{digits_value_more}
use Rattle.std.proofs.lemmas.Str.{digit_value_digit}
use Rattle.std.proofs.lemmas.Str.Parse.{IsNumeralModel, digits_value_short, digit_at, numerals_by_value, tells_all_ascii_digits}
use Rattle.ax_dimacs.specs.Clauses.{is_number}

pub own : IsNumeralModel (λ ds. all_ascii_digits ds ≡ true) (digits_value 10)
own = numerals_by_value (λ ds. all_ascii_digits ds ≡ true) tells_all_ascii_digits

pub digits_all : (bs : List ℕ) → list_all is_ascii_digit bs ≡ all_ascii_digits bs
digits_all [] = refl
digits_all (b ∷ bs) = ap (λ t. is_ascii_digit b && t) (digits_all bs)

pub both-left : (a b : Bool) → a && b ≡ true → a ≡ true
both-left true b h = refl
both-left false b h = h

pub both-right : (a b : Bool) → a && b ≡ true → b ≡ true
both-right true b h = h
both-right false b h = absurd (grind arith)

pub both : (a b : Bool) → a ≡ true → b ≡ true → a && b ≡ true
both a b x y = rw (x, y) refl

taken-digits : (bs : List ℕ) (i : ℕ) → list_all is_ascii_digit bs ≡ true → list_all is_ascii_digit (take i bs) ≡ true
taken-digits [] zero digits = refl
taken-digits [] (suc i) digits = refl
taken-digits (b ∷ bs) zero digits = refl
taken-digits (b ∷ bs) (suc i) digits =
    both (is_ascii_digit b) (list_all is_ascii_digit (take i bs)) (both-left _ _ digits) (taken-digits bs i (both-right (is_ascii_digit b) _ digits))

taken-length : (bs : List ℕ) (i k : ℕ) → length bs ≤ k → length (take i bs) ≤ k
taken-length bs i k short = omega (arith, length-take i bs)

are-digits : (bs : List ℕ) → is_number bs ≡ true → list_all is_ascii_digit bs ≡ true
are-digits bs is = grind (arith, nat_tests)

pub is-short : (bs : List ℕ) → is_number bs ≡ true → length bs ≤ 10
is-short bs is = grind (arith, nat_tests)

-- what the first digits write
pub first-small : (bs : List ℕ) (i : ℕ) → is_number bs ≡ true → digits_value 10 (take i bs) < 10 ^ 10
first-small bs i is =
    digits_value_short own (take i bs) 10 (sym (digits_all (take i bs)) ∙ taken-digits bs i (are-digits bs is)) (taken-length bs i 10 (is-short bs is))

pub digit-range : (bs : List ℕ) (i : ℕ) → is_number bs ≡ true → i < length bs → IsInRange 48 57 (get_or bs i 0)
digit-range bs i is below = digit_at bs i (own.to bs (sym (digits_all bs) ∙ are-digits bs is)) below

-- one digit more
pub digit-next : (bs : List ℕ) (i n b : ℕ) → is_number bs ≡ true → i < length bs → b ≡ get_or bs i 0 → n ≡ digits_value 10 (take i bs)
    → n * 10 + (b - 48) ≡ digits_value 10 (take (i + 1) bs)
digit-next bs i n b is below here so-far = omega (arith, digits_value_more 10 bs i below, digit_value_digit (get_or bs i 0) (digit-range bs i is below), here, so-far)
