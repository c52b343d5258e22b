-- Texts of digits, and the first option of a kind.
use Rattle.std.proofs.Common.{◌≡◌, ◌≤◌, ◌<◌, ◌^◌, ◌+◌, ◌∙◌, ℕ, Bool, true, false, List, [], ◌∷◌, length, get_or, drop, map, arith, refl, ap, sym, Option, Some, None, drop-cons, add-one}
use Rattle.std.specs.Prelude.{Result, Ok, Err, nat_lt, nat_le, ◌&&◌, if◌then◌else◌}
use Rattle.std.specs.Char.{is_ascii_digit}
use Rattle.std.specs.List.{list_all}
use Rattle.std.specs.Str.{all_ascii_digits}
use Rattle.std.specs.Str.Parse.{ParsesUnsigned, digits_value}
use Rattle.std.proofs.lemmas.Bool.Decides.{nat_tests}
use Rattle.std.proofs.lemmas.Str.Parse.{IsNumeralModel, digits_value_short, numerals_by_value, parse_gives, tells_all_ascii_digits}
use Rattle.ax_words.specs.Numbers.{Field, field_of, first_of_kind, is_number, number_of}
use Rattle.ax_words.specs.Words.{Given, budget_field, evals_field, grow_field, paths_field, repair_fields, steps_field, top_field}
use Rattle.ax_words.specs.declared.numbers.NumberOption.{NumberOption}

own : IsNumeralModel (λ ds. all_ascii_digits ds ≡ true) (digits_value 10)
own = numerals_by_value (λ ds. all_ascii_digits ds ≡ true) tells_all_ascii_digits

digits_all : (bs : List ℕ) → list_all is_ascii_digit bs ≡ all_ascii_digits bs
digits_all [] = refl
digits_all (b ∷ bs) = ap (λ t. is_ascii_digit b && t) (digits_all bs)

-- a text of one to ten digits is read as its number
pub number-parsed : {E : Type 0} (bs : List ℕ) (r : Result ℕ E) → ParsesUnsigned 64 10 bs r → is_number bs ≡ true → r ≡ Ok (digits_value 10 bs)
number-parsed bs r h is =
    let some : 0 < length bs = grind (arith, nat_tests) in
    let short : length bs ≤ 10 = grind (arith, nat_tests) in
    let all : list_all is_ascii_digit bs ≡ true = grind (arith, nat_tests) in
    let digits : all_ascii_digits bs ≡ true = sym (digits_all bs) ∙ all in
    let small = digits_value_short own bs 10 digits short in
    parse_gives own 64 bs r h digits some (omega arith)

pub number-of-read : {E : Type 0} (bs : List ℕ) (r : Result ℕ E) (n : ℕ) → ParsesUnsigned 64 10 bs r → r ≡ Ok n → is_number bs ≡ true → Some n ≡ number_of bs
number-of-read {E} bs r n h e is = let same = sym e ∙ number-parsed bs r h is in rw is (cc same)

pub number-not-read : {E : Type 0} (bs : List ℕ) (e : E) → ParsesUnsigned 64 10 bs (Err e) → is_number bs ≡ true → None ≡ number_of bs
number-not-read bs e h is = let same = number-parsed bs (Err e) h is in cc

pub first-here : (is : Field → Bool) (fs : List NumberOption) (i : ℕ) (d : NumberOption) → i < length fs
    → is (field_of (get_or fs i d)) ≡ true → first_of_kind is (map field_of (drop i fs)) ≡ Some (get_or fs i d).name.now
first-here is fs i d below here = rw (drop-cons fs i d below, here) refl

pub first-next : (is : Field → Bool) (fs : List NumberOption) (i : ℕ) (d : NumberOption) → i < length fs
    → is (field_of (get_or fs i d)) ≡ false → first_of_kind is (map field_of (drop i fs)) ≡ first_of_kind is (map field_of (drop (i + 1) fs))
first-next is fs i d below here = rw (drop-cons fs i d below, here, add-one) refl

not-first : (t : Bool) (name : List ℕ) (rest : Option (List ℕ)) → (if t then Some name else rest) ≡ None → t ≡ false
not-first false name rest h = refl
not-first true name rest h = cc

pub none-here : (is : Field → Bool) (fs : List NumberOption) (i : ℕ) (d : NumberOption) → i < length fs
    → first_of_kind is (map field_of (drop i fs)) ≡ None → is (field_of (get_or fs i d)) ≡ false
none-here is fs i d below none = not-first (is (field_of (get_or fs i d))) _ _ (rw (drop-cons fs i d below) at none)

pub ruleset firsts = (first-here, first-next, none-here)

head-fine : (is : Field → Bool) (f : Field) (fs : List Field) → first_of_kind is (f ∷ fs) ≡ None → is f ≡ false
head-fine is f fs h = not-first (is f) _ _ h

tail-fine : (is : Field → Bool) (f : Field) (fs : List Field) → first_of_kind is (f ∷ fs) ≡ None → first_of_kind is fs ≡ None
tail-fine is f fs h = let t = head-fine is f fs h in rw t at h

module _ (is : Field → Bool) (g : Given) (h : first_of_kind is (repair_fields g) ≡ None) where
  second : first_of_kind is (grow_field g ∷ steps_field g.steps ∷ evals_field g ∷ paths_field g ∷ budget_field g ∷ []) ≡ None
  second = tail-fine is (top_field g) (grow_field g ∷ steps_field g.steps ∷ evals_field g ∷ paths_field g ∷ budget_field g ∷ []) h

  third : first_of_kind is (steps_field g.steps ∷ evals_field g ∷ paths_field g ∷ budget_field g ∷ []) ≡ None
  third = tail-fine is (grow_field g) (steps_field g.steps ∷ evals_field g ∷ paths_field g ∷ budget_field g ∷ []) second

  fourth : first_of_kind is (evals_field g ∷ paths_field g ∷ budget_field g ∷ []) ≡ None
  fourth = tail-fine is (steps_field g.steps) (evals_field g ∷ paths_field g ∷ budget_field g ∷ []) third

  fifth : first_of_kind is (paths_field g ∷ budget_field g ∷ []) ≡ None
  fifth = tail-fine is (evals_field g) (paths_field g ∷ budget_field g ∷ []) fourth

  sixth : first_of_kind is (budget_field g ∷ []) ≡ None
  sixth = tail-fine is (paths_field g) (budget_field g ∷ []) fifth

  pub top-fine : is (top_field g) ≡ false
  top-fine = head-fine is (top_field g) (grow_field g ∷ steps_field g.steps ∷ evals_field g ∷ paths_field g ∷ budget_field g ∷ []) h

  pub grow-fine : is (grow_field g) ≡ false
  grow-fine = head-fine is (grow_field g) (steps_field g.steps ∷ evals_field g ∷ paths_field g ∷ budget_field g ∷ []) second

  pub steps-fine : is (steps_field g.steps) ≡ false
  steps-fine = head-fine is (steps_field g.steps) (evals_field g ∷ paths_field g ∷ budget_field g ∷ []) third

  pub evals-fine : is (evals_field g) ≡ false
  evals-fine = head-fine is (evals_field g) (paths_field g ∷ budget_field g ∷ []) fourth

  pub paths-fine : is (paths_field g) ≡ false
  paths-fine = head-fine is (paths_field g) (budget_field g ∷ []) fifth

  pub budget-fine : is (budget_field g) ≡ false
  budget-fine = head-fine is (budget_field g) [] sixth

pub ruleset fine = (top-fine, grow-fine, steps-fine, evals-fine, paths-fine, budget-fine)
