-- A text and the parts between its commas.
use Rattle.std.proofs.Common.{◌≡◌, ◌<◌, ◌+◌, ℕ, Bool, false, List, [], ◌∷◌, ◌++◌, length, length-drop, arith, Option, Some, None, refl, ap}
use Rattle.std.specs.Prelude.{◌==◌, option_map, option_and_then}
use Rattle.std.specs.List.{All, after_first, before_first, position_or_len, slice_split}
use Rattle.std.proofs.lemmas.Grind.{common_steps}
use Rattle.std.proofs.lemmas.List.Splits.{slice_split_first, slice_split_none}
use Rattle.std.proofs.lemmas.List.Sums.{fails_before_first}

abbrev comma : ℕ → Bool
comma b = b == 44

pub one-part : (text : List ℕ) → position_or_len (λ b. b == 44) text ≡ length text → slice_split (λ b. b == 44) text ≡ text ∷ []
one-part text h =
    let none : All (λ x. comma x ≡ false) text = λ k e m. fails_before_first comma text k e (omega arith) in
    slice_split_none comma text none

pub first-part : (text first rest : List ℕ) → first ≡ before_first (λ b. b == 44) text → rest ≡ after_first (λ b. b == 44) text
    → position_or_len (λ b. b == 44) text < length text → slice_split (λ b. b == 44) text ≡ first ∷ slice_split (λ b. b == 44) rest
first-part text first rest f r h = rw (f, r) (slice_split_first comma text 0 h)

pub rest-shorter : (text rest : List ℕ) → rest ≡ after_first (λ b. b == 44) text → position_or_len (λ b. b == 44) text < length text → length rest < length text
rest-shorter text rest r h = rw r (omega (arith, length-drop (position_or_len (λ b. b == 44) text + 1) text))
