-- Evaluations of a list of slots, counted slot by slot.
use Rattle.std.proofs.Common.{◌≡◌, ℕ, zero, suc, ◌+◌, ◌<◌, ◌≤◌, IsTrue, true, false, List, [], ◌∷◌, ◌++◌, take, get_or, length, slice_get, arith}
use Rattle.std.proofs.lemmas.List.{take_more}
use Rattle.ax_prog.specs.declared.SlotId.{SlotId}
use Rattle.ax_meaning.specs.Types.{or_zero}
use Rattle.ax_meaning.specs.Runs.{evaluations}

pub evaluations-append : (xs ys : List SlotId) (counts : List ℕ) → evaluations (xs ++ ys) counts ≡ evaluations xs counts + evaluations ys counts
evaluations-append [] ys counts = omega arith
evaluations-append (x ∷ xs) ys counts = let h = evaluations-append xs ys counts in omega arith

-- one slot more
pub evaluations-more : (ids : List SlotId) (i : ℕ) (id : SlotId) (counts : List ℕ) → i < length ids → evaluations (take (i + 1) ids) counts ≡ evaluations (take i ids) counts + or_zero (slice_get counts (get_or ids i id).0)
evaluations-more ids i id counts h = rw (take_more ids i id h, evaluations-append) (omega arith)

-- the first slots have no more than all
pub evaluations-some : (i : ℕ) (ids : List SlotId) (counts : List ℕ) → evaluations (take i ids) counts ≤ evaluations ids counts
evaluations-some zero ids counts = omega arith
evaluations-some (suc i) [] counts = omega arith
evaluations-some (suc i) (id ∷ ids) counts = let h = evaluations-some i ids counts in omega arith

no-false : false ≡ true → ⊥
no-false h = cc

pub not-few : (n most : ℕ) → most < n → (IsTrue false → n ≤ most) × (n ≤ most → IsTrue false)
not-few n most h = ((λ t. absurd (no-false t)), (λ q. absurd (omega arith)))
