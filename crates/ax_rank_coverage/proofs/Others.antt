-- Lists of which one element has changed.
use Rattle.std.proofs.Common.{◌≡◌, ◌≢◌, ◌<◌, ℕ, zero, suc, List, [], ◌∷◌, map, length, refl, arith}
use Rattle.std.specs.Prelude.{slice_get, slice_set}

pub others : {X Y : Type 0} (f : X → Y) (xs : List X) (at : ℕ) (x : X) → (k : ℕ) → k ≢ at → slice_get (map f (slice_set xs at x)) k ≡ slice_get (map f xs) k
others f [] at x k apart = refl
others f (y ∷ ys) zero x zero apart = absurd (apart refl)
others f (y ∷ ys) zero x (suc k) apart = refl
others f (y ∷ ys) (suc at) x zero apart = refl
others f (y ∷ ys) (suc at) x (suc k) apart = others f ys at x k (λ e. apart (omega (arith, e)))
