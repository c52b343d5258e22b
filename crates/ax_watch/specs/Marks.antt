-- Marks of a trail.
use Rattle.std.specs.Prelude.{◌≡◌, ℕ, ◌≤◌, ◌⊎◌, Option, Some, List}
use Rattle.std.specs.List.{AllPairs, Contains}

-- numbers of literals of a trail, none below one before it
abbrev pub IsRising : List ℕ → Type 0
IsRising places = AllPairs (λ a b. a ≤ b) places

-- it is from the marks, or the number beside them
abbrev pub IsFrom : List ℕ → Option ℕ → ℕ → Type 0
IsFrom marks head len = Contains marks len ⊎ (head ≡ Some len)

-- the marks that are left are old ones up to this number, of which there are none where there is no number
abbrev pub AreLeft : List ℕ → List ℕ → Option ℕ → Type 0
AreLeft old new until = (len : ℕ) → Contains new len → Contains old len × (bound : ℕ) × (until ≡ Some bound) × (len ≤ bound)
