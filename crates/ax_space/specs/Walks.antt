-- Words of positions, length by length.
use Rattle.std.specs.Prelude.{ℕ, zero, suc, Bool, true, false, List, [], ◌∷◌, ◌++◌, map, flat_map, filter, Option, Some}
use Rattle.ax_prog.specs.declared.Expr.{Expr}
use Rattle.ax_space_trees.specs.Region.{Spot, Out, In, child}

-- where a walk along a word ends
abbrev pub reached : ℕ → Spot → List ℕ → Spot
reached grow spot [] = spot
reached grow spot (k ∷ w) = reached grow (child grow spot k) w

abbrev pub is_in : Spot → Bool
is_in Out = false
is_in (In old room) = true

-- whether a walk from this node with so many letters left stays inside
abbrev pub stays : ℕ → Option Expr → ℕ → List ℕ → Bool
stays grow old room w = is_in (reached grow (In old room) w)

-- whether a word is that of a position
abbrev pub has_word : ℕ → Expr → List ℕ → Bool
has_word grow old w = stays grow (Some old) grow w

abbrev pub letters : List ℕ
letters = 1 ∷ 2 ∷ 3 ∷ []

abbrev pub with_letter : List ℕ → ℕ → List ℕ
with_letter w k = w ++ k ∷ []

-- a word with each letter behind it
abbrev pub longer_words : List ℕ → List (List ℕ)
longer_words w = map (with_letter w) letters

-- the words of positions one letter longer than these
abbrev pub next_level : ℕ → Expr → List (List ℕ) → List (List ℕ)
next_level grow old words = flat_map (λ w. filter (has_word grow old) (longer_words w)) words

-- the words of positions of this length
abbrev pub level : ℕ → Expr → ℕ → List (List ℕ)
level grow old zero = [] ∷ []
level grow old (suc n) = next_level grow old (level grow old n)

-- the words of positions shorter than this
abbrev pub shorter : ℕ → Expr → ℕ → List (List ℕ)
shorter grow old zero = []
shorter grow old (suc n) = shorter grow old n ++ level grow old n
