-- Scores as fractions.
use Rattle.std.specs.Prelude.{ℕ, zero, suc, ◌*◌, ◌<◌}
use Rattle.ax_rank.specs.declared.ranker.Score.{Score}

-- n over d is more than m over e, by cross products; a fraction over 0 counts as 0
abbrev pub IsMore : ℕ → ℕ → ℕ → ℕ → Type 0
IsMore n zero m e = ⊥
IsMore n (suc d) m zero = 0 < n
IsMore n (suc d) m (suc e) = m * suc d < n * suc e

-- the first score is the greater fraction
abbrev pub IsAbove : Score → Score → Type 0
IsAbove a b = IsMore a.num a.den b.num b.den
