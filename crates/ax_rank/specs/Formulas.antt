-- The three formulas of suspicion, as fractions of numerator and denominator.
use Rattle.std.specs.Prelude.{ℕ, zero, suc, ◌+◌, ◌*◌, ◌^◌, ◌==◌, nat_lt, if◌then◌else◌}
use Rattle.ax_rank.specs.Runs.{Counts}

-- how many runs fail, and how many pass
abbrev pub failing : Counts → ℕ
failing c = c.ef + c.nf

abbrev pub passing : Counts → ℕ
passing c = c.ep + c.np

-- n over d, and 0 where d is 0
abbrev pub fraction : ℕ → ℕ → ℕ × ℕ
fraction n zero = (0, 1)
fraction n (suc d) = (n, suc d)

-- a score of fewer than 2^31 runs; of more runs each place scores 0
abbrev pub of_few : Counts → ℕ × ℕ → ℕ × ℕ
of_few c score = if nat_lt (failing c + passing c) (2 ^ 31) then score else (0, 1)

-- of the runs that fail or cover the place, those that do both
abbrev pub jaccard : Counts → ℕ × ℕ
jaccard c = of_few c (fraction c.ef (c.ef + c.ep + c.nf))

-- the square of the cosine between failing and covering the place
abbrev pub ochiai : Counts → ℕ × ℕ
ochiai c = of_few c (fraction (c.ef * c.ef) (failing c * (c.ef + c.ep)))

-- the part of the failing runs that covers the place, over that part and the passing runs' part together
abbrev pub tarantula : Counts → ℕ × ℕ
tarantula c = of_few c
    (if c.ef == 0 then (0, 1)
    else if passing c == 0 then (1, 1)
    else fraction (c.ef * passing c) (c.ef * passing c + c.ep * failing c))
