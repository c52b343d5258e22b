-- The report of the order of suspicion.
use Rattle.std.specs.Prelude.{ℕ, zero, suc, ◌+◌, ◌++◌, List, codes}
use Rattle.std.specs.Fmt.{decimal}
use Rattle.std.specs.List.{flat_map}
use Rattle.ax_rank.specs.declared.places.Standing.{Standing}

-- a fraction as it is, and one over 0 as 0
abbrev pub fraction_text : ℕ → ℕ → List ℕ
fraction_text n zero = codes "0/1"
fraction_text n (suc d) = decimal n ++ (codes "/" ++ decimal (suc d))

abbrev pub place_line : Standing → List ℕ
place_line s = codes "expression " ++ (decimal (s.place + 1) ++ (codes ": " ++ (fraction_text s.score.num s.score.den ++ codes "\n")))

-- a line for each candidate, in the order
abbrev pub order_report : List Standing → List ℕ
order_report order = flat_map place_line order
