-- Products of words, modulo the power of two: rows of conjunctions, and wrapping sums of the rows.
use Rattle.std.specs.Prelude.{ℕ, zero, suc, ◌+◌, ◌*◌, ◌-◌, ◌/◌, List, [], ◌∷◌, ◌++◌, length, take}
use Rattle.ax_proof.specs.Literal.{Literal}
use Rattle.ax_gates.specs.Gates.{Gate, both}
use Rattle.ax_gates.specs.Words.{fresh, lit_false}
use Rattle.ax_gates_adders.specs.Adders.{wrap_gates, wrap_outs}

-- a row: each bit of a word with one bit of the other factor
abbrev pub row_gates : List Literal → Literal → List Gate
row_gates [] b = []
row_gates (x ∷ a) b = both x b ∷ row_gates a b

-- a row, and its sum with the total from the row's place on
abbrev pub row_sum_gates : ℕ → List Literal → List Literal → Literal → List Gate
row_sum_gates n total a b = row_gates a b ++ wrap_gates (n + length a) total (fresh n a) lit_false

-- the sum's bits
abbrev pub row_sum_outs : ℕ → List Literal → List Literal
row_sum_outs n total = wrap_outs (n + length total) total

-- how many variables both have: one a bit for the row, and two a bit for the sum, whose last bit has no carry
abbrev pub row_sum_vars : ℕ → ℕ
row_sum_vars bits = bits + (2 * bits - 1)

-- The rows after the first, one for each further bit of the second factor. The total's lowest bit is done; the bits above it
-- are replaced by their sum with the row, which has as many bits.
abbrev pub rows_gates : ℕ → List Literal → List Literal → List Literal → List Gate
rows_gates n a [] total = []
rows_gates n a (b ∷ bs) [] = []
rows_gates n a (b ∷ bs) (low ∷ high) =
    row_sum_gates n high (take (length high) a) b
    ++ rows_gates (n + row_sum_vars (length high)) a bs (row_sum_outs n high)

abbrev pub rows_outs : ℕ → List Literal → List Literal → List Literal
rows_outs n [] total = total
rows_outs n (b ∷ bs) [] = []
rows_outs n (b ∷ bs) (low ∷ high) = low ∷ rows_outs (n + row_sum_vars (length high)) bs (row_sum_outs n high)

-- how many variables so many rows have, of which the last sums one bit
abbrev pub rows_vars : ℕ → ℕ
rows_vars zero = 0
rows_vars (suc rows) = row_sum_vars (suc rows) + rows_vars rows

-- the product: the first row is the total to begin with
abbrev pub prod_gates : ℕ → List Literal → List Literal → List Gate
prod_gates n a [] = []
prod_gates n a (b ∷ bs) = row_gates a b ++ rows_gates (n + length a) a bs (fresh n a)

abbrev pub prod_outs : ℕ → List Literal → List Literal → List Literal
prod_outs n a [] = []
prod_outs n a (b ∷ bs) = rows_outs (n + length a) bs (fresh n a)

-- how many variables it has
abbrev pub prod_vars : ℕ → ℕ
prod_vars bits = 3 * bits * (bits - 1) / 2 + 1
