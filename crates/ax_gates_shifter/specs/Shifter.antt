-- Shifts of words in stages: by 1, 2, 4, 8 and 16 places, each where its bit of the count is 1.
use Rattle.std.specs.Prelude.{ℕ, ◌+◌, ◌*◌, Bool, true, false, List, [], ◌∷◌, ◌++◌, length, take, drop, replicate, slice_index_or, ℤ}
use Rattle.std.specs.Int.{w32, cast_signed, int_shl, int_shr}
use Rattle.ax_proof.specs.Literal.{Literal}
use Rattle.ax_gates.specs.Gates.{Gate}
use Rattle.ax_gates.specs.Words.{word_value, fresh, pick_gates, lit_false}

-- what stands at the free places: to the right the sign, which is the top bit, and to the left 0
abbrev pub filling : Bool → List Literal → Literal
filling true a = slice_index_or a 31 lit_false
filling false a = lit_false

-- the word moved by so many places, to the right or to the left, and cut to its length
abbrev pub moved_word : Bool → Literal → ℕ → List Literal → List Literal
moved_word true fill places a = take (length a) (drop places a ++ replicate places fill)
moved_word false fill places a = take (length a) (replicate places fill ++ a)

-- for each bit of the count, the lowest first: the word moved where the bit is 1, by twice as many places as before
abbrev pub shift_gates : Bool → Literal → ℕ → List Literal → List Literal → ℕ → List Gate
shift_gates right fill n a [] places = []
shift_gates right fill n a (k ∷ count) places =
    pick_gates k (moved_word right fill places a) a ++ shift_gates right fill (n + length a) (fresh n a) count (places * 2)

-- the word of the last stage
abbrev pub shift_outs : ℕ → List Literal → List Literal → List Literal
shift_outs n a [] = a
shift_outs n a (k ∷ count) = shift_outs (n + length a) (fresh n a) count

-- a word of 32 bits as a number in two's complement
abbrev pub signed_value : (ℕ → Bool) → List Literal → ℤ
signed_value v a = cast_signed w32 (word_value v a)

-- the shift of a number of 32 bits: to the right it keeps the sign, to the left it drops what goes beyond the word
abbrev pub shifted : Bool → ℤ → ℕ → ℤ
shifted true x k = int_shr x k
shifted false x k = int_shl w32 x k
