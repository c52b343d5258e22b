-- The block of each operator of terms: its gates, the word or the literal that it makes, and how many variables it has.
use Rattle.std.specs.Prelude.{ℕ, ◌+◌, Bool, true, false, List, [], ◌∷◌, ◌++◌, length, take, drop, map, replicate, slice_index_or}
use Rattle.ax_proof.specs.Literal.{Literal, literal, negation}
use Rattle.ax_gates.specs.Gates.{Gate, next}
use Rattle.ax_gates.specs.Words.{fresh, and_gates, or_gates, xor_gates, lit_true, lit_false}
use Rattle.ax_gates_adders.specs.Adders.{wrap_gates, wrap_outs, equal_gates, less_gates}
use Rattle.ax_gates_shifter.specs.Shifter.{filling, shift_gates, shift_outs}
use Rattle.ax_gates_multiplier.specs.Products.{prod_gates, prod_outs, prod_vars}
use Rattle.ax_gates_divider.specs.Divisions.{Division, division, divide_vars}
use Rattle.ax_term.specs.declared.WordOp.{WordOp}
use Rattle.ax_term.specs.declared.WordOp.TheVariants.{Add, Sub, Mul, High, Quot, Left, Shl, Shr, And, Or, Xor}
use Rattle.ax_term.specs.declared.TestOp.{TestOp}
use Rattle.ax_term.specs.declared.TestOp.TheVariants.{Eq, Lt}

-- a word of 32 bits as one of 64 bits, by its top bit
abbrev pub extended : List Literal → List Literal
extended a = a ++ replicate 32 (slice_index_or a 31 lit_false)

-- an operator at two words of 32 bits, with variables after n
abbrev pub word_gates : WordOp → ℕ → List Literal → List Literal → List Gate
word_gates Add n a b = wrap_gates n a b lit_false
word_gates Sub n a b = wrap_gates n a (map negation b) lit_true
word_gates Mul n a b = prod_gates n a b
word_gates High n a b = prod_gates n (extended a) (extended b)
word_gates Quot n a b = (division n a b).gates
word_gates Left n a b = (division n a b).gates
word_gates Shl n a b = shift_gates false (filling false a) n a (take 5 b) 1
word_gates Shr n a b = shift_gates true (filling true a) n a (take 5 b) 1
word_gates And n a b = and_gates a b
word_gates Or n a b = or_gates a b
word_gates Xor n a b = xor_gates a b

abbrev pub word_outs : WordOp → ℕ → List Literal → List Literal → List Literal
word_outs Add n a b = wrap_outs n a
word_outs Sub n a b = wrap_outs n a
word_outs Mul n a b = prod_outs n a b
word_outs High n a b = take 32 (drop 32 (prod_outs n (extended a) (extended b)))
word_outs Quot n a b = (division n a b).quotient
word_outs Left n a b = (division n a b).remainder
word_outs Shl n a b = shift_outs n a (take 5 b)
word_outs Shr n a b = shift_outs n a (take 5 b)
word_outs And n a b = fresh n a
word_outs Or n a b = fresh n a
word_outs Xor n a b = fresh n a

abbrev pub word_vars : WordOp → ℕ
word_vars Add = 63
word_vars Sub = 63
word_vars Mul = prod_vars 32
word_vars High = prod_vars 64
word_vars Quot = divide_vars 32
word_vars Left = divide_vars 32
word_vars Shl = 160
word_vars Shr = 160
word_vars And = 32
word_vars Or = 32
word_vars Xor = 32

-- a test of two words of 32 bits
abbrev pub test_gates : TestOp → ℕ → List Literal → List Literal → List Gate
test_gates Eq n a b = equal_gates n a b
test_gates Lt n a b = less_gates n a b lit_true

abbrev pub test_out : TestOp → ℕ → Literal
test_out Eq n = next (n + 32)
test_out Lt n = literal (n + 32) false

abbrev pub test_vars : TestOp → ℕ
test_vars Eq = 33
test_vars Lt = 32
