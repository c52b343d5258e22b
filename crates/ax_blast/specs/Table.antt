-- Literals by the numbers of a bank's terms.
use Rattle.std.specs.Prelude.{◌≡◌, ℕ, ◌<◌, ◌≤◌, false, List, [], ◌∷◌, ◌++◌, length, map, slice_get, slice_index_or, Some}
use Rattle.std.specs.Global.{Vec}
use Rattle.ax_proof.specs.Literal.{Literal, literal, negation}
use Rattle.ax_gates.specs.Gates.{Gate, free, both, next}
use Rattle.ax_gates.specs.Words.{fresh, pick_gates}
use Rattle.ax_blast.specs.Blocks.{word_gates, word_outs, test_gates, test_out}
use Rattle.ax_term.specs.Tree.{Tree, is_word}
use Rattle.ax_term.specs.Numbered.{Numbered, word_at, word_sym_at, flag_at, flag_sym_at, make_at, compare_at, no_at, all_at, pick_at, number_of}
use Rattle.ax_term.specs.Bank.{HasFlag}
use Rattle.ax_term.specs.Order.{tree_at}
use Rattle.ax_blast.specs.Blasting.{Place, lits_of, flag_lit, word_bits, symbol_bits, symbol_gates}

-- what each vector holds
abbrev pub table_of : List (Vec Literal) → List (List Literal)
table_of rows = map (λ row. row.items) rows

-- the table has the literals of each term of the bank
abbrev pub IsTableOf : List Numbered → List Place → List (List Literal) → Type 0
IsTableOf ts ps table = (n : ℕ) → n < length ts → slice_get table n ≡ Some (lits_of ps (tree_at ts n))

-- trees of flags
abbrev pub AllFlagTrees : List Tree → Type 0
AllFlagTrees [] = Unit {0}
AllFlagTrees (t ∷ ts) = (is_word t ≡ false) × AllFlagTrees ts

-- the terms are flags of the bank
abbrev pub AllFlags : List Numbered → List Numbered → Type 0
AllFlags ts [] = Unit {0}
AllFlags ts (t ∷ rest) = HasFlag ts t × AllFlags ts rest

-- the literals of a term by its number
abbrev pub row : List (List Literal) → Numbered → List Literal
row table t = slice_index_or table (number_of t) []

-- a word has 32 literals, and a flag one
abbrev pub IsWordRow : List (List Literal) → Numbered → Type 0
IsWordRow table t = (number_of t < length table) × (length (row table t) ≡ 32)

abbrev pub IsFlagRow : List (List Literal) → Numbered → Type 0
IsFlagRow table t = (number_of t < length table) × (length (row table t) ≡ 1)

abbrev pub ChildrenSized : List (List Literal) → Numbered → Type 0
ChildrenSized table (word_at n z) = Unit {0}
ChildrenSized table (word_sym_at n k) = Unit {0}
ChildrenSized table (flag_at n b) = Unit {0}
ChildrenSized table (flag_sym_at n k) = Unit {0}
ChildrenSized table (make_at n op a b) = IsWordRow table a × IsWordRow table b
ChildrenSized table (compare_at n op a b) = IsWordRow table a × IsWordRow table b
ChildrenSized table (no_at n f) = IsFlagRow table f
ChildrenSized table (all_at n f g) = IsFlagRow table f × IsFlagRow table g
ChildrenSized table (pick_at n f a b) = IsFlagRow table f × IsWordRow table a × IsWordRow table b

-- the block of a term, by the table
abbrev pub node_gates : List (List Literal) → ℕ → Numbered → List Gate
node_gates table n (word_at m z) = []
node_gates table n (word_sym_at m k) = symbol_gates
node_gates table n (flag_at m b) = []
node_gates table n (flag_sym_at m k) = free ∷ []
node_gates table n (make_at m op a b) = word_gates op n (row table a) (row table b)
node_gates table n (compare_at m op a b) = test_gates op n (row table a) (row table b)
node_gates table n (no_at m f) = []
node_gates table n (all_at m f g) = both (flag_lit (row table f)) (flag_lit (row table g)) ∷ []
node_gates table n (pick_at m f a b) = pick_gates (flag_lit (row table f)) (row table a) (row table b)

abbrev pub node_outs : List (List Literal) → ℕ → Numbered → List Literal
node_outs table n (word_at m z) = word_bits z
node_outs table n (word_sym_at m k) = symbol_bits n
node_outs table n (flag_at m b) = literal 1 b ∷ []
node_outs table n (flag_sym_at m k) = next n ∷ []
node_outs table n (make_at m op a b) = word_outs op n (row table a) (row table b)
node_outs table n (compare_at m op a b) = test_out op n ∷ []
node_outs table n (no_at m f) = negation (flag_lit (row table f)) ∷ []
node_outs table n (all_at m f g) = next n ∷ []
node_outs table n (pick_at m f a b) = fresh n (row table a)

-- the literals of flags by their numbers
abbrev pub AllFlagRows : List (List Literal) → List Numbered → Type 0
AllFlagRows table [] = Unit {0}
AllFlagRows table (t ∷ ts) = IsFlagRow table t × AllFlagRows table ts

abbrev pub row_flags : List (List Literal) → List Numbered → List Literal
row_flags table [] = []
row_flags table (t ∷ ts) = flag_lit (row table t) ∷ row_flags table ts
