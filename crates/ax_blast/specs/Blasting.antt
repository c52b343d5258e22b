-- The clause list of terms: variable 1 is true, each distinct subterm gets literals by its block, and the asserted terms are true.
use Rattle.std.specs.Prelude.{◌≡◌, ℕ, zero, suc, ◌+◌, ◌*◌, ◌/◌, ◌%◌, ◌==◌, Bool, true, false, if◌then◌else◌, ℤ, List, [], ◌∷◌, ◌++◌, length, map, replicate, slice_index_or}
use Rattle.std.specs.Int.{w32, cast_unsigned, int_wrap}
use Rattle.ax_proof.specs.Literal.{Literal, literal, negation}
use Rattle.ax_proof.specs.Assignment.{lit_value, satisfies}
use Rattle.ax_gates.specs.Gates.{Gate, free, both, as_clause, as_clauses, next, blocks}
use Rattle.ax_gates.specs.Words.{fresh, pick_gates, lit_true, lit_false}
use Rattle.ax_gates_adders.specs.Adders.{signed_value}
use Rattle.ax_blast.specs.Blocks.{word_gates, word_outs, word_vars, test_gates, test_out, test_vars}
use Rattle.ax_term.specs.Tree.{Tree, word, word_sym, flag, flag_sym, make, compare, no, all, pick, is_word}
use Rattle.ax_term.specs.Folding.{same_tree}
use Rattle.ax_term.specs.Values.{Interpretation, word_under, flag_under}
use Rattle.ax_term.specs.Order.{among, order_of}

-- the literals that a tree was given, for a word its bits with the lowest first, and for a flag one
pub record Place : Type 0 where
  pub term : Tree
  pub lits : List Literal

-- the literals of the tree, or none where it was given none
abbrev pub lits_of : List Place → Tree → List Literal
lits_of [] t = []
lits_of (p ∷ ps) t = if same_tree p.term t then p.lits else lits_of ps t

-- the literal of a flag
abbrev pub flag_lit : List Literal → Literal
flag_lit ls = slice_index_or ls 0 lit_false

-- the low bits of a number, as literals 1 and -1
abbrev pub constant_bits : ℕ → ℕ → List Literal
constant_bits zero z = []
constant_bits (suc k) z = literal 1 (z % 2 == 1) ∷ constant_bits k (z / 2)

-- the bits of a constant word
unfoldable pub word_bits : ℤ → List Literal
word_bits z = constant_bits 32 (cast_unsigned w32 (int_wrap w32 z))

-- so many new variables after n
abbrev pub new_bits : ℕ → ℕ → List Literal
new_bits n zero = []
new_bits n (suc k) = next n ∷ new_bits (n + 1) k

-- the bits of a word symbol, which no clause binds
unfoldable pub symbol_bits : ℕ → List Literal
symbol_bits n = new_bits n 32

unfoldable pub symbol_gates : List Gate
symbol_gates = replicate 32 free

-- the block of a tree after n variables, whose children have literals
abbrev pub gates_of : List Place → ℕ → Tree → List Gate
gates_of ps n (word z) = []
gates_of ps n (word_sym k) = symbol_gates
gates_of ps n (flag b) = []
gates_of ps n (flag_sym k) = free ∷ []
gates_of ps n (make op a b) = word_gates op n (lits_of ps a) (lits_of ps b)
gates_of ps n (compare op a b) = test_gates op n (lits_of ps a) (lits_of ps b)
gates_of ps n (no f) = []
gates_of ps n (all f g) = both (flag_lit (lits_of ps f)) (flag_lit (lits_of ps g)) ∷ []
gates_of ps n (pick f a b) = pick_gates (flag_lit (lits_of ps f)) (lits_of ps a) (lits_of ps b)

-- the literals that it gives the tree
abbrev pub outs_of : List Place → ℕ → Tree → List Literal
outs_of ps n (word z) = word_bits z
outs_of ps n (word_sym k) = symbol_bits n
outs_of ps n (flag b) = literal 1 b ∷ []
outs_of ps n (flag_sym k) = next n ∷ []
outs_of ps n (make op a b) = word_outs op n (lits_of ps a) (lits_of ps b)
outs_of ps n (compare op a b) = test_out op n ∷ []
outs_of ps n (no f) = negation (flag_lit (lits_of ps f)) ∷ []
outs_of ps n (all f g) = next n ∷ []
outs_of ps n (pick f a b) = fresh n (lits_of ps a)

-- how many variables it has
abbrev pub vars_of : Tree → ℕ
vars_of (word z) = 0
vars_of (word_sym k) = 32
vars_of (flag b) = 0
vars_of (flag_sym k) = 1
vars_of (make op a b) = word_vars op
vars_of (compare op a b) = test_vars op
vars_of (no f) = 0
vars_of (all f g) = 1
vars_of (pick f a b) = 32

abbrev pub place_of : List Place → ℕ → Tree → Place
place_of ps n t = record { term = t; lits = outs_of ps n t }

-- the blocks of trees in turn
abbrev pub clauses_from : List Place → ℕ → List Tree → List (List Literal)
clauses_from ps n [] = []
clauses_from ps n (t ∷ ts) = blocks n (gates_of ps n t) ++ clauses_from (place_of ps n t ∷ ps) (n + vars_of t) ts

abbrev pub places_from : List Place → ℕ → List Tree → List Place
places_from ps n [] = ps
places_from ps n (t ∷ ts) = places_from (place_of ps n t ∷ ps) (n + vars_of t) ts

abbrev pub vars_from : ℕ → List Tree → ℕ
vars_from n [] = n
vars_from n (t ∷ ts) = vars_from (n + vars_of t) ts

-- the literals of the distinct subterms of asserted and named terms, and how many variables there are in all
abbrev pub places_of : List Tree → List Tree → List Place
places_of asserted named = places_from [] 1 (order_of asserted named)

abbrev pub list_vars : List Tree → List Tree → ℕ
list_vars asserted named = vars_from 1 (order_of asserted named)

-- the literals of flags
abbrev pub flag_lits : List Place → List Tree → List Literal
flag_lits ps [] = []
flag_lits ps (t ∷ ts) = flag_lit (lits_of ps t) ∷ flag_lits ps ts

-- a clause for each literal
abbrev pub units : List Literal → List (List Literal)
units [] = []
units (l ∷ ls) = (l ∷ []) ∷ units ls

-- the clause list: variable 1 is true, the blocks, and the asserted terms are true
abbrev pub clause_list : List Tree → List Tree → List (List Literal)
clause_list asserted named =
    as_clause (lit_true ∷ [])
    ++ (clauses_from [] 1 (order_of asserted named) ++ as_clauses (units (flag_lits (places_of asserted named) asserted)))

-- a word's literals are its bits, and a flag's literal is its value
abbrev pub HasValueBy : Bool → Interpretation → (ℕ → Bool) → Tree → List Literal → Type 0
HasValueBy true i v t ls = signed_value v ls ≡ word_under i t
HasValueBy false i v t ls = lit_value v (flag_lit ls) ≡ flag_under i t

abbrev pub HasValue : Interpretation → (ℕ → Bool) → Tree → List Literal → Type 0
HasValue i v t ls = HasValueBy (is_word t) i v t ls

-- each of the trees has the value of its literals
abbrev pub EachHasValue : Interpretation → (ℕ → Bool) → List Place → List Tree → Type 0
EachHasValue i v ps ts = (t : Tree) → among ts t ≡ true → HasValue i v t (lits_of ps t)

-- the flags are true
abbrev pub AllTrue : Interpretation → List Tree → Type 0
AllTrue i [] = Unit {0}
AllTrue i (t ∷ ts) = (flag_under i t ≡ true) × AllTrue i ts

-- a valuation has for a symbol the value of its literals
abbrev pub Reads : Interpretation → (ℕ → Bool) → Tree → List Literal → Type 0
Reads i v (word_sym k) ls = i.words k ≡ signed_value v ls
Reads i v (flag_sym k) ls = i.flags k ≡ lit_value v (flag_lit ls)
Reads i v (word z) ls = Unit {0}
Reads i v (flag b) ls = Unit {0}
Reads i v (make op a b) ls = Unit {0}
Reads i v (compare op a b) ls = Unit {0}
Reads i v (no f) ls = Unit {0}
Reads i v (all f g) ls = Unit {0}
Reads i v (pick f a b) ls = Unit {0}
