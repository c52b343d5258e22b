-- How many clauses the list has.
use Rattle.std.proofs.Common.{◌≡◌, ℕ, zero, suc, ◌+◌, ◌*◌, ◌≤◌, Bool, true, false, Option, Some, None, List, [], ◌∷◌, ◌++◌, length, take, map, replicate, refl, ap, sym, subst, ◌∙◌, arith, length-append}
use Rattle.std.specs.Prelude.{option_to_list}
use Rattle.ax_proof.specs.Literal.{Literal, negation}
use Rattle.ax_proof.specs.Clause.{clause_of}
use Rattle.ax_gates.specs.Gates.{Gate, free, both, either, differ, choose, parity, majority, none, gate_clauses, and_clauses, xor_clauses, mux_clauses, parity_clauses, maj_clauses, none_clauses, each_not, as_clause, as_clauses, block, next, blocks}
use Rattle.ax_gates.specs.Words.{fresh, pairwise, pick_gates, xor_gates, lit_true, lit_false}
use Rattle.ax_gates.proofs.Circuits.{blocks-append, length-fresh}
use Rattle.ax_gates.proofs.WordLaws.{length-pairwise}
use Rattle.ax_gates_adders.specs.Adders.{carry_gates, wrap_gates, less_gates, equal_gates}
use Rattle.ax_gates_shifter.specs.Shifter.{filling, moved_word, shift_gates}
use Rattle.ax_gates_multiplier.specs.Products.{row_gates, row_sum_gates, row_sum_outs, row_sum_vars, rows_gates, prod_gates}
use Rattle.ax_gates_divider.specs.Divisions.{division, negated, fits, turn_gates}
use Rattle.ax_gates_adders.specs.Adders.{carry_outs}
use Rattle.ax_blast.specs.Blocks.{extended, word_gates, word_vars, test_gates}
use Rattle.ax_term.specs.Tree.{Tree, word, word_sym, flag, flag_sym, make, compare, no, all, pick}
use Rattle.ax_term.specs.declared.WordOp.{WordOp}
use Rattle.ax_term.specs.declared.WordOp.TheVariants.{Add, Sub, Mul, High, Quot, Left, Shl, Shr, And, Or, Xor}
use Rattle.ax_term.specs.declared.TestOp.{TestOp}
use Rattle.ax_term.specs.declared.TestOp.TheVariants.{Eq, Lt}
use Rattle.ax_term.specs.Order.{order_of}
use Rattle.ax_term.proofs.Orders.{order_after}
use Rattle.ax_blast.specs.Blasting.{Place, lits_of, flag_lit, gates_of, vars_of, place_of, clauses_from, places_of, flag_lits, units, clause_list}
use Rattle.ax_blast.proofs.Bits.{symbol_blocks, one_free}
use Rattle.ax_blast.proofs.Operators.{word_count, test_count}
use Rattle.ax_blast.proofs.Places.{AllSized, Ready, AllReady, AllSorts, all_ready, child_size, place_size}

as_one : (o : Option (List Literal)) → length (option_to_list o) ≤ 1
as_one None = omega arith
as_one (Some c) = omega arith

clause_bound : (ls : List Literal) → length (as_clause ls) ≤ 1
unfolding as_clause
clause_bound ls = as_one (clause_of ls)

clauses_bound : (cs : List (List Literal)) → length (as_clauses cs) ≤ length cs
clauses_bound [] = omega arith
clauses_bound (c ∷ cs) = let one = clause_bound c in let h = clauses_bound cs in let e = length-append (as_clause c) (as_clauses cs) in omega arith

block_bound : (z : Literal) (g : Gate) → length (block z g) ≤ length (gate_clauses z g)
unfolding block
block_bound z g = clauses_bound (gate_clauses z g)

-- a gate of at most eight clauses
abbrev pub Small : Gate → Type 0
Small g = (z : Literal) → length (gate_clauses z g) ≤ 8

abbrev pub AllSmall : List Gate → Type 0
AllSmall [] = Unit {0}
AllSmall (g ∷ gs) = Small g × AllSmall gs

both_small : (a b : Literal) → Small (both a b)
unfolding and_clauses
both_small a b z = omega arith

either_small : (a b : Literal) → Small (either a b)
unfolding and_clauses
either_small a b z = omega arith

differ_small : (a b : Literal) → Small (differ a b)
unfolding xor_clauses
differ_small a b z = omega arith

choose_small : (f a b : Literal) → Small (choose f a b)
unfolding mux_clauses
choose_small f a b z = omega arith

parity_small : (a b c : Literal) → Small (parity a b c)
unfolding parity_clauses
parity_small a b c z = omega arith

majority_small : (a b c : Literal) → Small (majority a b c)
unfolding maj_clauses
majority_small a b c z = omega arith

small_append : (gs hs : List Gate) → AllSmall gs → AllSmall hs → AllSmall (gs ++ hs)
small_append [] hs p q = q
small_append (g ∷ gs) hs p q = (p.0, small_append gs hs p.1 q)

small_blocks : (n : ℕ) (gs : List Gate) → AllSmall gs → length (blocks n gs) ≤ 8 * length gs
small_blocks n [] s = omega arith
small_blocks n (g ∷ gs) s =
    let one = block_bound (next n) g in
    let low = s.0 (next n) in
    let h = small_blocks (n + 1) gs s.1 in
    let e = length-append (block (next n) g) (blocks (n + 1) gs) in
    omega arith

pairwise_small : (f : Literal → Literal → Gate) (a b : List Literal) → ((x y : Literal) → Small (f x y)) → AllSmall (pairwise f a b)
pairwise_small f [] b s = tt
pairwise_small f (x ∷ a) [] s = tt
pairwise_small f (x ∷ a) (y ∷ b) s = (s x y, pairwise_small f a b s)

carry_small : (n : ℕ) (a b : List Literal) (c : Literal) → AllSmall (carry_gates n a b c)
carry_small n [] b c = tt
carry_small n (x ∷ a) [] c = tt
carry_small n (x ∷ a) (y ∷ b) c = (parity_small x y c, (majority_small x y c, carry_small (n + 1 + 1) a b (next (n + 1))))

wrap_small : (n : ℕ) (a b : List Literal) (c : Literal) → AllSmall (wrap_gates n a b c)
wrap_small n [] b c = tt
wrap_small n (x ∷ []) [] c = tt
wrap_small n (x ∷ u ∷ a) [] c = tt
wrap_small n (x ∷ []) (y ∷ b) c = (parity_small x y c, tt)
wrap_small n (x ∷ u ∷ a) (y ∷ b) c = (parity_small x y c, (majority_small x y c, wrap_small (n + 1 + 1) (u ∷ a) b (next (n + 1))))

less_small : (n : ℕ) (a b : List Literal) (c : Literal) → AllSmall (less_gates n a b c)
less_small n [] b c = tt
less_small n (x ∷ []) [] c = tt
less_small n (x ∷ u ∷ a) [] c = tt
less_small n (x ∷ []) (y ∷ b) c = (majority_small (negation x) y c, tt)
less_small n (x ∷ u ∷ a) (y ∷ b) c = (majority_small x (negation y) c, less_small (n + 1) (u ∷ a) b (next n))

row_small : (a : List Literal) (b : Literal) → AllSmall (row_gates a b)
row_small [] b = tt
row_small (x ∷ a) b = (both_small x b, row_small a b)

rows_small : (n : ℕ) (a bs t : List Literal) → AllSmall (rows_gates n a bs t)
rows_small n a [] t = tt
rows_small n a (b ∷ bs) [] = tt
rows_small n a (b ∷ bs) (y ∷ t) =
    small_append (row_sum_gates n t (take (length t) a) b) (rows_gates (n + row_sum_vars (length t)) a bs (row_sum_outs n t))
    (small_append (row_gates (take (length t) a) b) (wrap_gates (n + length (take (length t) a)) t (fresh n (take (length t) a)) lit_false)
    (row_small (take (length t) a) b) (wrap_small (n + length (take (length t) a)) t (fresh n (take (length t) a)) lit_false))
    (rows_small (n + row_sum_vars (length t)) a bs (row_sum_outs n t))

prod_small : (n : ℕ) (a b : List Literal) → AllSmall (prod_gates n a b)
prod_small n a [] = tt
prod_small n a (b ∷ bs) = small_append (row_gates a b) (rows_gates (n + length a) a bs (fresh n a)) (row_small a b) (rows_small (n + length a) a bs (fresh n a))

turn_small : (n : ℕ) (wide minus : List Literal) (low : ℕ) → AllSmall (turn_gates n wide minus low)
turn_small n wide minus low =
    small_append (carry_gates n wide minus lit_true) (pick_gates (fits n wide) (take low (carry_outs n wide lit_true)) (take low wide))
    (carry_small n wide minus lit_true) (pairwise_small (choose (fits n wide)) (take low (carry_outs n wide lit_true)) (take low wide) (λ x y. choose_small (fits n wide) x y))

division_small : (n : ℕ) (a b : List Literal) → AllSmall (division n a b).gates
division_small n [] b = tt
division_small n (x ∷ a) b =
    small_append (division n a b).gates (turn_gates (division n a b).vars (x ∷ (division n a b).remainder) (negated b) (length b))
    (division_small n a b) (turn_small (division n a b).vars (x ∷ (division n a b).remainder) (negated b) (length b))

shift_small : (right : Bool) (d : Literal) (n : ℕ) (a ks : List Literal) (s : ℕ) → AllSmall (shift_gates right d n a ks s)
shift_small right d n a [] s = tt
shift_small right d n a (k ∷ ks) s =
    small_append (pick_gates k (moved_word right d s a) a) (shift_gates right d (n + length a) (fresh n a) ks (s * 2))
    (pairwise_small (choose k) (moved_word right d s a) a (λ x y. choose_small k x y)) (shift_small right d (n + length a) (fresh n a) ks (s * 2))

word_small : (n : ℕ) (op : WordOp) (a b : List Literal) → AllSmall (word_gates op n a b)
word_small n Add a b = wrap_small n a b lit_false
word_small n Sub a b = wrap_small n a (map negation b) lit_true
word_small n Mul a b = prod_small n a b
word_small n High a b = prod_small n (extended a) (extended b)
word_small n Quot a b = division_small n a b
word_small n Left a b = division_small n a b
word_small n Shl a b = shift_small false (filling false a) n a (take 5 b) 1
word_small n Shr a b = shift_small true (filling true a) n a (take 5 b) 1
word_small n And a b = pairwise_small both a b (λ x y. both_small x y)
word_small n Or a b = pairwise_small either a b (λ x y. either_small x y)
word_small n Xor a b = pairwise_small differ a b (λ x y. differ_small x y)

few_vars : (op : WordOp) → word_vars op ≤ 8000
few_vars Add = omega arith
few_vars Sub = omega arith
few_vars Mul = omega arith
few_vars High = omega arith
few_vars Quot = omega arith
few_vars Left = omega arith
few_vars Shl = omega arith
few_vars Shr = omega arith
few_vars And = omega arith
few_vars Or = omega arith
few_vars Xor = omega arith

pub few_vars_of : (t : Tree) → vars_of t ≤ 8000
few_vars_of (word z) = omega arith
few_vars_of (word_sym k) = omega arith
few_vars_of (flag b) = omega arith
few_vars_of (flag_sym k) = omega arith
few_vars_of (make op a b) = few_vars op
few_vars_of (compare Eq a b) = omega arith
few_vars_of (compare Lt a b) = omega arith
few_vars_of (no f) = omega arith
few_vars_of (all f g) = omega arith
few_vars_of (pick f a b) = omega arith

each_not_count : (z : Literal) (xs : List Literal) → length (each_not z xs) ≡ length xs
each_not_count z [] = refl
each_not_count z (x ∷ xs) = ap suc (each_not_count z xs)

none_bound : (z : Literal) (xs : List Literal) → length (gate_clauses z (none xs)) ≡ length xs + 1
unfolding none_clauses
none_bound z xs = let h = each_not_count z xs in omega arith

equal_bound : (n : ℕ) (a b : List Literal) → length a ≡ 32 → length b ≡ 32 → length (blocks n (equal_gates n a b)) ≤ 64000
equal_bound n a b la lb =
    let p = length-pairwise differ a b (la ∙ sym lb) in
    let split = ap length (blocks-append n (n + length a) (xor_gates a b) (none (fresh n a) ∷ []) (omega arith)) in
    let sum = length-append (blocks n (xor_gates a b)) (blocks (n + length a) (none (fresh n a) ∷ [])) in
    let first = small_blocks n (xor_gates a b) (pairwise_small differ a b (λ x y. differ_small x y)) in
    let last = block_bound (next (n + length a)) (none (fresh n a)) in
    let f = length-fresh n a in
    let k = none_bound (next (n + length a)) (fresh n a) in
    let tail = length-append (block (next (n + length a)) (none (fresh n a))) [] in
    omega arith

word_bound : (n : ℕ) (op : WordOp) (a b : List Literal) → length a ≡ 32 → length b ≡ 32 → length (blocks n (word_gates op n a b)) ≤ 64000
word_bound n op a b la lb =
    let s = small_blocks n (word_gates op n a b) (word_small n op a b) in
    let c = word_count n op a b la lb in
    let f = few_vars op in
    omega arith

test_bound : (n : ℕ) (op : TestOp) (a b : List Literal) → length a ≡ 32 → length b ≡ 32 → length (blocks n (test_gates op n a b)) ≤ 64000
test_bound n Eq a b la lb = equal_bound n a b la lb
test_bound n Lt a b la lb =
    let s = small_blocks n (less_gates n a b lit_true) (less_small n a b lit_true) in
    let c = test_count n Lt a b la lb in
    omega arith

place_bound : (ps : List Place) (n : ℕ) (t : Tree) → AllSized ps → Ready ps t → length (blocks n (gates_of ps n t)) ≤ 64000
place_bound ps n (word z) sz r = omega arith
place_bound ps n (word_sym k) sz r = let e = ap length (symbol_blocks n) in omega arith
place_bound ps n (flag b) sz r = omega arith
place_bound ps n (flag_sym k) sz r = let e = ap length (one_free n) in omega arith
place_bound ps n (make op a b) sz r = word_bound n op (lits_of ps a) (lits_of ps b) (child_size ps true a sz r.0) (child_size ps true b sz r.1)
place_bound ps n (compare op a b) sz r = test_bound n op (lits_of ps a) (lits_of ps b) (child_size ps true a sz r.0) (child_size ps true b sz r.1)
place_bound ps n (no f) sz r = omega arith
place_bound ps n (all f g) sz r =
    let s = small_blocks n (gates_of ps n (all f g)) (both_small (flag_lit (lits_of ps f)) (flag_lit (lits_of ps g)), tt) in omega arith
place_bound ps n (pick f a b) sz r =
    let la = child_size ps true a sz r.1 in
    let c = length-pairwise (choose (flag_lit (lits_of ps f))) (lits_of ps a) (lits_of ps b) (la ∙ sym (child_size ps true b sz r.2)) in
    let s = small_blocks n (gates_of ps n (pick f a b)) (pairwise_small (choose (flag_lit (lits_of ps f))) (lits_of ps a) (lits_of ps b) (λ x y. choose_small (flag_lit (lits_of ps f)) x y)) in
    omega arith

places_bound : (ps : List Place) (n : ℕ) (ts : List Tree) → AllSized ps → AllReady ps n ts → length (clauses_from ps n ts) ≤ 64000 * length ts
places_bound ps n [] sz r = omega arith
places_bound ps n (t ∷ ts) sz r =
    let one = place_bound ps n t sz r.0 in
    let h = places_bound (place_of ps n t ∷ ps) (n + vars_of t) ts (place_size ps n t sz r.0, sz) r.1 in
    let e = length-append (blocks n (gates_of ps n t)) (clauses_from (place_of ps n t ∷ ps) (n + vars_of t) ts) in
    omega arith

units_count : (ps : List Place) (ts : List Tree) → length (units (flag_lits ps ts)) ≡ length ts
units_count ps [] = refl
units_count ps (t ∷ ts) = ap suc (units_count ps ts)

pub list_bound : (asserted named : List Tree) → AllSorts (order_of asserted named) → length (clause_list asserted named) ≤ 64000 * length (order_of asserted named) + length asserted + 1
list_bound asserted named so =
    let ts : List Tree = order_of asserted named in
    let last : List (List Literal) = units (flag_lits (places_of asserted named) asserted) in
    let r : AllReady [] 1 ts = all_ready [] [] 1 ts (λ s e. absurd (cc)) (order_after asserted named) so in
    let one = clause_bound (lit_true ∷ []) in
    let mid = places_bound [] 1 ts tt r in
    let end = clauses_bound last in
    let count = units_count (places_of asserted named) asserted in
    let e = length-append (as_clause (lit_true ∷ [])) (clauses_from [] 1 ts ++ as_clauses last) in
    let f = length-append (clauses_from [] 1 ts) (as_clauses last) in
    omega arith
