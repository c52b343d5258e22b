-- The clauses speak of the list's variables alone.
use Rattle.std.proofs.Common.{◌≡◌, ℕ, zero, suc, ◌+◌, ◌*◌, ◌/◌, ◌≤◌, ℤ, w32, Bool, true, false, Option, Some, None, List, [], ◌∷◌, ◌++◌, ◌⊎◌, inl, inr, length, take, drop, map, replicate, slice_index_or, if◌then◌else◌, refl, ap, sym, subst, ◌∙◌, arith}
use Rattle.std.specs.Prelude.{option_to_list}
use Rattle.std.specs.List.{All, Contains}
use Rattle.std.specs.Int.{cast_unsigned, int_wrap}
use Rattle.std.proofs.lemmas.List.Elements.{All-append}
use Rattle.ax_proof.specs.Literal.{Literal, literal, negation, IsOver}
use Rattle.ax_proof.specs.Clause.{clause_of}
use Rattle.ax_proof.proofs.Lists.{Contains-cons_cases, Contains-none}
use Rattle.ax_proof.proofs.Clauses.{MatchClause, clause_of_says}
use Rattle.ax_gates.specs.Gates.{Gate, free, yes, both, either, differ, choose, parity, majority, none, gate_clauses, and_clauses, xor_clauses, mux_clauses, parity_clauses, maj_clauses, none_clauses, each_not, as_clause, as_clauses, block, next, blocks}
use Rattle.ax_gates.specs.Words.{fresh, pairwise, pick_gates, xor_gates, lit_true, lit_false}
use Rattle.ax_gates.proofs.Circuits.{WithinVars, Wired, gate_inputs, within_more}
use Rattle.ax_gates_adders.specs.Adders.{carry_gates, carry_outs, wrap_gates, wrap_outs, less_gates, equal_gates}
use Rattle.ax_gates_shifter.specs.Shifter.{filling, moved_word, shift_gates, shift_outs}
use Rattle.ax_gates_multiplier.specs.Products.{row_gates, row_sum_gates, row_sum_outs, row_sum_vars, rows_gates, rows_outs, prod_gates, prod_outs}
use Rattle.ax_gates_divider.specs.Divisions.{division, negated, fits, turn_gates}
use Rattle.ax_blast.specs.Blocks.{extended, word_gates, word_outs, test_gates, test_out}
use Rattle.ax_term.specs.Tree.{Tree, word, word_sym, flag, flag_sym, make, compare, no, all, pick}
use Rattle.ax_term.specs.Folding.{same_tree}
use Rattle.ax_term.specs.declared.WordOp.{WordOp}
use Rattle.ax_term.specs.declared.WordOp.TheVariants.{Add, Sub, Mul, High, Quot, Left, Shl, Shr, And, Or, Xor}
use Rattle.ax_term.specs.declared.TestOp.{TestOp}
use Rattle.ax_term.specs.declared.TestOp.TheVariants.{Eq, Lt}
use Rattle.ax_term.specs.Order.{order_of}
use Rattle.ax_term.proofs.Orders.{order_after}
use Rattle.ax_blast.specs.Blasting.{Place, lits_of, flag_lit, constant_bits, word_bits, new_bits, symbol_bits, symbol_gates, gates_of, outs_of, vars_of, place_of, clauses_from, places_from, vars_from, places_of, list_vars, flag_lits, units, clause_list}
use Rattle.ax_blast.proofs.Places.{AllSized, AllWithin, Ready, AllReady, AllSorts, all_ready, all_within_more, flag_within, found_within, place_size, place_count, place_wired, place_within}

-- the variables are from 1 on
abbrev pub AllLow : List Literal → Type 0
AllLow [] = Unit {0}
AllLow (l ∷ ls) = (1 ≤ l.var) × AllLow ls

abbrev pub LowGates : List Gate → Type 0
LowGates [] = Unit {0}
LowGates (g ∷ gs) = AllLow (gate_inputs g) × LowGates gs

abbrev pub Over : ℕ → Literal → Type 0
Over n l = (1 ≤ l.var) × (l.var ≤ n)

abbrev pub AllOver : ℕ → List Literal → Type 0
AllOver n [] = Unit {0}
AllOver n (l ∷ ls) = Over n l × AllOver n ls

abbrev pub RowsOver : ℕ → List (List Literal) → Type 0
RowsOver n [] = Unit {0}
RowsOver n (c ∷ cs) = AllOver n c × RowsOver n cs

over_from : (n : ℕ) (ls : List Literal) → AllLow ls → WithinVars n ls → AllOver n ls
over_from n [] a w = tt
over_from n (l ∷ ls) a w = ((a.0, w.0), over_from n ls a.1 w.1)

is_over : (n : ℕ) (ls : List Literal) → AllOver n ls → IsOver n ls
is_over n [] h l c = absurd (Contains-none l c)
is_over n (x ∷ ls) h l c = elim (Contains-cons_cases x ls l c) [ inl e ↦ subst (Over n) (sym e) h.0 | inr q ↦ is_over n ls h.1 l q ]

-- clauses
all_none : (n : ℕ) → All (IsOver n) []
all_none n i d lt = absurd (omega arith)

all_one : (n : ℕ) (c : List Literal) → IsOver n c → All (IsOver n) (c ∷ [])
all_one n c h zero d lt = h
all_one n c h (suc i) d lt = absurd (omega arith)

option_over : (n : ℕ) (ls : List Literal) (o : Option (List Literal)) → IsOver n ls → MatchClause ls o → All (IsOver n) (option_to_list o)
option_over n ls None h m = all_none n
option_over n ls (Some c) h m = all_one n c (λ l q. h l ((m.1 l).1 q))

clause_over : (n : ℕ) (ls : List Literal) → AllOver n ls → All (IsOver n) (as_clause ls)
unfolding as_clause
clause_over n ls h = option_over n ls (clause_of ls) (is_over n ls h) (clause_of_says ls)

clauses_over : (n : ℕ) (cs : List (List Literal)) → RowsOver n cs → All (IsOver n) (as_clauses cs)
clauses_over n [] h = all_none n
clauses_over n (c ∷ cs) h = All-append (IsOver n) (as_clause c) (as_clauses cs) (clause_over n c h.0) (clauses_over n cs h.1)

-- gates
and_over : (n : ℕ) (z a b : Literal) → Over n z → Over n a → Over n b → RowsOver n (and_clauses z a b)
unfolding and_clauses
and_over n z a b z1 a1 b1 = ((z1, (a1, (b1, tt))), ((z1, (a1, tt)), ((z1, (b1, tt)), tt)))

xor_over : (n : ℕ) (z a b : Literal) → Over n z → Over n a → Over n b → RowsOver n (xor_clauses z a b)
unfolding xor_clauses
xor_over n z a b z1 a1 b1 = ((z1, (a1, (b1, tt))), ((z1, (a1, (b1, tt))), ((z1, (a1, (b1, tt))), ((z1, (a1, (b1, tt))), tt))))

mux_over : (n : ℕ) (z f a b : Literal) → Over n z → Over n f → Over n a → Over n b → RowsOver n (mux_clauses z f a b)
unfolding mux_clauses
mux_over n z f a b z1 f1 a1 b1 = ((f1, (a1, (z1, tt))), ((f1, (a1, (z1, tt))), ((f1, (b1, (z1, tt))), ((f1, (b1, (z1, tt))), tt))))

parity_over : (n : ℕ) (z a b c : Literal) → Over n z → Over n a → Over n b → Over n c → RowsOver n (parity_clauses z a b c)
unfolding parity_clauses
parity_over n z a b c z1 a1 b1 c1 = (
  (a1, (b1, (c1, (z1, tt)))),
  (
    (a1, (b1, (c1, (z1, tt)))),
    (
      (a1, (b1, (c1, (z1, tt)))),
      (
        (a1, (b1, (c1, (z1, tt)))),
        ((a1, (b1, (c1, (z1, tt)))), ((a1, (b1, (c1, (z1, tt)))), ((a1, (b1, (c1, (z1, tt)))), ((a1, (b1, (c1, (z1, tt)))), tt)))),
      ),
    ),
  ),
)

maj_over : (n : ℕ) (z a b c : Literal) → Over n z → Over n a → Over n b → Over n c → RowsOver n (maj_clauses z a b c)
unfolding maj_clauses
maj_over n z a b c z1 a1 b1 c1 =
    ((a1, (b1, (z1, tt))), ((a1, (c1, (z1, tt))), ((b1, (c1, (z1, tt))), ((a1, (b1, (z1, tt))), ((a1, (c1, (z1, tt))), ((b1, (c1, (z1, tt))), tt))))))

each_over : (n : ℕ) (z : Literal) (xs : List Literal) → Over n z → AllOver n xs → RowsOver n (each_not z xs)
each_over n z [] z1 h = tt
each_over n z (x ∷ xs) z1 h = ((z1, (h.0, tt)), each_over n z xs z1 h.1)

none_over : (n : ℕ) (z : Literal) (xs : List Literal) → Over n z → AllOver n xs → RowsOver n (none_clauses z xs)
unfolding none_clauses
none_over n z xs z1 h = ((z1, h), each_over n z xs z1 h)

gate_over : (n : ℕ) (z : Literal) (g : Gate) → Over n z → AllOver n (gate_inputs g) → RowsOver n (gate_clauses z g)
gate_over n z free z1 h = tt
gate_over n z yes z1 h = ((z1, tt), tt)
gate_over n z (both a b) z1 h = and_over n z a b z1 h.0 h.1.0
gate_over n z (either a b) z1 h = and_over n (negation z) (negation a) (negation b) z1 h.0 h.1.0
gate_over n z (differ a b) z1 h = xor_over n z a b z1 h.0 h.1.0
gate_over n z (choose f a b) z1 h = mux_over n z f a b z1 h.0 h.1.0 h.1.1.0
gate_over n z (parity a b c) z1 h = parity_over n z a b c z1 h.0 h.1.0 h.1.1.0
gate_over n z (majority a b c) z1 h = maj_over n z a b c z1 h.0 h.1.0 h.1.1.0
gate_over n z (none xs) z1 h = none_over n z xs z1 h

block_over : (n : ℕ) (z : Literal) (g : Gate) → Over n z → AllOver n (gate_inputs g) → All (IsOver n) (block z g)
unfolding block
block_over n z g z1 h = clauses_over n (gate_clauses z g) (gate_over n z g z1 h)

blocks_over : (n m : ℕ) (gs : List Gate) → n + length gs ≤ m → LowGates gs → Wired n gs → All (IsOver m) (blocks n gs)
blocks_over n m [] le a w = all_none m
blocks_over n m (g ∷ gs) le a w =
    All-append (IsOver m) (block (next n) g) (blocks (n + 1) gs)
    (block_over m (next n) g (omega arith, omega arith) (over_from m (gate_inputs g) a.0 (within_more n m (gate_inputs g) (omega arith) w.0)))
    (blocks_over (n + 1) m gs (omega arith) a.1 w.1)

-- words
low_append : (a b : List Literal) → AllLow a → AllLow b → AllLow (a ++ b)
low_append [] b p q = q
low_append (x ∷ a) b p q = (p.0, low_append a b p.1 q)

low_take : (k : ℕ) (a : List Literal) → AllLow a → AllLow (take k a)
low_take zero a h = tt
low_take (suc k) [] h = tt
low_take (suc k) (x ∷ a) h = (h.0, low_take k a h.1)

low_drop : (k : ℕ) (a : List Literal) → AllLow a → AllLow (drop k a)
low_drop zero a h = h
low_drop (suc k) [] h = tt
low_drop (suc k) (x ∷ a) h = low_drop k a h.1

low_not : (a : List Literal) → AllLow a → AllLow (map negation a)
low_not [] h = tt
low_not (x ∷ a) h = (h.0, low_not a h.1)

low_copies : (k : ℕ) (d : Literal) → 1 ≤ d.var → AllLow (replicate k d)
low_copies zero d h = tt
low_copies (suc k) d h = (h, low_copies k d h)

low_index : (a : List Literal) (i : ℕ) (d : Literal) → 1 ≤ d.var → AllLow a → 1 ≤ (slice_index_or a i d).var
low_index [] i d h p = h
low_index (x ∷ a) zero d h p = p.0
low_index (x ∷ a) (suc i) d h p = low_index a i d h p.1

low_extended : (a : List Literal) → AllLow a → AllLow (extended a)
low_extended a h = low_append a (replicate 32 (slice_index_or a 31 lit_false)) h (low_copies 32 (slice_index_or a 31 lit_false) (low_index a 31 lit_false (omega arith) h))

low_fresh : (n : ℕ) (a : List Literal) → AllLow (fresh n a)
low_fresh n [] = tt
low_fresh n (x ∷ a) = (omega arith, low_fresh (n + 1) a)

low_gates : (gs hs : List Gate) → LowGates gs → LowGates hs → LowGates (gs ++ hs)
low_gates [] hs p q = q
low_gates (g ∷ gs) hs p q = (p.0, low_gates gs hs p.1 q)

low_pairwise : (f : Literal → Literal → Gate) (a b : List Literal) → ((x y : Literal) → 1 ≤ x.var → 1 ≤ y.var → AllLow (gate_inputs (f x y))) → AllLow a → AllLow b → LowGates (pairwise f a b)
low_pairwise f [] b s p q = tt
low_pairwise f (x ∷ a) [] s p q = tt
low_pairwise f (x ∷ a) (y ∷ b) s p q = (s x y p.0 q.0, low_pairwise f a b s p.1 q.1)

low_pick : (f : Literal) (a b : List Literal) → 1 ≤ f.var → AllLow a → AllLow b → LowGates (pick_gates f a b)
low_pick f a b h p q = low_pairwise (choose f) a b (λ x y px py. (h, (px, (py, tt)))) p q

low_carry : (n : ℕ) (a b : List Literal) (c : Literal) → 1 ≤ c.var → AllLow a → AllLow b → LowGates (carry_gates n a b c)
low_carry n [] b c h p q = tt
low_carry n (x ∷ a) [] c h p q = tt
low_carry n (x ∷ a) (y ∷ b) c h p q = ((p.0, (q.0, (h, tt))), ((p.0, (q.0, (h, tt))), low_carry (n + 1 + 1) a b (next (n + 1)) (omega arith) p.1 q.1))

low_carry_outs : (n : ℕ) (a : List Literal) (c : Literal) → 1 ≤ c.var → AllLow (carry_outs n a c)
low_carry_outs n [] c h = (h, tt)
low_carry_outs n (x ∷ a) c h = (omega arith, low_carry_outs (n + 1 + 1) a (next (n + 1)) (omega arith))

low_wrap : (n : ℕ) (a b : List Literal) (c : Literal) → 1 ≤ c.var → AllLow a → AllLow b → LowGates (wrap_gates n a b c)
low_wrap n [] b c h p q = tt
low_wrap n (x ∷ []) [] c h p q = tt
low_wrap n (x ∷ u ∷ a) [] c h p q = tt
low_wrap n (x ∷ []) (y ∷ b) c h p q = ((p.0, (q.0, (h, tt))), tt)
low_wrap n (x ∷ u ∷ a) (y ∷ b) c h p q = ((p.0, (q.0, (h, tt))), ((p.0, (q.0, (h, tt))), low_wrap (n + 1 + 1) (u ∷ a) b (next (n + 1)) (omega arith) p.1 q.1))

low_wrap_outs : (n : ℕ) (a : List Literal) → AllLow (wrap_outs n a)
low_wrap_outs n [] = tt
low_wrap_outs n (x ∷ a) = (omega arith, low_wrap_outs (n + 1 + 1) a)

low_less : (n : ℕ) (a b : List Literal) (c : Literal) → 1 ≤ c.var → AllLow a → AllLow b → LowGates (less_gates n a b c)
low_less n [] b c h p q = tt
low_less n (x ∷ []) [] c h p q = tt
low_less n (x ∷ u ∷ a) [] c h p q = tt
low_less n (x ∷ []) (y ∷ b) c h p q = ((p.0, (q.0, (h, tt))), tt)
low_less n (x ∷ u ∷ a) (y ∷ b) c h p q = ((p.0, (q.0, (h, tt))), low_less (n + 1) (u ∷ a) b (next n) (omega arith) p.1 q.1)

low_row : (a : List Literal) (b : Literal) → 1 ≤ b.var → AllLow a → LowGates (row_gates a b)
low_row [] b h p = tt
low_row (x ∷ a) b h p = ((p.0, (h, tt)), low_row a b h p.1)

low_rows : (n : ℕ) (a bs t : List Literal) → AllLow a → AllLow bs → AllLow t → LowGates (rows_gates n a bs t)
low_rows n a [] t p q r = tt
low_rows n a (b ∷ bs) [] p q r = tt
low_rows n a (b ∷ bs) (y ∷ t) p q r =
    low_gates (row_sum_gates n t (take (length t) a) b) (rows_gates (n + row_sum_vars (length t)) a bs (row_sum_outs n t))
    (low_gates (row_gates (take (length t) a) b) (wrap_gates (n + length (take (length t) a)) t (fresh n (take (length t) a)) lit_false)
    (low_row (take (length t) a) b q.0 (low_take (length t) a p))
    (low_wrap (n + length (take (length t) a)) t (fresh n (take (length t) a)) lit_false (omega arith) r.1 (low_fresh n (take (length t) a))))
    (low_rows (n + row_sum_vars (length t)) a bs (row_sum_outs n t) p q.1 (low_wrap_outs (n + length t) t))

low_rows_outs : (n : ℕ) (bs t : List Literal) → AllLow t → AllLow (rows_outs n bs t)
low_rows_outs n [] t r = r
low_rows_outs n (b ∷ bs) [] r = tt
low_rows_outs n (b ∷ bs) (y ∷ t) r = (r.0, low_rows_outs (n + row_sum_vars (length t)) bs (row_sum_outs n t) (low_wrap_outs (n + length t) t))

low_prod : (n : ℕ) (a b : List Literal) → AllLow a → AllLow b → LowGates (prod_gates n a b)
low_prod n a [] p q = tt
low_prod n a (b ∷ bs) p q = low_gates (row_gates a b) (rows_gates (n + length a) a bs (fresh n a)) (low_row a b q.0 p) (low_rows (n + length a) a bs (fresh n a) p q.1 (low_fresh n a))

low_prod_outs : (n : ℕ) (a b : List Literal) → AllLow (prod_outs n a b)
low_prod_outs n a [] = tt
low_prod_outs n a (b ∷ bs) = low_rows_outs (n + length a) bs (fresh n a) (low_fresh n a)

low_remainder : (n : ℕ) (a b : List Literal) → AllLow (division n a b).remainder
low_remainder n [] b = low_copies (length b) lit_false (omega arith)
low_remainder n (x ∷ a) b = low_fresh ((division n a b).vars + 2 * (length b + 1)) b

fits_low : (n : ℕ) (x : Literal) (r : List Literal) → 1 ≤ (fits n (x ∷ r)).var
fits_low n x r = omega arith

low_quotient : (n : ℕ) (a b : List Literal) → AllLow (division n a b).quotient
low_quotient n [] b = tt
low_quotient n (x ∷ a) b = (fits_low (division n a b).vars x (division n a b).remainder, low_quotient n a b)

low_turn : (n : ℕ) (x : Literal) (r minus : List Literal) (low : ℕ) → 1 ≤ x.var → AllLow r → AllLow minus → LowGates (turn_gates n (x ∷ r) minus low)
low_turn n x r minus low h p q =
    low_gates (carry_gates n (x ∷ r) minus lit_true) (pick_gates (fits n (x ∷ r)) (take low (carry_outs n (x ∷ r) lit_true)) (take low (x ∷ r)))
    (low_carry n (x ∷ r) minus lit_true (omega arith) (h, p) q)
    (low_pick (fits n (x ∷ r)) (take low (carry_outs n (x ∷ r) lit_true)) (take low (x ∷ r)) (fits_low n x r)
    (low_take low (carry_outs n (x ∷ r) lit_true) (low_carry_outs n (x ∷ r) lit_true (omega arith))) (low_take low (x ∷ r) (h, p)))

low_division : (n : ℕ) (a b : List Literal) → AllLow a → AllLow b → LowGates (division n a b).gates
low_division n [] b p q = tt
low_division n (x ∷ a) b p q =
    low_gates (division n a b).gates (turn_gates (division n a b).vars (x ∷ (division n a b).remainder) (negated b) (length b)) (low_division n a b p.1 q)
    (low_turn (division n a b).vars x (division n a b).remainder (negated b) (length b) p.0 (low_remainder n a b) (low_append (map negation b) (lit_true ∷ []) (low_not b q) (omega arith, tt)))

low_moved : (right : Bool) (d : Literal) (s : ℕ) (a : List Literal) → 1 ≤ d.var → AllLow a → AllLow (moved_word right d s a)
low_moved true d s a h p = low_take (length a) (drop s a ++ replicate s d) (low_append (drop s a) (replicate s d) (low_drop s a p) (low_copies s d h))
low_moved false d s a h p = low_take (length a) (replicate s d ++ a) (low_append (replicate s d) a (low_copies s d h) p)

low_shift : (right : Bool) (d : Literal) (n : ℕ) (a ks : List Literal) (s : ℕ) → 1 ≤ d.var → AllLow a → AllLow ks → LowGates (shift_gates right d n a ks s)
low_shift right d n a [] s h p q = tt
low_shift right d n a (k ∷ ks) s h p q =
    low_gates (pick_gates k (moved_word right d s a) a) (shift_gates right d (n + length a) (fresh n a) ks (s * 2))
    (low_pick k (moved_word right d s a) a q.0 (low_moved right d s a h p) p) (low_shift right d (n + length a) (fresh n a) ks (s * 2) h (low_fresh n a) q.1)

low_shift_outs : (n : ℕ) (a ks : List Literal) → AllLow a → AllLow (shift_outs n a ks)
low_shift_outs n a [] p = p
low_shift_outs n a (k ∷ ks) p = low_shift_outs (n + length a) (fresh n a) ks (low_fresh n a)

low_filling : (right : Bool) (a : List Literal) → AllLow a → 1 ≤ (filling right a).var
low_filling true a p = low_index a 31 lit_false (omega arith) p
low_filling false a p = omega arith

low_word_gates : (n : ℕ) (op : WordOp) (a b : List Literal) → AllLow a → AllLow b → LowGates (word_gates op n a b)
low_word_gates n Add a b p q = low_wrap n a b lit_false (omega arith) p q
low_word_gates n Sub a b p q = low_wrap n a (map negation b) lit_true (omega arith) p (low_not b q)
low_word_gates n Mul a b p q = low_prod n a b p q
low_word_gates n High a b p q = low_prod n (extended a) (extended b) (low_extended a p) (low_extended b q)
low_word_gates n Quot a b p q = low_division n a b p q
low_word_gates n Left a b p q = low_division n a b p q
low_word_gates n Shl a b p q = low_shift false (filling false a) n a (take 5 b) 1 (low_filling false a p) p (low_take 5 b q)
low_word_gates n Shr a b p q = low_shift true (filling true a) n a (take 5 b) 1 (low_filling true a p) p (low_take 5 b q)
low_word_gates n And a b p q = low_pairwise both a b (λ x y px py. (px, (py, tt))) p q
low_word_gates n Or a b p q = low_pairwise either a b (λ x y px py. (px, (py, tt))) p q
low_word_gates n Xor a b p q = low_pairwise differ a b (λ x y px py. (px, (py, tt))) p q

low_word_outs : (n : ℕ) (op : WordOp) (a b : List Literal) → AllLow a → AllLow (word_outs op n a b)
low_word_outs n Add a b p = low_wrap_outs n a
low_word_outs n Sub a b p = low_wrap_outs n a
low_word_outs n Mul a b p = low_prod_outs n a b
low_word_outs n High a b p = low_take 32 (drop 32 (prod_outs n (extended a) (extended b))) (low_drop 32 (prod_outs n (extended a) (extended b)) (low_prod_outs n (extended a) (extended b)))
low_word_outs n Quot a b p = low_quotient n a b
low_word_outs n Left a b p = low_remainder n a b
low_word_outs n Shl a b p = low_shift_outs n a (take 5 b) p
low_word_outs n Shr a b p = low_shift_outs n a (take 5 b) p
low_word_outs n And a b p = low_fresh n a
low_word_outs n Or a b p = low_fresh n a
low_word_outs n Xor a b p = low_fresh n a

low_test_gates : (n : ℕ) (op : TestOp) (a b : List Literal) → AllLow a → AllLow b → LowGates (test_gates op n a b)
low_test_gates n Eq a b p q = low_gates (xor_gates a b) (none (fresh n a) ∷ []) (low_pairwise differ a b (λ x y px py. (px, (py, tt))) p q) (low_fresh n a, tt)
low_test_gates n Lt a b p q = low_less n a b lit_true (omega arith) p q

-- places
abbrev pub LowPlaces : List Place → Type 0
LowPlaces [] = Unit {0}
LowPlaces (p ∷ ps) = AllLow p.lits × LowPlaces ps

found_low : (ps : List Place) (t : Tree) → LowPlaces ps → AllLow (lits_of ps t)
found_low [] t h = tt
found_low (p ∷ ps) t h = by (found_low ps t h.1) (same_tree p.term t)
  where
    by : AllLow (lits_of ps t) → (b : Bool) → AllLow (if b then p.lits else lits_of ps t)
    by rec true = h.0
    by rec false = rec

low_flag : (ls : List Literal) → AllLow ls → 1 ≤ (flag_lit ls).var
low_flag [] h = omega arith
low_flag (l ∷ ls) h = h.0

low_constant : (k z : ℕ) → AllLow (constant_bits k z)
low_constant zero z = tt
low_constant (suc k) z = (omega arith, low_constant k (z / 2))

low_word_bits : (z : ℤ) → AllLow (word_bits z)
unfolding word_bits
low_word_bits z = low_constant 32 (cast_unsigned w32 (int_wrap w32 z))

low_new : (n k : ℕ) → AllLow (new_bits n k)
low_new n zero = tt
low_new n (suc k) = (omega arith, low_new (n + 1) k)

low_symbol_bits : (n : ℕ) → AllLow (symbol_bits n)
unfolding symbol_bits
low_symbol_bits n = low_new n 32

low_free : (k : ℕ) → LowGates (replicate k free)
low_free zero = tt
low_free (suc k) = (tt, low_free k)

low_symbol : LowGates symbol_gates
unfolding symbol_gates
low_symbol = low_free 32

low_place_gates : (ps : List Place) (n : ℕ) (t : Tree) → LowPlaces ps → LowGates (gates_of ps n t)
low_place_gates ps n (word z) h = tt
low_place_gates ps n (word_sym k) h = low_symbol
low_place_gates ps n (flag b) h = tt
low_place_gates ps n (flag_sym k) h = (tt, tt)
low_place_gates ps n (make op a b) h = low_word_gates n op (lits_of ps a) (lits_of ps b) (found_low ps a h) (found_low ps b h)
low_place_gates ps n (compare op a b) h = low_test_gates n op (lits_of ps a) (lits_of ps b) (found_low ps a h) (found_low ps b h)
low_place_gates ps n (no f) h = tt
low_place_gates ps n (all f g) h = ((low_flag (lits_of ps f) (found_low ps f h), (low_flag (lits_of ps g) (found_low ps g h), tt)), tt)
low_place_gates ps n (pick f a b) h = low_pick (flag_lit (lits_of ps f)) (lits_of ps a) (lits_of ps b) (low_flag (lits_of ps f) (found_low ps f h)) (found_low ps a h) (found_low ps b h)

low_place_outs : (ps : List Place) (n : ℕ) (t : Tree) → LowPlaces ps → AllLow (outs_of ps n t)
low_place_outs ps n (word z) h = low_word_bits z
low_place_outs ps n (word_sym k) h = low_symbol_bits n
low_place_outs ps n (flag b) h = (omega arith, tt)
low_place_outs ps n (flag_sym k) h = (omega arith, tt)
low_place_outs ps n (make op a b) h = low_word_outs n op (lits_of ps a) (lits_of ps b) (found_low ps a h)
low_place_outs ps n (compare Eq a b) h = (omega arith, tt)
low_place_outs ps n (compare Lt a b) h = (omega arith, tt)
low_place_outs ps n (no f) h = (low_flag (lits_of ps f) (found_low ps f h), tt)
low_place_outs ps n (all f g) h = (omega arith, tt)
low_place_outs ps n (pick f a b) h = low_fresh n (lits_of ps a)

vars_rise : (n : ℕ) (ts : List Tree) → n ≤ vars_from n ts
vars_rise n [] = omega arith
vars_rise n (t ∷ ts) = let h = vars_rise (n + vars_of t) ts in omega arith

-- the blocks of trees in turn
record Settled (n : ℕ) (ps : List Place) : Type 0 where
  pub low : LowPlaces ps
  pub within : AllWithin n ps

places_over : (m : ℕ) (ps : List Place) (n : ℕ) (ts : List Tree) → 1 ≤ n → vars_from n ts ≤ m → AllSized ps → LowPlaces ps → AllWithin n ps → AllReady ps n ts
    → All (IsOver m) (clauses_from ps n ts) × Settled m (places_from ps n ts)
places_over m ps n [] one le sz lo w r = (all_none m, record { low = lo; within = all_within_more n m ps le w })
places_over m ps n (t ∷ ts) one le sz lo w r =
    let count = place_count ps n t sz r.0 in
    let rise = vars_rise (n + vars_of t) ts in
    let first = blocks_over n m (gates_of ps n t) (omega arith) (low_place_gates ps n t lo) (place_wired ps n t one sz w r.0) in
    let rest = places_over m (place_of ps n t ∷ ps) (n + vars_of t) ts (omega arith) le (place_size ps n t sz r.0, sz) (low_place_outs ps n t lo, lo)
    (place_within ps n t one sz w r.0, all_within_more n (n + vars_of t) ps (omega arith) w) r.1 in
    (All-append (IsOver m) (blocks n (gates_of ps n t)) (clauses_from (place_of ps n t ∷ ps) (n + vars_of t) ts) first rest.0, rest.1)

units_over : (m : ℕ) (ps : List Place) (ts : List Tree) → 1 ≤ m → Settled m ps → RowsOver m (units (flag_lits ps ts))
units_over m ps [] one s = tt
units_over m ps (t ∷ ts) one s =
    (((low_flag (lits_of ps t) (found_low ps t s.low), flag_within m (lits_of ps t) one (found_within m ps t s.within)), tt), units_over m ps ts one s)

pub list_over : (asserted named : List Tree) → AllSorts (order_of asserted named) → All (IsOver (list_vars asserted named)) (clause_list asserted named)
list_over asserted named so =
    let ts : List Tree = order_of asserted named in
    let m : ℕ = list_vars asserted named in
    let one : 1 ≤ m = vars_rise 1 ts in
    let r : AllReady [] 1 ts = all_ready [] [] 1 ts (λ s e. absurd (cc)) (order_after asserted named) so in
    let p = places_over m [] 1 ts (omega arith) (omega arith) tt tt tt r in
    let last : List (List Literal) = units (flag_lits (places_of asserted named) asserted) in
    All-append (IsOver m) (as_clause (lit_true ∷ [])) (clauses_from [] 1 ts ++ as_clauses last) (clause_over m (lit_true ∷ []) ((omega arith, one), tt))
    (All-append (IsOver m) (clauses_from [] 1 ts) (as_clauses last) p.0 (clauses_over m last (units_over m (places_of asserted named) asserted one p.1)))
