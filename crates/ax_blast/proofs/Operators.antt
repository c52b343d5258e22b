-- The blocks of operators: how many gates they have, what the gates read, and the words that they make.
use Rattle.std.proofs.Common.{◌≡◌, ℕ, zero, suc, ◌+◌, ◌*◌, ◌-◌, ◌≤◌, ◌<◌, Bool, true, false, List, [], ◌∷◌, ◌++◌, length, take, drop, map, replicate, slice_index_or, refl, ap, sym, subst, ◌∙◌, arith, length-append}
use Rattle.std.proofs.lemmas.List.{length-take-le, length-drop}
use Rattle.ax_proof.specs.Literal.{Literal, literal, negation}
use Rattle.ax_gates.specs.Gates.{Gate, both, either, differ, none, next}
use Rattle.ax_gates.specs.Words.{fresh, xor_gates, pick_gates, lit_true, lit_false}
use Rattle.ax_gates.proofs.Circuits.{WithinVars, Wired, within_more, within_take, within_append, within_negation, fresh_within, length-fresh}
use Rattle.ax_gates.proofs.WordLaws.{pairwise_wired, length-pairwise}
use Rattle.ax_gates_adders.specs.Adders.{wrap_gates, wrap_outs, equal_gates, less_gates}
use Rattle.ax_gates_adders.proofs.Additions.{wrap_wired, length-wrap, wrap_outs_within, length-wrap_outs}
use Rattle.ax_gates_adders.proofs.Compares.{equal_wired, less_wired}
use Rattle.ax_gates_shifter.specs.Shifter.{filling, moved_word, shift_gates, shift_outs}
use Rattle.ax_gates_shifter.proofs.Words.{length-stage, shift_wired}
use Rattle.ax_gates_multiplier.specs.Products.{row_gates, row_sum_gates, row_sum_outs, row_sum_vars, rows_gates, rows_outs, rows_vars, prod_gates, prod_outs, prod_vars}
use Rattle.ax_gates_multiplier.proofs.RowLaws.{length-row, length-row_sum, prod_wired, length-prod_outs}
use Rattle.ax_gates_multiplier.proofs.Steps.{prod_vars_of}
use Rattle.ax_gates_divider.specs.Divisions.{Division, division, turn_vars, divide_vars}
use Rattle.ax_gates_divider.proofs.DivisionLaws.{length-remainder, length-division, vars-division, remainder_within, division_wired}
use Rattle.ax_blast.specs.Blocks.{extended, word_gates, word_outs, word_vars, test_gates, test_out, test_vars}
use Rattle.ax_blast.proofs.Highs.{length-extended}
use Rattle.ax_term.specs.declared.WordOp.{WordOp}
use Rattle.ax_term.specs.declared.WordOp.TheVariants.{Add, Sub, Mul, High, Quot, Left, Shl, Shr, And, Or, Xor}
use Rattle.ax_term.specs.declared.TestOp.{TestOp}
use Rattle.ax_term.specs.declared.TestOp.TheVariants.{Eq, Lt}

length_not : (b : List Literal) → length (map negation b) ≡ length b
length_not [] = refl
length_not (x ∷ b) = ap suc (length_not b)

-- sums
wrap_count : (n : ℕ) (a b : List Literal) (c : Literal) → length a ≡ 32 → length b ≡ 32 → length (wrap_gates n a b c) ≡ 63
wrap_count n [] b c la lb = absurd (omega arith)
wrap_count n (x ∷ a) b c la lb = let h = length-wrap n x a b c (la ∙ sym lb) in omega arith

-- products
rows_count : (n : ℕ) (a bs t : List Literal) → length bs + 1 ≡ length t → length t ≤ length a → length (rows_gates n a bs t) ≡ rows_vars (length bs)
rows_count n a [] t e l = refl
rows_count n a (b ∷ bs) [] e l = absurd (omega arith)
rows_count n a (b ∷ bs) (y ∷ t) e l =
    let ll : length (take (length t) a) ≡ length t = length-take-le (length t) a (omega arith) in
    let lt : length (row_sum_outs n t) ≡ length t = length-wrap_outs (n + length t) t in
    let one = length-row_sum n t (take (length t) a) b (sym ll) in
    let rest = rows_count (n + row_sum_vars (length t)) a bs (row_sum_outs n t) (omega arith) (omega arith) in
    let k : length t ≡ suc (length bs) = omega arith in
    let e2 : row_sum_vars (length t) ≡ row_sum_vars (suc (length bs)) = ap row_sum_vars k in
    let sum = length-append (row_sum_gates n t (take (length t) a) b) (rows_gates (n + row_sum_vars (length t)) a bs (row_sum_outs n t)) in
    omega arith

rows_within : (n : ℕ) (bs t : List Literal) (m : ℕ) → length bs + 1 ≡ length t → n + rows_vars (length bs) ≤ m → WithinVars m t → WithinVars m (rows_outs n bs t)
rows_within n [] t m e l w = w
rows_within n (b ∷ bs) [] m e l w = absurd (omega arith)
rows_within n (b ∷ bs) (y ∷ t) m e l w =
    let lt : length (row_sum_outs n t) ≡ length t = length-wrap_outs (n + length t) t in
    let k : length t ≡ suc (length bs) = omega arith in
    let e2 : row_sum_vars (length t) ≡ row_sum_vars (suc (length bs)) = ap row_sum_vars k in
    (w.0, rows_within (n + row_sum_vars (length t)) bs (row_sum_outs n t) m (omega arith) (omega arith) (wrap_outs_within (n + length t) m t (omega arith)))

prod_count : (n k : ℕ) (a b : List Literal) → length a ≡ suc k → length b ≡ suc k → length (prod_gates n a b) ≡ prod_vars (suc k)
prod_count n k a [] la lb = absurd (omega arith)
prod_count n k a (b ∷ bs) la lb =
    let f = length-fresh n a in
    let r = length-row a b in
    let kb : length bs ≡ k = omega arith in
    let rest = rows_count (n + length a) a bs (fresh n a) (omega arith) (omega arith) in
    let e = ap rows_vars kb in
    let p = prod_vars_of (suc k) k (omega arith) in
    let sum = length-append (row_gates a b) (rows_gates (n + length a) a bs (fresh n a)) in
    omega arith

prod_within : (n k : ℕ) (a b : List Literal) → length a ≡ suc k → length b ≡ suc k → WithinVars (n + prod_vars (suc k)) (prod_outs n a b)
prod_within n k a [] la lb = tt
prod_within n k a (b ∷ bs) la lb =
    let f = length-fresh n a in
    let kb : length bs ≡ k = omega arith in
    let e = ap rows_vars kb in
    let p = prod_vars_of (suc k) k (omega arith) in
    rows_within (n + length a) bs (fresh n a) (n + prod_vars (suc k)) (omega arith) (omega arith) (fresh_within n (n + prod_vars (suc k)) a (omega arith))

within_drop : (n s : ℕ) (a : List Literal) → WithinVars n a → WithinVars n (drop s a)
within_drop n zero a h = h
within_drop n (suc s) [] h = tt
within_drop n (suc s) (x ∷ a) h = within_drop n s a h.1

-- quotients
length-quotient : (n : ℕ) (a b : List Literal) → length (division n a b).quotient ≡ length a
length-quotient n [] b = refl
length-quotient n (x ∷ a) b = ap suc (length-quotient n a b)

quotient_within : (n : ℕ) (a b : List Literal) → WithinVars (division n a b).vars (division n a b).quotient
quotient_within n [] b = tt
quotient_within n (x ∷ a) b =
    let l = length-remainder n a b in
    (omega arith, within_more (division n a b).vars (division n (x ∷ a) b).vars (division n a b).quotient (omega arith) (quotient_within n a b))

division_vars : (n : ℕ) (a b : List Literal) → length a ≡ 32 → length b ≡ 32 → (division n a b).vars ≡ n + divide_vars 32
division_vars n a b la lb = vars-division n a b ∙ (ap (λ (k : ℕ). n + k * turn_vars (length b)) la ∙ ap (λ (k : ℕ). n + 32 * turn_vars k) lb)

division_count : (n : ℕ) (a b : List Literal) → length a ≡ 32 → length b ≡ 32 → length (division n a b).gates ≡ divide_vars 32
division_count n a b la lb = let g = length-division n a b in let v = division_vars n a b la lb in omega arith

-- shifts
stages_count : (right : Bool) (d : Literal) (n : ℕ) (a ks : List Literal) (s : ℕ) → length (shift_gates right d n a ks s) ≡ length a * length ks
stages_count right d n a [] s = omega arith
stages_count right d n a (k ∷ ks) s =
    let l = length-stage right d k s a in
    let f = length-fresh n a in
    let h = stages_count right d (n + length a) (fresh n a) ks (s * 2) in
    let e : length (fresh n a) * length ks ≡ length a * length ks = ap (λ (z : ℕ). z * length ks) f in
    let sum = length-append (pick_gates k (moved_word right d s a) a) (shift_gates right d (n + length a) (fresh n a) ks (s * 2)) in
    omega arith

length-shift : (n : ℕ) (a ks : List Literal) → length (shift_outs n a ks) ≡ length a
length-shift n a [] = refl
length-shift n a (k ∷ ks) = length-shift (n + length a) (fresh n a) ks ∙ length-fresh n a

stages_within : (n m : ℕ) (a ks : List Literal) → n + length a * length ks ≤ m → WithinVars m a → WithinVars m (shift_outs n a ks)
stages_within n m a [] l w = w
stages_within n m a (k ∷ ks) l w =
    let f = length-fresh n a in
    let e : length (fresh n a) * length ks ≡ length a * length ks = ap (λ (z : ℕ). z * length ks) f in
    stages_within (n + length a) m (fresh n a) ks (omega arith) (fresh_within n m a (omega arith))

shift_count : (right : Bool) (n : ℕ) (a b : List Literal) → length a ≡ 32 → length b ≡ 32 → length (shift_gates right (filling right a) n a (take 5 b) 1) ≡ 160
shift_count right n a b la lb =
    let t : length (take 5 b) ≡ 5 = length-take-le 5 b (omega arith) in
    stages_count right (filling right a) n a (take 5 b) 1 ∙ (ap (λ (z : ℕ). z * length (take 5 b)) la ∙ ap (λ (z : ℕ). 32 * z) t)

shift_within : (n : ℕ) (a b : List Literal) → length a ≡ 32 → length b ≡ 32 → WithinVars n a → WithinVars (n + 160) (shift_outs n a (take 5 b))
shift_within n a b la lb w =
    let t : length (take 5 b) ≡ 5 = length-take-le 5 b (omega arith) in
    let e : length a * length (take 5 b) ≡ 32 * 5 = ap (λ (z : ℕ). z * length (take 5 b)) la ∙ ap (λ (z : ℕ). 32 * z) t in
    stages_within n (n + 160) a (take 5 b) (omega arith) (within_more n (n + 160) a (omega arith) w)

within_copies : (n s : ℕ) (d : Literal) → d.var ≤ n → WithinVars n (replicate s d)
within_copies n zero d h = tt
within_copies n (suc s) d h = (h, within_copies n s d h)

within_index : (n : ℕ) (a : List Literal) (i : ℕ) (d : Literal) → d.var ≤ n → WithinVars n a → (slice_index_or a i d).var ≤ n
within_index n [] i d wd wa = wd
within_index n (x ∷ a) zero d wd wa = wa.0
within_index n (x ∷ a) (suc i) d wd wa = within_index n a i d wd wa.1

within_extended : (n : ℕ) (a : List Literal) → 1 ≤ n → WithinVars n a → WithinVars n (extended a)
within_extended n a low wa = within_append n a (replicate 32 (slice_index_or a 31 lit_false)) wa (within_copies n 32 (slice_index_or a 31 lit_false) (within_index n a 31 lit_false low wa))

within_filling : (n : ℕ) (right : Bool) (a : List Literal) → 1 ≤ n → WithinVars n a → (filling right a).var ≤ n
within_filling n true a low wa = within_index n a 31 lit_false low wa
within_filling n false a low wa = low

-- comparisons
less_count : (n : ℕ) (a b : List Literal) (c : Literal) → length a ≡ length b → length (less_gates n a b c) ≡ length a
less_count n [] b c l = refl
less_count n (x ∷ []) [] c l = absurd (omega arith)
less_count n (x ∷ u ∷ a) [] c l = absurd (omega arith)
less_count n (x ∷ []) (y ∷ b) c l = refl
less_count n (x ∷ u ∷ a) (y ∷ b) c l = ap suc (less_count (n + 1) (u ∷ a) b (next n) (omega arith))

equal_count : (n : ℕ) (a b : List Literal) → length a ≡ length b → length (equal_gates n a b) ≡ length a + 1
equal_count n a b l = let p = length-pairwise differ a b l in let s = length-append (xor_gates a b) (none (fresh n a) ∷ []) in omega arith

-- each operator
pub word_count : (n : ℕ) (op : WordOp) (a b : List Literal) → length a ≡ 32 → length b ≡ 32 → length (word_gates op n a b) ≡ word_vars op
word_count n Add a b la lb = wrap_count n a b lit_false la lb
word_count n Sub a b la lb = wrap_count n a (map negation b) lit_true la (length_not b ∙ lb)
word_count n Mul a b la lb = prod_count n 31 a b la lb
word_count n High a b la lb = prod_count n 63 (extended a) (extended b) (length-extended a la) (length-extended b lb)
word_count n Quot a b la lb = division_count n a b la lb
word_count n Left a b la lb = division_count n a b la lb
word_count n Shl a b la lb = shift_count false n a b la lb
word_count n Shr a b la lb = shift_count true n a b la lb
word_count n And a b la lb = length-pairwise both a b (la ∙ sym lb) ∙ la
word_count n Or a b la lb = length-pairwise either a b (la ∙ sym lb) ∙ la
word_count n Xor a b la lb = length-pairwise differ a b (la ∙ sym lb) ∙ la

pub word_width : (n : ℕ) (op : WordOp) (a b : List Literal) → length a ≡ 32 → length b ≡ 32 → length (word_outs op n a b) ≡ 32
word_width n Add a b la lb = length-wrap_outs n a ∙ la
word_width n Sub a b la lb = length-wrap_outs n a ∙ la
word_width n Mul a b la lb = length-prod_outs n a b (omega arith) (la ∙ sym lb) ∙ la
word_width n High a b la lb =
    let xa = length-extended a la in
    let xb = length-extended b lb in
    let p = length-prod_outs n (extended a) (extended b) (omega arith) (xa ∙ sym xb) in
    let d = length-drop 32 (prod_outs n (extended a) (extended b)) in
    length-take-le 32 (drop 32 (prod_outs n (extended a) (extended b))) (omega arith)
word_width n Quot a b la lb = length-quotient n a b ∙ la
word_width n Left a b la lb = length-remainder n a b ∙ lb
word_width n Shl a b la lb = length-shift n a (take 5 b) ∙ la
word_width n Shr a b la lb = length-shift n a (take 5 b) ∙ la
word_width n And a b la lb = length-fresh n a ∙ la
word_width n Or a b la lb = length-fresh n a ∙ la
word_width n Xor a b la lb = length-fresh n a ∙ la

pub word_wired : (n : ℕ) (op : WordOp) (a b : List Literal) → length a ≡ 32 → length b ≡ 32 → 1 ≤ n → WithinVars n a → WithinVars n b → Wired n (word_gates op n a b)
word_wired n Add a b la lb low wa wb = wrap_wired n a b lit_false wa wb low
word_wired n Sub a b la lb low wa wb = wrap_wired n a (map negation b) lit_true wa (within_negation n b wb) low
word_wired n Mul a b la lb low wa wb = prod_wired n a b low (la ∙ sym lb) wa wb
word_wired n High a b la lb low wa wb = prod_wired n (extended a) (extended b) low (length-extended a la ∙ sym (length-extended b lb)) (within_extended n a low wa) (within_extended n b low wb)
word_wired n Quot a b la lb low wa wb = division_wired n a b low wa wb
word_wired n Left a b la lb low wa wb = division_wired n a b low wa wb
word_wired n Shl a b la lb low wa wb = shift_wired false (filling false a) n a (take 5 b) 1 (within_filling n false a low wa) wa (within_take n 5 b wb)
word_wired n Shr a b la lb low wa wb = shift_wired true (filling true a) n a (take 5 b) 1 (within_filling n true a low wa) wa (within_take n 5 b wb)
word_wired n And a b la lb low wa wb = pairwise_wired n n both a b (λ m x y le px py. (px, (py, tt))) (omega arith) wa wb
word_wired n Or a b la lb low wa wb = pairwise_wired n n either a b (λ m x y le px py. (px, (py, tt))) (omega arith) wa wb
word_wired n Xor a b la lb low wa wb = pairwise_wired n n differ a b (λ m x y le px py. (px, (py, tt))) (omega arith) wa wb

pub word_within : (n : ℕ) (op : WordOp) (a b : List Literal) → length a ≡ 32 → length b ≡ 32 → 1 ≤ n → WithinVars n a → WithinVars (n + word_vars op) (word_outs op n a b)
word_within n Add a b la lb low wa = wrap_outs_within n (n + 63) a (omega arith)
word_within n Sub a b la lb low wa = wrap_outs_within n (n + 63) a (omega arith)
word_within n Mul a b la lb low wa = prod_within n 31 a b la lb
word_within n High a b la lb low wa =
    let w = prod_within n 63 (extended a) (extended b) (length-extended a la) (length-extended b lb) in
    within_take (n + prod_vars 64) 32 (drop 32 (prod_outs n (extended a) (extended b))) (within_drop (n + prod_vars 64) 32 (prod_outs n (extended a) (extended b)) w)
word_within n Quot a b la lb low wa = subst (λ (k : ℕ). WithinVars k (division n a b).quotient) (division_vars n a b la lb) (quotient_within n a b)
word_within n Left a b la lb low wa = subst (λ (k : ℕ). WithinVars k (division n a b).remainder) (division_vars n a b la lb) (remainder_within n a b low)
word_within n Shl a b la lb low wa = shift_within n a b la lb wa
word_within n Shr a b la lb low wa = shift_within n a b la lb wa
word_within n And a b la lb low wa = fresh_within n (n + 32) a (omega arith)
word_within n Or a b la lb low wa = fresh_within n (n + 32) a (omega arith)
word_within n Xor a b la lb low wa = fresh_within n (n + 32) a (omega arith)

-- each test
pub test_count : (n : ℕ) (op : TestOp) (a b : List Literal) → length a ≡ 32 → length b ≡ 32 → length (test_gates op n a b) ≡ test_vars op
test_count n Eq a b la lb = let h = equal_count n a b (la ∙ sym lb) in omega arith
test_count n Lt a b la lb = less_count n a b lit_true (la ∙ sym lb) ∙ la

pub test_wired : (n : ℕ) (op : TestOp) (a b : List Literal) → length a ≡ 32 → length b ≡ 32 → 1 ≤ n → WithinVars n a → WithinVars n b → Wired n (test_gates op n a b)
test_wired n Eq a b la lb low wa wb = equal_wired n a b (la ∙ sym lb) wa wb
test_wired n Lt a b la lb low wa wb = less_wired n a b lit_true wa wb low

pub test_within : (n : ℕ) (op : TestOp) → (test_out op n).var ≤ n + test_vars op
test_within n Eq = omega arith
test_within n Lt = omega arith
