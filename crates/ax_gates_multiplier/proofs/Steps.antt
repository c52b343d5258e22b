-- The rows of a product one by one, as the code adds them.
use Rattle.std.proofs.Common.{◌≡◌, ℕ, zero, suc, ◌+◌, ◌*◌, ◌-◌, ◌/◌, ◌≤◌, ◌<◌, List, [], ◌∷◌, ◌++◌, length, take, drop, get_or, refl, ap, sym, ◌∙◌, arith, add-one}
use Rattle.std.proofs.Math.Seq.{drop-cons}
use Rattle.std.proofs.lemmas.List.{length-take-le}
use Rattle.ax_proof.specs.Literal.{Literal}
use Rattle.ax_gates.specs.Gates.{Gate, blocks}
use Rattle.ax_gates.specs.Words.{fresh, lit_false}
use Rattle.ax_gates.proofs.Circuits.{blocks-append}
use Rattle.ax_gates_adders.specs.Adders.{wrap_gates}
use Rattle.ax_gates_multiplier.specs.Products.{row_gates, row_sum_gates, row_sum_outs, row_sum_vars, rows_gates, rows_outs, rows_vars, prod_gates, prod_vars}
use Rattle.ax_gates_multiplier.proofs.RowLaws.{length-row, length-row_sum}

pub row_sum_blocks : (n : ℕ) (total a : List Literal) (b : Literal) → blocks n (row_sum_gates n total a b) ≡ blocks n (row_gates a b) ++ blocks (n + length a) (wrap_gates (n + length a) total (fresh n a) lit_false)
row_sum_blocks n total a b =
    let lr = length-row a b in
    blocks-append n (n + length a) (row_gates a b) (wrap_gates (n + length a) total (fresh n a) lit_false) (omega arith)

-- one row, of those from this one on
rows_first : (n : ℕ) (a bs t : List Literal) (b : Literal) (bits : ℕ) → length t ≡ bits + 1
    → rows_gates n a (b ∷ bs) t ≡ row_sum_gates n (drop 1 t) (take bits a) b ++ rows_gates (n + row_sum_vars (length (drop 1 t))) a bs (row_sum_outs n (drop 1 t))
rows_first n a bs [] b bits e = absurd (omega arith)
rows_first n a bs (y ∷ t) b bits e =
    let l : length t ≡ bits = omega arith in
    ap (λ (k : ℕ). row_sum_gates n t (take k a) b ++ rows_gates (n + row_sum_vars (length t)) a bs (row_sum_outs n t)) l

outs_first : (n : ℕ) (bs t : List Literal) (b d : Literal) → 0 < length t
    → rows_outs n (b ∷ bs) t ≡ get_or t 0 d ∷ rows_outs (n + row_sum_vars (length (drop 1 t))) bs (row_sum_outs n (drop 1 t))
outs_first n bs [] b d e = absurd (omega arith)
outs_first n bs (y ∷ t) b d e = refl

pub length_high : (t : List Literal) (bits : ℕ) → length t ≡ bits + 1 → length (drop 1 t) ≡ bits
length_high [] bits e = absurd (omega arith)
length_high (y ∷ t) bits e = omega arith

pub rows_step_blocks : (n : ℕ) (a b t : List Literal) (i : ℕ) (d : Literal) → i < length b → length t + i ≡ length b + 1 → length b ≤ length a
    → blocks n (rows_gates n a (drop i b) t)
    ≡ blocks n (row_sum_gates n (drop 1 t) (take (length b - i) a) (get_or b i d))
    ++ blocks (n + row_sum_vars (length (drop 1 t))) (rows_gates (n + row_sum_vars (length (drop 1 t))) a (drop (i + 1) b) (row_sum_outs n (drop 1 t)))
rows_step_blocks n a b t i d within e le =
    let bits : ℕ = length b - i in
    let k : ℕ = n + row_sum_vars (length (drop 1 t)) in
    let row : List Gate = row_sum_gates n (drop 1 t) (take bits a) (get_or b i d) in
    let rest : List Gate = rows_gates k a (drop (i + 1) b) (row_sum_outs n (drop 1 t)) in
    let lh = length_high t bits (omega arith) in
    let ll = length-take-le bits a (omega arith) in
    let ls = length-row_sum n (drop 1 t) (take bits a) (get_or b i d) (omega arith) in
    let f : rows_gates n a (drop i b) t ≡ row ++ rest = rw (add-one, drop-cons b i d) (rows_first n a (drop (suc i) b) t (get_or b i d) bits (omega arith)) in
    ap (blocks n) f ∙ blocks-append n k row rest (omega arith)

pub rows_step_outs : (n : ℕ) (b t : List Literal) (i : ℕ) (d : Literal) → i < length b → 0 < length t
    → rows_outs n (drop i b) t ≡ get_or t 0 d ∷ rows_outs (n + row_sum_vars (length (drop 1 t))) (drop (i + 1) b) (row_sum_outs n (drop 1 t))
rows_step_outs n b t i d within pos = rw (add-one, drop-cons b i d) (outs_first n (drop (suc i) b) t (get_or b i d) d pos)

pub rows_vars-step : (bits i : ℕ) → i < bits → rows_vars (bits - i) ≡ row_sum_vars (bits - i) + rows_vars (bits - (i + 1))
rows_vars-step bits i h =
    let e : bits - i ≡ suc (bits - (i + 1)) = omega arith in
    ap rows_vars e ∙ ap (λ (k : ℕ). row_sum_vars k + rows_vars (bits - (i + 1))) (sym e)

rows_vars-twice : (k : ℕ) → 2 * rows_vars k ≡ k * (3 * k + 1)
rows_vars-twice zero = refl
rows_vars-twice (suc m) = let h = rows_vars-twice m in omega arith

half : (x y : ℕ) → 2 * x ≡ y → y / 2 ≡ x
half x y e = omega arith

prod_vars-suc : (k : ℕ) → prod_vars (suc k) ≡ suc k + rows_vars k
prod_vars-suc k =
    let h = rows_vars-twice k in
    let s : suc k - 1 ≡ k = omega arith in
    let e : 2 * (k + rows_vars k) ≡ 3 * suc k * k = omega arith in
    let d = half (k + rows_vars k) (3 * suc k * (suc k - 1)) (e ∙ ap (λ (z : ℕ). 3 * suc k * z) (sym s)) in
    omega arith

pub prod_vars_of : (bits k : ℕ) → bits ≡ k + 1 → prod_vars bits ≡ bits + rows_vars k
prod_vars_of bits k e =
    let f : bits ≡ suc k = omega arith in
    rw f (prod_vars-suc k)

pub prod_blocks : (n : ℕ) (a b : List Literal) (d : Literal) → 0 < length b
    → blocks n (prod_gates n a b) ≡ blocks n (row_gates a (get_or b 0 d)) ++ blocks (n + length a) (rows_gates (n + length a) a (drop 1 b) (fresh n a))
prod_blocks n a [] d l = absurd (omega arith)
prod_blocks n a (b ∷ bs) d l =
    let lr = length-row a b in
    blocks-append n (n + length a) (row_gates a b) (rows_gates (n + length a) a bs (fresh n a)) (omega arith)
