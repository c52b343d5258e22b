-- What rows, and their sums, make of the factors.
use Rattle.std.proofs.Common.{◌≡◌, ℕ, suc, ◌+◌, ◌*◌, ◌^◌, ◌%◌, ◌≤◌, ◌<◌, Bool, true, false, ◌&&◌, List, [], ◌∷◌, length, take, refl, ap, sym, subst, ◌∙◌, arith, length-append}
use Rattle.std.proofs.Math.Nat.{pow-succ'}
use Rattle.std.proofs.lemmas.List.{length-take-le}
use Rattle.ax_proof.specs.Literal.{Literal}
use Rattle.ax_proof.specs.Assignment.{lit_value}
use Rattle.ax_gates.specs.Words.{digit, word_value, fresh, lit_false}
use Rattle.ax_gates.proofs.Circuits.{WithinVars, Holds, Wired, Holds-split, Wired-append, within_more, within_take, fresh_within, length-fresh}
use Rattle.ax_gates.proofs.Values.{Wraps, wraps_mod, low_part, word_value-lt}
use Rattle.ax_gates_adders.specs.Adders.{wrap_gates}
use Rattle.ax_gates_adders.proofs.Additions.{wrap_adds, wrap_wired, length-wrap, wrap_outs_within, length-wrap_outs}
use Rattle.ax_gates_multiplier.specs.Products.{row_gates, row_sum_gates, row_sum_outs, row_sum_vars, rows_gates, rows_outs, prod_gates, prod_outs}

-- a row
and_digit : (x y : Bool) → digit (x && y) ≡ digit x * digit y
and_digit true true = refl
and_digit true false = refl
and_digit false y = omega arith

pub length-row : (a : List Literal) (b : Literal) → length (row_gates a b) ≡ length a
length-row [] b = refl
length-row (x ∷ a) b = ap suc (length-row a b)

pub row_adds : (v : ℕ → Bool) (n : ℕ) (a : List Literal) (b : Literal) → Holds v n (row_gates a b) → word_value v (fresh n a) ≡ word_value v a * digit (lit_value v b)
row_adds v n [] b h = omega arith
row_adds v n (x ∷ a) b h =
    let d : digit (v (n + 1)) ≡ digit (lit_value v x) * digit (lit_value v b) = ap digit h.0 ∙ and_digit (lit_value v x) (lit_value v b) in
    let r = row_adds v (n + 1) a b h.1 in
    omega arith

pub row_wired : (n : ℕ) (a : List Literal) (b : Literal) → WithinVars n a → b.var ≤ n → Wired n (row_gates a b)
row_wired n [] b wa wb = tt
row_wired n (x ∷ a) b wa wb = ((wa.0, (wb, tt)), row_wired (n + 1) a b (within_more n (n + 1) a (omega arith) wa.1) (omega arith))

-- a row, and its sum
pub length-row_sum : (n : ℕ) (total a : List Literal) (b : Literal) → length total ≡ length a → length (row_sum_gates n total a b) ≡ row_sum_vars (length total)
length-row_sum n [] [] b e = refl
length-row_sum n [] (x ∷ a) b e = absurd (omega arith)
length-row_sum n (y ∷ total) a b e =
    let lr = length-row a b in
    let lf = length-fresh n a in
    let lw = length-wrap (n + length a) y total (fresh n a) lit_false (omega arith) in
    let la = length-append (row_gates a b) (wrap_gates (n + length a) (y ∷ total) (fresh n a) lit_false) in
    omega arith

nil_digit : (v : ℕ → Bool) → v 1 ≡ true → digit (lit_value v lit_false) ≡ 0
nil_digit v e = rw e refl

pub row_sum_adds : (v : ℕ → Bool) (n : ℕ) (total a : List Literal) (b : Literal) → v 1 ≡ true → 0 < length total → length total ≡ length a → Holds v n (row_sum_gates n total a b)
    → Wraps (word_value v (row_sum_outs n total)) (2 ^ length total) (word_value v total + word_value v a * digit (lit_value v b))
row_sum_adds v n total a b e1 pos e h =
    let lr = length-row a b in
    let lf = length-fresh n a in
    let p = Holds-split v n (n + length a) (row_gates a b) (wrap_gates (n + length a) total (fresh n a) lit_false) (omega arith) h in
    let r = row_adds v n a b p.0 in
    let q = subst (λ (k : ℕ). Holds v k (wrap_gates k total (fresh n a) lit_false)) (ap (λ (k : ℕ). n + k) (sym e)) p.1 in
    let w = wrap_adds v (n + length total) total (fresh n a) lit_false pos (omega arith) q in
    let z = nil_digit v e1 in
    record { times = w.times; total = (let t = w.total in omega arith) }

pub row_sum_wired : (n : ℕ) (total a : List Literal) (b : Literal) → 1 ≤ n → WithinVars n total → WithinVars n a → b.var ≤ n → Wired n (row_sum_gates n total a b)
row_sum_wired n total a b low wt wa wb =
    let lr = length-row a b in
    Wired-append n (n + length a) (row_gates a b) (wrap_gates (n + length a) total (fresh n a) lit_false) (omega arith) (row_wired n a b wa wb)
    (wrap_wired (n + length a) total (fresh n a) lit_false (within_more n (n + length a) total (omega arith) wt) (fresh_within n (n + length a) a (omega arith)) (omega arith))

-- the rows after the first
rows_step : (y r ts t al ag b wb p : ℕ) → Wraps r p (ts + 2 * (ag * wb)) → Wraps ts p (t + al * b) → Wraps al p ag → Wraps (y + 2 * r) (2 * p) (y + 2 * t + 2 * (ag * (b + 2 * wb)))
rows_step y r ts t al ag b wb p rest sums low =
    record {
      times = rest.times + sums.times + b * low.times;
      total =
          (
          let f : (al + low.times * p) * b ≡ ag * b = ap (λ (z : ℕ). z * b) low.total in
          let s = sums.total in
          let u = rest.total in
          omega arith
          );
    }

pub rows_adds : (v : ℕ → Bool) (n : ℕ) (a bs t : List Literal) → v 1 ≡ true → length bs + 1 ≡ length t → length t ≤ length a → Holds v n (rows_gates n a bs t)
    → Wraps (word_value v (rows_outs n bs t)) (2 ^ length t) (word_value v t + 2 * (word_value v a * word_value v bs))
rows_adds v n a [] t e1 e l h = record { times = 0; total = omega arith }
rows_adds v n a (b ∷ bs) [] e1 e l h = absurd (omega arith)
rows_adds v n a (b ∷ bs) (y ∷ t) e1 e l h =
    let k : ℕ = n + row_sum_vars (length t) in
    let low : List Literal = take (length t) a in
    let ts : List Literal = row_sum_outs n t in
    let ll : length low ≡ length t = length-take-le (length t) a (omega arith) in
    let lt : length ts ≡ length t = length-wrap_outs (n + length t) t in
    let ls = length-row_sum n t low b (sym ll) in
    let p = Holds-split v n k (row_sum_gates n t low b) (rows_gates k a bs ts) (omega arith) h in
    let sums = row_sum_adds v n t low b e1 (omega arith) (sym ll) p.0 in
    let part = low_part v (length t) a (omega arith) in
    let rest = rows_adds v k a bs ts e1 (omega arith) (omega arith) p.1 in
    let rest1 = subst (λ (z : ℕ). Wraps (word_value v (rows_outs k bs ts)) (2 ^ z) (word_value v ts + 2 * (word_value v a * word_value v bs))) lt rest in
    subst (λ (z : ℕ). Wraps (word_value v (rows_outs n (b ∷ bs) (y ∷ t))) z (word_value v (y ∷ t) + 2 * (word_value v a * word_value v (b ∷ bs)))) (sym (pow-succ' 2 (length t)))
    (rows_step (digit (lit_value v y)) (word_value v (rows_outs k bs ts)) (word_value v ts) (word_value v t) (word_value v low) (word_value v a) (digit (lit_value v b)) (word_value v bs) (2 ^ length t) rest1 sums part)

pub rows_wired : (n : ℕ) (a bs t : List Literal) → 1 ≤ n → length bs + 1 ≡ length t → length t ≤ length a → WithinVars n a → WithinVars n bs → WithinVars n t → Wired n (rows_gates n a bs t)
rows_wired n a [] t e1 e l wa wb wt = tt
rows_wired n a (b ∷ bs) [] e1 e l wa wb wt = tt
rows_wired n a (b ∷ bs) (y ∷ t) e1 e l wa wb wt =
    let k : ℕ = n + row_sum_vars (length t) in
    let low : List Literal = take (length t) a in
    let ts : List Literal = row_sum_outs n t in
    let ll : length low ≡ length t = length-take-le (length t) a (omega arith) in
    let lt : length ts ≡ length t = length-wrap_outs (n + length t) t in
    let ls = length-row_sum n t low b (sym ll) in
    Wired-append n k (row_sum_gates n t low b) (rows_gates k a bs ts) (omega arith)
    (row_sum_wired n t low b e1 wt.1 (within_take n (length t) a wa) wb.0)
    (rows_wired k a bs ts (omega arith) (omega arith) (omega arith) (within_more n k a (omega arith) wa) (within_more n k bs (omega arith) wb.1) (wrap_outs_within (n + length t) k t (omega arith)))

pub length-rows_outs : (n : ℕ) (bs t : List Literal) → length bs + 1 ≡ length t → length (rows_outs n bs t) ≡ length t
length-rows_outs n [] t e = refl
length-rows_outs n (b ∷ bs) [] e = absurd (omega arith)
length-rows_outs n (b ∷ bs) (y ∷ t) e =
    let lt : length (row_sum_outs n t) ≡ length t = length-wrap_outs (n + length t) t in
    let h = length-rows_outs (n + row_sum_vars (length t)) bs (row_sum_outs n t) (omega arith) in
    omega arith

-- the product
pub prod_wraps : (v : ℕ → Bool) (n : ℕ) (a b : List Literal) → v 1 ≡ true → 0 < length a → length a ≡ length b → Holds v n (prod_gates n a b) → Wraps (word_value v (prod_outs n a b)) (2 ^ length a) (word_value v a * word_value v b)
prod_wraps v n a [] e1 l e h = absurd (omega arith)
prod_wraps v n a (b ∷ bs) e1 l e h =
    let m : ℕ = n + length a in
    let lr = length-row a b in
    let lf = length-fresh n a in
    let p = Holds-split v n m (row_gates a b) (rows_gates m a bs (fresh n a)) (omega arith) h in
    let r = row_adds v n a b p.0 in
    let w = rows_adds v m a bs (fresh n a) e1 (omega arith) (omega arith) p.1 in
    let w1 = subst (λ (z : ℕ). Wraps (word_value v (rows_outs m bs (fresh n a))) (2 ^ z) (word_value v (fresh n a) + 2 * (word_value v a * word_value v bs))) lf w in
    record { times = w1.times; total = (let t = w1.total in omega arith) }

pub length-prod_outs : (n : ℕ) (a b : List Literal) → 0 < length a → length a ≡ length b → length (prod_outs n a b) ≡ length a
length-prod_outs n a [] l e = absurd (omega arith)
length-prod_outs n a (b ∷ bs) l e =
    let lf = length-fresh n a in
    length-rows_outs (n + length a) bs (fresh n a) (omega arith) ∙ lf

pub prod_adds : (v : ℕ → Bool) (n : ℕ) (a b : List Literal) → v 1 ≡ true → 0 < length a → length a ≡ length b → Holds v n (prod_gates n a b) → word_value v (prod_outs n a b) ≡ (word_value v a * word_value v b) % 2 ^ length a
prod_adds v n a b e1 l e h =
    wraps_mod (word_value v (prod_outs n a b)) (2 ^ length a) (word_value v a * word_value v b)
    (subst (λ (z : ℕ). word_value v (prod_outs n a b) < 2 ^ z) (length-prod_outs n a b l e) (word_value-lt v (prod_outs n a b)))
    (prod_wraps v n a b e1 l e h)

pub prod_wired : (n : ℕ) (a b : List Literal) → 1 ≤ n → length a ≡ length b → WithinVars n a → WithinVars n b → Wired n (prod_gates n a b)
prod_wired n a [] e1 e wa wb = tt
prod_wired n a (b ∷ bs) e1 e wa wb =
    let m : ℕ = n + length a in
    let lr = length-row a b in
    let lf = length-fresh n a in
    Wired-append n m (row_gates a b) (rows_gates m a bs (fresh n a)) (omega arith) (row_wired n a b wa wb.0)
    (rows_wired m a bs (fresh n a) (omega arith) (omega arith) (omega arith) (within_more n m a (omega arith) wa) (within_more n m bs (omega arith) wb.1) (fresh_within n m a (omega arith)))
