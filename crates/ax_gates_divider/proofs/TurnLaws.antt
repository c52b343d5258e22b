-- What one turn of a division makes of the remainder.
use Rattle.std.proofs.Common.{◌≡◌, ℕ, zero, suc, ◌+◌, ◌*◌, ◌-◌, ◌^◌, ◌≤◌, ◌<◌, Bool, true, false, List, [], ◌∷◌, length, refl, ap, sym, subst, ◌∙◌, arith, take, map, length-append}
use Rattle.std.proofs.Math.Nat.{pow-succ'}
use Rattle.std.proofs.lemmas.List.{length-take-le}
use Rattle.ax_proof.specs.Literal.{Literal, negation}
use Rattle.ax_proof.specs.Assignment.{lit_value}
use Rattle.ax_gates.specs.Gates.{choose, next}
use Rattle.ax_gates.specs.Words.{digit, word_value, fresh, pick_gates, lit_true}
use Rattle.ax_gates.proofs.Circuits.{WithinVars, Holds, Wired, Holds-split, Wired-append, within_more, within_take, within_append, within_negation}
use Rattle.ax_gates.proofs.WordLaws.{pick_true, pick_false, pick_wired, length-pairwise}
use Rattle.ax_gates.proofs.Values.{low_part, word_value-lt, digit-lt, negation_digit}
use Rattle.ax_gates_adders.specs.Adders.{carry_gates, carry_outs}
use Rattle.ax_gates_adders.proofs.Additions.{carry_adds, carry_wired, length-carry, carry_outs_within}
use Rattle.ax_gates_divider.specs.Divisions.{negated, fits, turn_gates, turn_vars}

one_digit : (v : ℕ → Bool) → v 1 ≡ true → digit (lit_value v lit_true) ≡ 1
one_digit v e = rw e refl

-- the divisor negated
pub negated_adds : (v : ℕ → Bool) (b : List Literal) → v 1 ≡ true → word_value v (negated b) + word_value v b + 1 ≡ 2 * 2 ^ length b
negated_adds v [] e = let d : digit (lit_value v lit_true) ≡ 1 = one_digit v e in omega arith
negated_adds v (x ∷ b) e =
    let h = negated_adds v b e in
    let d = negation_digit v x in
    rw (pow-succ' 2 (length b)) (omega arith)

pub length-negated : (b : List Literal) → length (negated b) ≡ suc (length b)
length-negated [] = refl
length-negated (x ∷ b) = ap suc (length-negated b)

negated_within : (n : ℕ) (b : List Literal) → 1 ≤ n → WithinVars n b → WithinVars n (negated b)
negated_within n b low wb = within_append n (map negation b) (lit_true ∷ []) (within_negation n b wb) (low, tt)

-- the last two literals of the difference
record TopParts (w low p c : ℕ) : Type 0 where
  pub bit : ℕ
  pub small : bit < 2
  pub total : w ≡ low + p * bit + 2 * p * c

sum_top : (v : ℕ → Bool) (n : ℕ) (x : Literal) (r : List Literal) (c : Literal)
    → TopParts (word_value v (carry_outs n (x ∷ r) c)) (word_value v (take (length r) (carry_outs n (x ∷ r) c))) (2 ^ length r) (digit (lit_value v (fits n (x ∷ r))))
sum_top v n x [] c =
    let e : n + 1 + 1 ≡ n + 2 * 1 = omega arith in
    let d : digit (v (n + 1 + 1)) ≡ digit (v (n + 2 * 1)) = ap (λ (k : ℕ). digit (v k)) e in
    record { bit = digit (v (n + 1)); small = digit-lt (v (n + 1)); total = omega arith }
sum_top v n x (y ∷ r) c =
    let outs : List Literal = carry_outs (n + 1 + 1) (y ∷ r) (next (n + 1)) in
    let e : n + 1 + 1 + 2 * length (y ∷ r) ≡ n + 2 * length (x ∷ y ∷ r) = omega arith in
    let d : digit (lit_value v (fits (n + 1 + 1) (y ∷ r))) ≡ digit (lit_value v (fits n (x ∷ y ∷ r))) = ap (λ (k : ℕ). digit (v k)) e in
    let h = subst (TopParts (word_value v outs) (word_value v (take (length r) outs)) (2 ^ length r)) d (sum_top v (n + 1 + 1) y r (next (n + 1))) in
    record { bit = h.bit; small = h.small; total = (let t = h.total in rw (pow-succ' 2 (length r)) (omega arith)) }

pub length-carry_outs : (n : ℕ) (a : List Literal) (c : Literal) → length (carry_outs n a c) ≡ suc (length a)
length-carry_outs n [] c = refl
length-carry_outs n (x ∷ a) c = ap suc (length-carry_outs (n + 1 + 1) a (next (n + 1)))

-- what a division has come to
pub record Divides (k b h q r : ℕ) : Type 0 where
  pub exact : 0 < b → q * b + r ≡ h
  pub below : 0 < b → r < b
  pub ones : b ≡ 0 → q + 1 ≡ 2 ^ k
  pub whole : b ≡ 0 → r ≡ h
  pub within : h < 2 ^ k

-- one turn in numbers: the divisor b, the next bit x, the remainder r, the low bits of the difference and of the word, the
-- carry c, and the new remainder
record Turn (p b x r low lowr c new : ℕ) : Type 0 where
  pub bit : ℕ
  pub sums : low + p * bit + 2 * p * c + b ≡ x + 2 * r + 2 * p
  pub times : ℕ
  pub parts : lowr + times * p ≡ x + 2 * r
  pub low_small : low < p
  pub lowr_small : lowr < p
  pub x_small : x < 2
  pub b_small : b < p

small_bit : (p bit z low : ℕ) → low + p * bit ≡ z → z < p → low ≡ z
small_bit p zero z low e l = omega arith
small_bit p (suc j) z low e l = absurd (omega arith)

bit_most : (p bit : ℕ) → bit < 2 → p * bit ≤ p
bit_most p zero l = omega arith
bit_most p (suc zero) l = omega arith
bit_most p (suc (suc j)) l = absurd (omega arith)

step_within : (k x h : ℕ) → x < 2 → h < 2 ^ k → x + 2 * h < 2 ^ suc k
step_within k x h a b = rw (pow-succ' 2 k) (omega arith)

turn_one : (k p b h q x r low lowr new : ℕ) → 2 ^ suc k ≤ p → Divides k b h q r → Turn p b x r low lowr 1 new → new ≡ low → Divides (suc k) b (x + 2 * h) (1 + 2 * q) new
turn_one k p b h q x r low lowr new fits d t e =
    record {
      exact =
          λ pos.
          (
          let rb = d.below pos in
          let ex = d.exact pos in
          let l = small_bit p t.bit (x + 2 * r - b) low (let s = t.sums in omega arith) (let bs = t.b_small in let xs = t.x_small in omega arith) in
          let le : b ≤ x + 2 * r = (let s = t.sums in omega arith) in
          omega arith
          );
      below =
          λ pos.
          (
          let rb = d.below pos in
          let l = small_bit p t.bit (x + 2 * r - b) low (let s = t.sums in omega arith) (let bs = t.b_small in let xs = t.x_small in omega arith) in
          let xs = t.x_small in
          let le : b ≤ x + 2 * r = (let s = t.sums in omega arith) in
          omega arith
          );
      ones = λ z. (let f = d.ones z in rw (pow-succ' 2 k) (omega arith));
      whole =
          λ z.
          (
          let f = d.whole z in
          let w = step_within k x h t.x_small d.within in
          let l = small_bit p t.bit (x + 2 * r) low (let s = t.sums in omega arith) (omega arith) in
          omega arith
          );
      within = step_within k x h t.x_small d.within;
    }

turn_zero : (k p b h q x r low lowr new : ℕ) → 2 ^ suc k ≤ p → Divides k b h q r → (t : Turn p b x r low lowr 0 new) → t.bit < 2 → new ≡ lowr → Divides (suc k) b (x + 2 * h) (0 + 2 * q) new
turn_zero k p b h q x r low lowr new fits d t bl e =
    let m = bit_most p t.bit bl in
    let lt : x + 2 * r < b = (let s = t.sums in let ls = t.low_small in omega arith) in
    let l = small_bit p t.times (x + 2 * r) lowr (let s = t.parts in omega arith) (let bs = t.b_small in omega arith) in
    let xs = t.x_small in
    record {
      exact = λ pos. (let ex = d.exact pos in omega arith);
      below = λ pos. (omega arith);
      ones = λ z. absurd (omega arith);
      whole = λ z. absurd (omega arith);
      within = step_within k x h t.x_small d.within;
    }

turn_both : (k p b h q x r low lowr new : ℕ) (c : Bool) → 2 ^ suc k ≤ p → Divides k b h q r → (t : Turn p b x r low lowr (digit c) new) → t.bit < 2 → (c ≡ true → new ≡ low) → (c ≡ false → new ≡ lowr)
    → Divides (suc k) b (x + 2 * h) (digit c + 2 * q) new
turn_both k p b h q x r low lowr new true fits d t bl e1 e0 = turn_one k p b h q x r low lowr new fits d t (e1 refl)
turn_both k p b h q x r low lowr new false fits d t bl e1 e0 = turn_zero k p b h q x r low lowr new fits d t bl (e0 refl)

-- one turn in gates
pub length-turn : (n : ℕ) (x : Literal) (r minus : List Literal) → length minus ≡ suc (length r) → length (turn_gates n (x ∷ r) minus (length r)) ≡ turn_vars (length r)
length-turn n x r minus e =
    let outs : List Literal = carry_outs n (x ∷ r) lit_true in
    let s : length (carry_gates n (x ∷ r) minus lit_true) ≡ 2 * length (x ∷ r) = length-carry n (x ∷ r) minus lit_true (omega arith) in
    let so = length-carry_outs n (x ∷ r) lit_true in
    let p = length-take-le (length r) outs (omega arith) in
    let q = length-take-le (length r) (x ∷ r) (omega arith) in
    let l : length (pick_gates (fits n (x ∷ r)) (take (length r) outs) (take (length r) (x ∷ r))) ≡ length r = length-pairwise (choose (fits n (x ∷ r))) (take (length r) outs) (take (length r) (x ∷ r)) (p ∙ sym q) ∙ p in
    let a = length-append (carry_gates n (x ∷ r) minus lit_true) (pick_gates (fits n (x ∷ r)) (take (length r) outs) (take (length r) (x ∷ r))) in
    omega arith

pub fresh_same : (n : ℕ) (a b : List Literal) → length a ≡ length b → fresh n a ≡ fresh n b
fresh_same n [] [] e = refl
fresh_same n [] (y ∷ b) e = absurd (omega arith)
fresh_same n (x ∷ a) [] e = absurd (omega arith)
fresh_same n (x ∷ a) (y ∷ b) e = ap (λ (z : List Literal). next n ∷ z) (fresh_same (n + 1) a b (omega arith))

pub turn_adds : (v : ℕ → Bool) (n k : ℕ) (x : Literal) (r b : List Literal) (q h : ℕ) → v 1 ≡ true → length r ≡ length b → 2 ^ suc k ≤ 2 ^ length b
    → Holds v n (turn_gates n (x ∷ r) (negated b) (length r)) → Divides k (word_value v b) h q (word_value v r)
    → Divides (suc k) (word_value v b) (digit (lit_value v x) + 2 * h) (digit (lit_value v (fits n (x ∷ r))) + 2 * q) (word_value v (fresh (n + 2 * length (x ∷ r)) b))
turn_adds v n k x r b q h e1 lr room holds d =
    let outs : List Literal = carry_outs n (x ∷ r) lit_true in
    let c : Literal = fits n (x ∷ r) in
    let m : ℕ = n + 2 * length (x ∷ r) in
    let ln = length-negated b in
    let s : length (carry_gates n (x ∷ r) (negated b) lit_true) ≡ 2 * length (x ∷ r) = length-carry n (x ∷ r) (negated b) lit_true (omega arith) in
    let parts = Holds-split v n m (carry_gates n (x ∷ r) (negated b) lit_true) (pick_gates c (take (length r) outs) (take (length r) (x ∷ r))) (omega arith) holds in
    let so = length-carry_outs n (x ∷ r) lit_true in
    let p1 = length-take-le (length r) outs (omega arith) in
    let p2 = length-take-le (length r) (x ∷ r) (omega arith) in
    let same : fresh m (take (length r) outs) ≡ fresh m b = fresh_same m (take (length r) outs) b (p1 ∙ lr) in
    let adds = carry_adds v n (x ∷ r) (negated b) lit_true (omega arith) parts.0 in
    let neg = negated_adds v b e1 in
    let od = one_digit v e1 in
    let top = sum_top v n x r lit_true in
    let low = low_part v (length r) (x ∷ r) (omega arith) in
    let pw : 2 ^ length r ≡ 2 ^ length b = ap (λ (z : ℕ). 2 ^ z) lr in
    let t : Turn (2 ^ length b) (word_value v b) (digit (lit_value v x)) (word_value v r) (word_value v (take (length r) outs)) (word_value v (take (length r) (x ∷ r))) (digit (lit_value v c)) (word_value v (fresh m b))
    =
    record {
      bit = top.bit;
      sums = (let tt1 = top.total in rw (← pw) (omega arith));
      times = low.times;
      parts = (let lt1 = low.total in rw (← pw) (omega arith));
      low_small = subst (λ (z : ℕ). word_value v (take (length r) outs) < 2 ^ z) (p1 ∙ lr) (word_value-lt v (take (length r) outs));
      lowr_small = subst (λ (z : ℕ). word_value v (take (length r) (x ∷ r)) < 2 ^ z) (p2 ∙ lr) (word_value-lt v (take (length r) (x ∷ r)));
      x_small = digit-lt (lit_value v x);
      b_small = word_value-lt v b;
    }
    in
    turn_both k (2 ^ length b) (word_value v b) h q (digit (lit_value v x)) (word_value v r) (word_value v (take (length r) outs)) (word_value v (take (length r) (x ∷ r))) (word_value v (fresh m b)) (lit_value v c) room d t top.small
    (λ e. ap (word_value v) (sym same) ∙ pick_true v m c (take (length r) outs) (take (length r) (x ∷ r)) e (p1 ∙ sym p2) parts.1)
    (λ e. ap (word_value v) (sym same) ∙ pick_false v m c (take (length r) outs) (take (length r) (x ∷ r)) e (p1 ∙ sym p2) parts.1)

pub turn_wired : (n : ℕ) (x : Literal) (r b : List Literal) → 1 ≤ n → length r ≡ length b → x.var ≤ n → WithinVars n r → WithinVars n b → Wired n (turn_gates n (x ∷ r) (negated b) (length r))
turn_wired n x r b low l wx wr wb =
    let m : ℕ = n + 2 * length (x ∷ r) in
    let outs : List Literal = carry_outs n (x ∷ r) lit_true in
    let c : Literal = fits n (x ∷ r) in
    let ln = length-negated b in
    let s : length (carry_gates n (x ∷ r) (negated b) lit_true) ≡ 2 * length (x ∷ r) = length-carry n (x ∷ r) (negated b) lit_true (omega arith) in
    let wo = carry_outs_within n m (x ∷ r) lit_true (omega arith) (omega arith) in
    Wired-append n m (carry_gates n (x ∷ r) (negated b) lit_true) (pick_gates c (take (length r) outs) (take (length r) (x ∷ r))) (omega arith)
    (carry_wired n (x ∷ r) (negated b) lit_true (wx, wr) (negated_within n b low wb) low)
    (pick_wired m c (take (length r) outs) (take (length r) (x ∷ r)) (omega arith) (within_take m (length r) outs wo) (within_take m (length r) (x ∷ r) (within_more n m (x ∷ r) (omega arith) (wx, wr))))
