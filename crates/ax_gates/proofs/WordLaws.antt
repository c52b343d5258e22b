-- What the gates of words make of them.
use Rattle.std.proofs.Common.{◌≡◌, ℕ, zero, suc, ◌+◌, ◌*◌, ◌%◌, ◌≤◌, min, max, Bool, true, false, ◌&&◌, ◌||◌, List, [], ◌∷◌, length, cond, refl, ap, sym, ◌∙◌, arith}
use Rattle.std.proofs.lemmas.Nat.Bits.{bit_at_lowest, bit_at-suc, bit_at_and, bit_at_or, bit_at_xor, same_from_bits}
use Rattle.std.specs.Int.{bit_at}
use Rattle.std.specs.Prelude.{bit_and, bit_or, bit_xor}
use Rattle.ax_proof.specs.Literal.{Literal, IsOver}
use Rattle.ax_proof.specs.Assignment.{lit_value, satisfies}
use Rattle.ax_gates.specs.Gates.{Gate, both, either, differ, choose, blocks, xor_of}
use Rattle.ax_gates.specs.Words.{digit, word_value, fresh, pairwise, and_gates, or_gates, xor_gates, pick_gates, Extends}
use Rattle.ax_gates.proofs.Circuits.{WithinVars, gate_inputs, Holds, Wired, over_within, within_more, blocks_hold, wired_extends}

low_bit : (x : Bool) (m : ℕ) → bit_at (digit x + 2 * m) zero ≡ digit x
low_bit true m = bit_at_lowest (1 + 2 * m) ∙ omega arith
low_bit false m = bit_at_lowest (0 + 2 * m) ∙ omega arith

high_bit : (x : Bool) (m i : ℕ) → bit_at (digit x + 2 * m) (suc i) ≡ bit_at m i
high_bit true m i = bit_at-suc (1 + 2 * m) i ∙ ap (λ (z : ℕ). bit_at z i) (omega arith)
high_bit false m i = bit_at-suc (0 + 2 * m) i ∙ ap (λ (z : ℕ). bit_at z i) (omega arith)

min_digit : (x y : Bool) → min (digit x) (digit y) ≡ digit (x && y)
min_digit true true = refl
min_digit true false = refl
min_digit false true = refl
min_digit false false = refl

max_digit : (x y : Bool) → max (digit x) (digit y) ≡ digit (x || y)
max_digit true true = refl
max_digit true false = refl
max_digit false true = refl
max_digit false false = refl

xor_digit : (x y : Bool) → (digit x + digit y) % 2 ≡ digit (xor_of x y)
xor_digit true true = refl
xor_digit true false = refl
xor_digit false true = refl
xor_digit false false = refl

pub and_step : (x y : Bool) (m n : ℕ) → bit_and (digit x + 2 * m) (digit y + 2 * n) ≡ digit (x && y) + 2 * bit_and m n
and_step x y m n = same_from_bits (bit_and (digit x + 2 * m) (digit y + 2 * n)) (digit (x && y) + 2 * bit_and m n) go
  where
    go : (i : ℕ) → bit_at (bit_and (digit x + 2 * m) (digit y + 2 * n)) i ≡ bit_at (digit (x && y) + 2 * bit_and m n) i
    go zero = bit_at_and (digit x + 2 * m) (digit y + 2 * n) zero ∙ (ap (λ (z : ℕ). min z (bit_at (digit y + 2 * n) zero)) (low_bit x m) ∙ (ap (λ (z : ℕ). min (digit x) z) (low_bit y n) ∙ (min_digit x y ∙ sym (low_bit (x && y) (bit_and m n)))))
    go (suc i) = bit_at_and (digit x + 2 * m) (digit y + 2 * n) (suc i) ∙ (ap (λ (z : ℕ). min z (bit_at (digit y + 2 * n) (suc i))) (high_bit x m i) ∙ (ap (λ (z : ℕ). min (bit_at m i) z) (high_bit y n i) ∙ (sym (bit_at_and m n i) ∙ sym (high_bit (x && y) (bit_and m n) i))))

pub or_step : (x y : Bool) (m n : ℕ) → bit_or (digit x + 2 * m) (digit y + 2 * n) ≡ digit (x || y) + 2 * bit_or m n
or_step x y m n = same_from_bits (bit_or (digit x + 2 * m) (digit y + 2 * n)) (digit (x || y) + 2 * bit_or m n) go
  where
    go : (i : ℕ) → bit_at (bit_or (digit x + 2 * m) (digit y + 2 * n)) i ≡ bit_at (digit (x || y) + 2 * bit_or m n) i
    go zero = bit_at_or (digit x + 2 * m) (digit y + 2 * n) zero ∙ (ap (λ (z : ℕ). max z (bit_at (digit y + 2 * n) zero)) (low_bit x m) ∙ (ap (λ (z : ℕ). max (digit x) z) (low_bit y n) ∙ (max_digit x y ∙ sym (low_bit (x || y) (bit_or m n)))))
    go (suc i) = bit_at_or (digit x + 2 * m) (digit y + 2 * n) (suc i) ∙ (ap (λ (z : ℕ). max z (bit_at (digit y + 2 * n) (suc i))) (high_bit x m i) ∙ (ap (λ (z : ℕ). max (bit_at m i) z) (high_bit y n i) ∙ (sym (bit_at_or m n i) ∙ sym (high_bit (x || y) (bit_or m n) i))))

pub xor_step : (x y : Bool) (m n : ℕ) → bit_xor (digit x + 2 * m) (digit y + 2 * n) ≡ digit (xor_of x y) + 2 * bit_xor m n
xor_step x y m n = same_from_bits (bit_xor (digit x + 2 * m) (digit y + 2 * n)) (digit (xor_of x y) + 2 * bit_xor m n) go
  where
    go : (i : ℕ) → bit_at (bit_xor (digit x + 2 * m) (digit y + 2 * n)) i ≡ bit_at (digit (xor_of x y) + 2 * bit_xor m n) i
    go zero = bit_at_xor (digit x + 2 * m) (digit y + 2 * n) zero ∙ (ap (λ (z : ℕ). (z + bit_at (digit y + 2 * n) zero) % 2) (low_bit x m) ∙ (ap (λ (z : ℕ). (digit x + z) % 2) (low_bit y n) ∙ (xor_digit x y ∙ sym (low_bit (xor_of x y) (bit_xor m n)))))
    go (suc i) = bit_at_xor (digit x + 2 * m) (digit y + 2 * n) (suc i) ∙ (ap (λ (z : ℕ). (z + bit_at (digit y + 2 * n) (suc i)) % 2) (high_bit x m i) ∙ (ap (λ (z : ℕ). (bit_at m i + z) % 2) (high_bit y n i) ∙ (sym (bit_at_xor m n i) ∙ sym (high_bit (xor_of x y) (bit_xor m n) i))))

pub and_adds : (v : ℕ → Bool) (n : ℕ) (a b : List Literal) → length a ≡ length b → Holds v n (pairwise both a b) → word_value v (fresh n a) ≡ bit_and (word_value v a) (word_value v b)
and_adds v n [] [] l h = refl
and_adds v n [] (y ∷ b) l h = absurd (omega arith)
and_adds v n (x ∷ a) [] l h = absurd (omega arith)
and_adds v n (x ∷ a) (y ∷ b) l h =
    let r = and_adds v (n + 1) a b (omega arith) h.1 in
    let d : digit (v (n + 1)) ≡ digit (lit_value v x && lit_value v y) = ap digit h.0 in
    let s = and_step (lit_value v x) (lit_value v y) (word_value v a) (word_value v b) in
    omega arith

pub or_adds : (v : ℕ → Bool) (n : ℕ) (a b : List Literal) → length a ≡ length b → Holds v n (pairwise either a b) → word_value v (fresh n a) ≡ bit_or (word_value v a) (word_value v b)
or_adds v n [] [] l h = refl
or_adds v n [] (y ∷ b) l h = absurd (omega arith)
or_adds v n (x ∷ a) [] l h = absurd (omega arith)
or_adds v n (x ∷ a) (y ∷ b) l h =
    let r = or_adds v (n + 1) a b (omega arith) h.1 in
    let d : digit (v (n + 1)) ≡ digit (lit_value v x || lit_value v y) = ap digit h.0 in
    let s = or_step (lit_value v x) (lit_value v y) (word_value v a) (word_value v b) in
    omega arith

pub xor_adds : (v : ℕ → Bool) (n : ℕ) (a b : List Literal) → length a ≡ length b → Holds v n (pairwise differ a b) → word_value v (fresh n a) ≡ bit_xor (word_value v a) (word_value v b)
xor_adds v n [] [] l h = refl
xor_adds v n [] (y ∷ b) l h = absurd (omega arith)
xor_adds v n (x ∷ a) [] l h = absurd (omega arith)
xor_adds v n (x ∷ a) (y ∷ b) l h =
    let r = xor_adds v (n + 1) a b (omega arith) h.1 in
    let d : digit (v (n + 1)) ≡ digit (xor_of (lit_value v x) (lit_value v y)) = ap digit h.0 in
    let s = xor_step (lit_value v x) (lit_value v y) (word_value v a) (word_value v b) in
    omega arith

mux_true : (f a b z : Bool) → f ≡ true → z ≡ cond f a b → digit z ≡ digit a
mux_true f a b z e h = ap digit (h ∙ rw e refl)

mux_false : (f a b z : Bool) → f ≡ false → z ≡ cond f a b → digit z ≡ digit b
mux_false f a b z e h = ap digit (h ∙ rw e refl)

pub pick_true : (v : ℕ → Bool) (n : ℕ) (f : Literal) (a b : List Literal) → lit_value v f ≡ true → length a ≡ length b → Holds v n (pick_gates f a b) → word_value v (fresh n a) ≡ word_value v a
pick_true v n f [] b e l h = refl
pick_true v n f (x ∷ a) [] e l h = absurd (omega arith)
pick_true v n f (x ∷ a) (y ∷ b) e l h =
    let d = mux_true (lit_value v f) (lit_value v x) (lit_value v y) (v (n + 1)) e h.0 in
    let r = pick_true v (n + 1) f a b e (omega arith) h.1 in
    omega arith

pub pick_false : (v : ℕ → Bool) (n : ℕ) (f : Literal) (a b : List Literal) → lit_value v f ≡ false → length a ≡ length b → Holds v n (pick_gates f a b) → word_value v (fresh n a) ≡ word_value v b
pick_false v n f [] [] e l h = refl
pick_false v n f [] (y ∷ b) e l h = absurd (omega arith)
pick_false v n f (x ∷ a) [] e l h = absurd (omega arith)
pick_false v n f (x ∷ a) (y ∷ b) e l h =
    let d = mux_false (lit_value v f) (lit_value v x) (lit_value v y) (v (n + 1)) e h.0 in
    let r = pick_false v (n + 1) f a b e (omega arith) h.1 in
    omega arith

pub length-pairwise : (f : Literal → Literal → Gate) (a b : List Literal) → length a ≡ length b → length (pairwise f a b) ≡ length a
length-pairwise f [] b e = refl
length-pairwise f (x ∷ a) [] e = absurd (omega arith)
length-pairwise f (x ∷ a) (y ∷ b) e = let h = length-pairwise f a b (omega arith) in omega arith

-- a gate for each bit reads only what the words have, where each gate does
pub pairwise_wired : (k n : ℕ) (f : Literal → Literal → Gate) (a b : List Literal)
    → ((m : ℕ) (x y : Literal) → k ≤ m → x.var ≤ m → y.var ≤ m → WithinVars m (gate_inputs (f x y)))
    → k ≤ n → WithinVars n a → WithinVars n b → Wired n (pairwise f a b)
pairwise_wired k n f [] b within le wa wb = tt
pairwise_wired k n f (x ∷ a) [] within le wa wb = tt
pairwise_wired k n f (x ∷ a) (y ∷ b) within le wa wb = (
  within n x y le wa.0 wb.0,
  pairwise_wired k (n + 1) f a b within (omega arith) (within_more n (n + 1) a (omega arith) wa.1) (within_more n (n + 1) b (omega arith) wb.1),
)

pub pick_wired : (n : ℕ) (f : Literal) (a b : List Literal) → f.var ≤ n → WithinVars n a → WithinVars n b → Wired n (pick_gates f a b)
pick_wired n f a b wf wa wb = pairwise_wired n n (choose f) a b (λ m x y le px py. (omega arith, (px, (py, tt)))) (omega arith) wa wb

pub differ_wired : (n : ℕ) (a b : List Literal) → WithinVars n a → WithinVars n b → Wired n (pairwise differ a b)
differ_wired n a b wa wb = pairwise_wired n n differ a b (λ m x y le px py. (px, (py, tt))) (omega arith) wa wb

pub and_word_law : (v : ℕ → Bool) (n : ℕ) (a b : List Literal) → length a ≡ length b → satisfies v (blocks n (and_gates a b)) ≡ true → word_value v (fresh n a) ≡ bit_and (word_value v a) (word_value v b)
and_word_law v n a b l h = and_adds v n a b l (blocks_hold v n (and_gates a b) h)

pub and_word_extends : (n : ℕ) (a b : List Literal) → IsOver n a → IsOver n b → Extends n (blocks n (and_gates a b))
and_word_extends n a b oa ob =
    wired_extends n (and_gates a b) (pairwise_wired n n both a b (λ m x y le px py. (px, (py, tt))) (omega arith) (over_within n a oa) (over_within n b ob))

pub or_word_law : (v : ℕ → Bool) (n : ℕ) (a b : List Literal) → length a ≡ length b → satisfies v (blocks n (or_gates a b)) ≡ true → word_value v (fresh n a) ≡ bit_or (word_value v a) (word_value v b)
or_word_law v n a b l h = or_adds v n a b l (blocks_hold v n (or_gates a b) h)

pub or_word_extends : (n : ℕ) (a b : List Literal) → IsOver n a → IsOver n b → Extends n (blocks n (or_gates a b))
or_word_extends n a b oa ob =
    wired_extends n (or_gates a b) (pairwise_wired n n either a b (λ m x y le px py. (px, (py, tt))) (omega arith) (over_within n a oa) (over_within n b ob))

pub xor_word_law : (v : ℕ → Bool) (n : ℕ) (a b : List Literal) → length a ≡ length b → satisfies v (blocks n (xor_gates a b)) ≡ true → word_value v (fresh n a) ≡ bit_xor (word_value v a) (word_value v b)
xor_word_law v n a b l h = xor_adds v n a b l (blocks_hold v n (xor_gates a b) h)

pub xor_word_extends : (n : ℕ) (a b : List Literal) → IsOver n a → IsOver n b → Extends n (blocks n (xor_gates a b))
xor_word_extends n a b oa ob =
    wired_extends n (xor_gates a b) (pairwise_wired n n differ a b (λ m x y le px py. (px, (py, tt))) (omega arith) (over_within n a oa) (over_within n b ob))

pick_by : (v : ℕ → Bool) (n : ℕ) (f : Literal) (a b : List Literal) → length a ≡ length b → Holds v n (pick_gates f a b) → (t : Bool) → lit_value v f ≡ t → word_value v (fresh n a) ≡ cond t (word_value v a) (word_value v b)
pick_by v n f a b l h true e = pick_true v n f a b e l h
pick_by v n f a b l h false e = pick_false v n f a b e l h

pub pick_word_law : (v : ℕ → Bool) (n : ℕ) (f : Literal) (a b : List Literal) → length a ≡ length b → satisfies v (blocks n (pick_gates f a b)) ≡ true → word_value v (fresh n a) ≡ cond (lit_value v f) (word_value v a) (word_value v b)
pick_word_law v n f a b l h = pick_by v n f a b l (blocks_hold v n (pick_gates f a b) h) (lit_value v f) refl

pub pick_word_extends : (n : ℕ) (f : Literal) (a b : List Literal) → f.var ≤ n → IsOver n a → IsOver n b → Extends n (blocks n (pick_gates f a b))
pick_word_extends n f a b wf oa ob = wired_extends n (pick_gates f a b) (pick_wired n f a b wf (over_within n a oa) (over_within n b ob))
