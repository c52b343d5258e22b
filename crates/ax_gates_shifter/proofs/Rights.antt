-- A shift to the right divides by a power of two. Where the sign is 1, it does so in the assignment that takes each variable
-- the other way round.
use Rattle.std.proofs.Common.{◌≡◌, ℕ, zero, suc, ◌+◌, ◌*◌, ◌^◌, ◌/◌, ◌≤◌, ◌<◌, Bool, true, false, not, cond, List, [], ◌∷◌, ◌++◌, length, drop, replicate, refl, ap, sym, subst, ◌∙◌, arith, length-append, length-drop}
use Rattle.std.proofs.Math.Nat.{pow-succ', div-div-eq-div-mul}
use Rattle.std.proofs.lemmas.Nat.{pow-add}
use Rattle.std.proofs.lemmas.List.{length-replicate}
use Rattle.ax_proof.specs.Literal.{Literal}
use Rattle.ax_proof.specs.Assignment.{signed, lit_value}
use Rattle.ax_gates.specs.Words.{digit, word_value, fresh, pick_gates}
use Rattle.ax_gates.proofs.Circuits.{Holds, Holds-split, length-fresh}
use Rattle.ax_gates.proofs.Values.{pow_pos, word_value-lt, low_part}
use Rattle.ax_gates_shifter.specs.Shifter.{moved_word, shift_gates, shift_outs}
use Rattle.ax_gates_shifter.proofs.Words.{moved_length, length-stage, fresh_as}

-- to the right: an assignment u in which the filling is false, and which keeps what is the same in v
abbrev pub SameLits : (ℕ → Bool) → List Literal → List Literal → Type 0
SameLits v [] bs = Unit {0}
SameLits v (x ∷ rest) [] = Unit {0}
SameLits v (x ∷ rest) (y ∷ bs) = (lit_value v x ≡ lit_value v y) × SameLits v rest bs

mux_is : (b f x y z : Bool) → f ≡ b → z ≡ cond f x y → z ≡ cond b x y
mux_is b f x y z e h = h ∙ ap (λ (g : Bool). cond g x y) e

pub pick_same_true : (v : ℕ → Bool) (n : ℕ) (f : Literal) (a b : List Literal) → lit_value v f ≡ true → Holds v n (pick_gates f a b) → length a ≡ length b → SameLits v (fresh n a) a
pick_same_true v n f [] b e h l = tt
pick_same_true v n f (x ∷ a) [] e h l = absurd (omega arith)
pick_same_true v n f (x ∷ a) (y ∷ b) e h l = (mux_is true (lit_value v f) (lit_value v x) (lit_value v y) (v (n + 1)) e h.0, pick_same_true v (n + 1) f a b e h.1 (omega arith))

pub pick_same_false : (v : ℕ → Bool) (n : ℕ) (f : Literal) (a b : List Literal) → lit_value v f ≡ false → Holds v n (pick_gates f a b) → length a ≡ length b → SameLits v (fresh n a) b
pick_same_false v n f [] b e h l = tt
pick_same_false v n f (x ∷ a) [] e h l = absurd (omega arith)
pick_same_false v n f (x ∷ a) (y ∷ b) e h l = (mux_is false (lit_value v f) (lit_value v x) (lit_value v y) (v (n + 1)) e h.0, pick_same_false v (n + 1) f a b e h.1 (omega arith))

same_value : (v u : ℕ → Bool) (a b : List Literal) → ((x y : Literal) → lit_value v x ≡ lit_value v y → lit_value u x ≡ lit_value u y) → length a ≡ length b → SameLits v a b → word_value u a ≡ word_value u b
same_value v u [] [] k l h = refl
same_value v u [] (y ∷ b) k l h = absurd (omega arith)
same_value v u (x ∷ a) [] k l h = absurd (omega arith)
same_value v u (x ∷ a) (y ∷ b) k l h = let d = ap digit (k x y h.0) in let r = same_value v u a b k (omega arith) h.1 in omega arith

zeros_none : (u : ℕ → Bool) (d : Literal) (s : ℕ) → lit_value u d ≡ false → word_value u (replicate s d) ≡ 0
zeros_none u d zero e = refl
zeros_none u d (suc s) e = let h = zeros_none u d s e in let f : digit (lit_value u d) ≡ 0 = ap digit e in omega arith

zeros_after : (u : ℕ → Bool) (d : Literal) (s : ℕ) (a : List Literal) → lit_value u d ≡ false → word_value u (a ++ replicate s d) ≡ word_value u a
zeros_after u d s [] e = zeros_none u d s e
zeros_after u d s (x ∷ a) e = let h = zeros_after u d s a e in omega arith

half_div : (x : Bool) (m p : ℕ) → 0 < p → (digit x + 2 * m) / (2 * p) ≡ m / p
half_div x m p pos = sym (div-div-eq-div-mul (digit x + 2 * m) 2 p) ∙ ap (λ (z : ℕ). z / p) (low x)
  where
    low : (x : Bool) → (digit x + 2 * m) / 2 ≡ m
    low true = omega arith
    low false = omega arith

pub drop_value : (u : ℕ → Bool) (s : ℕ) (a : List Literal) → word_value u (drop s a) ≡ word_value u a / 2 ^ s
drop_value u zero a = omega arith
drop_value u (suc s) [] = sym (zero_div (2 ^ suc s) (pow_pos (suc s)))
  where
    zero_div : (p : ℕ) → 0 < p → 0 / p ≡ 0
    zero_div p h = omega arith
drop_value u (suc s) (x ∷ a) = drop_value u s a ∙ (sym (half_div (lit_value u x) (word_value u a) (2 ^ s) (pow_pos s)) ∙ ap (λ (z : ℕ). word_value u (x ∷ a) / z) (sym (pow-succ' 2 s)))

no_times : (w t p z : ℕ) → w + t * p ≡ z → z < p → w ≡ z
no_times w zero p z e l = omega arith
no_times w (suc t) p z e l = absurd (omega arith)

moved_right_value : (u : ℕ → Bool) (s : ℕ) (d : Literal) (a : List Literal) → lit_value u d ≡ false → word_value u (moved_word true d s a) ≡ word_value u a / 2 ^ s
moved_right_value u s d a e =
    let la : length a ≤ length (drop s a ++ replicate s d) = (let h = length-append (drop s a) (replicate s d) in let g = length-drop s a in let r = length-replicate s d in omega arith) in
    let low = low_part u (length a) (drop s a ++ replicate s d) la in
    let z = zeros_after u d s (drop s a) e in
    let q = drop_value u s a in
    let lt = word_value-lt u a in
    let le : word_value u a / 2 ^ s ≤ word_value u a = omega arith in
    no_times (word_value u (moved_word true d s a)) low.times (2 ^ length a) (word_value u a / 2 ^ s) (low.total ∙ (z ∙ q)) (omega arith)

pub right_adds : (v u : ℕ → Bool) (n : ℕ) (d : Literal) (a ks : List Literal) (s : ℕ) → ((x y : Literal) → lit_value v x ≡ lit_value v y → lit_value u x ≡ lit_value u y) → lit_value u d ≡ false → Holds v n (shift_gates true d n a ks s) → word_value u (shift_outs n a ks) ≡ word_value u a / 2 ^ (s * word_value v ks)
right_adds v u n d a [] s keep e h = let z : s * 0 ≡ 0 = omega arith in rw z (omega arith)
right_adds v u n d a (k ∷ ks) s keep e h =
    let lm = moved_length true d s a in
    let lp = length-stage true d k s a in
    let p = Holds-split v n (n + length a) (pick_gates k (moved_word true d s a) a) (shift_gates true d (n + length a) (fresh n a) ks (s * 2)) (omega arith) h in
    let rest = right_adds v u (n + length a) d (fresh n a) ks (s * 2) keep e p.1 in
    rest ∙ stage (lit_value v k) refl p.0
  where
    stage : (b : Bool) → lit_value v k ≡ b → Holds v n (pick_gates k (moved_word true d s a) a) → word_value u (fresh n a) / 2 ^ (s * 2 * word_value v ks) ≡ word_value u a / 2 ^ (s * (digit b + 2 * word_value v ks))
    stage true f hp =
        let lm = moved_length true d s a in
        let fa = fresh_as n a (moved_word true d s a) (sym lm) in
        let lf = length-fresh n (moved_word true d s a) in
        let new : word_value u (fresh n a) ≡ word_value u (moved_word true d s a) = ap (word_value u) fa ∙ same_value v u (fresh n (moved_word true d s a)) (moved_word true d s a) keep (omega arith) (pick_same_true v n k (moved_word true d s a) a f hp lm) in
        let val = new ∙ moved_right_value u s d a e in
        let g : s * (1 + 2 * word_value v ks) ≡ s + s * 2 * word_value v ks = omega arith in
        ap (λ (z : ℕ). z / 2 ^ (s * 2 * word_value v ks)) val
        ∙ (div-div-eq-div-mul (word_value u a) (2 ^ s) (2 ^ (s * 2 * word_value v ks))
        ∙ ap (λ (z : ℕ). word_value u a / z) (sym (ap (λ (z : ℕ). 2 ^ z) g ∙ pow-add 2 s (s * 2 * word_value v ks))))
    stage false f hp =
        let lm = moved_length true d s a in
        let fa = fresh_as n a (moved_word true d s a) (sym lm) in
        let lf = length-fresh n a in
        let same = pick_same_false v n k (moved_word true d s a) a f hp lm in
        let same1 = subst (λ (z : List Literal). SameLits v z a) (sym fa) same in
        let new : word_value u (fresh n a) ≡ word_value u a = same_value v u (fresh n a) a keep (omega arith) same1 in
        let g : s * 2 * word_value v ks ≡ s * (0 + 2 * word_value v ks) = omega arith in
        ap (λ (z : ℕ). z / 2 ^ (s * 2 * word_value v ks)) new ∙ ap (λ (z : ℕ). word_value u a / 2 ^ z) g

abbrev pub flipped : (ℕ → Bool) → ℕ → Bool
flipped v x = not (v x)

pub flipped_lit : (v : ℕ → Bool) (l : Literal) → lit_value (flipped v) l ≡ not (lit_value v l)
flipped_lit v l = by l.positive (v l.var)
  where
    by : (p b : Bool) → signed p (not b) ≡ not (signed p b)
    by true b = refl
    by false b = refl

pub flipped_value : (v : ℕ → Bool) (a : List Literal) → word_value (flipped v) a + word_value v a + 1 ≡ 2 ^ length a
flipped_value v [] = omega arith
flipped_value v (x ∷ a) =
    let h = flipped_value v a in
    let d : digit (lit_value (flipped v) x) + digit (lit_value v x) ≡ 1 = ap (λ (b : Bool). digit b + digit (lit_value v x)) (flipped_lit v x) ∙ two (lit_value v x) in
    rw (pow-succ' 2 (length a)) (omega arith)
  where
    two : (b : Bool) → digit (not b) + digit b ≡ 1
    two true = refl
    two false = refl

-- the arithmetic shift: by what the top bit is
pub right_clear : (v : ℕ → Bool) (n : ℕ) (d : Literal) (a ks : List Literal) → lit_value v d ≡ false → Holds v n (shift_gates true d n a ks 1) → word_value v (shift_outs n a ks) ≡ word_value v a / 2 ^ word_value v ks
right_clear v n d a ks e h = right_adds v v n d a ks 1 (λ x y q. q) e h ∙ ap (λ (z : ℕ). word_value v a / 2 ^ z) (omega arith)

pub right_set : (v : ℕ → Bool) (n : ℕ) (d : Literal) (a ks : List Literal) → lit_value v d ≡ true → Holds v n (shift_gates true d n a ks 1) → word_value (flipped v) (shift_outs n a ks) ≡ word_value (flipped v) a / 2 ^ word_value v ks
right_set v n d a ks e h =
    right_adds v (flipped v) n d a ks 1 (λ x y q. flipped_lit v x ∙ (ap not q ∙ sym (flipped_lit v y))) (flipped_lit v d ∙ ap not e) h ∙ ap (λ (z : ℕ). word_value (flipped v) a / 2 ^ z) (omega arith)
