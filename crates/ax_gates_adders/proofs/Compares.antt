-- What comparisons of words say.
use Rattle.std.proofs.Common.{◌≡◌, ◌≢◌, ℕ, zero, suc, ◌+◌, ◌*◌, ◌-◌, ◌^◌, ◌≤◌, ◌<◌, Bool, true, false, not, ◌&&◌, ◌||◌, List, [], ◌∷◌, ◌++◌, length, nat_eq, refl, ap, sym, subst, ◌∙◌, arith}
use Rattle.std.proofs.Math.Nat.{pow-succ'}
use Rattle.ax_proof.specs.Literal.{Literal, literal, negation}
use Rattle.ax_proof.specs.Assignment.{lit_value, clause_true}
use Rattle.ax_proof.proofs.Literals.{negation_twice}
use Rattle.ax_gates.specs.Gates.{Gate, differ, majority, none, next, blocks, block, xor_of}
use Rattle.ax_gates.specs.Words.{digit, word_value, fresh, pairwise, xor_gates, lit_true}
use Rattle.ax_gates.proofs.GateLaws.{signed-not, add1_digits}
use Rattle.ax_gates.proofs.Circuits.{WithinVars, Holds, Wired, Holds-split, Wired-append, within_more, fresh_within, blocks-append}
use Rattle.ax_gates.proofs.WordLaws.{length-pairwise, differ_wired}
use Rattle.ax_gates.proofs.Values.{digit-lt, negation_digit, word_value-lt}
use Rattle.ax_gates_adders.specs.Adders.{equal_gates, less_gates}

-- equality
xor_same : (z x y : Bool) → z ≡ xor_of x y → z ≡ false → digit x ≡ digit y
xor_same z true true e f = refl
xor_same z true false e f = absurd (cc)
xor_same z false true e f = absurd (cc)
xor_same z false false e f = refl

or_false : (a b : Bool) → (a || b) ≡ false → (a ≡ false) × (b ≡ false)
or_false true b e = absurd (cc)
or_false false b e = (refl, e)

differ_same : (v : ℕ → Bool) (n : ℕ) (a b : List Literal) → length a ≡ length b → Holds v n (pairwise differ a b) → clause_true v (fresh n a) ≡ false → word_value v a ≡ word_value v b
differ_same v n [] [] l h e = refl
differ_same v n [] (y ∷ b) l h e = absurd (omega arith)
differ_same v n (x ∷ a) [] l h e = absurd (omega arith)
differ_same v n (x ∷ a) (y ∷ b) l h e =
    let p = or_false (v (n + 1)) (clause_true v (fresh (n + 1) a)) e in
    let d = xor_same (v (n + 1)) (lit_value v x) (lit_value v y) h.0 p.0 in
    let r = differ_same v (n + 1) a b (omega arith) h.1 p.1 in
    omega arith

digits_split : (x y : Bool) (m k : ℕ) → digit x + 2 * m ≡ digit y + 2 * k → (digit x ≡ digit y) × (m ≡ k)
digits_split true true m k e = (refl, omega arith)
digits_split true false m k e = absurd (omega arith)
digits_split false true m k e = absurd (omega arith)
digits_split false false m k e = (refl, omega arith)

xor_of_same : (z x y : Bool) → z ≡ xor_of x y → digit x ≡ digit y → z ≡ false
xor_of_same z true true e f = e
xor_of_same z true false e f = absurd (omega arith)
xor_of_same z false true e f = absurd (omega arith)
xor_of_same z false false e f = e

same_differ : (v : ℕ → Bool) (n : ℕ) (a b : List Literal) → length a ≡ length b → Holds v n (pairwise differ a b) → word_value v a ≡ word_value v b → clause_true v (fresh n a) ≡ false
same_differ v n [] [] l h e = refl
same_differ v n [] (y ∷ b) l h e = absurd (omega arith)
same_differ v n (x ∷ a) [] l h e = absurd (omega arith)
same_differ v n (x ∷ a) (y ∷ b) l h e =
    let p = digits_split (lit_value v x) (lit_value v y) (word_value v a) (word_value v b) e in
    let z = xor_of_same (v (n + 1)) (lit_value v x) (lit_value v y) h.0 p.0 in
    let r = same_differ v (n + 1) a b (omega arith) h.1 p.1 in
    rw z r

bool_decides : (z r : Bool) (m k : ℕ) → z ≡ not r → (r ≡ false → m ≡ k) → (m ≡ k → r ≡ false) → z ≡ nat_eq m k
bool_decides z true m k e f g = e ∙ (grind (arith, g))
bool_decides z false m k e f g = e ∙ (let q = f refl in grind arith)

pub equal_adds : (v : ℕ → Bool) (n : ℕ) (a b : List Literal) → length a ≡ length b → Holds v n (equal_gates n a b) → lit_value v (next (n + length a)) ≡ nat_eq (word_value v a) (word_value v b)
equal_adds v n a b l h =
    let lp = length-pairwise differ a b l in
    let p = Holds-split v n (n + length a) (pairwise differ a b) (none (fresh n a) ∷ []) (omega arith) h in
    bool_decides (v (n + length a + 1)) (clause_true v (fresh n a)) (word_value v a) (word_value v b) p.1.0 (differ_same v n a b l p.0) (same_differ v n a b l p.0)

pub equal_wired : (n : ℕ) (a b : List Literal) → length a ≡ length b → WithinVars n a → WithinVars n b → Wired n (equal_gates n a b)
equal_wired n a b l wa wb =
    let lp = length-pairwise differ a b l in
    Wired-append n (n + length a) (pairwise differ a b) (none (fresh n a) ∷ []) (omega arith) (differ_wired n a b wa wb) (fresh_within n (n + length a) a (omega arith), tt)

-- order: the carries of a - b where the top bits are negated
abbrev pub chain_gates : ℕ → List Literal → List Literal → Literal → List Gate
chain_gates n [] b c = []
chain_gates n (x ∷ a) [] c = []
chain_gates n (x ∷ a) (y ∷ b) c = majority x (negation y) c ∷ chain_gates (n + 1) a b (next n)

abbrev pub chain_out : ℕ → List Literal → Literal → Literal
chain_out n [] c = c
chain_out n (x ∷ a) c = chain_out (n + 1) a (next n)

abbrev pub flip_top : List Literal → List Literal
flip_top [] = []
flip_top (x ∷ []) = negation x ∷ []
flip_top (x ∷ y ∷ xs) = x ∷ flip_top (y ∷ xs)

pub less_is_chain : (n : ℕ) (a b : List Literal) (c : Literal) → length a ≡ length b → less_gates n a b c ≡ chain_gates n (flip_top a) (flip_top b) c
less_is_chain n [] [] c l = refl
less_is_chain n [] (y ∷ b) c l = absurd (omega arith)
less_is_chain n (x ∷ []) [] c l = absurd (omega arith)
less_is_chain n (x ∷ u ∷ a) [] c l = absurd (omega arith)
less_is_chain n (x ∷ []) (y ∷ []) c l = ap (λ (z : Literal). majority (negation x) z c ∷ []) (sym (negation_twice y))
less_is_chain n (x ∷ []) (y ∷ w ∷ b) c l = absurd (omega arith)
less_is_chain n (x ∷ u ∷ a) (y ∷ []) c l = absurd (omega arith)
less_is_chain n (x ∷ u ∷ a) (y ∷ w ∷ b) c l =
    ap (λ (gs : List Gate). majority x (negation y) c ∷ gs) (less_is_chain (n + 1) (u ∷ a) (w ∷ b) (next n) (omega arith))

pub chain_out_is : (n : ℕ) (a : List Literal) (c : Literal) → 0 < length a → chain_out n a c ≡ literal (n + length a) true
chain_out_is n [] c l = absurd (omega arith)
chain_out_is n (x ∷ []) c l = ap (λ (k : ℕ). literal k true) (omega arith)
chain_out_is n (x ∷ y ∷ a) c l = chain_out_is (n + 1) (y ∷ a) (next n) (omega arith) ∙ ap (λ (k : ℕ). literal k true) (omega arith)

-- the carry of a chain: a - b + c, with a rest
pub record Carries (p out a b c : ℕ) : Type 0 where
  pub rest : ℕ
  pub small : rest < p
  pub total : rest + p * out + b + 1 ≡ a + p + c

pub chain_adds : (v : ℕ → Bool) (n : ℕ) (a b : List Literal) (c : Literal) → length a ≡ length b → Holds v n (chain_gates n a b c) → Carries (2 ^ length a) (digit (lit_value v (chain_out n a c))) (word_value v a) (word_value v b) (digit (lit_value v c))
chain_adds v n [] [] c l h = record { rest = 0; small = omega arith; total = omega arith }
chain_adds v n [] (y ∷ b) c l h = absurd (omega arith)
chain_adds v n (x ∷ a) [] c l h = absurd (omega arith)
chain_adds v n (x ∷ a) (y ∷ b) c l h =
    let s : Bool = xor_of (lit_value v x) (xor_of (lit_value v (negation y)) (lit_value v c)) in
    let d = add1_digits s (v (n + 1)) (lit_value v x) (lit_value v (negation y)) (lit_value v c) refl h.0 in
    let o = negation_digit v y in
    let r = chain_adds v (n + 1) a b (next n) (omega arith) h.1 in
    let sd = digit-lt s in
    record {
      rest = digit s + 2 * r.rest;
      small = (let sm = r.small in rw (pow-succ' 2 (length a)) (omega arith));
      total = (let t = r.total in rw (pow-succ' 2 (length a)) (omega arith));
    }

carry_true : (p a b c : ℕ) (out : Bool) → Carries p (digit out) a b c → b < a + c → out ≡ true
carry_true p a b c true r l = refl
carry_true p a b c false r l = let t = r.total in let s = r.small in absurd (omega arith)

carry_false : (p a b c : ℕ) (out : Bool) → Carries p (digit out) a b c → out ≡ true → b < a + c
carry_false p a b c true r l = let t = r.total in let s = r.small in omega arith
carry_false p a b c false r l = absurd (cc)

length-flip : (a : List Literal) → length (flip_top a) ≡ length a
length-flip [] = refl
length-flip (x ∷ []) = refl
length-flip (x ∷ y ∷ a) = ap suc (length-flip (y ∷ a))

flip_within : (n : ℕ) (a : List Literal) → WithinVars n a → WithinVars n (flip_top a)
flip_within n [] h = tt
flip_within n (x ∷ []) h = (h.0, tt)
flip_within n (x ∷ y ∷ a) h = (h.0, flip_within n (y ∷ a) h.1)

-- the word with its top bit flipped: half of the range is added or taken
pub flip_value : (v : ℕ → Bool) (l : ℕ) (a : List Literal) → length a ≡ suc l → (2 ^ l ≤ word_value v a → word_value v (flip_top a) + 2 ^ l ≡ word_value v a) × (word_value v a < 2 ^ l → word_value v (flip_top a) ≡ word_value v a + 2 ^ l)
flip_value v l [] e = absurd (omega arith)
flip_value v zero (x ∷ []) e = let d = negation_digit v x in let m = digit-lt (lit_value v x) in (λ h. (omega arith), λ h. (omega arith))
flip_value v (suc l) (x ∷ []) e = absurd (omega arith)
flip_value v zero (x ∷ y ∷ a) e = absurd (omega arith)
flip_value v (suc l) (x ∷ y ∷ a) e =
    let r = flip_value v l (y ∷ a) (omega arith) in
    let m = digit-lt (lit_value v x) in (
      λ h. (let k : 2 ^ l ≤ word_value v (y ∷ a) = (let g = rw (pow-succ' 2 l) at h in omega arith) in let q = r.0 k in rw (pow-succ' 2 l) (omega arith)),
      λ h. (let k : word_value v (y ∷ a) < 2 ^ l = (let g = rw (pow-succ' 2 l) at h in omega arith) in let q = r.1 k in rw (pow-succ' 2 l) (omega arith)),
    )

not_false : (x : Bool) → not x ≡ false → x ≡ true
not_false true e = refl
not_false false e = absurd (cc)

-- the last carry's negation is false exactly where b, its top bit flipped, is not above a
pub less_carries : (v : ℕ → Bool) (n : ℕ) (a b : List Literal) → v 1 ≡ true → 0 < length a → length a ≡ length b → Holds v n (less_gates n a b lit_true)
    → (lit_value v (literal (n + length a) false) ≡ false → word_value v (flip_top b) ≤ word_value v (flip_top a)) × (word_value v (flip_top b) ≤ word_value v (flip_top a) → lit_value v (literal (n + length a) false) ≡ false)
less_carries v n a b e1 pos l h =
    let la = length-flip a in
    let lb = length-flip b in
    let hc : Holds v n (chain_gates n (flip_top a) (flip_top b) lit_true) = subst (λ (gs : List Gate). Holds v n gs) (less_is_chain n a b lit_true l) h in
    let r = chain_adds v n (flip_top a) (flip_top b) lit_true (omega arith) hc in
    let od : digit (lit_value v lit_true) ≡ 1 = rw e1 refl in
    let out : chain_out n (flip_top a) lit_true ≡ literal (n + length a) true = chain_out_is n (flip_top a) lit_true (omega arith) ∙ ap (λ (k : ℕ). literal (n + k) true) la in
    let value : lit_value v (chain_out n (flip_top a) lit_true) ≡ v (n + length a) = ap (lit_value v) out in (
      λ e. (let t = carry_false (2 ^ length (flip_top a)) (word_value v (flip_top a)) (word_value v (flip_top b)) (digit (lit_value v lit_true)) (lit_value v (chain_out n (flip_top a) lit_true)) r (value ∙ not_false (v (n + length a)) e) in omega arith),
      λ g. ap not (sym value ∙ carry_true (2 ^ length (flip_top a)) (word_value v (flip_top a)) (word_value v (flip_top b)) (digit (lit_value v lit_true)) (lit_value v (chain_out n (flip_top a) lit_true)) r (omega arith)),
    )

pub less_wired : (n : ℕ) (a b : List Literal) (c : Literal) → WithinVars n a → WithinVars n b → c.var ≤ n → Wired n (less_gates n a b c)
less_wired n [] b c wa wb wc = tt
less_wired n (x ∷ []) [] c wa wb wc = tt
less_wired n (x ∷ u ∷ a) [] c wa wb wc = tt
less_wired n (x ∷ []) (y ∷ b) c wa wb wc = ((wa.0, (wb.0, (wc, tt))), tt)
less_wired n (x ∷ u ∷ a) (y ∷ b) c wa wb wc = (
  (wa.0, (wb.0, (wc, tt))),
  less_wired (n + 1) (u ∷ a) b (next n) (within_more n (n + 1) (u ∷ a) (omega arith) wa.1) (within_more n (n + 1) b (omega arith) wb.1) (omega arith),
)
