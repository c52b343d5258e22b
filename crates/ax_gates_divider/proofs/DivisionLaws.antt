-- What a division comes to.
use Rattle.std.proofs.Common.{◌≡◌, ℕ, zero, suc, ◌+◌, ◌*◌, ◌^◌, ◌≤◌, Bool, true, List, [], ◌∷◌, length, refl, ap, sym, subst, ◌∙◌, arith, replicate, length-append}
use Rattle.std.proofs.Math.Nat.{pow-succ'}
use Rattle.std.proofs.lemmas.List.{length-replicate}
use Rattle.ax_proof.specs.Literal.{Literal}
use Rattle.ax_proof.specs.Assignment.{lit_value}
use Rattle.ax_gates.specs.Gates.{Gate}
use Rattle.ax_gates.specs.Words.{digit, word_value, fresh, lit_false}
use Rattle.ax_gates.proofs.Circuits.{WithinVars, Holds, Wired, Holds-split, Wired-append, within_more, fresh_within, length-fresh}
use Rattle.ax_gates.proofs.Values.{pow_pos}
use Rattle.ax_gates_divider.specs.Divisions.{negated, turn_gates, turn_vars, Division, division}
use Rattle.ax_gates_divider.proofs.TurnLaws.{Divides, length-negated, length-turn, turn_adds, turn_wired}

-- zeros
zeros_value : (v : ℕ → Bool) (k : ℕ) → v 1 ≡ true → word_value v (replicate k lit_false) ≡ 0
zeros_value v zero e = refl
zeros_value v (suc k) e = let h = zeros_value v k e in let d : digit (lit_value v lit_false) ≡ 0 = rw e refl in omega arith

zeros_within : (n k : ℕ) → 1 ≤ n → WithinVars n (replicate k lit_false)
zeros_within n zero h = tt
zeros_within n (suc k) h = (h, zeros_within n k h)

-- lengths
pub length-remainder : (n : ℕ) (a b : List Literal) → length (division n a b).remainder ≡ length b
length-remainder n [] b = length-replicate (length b) lit_false
length-remainder n (x ∷ a) b = length-fresh ((division n a b).vars + 2 * (length b + 1)) b

length_last_turn : (n : ℕ) (x : Literal) (a b : List Literal) → length (turn_gates (division n a b).vars (x ∷ (division n a b).remainder) (negated b) (length b)) ≡ turn_vars (length b)
length_last_turn n x a b =
    let d : Division = division n a b in
    let lr = length-remainder n a b in
    let ln = length-negated b in
    subst (λ (k : ℕ). length (turn_gates d.vars (x ∷ d.remainder) (negated b) k) ≡ turn_vars k) lr (length-turn d.vars x d.remainder (negated b) (ln ∙ ap suc (sym lr)))

pub length-division : (n : ℕ) (a b : List Literal) → n + length (division n a b).gates ≡ (division n a b).vars
length-division n [] b = omega arith
length-division n (x ∷ a) b =
    let d : Division = division n a b in
    let h = length-division n a b in
    let l = length_last_turn n x a b in
    let e = length-append d.gates (turn_gates d.vars (x ∷ d.remainder) (negated b) (length b)) in
    omega arith

pub vars-division : (n : ℕ) (a b : List Literal) → (division n a b).vars ≡ n + length a * turn_vars (length b)
vars-division n [] b = omega arith
vars-division n (x ∷ a) b = let h = vars-division n a b in omega arith

-- values
pow_le : (k l : ℕ) → k ≤ l → 2 ^ k ≤ 2 ^ l
pow_le zero l h = pow_pos l
pow_le (suc k) zero h = absurd (omega arith)
pow_le (suc k) (suc l) h = let r = pow_le k l (omega arith) in rw (pow-succ' 2 k, pow-succ' 2 l) (omega arith)

pub division_divides : (v : ℕ → Bool) (n : ℕ) (a b : List Literal) → v 1 ≡ true → length a ≤ length b → Holds v n (division n a b).gates
    → Divides (length a) (word_value v b) (word_value v a) (word_value v (division n a b).quotient) (word_value v (division n a b).remainder)
division_divides v n [] b e1 l h =
    let z = zeros_value v (length b) e1 in
    record { exact = λ p. (omega arith); below = λ p. (omega arith); ones = λ p. (omega arith); whole = λ p. z; within = omega arith }
division_divides v n (x ∷ a) b e1 l h =
    let d : Division = division n a b in
    let lr = length-remainder n a b in
    let turn : List Gate = turn_gates d.vars (x ∷ d.remainder) (negated b) (length b) in
    let p = Holds-split v n d.vars d.gates turn (sym (length-division n a b)) h in
    let rest = division_divides v n a b e1 (omega arith) p.0 in
    let holds = subst (λ (k : ℕ). Holds v d.vars (turn_gates d.vars (x ∷ d.remainder) (negated b) k)) (sym lr) p.1 in
    let t = turn_adds v d.vars (length a) x d.remainder b (word_value v d.quotient) (word_value v a) e1 lr (pow_le (suc (length a)) (length b) l) holds rest in
    let place : d.vars + 2 * length (x ∷ d.remainder) ≡ d.vars + 2 * (length b + 1) = omega arith in
    subst (λ (k : ℕ). Divides (length (x ∷ a)) (word_value v b) (word_value v (x ∷ a)) (word_value v (division n (x ∷ a) b).quotient) (word_value v (fresh k b))) place t

-- what the gates read
pub remainder_within : (n : ℕ) (a b : List Literal) → 1 ≤ n → WithinVars (division n a b).vars (division n a b).remainder
remainder_within n [] b e1 = zeros_within n (length b) e1
remainder_within n (x ∷ a) b e1 = fresh_within ((division n a b).vars + 2 * (length b + 1)) (division n (x ∷ a) b).vars b (omega arith)

pub division_wired : (n : ℕ) (a b : List Literal) → 1 ≤ n → WithinVars n a → WithinVars n b → Wired n (division n a b).gates
division_wired n [] b e1 wa wb = tt
division_wired n (x ∷ a) b e1 wa wb =
    let d : Division = division n a b in
    let le = length-division n a b in
    let lr = length-remainder n a b in
    let t = turn_wired d.vars x d.remainder b (omega arith) lr (omega arith) (remainder_within n a b e1) (within_more n d.vars b (omega arith) wb) in
    Wired-append n d.vars d.gates (turn_gates d.vars (x ∷ d.remainder) (negated b) (length b)) (sym le) (division_wired n a b e1 wa.1 wb)
    (subst (λ (k : ℕ). Wired d.vars (turn_gates d.vars (x ∷ d.remainder) (negated b) k)) lr t)
