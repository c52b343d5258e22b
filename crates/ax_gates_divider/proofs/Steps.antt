-- The turns of a division one by one, as the code takes them.
use Rattle.std.proofs.Common.{◌≡◌, ℕ, zero, suc, ◌+◌, ◌*◌, ◌-◌, ◌≤◌, ◌<◌, List, [], ◌∷◌, ◌++◌, true, length, take, drop, get_or, refl, ap, sym, ◌∙◌, arith}
use Rattle.std.proofs.Math.Seq.{drop-cons}
use Rattle.std.proofs.Math.Nat.{mul-le-mul_right}
use Rattle.std.proofs.lemmas.List.{length-take-le, length-drop}
use Rattle.ax_proof.specs.Literal.{Literal, literal}
use Rattle.ax_gates.specs.Gates.{blocks, next}
use Rattle.ax_gates.specs.Words.{fresh, pick_gates, lit_true}
use Rattle.ax_gates.proofs.Circuits.{blocks-append}
use Rattle.ax_gates_adders.specs.Adders.{carry_gates, carry_outs}
use Rattle.ax_gates_adders.proofs.Additions.{length-carry}
use Rattle.ax_gates_divider.specs.Divisions.{negated, fits, turn_gates, turn_vars, Division, turn_of, division}
use Rattle.ax_gates_divider.proofs.TurnLaws.{length-carry_outs}
use Rattle.ax_gates_divider.proofs.DivisionLaws.{length-division, vars-division}

pub carry_is : (n : ℕ) (a : List Literal) (c d : Literal) (i : ℕ) → 0 < i → i ≡ length a → get_or (carry_outs n a c) i d ≡ literal (n + 2 * length a) true
carry_is n [] c d i p e = absurd (omega arith)
carry_is n (x ∷ a) c d zero p e = absurd (omega arith)
carry_is n (x ∷ []) c d (suc zero) p e = ap (λ (k : ℕ). literal k true) (let f : n + 1 + 1 ≡ n + 2 * 1 = omega arith in f)
carry_is n (x ∷ []) c d (suc (suc i)) p e = absurd (omega arith)
carry_is n (x ∷ y ∷ a) c d (suc i) p e =
    carry_is (n + 1 + 1) (y ∷ a) (next (n + 1)) d i (omega arith) (omega arith)
    ∙ ap (λ (k : ℕ). literal k true) (let f : n + 1 + 1 + 2 * length (y ∷ a) ≡ n + 2 * length (x ∷ y ∷ a) = omega arith in f)

pub length_sums : (n : ℕ) (a : List Literal) (c : Literal) → length (carry_outs n a c) ≡ length a + 1
length_sums n a c = let l = length-carry_outs n a c in omega arith

pub length_low : (n low : ℕ) (a : List Literal) (c : Literal) → low ≤ length a → length (take low (carry_outs n a c)) ≡ low
length_low n low a c h = length-take-le low (carry_outs n a c) (let l = length-carry_outs n a c in omega arith)

pub length_wide : (low : ℕ) (a : List Literal) → low + 1 ≡ length a → length (take low a) ≡ low
length_wide low a h = length-take-le low a (omega arith)

pub turn_blocks : (n : ℕ) (wide minus : List Literal) (low : ℕ) → length wide ≡ length minus
    → blocks n (turn_gates n wide minus low)
    ≡ blocks n (carry_gates n wide minus lit_true) ++ blocks (n + 2 * length wide) (pick_gates (fits n wide) (take low (carry_outs n wide lit_true)) (take low wide))
turn_blocks n wide minus low e =
    let l = length-carry n wide minus lit_true e in
    blocks-append n (n + 2 * length wide) (carry_gates n wide minus lit_true) (pick_gates (fits n wide) (take low (carry_outs n wide lit_true)) (take low wide)) (omega arith)

-- the turn of the highest bit that is left
division_step : (n : ℕ) (a b : List Literal) (i : ℕ) (d : Literal) → 0 < i → i ≤ length a → division n (drop (i - 1) a) b ≡ turn_of (get_or a (i - 1) d) b (division n (drop i a) b)
division_step n a b zero d pos le = absurd (omega arith)
division_step n a b (suc j) d pos le =
    let e : suc j - 1 ≡ j = omega arith in
    rw (e, drop-cons a j d) refl

pub step_blocks : (n : ℕ) (a b : List Literal) (i : ℕ) (d : Literal) → 0 < i → i ≤ length a
    → blocks n (division n (drop (i - 1) a) b).gates
    ≡ blocks n (division n (drop i a) b).gates
    ++ blocks (division n (drop i a) b).vars (turn_gates (division n (drop i a) b).vars (get_or a (i - 1) d ∷ (division n (drop i a) b).remainder) (negated b) (length b))
step_blocks n a b i d pos le =
    let e : Division = division n (drop i a) b in
    ap (λ (z : Division). blocks n z.gates) (division_step n a b i d pos le)
    ∙ blocks-append n e.vars e.gates (turn_gates e.vars (get_or a (i - 1) d ∷ e.remainder) (negated b) (length b)) (sym (length-division n (drop i a) b))

pub step_vars : (n : ℕ) (a b : List Literal) (i : ℕ) (d : Literal) → 0 < i → i ≤ length a → (division n (drop (i - 1) a) b).vars ≡ (division n (drop i a) b).vars + turn_vars (length b)
step_vars n a b i d pos le = ap (λ (z : Division). z.vars) (division_step n a b i d pos le)

pub step_quotient : (n : ℕ) (a b : List Literal) (i : ℕ) (d : Literal) → 0 < i → i ≤ length a
    → (division n (drop (i - 1) a) b).quotient ≡ fits (division n (drop i a) b).vars (get_or a (i - 1) d ∷ (division n (drop i a) b).remainder) ∷ (division n (drop i a) b).quotient
step_quotient n a b i d pos le = ap (λ (z : Division). z.quotient) (division_step n a b i d pos le)

pub step_remainder : (n : ℕ) (a b : List Literal) (i : ℕ) (d : Literal) → 0 < i → i ≤ length a → (division n (drop (i - 1) a) b).remainder ≡ fresh ((division n (drop i a) b).vars + 2 * (length b + 1)) b
step_remainder n a b i d pos le = ap (λ (z : Division). z.remainder) (division_step n a b i d pos le)

-- a turn's variables are among those of the whole
pub turn_room : (n : ℕ) (a b : List Literal) (i : ℕ) → 0 < i → i ≤ length a → (division n (drop i a) b).vars + turn_vars (length b) ≤ n + length a * turn_vars (length b)
turn_room n a b i pos le =
    let v = vars-division n (drop i a) b in
    let l = length-drop i a in
    let m = mul-le-mul_right (turn_vars (length b)) (let q : length (drop i a) + 1 ≤ length a = omega arith in q) in
    omega arith
