-- Bits of constants and of symbols.
use Rattle.std.proofs.Common.{◌≡◌, ◌≢◌, ℕ, zero, suc, ◌+◌, ◌-◌, ◌*◌, ◌^◌, ◌/◌, ◌%◌, ◌==◌, ◌≤◌, ◌<◌, Bool, true, false, not, List, [], ◌∷◌, ◌++◌, append-nil, append_assoc, length, replicate, nat_eq, ℤ, refl, ap, sym, subst, ◌∙◌, arith, w32}
use Rattle.std.specs.Int.{int_wrap, cast_signed, cast_unsigned}
use Rattle.std.specs.Prelude.{FitsSigned}
use Rattle.std.proofs.lemmas.Int.{int_wrap_fits, SFits-int_wrap, to_z-of_z, of_z-to_z}
use Rattle.std.proofs.lemmas.Nat.{mod-mul-add}
use Rattle.std.proofs.Math.Nat.{pow-succ'}
use Rattle.std.proofs.Math.Facts.{Fits-of_z, Fits-lt-pow, Fits-of_lt, sfits_to_z}
use Rattle.ax_proof.specs.Literal.{Literal, literal}
use Rattle.ax_proof.specs.Assignment.{lit_value, signed, satisfies}
use Rattle.ax_gates.specs.Gates.{Gate, free, next, blocks, block, as_clauses, gate_clauses}
use Rattle.ax_gates.specs.Words.{digit, word_value, Agree}
use Rattle.ax_gates.proofs.Circuits.{WithinVars, Wired, Holds, hold_blocks, set_var, set_new, set_old}
use Rattle.ax_gates.proofs.Values.{pow_pos, word_value-lt}
use Rattle.ax_gates_adders.specs.Adders.{signed_value}
use Rattle.ax_blast.specs.Blasting.{constant_bits, word_bits, new_bits, symbol_bits, symbol_gates}

pub word_fits : (z : ℤ) → FitsSigned w32 z → int_wrap w32 z ≡ z
word_fits z f = int_wrap_fits w32 z f

length-constant : (k z : ℕ) → length (constant_bits k z) ≡ k
length-constant zero z = refl
length-constant (suc k) z = ap suc (length-constant k (z / 2))

length-new : (n k : ℕ) → length (new_bits n k) ≡ k
length-new n zero = refl
length-new n (suc k) = ap suc (length-new (n + 1) k)

pub length-word_bits : (z : ℤ) → length (word_bits z) ≡ 32
unfolding word_bits
length-word_bits z = length-constant 32 (cast_unsigned w32 (int_wrap w32 z))

pub length-symbol_bits : (n : ℕ) → length (symbol_bits n) ≡ 32
unfolding symbol_bits
length-symbol_bits n = length-new n 32

constant_within : (n k z : ℕ) → 1 ≤ n → WithinVars n (constant_bits k z)
constant_within n zero z h = tt
constant_within n (suc k) z h = (h, constant_within n k (z / 2) h)

pub word_bits_within : (n : ℕ) (z : ℤ) → 1 ≤ n → WithinVars n (word_bits z)
unfolding word_bits
word_bits_within n z h = constant_within n 32 (cast_unsigned w32 (int_wrap w32 z)) h

new_within : (n m k : ℕ) → n + k ≤ m → WithinVars m (new_bits n k)
new_within n m zero h = tt
new_within n m (suc k) h = (omega arith, new_within (n + 1) m k (omega arith))

pub symbol_bits_within : (n : ℕ) → WithinVars (n + 32) (symbol_bits n)
unfolding symbol_bits
symbol_bits_within n = new_within n (n + 32) 32 (omega arith)

length-free : (k : ℕ) → length (replicate k free) ≡ k
length-free zero = refl
length-free (suc k) = ap suc (length-free k)

pub symbol_count : length symbol_gates ≡ 32
unfolding symbol_gates
symbol_count = length-free 32

free_wired : (n k : ℕ) → Wired n (replicate k free)
free_wired n zero = tt
free_wired n (suc k) = (tt, free_wired (n + 1) k)

pub symbol_wired : (n : ℕ) → Wired n symbol_gates
unfolding symbol_gates
symbol_wired n = free_wired n 32

free_holds : (v : ℕ → Bool) (n k : ℕ) → Holds v n (replicate k free)
free_holds v n zero = tt
free_holds v n (suc k) = (refl, free_holds v (n + 1) k)

pub symbol_holds : (v : ℕ → Bool) (n : ℕ) → Holds v n symbol_gates
unfolding symbol_gates
symbol_holds v n = free_holds v n 32

free_block : (z : Literal) → block z free ≡ []
unfolding block
free_block z = refl

free_blocks : (n k : ℕ) → blocks n (replicate k free) ≡ []
free_blocks n zero = refl
free_blocks n (suc k) = rw (free_block (next n)) (free_blocks (n + 1) k)

pub one_free : (n : ℕ) → blocks n (free ∷ []) ≡ []
one_free n = free_blocks n 1

-- the clauses of a symbol are none
pub symbol_blocks : (n : ℕ) → blocks n symbol_gates ≡ []
unfolding symbol_gates
symbol_blocks n = free_blocks n 32

pub symbol_appends : (new old : List (List Literal)) (n : ℕ) → new ≡ old → new ≡ old ++ blocks n symbol_gates
symbol_appends new old n e = e ∙ (sym (append-nil old) ∙ ap (λ (r : List (List Literal)). old ++ r) (sym (symbol_blocks n)))

pub one_appends : (new old : List (List Literal)) (n : ℕ) → new ≡ old → new ≡ old ++ blocks n (free ∷ [])
one_appends new old n e = e ∙ (sym (append-nil old) ∙ ap (λ (r : List (List Literal)). old ++ r) (sym (one_free n)))

-- values
eq_is : (x y : ℕ) → nat_eq x y ≡ true → x ≡ y
eq_is x y e = grind arith

half : (s y m : ℕ) → 0 < m → s < 2 → (s + 2 * y) % (2 * m) ≡ s + 2 * (y % m)
half s y m pos h =
    let lt : y % m < m = omega arith in
    let e : s + 2 * y ≡ (y / m) * (2 * m) + (s + 2 * (y % m)) = omega arith in
    rw e (mod-mul-add (y / m) (2 * m) (s + 2 * (y % m)) (omega arith))

halves : (k z : ℕ) → z % 2 ^ suc k ≡ z % 2 + 2 * (z / 2 % 2 ^ k)
halves k z =
    let lt : z % 2 < 2 = omega arith in
    let e : z ≡ z % 2 + 2 * (z / 2) = omega arith in
    let g = half (z % 2) (z / 2) (2 ^ k) (pow_pos k) lt in
    ap (λ (x : ℕ). z % x) (pow-succ' 2 k) ∙ (ap (λ (x : ℕ). x % (2 * 2 ^ k)) e ∙ g)

odd_digit : (z : ℕ) → digit (nat_eq (z % 2) 1) ≡ z % 2
odd_digit z = by (nat_eq (z % 2) 1) refl
  where
    by : (b : Bool) → nat_eq (z % 2) 1 ≡ b → digit b ≡ z % 2
    by true e = sym (eq_is (z % 2) 1 e)
    by false e = let ne : z % 2 ≢ 1 = grind arith in let lt : z % 2 < 2 = omega arith in omega arith

one_mod : (z : ℕ) → z % 2 ^ 0 ≡ 0
one_mod z = omega arith

-- a constant's literal
pub constant_lit : (v : ℕ → Bool) (b : Bool) → v 1 ≡ true → lit_value v (literal 1 b) ≡ b
constant_lit v true e = e
constant_lit v false e = ap not e

constant_value : (v : ℕ → Bool) (k z : ℕ) → v 1 ≡ true → word_value v (constant_bits k z) ≡ z % 2 ^ k
constant_value v zero z e = sym (one_mod z)
constant_value v (suc k) z e =
    let h = constant_value v k (z / 2) e in
    let d : digit (lit_value v (literal 1 (nat_eq (z % 2) 1))) ≡ digit (nat_eq (z % 2) 1) = ap digit (constant_lit v (nat_eq (z % 2) 1) e) in
    let o = odd_digit z in
    let g = halves k z in
    omega arith

small_mod : (x m : ℕ) → x < m → x % m ≡ x
small_mod x m h = let e : 0 * m + x ≡ x = omega arith in ap (λ (z : ℕ). z % m) (sym e) ∙ mod-mul-add 0 m x h

-- an assignment in which so many new variables are the bits of a number
set_bits : (k n z : ℕ) (u : ℕ → Bool) → (v : ℕ → Bool) × Agree n u v × (word_value v (new_bits n k) ≡ z % 2 ^ k)
set_bits zero n z u = (u, (λ x h. refl), sym (one_mod z))
set_bits (suc k) n z u =
    let b : Bool = nat_eq (z % 2) 1 in
    let u1 : ℕ → Bool = set_var u (n + 1) b in
    let rest = set_bits k (n + 1) (z / 2) u1 in
    let v : ℕ → Bool = rest.0 in
    let agree : Agree n u v = λ x h. (let ne : x ≢ n + 1 = omega arith in sym (set_old u (n + 1) b x ne) ∙ rest.1 x (omega arith)) in
    let new : v (n + 1) ≡ b = sym (rest.1 (n + 1) (omega arith)) ∙ set_new u (n + 1) b in
    let d : digit (v (n + 1)) ≡ digit (nat_eq (z % 2) 1) = ap digit new in
    let o = odd_digit z in
    let g = halves k z in
    let r = rest.2 in
    (v, agree, omega arith)

unsigned_small : (z : ℤ) → cast_unsigned w32 (int_wrap w32 z) < 2 ^ 32
unsigned_small z = Fits-lt-pow (Fits-of_z (SFits-int_wrap w32 z))

-- the number's bits as a word have its value with sign
pub wrapped_back : (z : ℤ) → cast_signed w32 (cast_unsigned w32 (int_wrap w32 z) % 2 ^ 32) ≡ int_wrap w32 z
wrapped_back z =
    ap (cast_signed w32) (small_mod (cast_unsigned w32 (int_wrap w32 z)) (2 ^ 32) (unsigned_small z))
    ∙ to_z-of_z w32 (int_wrap w32 z) (SFits-int_wrap w32 z)

pub word_bits_value : (v : ℕ → Bool) (z : ℤ) → v 1 ≡ true → signed_value v (word_bits z) ≡ int_wrap w32 z
unfolding word_bits
word_bits_value v z e = ap (cast_signed w32) (constant_value v 32 (cast_unsigned w32 (int_wrap w32 z)) e) ∙ wrapped_back z

pub set_symbol : (n : ℕ) (z : ℤ) (u : ℕ → Bool) → (v : ℕ → Bool) × Agree n u v × (signed_value v (symbol_bits n) ≡ int_wrap w32 z)
unfolding symbol_bits
set_symbol n z u =
    let b = set_bits 32 n (cast_unsigned w32 (int_wrap w32 z)) u in
    (b.0, b.1, ap (cast_signed w32) b.2 ∙ wrapped_back z)

-- a word's number with sign fits
pub signed_fits : (v : ℕ → Bool) (a : List Literal) → length a ≡ 32 → int_wrap w32 (signed_value v a) ≡ signed_value v a
signed_fits v a l =
    int_wrap_fits w32 (signed_value v a) (sfits_to_z (Fits-of_lt (subst (λ (k : ℕ). word_value v a < 2 ^ k) l (word_value-lt v a))))

-- the code's bits
pub constant_step : (count i z : ℕ) → i < count → constant_bits (count - i) z ≡ literal 1 (z % 2 == 1) ∷ constant_bits (count - (i + 1)) (z / 2)
constant_step count i z h = let e : count - i ≡ suc (count - (i + 1)) = omega arith in ap (λ (k : ℕ). constant_bits k z) e

pub new_step : (count i n : ℕ) → i < count → new_bits n (count - i) ≡ next n ∷ new_bits (n + 1) (count - (i + 1))
new_step count i n h = let e : count - i ≡ suc (count - (i + 1)) = omega arith in ap (λ (k : ℕ). new_bits n k) e

pub constant_is : (z : ℤ) (ls : List Literal) → FitsSigned w32 z → ls ≡ constant_bits 32 (cast_unsigned w32 z) → ls ≡ word_bits z
unfolding word_bits
constant_is z ls f e = e ∙ ap (λ (x : ℤ). constant_bits 32 (cast_unsigned w32 x)) (sym (int_wrap_fits w32 z f))

pub symbol_is : (n : ℕ) (ls : List Literal) → ls ≡ new_bits n 32 → ls ≡ symbol_bits n
unfolding symbol_bits
symbol_is n ls e = e

pub constant_more : (new old whole : List Literal) (l : Literal) (count i z : ℕ) → new ≡ old ++ l ∷ [] → l ≡ literal 1 (z % 2 == 1) → i < count → old ++ constant_bits (count - i) z ≡ whole → new ++ constant_bits (count - (i + 1)) (z / 2) ≡ whole
constant_more new old whole l count i z en el h e =
    ap (λ (xs : List Literal). xs ++ constant_bits (count - (i + 1)) (z / 2)) en
    ∙ (append_assoc old (l ∷ []) (constant_bits (count - (i + 1)) (z / 2))
    ∙ (ap (λ (x : Literal). old ++ x ∷ constant_bits (count - (i + 1)) (z / 2)) el
    ∙ (ap (λ (xs : List Literal). old ++ xs) (sym (constant_step count i z h)) ∙ e)))

pub new_more : (new old whole : List Literal) (l : Literal) (count i n m : ℕ) → new ≡ old ++ l ∷ [] → l ≡ next n → m ≡ n + 1 → i < count → old ++ new_bits n (count - i) ≡ whole → new ++ new_bits m (count - (i + 1)) ≡ whole
new_more new old whole l count i n m en el em h e =
    ap (λ (xs : List Literal). xs ++ new_bits m (count - (i + 1))) en
    ∙ (append_assoc old (l ∷ []) (new_bits m (count - (i + 1)))
    ∙ (ap (λ (x : Literal). old ++ x ∷ new_bits m (count - (i + 1))) el
    ∙ (ap (λ (k : ℕ). old ++ next n ∷ new_bits k (count - (i + 1))) em
    ∙ (ap (λ (xs : List Literal). old ++ xs) (sym (new_step count i n h)) ∙ e))))
