-- What the clauses of each gate say.
use Rattle.std.proofs.Common.{◌≡◌, ℕ, ◌+◌, ◌*◌, Bool, true, false, not, ◌&&◌, ◌||◌, List, [], ◌∷◌, ◌++◌, cond, refl, ap, sym, ◌∙◌}
use Rattle.ax_proof.specs.Literal.{Literal}
use Rattle.ax_proof.specs.Clause.{same_sign}
use Rattle.ax_proof.specs.Assignment.{signed, lit_value, clause_true, satisfies}
use Rattle.ax_gates.specs.Gates.{and_clauses, xor_clauses, maj_clauses, mux_clauses, parity_clauses, none_clauses, each_not, xor_of, majority_of}
use Rattle.ax_gates.specs.Words.{digit}

pub signed-not : (p b : Bool) → signed (not p) b ≡ not (signed p b)
signed-not true b = refl
signed-not false true = refl
signed-not false false = refl

and_table : (z a b : Bool) → ((z || (not a || (not b || false))) && ((not z || (a || false)) && ((not z || (b || false)) && true))) ≡ same_sign z (a && b)
and_table true true true = refl
and_table true true false = refl
and_table true false true = refl
and_table true false false = refl
and_table false true true = refl
and_table false true false = refl
and_table false false true = refl
and_table false false false = refl

pub and_means : (v : ℕ → Bool) (z a b : Literal) → satisfies v (and_clauses z a b) ≡ same_sign (lit_value v z) (lit_value v a && lit_value v b)
unfolding and_clauses
and_means v z a b = simp signed-not (and_table (lit_value v z) (lit_value v a) (lit_value v b))

xor_table : (z a b : Bool) → ((not z || (a || (b || false))) && ((not z || (not a || (not b || false))) && ((z || (not a || (b || false))) && ((z || (a || (not b || false))) && true)))) ≡ same_sign z (xor_of a b)
xor_table true true true = refl
xor_table true true false = refl
xor_table true false true = refl
xor_table true false false = refl
xor_table false true true = refl
xor_table false true false = refl
xor_table false false true = refl
xor_table false false false = refl

maj_table : (z a b c : Bool) → ((not a || (not b || (z || false))) && ((not a || (not c || (z || false))) && ((not b || (not c || (z || false))) && ((a || (b || (not z || false))) && ((a || (c || (not z || false))) && ((b || (c || (not z || false))) && true)))))) ≡ same_sign z (majority_of a b c)
maj_table true true true true = refl
maj_table true true true false = refl
maj_table true true false true = refl
maj_table true true false false = refl
maj_table true false true true = refl
maj_table true false true false = refl
maj_table true false false true = refl
maj_table true false false false = refl
maj_table false true true true = refl
maj_table false true true false = refl
maj_table false true false true = refl
maj_table false true false false = refl
maj_table false false true true = refl
maj_table false false true false = refl
maj_table false false false true = refl
maj_table false false false false = refl

parity_table : (z a b c : Bool) → ((a || (b || (c || (not z || false)))) && ((a || (b || (not c || (z || false)))) && ((a || (not b || (c || (z || false)))) && ((a || (not b || (not c || (not z || false)))) && ((not a || (b || (c || (z || false)))) && ((not a || (b || (not c || (not z || false)))) && ((not a || (not b || (c || (not z || false)))) && ((not a || (not b || (not c || (z || false)))) && true)))))))) ≡ same_sign z (xor_of a (xor_of b c))
parity_table true true true true = refl
parity_table true true true false = refl
parity_table true true false true = refl
parity_table true true false false = refl
parity_table true false true true = refl
parity_table true false true false = refl
parity_table true false false true = refl
parity_table true false false false = refl
parity_table false true true true = refl
parity_table false true true false = refl
parity_table false true false true = refl
parity_table false true false false = refl
parity_table false false true true = refl
parity_table false false true false = refl
parity_table false false false true = refl
parity_table false false false false = refl

pub xor_means : (v : ℕ → Bool) (z a b : Literal) → satisfies v (xor_clauses z a b) ≡ same_sign (lit_value v z) (xor_of (lit_value v a) (lit_value v b))
unfolding xor_clauses
xor_means v z a b = simp signed-not (xor_table (lit_value v z) (lit_value v a) (lit_value v b))

pub maj_means : (v : ℕ → Bool) (z a b c : Literal) → satisfies v (maj_clauses z a b c) ≡ same_sign (lit_value v z) (majority_of (lit_value v a) (lit_value v b) (lit_value v c))
unfolding maj_clauses
maj_means v z a b c = simp signed-not (maj_table (lit_value v z) (lit_value v a) (lit_value v b) (lit_value v c))

pub parity_means : (v : ℕ → Bool) (z a b c : Literal) → satisfies v (parity_clauses z a b c) ≡ same_sign (lit_value v z) (xor_of (lit_value v a) (xor_of (lit_value v b) (lit_value v c)))
unfolding parity_clauses
parity_means v z a b c = simp signed-not (parity_table (lit_value v z) (lit_value v a) (lit_value v b) (lit_value v c))

and_assoc : (a b c : Bool) → ((a && b) && c) ≡ (a && (b && c))
and_assoc true b c = refl
and_assoc false b c = refl

pub satisfies-append : (v : ℕ → Bool) (xs ys : List (List Literal)) → satisfies v (xs ++ ys) ≡ (satisfies v xs && satisfies v ys)
satisfies-append v [] ys = refl
satisfies-append v (x ∷ xs) ys = ap (λ (r : Bool). clause_true v x && r) (satisfies-append v xs ys) ∙ sym (and_assoc (clause_true v x) (satisfies v xs) (satisfies v ys))

pub same_refl : (a : Bool) → same_sign a a ≡ true
same_refl true = refl
same_refl false = refl

pub same_sign-true : (a b : Bool) → same_sign a b ≡ true → a ≡ b
same_sign-true true true h = refl
same_sign-true true false h = sym h
same_sign-true false true h = h
same_sign-true false false h = refl

pub add1_digits : (s k a b c : Bool) → s ≡ xor_of a (xor_of b c) → k ≡ majority_of a b c → digit s + 2 * digit k ≡ digit a + digit b + digit c
add1_digits s k true true true p q = rw (p, q) refl
add1_digits s k true true false p q = rw (p, q) refl
add1_digits s k true false true p q = rw (p, q) refl
add1_digits s k true false false p q = rw (p, q) refl
add1_digits s k false true true p q = rw (p, q) refl
add1_digits s k false true false p q = rw (p, q) refl
add1_digits s k false false true p q = rw (p, q) refl
add1_digits s k false false false p q = rw (p, q) refl

pub same_sign-from : (a b : Bool) → a ≡ b → same_sign a b ≡ true
same_sign-from a b e = rw e (same_refl b)

mux_table : (z f a b : Bool) → ((not f || (not a || (z || false))) && ((not f || (a || (not z || false))) && ((f || (not b || (z || false))) && ((f || (b || (not z || false))) && true)))) ≡ same_sign z (cond f a b)
mux_table true true true true = refl
mux_table true true true false = refl
mux_table true true false true = refl
mux_table true true false false = refl
mux_table true false true true = refl
mux_table true false true false = refl
mux_table true false false true = refl
mux_table true false false false = refl
mux_table false true true true = refl
mux_table false true true false = refl
mux_table false true false true = refl
mux_table false true false false = refl
mux_table false false true true = refl
mux_table false false true false = refl
mux_table false false false true = refl
mux_table false false false false = refl

pub mux_means : (v : ℕ → Bool) (z f a b : Literal) → satisfies v (mux_clauses z f a b) ≡ same_sign (lit_value v z) (cond (lit_value v f) (lit_value v a) (lit_value v b))
unfolding mux_clauses
mux_means v z f a b = simp signed-not (mux_table (lit_value v z) (lit_value v f) (lit_value v a) (lit_value v b))

none_step : (z x r : Bool) → ((not z || (not x || false)) && (not z || not r)) ≡ (not z || not (x || r))
none_step true true true = refl
none_step true true false = refl
none_step true false true = refl
none_step true false false = refl
none_step false true true = refl
none_step false true false = refl
none_step false false true = refl
none_step false false false = refl

or_true : (z : Bool) → (z || true) ≡ true
or_true true = refl
or_true false = refl

each_not_means : (v : ℕ → Bool) (z : Literal) (xs : List Literal) → satisfies v (each_not z xs) ≡ (not (lit_value v z) || not (clause_true v xs))
each_not_means v z [] = sym (or_true (not (lit_value v z)))
each_not_means v z (x ∷ xs) = simp (signed-not, each_not_means v z xs) (none_step (lit_value v z) (lit_value v x) (clause_true v xs))

none_table : (z r : Bool) → ((z || r) && (not z || not r)) ≡ same_sign z (not r)
none_table true true = refl
none_table true false = refl
none_table false true = refl
none_table false false = refl

pub none_means : (v : ℕ → Bool) (z : Literal) (xs : List Literal) → satisfies v (none_clauses z xs) ≡ same_sign (lit_value v z) (not (clause_true v xs))
unfolding none_clauses
none_means v z xs = simp (each_not_means v z xs) (none_table (lit_value v z) (clause_true v xs))
