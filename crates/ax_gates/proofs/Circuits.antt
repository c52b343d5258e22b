-- Lists of gates, of which each makes the next variable.
use Rattle.std.proofs.Common.{◌≡◌, ◌≢◌, ℕ, zero, suc, ◌+◌, ◌≤◌, Bool, true, false, not, ◌&&◌, ◌||◌, Option, Some, None, List, [], ◌∷◌, ◌++◌, length, map, take, nat_eq, if◌then◌else◌, refl, ap, sym, subst, ◌∙◌, arith, append_assoc}
use Rattle.std.specs.Prelude.{option_to_list}
use Rattle.std.proofs.lemmas.Bool.{and_parts, and_from}
use Rattle.ax_proof.specs.Literal.{Literal, negation, IsOver}
use Rattle.ax_proof.specs.Clause.{same_sign, clause_of}
use Rattle.ax_proof.specs.Assignment.{signed, lit_value, clause_true, option_true, satisfies}
use Rattle.ax_proof.proofs.Lists.{Contains-here, Contains-there}
use Rattle.ax_proof.proofs.Models.{clause_of_true}
use Rattle.ax_gates.specs.Gates.{Gate, free, yes, both, either, differ, choose, parity, majority, none, gate_clauses, gate_value, as_clause, as_clauses, block, next, blocks}
use Rattle.ax_gates.specs.Words.{word_value, fresh, Agree, Extends}
use Rattle.ax_gates.proofs.GateLaws.{signed-not, and_means, xor_means, mux_means, maj_means, parity_means, none_means, satisfies-append, same_refl, same_sign-true, same_sign-from}

-- each literal's variable is at most n
abbrev pub WithinVars : ℕ → List Literal → Type 0
WithinVars n [] = Unit {0}
WithinVars n (l ∷ ls) = (l.var ≤ n) × WithinVars n ls

pub over_within : (n : ℕ) (ls : List Literal) → IsOver n ls → WithinVars n ls
over_within n [] h = tt
over_within n (l ∷ ls) h = ((h l (Contains-here l ls)).1, over_within n ls (λ m q. h m (Contains-there l ls m q)))

-- the literals that a gate reads
abbrev pub gate_inputs : Gate → List Literal
gate_inputs free = []
gate_inputs yes = []
gate_inputs (both a b) = a ∷ b ∷ []
gate_inputs (either a b) = a ∷ b ∷ []
gate_inputs (differ a b) = a ∷ b ∷ []
gate_inputs (choose f a b) = f ∷ a ∷ b ∷ []
gate_inputs (parity a b c) = a ∷ b ∷ c ∷ []
gate_inputs (majority a b c) = a ∷ b ∷ c ∷ []
gate_inputs (none xs) = xs

-- each gate's variable, from the one after n on, has the value that the gate makes
abbrev pub Holds : (ℕ → Bool) → ℕ → List Gate → Type 0
Holds v n [] = Unit {0}
Holds v n (g ∷ gs) = (v (n + 1) ≡ gate_value v (next n) g) × Holds v (n + 1) gs

-- each gate reads only variables before its own
abbrev pub Wired : ℕ → List Gate → Type 0
Wired n [] = Unit {0}
Wired n (g ∷ gs) = WithinVars n (gate_inputs g) × Wired (n + 1) gs

-- each assignment agrees on the variables up to n with one in which the gates hold
abbrev pub Runs : ℕ → List Gate → Type 0
Runs n gs = (v : ℕ → Bool) → (w : ℕ → Bool) × Agree n v w × Holds w n gs

either_table : (z a b : Bool) → not (same_sign z (not a && not b)) ≡ same_sign z (a || b)
either_table true true b = refl
either_table true false true = refl
either_table true false false = refl
either_table false true b = refl
either_table false false true = refl
either_table false false false = refl

yes_table : (z : Bool) → ((z || false) && true) ≡ same_sign z true
yes_table true = refl
yes_table false = refl

-- a gate's clauses say that z is what the gate makes
pub gate_means : (v : ℕ → Bool) (z : Literal) (g : Gate) → satisfies v (gate_clauses z g) ≡ same_sign (lit_value v z) (gate_value v z g)
gate_means v z free = sym (same_refl (lit_value v z))
gate_means v z yes = yes_table (lit_value v z)
gate_means v z (both a b) = and_means v z a b
gate_means v z (either a b) = and_means v (negation z) (negation a) (negation b) ∙ simp signed-not (either_table (lit_value v z) (lit_value v a) (lit_value v b))
gate_means v z (differ a b) = xor_means v z a b
gate_means v z (choose f a b) = mux_means v z f a b
gate_means v z (parity a b c) = parity_means v z a b c
gate_means v z (majority a b c) = maj_means v z a b c
gate_means v z (none xs) = none_means v z xs

-- a list of literals as a clause keeps its meaning
one_clause : (v : ℕ → Bool) (o : Option (List Literal)) → satisfies v (option_to_list o) ≡ option_true v o
one_clause v None = refl
one_clause v (Some c) = and_true (clause_true v c)
  where
    and_true : (a : Bool) → (a && true) ≡ a
    and_true true = refl
    and_true false = refl

pub as_clause_true : (v : ℕ → Bool) (ls : List Literal) → satisfies v (as_clause ls) ≡ clause_true v ls
unfolding as_clause
as_clause_true v ls = one_clause v (clause_of ls) ∙ clause_of_true v ls

pub as_clauses_true : (v : ℕ → Bool) (cs : List (List Literal)) → satisfies v (as_clauses cs) ≡ satisfies v cs
as_clauses_true v [] = refl
as_clauses_true v (c ∷ cs) =
    satisfies-append v (as_clause c) (as_clauses cs)
    ∙ (ap (λ (q : Bool). q && satisfies v (as_clauses cs)) (as_clause_true v c) ∙ ap (λ (q : Bool). clause_true v c && q) (as_clauses_true v cs))

pub block_means : (v : ℕ → Bool) (z : Literal) (g : Gate) → satisfies v (block z g) ≡ same_sign (lit_value v z) (gate_value v z g)
unfolding block
block_means v z g = as_clauses_true v (gate_clauses z g) ∙ gate_means v z g

pub blocks_hold : (v : ℕ → Bool) (n : ℕ) (gs : List Gate) → satisfies v (blocks n gs) ≡ true → Holds v n gs
blocks_hold v n [] h = tt
blocks_hold v n (g ∷ gs) h =
    let p = and_parts (satisfies v (block (next n) g)) (satisfies v (blocks (n + 1) gs)) (sym (satisfies-append v (block (next n) g) (blocks (n + 1) gs)) ∙ h) in
    (same_sign-true _ _ (sym (block_means v (next n) g) ∙ p.0), blocks_hold v (n + 1) gs p.1)

pub hold_blocks : (v : ℕ → Bool) (n : ℕ) (gs : List Gate) → Holds v n gs → satisfies v (blocks n gs) ≡ true
hold_blocks v n [] h = refl
hold_blocks v n (g ∷ gs) h =
    satisfies-append v (block (next n) g) (blocks (n + 1) gs)
    ∙ and_from _ _ (block_means v (next n) g ∙ same_sign-from _ _ h.0) (hold_blocks v (n + 1) gs h.1)

-- the assignment with one variable set
abbrev pub set_var : (ℕ → Bool) → ℕ → Bool → ℕ → Bool
set_var v k b x = if nat_eq x k then b else v x

pub lit-agree : (n : ℕ) (v w : ℕ → Bool) (l : Literal) → Agree n v w → l.var ≤ n → lit_value w l ≡ lit_value v l
lit-agree n v w l g h = ap (signed l.positive) (sym (g l.var h))

pub set_new : (v : ℕ → Bool) (k : ℕ) (b : Bool) → set_var v k b k ≡ b
set_new v k b = grind arith

pub set_old : (v : ℕ → Bool) (k : ℕ) (b : Bool) (x : ℕ) → x ≢ k → set_var v k b x ≡ v x
set_old v k b x h = grind arith

pub clause-agree : (n : ℕ) (v w : ℕ → Bool) (c : List Literal) → Agree n v w → WithinVars n c → clause_true w c ≡ clause_true v c
clause-agree n v w [] g h = refl
clause-agree n v w (l ∷ c) g h =
    let e1 : lit_value w l ≡ lit_value v l = lit-agree n v w l g h.0 in
    let e2 : clause_true w c ≡ clause_true v c = clause-agree n v w c g h.1 in
    cc

pub word-agree : (n : ℕ) (v w : ℕ → Bool) (c : List Literal) → Agree n v w → WithinVars n c → word_value w c ≡ word_value v c
word-agree n v w [] g h = refl
word-agree n v w (l ∷ c) g h =
    let e1 : lit_value w l ≡ lit_value v l = lit-agree n v w l g h.0 in
    let e2 : word_value w c ≡ word_value v c = word-agree n v w c g h.1 in
    cc

-- a gate that reads variables up to n makes the same_sign of two assignments that agree there
pub gate-agree : (n : ℕ) (v w : ℕ → Bool) (z : Literal) (g : Gate) → Agree n v w → lit_value w z ≡ gate_value v z g → WithinVars n (gate_inputs g) → lit_value w z ≡ gate_value w z g
gate-agree n v w z free a e h = refl
gate-agree n v w z yes a e h = e
gate-agree n v w z (both x y) a e h =
    let p = lit-agree n v w x a h.0 in let q = lit-agree n v w y a h.1.0 in cc
gate-agree n v w z (either x y) a e h =
    let p = lit-agree n v w x a h.0 in let q = lit-agree n v w y a h.1.0 in cc
gate-agree n v w z (differ x y) a e h =
    let p = lit-agree n v w x a h.0 in let q = lit-agree n v w y a h.1.0 in cc
gate-agree n v w z (choose f x y) a e h =
    let p = lit-agree n v w f a h.0 in let q = lit-agree n v w x a h.1.0 in let r = lit-agree n v w y a h.1.1.0 in cc
gate-agree n v w z (parity f x y) a e h =
    let p = lit-agree n v w f a h.0 in let q = lit-agree n v w x a h.1.0 in let r = lit-agree n v w y a h.1.1.0 in cc
gate-agree n v w z (majority f x y) a e h =
    let p = lit-agree n v w f a h.0 in let q = lit-agree n v w x a h.1.0 in let r = lit-agree n v w y a h.1.1.0 in cc
gate-agree n v w z (none xs) a e h = e ∙ sym (ap not (clause-agree n v w xs a h))

-- wired gates run from every assignment
pub Wired-runs : (n : ℕ) (gs : List Gate) → Wired n gs → Runs n gs
Wired-runs n [] h v = (v, (λ x l. refl), tt)
Wired-runs n (g ∷ gs) h v =
    let b : Bool = gate_value v (next n) g in
    let u : ℕ → Bool = set_var v (n + 1) b in
    let agree_u : Agree n v u = λ z l. (let ne : z ≢ n + 1 = omega arith in sym (set_old v (n + 1) b z ne)) in
    let rest = Wired-runs (n + 1) gs h.1 u in
    let w : ℕ → Bool = rest.0 in
    let agree_w : Agree n v w = λ z l. agree_u z l ∙ rest.1 z (omega arith) in
    let new : w (n + 1) ≡ b = sym (rest.1 (n + 1) (omega arith)) ∙ set_new v (n + 1) b in
    (w, agree_w, (gate-agree n v w (next n) g agree_w new h.0, rest.2))

pub Holds-append : (v : ℕ → Bool) (n : ℕ) (gs hs : List Gate) → Holds v n (gs ++ hs) → Holds v n gs × Holds v (n + length gs) hs
Holds-append v n [] hs h = (tt, subst (λ (k : ℕ). Holds v k hs) (omega arith) h)
Holds-append v n (g ∷ gs) hs h =
    let r = Holds-append v (n + 1) gs hs h.1 in
    ((h.0, r.0), subst (λ (k : ℕ). Holds v k hs) (omega arith) r.1)

pub Wired-append : (n m : ℕ) (gs hs : List Gate) → m ≡ n + length gs → Wired n gs → Wired m hs → Wired n (gs ++ hs)
Wired-append n m [] hs e p q = subst (λ (k : ℕ). Wired k hs) (omega arith) q
Wired-append n m (g ∷ gs) hs e p q = (p.0, Wired-append (n + 1) m gs hs (omega arith) p.1 q)

pub wired_extends : (n : ℕ) (gs : List Gate) → Wired n gs → Extends n (blocks n gs)
wired_extends n gs h v = let r = Wired-runs n gs h v in (r.0, r.1, hold_blocks r.0 n gs r.2)

pub blocks-append : (n m : ℕ) (gs hs : List Gate) → m ≡ n + length gs → blocks n (gs ++ hs) ≡ blocks n gs ++ blocks m hs
blocks-append n m [] hs e = let f : n ≡ m = omega arith in ap (λ (k : ℕ). blocks k hs) f
blocks-append n m (g ∷ gs) hs e = ap (λ (r : List (List Literal)). block (next n) g ++ r) (blocks-append (n + 1) m gs hs (omega arith)) ∙ sym (append_assoc (block (next n) g) (blocks (n + 1) gs) (blocks m hs))

pub Holds-split : (v : ℕ → Bool) (n m : ℕ) (gs hs : List Gate) → m ≡ n + length gs → Holds v n (gs ++ hs) → Holds v n gs × Holds v m hs
Holds-split v n m gs hs e h = let p = Holds-append v n gs hs h in (p.0, subst (λ (k : ℕ). Holds v k hs) (sym e) p.1)

-- literals within a bound
pub within_more : (n m : ℕ) (a : List Literal) → n ≤ m → WithinVars n a → WithinVars m a
within_more n m [] h w = tt
within_more n m (x ∷ a) h w = (omega arith, within_more n m a h w.1)

pub within_take : (n k : ℕ) (a : List Literal) → WithinVars n a → WithinVars n (take k a)
within_take n zero a h = tt
within_take n (suc k) [] h = tt
within_take n (suc k) (x ∷ a) h = (h.0, within_take n k a h.1)

pub within_append : (n : ℕ) (a b : List Literal) → WithinVars n a → WithinVars n b → WithinVars n (a ++ b)
within_append n [] b p q = q
within_append n (x ∷ a) b p q = (p.0, within_append n a b p.1 q)

pub within_negation : (n : ℕ) (a : List Literal) → WithinVars n a → WithinVars n (map negation a)
within_negation n [] h = tt
within_negation n (x ∷ a) h = (h.0, within_negation n a h.1)

pub fresh_within : (n m : ℕ) (a : List Literal) → n + length a ≤ m → WithinVars m (fresh n a)
fresh_within n m [] h = tt
fresh_within n m (x ∷ a) h = (omega arith, fresh_within (n + 1) m a (omega arith))

pub length-fresh : (n : ℕ) (a : List Literal) → length (fresh n a) ≡ length a
length-fresh n [] = refl
length-fresh n (x ∷ a) = let h = length-fresh (n + 1) a in omega arith
