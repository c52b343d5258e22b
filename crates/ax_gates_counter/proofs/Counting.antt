-- What a counter's clauses say of how many inputs are true.
use Rattle.std.proofs.Common.{◌≡◌, ◌≢◌, ℕ, zero, suc, ◌+◌, ◌*◌, ◌≤◌, ◌<◌, Bool, true, false, not, ◌&&◌, ◌||◌, List, [], ◌∷◌, ◌++◌, ◌⊎◌, inl, inr, length, refl, ap, sym, subst, ◌∙◌, arith}
use Rattle.std.proofs.Math.Dec.{leb}
use Rattle.std.proofs.lemmas.Bool.{and_parts, and_from, leb-true, leb-false, le-leb, lt-leb}
use Rattle.ax_proof.specs.Literal.{Literal, literal, negation}
use Rattle.ax_proof.specs.Assignment.{lit_value, clause_true, satisfies}
use Rattle.ax_gates.specs.Gates.{next}
use Rattle.ax_gates.specs.Words.{digit, fresh, Agree}
use Rattle.ax_gates.proofs.GateLaws.{signed-not, satisfies-append}
use Rattle.ax_gates.proofs.Circuits.{WithinVars, set_var, set_new, set_old, lit-agree, within_more, fresh_within, length-fresh}
use Rattle.ax_gates_counter.specs.Counter.{count_true, first_steps, first_column, later_steps, later_column, later_columns, columns}

abbrev pub last_or : Literal → List Literal → Literal
last_or d [] = d
last_or d (x ∷ xs) = last_or x xs

-- the variables of the last of k + 1 columns
abbrev pub last_column : ℕ → List Literal → ℕ → List Literal
last_column n xs zero = fresh n xs
last_column n xs (suc k) = last_column (n + length xs) xs k

-- the columns, of which the last variable is false
abbrev pub bounded : ℕ → List Literal → ℕ → Literal → List (List Literal)
bounded n xs k d = columns n xs k ++ (negation (last_or d (last_column n xs k)) ∷ []) ∷ []

last_fresh : (d : Literal) (n : ℕ) (xs : List Literal) → 0 < length xs → last_or d (fresh n xs) ≡ literal (n + length xs) true
last_fresh d n [] h = absurd (omega arith)
last_fresh d n (x ∷ []) h = ap (λ (k : ℕ). literal k true) (omega arith)
last_fresh d n (x ∷ y ∷ xs) h = last_fresh (next n) (n + 1) (y ∷ xs) (omega arith) ∙ ap (λ (k : ℕ). literal k true) (omega arith)

pub last_literal : (d : Literal) (n : ℕ) (xs : List Literal) (k : ℕ) → 0 < length xs → last_or d (last_column n xs k) ≡ literal (n + length xs * (k + 1)) true
last_literal d n xs zero h = last_fresh d n xs h ∙ ap (λ (m : ℕ). literal m true) (omega arith)
last_literal d n xs (suc k) h = last_literal d (n + length xs) xs k h ∙ ap (λ (m : ℕ). literal m true) (omega arith)

-- a clause as an implication
imp_table : (a z : Bool) → (not a || (z || false)) ≡ true → a ≡ true → z ≡ true
imp_table true true e f = refl
imp_table true false e f = e
imp_table false z e f = absurd (cc)

imp : (v : ℕ → Bool) (a z : Literal) → clause_true v (negation a ∷ z ∷ []) ≡ true → lit_value v a ≡ true → lit_value v z ≡ true
imp v a z e f = imp_table (lit_value v a) (lit_value v z) (ap (λ (b : Bool). b || (lit_value v z || false)) (sym (signed-not a.positive (v a.var))) ∙ e) f

imp2_table : (a b z : Bool) → (not a || (not b || (z || false))) ≡ true → a ≡ true → b ≡ true → z ≡ true
imp2_table true true true e f g = refl
imp2_table true true false e f g = e
imp2_table true false z e f g = absurd (cc)
imp2_table false b z e f g = absurd (cc)

imp2 : (v : ℕ → Bool) (a b z : Literal) → clause_true v (negation a ∷ negation b ∷ z ∷ []) ≡ true → lit_value v a ≡ true → lit_value v b ≡ true → lit_value v z ≡ true
imp2 v a b z e f g =
    imp2_table (lit_value v a) (lit_value v b) (lit_value v z)
    (ap (λ (c : Bool). c || (not (lit_value v b) || (lit_value v z || false))) (sym (signed-not a.positive (v a.var)))
    ∙ (ap (λ (c : Bool). lit_value v (negation a) || (c || (lit_value v z || false))) (sym (signed-not b.positive (v b.var))) ∙ e)) f g

imp_from_table : (a z : Bool) → (a ≡ true → z ≡ true) → (not a || (z || false)) ≡ true
imp_from_table true z h = ap (λ (b : Bool). b || false) (h refl)
imp_from_table false z h = refl

imp_from : (v : ℕ → Bool) (a z : Literal) → (lit_value v a ≡ true → lit_value v z ≡ true) → clause_true v (negation a ∷ z ∷ []) ≡ true
imp_from v a z h = ap (λ (b : Bool). b || (lit_value v z || false)) (signed-not a.positive (v a.var)) ∙ imp_from_table (lit_value v a) (lit_value v z) h

imp2_from_table : (a b z : Bool) → (a ≡ true → b ≡ true → z ≡ true) → (not a || (not b || (z || false))) ≡ true
imp2_from_table true true z h = ap (λ (b : Bool). b || false) (h refl refl)
imp2_from_table true false z h = refl
imp2_from_table false b z h = refl

imp2_from : (v : ℕ → Bool) (a b z : Literal) → (lit_value v a ≡ true → lit_value v b ≡ true → lit_value v z ≡ true) → clause_true v (negation a ∷ negation b ∷ z ∷ []) ≡ true
imp2_from v a b z h =
    ap (λ (c : Bool). c || (lit_value v (negation b) || (lit_value v z || false))) (signed-not a.positive (v a.var))
    ∙ (ap (λ (c : Bool). not (lit_value v a) || (c || (lit_value v z || false))) (signed-not b.positive (v b.var))
    ∙ imp2_from_table (lit_value v a) (lit_value v b) (lit_value v z) h)

-- where at least j of xs up to a place are true, after c that were before, the literal of that place is true
abbrev pub AtLeast : (ℕ → Bool) → ℕ → ℕ → List Literal → List Literal → Type 0
AtLeast v j c [] ss = Unit {0}
AtLeast v j c (x ∷ xs) [] = Unit {0}
AtLeast v j c (x ∷ xs) (s ∷ ss) = (j ≤ c + digit (lit_value v x) → lit_value v s ≡ true) × AtLeast v j (c + digit (lit_value v x)) xs ss

one_more : (b : Bool) (j c : ℕ) → j ≤ c + digit b → (j ≤ c) ⊎ ((b ≡ true) × (j ≤ c + 1))
one_more true j c h = inr (refl, h)
one_more false j c h = inl (omega arith)

first_sat : (v : ℕ → Bool) (c : ℕ) (s : Literal) (xs ss : List Literal) → (1 ≤ c → lit_value v s ≡ true) → satisfies v (first_steps s xs ss) ≡ true → AtLeast v 1 c xs ss
first_sat v c s [] ss hs h = tt
first_sat v c s (x ∷ xs) [] hs h = tt
first_sat v c s (x ∷ xs) (z ∷ ss) hs h =
    let p = and_parts (clause_true v (negation x ∷ z ∷ [])) (clause_true v (negation s ∷ z ∷ []) && satisfies v (first_steps z xs ss)) h in
    let q = and_parts (clause_true v (negation s ∷ z ∷ [])) (satisfies v (first_steps z xs ss)) p.1 in
    let here : 1 ≤ c + digit (lit_value v x) → lit_value v z ≡ true = λ l.
    elim (one_more (lit_value v x) 1 c l) [ inl a ↦ imp v s z q.0 (hs a) | inr b ↦ imp v x z p.0 b.0 ] in
    (here, first_sat v (c + digit (lit_value v x)) z xs ss here q.1)

first_all : (v : ℕ → Bool) (xs ss : List Literal) → satisfies v (first_column xs ss) ≡ true → AtLeast v 1 0 xs ss
first_all v [] ss h = tt
first_all v (x ∷ xs) [] h = tt
first_all v (x ∷ xs) (s ∷ ss) h =
    let p = and_parts (clause_true v (negation x ∷ s ∷ [])) (satisfies v (first_steps s xs ss)) h in
    let here : 1 ≤ 0 + digit (lit_value v x) → lit_value v s ≡ true = λ l.
    elim (one_more (lit_value v x) 1 0 l) [ inl a ↦ absurd (omega arith) | inr b ↦ imp v x s p.0 b.0 ] in
    (here, first_sat v (0 + digit (lit_value v x)) s xs ss here p.1)

later_sat : (v : ℕ → Bool) (j c : ℕ) (s p : Literal) (xs ps ss : List Literal) → length xs ≡ length ps → (suc j ≤ c → lit_value v s ≡ true) → (j ≤ c → lit_value v p ≡ true) → AtLeast v j c xs ps → satisfies v (later_steps s p xs ps ss) ≡ true → AtLeast v (suc j) c xs ss
later_sat v j c s p [] ps ss l hs hp hq h = tt
later_sat v j c s p (x ∷ xs) [] ss l hs hp hq h = absurd (omega arith)
later_sat v j c s p (x ∷ xs) (q ∷ ps) [] l hs hp hq h = tt
later_sat v j c s p (x ∷ xs) (q ∷ ps) (z ∷ ss) l hs hp hq h =
    let a = and_parts (clause_true v (negation s ∷ z ∷ [])) (clause_true v (negation x ∷ negation p ∷ z ∷ []) && satisfies v (later_steps z q xs ps ss)) h in
    let b = and_parts (clause_true v (negation x ∷ negation p ∷ z ∷ [])) (satisfies v (later_steps z q xs ps ss)) a.1 in
    let here : suc j ≤ c + digit (lit_value v x) → lit_value v z ≡ true = λ g.
    elim (one_more (lit_value v x) (suc j) c g) [ inl d ↦ imp v s z a.0 (hs d) | inr d ↦ imp2 v x p z b.0 d.0 (hp (omega arith)) ] in
    (here, later_sat v j (c + digit (lit_value v x)) z q xs ps ss (omega arith) here hq.0 hq.1 b.1)

later_all : (v : ℕ → Bool) (j : ℕ) (xs ps ss : List Literal) → length xs ≡ length ps → 1 ≤ j → AtLeast v j 0 xs ps → satisfies v (later_column xs ps ss) ≡ true → AtLeast v (suc j) 0 xs ss
later_all v j [] ps ss l pos hq h = tt
later_all v j (x ∷ xs) [] ss l pos hq h = absurd (omega arith)
later_all v j (x ∷ xs) (p ∷ ps) [] l pos hq h = tt
later_all v j (x ∷ xs) (p ∷ ps) (s ∷ ss) l pos hq h =
    let here : suc j ≤ 0 + digit (lit_value v x) → lit_value v s ≡ true = λ g.
    elim (one_more (lit_value v x) (suc j) 0 g) [ inl d ↦ absurd (omega arith) | inr d ↦ absurd (omega arith) ] in
    (here, later_sat v j (0 + digit (lit_value v x)) s p xs ps ss (omega arith) here hq.0 hq.1 h)

columns_sat : (v : ℕ → Bool) (n j : ℕ) (xs : List Literal) (k : ℕ) → 1 ≤ j → AtLeast v j 0 xs (fresh n xs) → satisfies v (later_columns (n + length xs) xs k (fresh n xs)) ≡ true → AtLeast v (k + j) 0 xs (last_column n xs k)
columns_sat v n j xs zero pos hq h = subst (λ (z : ℕ). AtLeast v z 0 xs (fresh n xs)) (omega arith) hq
columns_sat v n j xs (suc k) pos hq h =
    let lf = length-fresh n xs in
    let p = and_parts (satisfies v (later_column xs (fresh n xs) (fresh (n + length xs) xs))) (satisfies v (later_columns (n + length xs + length xs) xs k (fresh (n + length xs) xs)))
    (sym (satisfies-append v (later_column xs (fresh n xs) (fresh (n + length xs) xs)) (later_columns (n + length xs + length xs) xs k (fresh (n + length xs) xs))) ∙ h) in
    let one = later_all v j xs (fresh n xs) (fresh (n + length xs) xs) (sym lf) pos hq p.0 in
    let rest = columns_sat v (n + length xs) (suc j) xs k (omega arith) one p.1 in
    subst (λ (z : ℕ). AtLeast v z 0 xs (last_column (n + length xs) xs k)) (omega arith) rest

last_at : (v : ℕ → Bool) (j c : ℕ) (d : Literal) (xs ss : List Literal) → length xs ≡ length ss → AtLeast v j c xs ss → (j ≤ c → lit_value v d ≡ true) → j ≤ c + count_true v xs → lit_value v (last_or d ss) ≡ true
last_at v j c d [] [] l h hd g = hd (omega arith)
last_at v j c d [] (s ∷ ss) l h hd g = absurd (omega arith)
last_at v j c d (x ∷ xs) [] l h hd g = absurd (omega arith)
last_at v j c d (x ∷ xs) (s ∷ ss) l h hd g = last_at v j (c + digit (lit_value v x)) s xs ss (omega arith) h.1 h.0 (omega arith)

length-last_column : (n : ℕ) (xs : List Literal) (k : ℕ) → length (last_column n xs k) ≡ length xs
length-last_column n xs zero = length-fresh n xs
length-last_column n xs (suc k) = length-last_column (n + length xs) xs k

not_both : (b : Bool) → (not b || false) ≡ true → b ≡ true → ⊥
not_both true e f = absurd (cc)
not_both false e f = absurd (cc)

-- where the counter is satisfied, at most k are true
pub bounded_means : (v : ℕ → Bool) (n : ℕ) (xs : List Literal) (k : ℕ) (d : Literal) → satisfies v (bounded n xs k d) ≡ true → count_true v xs ≤ k
bounded_means v n xs k d h = by (leb (suc k) (count_true v xs)) refl
  where
    by : (b : Bool) → leb (suc k) (count_true v xs) ≡ b → count_true v xs ≤ k
    by false e = let f = leb-false (suc k) (count_true v xs) e in omega arith
    by true e =
        let g = leb-true (suc k) (count_true v xs) e in
        let p = and_parts (satisfies v (columns n xs k)) (satisfies v ((negation (last_or d (last_column n xs k)) ∷ []) ∷ [])) (sym (satisfies-append v (columns n xs k) ((negation (last_or d (last_column n xs k)) ∷ []) ∷ [])) ∙ h) in
        let q = and_parts (satisfies v (first_column xs (fresh n xs))) (satisfies v (later_columns (n + length xs) xs k (fresh n xs))) (sym (satisfies-append v (first_column xs (fresh n xs)) (later_columns (n + length xs) xs k (fresh n xs))) ∙ p.0) in
        let one = first_all v xs (fresh n xs) q.0 in
        let all1 = columns_sat v n 1 xs k (omega arith) one q.1 in
        let top = last_at v (k + 1) 0 d xs (last_column n xs k) (sym (length-last_column n xs k)) all1 (λ z. absurd (omega arith)) (omega arith) in
        let u = and_parts (clause_true v (negation (last_or d (last_column n xs k)) ∷ [])) true p.1 in
        let w = ap (λ (b : Bool). b || false) (sym (signed-not (last_or d (last_column n xs k)).positive (v (last_or d (last_column n xs k)).var))) ∙ u.0 in
        absurd (not_both (lit_value v (last_or d (last_column n xs k))) w top)

-- the literals of a column are true exactly where at least j are
abbrev pub Exactly : (ℕ → Bool) → ℕ → ℕ → List Literal → List Literal → Type 0
Exactly v j c [] ss = Unit {0}
Exactly v j c (x ∷ xs) [] = Unit {0}
Exactly v j c (x ∷ xs) (s ∷ ss) = (lit_value v s ≡ leb j (c + digit (lit_value v x))) × Exactly v j (c + digit (lit_value v x)) xs ss

up : (b : Bool) (s j c : ℕ) → j ≤ c → j ≤ c + digit b
up b s j c h = omega arith

reach : (v : ℕ → Bool) (x z : Literal) (j c : ℕ) → lit_value v z ≡ leb j (c + digit (lit_value v x)) → j ≤ c → lit_value v z ≡ true
reach v x z j c e h = e ∙ le-leb j (c + digit (lit_value v x)) (omega arith)

reach_one : (v : ℕ → Bool) (x z : Literal) (j c : ℕ) → lit_value v z ≡ leb j (c + digit (lit_value v x)) → lit_value v x ≡ true → j ≤ c + 1 → lit_value v z ≡ true
reach_one v x z j c e f h = e ∙ le-leb j (c + digit (lit_value v x)) (let d : digit (lit_value v x) ≡ 1 = ap digit f in omega arith)

first_holds : (v : ℕ → Bool) (c : ℕ) (s : Literal) (xs ss : List Literal) → lit_value v s ≡ leb 1 c → Exactly v 1 c xs ss → satisfies v (first_steps s xs ss) ≡ true
first_holds v c s [] ss hs h = refl
first_holds v c s (x ∷ xs) [] hs h = refl
first_holds v c s (x ∷ xs) (z ∷ ss) hs h =
    and_from _ _ (imp_from v x z (λ e. reach_one v x z 1 c h.0 e (omega arith)))
    (and_from _ _ (imp_from v s z (λ e. reach v x z 1 c h.0 (leb-true 1 c (sym hs ∙ e)))) (first_holds v (c + digit (lit_value v x)) z xs ss h.0 h.1))

first_column_holds : (v : ℕ → Bool) (xs ss : List Literal) → Exactly v 1 0 xs ss → satisfies v (first_column xs ss) ≡ true
first_column_holds v [] ss h = refl
first_column_holds v (x ∷ xs) [] h = refl
first_column_holds v (x ∷ xs) (s ∷ ss) h =
    and_from _ _ (imp_from v x s (λ e. reach_one v x s 1 0 h.0 e (omega arith))) (first_holds v (0 + digit (lit_value v x)) s xs ss h.0 h.1)

later_holds : (v : ℕ → Bool) (j c : ℕ) (s p : Literal) (xs ps ss : List Literal) → length xs ≡ length ps → lit_value v s ≡ leb (suc j) c → lit_value v p ≡ leb j c → Exactly v j c xs ps → Exactly v (suc j) c xs ss → satisfies v (later_steps s p xs ps ss) ≡ true
later_holds v j c s p [] ps ss l hs hp hq h = refl
later_holds v j c s p (x ∷ xs) [] ss l hs hp hq h = absurd (omega arith)
later_holds v j c s p (x ∷ xs) (q ∷ ps) [] l hs hp hq h = refl
later_holds v j c s p (x ∷ xs) (q ∷ ps) (z ∷ ss) l hs hp hq h =
    and_from _ _ (imp_from v s z (λ e. reach v x z (suc j) c h.0 (leb-true (suc j) c (sym hs ∙ e))))
    (and_from _ _ (imp2_from v x p z (λ e f. reach_one v x z (suc j) c h.0 e (let g = leb-true j c (sym hp ∙ f) in omega arith)))
    (later_holds v j (c + digit (lit_value v x)) z q xs ps ss (omega arith) h.0 hq.0 hq.1 h.1))

later_column_holds : (v : ℕ → Bool) (j : ℕ) (xs ps ss : List Literal) → length xs ≡ length ps → Exactly v j 0 xs ps → Exactly v (suc j) 0 xs ss → satisfies v (later_column xs ps ss) ≡ true
later_column_holds v j [] ps ss l hq h = refl
later_column_holds v j (x ∷ xs) [] ss l hq h = refl
later_column_holds v j (x ∷ xs) (p ∷ ps) [] l hq h = refl
later_column_holds v j (x ∷ xs) (p ∷ ps) (s ∷ ss) l hq h = later_holds v j (0 + digit (lit_value v x)) s p xs ps ss (omega arith) h.0 hq.0 hq.1 h.1

-- k columns after the one at n
abbrev pub AllColumns : (ℕ → Bool) → ℕ → ℕ → List Literal → ℕ → Type 0
AllColumns v n j xs zero = Exactly v j 0 xs (fresh n xs)
AllColumns v n j xs (suc k) = Exactly v j 0 xs (fresh n xs) × AllColumns v (n + length xs) (suc j) xs k

head_column : (v : ℕ → Bool) (n j : ℕ) (xs : List Literal) (k : ℕ) → AllColumns v n j xs k → Exactly v j 0 xs (fresh n xs)
head_column v n j xs zero h = h
head_column v n j xs (suc k) h = h.0

columns_hold : (v : ℕ → Bool) (n j : ℕ) (xs : List Literal) (k : ℕ) → AllColumns v n j xs k → satisfies v (later_columns (n + length xs) xs k (fresh n xs)) ≡ true
columns_hold v n j xs zero h = refl
columns_hold v n j xs (suc k) h =
    satisfies-append v (later_column xs (fresh n xs) (fresh (n + length xs) xs)) (later_columns (n + length xs + length xs) xs k (fresh (n + length xs) xs))
    ∙ and_from _ _ (later_column_holds v j xs (fresh n xs) (fresh (n + length xs) xs) (sym (length-fresh n xs)) h.0 (head_column v (n + length xs) (suc j) xs k h.1))
    (columns_hold v (n + length xs) (suc j) xs k h.1)

last_exact : (v : ℕ → Bool) (j c : ℕ) (d : Literal) (xs ss : List Literal) → length xs ≡ length ss → Exactly v j c xs ss → lit_value v d ≡ leb j c → lit_value v (last_or d ss) ≡ leb j (c + count_true v xs)
last_exact v j c d [] [] l h hd = hd ∙ ap (leb j) (omega arith)
last_exact v j c d [] (s ∷ ss) l h hd = absurd (omega arith)
last_exact v j c d (x ∷ xs) [] l h hd = absurd (omega arith)
last_exact v j c d (x ∷ xs) (s ∷ ss) l h hd = last_exact v j (c + digit (lit_value v x)) s xs ss (omega arith) h.1 h.0 ∙ ap (leb j) (omega arith)

last_columns : (v : ℕ → Bool) (n j : ℕ) (xs : List Literal) (k : ℕ) → AllColumns v n j xs k → Exactly v (j + k) 0 xs (last_column n xs k)
last_columns v n j xs zero h = subst (λ (z : ℕ). Exactly v z 0 xs (fresh n xs)) (omega arith) h
last_columns v n j xs (suc k) h = subst (λ (z : ℕ). Exactly v z 0 xs (last_column (n + length xs) xs k)) (omega arith) (last_columns v (n + length xs) (suc j) xs k h.1)

pub count-agree : (n : ℕ) (v w : ℕ → Bool) (xs : List Literal) → Agree n v w → WithinVars n xs → count_true w xs ≡ count_true v xs
count-agree n v w [] a h = refl
count-agree n v w (x ∷ xs) a h = let e = ap digit (lit-agree n v w x a h.0) in let r = count-agree n v w xs a h.1 in omega arith

Exactly-agree : (n j c d : ℕ) (v w : ℕ → Bool) (xs ss : List Literal) → c ≡ d → Agree n v w → WithinVars n xs → WithinVars n ss → Exactly v j c xs ss → Exactly w j d xs ss
Exactly-agree n j c d v w [] ss e a wx ws h = tt
Exactly-agree n j c d v w (x ∷ xs) [] e a wx ws h = tt
Exactly-agree n j c d v w (x ∷ xs) (s ∷ ss) e a wx ws h =
    let p = lit-agree n v w s a ws.0 in
    let q = lit-agree n v w x a wx.0 in
    let f : c + digit (lit_value v x) ≡ d + digit (lit_value w x) = (let g = ap digit q in omega arith) in
    (p ∙ (h.0 ∙ ap (leb j) f), Exactly-agree n j (c + digit (lit_value v x)) (d + digit (lit_value w x)) v w xs ss f a wx.1 ws.1 h.1)

column_exists : (v : ℕ → Bool) (n j c : ℕ) (xs : List Literal) → WithinVars n xs → (w : ℕ → Bool) × Agree n v w × Exactly w j c xs (fresh n xs)
column_exists v n j c [] wx = (v, (λ x h. refl), tt)
column_exists v n j c (x ∷ xs) wx =
    let b : Bool = leb j (c + digit (lit_value v x)) in
    let u : ℕ → Bool = set_var v (n + 1) b in
    let agree_u : Agree n v u = λ z l. (let ne : z ≢ n + 1 = omega arith in sym (set_old v (n + 1) b z ne)) in
    let eu = lit-agree n v u x agree_u wx.0 in
    let rest = column_exists u (n + 1) j (c + digit (lit_value u x)) xs (within_more n (n + 1) xs (omega arith) wx.1) in
    let w : ℕ → Bool = rest.0 in
    let agree_w : Agree n v w = λ z l. agree_u z l ∙ rest.1 z (omega arith) in
    let ew : lit_value w x ≡ lit_value v x = lit-agree n v w x agree_w wx.0 in
    let new : w (n + 1) ≡ b = sym (rest.1 (n + 1) (omega arith)) ∙ set_new v (n + 1) b in
    (w, agree_w, (new ∙ ap (λ (z : Bool). leb j (c + digit z)) (sym ew), subst (λ (z : Bool). Exactly w j (c + digit z) xs (fresh (n + 1) xs)) (eu ∙ sym ew) rest.2))

columns_exist : (v : ℕ → Bool) (n j : ℕ) (xs : List Literal) (k : ℕ) → WithinVars n xs → (w : ℕ → Bool) × Agree n v w × AllColumns w n j xs k
columns_exist v n j xs zero wx = column_exists v n j 0 xs wx
columns_exist v n j xs (suc k) wx =
    let one = column_exists v n j 0 xs wx in
    let rest = columns_exist one.0 (n + length xs) (suc j) xs k (within_more n (n + length xs) xs (omega arith) wx) in
    let agree : Agree n v rest.0 = λ z l. one.1 z l ∙ rest.1 z (omega arith) in
    (rest.0, agree, (Exactly-agree (n + length xs) j 0 0 one.0 rest.0 xs (fresh n xs) refl rest.1 (within_more n (n + length xs) xs (omega arith) wx) (fresh_within n (n + length xs) xs (omega arith)) one.2, rest.2))

-- where at most k are true, the counter's variables can be set
pub bounded_extends : (v : ℕ → Bool) (n : ℕ) (xs : List Literal) (k : ℕ) (d : Literal) → WithinVars n xs → k < length xs → count_true v xs ≤ k → (w : ℕ → Bool) × Agree n v w × (satisfies w (bounded n xs k d) ≡ true)
bounded_extends v n [] k d wx l h = absurd (omega arith)
bounded_extends v n (x ∷ xs) k d wx l h =
    let r = columns_exist v n 1 (x ∷ xs) k wx in
    let w : ℕ → Bool = r.0 in
    let lc = length-last_column n (x ∷ xs) k in
    let hd = head_column w n 1 (x ∷ xs) k r.2 in
    let cols : satisfies w (columns n (x ∷ xs) k) ≡ true = satisfies-append w (first_column (x ∷ xs) (fresh n (x ∷ xs))) (later_columns (n + length (x ∷ xs)) (x ∷ xs) k (fresh n (x ∷ xs))) ∙ and_from _ _ (first_column_holds w (x ∷ xs) (fresh n (x ∷ xs)) hd) (columns_hold w n 1 (x ∷ xs) k r.2) in
    let ct = count-agree n v w (x ∷ xs) r.1 wx in
    let top : lit_value w (last_or d (last_column n (x ∷ xs) k)) ≡ leb (1 + k) (0 + count_true w (x ∷ xs)) = last_some w (1 + k) (last_column n (x ∷ xs) k) (sym lc) (last_columns w n 1 (x ∷ xs) k r.2) in
    let no : lit_value w (last_or d (last_column n (x ∷ xs) k)) ≡ false = top ∙ lt-leb (1 + k) (0 + count_true w (x ∷ xs)) (omega arith) in
    let unit : satisfies w ((negation (last_or d (last_column n (x ∷ xs) k)) ∷ []) ∷ []) ≡ true = ap (λ (b : Bool). (b || false) && true) (signed-not (last_or d (last_column n (x ∷ xs) k)).positive (w (last_or d (last_column n (x ∷ xs) k)).var) ∙ ap not no) in
    (w, r.1, satisfies-append w (columns n (x ∷ xs) k) ((negation (last_or d (last_column n (x ∷ xs) k)) ∷ []) ∷ []) ∙ and_from _ _ cols unit)
  where
    last_some : (w : ℕ → Bool) (j : ℕ) (ss : List Literal) → length (x ∷ xs) ≡ length ss → Exactly w j 0 (x ∷ xs) ss → lit_value w (last_or d ss) ≡ leb j (0 + count_true w (x ∷ xs))
    last_some w j [] l h = absurd (omega arith)
    last_some w j (s ∷ ss) l h = last_exact w j (0 + digit (lit_value w x)) s xs ss (omega arith) h.1 h.0 ∙ ap (leb j) (omega arith)
