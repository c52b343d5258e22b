-- What a satisfied counter says, and which assignments it takes.
use Rattle.std.proofs.Common.{◌≡◌, ◌↔◌, ℕ, zero, suc, ◌+◌, ◌*◌, ◌-◌, ◌≤◌, ◌<◌, Bool, true, false, List, [], ◌∷◌, ◌++◌, length, nat_lt, if◌then◌else◌, refl, ap, sym, ◌∙◌, arith, append_assoc, append-nil}
use Rattle.std.proofs.lemmas.Bool.{ltb-true, ltb-false, lt-ltb}
use Rattle.ax_proof.specs.Literal.{Literal, literal, negation, IsOver}
use Rattle.ax_proof.specs.Assignment.{lit_value, satisfies}
use Rattle.ax_proof.specs.Runs.{Begins}
use Rattle.ax_gates.specs.Gates.{as_clause, as_clauses}
use Rattle.ax_gates.specs.Words.{fresh}
use Rattle.ax_gates.proofs.Values.{digit-lt}
use Rattle.ax_gates.proofs.Circuits.{over_within, as_clauses_true}
use Rattle.ax_gates_counter.specs.Counter.{count_true, later_column, first_column, later_columns, columns, counter, IsExtended}
use Rattle.ax_gates_counter.proofs.Counting.{bounded, last_literal, bounded_means, bounded_extends, count-agree}

pub count-le : (v : ℕ → Bool) (xs : List Literal) → count_true v xs ≤ length xs
count-le v [] = omega arith
count-le v (x ∷ xs) = let h = count-le v xs in let d = digit-lt (lit_value v x) in omega arith

counter_some : (n : ℕ) (xs : List Literal) (k : ℕ) → nat_lt k (length xs) ≡ true → counter n xs k ≡ bounded n xs k (literal 0 true)
counter_some n xs k e =
    let l = ltb-true k (length xs) e in
    ap (λ (b : Bool). if b then columns n xs k ++ (literal (n + length xs * (k + 1)) false ∷ []) ∷ [] else []) e
    ∙ ap (λ (z : Literal). columns n xs k ++ (negation z ∷ []) ∷ []) (sym (last_literal (literal 0 true) n xs k (omega arith)))

counter_none : (n : ℕ) (xs : List Literal) (k : ℕ) → nat_lt k (length xs) ≡ false → counter n xs k ≡ []
counter_none n xs k e = ap (λ (b : Bool). if b then columns n xs k ++ (literal (n + length xs * (k + 1)) false ∷ []) ∷ [] else []) e

pub counter_law : (v : ℕ → Bool) (n : ℕ) (xs : List Literal) (k : ℕ) → satisfies v (as_clauses (counter n xs k)) ≡ true → count_true v xs ≤ k
counter_law v n xs k h = by (nat_lt k (length xs)) refl
  where
    by : (b : Bool) → nat_lt k (length xs) ≡ b → count_true v xs ≤ k
    by false e = let l = ltb-false k (length xs) e in let c = count-le v xs in omega arith
    by true e = bounded_means v n xs k (literal 0 true) (ap (satisfies v) (sym (counter_some n xs k e)) ∙ (sym (as_clauses_true v (counter n xs k)) ∙ h))

counter_extends : (v : ℕ → Bool) (n : ℕ) (xs : List Literal) (k : ℕ) → IsOver n xs → count_true v xs ≤ k → IsExtended n v (as_clauses (counter n xs k))
counter_extends v n xs k o h = by (nat_lt k (length xs)) refl
  where
    by : (b : Bool) → nat_lt k (length xs) ≡ b → IsExtended n v (as_clauses (counter n xs k))
    by false e = (v, (λ x l. refl), ap (λ (cs : List (List Literal)). satisfies v (as_clauses cs)) (counter_none n xs k e))
    by true e =
        let l = ltb-true k (length xs) e in
        let r = bounded_extends v n xs k (literal 0 true) (over_within n xs o) l h in
        (r.0, r.1, as_clauses_true r.0 (counter n xs k) ∙ (ap (satisfies r.0) (counter_some n xs k e) ∙ r.2))

pub counter_exact : (n : ℕ) (xs : List Literal) (k : ℕ) → IsOver n xs → (v : ℕ → Bool) → IsExtended n v (as_clauses (counter n xs k)) ↔ (count_true v xs ≤ k)
counter_exact n xs k o v = (
  (λ h. let c = counter_law h.0 n xs k h.2 in let e = count-agree n v h.0 xs h.1 (over_within n xs o) in omega arith),
  (λ h. counter_extends v n xs k o h),
)

later_grow : (n : ℕ) (xs : List Literal) (j k : ℕ) (ps : List Literal) → j ≤ k → Begins (later_columns n xs j ps) (later_columns n xs k ps)
later_grow n xs zero k ps h = (later_columns n xs k ps, refl)
later_grow n xs (suc j) zero ps h = absurd (omega arith)
later_grow n xs (suc j) (suc k) ps h =
    let r = later_grow (n + length xs) xs j k (fresh n xs) (omega arith) in
    (r.0, ap (λ (cs : List (List Literal)). later_column xs ps (fresh n xs) ++ cs) r.1 ∙ sym (append_assoc (later_column xs ps (fresh n xs)) (later_columns (n + length xs) xs j (fresh n xs)) r.0))

pub as_clauses-append : (a b : List (List Literal)) → as_clauses (a ++ b) ≡ as_clauses a ++ as_clauses b
as_clauses-append [] b = refl
as_clauses-append (c ∷ a) b = ap (λ (cs : List (List Literal)). as_clause c ++ cs) (as_clauses-append a b) ∙ sym (append_assoc (as_clause c) (as_clauses a) (as_clauses b))

pub counter_grows : (n : ℕ) (xs : List Literal) (k j : ℕ) → j ≤ k → Begins (as_clauses (columns n xs j)) (as_clauses (columns n xs k))
counter_grows n xs k j h =
    let r = later_grow (n + length xs) xs j k (fresh n xs) h in
    let e : columns n xs k ≡ columns n xs j ++ r.0 =
    ap (λ (cs : List (List Literal)). first_column xs (fresh n xs) ++ cs) r.1
    ∙ sym (append_assoc (first_column xs (fresh n xs)) (later_columns (n + length xs) xs j (fresh n xs)) r.0) in
    (as_clauses r.0, ap as_clauses e ∙ as_clauses-append (columns n xs j) r.0)

pub counter_clauses : (n : ℕ) (xs : List Literal) (k : ℕ) → k < length xs → as_clauses (counter n xs k) ≡ as_clauses (columns n xs k) ++ as_clause (literal (n + length xs * (k + 1)) false ∷ [])
counter_clauses n xs k l =
    ap (λ (b : Bool). as_clauses (if b then columns n xs k ++ (literal (n + length xs * (k + 1)) false ∷ []) ∷ [] else [])) (lt-ltb k (length xs) l)
    ∙ (as_clauses-append (columns n xs k) ((literal (n + length xs * (k + 1)) false ∷ []) ∷ [])
    ∙ ap (λ (cs : List (List Literal)). as_clauses (columns n xs k) ++ cs) (append-nil (as_clause (literal (n + length xs * (k + 1)) false ∷ []))))

-- the columns and then the last unit clause are the counter
pub counter_appended : (old mid new : List (List Literal)) (n m : ℕ) (xs : List Literal) (k : ℕ) → k < length xs → mid ≡ old ++ as_clauses (columns n xs k) → m ≡ n + length xs * (k + 1)
    → new ≡ mid ++ as_clause (literal m false ∷ []) → new ≡ old ++ as_clauses (counter n xs k)
counter_appended old mid new n m xs k l a e b =
    b ∙ (ap (λ (cs : List (List Literal)). cs ++ as_clause (literal m false ∷ [])) a
    ∙ (ap (λ (z : ℕ). (old ++ as_clauses (columns n xs k)) ++ as_clause (literal z false ∷ [])) e
    ∙ (append_assoc old (as_clauses (columns n xs k)) (as_clause (literal (n + length xs * (k + 1)) false ∷ []))
    ∙ ap (λ (cs : List (List Literal)). old ++ cs) (sym (counter_clauses n xs k l)))))

-- the first column and then the later ones are the columns
pub columns_appended : (old mid new : List (List Literal)) (n m : ℕ) (xs : List Literal) (k : ℕ) (column : List Literal) → mid ≡ old ++ as_clauses (first_column xs (fresh n xs)) → column ≡ fresh n xs → m ≡ n + length xs
    → new ≡ mid ++ as_clauses (later_columns m xs k column) → new ≡ old ++ as_clauses (columns n xs k)
columns_appended old mid new n m xs k column a f e b =
    b ∙ (ap (λ (cs : List (List Literal)). cs ++ as_clauses (later_columns m xs k column)) a
    ∙ (ap (λ (ls : List Literal). (old ++ as_clauses (first_column xs (fresh n xs))) ++ as_clauses (later_columns m xs k ls)) f
    ∙ (ap (λ (z : ℕ). (old ++ as_clauses (first_column xs (fresh n xs))) ++ as_clauses (later_columns z xs k (fresh n xs))) e
    ∙ (append_assoc old (as_clauses (first_column xs (fresh n xs))) (as_clauses (later_columns (n + length xs) xs k (fresh n xs)))
    ∙ ap (λ (cs : List (List Literal)). old ++ cs) (sym (as_clauses-append (first_column xs (fresh n xs)) (later_columns (n + length xs) xs k (fresh n xs))))))))

later_split : (n : ℕ) (xs : List Literal) (more done : ℕ) (ps : List Literal) → done < more
    → as_clauses (later_columns n xs (more - done) ps) ≡ as_clauses (later_column xs ps (fresh n xs)) ++ as_clauses (later_columns (n + length xs) xs (more - (done + 1)) (fresh n xs))
later_split n xs more done ps l =
    let e : more - done ≡ suc (more - (done + 1)) = omega arith in
    ap (λ (k : ℕ). as_clauses (later_columns n xs k ps)) e
    ∙ as_clauses-append (later_column xs ps (fresh n xs)) (later_columns (n + length xs) xs (more - (done + 1)) (fresh n xs))

-- one more column
pub column_step : (whole mid new : List (List Literal)) (n m : ℕ) (xs : List Literal) (more done : ℕ) (ps column : List Literal) → done < more
    → mid ++ as_clauses (later_columns n xs (more - done) ps) ≡ whole
    → new ≡ mid ++ as_clauses (later_column xs ps (fresh n xs)) → column ≡ fresh n xs → m ≡ n + length xs
    → new ++ as_clauses (later_columns m xs (more - (done + 1)) column) ≡ whole
column_step whole mid new n m xs more done ps column l i a f e =
    ap (λ (cs : List (List Literal)). cs ++ as_clauses (later_columns m xs (more - (done + 1)) column)) a
    ∙ (ap (λ (ls : List Literal). (mid ++ as_clauses (later_column xs ps (fresh n xs))) ++ as_clauses (later_columns m xs (more - (done + 1)) ls)) f
    ∙ (ap (λ (z : ℕ). (mid ++ as_clauses (later_column xs ps (fresh n xs))) ++ as_clauses (later_columns z xs (more - (done + 1)) (fresh n xs))) e
    ∙ (append_assoc mid (as_clauses (later_column xs ps (fresh n xs))) (as_clauses (later_columns (n + length xs) xs (more - (done + 1)) (fresh n xs)))
    ∙ (ap (λ (cs : List (List Literal)). mid ++ cs) (sym (later_split n xs more done ps l)) ∙ i))))

pub vars_step : (m n first width done : ℕ) → m ≡ n + width → n ≡ first + width * done → m ≡ first + width * (done + 1)
vars_step m n first width done a b = omega arith
