-- One column after another, and the variables of their clauses.
use Rattle.std.proofs.Common.{◌≡◌, ℕ, zero, suc, ◌+◌, ◌*◌, ◌≤◌, Option, Some, None, List, [], ◌∷◌, ◌++◌, inl, inr, length, ap, sym, subst, ◌∙◌, arith, append_assoc, append-nil}
use Rattle.std.specs.Prelude.{option_to_list}
use Rattle.std.specs.List.{All}
use Rattle.std.proofs.lemmas.List.Elements.{All-append, All-cons, All-nil}
use Rattle.ax_proof.specs.Literal.{Literal, negation, IsOver}
use Rattle.ax_proof.specs.Clause.{clause_of}
use Rattle.ax_proof.proofs.Lists.{Contains-here, Contains-there, Contains-cons_cases, Contains-none}
use Rattle.ax_proof.proofs.Clauses.{MatchClause, clause_of_says}
use Rattle.ax_gates.specs.Gates.{as_clause, as_clauses, next}
use Rattle.ax_gates.specs.Words.{fresh}
use Rattle.ax_gates_counter.specs.Counter.{first_steps, first_column, later_steps, later_column, later_columns, columns}

-- the column before the next one, where so many stand behind `ps`
abbrev pub column_before : ℕ → List Literal → List Literal → ℕ → List Literal
column_before m xs ps zero = ps
column_before m xs ps (suc k) = fresh (m + length xs * k) xs

before_next : (m : ℕ) (xs ps : List Literal) (k : ℕ) → column_before (m + length xs) xs (fresh m xs) k ≡ fresh (m + length xs * k) xs
before_next m xs ps zero = ap (λ (n : ℕ). fresh n xs) (let e : m ≡ m + length xs * 0 = omega arith in e)
before_next m xs ps (suc k) = ap (λ (n : ℕ). fresh n xs) (let e : m + length xs + length xs * k ≡ m + length xs * (suc k) = omega arith in e)

pub later_more : (m : ℕ) (xs ps : List Literal) (k : ℕ) → later_columns m xs (suc k) ps ≡ later_columns m xs k ps ++ later_column xs (column_before m xs ps k) (fresh (m + length xs * k) xs)
later_more m xs ps zero =
    append-nil (later_column xs ps (fresh m xs))
    ∙ ap (λ (n : ℕ). later_column xs ps (fresh n xs)) (let e : m ≡ m + length xs * 0 = omega arith in e)
later_more m xs ps (suc k) =
    let here : List (List Literal) = later_column xs ps (fresh m xs) in
    let rest : List (List Literal) = later_columns (m + length xs) xs k (fresh m xs) in
    let place : m + length xs + length xs * k ≡ m + length xs * (suc k) = omega arith in
    ap (λ (cs : List (List Literal)). here ++ cs) (later_more (m + length xs) xs (fresh m xs) k)
    ∙ (ap (λ (ls : List Literal). here ++ (rest ++ later_column xs ls (fresh (m + length xs + length xs * k) xs))) (before_next m xs ps k)
    ∙ (ap (λ (n : ℕ). here ++ (rest ++ later_column xs (fresh (m + length xs * k) xs) (fresh n xs))) place
    ∙ sym (append_assoc here rest (later_column xs (fresh (m + length xs * k) xs) (fresh (m + length xs * (suc k)) xs)))))

-- the columns up to k + 2 are those up to k + 1, and one more
pub columns_more : (n : ℕ) (xs : List Literal) (k : ℕ) → columns n xs (k + 1) ≡ columns n xs k ++ later_column xs (fresh (n + length xs * k) xs) (fresh (n + length xs * (k + 1)) xs)
columns_more n xs k =
    let first : List (List Literal) = first_column xs (fresh n xs) in
    let rest : List (List Literal) = later_columns (n + length xs) xs k (fresh n xs) in
    let up : k + 1 ≡ suc k = omega arith in
    let place : n + length xs + length xs * k ≡ n + length xs * (k + 1) = omega arith in
    ap (λ (j : ℕ). columns n xs j) up
    ∙ (ap (λ (cs : List (List Literal)). first ++ cs) (later_more (n + length xs) xs (fresh n xs) k)
    ∙ (ap (λ (ls : List Literal). first ++ (rest ++ later_column xs ls (fresh (n + length xs + length xs * k) xs))) (before_next n xs (fresh n xs) k)
    ∙ (ap (λ (m : ℕ). first ++ (rest ++ later_column xs (fresh (n + length xs * k) xs) (fresh m xs))) place
    ∙ sym (append_assoc first rest (later_column xs (fresh (n + length xs * k) xs) (fresh (n + length xs * (k + 1)) xs))))))

-- the literal's variable is from 1 to this number
abbrev pub Fits : ℕ → Literal → Type 0
Fits n l = (1 ≤ l.var) × (l.var ≤ n)

pub over_none : (n : ℕ) → IsOver n []
over_none n l h = absurd (Contains-none l h)

pub over_cons : (n : ℕ) (l : Literal) (ls : List Literal) → Fits n l → IsOver n ls → IsOver n (l ∷ ls)
over_cons n l ls fits over m h =
    let P : Literal → Type 0 = λ x. Fits n x in
    elim (Contains-cons_cases l ls m h) [ inl e ↦ subst P (sym e) fits | inr q ↦ over m q ]

pub over_head : (n : ℕ) (l : Literal) (ls : List Literal) → IsOver n (l ∷ ls) → Fits n l
over_head n l ls over = over l (Contains-here l ls)

pub over_tail : (n : ℕ) (l : Literal) (ls : List Literal) → IsOver n (l ∷ ls) → IsOver n ls
over_tail n l ls over m h = over m (Contains-there l ls m h)

over_two : (n : ℕ) (a b : Literal) → Fits n a → Fits n b → IsOver n (a ∷ b ∷ [])
over_two n a b fa fb = over_cons n a (b ∷ []) fa (over_cons n b [] fb (over_none n))

over_three : (n : ℕ) (a b c : Literal) → Fits n a → Fits n b → Fits n c → IsOver n (a ∷ b ∷ c ∷ [])
over_three n a b c fa fb fc = over_cons n a (b ∷ c ∷ []) fa (over_two n b c fb fc)

over_option : (n : ℕ) (ls : List Literal) (o : Option (List Literal)) → MatchClause ls o → IsOver n ls → All (IsOver n) (option_to_list o)
over_option n ls None m over = All-nil (IsOver n)
over_option n ls (Some c) (rising, same) over = All-cons (IsOver n) c [] (λ l h. over l ((same l).1 h)) (All-nil (IsOver n))

-- the clause of literals is over their variables
pub clause_over : (n : ℕ) (ls : List Literal) → IsOver n ls → All (IsOver n) (as_clause ls)
unfolding as_clause
clause_over n ls over = over_option n ls (clause_of ls) (clause_of_says ls) over

pub clauses_over : (n : ℕ) (rows : List (List Literal)) → All (IsOver n) rows → All (IsOver n) (as_clauses rows)
clauses_over n [] over = All-nil (IsOver n)
clauses_over n (ls ∷ rows) over =
    All-append (IsOver n) (as_clause ls) (as_clauses rows) (clause_over n ls (over 0 [] (omega arith))) (clauses_over n rows (λ k d h. over (suc k) d (omega arith)))

pub over_fresh : (m n : ℕ) (xs : List Literal) → m + length xs ≤ n → IsOver n (fresh m xs)
over_fresh m n [] h = over_none n
over_fresh m n (x ∷ xs) h = over_cons n (next m) (fresh (m + 1) xs) (omega arith, omega arith) (over_fresh (m + 1) n xs (omega arith))

first_steps_over : (n : ℕ) (s : Literal) (xs column : List Literal) → Fits n s → IsOver n xs → IsOver n column → All (IsOver n) (first_steps s xs column)
first_steps_over n s [] column fs ox oc = All-nil (IsOver n)
first_steps_over n s (x ∷ xs) [] fs ox oc = All-nil (IsOver n)
first_steps_over n s (x ∷ xs) (z ∷ column) fs ox oc =
    let fx = over_head n x xs ox in
    let fz = over_head n z column oc in
    All-cons (IsOver n) (negation x ∷ z ∷ []) ((negation s ∷ z ∷ []) ∷ first_steps z xs column) (over_two n (negation x) z fx fz)
    (All-cons (IsOver n) (negation s ∷ z ∷ []) (first_steps z xs column) (over_two n (negation s) z fs fz)
    (first_steps_over n z xs column fz (over_tail n x xs ox) (over_tail n z column oc)))

-- the clauses of the first column are over the variables of the inputs and of the column
pub first_over : (n : ℕ) (xs column : List Literal) → IsOver n xs → IsOver n column → All (IsOver n) (first_column xs column)
first_over n [] column ox oc = All-nil (IsOver n)
first_over n (x ∷ xs) [] ox oc = All-nil (IsOver n)
first_over n (x ∷ xs) (s ∷ column) ox oc =
    let fx = over_head n x xs ox in
    let fs = over_head n s column oc in
    All-cons (IsOver n) (negation x ∷ s ∷ []) (first_steps s xs column) (over_two n (negation x) s fx fs)
    (first_steps_over n s xs column fs (over_tail n x xs ox) (over_tail n s column oc))

later_steps_over : (n : ℕ) (s p : Literal) (xs before column : List Literal) → Fits n s → Fits n p → IsOver n xs → IsOver n before → IsOver n column → All (IsOver n) (later_steps s p xs before column)
later_steps_over n s p [] before column fs fp ox ob oc = All-nil (IsOver n)
later_steps_over n s p (x ∷ xs) [] column fs fp ox ob oc = All-nil (IsOver n)
later_steps_over n s p (x ∷ xs) (q ∷ before) [] fs fp ox ob oc = All-nil (IsOver n)
later_steps_over n s p (x ∷ xs) (q ∷ before) (z ∷ column) fs fp ox ob oc =
    let fx = over_head n x xs ox in
    let fq = over_head n q before ob in
    let fz = over_head n z column oc in
    All-cons (IsOver n) (negation s ∷ z ∷ []) ((negation x ∷ negation p ∷ z ∷ []) ∷ later_steps z q xs before column) (over_two n (negation s) z fs fz)
    (All-cons (IsOver n) (negation x ∷ negation p ∷ z ∷ []) (later_steps z q xs before column) (over_three n (negation x) (negation p) z fx fp fz)
    (later_steps_over n z q xs before column fz fq (over_tail n x xs ox) (over_tail n q before ob) (over_tail n z column oc)))

-- the clauses of a later column are over the variables of the inputs, of the column before and of the column
pub later_over : (n : ℕ) (xs before column : List Literal) → IsOver n xs → IsOver n before → IsOver n column → All (IsOver n) (later_column xs before column)
later_over n [] before column ox ob oc = All-nil (IsOver n)
later_over n (x ∷ xs) [] column ox ob oc = All-nil (IsOver n)
later_over n (x ∷ xs) (p ∷ before) [] ox ob oc = All-nil (IsOver n)
later_over n (x ∷ xs) (p ∷ before) (s ∷ column) ox ob oc =
    later_steps_over n s p xs before column (over_head n s column oc) (over_head n p before ob) (over_tail n x xs ox) (over_tail n p before ob) (over_tail n s column oc)
