-- The clauses that are read have the variables of the head.
use Rattle.std.proofs.Common.{◌≡◌, ◌≤◌, ◌&&◌, ◌++◌, ℕ, Bool, true, false, List, [], ◌∷◌, drop, Some, None, inl, inr, refl, sym, subst, not, arith}
use Rattle.std.specs.Prelude.{Option, Result, Ok, Err, IfOk, codes, nat_lt, nat_le, option_to_list, option_and_then, if◌then◌else◌}
use Rattle.std.specs.List.{All}
use Rattle.std.specs.Str.{bytes_eq}
use Rattle.std.proofs.lemmas.List.Elements.{All-nil, All-cons, All-append, Contains-append_cases}
use Rattle.std.proofs.lemmas.Bool.Decides.{nat_tests}
use Rattle.ax_proof.specs.Literal.{Literal, literal, IsOver}
use Rattle.ax_proof.specs.Clause.{clause_of}
use Rattle.ax_gates.specs.Gates.{as_clause}
use Rattle.ax_proof.proofs.Lists.{Contains-cons_cases, Contains-none}
use Rattle.ax_proof.proofs.Clauses.{MatchClause, clause_of_says}
use Rattle.ax_dimacs.specs.Words.{Word}
use Rattle.ax_dimacs.specs.Clauses.{clauses_of, has_minus, is_open, joined, last_clause, literal_of, number_of, or_fault, signed}

-- ---- lists of literals

none-over : (vars : ℕ) → IsOver vars []
none-over vars l h = absurd (Contains-none l h)

one-over : (vars n : ℕ) (sign : Bool) → 1 ≤ n → n ≤ vars → IsOver vars (literal n sign ∷ [])
one-over vars n sign low high m h = elim (Contains-cons_cases (literal n sign) [] m h) [
  | inl e ↦ subst (λ (x : Literal). (1 ≤ x.var) × (x.var ≤ vars)) (sym e) (low, high)
  | inr q ↦ absurd (Contains-none m q)
]

both-over : (vars : ℕ) (ls ms : List Literal) → IsOver vars ls → IsOver vars ms → IsOver vars (ls ++ ms)
both-over vars ls ms a b l h = elim (Contains-append_cases ls ms l h) [ inl p ↦ a l p | inr q ↦ b l q ]

-- the clause of literals, where there is one
made-over : (vars : ℕ) (ls : List Literal) (made : Option (List Literal)) → IsOver vars ls → MatchClause ls made → All (IsOver vars) (option_to_list made)
made-over vars ls None is says = All-nil (IsOver vars)
made-over vars ls (Some c) is says = All-cons (IsOver vars) c [] (λ l h. is l ((says.1 l).1 h)) (All-nil (IsOver vars))

clause-over : (vars : ℕ) (ls : List Literal) → IsOver vars ls → All (IsOver vars) (as_clause ls)
unfolding as_clause
clause-over vars ls is = made-over vars ls (clause_of ls) is (clause_of_says ls)

last-over : (vars : ℕ) (ls : List Literal) → IsOver vars ls → All (IsOver vars) (last_clause ls)
last-over vars [] is = All-nil (IsOver vars)
last-over vars (l ∷ ls) is = clause-over vars (l ∷ ls) is

-- ---- words

-- a word that is a literal has a variable from 1 to that number
abbrev IsLiteral : ℕ → Option Literal → Type 0
IsLiteral vars None = Unit {0}
IsLiteral vars (Some l) = IsOver vars (l ∷ [])

signed-by : (vars n : ℕ) (sign fits : Bool) → nat_lt 0 n && nat_le n vars ≡ fits → IsLiteral vars (if fits then Some (literal n sign) else None)
signed-by vars n sign true e =
    let low : 1 ≤ n = grind (arith, nat_tests) in
    let high : n ≤ vars = grind (arith, nat_tests) in
    one-over vars n sign low high
signed-by vars n sign false e = tt

signed-is : (vars : ℕ) (sign : Bool) (n : Option ℕ) → IsLiteral vars (option_and_then (signed vars sign) n)
signed-is vars sign None = tt
signed-is vars sign (Some n) = signed-by vars n sign (nat_lt 0 n && nat_le n vars) refl

literal-by : (vars : ℕ) (minus : Bool) (a b : Option ℕ) → IsLiteral vars (if minus then option_and_then (signed vars false) a else option_and_then (signed vars true) b)
literal-by vars true a b = signed-is vars false a
literal-by vars false a b = signed-is vars true b

joined-over : (vars : ℕ) (cs : List (List Literal)) (rest : Result (List (List Literal)) ℕ) → All (IsOver vars) cs → IfOk rest (All (IsOver vars)) → IfOk (joined cs rest) (All (IsOver vars))
joined-over vars cs (Ok more) a b = All-append (IsOver vars) cs more a b
joined-over vars cs (Err at) a b = tt

-- what a word leads to
literal-over : (vars at : ℕ) (ls : List Literal) (ws : List Word) (found : Option Literal) → IsOver vars ls → IsLiteral vars found
    → ((ms : List Literal) → IsOver vars ms → IfOk (clauses_of vars ms ws) (All (IsOver vars)))
    → IfOk (or_fault at (λ l. clauses_of vars (ls ++ l ∷ []) ws) found) (All (IsOver vars))
literal-over vars at ls ws None is lit more = tt
literal-over vars at ls ws (Some l) is lit more = more (ls ++ l ∷ []) (both-over vars ls (l ∷ []) is lit)

word-over : (vars at : ℕ) (ls : List Literal) (ws : List Word) (zero percent : Bool) (found : Option Literal) → IsOver vars ls → IsLiteral vars found
    → ((ms : List Literal) → IsOver vars ms → IfOk (clauses_of vars ms ws) (All (IsOver vars)))
    → IfOk (if zero then joined (as_clause ls) (clauses_of vars [] ws) else if percent then Ok [] else or_fault at (λ l. clauses_of vars (ls ++ l ∷ []) ws) found) (All (IsOver vars))
word-over vars at ls ws true percent found is lit more =
    joined-over vars (as_clause ls) (clauses_of vars [] ws) (clause-over vars ls is) (more [] (none-over vars))
word-over vars at ls ws false true found is lit more = All-nil (IsOver vars)
word-over vars at ls ws false false found is lit more = literal-over vars at ls ws found is lit more

clauses-over : (vars : ℕ) (ws : List Word) (ls : List Literal) → IsOver vars ls → IfOk (clauses_of vars ls ws) (All (IsOver vars))
clauses-over vars [] ls is = last-over vars ls is
clauses-over vars (w ∷ ws) ls is =
    word-over vars w.at ls ws (bytes_eq w.text (codes "0")) (bytes_eq w.text (codes "%") && not (is_open ls)) (literal_of vars w.text) is
    (literal-by vars (has_minus w.text) (number_of (drop 1 w.text)) (number_of w.text)) (λ ms over-ms. clauses-over vars ws ms over-ms)

-- read clauses have the variables from 1 to the number that stands in the head
pub read-over : (vars : ℕ) (ws : List Word) (cs : List (List Literal)) → clauses_of vars [] ws ≡ Ok cs → All (IsOver vars) cs
read-over vars ws cs e = subst (λ (r : Result (List (List Literal)) ℕ). IfOk r (All (IsOver vars))) e (clauses-over vars ws [] (none-over vars))
