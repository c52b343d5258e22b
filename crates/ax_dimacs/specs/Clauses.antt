-- What a clause file says: `p cnf V N`, then literals from 1 to V, each with its sign, and `0` behind each clause.
use Rattle.std.specs.Prelude.{ℕ, ◌≡◌, ◌==◌, ◌&&◌, ◌++◌, Bool, true, false, not, List, [], ◌∷◌, length, drop, codes, nat_le, nat_lt, Option, Some, None, Result, Ok, Err, if◌then◌else◌, option_and_then}
use Rattle.std.specs.List.{list_all}
use Rattle.std.specs.Char.{is_ascii_digit}
use Rattle.std.specs.Str.{bytes_eq}
use Rattle.std.specs.Str.Parse.{digits_value}
use Rattle.ax_proof.specs.Literal.{Literal, literal}
use Rattle.ax_gates.specs.Gates.{as_clause}
use Rattle.ax_proof.specs.declared.clause.Cnf.{Cnf}
use Rattle.ax_proof.specs.declared.denied.Denied.{Denied}
use Rattle.ax_proof.specs.declared.denied.Denied.TheVariants.{Fault, Memory}
use Rattle.ax_dimacs.specs.declared.read.CnfFault.{CnfFault}
use Rattle.ax_dimacs.specs.Words.{Word, words_of}

-- one to ten digits
abbrev pub is_number : List ℕ → Bool
is_number text = nat_lt 0 (length text) && (nat_le (length text) 10 && list_all is_ascii_digit text)

abbrev pub number_of : List ℕ → Option ℕ
number_of text = if is_number text then Some (digits_value 10 text) else None

abbrev pub within : ℕ → ℕ → Option ℕ
within most n = if nat_le n most then Some n else None

-- a number that is at most so large
abbrev pub number_within : ℕ → List ℕ → Option ℕ
number_within most text = option_and_then (within most) (number_of text)

abbrev pub signed : ℕ → Bool → ℕ → Option Literal
signed vars sign n = if nat_lt 0 n && nat_le n vars then Some (literal n sign) else None

abbrev pub has_minus : List ℕ → Bool
has_minus [] = false
has_minus (b ∷ s) = b == 45

-- a variable from 1 to `vars`, or its negation
abbrev pub literal_of : ℕ → List ℕ → Option Literal
literal_of vars text =
    if has_minus text then option_and_then (signed vars false) (number_of (drop 1 text))
    else option_and_then (signed vars true) (number_of text)

-- these clauses stand before the others
abbrev pub joined : List (List Literal) → Result (List (List Literal)) ℕ → Result (List (List Literal)) ℕ
joined cs (Ok more) = Ok (cs ++ more)
joined cs (Err at) = Err at

-- an open clause at the text's end is one if it has literals
abbrev pub last_clause : List Literal → List (List Literal)
last_clause [] = []
last_clause (l ∷ ls) = as_clause (l ∷ ls)

abbrev pub is_open : List Literal → Bool
is_open [] = false
is_open (l ∷ ls) = true

-- what follows from the literal that a word is, or the word's place where it is none
abbrev pub or_fault : {A B : Type 0} → ℕ → (A → Result B ℕ) → Option A → Result B ℕ
or_fault at go None = Err at
or_fault at go (Some a) = go a

-- the clauses that words spell behind the literals of an open clause, or the place of the first word that doesn't fit
abbrev pub clauses_of : ℕ → List Literal → List Word → Result (List (List Literal)) ℕ
clauses_of vars ls [] = Ok (last_clause ls)
clauses_of vars ls (w ∷ ws) =
    if bytes_eq w.text (codes "0") then joined (as_clause ls) (clauses_of vars [] ws)
    else if bytes_eq w.text (codes "%") && not (is_open ls) then Ok []
    else or_fault w.at (λ l. clauses_of vars (ls ++ l ∷ []) ws) (literal_of vars w.text)

-- the next word as this reads it, and the words behind it; or the word's place, or the text's end
abbrev pub taken : {A : Type 0} → ℕ → (List ℕ → Option A) → List Word → Result (A × List Word) ℕ
taken end reads [] = Err end
taken end reads (w ∷ ws) = or_fault w.at (λ a. Ok (a, ws)) (reads w.text)

abbrev pub goes_on : {A B : Type 0} → Result A ℕ → (A → Result B ℕ) → Result B ℕ
goes_on (Ok a) go = go a
goes_on (Err at) go = Err at

-- this word and no other
abbrev pub only : List ℕ → List ℕ → Option (Unit {0})
only name text = if bytes_eq text name then Some tt else None

-- variables and clauses
pub record Formula : Type 0 where
  pub vars : ℕ
  pub clauses : List (List Literal)

abbrev pub over : ℕ → Result (List (List Literal)) ℕ → Result Formula ℕ
over vars (Ok cs) = Ok (record { vars = vars; clauses = cs })
over vars (Err at) = Err at

-- how many variables a head says, of a text that ends there, and the words behind it
abbrev pub head_of : ℕ → List Word → Result (ℕ × List Word) ℕ
head_of end ws =
    goes_on (taken end (only (codes "p")) ws) (λ p.
    goes_on (taken end (only (codes "cnf")) p.1) (λ cnf.
    goes_on (taken end (number_within 10000000) cnf.1) (λ vars.
    goes_on (taken end (number_within 9999999999) vars.1) (λ many. Ok (vars.0, many.1)))))

-- what a file says, or the place of its first fault
abbrev pub formula_of : List ℕ → Result Formula ℕ
formula_of bytes = goes_on (head_of (length bytes) (words_of bytes)) (λ head. over head.0 (clauses_of head.0 [] head.1))

-- the list of clauses of the file, or its first fault
abbrev pub Reads : List ℕ → Result Cnf (Denied CnfFault) → Type 0
Reads bytes (Ok cnf) = formula_of bytes ≡ Ok (record { vars = cnf.vars; clauses = cnf.clauses.items })
Reads bytes (Err (Fault fault)) = formula_of bytes ≡ Err fault.at
Reads bytes (Err Memory) = Unit {0}
