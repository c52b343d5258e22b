-- The text of clauses as a clause file.
use Rattle.std.specs.Prelude.{◌<◌, ◌≤◌, ◌^◌, ℕ, List, [], ◌∷◌, ◌++◌, length, codes, decimal, if◌then◌else◌}
use Rattle.std.specs.List.{All, flat_map}
use Rattle.ax_proof.specs.Literal.{Literal, IsOver}

-- a variable's number, with `-` before it where it is negated
abbrev pub literal_text : Literal → List ℕ
literal_text l = (if l.positive then [] else 45 ∷ []) ++ decimal l.var

-- a literal and a space
abbrev pub part_text : Literal → List ℕ
part_text l = literal_text l ++ 32 ∷ []

-- the literals of a clause, and `0`, on a line
abbrev pub clause_text : List Literal → List ℕ
clause_text c = flat_map part_text c ++ 48 ∷ 10 ∷ []

-- how many variables and clauses there are, on a line
abbrev pub head_text : ℕ → ℕ → List ℕ
head_text vars many = codes "p cnf " ++ (decimal vars ++ 32 ∷ (decimal many ++ 10 ∷ []))

abbrev pub file_text : ℕ → List (List Literal) → List ℕ
file_text vars cs = head_text vars (length cs) ++ flat_map clause_text cs

-- what a clause file can say: few enough variables, which cover the literals, and few enough clauses
pub record IsInProfile (vars : ℕ) (cs : List (List Literal)) : Type 0 where
  pub few : vars ≤ 10000000
  pub over : All (IsOver vars) cs
  pub short : length cs < 10 ^ 10
