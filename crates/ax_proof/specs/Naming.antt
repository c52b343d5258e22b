-- Clauses over variables that stand for others.
use Rattle.std.specs.Prelude.{◌≡◌, ℕ, ◌<◌, List, map, flat_map, slice_index_or}
use Rattle.std.specs.List.{All, Contains}
use Rattle.ax_proof.specs.Literal.{Literal, literal, IsBelow}

-- the same of the variable that f names
abbrev pub renamed_lit : (ℕ → ℕ) → Literal → Literal
renamed_lit f l = literal (f l.var) l.positive

abbrev pub renamed : (ℕ → ℕ) → List Literal → List Literal
renamed f c = map (renamed_lit f) c

abbrev pub all_renamed : (ℕ → ℕ) → List (List Literal) → List (List Literal)
all_renamed f cs = map (renamed f) cs

-- no two variables below this number have one name
abbrev pub IsOneToOne : (ℕ → ℕ) → ℕ → Type 0
IsOneToOne f size = (x y : ℕ) → x < size → y < size → f x ≡ f y → x ≡ y

-- the variables of a clause
abbrev pub vars_of : List Literal → List ℕ
vars_of c = map (λ l. l.var) c

-- the variables of clauses, in order
abbrev pub all_vars : List (List Literal) → List ℕ
all_vars cs = flat_map vars_of cs

-- the name at a place of a table
abbrev pub name_at : List ℕ → ℕ → ℕ
name_at names x = slice_index_or names x 0

-- the variables of the clause stand in the table
abbrev pub AreNamed : List ℕ → List Literal → Type 0
AreNamed names c = (l : Literal) → Contains c l → Contains names l.var

-- Clauses and lines over variables below `size` that stand, one for each, for those of other clauses and lines.
pub record StandFor (clauses lines : List (List Literal)) (size : ℕ) (few few_lines : List (List Literal)) : Type 0 where
  pub names : ℕ → ℕ
  pub apart : IsOneToOne names size
  pub below : All (IsBelow size) few
  pub lines_below : All (IsBelow size) few_lines
  pub same : clauses ≡ all_renamed names few
  pub same_lines : lines ≡ all_renamed names few_lines
