-- Literals.
use Rattle.std.specs.Prelude.{◌≡◌, ℕ, ◌+◌, ◌*◌, ◌/◌, ◌%◌, ◌<◌, ◌≤◌, ◌==◌, Bool, not, List, cond}
use Rattle.std.specs.List.{Contains}

-- a variable, or its negation
pub record Literal : Type 0 where
  pub var : ℕ
  pub positive : Bool

abbrev pub literal : ℕ → Bool → Literal
literal x p = record { var = x; positive = p }

abbrev pub negation : Literal → Literal
negation l = record { var = l.var; positive = not l.positive }

-- twice the variable, and one more where it is negated
abbrev pub code_of : Literal → ℕ
code_of l = 2 * l.var + cond l.positive 0 1

abbrev pub literal_of : ℕ → Literal
literal_of code = record { var = code / 2; positive = code % 2 == 0 }

-- the variables are from 1 to this number
abbrev pub IsOver : ℕ → List Literal → Type 0
IsOver vars ls = (l : Literal) → Contains ls l → (1 ≤ l.var) × (l.var ≤ vars)

-- the variables are below this number
abbrev pub IsBelow : ℕ → List Literal → Type 0
IsBelow size ls = (l : Literal) → Contains ls l → l.var < size
