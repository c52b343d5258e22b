-- What a search answers, and what it adds to the log.
use Rattle.std.specs.Prelude.{◌≡◌, ◌≢◌, ℕ, ◌<◌, ◌≤◌, ◌++◌, ◌^◌, Bool, true, List, [], ◌∷◌, length, map, take}
use Rattle.std.specs.List.{All}
use Rattle.ax_proof.specs.Literal.{Literal, IsOver}
use Rattle.ax_proof.specs.Assignment.{satisfies, assigned}
use Rattle.ax_proof.specs.Propagation.{HasRup}
use Rattle.ax_proof.specs.Lines.{line_at, IsLawful, IsNew, IsProof}
use Rattle.ax_proof.specs.Runs.{Begins}
use Rattle.ax_sat.specs.declared.answer.Answer.{Answer}
use Rattle.ax_sat.specs.declared.answer.Answer.TheVariants.{Model, Refuted, Budget}

-- one unit clause for each assumption
abbrev pub units : List Literal → List (List Literal)
units assumed = map (λ l. l ∷ []) assumed

-- the truth values of the variables up to this number satisfy the clauses
abbrev pub IsModel : List (List Literal) → ℕ → List Bool → Type 0
IsModel clauses vars bits = (length bits ≡ vars) × (satisfies (assigned bits) clauses ≡ true)

-- each line from this place on has this property over the lines before it
abbrev pub EachFrom : (List (List Literal) → List Literal → Type 0) → ℕ → List (List Literal) → Type 0
EachFrom P from lines = (at : ℕ) → from ≤ at → at < length lines → P (take at lines) (line_at lines at)

-- each line from this place on, other than an empty one, is lawful from these clauses and the lines before it
abbrev pub AreLawfulFrom : List (List Literal) → ℕ → List (List Literal) → Type 0
AreLawfulFrom clauses from lines = EachFrom (λ before line. line ≢ [] → HasRup (clauses ++ before) line) from lines

-- each line from this place on is new over these clauses and the lines before it
abbrev pub AreNewFrom : List (List Literal) → ℕ → List (List Literal) → Type 0
AreNewFrom clauses from lines = EachFrom (λ before line. IsNew (clauses ++ before) line) from lines

-- As many new lines as the budget were added, and the empty line is not lawful yet. Over so many variables there are
-- more clauses than the budget.
pub record SpendsBudget (clauses : List (List Literal)) (vars : ℕ) (old new : List (List Literal)) (budget : ℕ) : Type 0 where
  pub added : List (List Literal)
  pub same : new ≡ old ++ added
  pub counted : length added ≡ budget
  pub fresh : AreNewFrom clauses (length old) new
  pub open_end : HasRup (clauses ++ new) [] → ⊥
  pub few : budget < 3 ^ vars

-- What holds of the log whatever the answer is, and where memory ran out too: lines were put behind the old ones, over
-- the variables and lawful from the clauses with the assumptions; the added ones, but for an empty one, need no assumption.
pub record LogGoesOn (clauses : List (List Literal)) (assumed : List Literal) (vars : ℕ) (old new : List (List Literal)) : Type 0 where
  pub begins : Begins old new
  pub over : All (IsOver vars) new
  pub lawful : IsLawful (clauses ++ units assumed) new
  pub alone : AreLawfulFrom clauses (length old) new

-- a model of the clauses, or a proof that they have none, or as many new lines as the budget
abbrev pub AnswerSays : List (List Literal) → ℕ → List (List Literal) → List (List Literal) → ℕ → Answer → Type 0
AnswerSays clauses vars old new budget (Model assignment) = IsModel clauses vars assignment.bits.items × All (λ line. line ≢ []) new
AnswerSays clauses vars old new budget Refuted = IsProof clauses new
AnswerSays clauses vars old new budget Budget = SpendsBudget clauses vars old new budget
