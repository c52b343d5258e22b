-- Laws of unit propagation and of lines.
use Rattle.std.specs.Prelude.{◌≡◌, ◌≢◌, ◌↔◌, ℕ, Bool, true, List, []}
use Rattle.std.specs.List.{All, Contains}
use Rattle.ax_proof.specs.Literal.{Literal, IsBelow}
use Rattle.ax_proof.specs.Assignment.{lit_value, satisfies}
use Rattle.ax_proof.specs.Propagation.{Propagates, HasRup}
use Rattle.ax_proof.specs.Naming.{renamed, all_renamed, IsOneToOne}
use Rattle.ax_proof.specs.Lines.{IsLawful, IsProof, IsNew}
use Rattle.ax_proof.specs.Uses.{AreRight}

-- what is forced holds in every model in which the assumed literals hold
abbrev pub ForcedHolds : Type 0
ForcedHolds =
    (v : ℕ → Bool) (clauses : List (List Literal)) (assumed : List Literal) (l : Literal)
    → satisfies v clauses ≡ true → ((m : Literal) → Contains assumed m → lit_value v m ≡ true)
    → Propagates clauses assumed l → lit_value v l ≡ true

-- lawful lines hold in every model of the clauses
abbrev pub LawfulHolds : Type 0
LawfulHolds = (v : ℕ → Bool) (clauses lines : List (List Literal)) → IsLawful clauses lines → satisfies v clauses ≡ true → satisfies v lines ≡ true

-- clauses with a proof have no model
abbrev pub ProofRefutes : Type 0
ProofRefutes = (v : ℕ → Bool) (clauses lines : List (List Literal)) → IsProof clauses lines → satisfies v clauses ≢ true

abbrev pub NewIsNotEmpty : Type 0
NewIsNotEmpty = (clauses : List (List Literal)) (line : List Literal) → IsNew clauses line → line ≢ []

-- no clause is a subset of a new line
abbrev pub NewHasNoSubset : Type 0
NewHasNoSubset =
    (clauses : List (List Literal)) (line c : List Literal)
    → IsNew clauses line → Contains clauses c → ((l : Literal) → Contains c l → Contains line l) → ⊥

-- lines that are right are lawful
abbrev pub RightIsLawful : Type 0
RightIsLawful = (clauses lines : List (List Literal)) (uses : List (List ℕ)) → AreRight clauses lines uses → IsLawful clauses lines

-- assignments that agree on the variables of the clauses satisfy them alike
abbrev pub OwnVariablesDecide : Type 0
OwnVariablesDecide =
    (v w : ℕ → Bool) (clauses : List (List Literal))
    → ((c : List Literal) (l : Literal) → Contains clauses c → Contains c l → v l.var ≡ w l.var)
    → satisfies v clauses ≡ satisfies w clauses

-- reverse unit propagation doesn't depend on how variables are named
abbrev pub NamesDoNotCount : Type 0
NamesDoNotCount =
    (f : ℕ → ℕ) (size : ℕ) (clauses : List (List Literal)) (line : List Literal)
    → IsOneToOne f size → All (IsBelow size) clauses → IsBelow size line
    → HasRup clauses line ↔ HasRup (all_renamed f clauses) (renamed f line)
