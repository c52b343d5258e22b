-- Fewer clauses that say as much.
use Rattle.std.specs.Prelude.{◌≡◌, ℕ, ◌<◌, ◌++◌, ◌∷◌, ◌⊎◌, Bool, List, [], length}
use Rattle.std.specs.List.{Contains}
use Rattle.ax_proof.specs.Literal.{Literal}
use Rattle.ax_proof.specs.Marks.{IsMarked}
use Rattle.ax_watch.specs.Watch.{clause_of}

-- each literal of the first list stands in the second
abbrev pub IsPart : List Literal → List Literal → Type 0
IsPart part whole = (l : Literal) → Contains part l → Contains whole l

-- one of these clauses is a part of this one
abbrev pub HasPart : List (List Literal) → List Literal → Type 0
HasPart clauses whole = (part : List Literal) × Contains clauses part × IsPart part whole

-- some of the clauses, of which each clause has a part
pub record IsCore (core all : List (List Literal)) : Type 0 where
  pub among : (c : List Literal) → Contains core c → Contains all c
  pub parts : (c : List Literal) → Contains all c → HasPart core c

-- one of these clauses whose places are marked is a part of this one
abbrev pub HasMarkedPart : List (List Literal) → List Bool → List Literal → Type 0
HasMarkedPart clauses marks whole = (place : ℕ) × (place < length clauses) × IsMarked marks place × IsPart (clause_of clauses place) whole

-- the clause at this place isn't marked, and nothing changed, or it came behind the others
abbrev pub Takes : List (List Literal) → List Bool → ℕ → List (List Literal) → List (List Literal) → Type 0
Takes clauses marks place old new = ((IsMarked marks place → ⊥) × (new ≡ old)) ⊎ (new ≡ old ++ clause_of clauses place ∷ [])
