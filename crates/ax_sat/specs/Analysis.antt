-- Marks of variables, which stand for the literals of a line to be learnt.
use Rattle.std.specs.Prelude.{Option, Some, None, ◌≡◌, ◌≢◌, ℕ, ◌<◌, ◌≤◌, ◌⊎◌, Bool, List, ◌∷◌, length, take, slice_index_or}
use Rattle.std.specs.List.{Contains}
use Rattle.ax_proof.specs.Literal.{Literal, negation}
use Rattle.ax_proof.specs.Clause.{IsClause, SameLiterals}
use Rattle.ax_proof.specs.Propagation.{Propagates, Conflicts, HasRup}
use Rattle.ax_proof.specs.Marks.{IsMarked}
use Rattle.ax_proof.specs.Trail.{IsOpen}

-- the literal is false, and its variable is marked
abbrev pub IsIn : List Literal → List Bool → Literal → Type 0
IsIn trail marks m = IsMarked marks m.var × Contains trail (negation m)

-- the literals of the list are false and marked, but for those of one variable
abbrev pub AreIn : List Literal → List Bool → ℕ → List Literal → Type 0
AreIn trail marks except lits = (m : Literal) → Contains lits m → m.var ≢ except → IsIn trail marks m

-- whoever makes all marked literals false makes a clause false
pub record Suffices (clauses : List (List Literal)) (trail : List Literal) (marks : List Bool) : Type 0 where
  pub conflict : (xs : List Literal) → ((m : Literal) → IsIn trail marks m → Propagates clauses xs (negation m)) → Conflicts clauses xs

-- a line of all marked literals, of which the first `start` literals of the trail make all false but one, and leave that
-- one open
pub record Collects (trail : List Literal) (marks : List Bool) (start : ℕ) (line : List Literal) : Type 0 where
  pub all : (m : Literal) → IsIn trail marks m → Contains line m
  pub first : Literal
  pub others : List Literal
  pub same : SameLiterals line (first ∷ others)
  pub before : (m : Literal) → Contains others m → Contains (take start trail) (negation m)
  pub opened : IsOpen (take start trail) first
  pub denied : (m : Literal) → Contains line m → Contains trail (negation m)
  pub rising : IsClause line

-- a line that says why the trail makes a clause false, with one literal that is open in the first `start` ones
pub record Explains (clauses : List (List Literal)) (trail : List Literal) (start : ℕ) (line : List Literal) : Type 0 where
  pub lawful : HasRup clauses line
  pub first : Literal
  pub others : List Literal
  pub same : SameLiterals line (first ∷ others)
  pub before : (m : Literal) → Contains others m → Contains (take start trail) (negation m)
  pub opened : IsOpen (take start trail) first
  pub denied : (m : Literal) → Contains line m → Contains trail (negation m)
  pub rising : IsClause line

-- the literal at this place of the trail is of this variable
abbrev pub StandsOf : List Literal → ℕ → ℕ → Type 0
StandsOf trail at x = (at < length trail) × ((d : Literal) → (slice_index_or trail at d).var ≡ x)

-- of the marked literals of these variables, each is in the list, or the one that was made false late
abbrev pub FoundIn : List Literal → List Bool → List ℕ → List Literal → Option Literal → Type 0
FoundIn trail marks vars others first = (m : Literal) → Contains vars m.var → IsIn trail marks m → Contains others m ⊎ (first ≡ Some m)

-- the late one, if there is one, was made false from `start` on
abbrev pub IsFrom : List Literal → ℕ → Option Literal → Type 0
IsFrom trail start None = Unit {0}
IsFrom trail start (Some u) = (k : ℕ) × (l : Literal) × (start ≤ k) × (k < length trail) × (slice_index_or trail k l ≡ l) × (u ≡ negation l)
