-- What unit propagation makes of a trail.
use Rattle.std.specs.Prelude.{◌≡◌, ℕ, ◌+◌, ◌<◌, ◌≤◌, ◌++◌, ◌⊎◌, Bool, true, false, Option, Some, None, List, [], ◌∷◌, length, take, slice_index_or}
use Rattle.std.specs.List.{All}
use Rattle.ax_proof.specs.Literal.{Literal}
use Rattle.ax_proof.specs.Trail.{TrailState, IsUnit, IsFalsified, IsSettled}
use Rattle.ax_proof.specs.Uses.{numbered, IsNumber}

-- the first list is a front of the second
abbrev pub Begins : {X : Type 0} → List X → List X → Type 0
Begins {X} xs ys = (rest : List X) × (ys ≡ xs ++ rest)

-- the clause of this number has this open literal, and its other literals are false
abbrev pub IsForcedBy : List (List Literal) → List Literal → ℕ → Literal → Type 0
IsForcedBy clauses trail number l = IsNumber clauses number × IsUnit trail (numbered clauses number) l

-- each literal from this place on is forced by the clause of its number, where the literals before it are true
abbrev pub AreForced : List (List Literal) → ℕ → List Literal → List ℕ → Type 0
AreForced clauses from lits reasons =
    (k : ℕ) (d : Literal) → from ≤ k → k < length lits
    → IsForcedBy clauses (take k lits) (slice_index_or reasons k 0) (slice_index_or lits k d)

-- the trail goes on by literals that are forced, each with the number of the clause that forces it
pub record GoesOn (clauses : List (List Literal)) (old new : TrailState) : Type 0 where
  pub size : new.size ≡ old.size
  pub lits : Begins old.lits new.lits
  pub reasons : Begins old.reasons new.reasons
  pub paired : length new.reasons + length old.lits ≡ length new.lits + length old.reasons
  pub forced : AreForced clauses (length old.lits) new.lits new.reasons

-- the number of a false clause, or none where each clause is true or has two open literals
abbrev pub PropagationSays : List (List Literal) → List Literal → Option ℕ → Type 0
PropagationSays clauses trail (Some number) = IsNumber clauses number × IsFalsified trail (numbered clauses number)
PropagationSays clauses trail None = All (IsSettled trail) clauses

-- the trail with one more literal
abbrev pub pushed : TrailState → Literal → ℕ → TrailState
pushed t l number = record { lits = t.lits ++ l ∷ []; reasons = t.reasons ++ number ∷ []; size = t.size }

-- what one clause did: it was false, or settled, or forced a literal
abbrev pub StepSays : List Literal → ℕ → TrailState → TrailState → Bool → Type 0
StepSays c number old new false = (new ≡ old) × IsFalsified old.lits c
StepSays c number old new true =
    ((new ≡ old) × IsSettled old.lits c)
    ⊎ ((l : Literal) × IsUnit old.lits c l × (new ≡ pushed old l number))
