-- What contracts see of clauses that are watched.
use Rattle.std.specs.Prelude.{◌≡◌, ℕ, ◌+◌, ◌-◌, ◌<◌, ◌≤◌, ◌⊎◌, Option, Some, None, List, [], ◌∷◌, ◌++◌, length, take, slice_index_or}
use Rattle.std.specs.List.{All, Contains}
use Rattle.ax_proof.specs.Literal.{Literal, IsOver}
use Rattle.ax_proof.specs.Clause.{IsClause}
use Rattle.ax_proof.specs.Propagation.{Propagates}
use Rattle.ax_proof.specs.Trail.{TrailState, IsTrail, IsConsistent, IsFalsified, IsSettled, IsUnit}
use Rattle.ax_proof.specs.Runs.{IsForcedBy}

-- The number of variables, the clauses, the literals made true in order with the number of the clause that forced each
-- (from 1, or 0 where none did), and for how many clauses and literals more there is room.
pub record WatchState : Type 0 where
  pub vars : ℕ
  pub clauses : List (List Literal)
  pub trail : List Literal
  pub reasons : List ℕ
  pub room_clauses : ℕ
  pub room_literals : ℕ

-- no clause, no literal made true, and no room
abbrev pub nothing_over : ℕ → WatchState
nothing_over vars = record { vars = vars; clauses = []; trail = []; reasons = []; room_clauses = 0; room_literals = 0 }

abbrev pub trail_of : WatchState → TrailState
trail_of w = record { lits = w.trail; reasons = w.reasons; size = w.vars + 1 }

-- the clause at a place, from 0
abbrev pub clause_of : List (List Literal) → ℕ → List Literal
clause_of clauses place = slice_index_or clauses place []

-- the literal at this place of the trail is the open one of this clause, whose other literals the trail before makes false
abbrev pub Forces : List (List Literal) → List Literal → ℕ → ℕ → Type 0
Forces clauses trail at place =
    (place < length clauses) × ((d : Literal) → IsUnit (take at trail) (clause_of clauses place) (slice_index_or trail at d))

-- each literal has no clause that forced it, or one that does where the literals before it are true
abbrev pub AreReasons : List (List Literal) → List Literal → List ℕ → Type 0
AreReasons clauses trail reasons =
    (at : ℕ) (d : Literal) → at < length trail
    → (slice_index_or reasons at 0 ≡ 0) ⊎ IsForcedBy clauses (take at trail) (slice_index_or reasons at 0) (slice_index_or trail at d)

-- what always holds of watched clauses
pub record IsSound (w : WatchState) : Type 0 where
  pub clauses : All IsClause w.clauses
  pub over : All (IsOver w.vars) w.clauses
  pub literals : IsOver w.vars w.trail
  pub trail : IsTrail (trail_of w)
  pub consistent : IsConsistent w.trail
  pub reasons : AreReasons w.clauses w.trail w.reasons

-- room was made, and nothing else changed
pub record Reserves (clauses literals : ℕ) (old new : WatchState) : Type 0 where
  pub kept : new ≡ record old { room_clauses = new.room_clauses; room_literals = new.room_literals }
  pub enough_clauses : clauses ≤ new.room_clauses
  pub enough_literals : literals ≤ new.room_literals
  pub clauses_stay : old.room_clauses ≤ new.room_clauses
  pub literals_stay : old.room_literals ≤ new.room_literals

-- one clause more, which takes its part of the room
abbrev pub with_clause : WatchState → List Literal → WatchState
with_clause w c = record w { clauses = w.clauses ++ c ∷ []; room_clauses = w.room_clauses - 1; room_literals = w.room_literals - length c }

-- this literal made true, forced by no clause
abbrev pub assuming : WatchState → Literal → WatchState
assuming w l = record w { trail = w.trail ++ l ∷ []; reasons = w.reasons ++ 0 ∷ [] }

-- the first literals of the trail alone
abbrev pub cut : WatchState → ℕ → WatchState
cut w len = record w { trail = take len w.trail; reasons = take len w.reasons }

-- every literal of the new trail is forced by unit propagation from the old one
abbrev pub HasOnlyForced : List (List Literal) → List Literal → List Literal → Type 0
HasOnlyForced clauses old new = (l : Literal) → Contains new l → Propagates clauses old l

-- the new trail has every literal that unit propagation forces from the old one
abbrev pub HasAllForced : List (List Literal) → List Literal → List Literal → Type 0
HasAllForced clauses old new = (l : Literal) → Propagates clauses old l → Contains new l

-- the place of a false clause, or none where each clause is true or has two open literals
abbrev pub WatchSays : List (List Literal) → List Literal → Option ℕ → Type 0
WatchSays clauses trail (Some place) = (place < length clauses) × IsFalsified trail (clause_of clauses place)
WatchSays clauses trail None = All (IsSettled trail) clauses
