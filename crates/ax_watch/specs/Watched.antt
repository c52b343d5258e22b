-- Two watched literals of each clause.
use Rattle.std.specs.Prelude.{◌≡◌, ◌≢◌, ℕ, ◌+◌, ◌-◌, ◌*◌, ◌/◌, ◌%◌, ◌<◌, ◌≤◌, ◌⊎◌, Bool, true, false, List, [], ◌∷◌, ◌++◌, length, take, slice_index_or}
use Rattle.std.specs.List.{All, Contains}
use Rattle.ax_proof.specs.Literal.{Literal, literal, negation, code_of}
use Rattle.ax_proof.specs.Trail.{TrailState, IsOpen, IsSatisfied, IsFalsified}
use Rattle.ax_proof.specs.Runs.{GoesOn}
use Rattle.ax_watch.specs.Lists.{ListsState, IsAsLarge, list_in, list_count, cell_count}
use Rattle.ax_watch.specs.Watch.{clause_of}
use Rattle.ax_watch.specs.declared.watched.Finding.{Finding}
use Rattle.ax_watch.specs.declared.pairs.Pair.{Pair}
use Rattle.ax_watch.specs.declared.watched.Finding.TheVariants.{Satisfied, Moves, Unit as UnitOf, Falsified}

-- Each clause has two cells, one for each literal of it that is watched: clause 0 has the cells 0 and 1, and so on.
abbrev pub clause_in : List (List Literal) → ℕ → List Literal
clause_in clauses cell = clause_of clauses (cell / 2)

-- the other cell of the same clause
abbrev pub twin : ℕ → ℕ
twin cell = cell + 1 - 2 * (cell % 2)

-- a cell of a clause of two literals or more; those of shorter clauses are idle
abbrev pub IsCell : List (List Literal) → ℕ → Type 0
IsCell clauses cell = (cell < 2 * length clauses) × (1 < length (clause_in clauses cell))

-- the literal that is watched in a cell
abbrev pub watched_in : List Literal → ℕ → Literal
watched_in watched cell = slice_index_or watched cell (literal 0 true)

abbrev pub IsNotFalse : List Literal → Literal → Type 0
IsNotFalse trail l = Contains trail (negation l) → ⊥

-- the clause is true, or this literal of it isn't false by a part of the trail
abbrev pub IsKept : List Literal → List Literal → List Literal → Literal → Type 0
IsKept part trail c l = IsSatisfied trail c ⊎ IsNotFalse part l

-- two different literals of each clause are watched
pub record AreWatched (clauses : List (List Literal)) (watched : List Literal) : Type 0 where
  pub sized : length watched ≡ 2 * length clauses
  pub there : (cell : ℕ) → IsCell clauses cell → Contains (clause_in clauses cell) (watched_in watched cell)
  pub differ : (cell : ℕ) → IsCell clauses cell → watched_in watched cell ≢ watched_in watched (twin cell)
  pub low : (cell : ℕ) → IsCell clauses cell → 1 ≤ (watched_in watched cell).var

-- Each cell stands in the list of its literal's code, or in the list 0 of the cells to be visited, all of which watch one
-- literal. No other cell stands in a list.
pub record AreListed (clauses : List (List Literal)) (size : ℕ) (watched : List Literal) (lists : ListsState) (due : Literal) : Type 0 where
  pub enough : 2 * size ≤ list_count lists
  pub cells : cell_count lists ≡ 2 * length clauses
  pub listed : (cell : ℕ) → IsCell clauses cell → (Contains (list_in lists 0) cell × (watched_in watched cell ≡ due)) ⊎ Contains (list_in lists (code_of (watched_in watched cell))) cell
  pub only : (l cell : ℕ) → Contains (list_in lists l) cell → IsCell clauses cell × (((l ≡ 0) × (watched_in watched cell ≡ due)) ⊎ (l ≡ code_of (watched_in watched cell)))

-- .. and none is to be visited
pub record IsWatching (clauses : List (List Literal)) (size : ℕ) (watched : List Literal) (lists : ListsState) : Type 0 where
  pub two : AreWatched clauses watched
  pub listed : AreListed clauses size watched lists (literal 0 true)
  pub none : list_in lists 0 ≡ []

-- each clause of two literals or more is true, or none of its watched literals is false by a part of the trail
abbrev pub AreKept : List (List Literal) → List Literal → List Literal → List Literal → Type 0
AreKept clauses watched part trail = (cell : ℕ) → IsCell clauses cell → IsKept part trail (clause_in clauses cell) (watched_in watched cell)

-- by the first literals of the trail no clause of two literals or more is false or has one open literal alone, but where
-- the whole trail makes it true
abbrev pub Reaches : List (List Literal) → List Literal → List Literal → ℕ → Type 0
Reaches clauses watched trail len = AreKept clauses watched (take len trail) trail

-- a clause of one literal, or of none
abbrev pub IsShort : List (List Literal) → ℕ → Type 0
IsShort clauses place = (place < length clauses) × (length (clause_of clauses place) ≤ 1)

-- the first literals of the trail make each short clause true, and each other one true or none of its watched literals false
pub record IsMark (clauses : List (List Literal)) (watched trail : List Literal) (len : ℕ) : Type 0 where
  pub within : len ≤ length trail
  pub short : (place : ℕ) → IsShort clauses place → IsSatisfied (take len trail) (clause_of clauses place)
  pub kept : (cell : ℕ) → IsCell clauses cell → IsKept (take len trail) (take len trail) (clause_in clauses cell) (watched_in watched cell)

-- the trail makes each short clause true, and its first literals each other one true or none of its watched literals false
pub record IsHead (clauses : List (List Literal)) (watched trail : List Literal) (len : ℕ) : Type 0 where
  pub within : len ≤ length trail
  pub short : (place : ℕ) → IsShort clauses place → IsSatisfied trail (clause_of clauses place)
  pub reached : Reaches clauses watched trail len

-- what was a mark still is
abbrev pub KeepsMarks : List (List Literal) → List Literal → List Literal → List Literal → List Literal → Type 0
KeepsMarks clauses old_watched old_trail new_watched new_trail = (len : ℕ) → IsMark clauses old_watched old_trail len → IsMark clauses new_watched new_trail len

-- Two different literals of the clause, and so many literals of the trail that the first of them make neither false.
pub record IsPair (trail c : List Literal) (p : Pair) : Type 0 where
  pub first : Contains c p.first
  pub second : Contains c p.second
  pub differ : p.first ≢ p.second
  pub first_open : IsNotFalse (take p.until trail) p.first
  pub second_open : IsNotFalse (take p.until trail) p.second

-- where a clause of two literals or more is added, what was reached of the others by this many literals or fewer is
-- reached of all
abbrev pub KeepsReach : List (List Literal) → List Literal → List Literal → List Literal → List Literal → ℕ → Type 0
KeepsReach clauses c old_watched watched trail until =
    (len : ℕ) (whole : List Literal) → len ≤ until → AreKept clauses old_watched (take len trail) whole → AreKept (clauses ++ c ∷ []) watched (take len trail) whole

-- all literals of the clause but this one are false
abbrev pub IsFalseElse : List Literal → List Literal → Literal → Type 0
IsFalseElse trail c other = (l : Literal) → Contains c l → l ≢ other → Contains trail (negation l)

-- what becomes of a false watched literal, where this is the other one
abbrev pub Finds : List Literal → List Literal → Literal → Finding → Type 0
Finds trail c other Satisfied = Contains trail other
Finds trail c other (Moves l) = Contains c l × (l ≢ other) × IsNotFalse trail l
Finds trail c other UnitOf = IsOpen trail other × IsFalseElse trail c other
Finds trail c other Falsified = Contains trail (negation other) × IsFalseElse trail c other

-- The clause of a cell whose literal is false was looked at: it is false, or it is true now, or another literal of it is
-- watched that isn't false.
pub record Visits (clauses : List (List Literal)) (cell : ℕ) (old : TrailState) (old_watched : List Literal) (new : TrailState) (watched : List Literal) (result : Bool) : Type 0 where
  pub goes_on : GoesOn clauses old new
  pub two : AreWatched clauses watched
  pub others : (k : ℕ) → k ≢ cell → watched_in watched k ≡ watched_in old_watched k
  pub alive : (watched_in watched cell ≡ watched_in old_watched cell) ⊎ IsNotFalse old.lits (watched_in watched cell)
  pub kept : result ≡ true → IsKept new.lits new.lits (clause_in clauses cell) (watched_in watched cell)
  pub conflict : result ≡ false → IsFalsified new.lits (clause_in clauses cell)

-- Propagation went on: what it made true is forced, the lists are in order, and what was a mark still is.
pub record Walks (clauses : List (List Literal)) (old : TrailState) (old_watched : List Literal) (old_lists : ListsState) (new : TrailState) (watched : List Literal) (lists : ListsState) : Type 0 where
  pub goes_on : GoesOn clauses old new
  pub watching : IsWatching clauses old.size watched lists
  pub large : IsAsLarge old_lists lists
  pub marks : KeepsMarks clauses old_watched old.lits watched new.lits

-- these are the places of all short clauses
abbrev pub AreShort : List (List Literal) → List ℕ → Type 0
AreShort clauses short = All (IsShort clauses) short × ((place : ℕ) → IsShort clauses place → Contains short place)
