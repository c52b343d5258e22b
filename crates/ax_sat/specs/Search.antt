-- What holds while a search goes on.
use Rattle.std.specs.Prelude.{◌≡◌, ◌≢◌, ℕ, ◌+◌, ◌-◌, ◌<◌, ◌≤◌, ◌++◌, ◌⊎◌, ◌↔◌, Bool, true, false, List, [], ◌∷◌, length, map, take, slice_index_or}
use Rattle.std.specs.List.{All, Contains}
use Rattle.ax_proof.specs.Literal.{Literal, literal, negation, IsOver}
use Rattle.ax_proof.specs.Clause.{IsClause}
use Rattle.ax_proof.specs.Propagation.{Propagates, HasRup}
use Rattle.ax_proof.specs.Lines.{IsLawful, IsNew}
use Rattle.ax_proof.specs.Trail.{IsSettled, IsFalsified}
use Rattle.ax_watch.specs.Watch.{WatchState, clause_of}
use Rattle.ax_sat.specs.Answer.{units, IsModel, AreLawfulFrom, AreNewFrom}
use Rattle.ax_sat.specs.Analysis.{Explains}
use Rattle.ax_sat.specs.Levels.{AreTrue, StandsIn, AsksIn, GoesBack}
use Rattle.ax_sat.specs.declared.levels.Levels.{Levels}
use Rattle.ax_sat.specs.declared.descent.Choice.{Choice}
use Rattle.ax_sat.specs.declared.descent.Choice.TheVariants.{Decided, Full, Denied}
use Rattle.ax_sat.specs.declared.descent.Descent.{Descent}
use Rattle.ax_sat.specs.declared.descent.Descent.TheVariants.{Complete, Conflict, Refuted}

-- the new trail has the old one's literals, and what they force
pub record Extends (clauses : List (List Literal)) (old new : List Literal) : Type 0 where
  pub kept : (l : Literal) → Contains old l → Contains new l
  pub forced : (l : Literal) → Contains new l → Propagates clauses old l

-- The trail is complete and has the assumptions. The literals that were decided or assumed force it; `denied` has their
-- negations.
pub record Descends (clauses : List (List Literal)) (assumed trail denied : List Literal) : Type 0 where
  pub settled : All (IsSettled trail) clauses
  pub assumptions : (l : Literal) → Contains assumed l → Contains trail l
  pub denials : (l : Literal) → Contains denied l → Contains trail (negation l)
  pub forced : (l : Literal) → Contains trail l → Propagates clauses (map negation denied) l

-- the variable has a value
abbrev pub IsAssigned : List Literal → ℕ → Type 0
IsAssigned trail x = Contains trail (literal x true) ⊎ Contains trail (literal x false)

-- all variables up to a number have values
abbrev pub AreAssigned : List Literal → ℕ → Type 0
AreAssigned trail vars = (k : ℕ) → k < vars → IsAssigned trail (k + 1)

-- one truth value for each variable: whether the trail makes it true
pub record AreBitsOf (trail : List Literal) (vars : ℕ) (bits : List Bool) : Type 0 where
  pub covers : length bits ≡ vars
  pub values : (k : ℕ) → k < vars → (slice_index_or bits k false ≡ true) ↔ Contains trail (literal (k + 1) true)

-- a line that has reverse unit propagation from the clauses alone, and is new with the assumptions too
pub record IsLesson (clauses : List (List Literal)) (assumed : List Literal) (vars : ℕ) (line : List Literal) : Type 0 where
  pub lawful : HasRup clauses line
  pub fresh : IsNew (clauses ++ units assumed) line
  pub over : IsOver vars line
  pub rising : IsClause line

-- whether the assumptions stand in a complete trail, or some clause is false with them
abbrev pub BeginSays : List (List Literal) → List Literal → ℕ → List Literal → List Literal → Bool → Type 0
BeginSays clauses assumed vars trail denied false = HasRup (clauses ++ units assumed) []
BeginSays clauses assumed vars trail denied true =
    Descends clauses assumed trail denied × IsOver vars denied × (HasRup (clauses ++ units assumed) [] → ⊥)

-- the truth values of a trail
abbrev pub IsComplete : List Literal → ℕ → Descent → Type 0
IsComplete trail vars (Complete assignment) = AreBitsOf trail vars assignment.bits.items
IsComplete trail vars (Conflict place) = ⊥
IsComplete trail vars Refuted = ⊥

-- a refutation where all decisions are assumptions, else the false clause at this place
abbrev pub IsEnd : List ℕ → ℕ → ℕ → Descent → Type 0
IsEnd starts roots place (Complete assignment) = ⊥
IsEnd starts roots place (Conflict at) = (at ≡ place) × (roots < length starts)
IsEnd starts roots place Refuted = length starts ≤ roots

-- one literal more is decided, or all variables have values, or an assumption is false
abbrev pub StepSays : List Literal → WatchState → WatchState → Levels → Choice → Type 0
StepSays assumed old new levels Decided = StandsIn new levels × AsksIn new assumed levels × (length old.trail < length new.trail)
StepSays assumed old new levels Full = (new ≡ old) × AreTrue new.trail assumed × AreAssigned new.trail new.vars
StepSays assumed old new levels Denied = HasRup (old.clauses ++ units assumed) []

-- a model, or a false clause below a decision that is no assumption, or a refutation
abbrev pub DescentSays : List Literal → WatchState → Levels → Descent → Type 0
DescentSays assumed w levels (Complete assignment) = IsModel (w.clauses ++ units assumed) w.vars assignment.bits.items
DescentSays assumed w levels (Conflict place) =
    StandsIn w levels
    × AsksIn w assumed levels
    × (levels.roots < length levels.starts.items)
    × (place < length w.clauses)
    × IsFalsified w.trail (clause_of w.clauses place)
DescentSays assumed w levels Refuted = HasRup (w.clauses ++ units assumed) []

-- a line that explains a false clause was put behind the clauses and the log's lines, and decisions were taken back
pub record Learns (old new : WatchState) (levels levels_left : Levels) (lines lines_now : List (List Literal)) : Type 0 where
  pub line : List Literal
  pub explains : Explains old.clauses old.trail (slice_index_or levels.starts.items (length levels.starts.items - 1) 0) line
  pub clauses : new.clauses ≡ old.clauses ++ line ∷ []
  pub vars : new.vars ≡ old.vars
  pub left : ℕ
  pub low : left < length levels.starts.items
  pub trail : new.trail ≡ take (slice_index_or levels.starts.items left 0) old.trail
  pub stands : StandsIn new levels_left
  pub goes_back : GoesBack left levels levels_left
  pub logged : lines_now ≡ lines ++ line ∷ []

-- how far the log has come after some lines
pub record Logs (clauses : List (List Literal)) (assumed : List Literal) (vars : ℕ) (old new : List (List Literal)) (count : ℕ) : Type 0 where
  pub added : List (List Literal)
  pub same : new ≡ old ++ added
  pub counted : length added ≡ count
  pub over : All (IsOver vars) new
  pub rising : All IsClause added
  pub full : All (λ line. line ≢ []) new
  pub lawful : IsLawful (clauses ++ units assumed) new
  pub alone : AreLawfulFrom clauses (length old) new
  pub fresh : AreNewFrom (clauses ++ units assumed) (length old) new
