-- The decisions of a search.
use Rattle.std.specs.Prelude.{◌≡◌, ℕ, ◌<◌, ◌≤◌, ◌⊎◌, ◌++◌, List, [], length, map, take, slice_index_or, true}
use Rattle.std.specs.List.{All, Contains}
use Rattle.ax_proof.specs.Literal.{Literal, negation}
use Rattle.ax_proof.specs.Propagation.{HasRup}
use Rattle.ax_proof.specs.Trail.{IsSettled}
use Rattle.ax_watch.specs.Watch.{WatchState}
use Rattle.ax_sat.specs.Answer.{units}
use Rattle.ax_sat.specs.declared.levels.Levels.{Levels}
use Rattle.ax_sat.specs.declared.levels.Asked.{Asked}
use Rattle.ax_sat.specs.declared.levels.Asked.TheVariants.{Stand, Decided, Denied}

-- all of these literals are true
abbrev pub AreTrue : List Literal → List Literal → Type 0
AreTrue trail lits = (l : Literal) → Contains lits l → Contains trail l

-- Decisions by their places on the trail, in order. What they and the literals before them force was made true before the
-- next one, and each literal that no clause forced is a decision.
pub record Stands (clauses : List (List Literal)) (trail : List Literal) (reasons starts : List ℕ) : Type 0 where
  pub within : (i : ℕ) → i < length starts → slice_index_or starts i 0 < length trail
  pub rising : (i j : ℕ) → i < j → j < length starts → slice_index_or starts i 0 < slice_index_or starts j 0
  pub settled : (i : ℕ) → i < length starts → All (IsSettled (take (slice_index_or starts i 0) trail)) clauses
  pub decided : (at : ℕ) → at < length trail → slice_index_or reasons at 0 ≡ 0 → Contains starts at

-- The first `roots` decisions are assumptions, and the others were taken when all assumptions were true. The first `asked`
-- assumptions are true.
pub record Asks (assumed trail : List Literal) (starts : List ℕ) (roots asked : ℕ) : Type 0 where
  pub low : roots ≤ length starts
  pub assumptions : (i : ℕ) (d : Literal) → i < roots → Contains assumed (slice_index_or trail (slice_index_or starts i 0) d)
  pub later : (i : ℕ) → roots ≤ i → i < length starts → AreTrue (take (slice_index_or starts i 0) trail) assumed
  pub told : AreTrue trail (take asked assumed)

abbrev pub StandsIn : WatchState → Levels → Type 0
StandsIn w levels = Stands w.clauses w.trail w.reasons levels.starts.items

abbrev pub AsksIn : WatchState → List Literal → Levels → Type 0
AsksIn w assumed levels = Asks assumed w.trail levels.starts.items levels.roots levels.asked

-- all assumptions are true, or one more is, or one is false with what the others force
abbrev pub AskSays : List Literal → WatchState → WatchState → Levels → Asked → Type 0
AskSays assumed old new levels Stand = (new ≡ old) × StandsIn new levels × AsksIn new assumed levels × AreTrue new.trail assumed
AskSays assumed old new levels Decided = StandsIn new levels × AsksIn new assumed levels × (length old.trail < length new.trail)
AskSays assumed old new levels Denied = HasRup (old.clauses ++ units assumed) []

-- the first decisions are left, and if not all assumptions are among them, none is known to be true
pub record GoesBack (kept : ℕ) (old new : Levels) : Type 0 where
  pub starts : new.starts.items ≡ take kept old.starts.items
  pub roots : ((kept < old.roots) × (new.roots ≡ kept) × (new.asked ≡ 0)) ⊎ ((old.roots ≤ kept) × (new.roots ≡ old.roots) × (new.asked ≡ old.asked))

-- the literal at this place of the trail, before `start`, is the negation of one of the line's
abbrev pub IsDenied : List Literal → List Literal → ℕ → ℕ → Type 0
IsDenied trail line start place = (place < start) × (place < length trail) × ((d : Literal) → Contains line (negation (slice_index_or trail place d)))

-- the negations of the literals at these places
abbrev pub denials : List Literal → List ℕ → List Literal
denials trail starts = map (λ s. negation (slice_index_or trail s (record { var = 0; positive = true }))) starts
