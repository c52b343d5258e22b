-- Laws of propagation from a mark to its end.
use Rattle.std.proofs.Common.{◌≡◌, ◌≢◌, ℕ, ◌+◌, ◌*◌, ◌/◌, ◌<◌, ◌≤◌, List, [], ◌∷◌, length, get_or, take, arith, ◌⊎◌, inl, inr, refl, sym, subst, ap, ◌∙◌, true, Option, Some, None, IfSome, IfNone}
use Rattle.std.specs.List.{All, Contains}
use Rattle.std.proofs.lemmas.Bool.{cases_lt}
use Rattle.std.proofs.lemmas.List.{take_all}
use Rattle.std.proofs.lemmas.List.Elements.{All-more, All-weaker, All-contains, All-from_get_or, Contains-push, Contains-append_left}
use Rattle.ax_proof.specs.Literal.{Literal, negation}
use Rattle.ax_proof.specs.Trail.{TrailState, IsOpen, IsSatisfied, IsSettled, HasTwoOpen}
use Rattle.ax_proof.specs.Runs.{GoesOn, StepSays}
use Rattle.ax_proof.proofs.Literals.{same_or_other}
use Rattle.ax_proof.proofs.Lists.{Contains-take, Contains-none, Contains-here, Contains-there, Contains-cons_cases}
use Rattle.ax_proof.proofs.Runs.{begins_contains, begins_length, begins_take}
use Rattle.ax_watch.specs.Lists.{ListsState}
use Rattle.ax_watch.specs.Watch.{clause_of, WatchSays}
use Rattle.ax_watch.specs.Watched.{clause_in, twin, IsCell, IsShort, watched_in, IsKept, AreWatched, IsWatching, Reaches, IsMark, Walks}
use Rattle.ax_watch.proofs.Watching.{twin_cell, same_clause}

-- short clauses

pub few_not_open : (trail c : List Literal) → length c ≤ 1 → HasTwoOpen trail c → ⊥
few_not_open trail c few (a, b, ne, (i, il, ie), (j, jl, je), ao, bo) =
    let i0 : i ≡ 0 = omega arith in
    let j0 : j ≡ 0 = omega arith in
    let P : ℕ → Type 0 = λ k. get_or c k a ≡ a in
    let Q : ℕ → Type 0 = λ k. get_or c k b ≡ b in
    same_first c il (subst P i0 ie) (subst Q j0 je) ne
  where
    same_first : (xs : List Literal) → i < length xs → get_or xs 0 a ≡ a → get_or xs 0 b ≡ b → a ≢ b → ⊥
    same_first [] lt e f n = absurd (omega arith)
    same_first (x ∷ xs) lt e f n = n (sym e ∙ f)

pub settled_short : (trail c : List Literal) → length c ≤ 1 → IsSettled trail c → IsSatisfied trail c
settled_short trail c few (inl s) = s
settled_short trail c few (inr two) = absurd (few_not_open trail c few two)

pub satisfied_along : (cs : List (List Literal)) (old new : TrailState) (c : List Literal) → GoesOn cs old new → IsSatisfied old.lits c → IsSatisfied new.lits c
satisfied_along cs old new c goes (l, lin, h) = (l, lin, begins_contains old.lits new.lits goes.lits l h)

-- what one short clause did
pub short_step : (cs : List (List Literal)) (c : List Literal) (n : ℕ) (old new : TrailState) → length c ≤ 1 → StepSays c n old new true → IsSatisfied new.lits c
short_step cs c n old new few (inl (same, s)) = let P : TrailState → Type 0 = λ t. IsSatisfied t.lits c in subst P (sym same) (settled_short old.lits c few s)
short_step cs c n old new few (inr (l, by, same)) = let P : TrailState → Type 0 = λ t. IsSatisfied t.lits c in subst P (sym same) (l, by.0, Contains-push old.lits l)

-- whether a literal stands in a list
contains_or_not : (xs : List Literal) (l : Literal) → Contains xs l ⊎ (Contains xs l → ⊥)
contains_or_not [] l = inr (Contains-none l)
contains_or_not (x ∷ xs) l =
    elim (same_or_other l x) [
      | inl e ↦ let P : Literal → Type 0 = λ y. Contains (x ∷ xs) y in inl (subst P (sym e) (Contains-here x xs))
      | inr ne ↦ elim (contains_or_not xs l) [
        | inl h ↦ inl (Contains-there x xs l h)
        | inr no_there ↦ inr (λ h. elim (Contains-cons_cases x xs l h) [ inl e ↦ ne e | inr q ↦ no_there q ])
      ]
    ]

kept_open : (trail c : List Literal) (l : Literal) → Contains c l → IsKept trail trail c l → IsSatisfied trail c ⊎ IsOpen trail l
kept_open trail c l lin (inl s) = inl s
kept_open trail c l lin (inr alive) = elim (contains_or_not trail l) [ inl h ↦ inl (l, lin, h) | inr not_true ↦ inr (not_true, alive) ]

-- two watched literals, neither false: the clause is settled
both_settled : (trail c : List Literal) (a b : Literal) → Contains c a → Contains c b → a ≢ b → IsKept trail trail c a → IsKept trail trail c b → IsSettled trail c
both_settled trail c a b ain bin ne ka kb =
    elim (kept_open trail c a ain ka) [
      | inl s ↦ inl s
      | inr ao ↦ elim (kept_open trail c b bin kb) [ inl s ↦ inl s | inr bo ↦ inr (a, b, ne, ain, bin, ao, bo) ]
    ]

at_end : (cs : List (List Literal)) (w trail : List Literal) → Reaches cs w trail (length trail) → (cell : ℕ) → IsCell cs cell → IsKept trail trail (clause_in cs cell) (watched_in w cell)
at_end cs w trail reached cell is_cell =
    let P : List Literal → Type 0 = λ x. IsKept x trail (clause_in cs cell) (watched_in w cell) in
    subst P (take_all (length trail) trail (omega arith)) (reached cell is_cell)

module _ (cs : List (List Literal)) (w trail : List Literal) (two : AreWatched cs w) (reached : Reaches cs w trail (length trail)) (shorts : (place : ℕ) → IsShort cs place → IsSatisfied trail (clause_of cs place)) where
  cell_settled : (cell : ℕ) → IsCell cs cell → IsSettled trail (clause_in cs cell)
  cell_settled cell is_cell =
      let other = twin_cell cs cell is_cell in
      let P : List Literal → Type 0 = λ c. IsKept trail trail c (watched_in w (twin cell)) in
      let Q : List Literal → Type 0 = λ c. Contains c (watched_in w (twin cell)) in
      both_settled trail (clause_in cs cell) (watched_in w cell) (watched_in w (twin cell)) (two.there cell is_cell) (subst Q (same_clause cs cell) (two.there (twin cell) other)) (two.differ cell is_cell)
      (at_end cs w trail reached cell is_cell) (subst P (same_clause cs cell) (at_end cs w trail reached (twin cell) other))

  place_settled : (place : ℕ) → place < length cs → IsSettled trail (clause_of cs place)
  place_settled place lt =
      elim (cases_lt 1 (length (clause_of cs place))) [
        | inl long ↦
            let half : 2 * place / 2 ≡ place = omega arith in
            let at : ℕ → List Literal = λ n. clause_of cs n in
            let same : clause_in cs (2 * place) ≡ clause_of cs place = ap at half in
            let P : List Literal → Type 0 = λ c. IsSettled trail c in
            let Q : List Literal → Type 0 = λ c. 1 < length c in
            subst P same (cell_settled (2 * place) (omega arith, subst Q (sym same) long))
        | inr few ↦ inl (shorts place (lt, few))
      ]

  pub all_settled_now : All (IsSettled trail) cs
  all_settled_now = All-from_get_or (IsSettled trail) cs [] place_settled

  pub mark_now : IsMark cs w trail (length trail)
  mark_now =
      let whole : take (length trail) trail ≡ trail = take_all (length trail) trail (omega arith) in
      record {
        within = omega arith;
        short = λ place few. let P : List Literal → Type 0 = λ x. IsSatisfied x (clause_of cs place) in subst P (sym whole) (shorts place few);
        kept = λ cell is_cell. let P : List Literal → Type 0 = λ x. IsKept x x (clause_in cs cell) (watched_in w cell) in subst P (sym whole) (at_end cs w trail reached cell is_cell);
      }

-- where propagation begins

pub reaches_mark : (cs : List (List Literal)) (w trail : List Literal) (len : ℕ) → IsMark cs w trail len → Reaches cs w trail len
reaches_mark cs w trail len mark cell is_cell =
    elim (mark.kept cell is_cell) [ inl s ↦ inl (s.0, s.1, Contains-take trail len s.0 s.2) | inr f ↦ inr f ]

pub shorts_mark : (cs : List (List Literal)) (w trail : List Literal) (len : ℕ) → IsMark cs w trail len → (place : ℕ) → IsShort cs place → IsSatisfied trail (clause_of cs place)
shorts_mark cs w trail len mark place few = let s = mark.short place few in (s.0, s.1, Contains-take trail len s.0 s.2)

pub reaches_none : (cs : List (List Literal)) (w trail : List Literal) → Reaches cs w trail 0
reaches_none cs w trail cell is_cell = inr (Contains-none (negation (watched_in w cell)))

-- where it ends
module _ (cs : List (List Literal)) (old : TrailState) (old_w : List Literal) (old_lists : ListsState) (new : TrailState) (w : List Literal) (lists : ListsState) (walks : Walks cs old old_w old_lists new w lists) (shorts : (place : ℕ) → IsShort cs place → IsSatisfied old.lits (clause_of cs place)) where
  shorts_then : (place : ℕ) → IsShort cs place → IsSatisfied new.lits (clause_of cs place)
  shorts_then place few = satisfied_along cs old new (clause_of cs place) walks.goes_on (shorts place few)

  pub ends_says : (found : Option ℕ) → IfNone found (Reaches cs w new.lits (length new.lits)) → IfSome found (λ place. WatchSays cs new.lits (Some place)) → WatchSays cs new.lits found
  ends_says None reached said = all_settled_now cs w new.lits walks.watching.two reached shorts_then
  ends_says (Some place) reached said = said

  pub ends_mark : (found : Option ℕ) → IfNone found (Reaches cs w new.lits (length new.lits)) → IfNone found (IsMark cs w new.lits (length new.lits))
  ends_mark None reached = mark_now cs w new.lits walks.watching.two reached shorts_then
  ends_mark (Some place) reached = tt

-- the short clauses settled first
pub shorts_all : (cs : List (List Literal)) (trail : List Literal) (short : List ℕ) → ((place : ℕ) → IsShort cs place → Contains short place) → All (λ place. IsSatisfied trail (clause_of cs place)) short → (place : ℕ) → IsShort cs place → IsSatisfied trail (clause_of cs place)
shorts_all cs trail short all settled place few = All-contains (λ n. IsSatisfied trail (clause_of cs n)) short place settled (all place few)

satisfied_step : (c : List Literal) (n : ℕ) (old new : TrailState) → StepSays c n old new true → (d : List Literal) → IsSatisfied old.lits d → IsSatisfied new.lits d
satisfied_step c n old new (inl (same, s)) d h = let P : TrailState → Type 0 = λ t. IsSatisfied t.lits d in subst P (sym same) h
satisfied_step c n old new (inr (l, by, same)) d h =
    let P : TrailState → Type 0 = λ t. IsSatisfied t.lits d in
    subst P (sym same) (h.0, h.1, Contains-append_left old.lits (l ∷ []) h.0 h.2)

pub shorts_more : (cs : List (List Literal)) (short : List ℕ) (i n : ℕ) (c : List Literal) (old new : TrailState) → i < length short → IsShort cs (get_or short i 0) → c ≡ clause_of cs (get_or short i 0) → StepSays c n old new true → All (λ place. IsSatisfied old.lits (clause_of cs place)) (take i short) → All (λ place. IsSatisfied new.lits (clause_of cs place)) (take (i + 1) short)
shorts_more cs short i n c old new within few here step before =
    let P : List Literal → Type 0 = λ x. IsSatisfied new.lits x in
    let Q : List Literal → Type 0 = λ x. length x ≤ 1 in
    All-more (λ place. IsSatisfied new.lits (clause_of cs place)) short i 0 within
    (All-weaker (λ place. IsSatisfied old.lits (clause_of cs place)) (λ place. IsSatisfied new.lits (clause_of cs place)) (λ place h. satisfied_step c n old new step (clause_of cs place) h) (take i short) before)
    (subst P here (short_step cs c n old new (subst Q (sym here) few.1) step))

pub shorts_end : (cs : List (List Literal)) (trail : List Literal) (short : List ℕ) (i : ℕ) → length short ≤ i → All (λ place. IsSatisfied trail (clause_of cs place)) (take i short) → All (λ place. IsSatisfied trail (clause_of cs place)) short
shorts_end cs trail short i past h = rw take_all at h

-- propagation that begins with the short clauses

pub settled_walks : (cs : List (List Literal)) (old now : TrailState) (w : List Literal) (lists : ListsState) → GoesOn cs old now → IsWatching cs old.size w lists → Walks cs old w lists now w lists
settled_walks cs old now w lists goes watching = record {
  goes_on = goes;
  watching = watching;
  large = record { lists = refl; cells = refl; room = refl };
  marks = λ len mark.
      let before = mark.within in
      let longer = begins_length old.lits now.lits goes.lits in
      let front : take len now.lits ≡ take len old.lits = begins_take old.lits now.lits goes.lits len mark.within in
      record {
        within = omega arith;
        short = λ place few. let P : List Literal → Type 0 = λ x. IsSatisfied x (clause_of cs place) in subst P (sym front) (mark.short place few);
        kept = λ cell is_cell. let P : List Literal → Type 0 = λ x. IsKept x x (clause_in cs cell) (watched_in w cell) in subst P (sym front) (mark.kept cell is_cell);
      };
}
