-- Laws of the mark up to which propagation came.
use Rattle.std.proofs.Common.{◌≡◌, ℕ, ◌+◌, ◌-◌, ◌*◌, ◌<◌, ◌≤◌, List, [], ◌∷◌, ◌++◌, length, take, arith, inl, inr, refl, sym, subst, ◌∙◌, Option, Some, None, drop, IfSome, IsSome, ◌↔◌, length-append, length-take}
use Rattle.std.specs.List.{Contains}
use Rattle.std.proofs.lemmas.List.{take-append-le, take-take, take_at}
use Rattle.ax_proof.specs.Literal.{Literal, code_of, IsOver}
use Rattle.ax_proof.specs.Propagation.{Conflicts}
use Rattle.ax_proof.specs.Trail.{TrailState, IsSatisfied, IsConsistent}
use Rattle.ax_proof.specs.Runs.{GoesOn}
use Rattle.ax_proof.proofs.Runs.{false_conflicts, quiet_no_conflict}
use Rattle.ax_watch.specs.Lists.{ListsState, list_count, list_in, cell_count}
use Rattle.ax_watch.specs.Watch.{clause_of, WatchSays}
use Rattle.ax_watch.specs.Watched.{clause_in, watched_in, IsKept, IsMark, IsWatching}
use Rattle.ax_watch.proofs.Trails.{number_says}
use Rattle.ax_watch.proofs.Watching.{code_fits}

-- a mark of another trail with the same front
mark_front : (cs : List (List Literal)) (w trail trail2 : List Literal) (len : ℕ) → len ≤ length trail2 → take len trail2 ≡ take len trail → IsMark cs w trail len → IsMark cs w trail2 len
mark_front cs w trail trail2 len within front mark = record {
  within = within;
  short = λ place few. let P : List Literal → Type 0 = λ x. IsSatisfied x (clause_of cs place) in subst P (sym front) (mark.short place few);
  kept = λ cell is_cell. let P : List Literal → Type 0 = λ x. IsKept x x (clause_in cs cell) (watched_in w cell) in subst P (sym front) (mark.kept cell is_cell);
}

pub mark_push : (cs : List (List Literal)) (w trail : List Literal) (lit : Literal) (mark : Option ℕ) → IfSome mark (λ len. IsMark cs w trail len) → IfSome mark (λ len. IsMark cs w (trail ++ lit ∷ []) len)
mark_push cs w trail lit None h = h
mark_push cs w trail lit (Some len) h =
    let n = length-append trail (lit ∷ []) in
    let b = h.within in
    mark_front cs w trail (trail ++ lit ∷ []) len (omega arith) (take-append-le len trail (lit ∷ []) h.within) h

pub mark_cut : (cs : List (List Literal)) (w trail : List Literal) (n : ℕ) (mark cut : Option ℕ) → n ≤ length trail → IfSome cut (λ m. (m ≤ n) × (mark ≡ Some m)) → IfSome mark (λ len. IsMark cs w trail len) → IfSome cut (λ len. IsMark cs w (take n trail) len)
mark_cut cs w trail n mark None within says h = tt
mark_cut cs w trail n mark (Some m) within (low, same) h =
    let P : Option ℕ → Type 0 = λ x. IfSome x (λ len. IsMark cs w trail len) in
    let was : IsMark cs w trail m = subst P same h in
    let l = length-take n trail in
    mark_front cs w trail (take n trail) m (omega arith) (take-take m n trail low) was

-- which size the lists are enough for
pub watching_size : (cs : List (List Literal)) (size size2 : ℕ) (w : List Literal) (lists : ListsState) → 2 * size2 ≤ list_count lists → IsWatching cs size w lists → IsWatching cs size2 w lists
watching_size cs size size2 w lists enough h = record {
  two = h.two;
  listed = record { enough = enough; cells = h.listed.cells; listed = h.listed.listed; only = h.listed.only };
  none = h.none;
}

-- whether a false clause is met
pub exact_found : (cs : List (List Literal)) (old new : TrailState) (found : Option ℕ) → GoesOn cs old new → IsConsistent new.lits → WatchSays cs new.lits found → IsSome found ↔ Conflicts cs old.lits
exact_found cs old new None goes ok settled = ((λ e. cc), λ h. absurd (quiet_no_conflict cs old new goes ok settled h))
exact_found cs old new (Some place) goes ok says = ((λ _. false_conflicts cs old new goes (place + 1) (number_says cs new.lits place says)), λ _. refl)

-- codes of a clause's literals
pub codes_fit : (size count : ℕ) (c : List Literal) → 1 ≤ size → 2 * size ≤ count → IsOver (size - 1) c → (l : Literal) → Contains c l → code_of l < count
codes_fit size count c low enough over l lin = let (a, b) = over l lin in code_fits l size count (omega arith) enough

-- lists with more room, or more of them
pub watching_lists : (cs : List (List Literal)) (size size2 : ℕ) (w : List Literal) (lists lists2 : ListsState) → ((l : ℕ) → list_in lists2 l ≡ list_in lists l) → cell_count lists2 ≡ cell_count lists → 2 * size2 ≤ list_count lists2 → IsWatching cs size w lists → IsWatching cs size2 w lists2
watching_lists cs size size2 w lists lists2 same cells enough h =
    let to : (l k : ℕ) → Contains (list_in lists l) k → Contains (list_in lists2 l) k = λ l k. let P : List ℕ → Type 0 = λ x. Contains x k in subst P (sym (same l)) in
    let back : (l k : ℕ) → Contains (list_in lists2 l) k → Contains (list_in lists l) k = λ l k. let P : List ℕ → Type 0 = λ x. Contains x k in subst P (same l) in
    record {
      two = h.two;
      listed = record {
        enough = enough;
        cells = cells ∙ h.listed.cells;
        listed = λ k is_cell. elim (h.listed.listed k is_cell) [ inl q ↦ inl (to 0 k q.0, q.1) | inr q ↦ inr (to _ k q) ];
        only = λ l k q. h.listed.only l k (back l k q);
      };
      none = same 0 ∙ h.none;
    }

-- a slice's new elements are the vector's
pub back_whole : (n : ℕ) (new old : List Literal) → length new ≡ n → take n (new ++ drop (length new) old) ≡ new
back_whole n new old e = take_at new (drop (length new) old) n e
