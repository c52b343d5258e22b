-- Laws of walks over the cells of a literal that became false.
use Rattle.std.proofs.Common.{◌≡◌, ◌≢◌, ℕ, ◌+◌, ◌*◌, ◌<◌, ◌≤◌, List, [], ◌∷◌, length, get_or, take, arith, ◌⊎◌, inl, inr, refl, sym, subst, ap, ◌∙◌, Bool, true}
use Rattle.std.specs.List.{Contains}
use Rattle.std.proofs.lemmas.Bool.{cases_eq}
use Rattle.std.proofs.lemmas.List.Elements.{Contains-push_cases, Contains-get_or}
use Rattle.ax_proof.specs.Literal.{Literal, literal, negation, code_of, IsBelow}
use Rattle.ax_proof.specs.Trail.{TrailState, IsSatisfied}
use Rattle.ax_proof.specs.Runs.{GoesOn}
use Rattle.ax_proof.proofs.Literals.{same_or_other, negation_twice}
use Rattle.ax_proof.proofs.Lists.{took, Contains-take, Contains-none, Contains-here, Contains-there, Contains-cons_cases}
use Rattle.ax_proof.proofs.Runs.{goes_on_itself, goes_on_along, begins_length, begins_take, begins_contains}
use Rattle.ax_watch.specs.Lists.{ListsState, list_in, IsAsLarge, Puts, Takes, Moves, Pours}
use Rattle.ax_watch.specs.Watch.{clause_of}
use Rattle.ax_watch.specs.Watched.{clause_in, IsCell, watched_in, IsNotFalse, IsKept, AreWatched, AreListed, IsWatching, Reaches, IsMark, KeepsMarks, Visits, Walks}
use Rattle.ax_watch.proofs.Watching.{code_once, code_from_two, code_fits}

-- what stays whatever a visit finds
pub record Based (cs : List (List Literal)) (size : ℕ) (start : TrailState) (start_w : List Literal) (now : TrailState) (w : List Literal) (first lists : ListsState) (due : Literal) : Type 0 where
  pub goes_on : GoesOn cs start now
  pub two : AreWatched cs w
  pub listed : AreListed cs size w lists due
  pub large : IsAsLarge first lists
  pub marks : KeepsMarks cs start_w start.lits w now.lits

-- the cells that are not to be visited any more are kept one literal further
abbrev IsDone : List (List Literal) → List Literal → List Literal → ListsState → ℕ → Type 0
IsDone cs w trail lists head = (cell : ℕ) → IsCell cs cell → (Contains (list_in lists 0) cell → ⊥) → IsKept (take (head + 1) trail) trail (clause_in cs cell) (watched_in w cell)

pub record Walking (cs : List (List Literal)) (size : ℕ) (start : TrailState) (start_w : List Literal) (now : TrailState) (w : List Literal) (first lists : ListsState) (due : Literal) (head : ℕ) : Type 0 where
  pub base : Based cs size start start_w now w first lists due
  pub reached : Reaches cs w now.lits head
  pub done : (cell : ℕ) → IsCell cs cell → (Contains (list_in lists 0) cell → ⊥) → IsKept (take (head + 1) now.lits) now.lits (clause_in cs cell) (watched_in w cell)

pub large_along : (a b c : ListsState) → IsAsLarge a b → IsAsLarge b c → IsAsLarge a c
large_along a b c f g = record { lists = g.lists ∙ f.lists; cells = g.cells ∙ f.cells; room = g.room ∙ f.room }

-- no watched literal has the code 0
code_not_none : (cs : List (List Literal)) (w : List Literal) (cell : ℕ) → AreWatched cs w → IsCell cs cell → code_of (watched_in w cell) ≢ 0
code_not_none cs w cell two is_cell e = let b = code_from_two (watched_in w cell) (two.low cell is_cell) in absurd (omega arith)

-- lists after a cell was put back

module _ (l cell : ℕ) (old new : ListsState) (puts : Puts l cell old new) where
  pub put_keeps : (m k : ℕ) → Contains (list_in old m) k → Contains (list_in new m) k
  put_keeps m k h =
      let P : List ℕ → Type 0 = λ x. Contains x k in
      elim (cases_eq m l) [
        | inl e ↦
            let Q : ℕ → Type 0 = λ n. Contains (list_in old n) k in
            let R : ℕ → Type 0 = λ n. Contains (list_in new n) k in
            subst R (sym e) (subst P (sym puts.here) (Contains-there cell (list_in old l) k (subst Q e h)))
        | inr ne ↦ subst P (sym (puts.others m ne)) h
      ]

  pub put_there : Contains (list_in new l) cell
  put_there = let P : List ℕ → Type 0 = λ x. Contains x cell in subst P (sym puts.here) (Contains-here cell (list_in old l))

  pub put_cases : (m k : ℕ) → Contains (list_in new m) k → ((m ≡ l) × (k ≡ cell)) ⊎ Contains (list_in old m) k
  put_cases m k h =
      let P : List ℕ → Type 0 = λ x. Contains x k in
      elim (cases_eq m l) [
        | inl e ↦
            let R : ℕ → Type 0 = λ n. Contains (list_in new n) k in
            let Q : ℕ → Type 0 = λ n. Contains (list_in old n) k in
            elim (Contains-cons_cases cell (list_in old l) k (subst P puts.here (subst R e h))) [ inl q ↦ inl (e, q) | inr q ↦ inr (subst Q (sym e) q) ]
        | inr ne ↦ inr (subst P (puts.others m ne) h)
      ]

module _ (l cell : ℕ) (old new : ListsState) (takes : Takes l cell old new) where
  take_was : (m k : ℕ) → Contains (list_in new m) k → Contains (list_in old m) k
  take_was m k h =
      let P : List ℕ → Type 0 = λ x. Contains x k in
      elim (cases_eq m l) [
        | inl e ↦
            let Q : ℕ → Type 0 = λ n. Contains (list_in new n) k in
            let R : ℕ → Type 0 = λ n. Contains (list_in old n) k in
            subst R (sym e) (subst P (sym takes.here) (Contains-there cell (list_in new l) k (subst Q e h)))
        | inr ne ↦ subst P (takes.others m ne) h
      ]

  take_cell : Contains (list_in old l) cell
  take_cell = let P : List ℕ → Type 0 = λ x. Contains x cell in subst P (sym takes.here) (Contains-here cell (list_in new l))

  take_rest : (m k : ℕ) → k ≢ cell → Contains (list_in old m) k → Contains (list_in new m) k
  take_rest m k other h =
      let P : List ℕ → Type 0 = λ x. Contains x k in
      elim (cases_eq m l) [
        | inl e ↦
            let Q : ℕ → Type 0 = λ n. Contains (list_in new n) k in
            let R : ℕ → Type 0 = λ n. Contains (list_in old n) k in
            elim (Contains-cons_cases cell (list_in new l) k (subst P takes.here (subst R e h))) [ inl q ↦ absurd (other q) | inr q ↦ subst Q (sym e) q ]
        | inr ne ↦ subst P (sym (takes.others m ne)) h
      ]

-- the first cell to be visited
module _ (cs : List (List Literal)) (size : ℕ) (w : List Literal) (lists taken : ListsState) (due : Literal) (cell : ℕ) (two : AreWatched cs w) (listed : AreListed cs size w lists due) (takes : Takes 0 cell lists taken) where
  pub next_cell : IsCell cs cell
  next_cell = (listed.only 0 cell (take_cell 0 cell lists taken takes)).0

module _ (cs : List (List Literal)) (size : ℕ) (start : TrailState) (start_w : List Literal) (now : TrailState) (w : List Literal) (first lists : ListsState) (due : Literal) (paired : length start.reasons ≡ length start.lits) (base : Based cs size start start_w now w first lists due) (cell : ℕ) (taken put : ListsState) (new : TrailState) (w2 : List Literal) (result : Bool) (takes : Takes 0 cell lists taken) (visits : Visits cs cell now w new w2 result) (puts : Puts (code_of (watched_in w2 cell)) cell taken put) where
  is_cell : IsCell cs cell
  is_cell = next_cell cs size w lists taken due cell base.two base.listed takes

  same_in : (k : ℕ) → k ≢ cell → (P : Literal → Type 0) → P (watched_in w k) → P (watched_in w2 k)
  same_in k ne P h = subst P (sym (visits.others k ne)) h

  step_listed : AreListed cs size w2 put due
  step_listed = record {
    enough = let a = base.listed.enough in let b = takes.size.lists in let d = puts.size.lists in omega arith;
    cells = puts.size.cells ∙ takes.size.cells ∙ base.listed.cells;
    listed = λ k k_cell. elim (cases_eq k cell) [
      | inl e ↦ inr (let P : ℕ → Type 0 = λ n. Contains (list_in put (code_of (watched_in w2 n))) n in subst P (sym e) (put_there _ cell taken put puts))
      | inr ne ↦ elim (base.listed.listed k k_cell) [
        | inl q ↦ inl (put_keeps _ cell taken put puts 0 k (take_rest 0 cell lists taken takes 0 k ne q.0), same_in k ne (λ x. x ≡ due) q.1)
        | inr q ↦ inr (same_in k ne (λ x. Contains (list_in put (code_of x)) k) (put_keeps _ cell taken put puts _ k (take_rest 0 cell lists taken takes _ k ne q)))
      ]
    ];
    only = λ l k h. elim (put_cases _ cell taken put puts l k h) [
      | inl q ↦
          let P : ℕ → Type 0 = λ n. IsCell cs n × (((l ≡ 0) × (watched_in w2 n ≡ due)) ⊎ (l ≡ code_of (watched_in w2 n))) in
          subst P (sym q.1) (is_cell, inr q.0)
      | inr q ↦
          let ne : k ≢ cell = λ e. takes.idle l (let P : ℕ → Type 0 = λ n. Contains (list_in taken l) n in subst P e q) in
          let before = base.listed.only l k (take_was 0 cell lists taken takes l k q) in
          (before.0, same_in k ne (λ x. ((l ≡ 0) × (x ≡ due)) ⊎ (l ≡ code_of x)) before.1)
    ];
  }

  -- a mark stays one
  step_mark : (len : ℕ) → IsMark cs w now.lits len → IsMark cs w2 new.lits len
  step_mark len mark =
      let longer = begins_length now.lits new.lits visits.goes_on.lits in
      let front : take len new.lits ≡ take len now.lits = begins_take now.lits new.lits visits.goes_on.lits len mark.within in
      let before = mark.within in
      record {
        within = omega arith;
        short = λ place few. let P : List Literal → Type 0 = λ x. IsSatisfied x (clause_of cs place) in subst P (sym front) (mark.short place few);
        kept = λ k k_cell.
            let P : List Literal → Type 0 = λ x. IsKept x x (clause_in cs k) (watched_in w2 k) in
            subst P (sym front) (elim (cases_eq k cell) [
              | inl e ↦ at_cell k k_cell e
              | inr ne ↦ same_in k ne (λ x. IsKept (take len now.lits) (take len now.lits) (clause_in cs k) x) (mark.kept k k_cell)
            ]);
      }
    where
      at_cell : (k : ℕ) → IsCell cs k → k ≡ cell → IsKept (take len now.lits) (take len now.lits) (clause_in cs k) (watched_in w2 k)
      at_cell k k_cell e =
          let P : ℕ → Type 0 = λ n. IsKept (take len now.lits) (take len now.lits) (clause_in cs n) (watched_in w2 n) in
          subst P (sym e) (elim (mark.kept cell is_cell) [
            | inl s ↦ inl s
            | inr f ↦ elim visits.alive [
              | inl same ↦ let Q : Literal → Type 0 = λ x. IsNotFalse (take len now.lits) x in inr (subst Q (sym same) f)
              | inr alive ↦ inr (λ h. alive (Contains-take now.lits len (negation (watched_in w2 cell)) h))
            ]
          ])

  pub step_base : Based cs size start start_w new w2 first put due
  step_base = record {
    goes_on = goes_on_along cs start now new paired base.goes_on visits.goes_on;
    two = visits.two;
    listed = step_listed;
    large = large_along first lists put base.large (large_along lists taken put takes.size puts.size);
    marks = λ len mark. step_mark len (base.marks len mark);
  }

  -- kept by a front of the trail
  step_kept : result ≡ true → (head : ℕ) → head ≤ length now.lits → (k : ℕ) → (k ≢ cell → IsKept (take head now.lits) now.lits (clause_in cs k) (watched_in w k)) → IsKept (take head new.lits) new.lits (clause_in cs k) (watched_in w2 k)
  step_kept good head low k before =
      elim (cases_eq k cell) [
        | inl e ↦
            let P : ℕ → Type 0 = λ n. IsKept (take head new.lits) new.lits (clause_in cs n) (watched_in w2 n) in
            subst P (sym e) (elim (visits.kept good) [ inl s ↦ inl s | inr f ↦ inr (λ h. f (Contains-take new.lits head (negation (watched_in w2 cell)) h)) ])
        | inr ne ↦
            let front : take head new.lits ≡ take head now.lits = begins_take now.lits new.lits visits.goes_on.lits head low in
            elim (same_in k ne (λ x. IsKept (take head now.lits) now.lits (clause_in cs k) x) (before ne)) [
              | inl s ↦ inl (s.0, s.1, begins_contains now.lits new.lits visits.goes_on.lits s.0 s.2)
              | inr f ↦ inr (let P : List Literal → Type 0 = λ x. IsNotFalse x (watched_in w2 k) in subst P (sym front) f)
            ]
      ]

  pub step_walking : result ≡ true → (head : ℕ) → head < length start.lits → Reaches cs w now.lits head → IsDone cs w now.lits lists head → Walking cs size start start_w new w2 first put due head
  step_walking good head low reached done =
      let longer = begins_length start.lits now.lits base.goes_on.lits in
      record {
        base = step_base;
        reached = λ k k_cell. step_kept good head (omega arith) k (λ ne. reached k k_cell);
        done = λ k k_cell away. step_kept good (head + 1) (omega arith) k (λ ne. done k k_cell (λ h. away (put_keeps _ cell taken put puts 0 k (take_rest 0 cell lists taken takes 0 k ne h))));
      }

-- the walk begins

module _ (cs : List (List Literal)) (size : ℕ) (t : TrailState) (w : List Literal) (lists moved : ListsState) (head : ℕ) (p due : Literal) (watching : IsWatching cs size w lists) (reached : Reaches cs w t.lits head) (within : head < length t.lits) (here : p ≡ get_or t.lits head p) (due_is : due ≡ negation p) (due_code : 2 ≤ code_of due) (moves : Moves (code_of due) 0 lists moved) where
  was_listed : (k : ℕ) → IsCell cs k → Contains (list_in lists (code_of (watched_in w k))) k
  was_listed k k_cell =
      elim (watching.listed.listed k k_cell) [
        | inl q ↦ let P : List ℕ → Type 0 = λ x. Contains x k in absurd (Contains-none k (subst P watching.none q.0))
        | inr q ↦ q
      ]

  due_there : (k : ℕ) → IsCell cs k → watched_in w k ≡ due → Contains (list_in moved 0) k
  due_there k k_cell e =
      let P : Literal → Type 0 = λ x. Contains (list_in lists (code_of x)) k in
      let Q : List ℕ → Type 0 = λ x. Contains x k in
      subst Q (sym moves.there) (subst P e (was_listed k k_cell))

  start_listed : AreListed cs size w moved due
  start_listed = record {
    enough = let a = watching.listed.enough in let b = moves.size.lists in omega arith;
    cells = moves.size.cells ∙ watching.listed.cells;
    listed = λ k k_cell. elim (same_or_other (watched_in w k) due) [
      | inl e ↦ inl (due_there k k_cell e, e)
      | inr ne ↦
          let Q : List ℕ → Type 0 = λ x. Contains x k in
          inr (subst Q (sym (moves.others (code_of (watched_in w k)) (λ e. ne (code_once (watched_in w k) due e)) (code_not_none cs w k watching.two k_cell))) (was_listed k k_cell))
    ];
    only = λ l k h. elim (cases_eq l 0) [
      | inl zero_is ↦
          let Q : List ℕ → Type 0 = λ x. Contains x k in
          let R : ℕ → Type 0 = λ n. Contains (list_in moved n) k in
          let before = watching.listed.only (code_of due) k (subst Q moves.there (subst R zero_is h)) in
          (before.0, elim before.1 [ inl q ↦ absurd (let e = q.0 in omega arith) | inr q ↦ inl (zero_is, sym (code_once due (watched_in w k) q)) ])
      | inr not_zero ↦ elim (cases_eq l (code_of due)) [
        | inl e ↦
            let Q : List ℕ → Type 0 = λ x. Contains x k in
            let R : ℕ → Type 0 = λ n. Contains (list_in moved n) k in
            absurd (Contains-none k (subst Q moves.none (subst R e h)))
        | inr ne ↦
            let Q : List ℕ → Type 0 = λ x. Contains x k in
            let before = watching.listed.only l k (subst Q (moves.others l ne not_zero) h) in
            (before.0, elim before.1 [ inl q ↦ absurd (not_zero q.0) | inr q ↦ inr q ])
      ]
    ];
  }

  pub walk_start : Walking cs size t w t w lists moved due head
  walk_start = record {
    base = record {
      goes_on = goes_on_itself cs t;
      two = watching.two;
      listed = start_listed;
      large = moves.size;
      marks = λ len mark. mark;
    };
    reached = reached;
    done = λ k k_cell away. elim (reached k k_cell) [
      | inl s ↦ inl s
      | inr f ↦ inr (λ h.
          let P : List Literal → Type 0 = λ x. Contains x (negation (watched_in w k)) in
          elim (Contains-push_cases (take head t.lits) p (negation (watched_in w k)) (subst P (took t.lits head p within here) h)) [
            | inl q ↦ f q
            | inr e ↦ away (due_there k k_cell (sym (negation_twice (watched_in w k)) ∙ ap negation (sym e) ∙ sym due_is))
          ])
    ];
  }

-- nothing is to be visited

pub any_due : (cs : List (List Literal)) (size : ℕ) (w : List Literal) (lists : ListsState) (due other : Literal) → list_in lists 0 ≡ [] → AreListed cs size w lists due → AreListed cs size w lists other
any_due cs size w lists due other none listed =
    let P : (k : ℕ) → List ℕ → Type 0 = λ k x. Contains x k in
    record {
      enough = listed.enough;
      cells = listed.cells;
      listed = λ k k_cell. elim (listed.listed k k_cell) [ inl q ↦ absurd (Contains-none k (subst (P k) none q.0)) | inr q ↦ inr q ];
      only = λ l k h.
          let before = listed.only l k h in
          let R : ℕ → Type 0 = λ n. Contains (list_in lists n) k in
          (before.0, elim before.1 [ inl q ↦ absurd (Contains-none k (subst (P k) none (subst R q.0 h))) | inr q ↦ inr q ]);
    }

module _ (cs : List (List Literal)) (size : ℕ) (start : TrailState) (start_w : List Literal) (now : TrailState) (w : List Literal) (first lists : ListsState) (due : Literal) where
  pub walk_watching : Based cs size start start_w now w first lists due → list_in lists 0 ≡ [] → IsWatching cs size w lists
  walk_watching base none = record { two = base.two; listed = any_due cs size w lists due (literal 0 true) none base.listed; none = none }

  pub walk_end : (head : ℕ) → Walking cs size start start_w now w first lists due head → list_in lists 0 ≡ [] → Reaches cs w now.lits (head + 1)
  walk_end head walking none k k_cell = walking.done k k_cell (λ h. let P : List ℕ → Type 0 = λ x. Contains x k in Contains-none k (subst P none h))

  -- what was to be visited went back to its list
  module _ (base : Based cs size start start_w now w first lists due) (due_low : code_of due ≢ 0) (poured : ListsState) (pours : Pours 0 (code_of due) lists poured) where
    poured_listed : AreListed cs size w poured due
    poured_listed = record {
      enough = let a = base.listed.enough in let b = pours.size.lists in omega arith;
      cells = pours.size.cells ∙ base.listed.cells;
      listed = λ k k_cell. inr (elim (base.listed.listed k k_cell) [
        | inl q ↦ let P : Literal → Type 0 = λ x. Contains (list_in poured (code_of x)) k in subst P (sym q.1) (pours.there k (inl q.0))
        | inr q ↦ elim (cases_eq (code_of (watched_in w k)) (code_of due)) [
          | inl e ↦
              let P : ℕ → Type 0 = λ n. Contains (list_in lists n) k in
              let R : ℕ → Type 0 = λ n. Contains (list_in poured n) k in
              subst R (sym e) (pours.there k (inr (subst P e q)))
          | inr ne ↦ let P : List ℕ → Type 0 = λ x. Contains x k in subst P (sym (pours.others (code_of (watched_in w k)) (code_not_none cs w k base.two k_cell) ne)) q
        ]
      ]);
      only = λ l k h. elim (cases_eq l (code_of due)) [
        | inl e ↦
            let R : ℕ → Type 0 = λ n. Contains (list_in poured n) k in
            elim (pours.only k (subst R e h)) [
              | inl q ↦
                  let before = base.listed.only 0 k q in (
                    before.0,
                    inr (elim before.1 [
                      | inl z ↦ e ∙ ap code_of (sym z.1)
                      | inr z ↦ absurd (code_not_none cs w k base.two before.0 (sym z))
                    ]),
                  )
              | inr q ↦
                  let before = base.listed.only (code_of due) k q in
                  (before.0, inr (elim before.1 [ inl z ↦ absurd (due_low z.0) | inr z ↦ e ∙ z ]))
            ]
        | inr ne ↦ elim (cases_eq l 0) [
          | inl zero_is ↦
              let P : List ℕ → Type 0 = λ x. Contains x k in
              let R : ℕ → Type 0 = λ n. Contains (list_in poured n) k in
              absurd (Contains-none k (subst P pours.none (subst R zero_is h)))
          | inr not_zero ↦
              let P : List ℕ → Type 0 = λ x. Contains x k in
              base.listed.only l k (subst P (pours.others l not_zero ne) h)
        ]
      ];
    }

    pub poured_watching : IsWatching cs size w poured
    poured_watching = record { two = base.two; listed = any_due cs size w poured due (literal 0 true) pours.none poured_listed; none = pours.none }

-- the walk, in the words of its calls

pub due_fits : (size count head : ℕ) (trail : List Literal) (p due : Literal) → IsBelow size trail → head < length trail → p ≡ get_or trail head p → due ≡ negation p → 2 * size ≤ count → code_of due < count
due_fits size count head trail p due below within here due_is enough =
    let P : Literal → Type 0 = λ x. x.var < size in
    let var_below : p.var < size = subst P (sym here) (below (get_or trail head p) (Contains-get_or trail head p within)) in
    code_fits due size count (subst P (sym due_is) var_below) enough

pub step_fewer : (cs : List (List Literal)) (cell : ℕ) (w : List Literal) (lists taken put : ListsState) → AreWatched cs w → IsCell cs cell → Takes 0 cell lists taken → Puts (code_of (watched_in w cell)) cell taken put → length (list_in put 0) < length (list_in lists 0)
step_fewer cs cell w lists taken put two is_cell takes puts =
    let same : list_in put 0 ≡ list_in taken 0 = puts.others 0 (λ e. code_not_none cs w cell two is_cell (sym e)) in
    let a : length (list_in put 0) ≡ length (list_in taken 0) = ap length same in
    let b : length (list_in lists 0) ≡ length (cell ∷ list_in taken 0) = ap length takes.here in
    omega arith

module _ (cs : List (List Literal)) (size : ℕ) (start : TrailState) (start_w : List Literal) (now : TrailState) (w : List Literal) (first lists : ListsState) (due : Literal) (size_is : size ≡ start.size) (base : Based cs size start start_w now w first lists due) where
  sized : (x : ListsState) → IsWatching cs size w x → IsWatching cs start.size w x
  sized x h = let P : ℕ → Type 0 = λ n. IsWatching cs n w x in subst P size_is h

  pub walks_none : (popped : ListsState) → list_in lists 0 ≡ [] → popped ≡ lists → Walks cs start start_w first now w popped
  walks_none popped none same =
      let P : ListsState → Type 0 = λ x. Walks cs start start_w first now w x in
      subst P (sym same) (record {
        goes_on = base.goes_on;
        watching = sized lists (walk_watching cs size start start_w now w first lists due base none);
        large = base.large;
        marks = base.marks;
      })

  pub walks_false : (poured : ListsState) → code_of due ≢ 0 → Pours 0 (code_of due) lists poured → Walks cs start start_w first now w poured
  walks_false poured low pours = record {
    goes_on = base.goes_on;
    watching = sized poured (poured_watching cs size start start_w now w first lists due base low poured pours);
    large = large_along first lists poured base.large pours.size;
    marks = base.marks;
  }

pub walks_itself : (cs : List (List Literal)) (t : TrailState) (w : List Literal) (lists : ListsState) → IsWatching cs t.size w lists → Walks cs t w lists t w lists
walks_itself cs t w lists watching = record {
  goes_on = goes_on_itself cs t;
  watching = watching;
  large = record { lists = refl; cells = refl; room = refl };
  marks = λ len mark. mark;
}

module _ (cs : List (List Literal)) (start : TrailState) (start_w : List Literal) (first : ListsState) (now : TrailState) (w : List Literal) (lists : ListsState) (walks : Walks cs start start_w first now w lists) where
  pub walks_watching : IsWatching cs now.size w lists
  walks_watching = let P : ℕ → Type 0 = λ n. IsWatching cs n w lists in subst P (sym walks.goes_on.size) walks.watching

  pub walks_along : (new : TrailState) (w2 : List Literal) (last : ListsState) → length start.reasons ≡ length start.lits → Walks cs now w lists new w2 last → Walks cs start start_w first new w2 last
  walks_along new w2 last paired more = record {
    goes_on = goes_on_along cs start now new paired walks.goes_on more.goes_on;
    watching = let P : ℕ → Type 0 = λ n. IsWatching cs n w2 last in subst P walks.goes_on.size more.watching;
    large = large_along first lists last walks.large more.large;
    marks = λ len mark. more.marks len (walks.marks len mark);
  }

-- all of the trail was reached
pub reached_end : (cs : List (List Literal)) (w trail : List Literal) (head : ℕ) → length trail ≤ head → head ≤ length trail → Reaches cs w trail head → Reaches cs w trail (length trail)
reached_end cs w trail head past low reached =
    let e : head ≡ length trail = omega arith in
    let P : ℕ → Type 0 = λ n. Reaches cs w trail n in
    subst P e reached
