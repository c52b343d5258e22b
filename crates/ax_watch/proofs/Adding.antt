-- Laws of watched literals where a clause is added.
use Rattle.std.proofs.Common.{◌≡◌, ◌≢◌, ℕ, ◌+◌, ◌*◌, ◌/◌, ◌<◌, ◌≤◌, List, [], ◌∷◌, ◌++◌, length, arith, ◌⊎◌, inl, inr, true, sym, subst, ap, ◌∙◌, length-append}
use Rattle.std.specs.List.{Contains}
use Rattle.std.proofs.lemmas.Bool.{cases_eq, cases_lt}
use Rattle.std.proofs.lemmas.List.{get_or_append_left, get_or_push}
use Rattle.std.proofs.lemmas.List.Elements.{All-push, All-weaker, Contains-append_left, Contains-push}
use Rattle.ax_proof.specs.Literal.{Literal, literal, code_of}
use Rattle.ax_proof.proofs.Lists.{Contains-none}
use Rattle.ax_watch.specs.Lists.{ListsState, list_in, list_count, cell_count, IsIdle, Puts}
use Rattle.ax_watch.specs.Watch.{clause_of}
use Rattle.ax_watch.specs.Watched.{clause_in, twin, IsCell, IsShort, AreShort, watched_in, IsNotFalse, IsKept, AreKept, AreWatched, IsWatching}
use Rattle.ax_watch.proofs.Watching.{twin_below, code_from_two, half_below}
use Rattle.ax_watch.proofs.Walks.{put_keeps, put_there, put_cases}

module _ (cs : List (List Literal)) (c : List Literal) where
  more_clauses : length (cs ++ c ∷ []) ≡ length cs + 1
  more_clauses = length-append cs (c ∷ [])

  pub old_clause : (place : ℕ) → place < length cs → clause_of (cs ++ c ∷ []) place ≡ clause_of cs place
  old_clause place lt = get_or_append_left cs (c ∷ []) [] place lt

  pub new_clause : (place : ℕ) → place ≡ length cs → clause_of (cs ++ c ∷ []) place ≡ c
  new_clause place e = get_or_push cs c [] place (sym e)

  old_in : (cell : ℕ) → cell < 2 * length cs → clause_in (cs ++ c ∷ []) cell ≡ clause_in cs cell
  old_in cell lt = old_clause (cell / 2) (half_below cell (length cs) lt)

  new_in : (cell : ℕ) → 2 * length cs ≤ cell → cell < 2 * length (cs ++ c ∷ []) → clause_in (cs ++ c ∷ []) cell ≡ c
  new_in cell ge lt = let n = more_clauses in let half : cell / 2 ≡ length cs = omega arith in new_clause (cell / 2) half

  cell_still : (cell : ℕ) → IsCell cs cell → IsCell (cs ++ c ∷ []) cell
  cell_still cell (lt, two) = let n = more_clauses in let P : List Literal → Type 0 = λ x. 1 < length x in (omega arith, subst P (sym (old_in cell lt)) two)

  cell_before : (cell : ℕ) → cell < 2 * length cs → IsCell (cs ++ c ∷ []) cell → IsCell cs cell
  cell_before cell lt (b, two) = let P : List Literal → Type 0 = λ x. 1 < length x in (lt, subst P (old_in cell lt) two)

  module _ (size : ℕ) (w : List Literal) (a b : Literal) (lists : ListsState) (watching : IsWatching cs size w lists) where
    abbrev longer : List Literal
    longer = (w ++ a ∷ []) ++ b ∷ []

    n_is : length w ≡ 2 * length cs
    n_is = watching.two.sized

    one_more : length (w ++ a ∷ []) ≡ length w + 1
    one_more = length-append w (a ∷ [])

    w_old : (cell : ℕ) → cell < 2 * length cs → watched_in longer cell ≡ watched_in w cell
    w_old cell lt =
        let n = n_is in
        let m = one_more in
        get_or_append_left (w ++ a ∷ []) (b ∷ []) (literal 0 true) cell (omega arith) ∙ get_or_append_left w (a ∷ []) (literal 0 true) cell (omega arith)

    w_first : (cell : ℕ) → cell ≡ 2 * length cs → watched_in longer cell ≡ a
    w_first cell e =
        let n = n_is in
        let m = one_more in
        get_or_append_left (w ++ a ∷ []) (b ∷ []) (literal 0 true) cell (omega arith) ∙ get_or_push w a (literal 0 true) cell (omega arith)

    w_second : (cell : ℕ) → cell ≡ 2 * length cs + 1 → watched_in longer cell ≡ b
    w_second cell e = let n = n_is in let m = one_more in get_or_push (w ++ a ∷ []) b (literal 0 true) cell (omega arith)

    longer_is : length longer ≡ 2 * length (cs ++ c ∷ [])
    longer_is = let n = n_is in let m = one_more in let k = length-append (w ++ a ∷ []) (b ∷ []) in let h = more_clauses in omega arith

    listed_old : (cell : ℕ) → IsCell cs cell → Contains (list_in lists (code_of (watched_in w cell))) cell
    listed_old cell is_cell =
        elim (watching.listed.listed cell is_cell) [
          | inl q ↦ let P : List ℕ → Type 0 = λ x. Contains x cell in absurd (Contains-none cell (subst P watching.none q.0))
          | inr q ↦ q
        ]

    only_old : (l cell : ℕ) → Contains (list_in lists l) cell → IsCell cs cell × (l ≡ code_of (watched_in w cell))
    only_old l cell h =
        let before = watching.listed.only l cell h in (
          before.0,
          elim before.1 [
            | inl z ↦
                let P : List ℕ → Type 0 = λ x. Contains x cell in
                let R : ℕ → Type 0 = λ n. Contains (list_in lists n) cell in
                absurd (Contains-none cell (subst P watching.none (subst R z.0 h)))
            | inr z ↦ z
          ],
        )

    module _ (grown : ListsState) (same : (l : ℕ) → list_in grown l ≡ list_in lists l) (count : list_count grown ≡ list_count lists) (cells : cell_count grown ≡ cell_count lists + 2) where
      grown_has : (l cell : ℕ) → Contains (list_in lists l) cell → Contains (list_in grown l) cell
      grown_has l cell h = let P : List ℕ → Type 0 = λ x. Contains x cell in subst P (sym (same l)) h

      grown_had : (l cell : ℕ) → Contains (list_in grown l) cell → Contains (list_in lists l) cell
      grown_had l cell h = let P : List ℕ → Type 0 = λ x. Contains x cell in subst P (same l) h

      cells_now : cell_count grown ≡ 2 * length (cs ++ c ∷ [])
      cells_now = let h = more_clauses in let k = watching.listed.cells in omega arith

      -- a short clause: its cells stay idle
      module _ (short : length c ≤ 1) where
        not_new : (cell : ℕ) → IsCell (cs ++ c ∷ []) cell → cell < 2 * length cs
        not_new cell is_cell =
            elim (cases_lt cell (2 * length cs)) [
              | inl lt ↦ lt
              | inr ge ↦ let P : List Literal → Type 0 = λ x. 1 < length x in let two : 1 < length c = subst P (new_in cell ge is_cell.0) is_cell.1 in absurd (omega arith)
            ]

        short_two : AreWatched (cs ++ c ∷ []) longer
        short_two = record {
          sized = longer_is;
          there = λ cell is_cell.
              let lt = not_new cell is_cell in
              let P : Literal → Type 0 = λ x. Contains (clause_in (cs ++ c ∷ []) cell) x in
              let Q : List Literal → Type 0 = λ x. Contains x (watched_in w cell) in
              subst P (sym (w_old cell lt)) (subst Q (sym (old_in cell lt)) (watching.two.there cell (cell_before cell lt is_cell)));
          differ = λ cell is_cell e.
              let lt = not_new cell is_cell in
              watching.two.differ cell (cell_before cell lt is_cell) (sym (w_old cell lt) ∙ e ∙ w_old (twin cell) (twin_below cell (length cs) lt));
          low = λ cell is_cell.
              let lt = not_new cell is_cell in
              let P : Literal → Type 0 = λ x. 1 ≤ x.var in
              subst P (sym (w_old cell lt)) (watching.two.low cell (cell_before cell lt is_cell));
        }

        pub short_watching : IsWatching (cs ++ c ∷ []) size longer grown
        short_watching = record {
          two = short_two;
          listed = record {
            enough = let k = watching.listed.enough in omega arith;
            cells = cells_now;
            listed = λ cell is_cell.
                let lt = not_new cell is_cell in
                let P : Literal → Type 0 = λ x. Contains (list_in grown (code_of x)) cell in
                inr (subst P (sym (w_old cell lt)) (grown_has _ cell (listed_old cell (cell_before cell lt is_cell))));
            only = λ l cell h.
                let before = only_old l cell (grown_had l cell h) in
                let P : Literal → Type 0 = λ x. l ≡ code_of x in
                (cell_still cell before.0, inr (subst P (sym (w_old cell before.0.0)) before.1));
          };
          none = same 0 ∙ watching.none;
        }

      -- a longer clause: two of its literals are watched
      module _ (long : 1 < length c) (ain : Contains c a) (bin : Contains c b) (ne : a ≢ b) (alow : 1 ≤ a.var) (blow : 1 ≤ b.var) (once last : ListsState) (k : ℕ) (k_is : k ≡ 2 * length cs) (puts : Puts (code_of (watched_in longer k)) k grown once) (puts2 : Puts (code_of (watched_in longer (k + 1))) (k + 1) once last) where
        -- the three kinds of cells
        kinds : (cell : ℕ) → cell < 2 * length (cs ++ c ∷ []) → (cell < 2 * length cs) ⊎ ((cell ≡ k) ⊎ (cell ≡ k + 1))
        kinds cell lt =
            let h = more_clauses in
            elim (cases_lt cell (2 * length cs)) [
              | inl below ↦ inl below
              | inr ge ↦ elim (cases_eq cell k) [ inl e ↦ inr (inl e) | inr other ↦ inr (inr (omega arith)) ]
            ]

        w_k : watched_in longer k ≡ a
        w_k = w_first k k_is

        w_k1 : watched_in longer (k + 1) ≡ b
        w_k1 = w_second (k + 1) (omega arith)

        k_in : clause_in (cs ++ c ∷ []) k ≡ c
        k_in = let h = more_clauses in new_in k (omega arith) (omega arith)

        k1_in : clause_in (cs ++ c ∷ []) (k + 1) ≡ c
        k1_in = let h = more_clauses in new_in (k + 1) (omega arith) (omega arith)

        k_cell : IsCell (cs ++ c ∷ []) k
        k_cell = let h = more_clauses in let P : List Literal → Type 0 = λ x. 1 < length x in (omega arith, subst P (sym k_in) long)

        k1_cell : IsCell (cs ++ c ∷ []) (k + 1)
        k1_cell = let h = more_clauses in let P : List Literal → Type 0 = λ x. 1 < length x in (omega arith, subst P (sym k1_in) long)

        k_twin : twin k ≡ k + 1
        k_twin = omega arith

        k1_twin : twin (k + 1) ≡ k
        k1_twin = omega arith

        at_k : (P : ℕ → Literal → List Literal → Type 0) → P k a c → P k (watched_in longer k) (clause_in (cs ++ c ∷ []) k)
        at_k P h =
            let Q : Literal → Type 0 = λ x. P k x c in
            let R : List Literal → Type 0 = λ x. P k (watched_in longer k) x in
            subst R (sym k_in) (subst Q (sym w_k) h)

        at_k1 : (P : ℕ → Literal → List Literal → Type 0) → P (k + 1) b c → P (k + 1) (watched_in longer (k + 1)) (clause_in (cs ++ c ∷ []) (k + 1))
        at_k1 P h =
            let Q : Literal → Type 0 = λ x. P (k + 1) x c in
            let R : List Literal → Type 0 = λ x. P (k + 1) (watched_in longer (k + 1)) x in
            subst R (sym k1_in) (subst Q (sym w_k1) h)

        at_old : (P : ℕ → Literal → List Literal → Type 0) → (cell : ℕ) → cell < 2 * length cs → P cell (watched_in w cell) (clause_in cs cell) → P cell (watched_in longer cell) (clause_in (cs ++ c ∷ []) cell)
        at_old P cell lt h =
            let Q : Literal → Type 0 = λ x. P cell x (clause_in cs cell) in
            let R : List Literal → Type 0 = λ x. P cell (watched_in longer cell) x in
            subst R (sym (old_in cell lt)) (subst Q (sym (w_old cell lt)) h)

        -- a fact of each cell
        each_cell : (P : ℕ → Literal → List Literal → Type 0) → ((cell : ℕ) → IsCell cs cell → P cell (watched_in w cell) (clause_in cs cell)) → P k a c → P (k + 1) b c → (cell : ℕ) → IsCell (cs ++ c ∷ []) cell → P cell (watched_in longer cell) (clause_in (cs ++ c ∷ []) cell)
        each_cell P old hk hk1 cell is_cell =
            let R : ℕ → Type 0 = λ n. P n (watched_in longer n) (clause_in (cs ++ c ∷ []) n) in
            elim (kinds cell is_cell.0) [
              | inl lt ↦ at_old P cell lt (old cell (cell_before cell lt is_cell))
              | inr (inl e) ↦ subst R (sym e) (at_k P hk)
              | inr (inr e) ↦ subst R (sym e) (at_k1 P hk1)
            ]

        long_differ : (cell : ℕ) → IsCell (cs ++ c ∷ []) cell → watched_in longer cell ≢ watched_in longer (twin cell)
        long_differ cell is_cell =
            let R : ℕ → Type 0 = λ n. watched_in longer n ≢ watched_in longer (twin n) in
            let at : ℕ → Literal = λ n. watched_in longer n in
            elim (kinds cell is_cell.0) [
              | inl lt ↦ λ e. watching.two.differ cell (cell_before cell lt is_cell) (sym (w_old cell lt) ∙ e ∙ w_old (twin cell) (twin_below cell (length cs) lt))
              | inr (inl e) ↦ subst R (sym e) (λ f. ne (sym w_k ∙ f ∙ ap at k_twin ∙ w_k1))
              | inr (inr e) ↦ subst R (sym e) (λ f. ne (sym w_k ∙ ap at (sym k1_twin) ∙ sym f ∙ w_k1))
            ]

        last_keeps : (l cell : ℕ) → Contains (list_in grown l) cell → Contains (list_in last l) cell
        last_keeps l cell h = put_keeps _ (k + 1) once last puts2 l cell (put_keeps _ k grown once puts l cell h)

        long_listed : (cell : ℕ) → IsCell (cs ++ c ∷ []) cell → Contains (list_in last (code_of (watched_in longer cell))) cell
        long_listed cell is_cell =
            let R : ℕ → Type 0 = λ n. Contains (list_in last (code_of (watched_in longer n))) n in
            let P : Literal → Type 0 = λ x. Contains (list_in last (code_of x)) cell in
            elim (kinds cell is_cell.0) [
              | inl lt ↦ subst P (sym (w_old cell lt)) (last_keeps _ cell (grown_has _ cell (listed_old cell (cell_before cell lt is_cell))))
              | inr (inl e) ↦ subst R (sym e) (put_keeps _ (k + 1) once last puts2 _ k (put_there _ k grown once puts))
              | inr (inr e) ↦ subst R (sym e) (put_there _ (k + 1) once last puts2)
            ]

        long_only : (l cell : ℕ) → Contains (list_in last l) cell → IsCell (cs ++ c ∷ []) cell × (l ≡ code_of (watched_in longer cell))
        long_only l cell h =
            let R : ℕ → Type 0 = λ n. IsCell (cs ++ c ∷ []) n × (l ≡ code_of (watched_in longer n)) in
            let P : Literal → Type 0 = λ x. l ≡ code_of x in
            elim (put_cases _ (k + 1) once last puts2 l cell h) [
              | inl q ↦ subst R (sym q.1) (k1_cell, q.0)
              | inr q ↦ elim (put_cases _ k grown once puts l cell q) [
                | inl r ↦ subst R (sym r.1) (k_cell, r.0)
                | inr r ↦ let before = only_old l cell (grown_had l cell r) in (cell_still cell before.0, subst P (sym (w_old cell before.0.0)) before.1)
              ]
            ]

        code_some : (x y : Literal) → x ≡ y → 1 ≤ y.var → 0 ≢ code_of x
        code_some x y e low z =
            let P : Literal → Type 0 = λ l. 1 ≤ l.var in
            let two = code_from_two x (subst P (sym e) low) in
            absurd (omega arith)

        pub long_watching : IsWatching (cs ++ c ∷ []) size longer last
        long_watching = record {
          two = record {
            sized = longer_is;
            there = each_cell (λ n x d. Contains d x) watching.two.there ain bin;
            differ = long_differ;
            low = each_cell (λ n x d. 1 ≤ x.var) watching.two.low alow blow;
          };
          listed = record {
            enough = let m = watching.listed.enough in let p = puts.size.lists in let q = puts2.size.lists in omega arith;
            cells = puts2.size.cells ∙ puts.size.cells ∙ cells_now;
            listed = λ cell is_cell. inr (long_listed cell is_cell);
            only = λ l cell h. let q = long_only l cell h in (q.0, inr q.1);
          };
          none = puts2.others 0 (code_some _ b w_k1 blow) ∙ puts.others 0 (code_some _ a w_k alow) ∙ same 0 ∙ watching.none;
        }

        pub long_kept : (part whole : List Literal) → IsNotFalse part a → IsNotFalse part b → AreKept cs w part whole → AreKept (cs ++ c ∷ []) longer part whole
        long_kept part whole alive alive_too before = each_cell (λ n x d. IsKept part whole d x) before (inr alive) (inr alive_too)

-- idle cells

pub idle_same : (old new : ListsState) (cell : ℕ) → ((l : ℕ) → list_in new l ≡ list_in old l) → IsIdle old cell → IsIdle new cell
idle_same old new cell same idle l h = idle l (let P : List ℕ → Type 0 = λ x. Contains x cell in subst P (same l) h)

pub idle_put : (l k cell : ℕ) (old new : ListsState) → Puts l k old new → cell ≢ k → IsIdle old cell → IsIdle new cell
idle_put l k cell old new puts ne idle m h = elim (put_cases l k old new puts m cell h) [ inl q ↦ ne q.1 | inr q ↦ idle m q ]

-- new literals by their codes

pub pushed_fits : (w : List Literal) (a b : Literal) (k n : ℕ) → k ≡ length w → code_of a < n → code_of (watched_in ((w ++ a ∷ []) ++ b ∷ []) k) < n
pushed_fits w a b k n e h =
    let m = length-append w (a ∷ []) in
    let here : watched_in ((w ++ a ∷ []) ++ b ∷ []) k ≡ a = get_or_append_left (w ++ a ∷ []) (b ∷ []) (literal 0 true) k (omega arith) ∙ get_or_push w a (literal 0 true) k (omega arith) in
    let P : Literal → Type 0 = λ x. code_of x < n in
    subst P (sym here) h

pub pushed_fits_too : (w : List Literal) (a b : Literal) (k n : ℕ) → k ≡ length w + 1 → code_of b < n → code_of (watched_in ((w ++ a ∷ []) ++ b ∷ []) k) < n
pushed_fits_too w a b k n e h =
    let m = length-append w (a ∷ []) in
    let here : watched_in ((w ++ a ∷ []) ++ b ∷ []) k ≡ b = get_or_push (w ++ a ∷ []) b (literal 0 true) k (omega arith) in
    let P : Literal → Type 0 = λ x. code_of x < n in
    subst P (sym here) h

-- short clauses

module _ (cs : List (List Literal)) (c : List Literal) (short : List ℕ) (before : AreShort cs short) where
  short_still : (place : ℕ) → IsShort cs place → IsShort (cs ++ c ∷ []) place
  short_still place (lt, few) = let n = length-append cs (c ∷ []) in let P : List Literal → Type 0 = λ x. length x ≤ 1 in (omega arith, subst P (sym (old_clause cs c place lt)) few)

  short_before : (place : ℕ) → place < length cs → IsShort (cs ++ c ∷ []) place → IsShort cs place
  short_before place lt (b, few) = let P : List Literal → Type 0 = λ x. length x ≤ 1 in (lt, subst P (old_clause cs c place lt) few)

  pub short_added : (n : ℕ) → n ≡ length cs → length c ≤ 1 → AreShort (cs ++ c ∷ []) (short ++ n ∷ [])
  short_added n n_is few =
      let m = length-append cs (c ∷ []) in
      let P : List Literal → Type 0 = λ x. length x ≤ 1 in (
        All-push (IsShort (cs ++ c ∷ [])) short n (All-weaker (IsShort cs) (IsShort (cs ++ c ∷ [])) short_still short before.0) (omega arith, subst P (sym (new_clause cs c n n_is)) few),
        λ place is_short. elim (cases_lt place (length cs)) [
          | inl lt ↦ Contains-append_left short (n ∷ []) place (before.1 place (short_before place lt is_short))
          | inr ge ↦
              let b = is_short.0 in
              let e : n ≡ place = omega arith in
              let Q : ℕ → Type 0 = λ k. Contains (short ++ n ∷ []) k in
              subst Q e (Contains-push short n)
        ],
      )

  pub short_same : 1 < length c → AreShort (cs ++ c ∷ []) short
  short_same long =
      let m = length-append cs (c ∷ []) in (
        All-weaker (IsShort cs) (IsShort (cs ++ c ∷ [])) short_still short before.0,
        λ place is_short. elim (cases_lt place (length cs)) [
          | inl lt ↦ before.1 place (short_before place lt is_short)
          | inr ge ↦
              let b = is_short.0 in
              let e : place ≡ length cs = omega arith in
              let P : List Literal → Type 0 = λ x. length x ≤ 1 in
              let few : length c ≤ 1 = subst P (new_clause cs c place e) is_short.1 in
              absurd (omega arith)
        ],
      )
