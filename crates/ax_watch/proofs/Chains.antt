-- Laws of linked lists.
use Rattle.std.proofs.Common.{◌≡◌, ◌≢◌, ℕ, zero, suc, ◌+◌, ◌-◌, ◌<◌, ◌≤◌, List, [], ◌∷◌, ◌++◌, length, get_or, set, replicate, arith, ◌⊎◌, inl, inr, refl, sym, subst, ap, ◌∙◌, Bool, false, cond, eqb, get_or-set_other, get_or-set_same, length-append, length-set}
use Rattle.std.specs.List.{Contains, IsDistinct, AllByRecursion}
use Rattle.std.proofs.lemmas.Bool.{cases_eq, cases_lt, ne_eqb, eq-eqb, eqb-true}
use Rattle.std.proofs.lemmas.Map.Keys.{IsDistinct-cons}
use Rattle.std.proofs.lemmas.Map.Steps.{length-le_from_distinct_below}
use Rattle.std.proofs.lemmas.Map.Views.{Contains-from_any}
use Rattle.std.proofs.lemmas.List.{get_or_default, get_or_past, get_or_append_left, get_or-append_right, get_or-replicate, length-replicate}
use Rattle.ax_proof.proofs.Lists.{Contains-here, Contains-there, Contains-cons_cases, Contains-none}
use Rattle.ax_watch.specs.Lists.{cells_from, list_of, IsChain, IsOnce, AreLinked, Puts, Takes, Moves}

-- a chain that no cell leaves stays one where the cell's link changes
pub chain_kept : (next : List ℕ) (k v : ℕ) (xs : List ℕ) (link : ℕ) → (Contains xs k → ⊥) → IsChain next link xs → IsChain (set next k v) link xs
chain_kept next k v [] link away e = e
chain_kept next k v (c ∷ cs) link away (e, rest) =
    let ne : c ≢ k = λ q. away (let P : ℕ → Type 0 = λ x. Contains (c ∷ cs) x in subst P q (Contains-here c cs)) in
    let P : ℕ → Type 0 = λ n. IsChain (set next k v) n cs in
    (e, subst P (sym (get_or-set_other next k c v 0 ne)) (chain_kept next k v cs (get_or next c 0) (λ h. away (Contains-there c cs k h)) rest))

-- more cells in the table
pub chain_more : (next more xs : List ℕ) (link : ℕ) → ((k : ℕ) → Contains xs k → k < length next) → IsChain next link xs → IsChain (next ++ more) link xs
chain_more next more [] link below e = e
chain_more next more (c ∷ cs) link below (e, rest) =
    let P : ℕ → Type 0 = λ n. IsChain (next ++ more) n cs in
    let lt : c < length next = below c (Contains-here c cs) in
    (e, subst P (sym (get_or_append_left next more 0 c lt)) (chain_more next more cs (get_or next c 0) (λ k h. below k (Contains-there c cs k h)) rest))

chain_fits : (next xs : List ℕ) (most link : ℕ) → length xs ≤ most → IsChain next link xs → cells_from next most link ≡ xs
chain_fits next [] zero link fits e = refl
chain_fits next [] (suc most) zero fits e = refl
chain_fits next [] (suc most) (suc link) fits e = absurd (omega arith)
chain_fits next (c ∷ cs) zero link fits (e, rest) = absurd (omega arith)
chain_fits next (c ∷ cs) (suc most) zero fits (e, rest) = absurd (omega arith)
chain_fits next (c ∷ cs) (suc most) (suc link) fits (e, rest) =
    let same : link ≡ c = omega arith in
    let P : ℕ → List ℕ = λ x. x ∷ cells_from next most (get_or next x 0) in
    let Q : List ℕ → List ℕ = λ x. c ∷ x in
    ap P same ∙ ap Q (chain_fits next cs most (get_or next c 0) (omega arith) rest)

-- how long a list without repeats can be

apart_all : (x : ℕ) (ys : List ℕ) → (Contains ys x → ⊥) → AllByRecursion (λ y. eqb x y ≡ false) ys
apart_all x [] away = tt
apart_all x (y ∷ ys) away =
    let ne : x ≢ y = λ q. away (let P : ℕ → Type 0 = λ z. Contains (y ∷ ys) z in subst P (sym q) (Contains-here y ys)) in
    (ne_eqb x y ne, apart_all x ys (λ h. away (Contains-there y ys x h)))

once_distinct : (xs : List ℕ) → IsOnce xs → IsDistinct eqb xs
unfolding IsDistinct
once_distinct [] h = tt
once_distinct (x ∷ xs) (away, rest) = IsDistinct-cons eqb x xs (apart_all x xs away) (once_distinct xs rest)

once_fits : (xs : List ℕ) (n : ℕ) → IsOnce xs → ((k : ℕ) → Contains xs k → k < n) → length xs ≤ n
once_fits xs n once below = length-le_from_distinct_below xs n (once_distinct xs once) (λ q h. below q (Contains-from_any (λ x y e. eqb-true x y e) q xs h))

-- all lists together

module _ (first next : List ℕ) (list : ℕ → List ℕ) (linked : AreLinked first next list) where
  pub list_is : (l : ℕ) → list_of first next l ≡ list l
  list_is l = chain_fits next (list l) (length next) (get_or first l 0) (once_fits (list l) (length next) (linked.once l) (linked.below l)) (linked.chained l)

  pub linked_again : AreLinked first next (list_of first next)
  linked_again =
      let back : (l k : ℕ) → Contains (list_of first next l) k → Contains (list l) k = λ l k. let P : List ℕ → Type 0 = λ x. Contains x k in subst P (list_is l) in
      record {
        chained = λ l. let P : List ℕ → Type 0 = λ x. IsChain next (get_or first l 0) x in subst P (sym (list_is l)) (linked.chained l);
        below = λ l k h. linked.below l k (back l k h);
        once = λ l. let P : List ℕ → Type 0 = λ x. IsOnce x in subst P (sym (list_is l)) (linked.once l);
        apart = λ l m k h g. linked.apart l m k (back l k h) (back m k g);
      }

-- one list replaced
abbrev pub with_list : (ℕ → List ℕ) → ℕ → List ℕ → ℕ → List ℕ
with_list list l xs m = cond (eqb m l) xs (list m)

pub list_here : (list : ℕ → List ℕ) (l : ℕ) (xs : List ℕ) → with_list list l xs l ≡ xs
list_here list l xs = let P : Bool → List ℕ = λ b. cond b xs (list l) in ap P (eq-eqb l l refl)

pub list_other : (list : ℕ → List ℕ) (l : ℕ) (xs : List ℕ) (m : ℕ) → m ≢ l → with_list list l xs m ≡ list m
list_other list l xs m ne = let P : Bool → List ℕ = λ b. cond b xs (list m) in ap P (ne_eqb m l ne)

-- a fact about each list, told of the replaced one and of the others
at_each : (P : ℕ → List ℕ → Type 0) (list : ℕ → List ℕ) (l : ℕ) (xs : List ℕ) → P l xs → ((m : ℕ) → m ≢ l → P m (list m)) → (m : ℕ) → P m (with_list list l xs m)
at_each P list l xs here others m =
    elim (cases_eq m l) [
      | inl e ↦
          let Q : ℕ → Type 0 = λ x. P x (with_list list l xs x) in
          let R : List ℕ → Type 0 = λ x. P l x in
          subst Q (sym e) (subst R (sym (list_here list l xs)) here)
      | inr ne ↦ let R : List ℕ → Type 0 = λ x. P m x in subst R (sym (list_other list l xs m ne)) (others m ne)
    ]

module _ (first next : List ℕ) (list : ℕ → List ℕ) (linked : AreLinked first next list) (l : ℕ) (within : l < length first) where
  first_here : (v : ℕ) → get_or (set first l v) l 0 ≡ v
  first_here v = get_or-set_same first l v 0 within

  first_other : (v m : ℕ) → m ≢ l → get_or (set first l v) m 0 ≡ get_or first m 0
  first_other v m ne = get_or-set_other first l m v 0 ne

  -- a cell put before the others
  pub linked_push : (k : ℕ) → k < length next → ((m : ℕ) → Contains (list m) k → ⊥) → AreLinked (set first l (k + 1)) (set next k (get_or first l 0)) (with_list list l (k ∷ list l))
  linked_push k below idle = record {
    chained =
        at_each (λ m x. IsChain (set next k (get_or first l 0)) (get_or (set first l (k + 1)) m 0) x) list l (k ∷ list l)
        (first_here (k + 1), (let P : ℕ → Type 0 = λ n. IsChain (set next k (get_or first l 0)) n (list l) in subst P (sym (get_or-set_same next k (get_or first l 0) 0 below)) (chain_kept next k (get_or first l 0) (list l) (get_or first l 0) (idle l) (linked.chained l))))
        (λ m ne. let P : ℕ → Type 0 = λ n. IsChain (set next k (get_or first l 0)) n (list m) in subst P (sym (first_other (k + 1) m ne)) (chain_kept next k (get_or first l 0) (list m) (get_or first m 0) (idle m) (linked.chained m)));
    below =
        let same : length (set next k (get_or first l 0)) ≡ length next = length-set next k (get_or first l 0) in
        at_each (λ m x. (c : ℕ) → Contains x c → c < length (set next k (get_or first l 0))) list l (k ∷ list l)
        (λ c h. elim (Contains-cons_cases k (list l) c h) [ inl e ↦ omega arith | inr q ↦ let b = linked.below l c q in omega arith ])
        (λ m ne c h. let b = linked.below m c h in omega arith);
    once = at_each (λ m x. IsOnce x) list l (k ∷ list l) (idle l, linked.once l) (λ m ne. linked.once m);
    apart =
        let where_is : (m c : ℕ) → Contains (with_list list l (k ∷ list l) m) c → (Contains (list m) c) ⊎ ((m ≡ l) × (c ≡ k)) =
        at_each (λ m x. (c : ℕ) → Contains x c → (Contains (list m) c) ⊎ ((m ≡ l) × (c ≡ k))) list l (k ∷ list l)
        (λ c h. elim (Contains-cons_cases k (list l) c h) [ inl e ↦ inr (refl, e) | inr q ↦ inl q ])
        (λ m ne c h. inl h)
        in
        let not_there : (m c : ℕ) → Contains (list m) c → c ≡ k → ⊥ = λ m c h e. idle m (let P : ℕ → Type 0 = λ x. Contains (list m) x in subst P e h) in
        λ m n c h g. elim (where_is m c h) [
          | inl p ↦ elim (where_is n c g) [ inl q ↦ linked.apart m n c p q | inr q ↦ absurd (not_there m c p q.1) ]
          | inr p ↦ elim (where_is n c g) [ inl q ↦ absurd (not_there n c q p.1) | inr q ↦ p.0 ∙ sym q.0 ]
        ];
  }

  -- the first cell taken out
  module _ (k : ℕ) (rest : List ℕ) (begins : list l ≡ k ∷ rest) where
    chained_there : IsChain next (get_or first l 0) (k ∷ rest)
    chained_there = let P : List ℕ → Type 0 = λ x. IsChain next (get_or first l 0) x in subst P begins (linked.chained l)

    once_there : IsOnce (k ∷ rest)
    once_there = let P : List ℕ → Type 0 = λ x. IsOnce x in subst P begins (linked.once l)

    was_there : (c : ℕ) → Contains rest c → Contains (list l) c
    was_there c h = let P : List ℕ → Type 0 = λ x. Contains x c in subst P (sym begins) (Contains-there k rest c h)

    first_was_there : Contains (list l) k
    first_was_there = let P : List ℕ → Type 0 = λ x. Contains x k in subst P (sym begins) (Contains-here k rest)

    where_was : (m c : ℕ) → Contains (with_list list l rest m) c → Contains (list m) c
    where_was = at_each (λ m x. (c : ℕ) → Contains x c → Contains (list m) c) list l rest was_there (λ m ne c h. h)

    pub linked_pop : AreLinked (set first l (get_or next k 0)) next (with_list list l rest)
    linked_pop = record {
      chained =
          at_each (λ m x. IsChain next (get_or (set first l (get_or next k 0)) m 0) x) list l rest
          (let P : ℕ → Type 0 = λ n. IsChain next n rest in subst P (sym (first_here (get_or next k 0))) chained_there.1)
          (λ m ne. let P : ℕ → Type 0 = λ n. IsChain next n (list m) in subst P (sym (first_other (get_or next k 0) m ne)) (linked.chained m));
      below = λ m c h. linked.below m c (where_was m c h);
      once = at_each (λ m x. IsOnce x) list l rest once_there.1 (λ m ne. linked.once m);
      apart = λ m n c h g. linked.apart m n c (where_was m c h) (where_was n c g);
    }

    pub pop_below : k < length next
    pop_below = linked.below l k first_was_there

    pub pop_idle : (m : ℕ) → Contains (with_list list l rest m) k → ⊥
    pop_idle =
        at_each (λ m x. Contains x k → ⊥) list l rest once_there.0
        (λ m ne h. ne (linked.apart m l k h first_was_there))

    pub pop_link : get_or first l 0 ≡ k + 1
    pop_link = chained_there.0

  -- a list whose link is none is empty
  pub none_there : get_or first l 0 ≡ 0 → list l ≡ []
  none_there e = none_of (list l) (linked.chained l)
    where
      none_of : (xs : List ℕ) → IsChain next (get_or first l 0) xs → xs ≡ []
      none_of [] h = refl
      none_of (x ∷ xs) h = let a = h.0 in absurd (omega arith)

  -- a list whose link leads to a cell begins with it
  pub begins_there : (k : ℕ) → get_or first l 0 ≡ k + 1 → (rest : List ℕ) × (list l ≡ k ∷ rest)
  begins_there k e = begin_of (list l) (linked.chained l)
    where
      begin_of : (xs : List ℕ) → IsChain next (get_or first l 0) xs → (rest : List ℕ) × (xs ≡ k ∷ rest)
      begin_of [] h = absurd (omega arith)
      begin_of (x ∷ xs) h = let a = h.0 in let same : x ≡ k = omega arith in (xs, ap (λ (y : ℕ). y ∷ xs) same)

-- all of a list moved to another that has none
module _ (first next : List ℕ) (list : ℕ → List ℕ) (linked : AreLinked first next list) (from to : ℕ) (from_in : from < length first) (to_in : to < length first) (differ : from ≢ to) (none : list to ≡ []) where
  abbrev moved : ℕ → List ℕ
  moved = with_list (with_list list to (list from)) from []

  moved_each : (P : ℕ → List ℕ → Type 0) → P from [] → P to (list from) → ((m : ℕ) → m ≢ from → m ≢ to → P m (list m)) → (m : ℕ) → P m (moved m)
  moved_each P a b others =
      at_each P (with_list list to (list from)) from [] a (λ m ne.
      elim (cases_eq m to) [
        | inl e ↦
            let Q : ℕ → Type 0 = λ x. P x (with_list list to (list from) x) in
            let R : List ℕ → Type 0 = λ x. P to x in
            subst Q (sym e) (subst R (sym (list_here list to (list from))) b)
        | inr nt ↦ let R : List ℕ → Type 0 = λ x. P m x in subst R (sym (list_other list to (list from) m nt)) (others m ne nt)
      ])

  abbrev firsts : List ℕ
  firsts = set (set first to (get_or first from 0)) from 0

  first_from : get_or firsts from 0 ≡ 0
  first_from = get_or-set_same (set first to (get_or first from 0)) from 0 0 (let n = length-set first to (get_or first from 0) in omega arith)

  first_to : get_or firsts to 0 ≡ get_or first from 0
  first_to = get_or-set_other (set first to (get_or first from 0)) from to 0 0 (λ e. differ (sym e)) ∙ get_or-set_same first to (get_or first from 0) 0 to_in

  first_rest : (m : ℕ) → m ≢ from → m ≢ to → get_or firsts m 0 ≡ get_or first m 0
  first_rest m nf nt = get_or-set_other (set first to (get_or first from 0)) from m 0 0 nf ∙ get_or-set_other first to m (get_or first from 0) 0 nt

  came : (m c : ℕ) → Contains (moved m) c → (Contains (list from) c × (m ≡ to)) ⊎ ((m ≢ from) × (m ≢ to) × Contains (list m) c)
  came =
      moved_each (λ m x. (c : ℕ) → Contains x c → (Contains (list from) c × (m ≡ to)) ⊎ ((m ≢ from) × (m ≢ to) × Contains (list m) c))
      (λ c h. absurd (Contains-none c h))
      (λ c h. inl (h, refl))
      (λ m nf nt c h. inr (nf, nt, h))

  pub linked_moved : AreLinked (set (set first to (get_or first from 0)) from 0) next (with_list (with_list list to (list from)) from [])
  linked_moved = record {
    chained =
        let P : List ℕ → ℕ → Type 0 = λ x n. IsChain next n x in
        moved_each (λ m x. IsChain next (get_or firsts m 0) x)
        first_from
        (subst (P (list from)) (sym first_to) (linked.chained from))
        (λ m nf nt. subst (P (list m)) (sym (first_rest m nf nt)) (linked.chained m));
    below = moved_each (λ m x. (c : ℕ) → Contains x c → c < length next) (λ c h. absurd (Contains-none c h)) (linked.below from) (λ m nf nt. linked.below m);
    once = moved_each (λ m x. IsOnce x) tt (linked.once from) (λ m nf nt. linked.once m);
    apart = λ m n c h g. elim (came m c h) [
      | inl p ↦ elim (came n c g) [ inl q ↦ p.1 ∙ sym q.1 | inr q ↦ absurd (q.0 (sym (linked.apart from n c p.0 q.2))) ]
      | inr p ↦ elim (came n c g) [ inl q ↦ absurd (p.0 (linked.apart m from c p.2 q.0)) | inr q ↦ linked.apart m n c p.2 q.2 ]
    ];
  }

  pub moved_there : with_list (with_list list to (list from)) from [] to ≡ list from
  moved_there = list_other (with_list list to (list from)) from [] to (λ e. differ (sym e)) ∙ list_here list to (list from)

  pub moved_none : with_list (with_list list to (list from)) from [] from ≡ []
  moved_none = list_here (with_list list to (list from)) from []

  pub moved_others : (m : ℕ) → m ≢ from → m ≢ to → with_list (with_list list to (list from)) from [] m ≡ list m
  moved_others m nf nt = list_other (with_list list to (list from)) from [] m nf ∙ list_other list to (list from) m nt

-- what the calls make of the links

module _ (first next : List ℕ) (room l : ℕ) (linked : AreLinked first next (list_of first next)) (within : l < length first) where
  module _ (k v : ℕ) (below : k < length next) (idle : (m : ℕ) → Contains (list_of first next m) k → ⊥) (read : v ≡ get_or first l v) where
    link_read : v ≡ get_or first l 0
    link_read = read ∙ get_or_default first l v 0 within

    raw_put : AreLinked (set first l (k + 1)) (set next k v) (with_list (list_of first next) l (k ∷ list_of first next l))
    raw_put = let P : ℕ → Type 0 = λ n. AreLinked (set first l (k + 1)) (set next k n) (with_list (list_of first next) l (k ∷ list_of first next l)) in subst P (sym link_read) (linked_push first next (list_of first next) linked l within k below idle)

    pub put_linked : AreLinked (set first l (k + 1)) (set next k v) (list_of (set first l (k + 1)) (set next k v))
    put_linked = linked_again _ _ _ raw_put

    pub put_says : Puts l k (record { first = first; next = next; room = room }) (record { first = set first l (k + 1); next = set next k v; room = room })
    put_says = record {
      here = list_is _ _ _ raw_put l ∙ list_here (list_of first next) l (k ∷ list_of first next l);
      others = λ m ne. list_is _ _ _ raw_put m ∙ list_other (list_of first next) l (k ∷ list_of first next l) m ne;
      size = record { lists = length-set first l (k + 1); cells = length-set next k v; room = refl };
    }

  module _ (link v : ℕ) (read : link ≡ get_or first l link) (some : link ≢ 0) where
    taken : (rest : List ℕ) × (list_of first next l ≡ (link - 1) ∷ rest)
    taken = let e : link ≡ get_or first l 0 = read ∙ get_or_default first l link 0 within in begins_there first next (list_of first next) linked l within (link - 1) (omega arith)

    pub taken_below : link - 1 < length next
    taken_below = pop_below first next (list_of first next) linked l within (link - 1) taken.0 taken.1

    module _ (next_read : v ≡ get_or next (link - 1) v) where
      next_is : v ≡ get_or next (link - 1) 0
      next_is = next_read ∙ get_or_default next (link - 1) v 0 taken_below

      raw_taken : AreLinked (set first l v) next (with_list (list_of first next) l taken.0)
      raw_taken = let P : ℕ → Type 0 = λ n. AreLinked (set first l n) next (with_list (list_of first next) l taken.0) in subst P (sym next_is) (linked_pop first next (list_of first next) linked l within (link - 1) taken.0 taken.1)

      pub taken_linked : AreLinked (set first l v) next (list_of (set first l v) next)
      taken_linked = linked_again _ _ _ raw_taken

      pub taken_says : Takes l (link - 1) (record { first = first; next = next; room = room }) (record { first = set first l v; next = next; room = room })
      taken_says = record {
        here =
            let cons : List ℕ → List ℕ = λ x. (link - 1) ∷ x in
            taken.1 ∙ ap cons (sym (list_is _ _ _ raw_taken l ∙ list_here (list_of first next) l taken.0));
        others = λ m ne. list_is _ _ _ raw_taken m ∙ list_other (list_of first next) l taken.0 m ne;
        within = taken_below;
        idle = λ m h. pop_idle first next (list_of first next) linked l within (link - 1) taken.0 taken.1 m (let P : List ℕ → Type 0 = λ x. Contains x (link - 1) in subst P (list_is _ _ _ raw_taken m) h);
        size = record { lists = length-set first l v; cells = refl; room = refl };
      }

module _ (first next : List ℕ) (room from to v : ℕ) (linked : AreLinked first next (list_of first next)) (from_in : from < length first) (to_in : to < length first) (differ : from ≢ to) (none : list_of first next to ≡ []) (read : v ≡ get_or first from v) where
  raw_moved : AreLinked (set (set first to v) from 0) next (with_list (with_list (list_of first next) to (list_of first next from)) from [])
  raw_moved =
      let P : ℕ → Type 0 = λ n. AreLinked (set (set first to n) from 0) next (with_list (with_list (list_of first next) to (list_of first next from)) from []) in
      subst P (sym (read ∙ get_or_default first from v 0 from_in)) (linked_moved first next (list_of first next) linked from to from_in to_in differ none)

  pub move_linked : AreLinked (set (set first to v) from 0) next (list_of (set (set first to v) from 0) next)
  move_linked = linked_again _ _ _ raw_moved

  pub move_says : Moves from to (record { first = first; next = next; room = room }) (record { first = set (set first to v) from 0; next = next; room = room })
  move_says = record {
    there = list_is _ _ _ raw_moved to ∙ moved_there first next (list_of first next) linked from to from_in to_in differ none;
    none = list_is _ _ _ raw_moved from ∙ moved_none first next (list_of first next) linked from to from_in to_in differ none;
    others = λ m nf nt. list_is _ _ _ raw_moved m ∙ moved_others first next (list_of first next) linked from to from_in to_in differ none m nf nt;
    size = record { lists = length-set (set first to v) from 0 ∙ length-set first to v; cells = refl; room = refl };
  }

-- more lists, and more cells, with nothing in them

abbrev zeros : ℕ → List ℕ
zeros n = replicate n 0

module _ (first next : List ℕ) (linked : AreLinked first next (list_of first next)) (more : ℕ) where
  first_wider : (l : ℕ) → get_or (first ++ zeros more) l 0 ≡ get_or first l 0
  first_wider l =
      elim (cases_lt l (length first)) [
        | inl lt ↦ get_or_append_left first (zeros more) 0 l lt
        | inr ge ↦ get_or-append_right first (zeros more) (length first) l 0 refl ge ∙ past (l - length first) ∙ sym (get_or_past first l 0 ge)
      ]
    where
      past : (k : ℕ) → get_or (zeros more) k 0 ≡ 0
      past k =
          elim (cases_lt k more) [
            | inl lt ↦ get_or-replicate more k 0 0 lt
            | inr ge ↦ get_or_past (zeros more) k 0 (let n : length (zeros more) ≡ more = length-replicate more 0 in omega arith)
          ]

  raw_wider : AreLinked (first ++ zeros more) next (list_of first next)
  raw_wider = record {
    chained = λ l. let P : ℕ → Type 0 = λ n. IsChain next n (list_of first next l) in subst P (sym (first_wider l)) (linked.chained l);
    below = linked.below;
    once = linked.once;
    apart = linked.apart;
  }

  pub wider_linked : AreLinked (first ++ zeros more) next (list_of (first ++ zeros more) next)
  wider_linked = linked_again _ _ _ raw_wider

  pub wider_same : (l : ℕ) → list_of (first ++ zeros more) next l ≡ list_of first next l
  wider_same l = list_is _ _ _ raw_wider l

module _ (first next : List ℕ) (linked : AreLinked first next (list_of first next)) where
  raw_grown : AreLinked first (next ++ 0 ∷ []) (list_of first next)
  raw_grown =
      let n : length (next ++ 0 ∷ []) ≡ length next + 1 = length-append next (0 ∷ []) in
      record {
        chained = λ l. chain_more next (0 ∷ []) (list_of first next l) (get_or first l 0) (linked.below l) (linked.chained l);
        below = λ l k h. let b = linked.below l k h in omega arith;
        once = linked.once;
        apart = linked.apart;
      }

  pub grown_linked : AreLinked first (next ++ 0 ∷ []) (list_of first (next ++ 0 ∷ []))
  grown_linked = linked_again _ _ _ raw_grown

  pub grown_same : (l : ℕ) → list_of first (next ++ 0 ∷ []) l ≡ list_of first next l
  grown_same l = list_is _ _ _ raw_grown l

  pub grown_idle : (l : ℕ) → Contains (list_of first (next ++ 0 ∷ []) l) (length next) → ⊥
  grown_idle l h = let b = linked.below l (length next) (let P : List ℕ → Type 0 = λ x. Contains x (length next) in subst P (grown_same l) h) in absurd (omega arith)
