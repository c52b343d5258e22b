-- All cells of a list moved to another, one by one.
use Rattle.std.proofs.Common.{◌≡◌, ◌≢◌, ℕ, ◌<◌, List, [], ◌∷◌, length, arith, ◌⊎◌, inl, inr, refl, sym, subst, ap, ◌∙◌}
use Rattle.std.specs.List.{Contains}
use Rattle.ax_proof.proofs.Lists.{Contains-here, Contains-there, Contains-none, Contains-cons_cases}
use Rattle.ax_watch.specs.Lists.{ListsState, list_in, IsAsLarge, Puts, Takes, Pours}

pub record Poured (from to : ℕ) (old now : ListsState) : Type 0 where
  pub there : (cell : ℕ) → Contains (list_in old from) cell ⊎ Contains (list_in old to) cell → Contains (list_in now from) cell ⊎ Contains (list_in now to) cell
  pub only : (cell : ℕ) → Contains (list_in now from) cell ⊎ Contains (list_in now to) cell → Contains (list_in old from) cell ⊎ Contains (list_in old to) cell
  pub others : (m : ℕ) → m ≢ from → m ≢ to → list_in now m ≡ list_in old m
  pub size : IsAsLarge old now

pub poured_none : (from to : ℕ) (old : ListsState) → Poured from to old old
poured_none from to old = record { there = λ c h. h; only = λ c h. h; others = λ m a b. refl; size = record { lists = refl; cells = refl; room = refl } }

module _ (from to : ℕ) (old now taken put : ListsState) (cell : ℕ) (differ : from ≢ to) (before : Poured from to old now) (takes : Takes from cell now taken) (puts : Puts to cell taken put) where
  from_same : list_in put from ≡ list_in taken from
  from_same = puts.others from differ

  to_is : list_in put to ≡ cell ∷ list_in now to
  to_is = let cons : List ℕ → List ℕ = λ x. cell ∷ x in puts.here ∙ ap cons (takes.others to (λ e. differ (sym e)))

  now_put : (c : ℕ) → Contains (list_in now from) c ⊎ Contains (list_in now to) c → Contains (list_in put from) c ⊎ Contains (list_in put to) c
  now_put c (inl h) =
      let P : List ℕ → Type 0 = λ x. Contains x c in
      elim (Contains-cons_cases cell (list_in taken from) c (subst P takes.here h)) [
        | inl e ↦ inr (subst P (sym to_is) (let Q : ℕ → Type 0 = λ n. Contains (cell ∷ list_in now to) n in subst Q (sym e) (Contains-here cell (list_in now to))))
        | inr q ↦ inl (subst P (sym from_same) q)
      ]
  now_put c (inr h) = let P : List ℕ → Type 0 = λ x. Contains x c in inr (subst P (sym to_is) (Contains-there cell (list_in now to) c h))

  put_now : (c : ℕ) → Contains (list_in put from) c ⊎ Contains (list_in put to) c → Contains (list_in now from) c ⊎ Contains (list_in now to) c
  put_now c (inl h) = let P : List ℕ → Type 0 = λ x. Contains x c in inl (subst P (sym takes.here) (Contains-there cell (list_in taken from) c (subst P from_same h)))
  put_now c (inr h) =
      let P : List ℕ → Type 0 = λ x. Contains x c in
      elim (Contains-cons_cases cell (list_in now to) c (subst P to_is h)) [
        | inl e ↦ inl (subst P (sym takes.here) (let Q : ℕ → Type 0 = λ n. Contains (cell ∷ list_in taken from) n in subst Q (sym e) (Contains-here cell (list_in taken from))))
        | inr q ↦ inr q
      ]

  pub poured_more : Poured from to old put
  poured_more = record {
    there = λ c h. now_put c (before.there c h);
    only = λ c h. before.only c (put_now c h);
    others = λ m a b. puts.others m b ∙ takes.others m a ∙ before.others m a b;
    size = record {
      lists = puts.size.lists ∙ takes.size.lists ∙ before.size.lists;
      cells = puts.size.cells ∙ takes.size.cells ∙ before.size.cells;
      room = puts.size.room ∙ takes.size.room ∙ before.size.room;
    };
  }

  pub poured_fewer : length (list_in put from) < length (list_in now from)
  poured_fewer =
      let a : length (list_in now from) ≡ length (cell ∷ list_in taken from) = ap length takes.here in
      let b : length (list_in put from) ≡ length (list_in taken from) = ap length from_same in
      omega arith

pub poured_all : (from to : ℕ) (old now : ListsState) → Poured from to old now → list_in now from ≡ [] → Pours from to old now
poured_all from to old now h none =
    let P : (c : ℕ) → List ℕ → Type 0 = λ c x. Contains x c in
    record {
      none = none;
      there = λ c q. elim (h.there c q) [ inl a ↦ absurd (Contains-none c (subst (P c) none a)) | inr b ↦ b ];
      only = λ c q. h.only c (inr q);
      others = h.others;
      size = h.size;
    }
