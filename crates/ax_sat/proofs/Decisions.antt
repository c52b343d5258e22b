-- How decisions go on and are taken back.
use Rattle.std.proofs.Common.{true, ◌≡◌, ℕ, ◌+◌, ◌<◌, ◌≤◌, List, [], ◌∷◌, ◌++◌, length, take, get_or, arith, ◌⊎◌, inl, inr, refl, sym, subst, ◌∙◌, length-append, length-take}
use Rattle.std.specs.List.{All, Contains}
use Rattle.std.proofs.lemmas.Bool.{cases_order, cases_lt}
use Rattle.std.proofs.lemmas.List.{take-append-le, get_or_append_left, get_or_push, length-take-le, take-take, get_or-take, get_or_default, take_all}
use Rattle.std.proofs.lemmas.List.Elements.{Contains-append_left, Contains-push, All-push}
use Rattle.ax_proof.specs.Literal.{Literal}
use Rattle.ax_proof.specs.Trail.{IsOpen, IsSettled, TrailState}
use Rattle.ax_proof.specs.Runs.{Begins, GoesOn}
use Rattle.ax_proof.proofs.Lists.{Contains-none, Contains-take}
use Rattle.ax_proof.proofs.Runs.{begins_take, begins_get, begins_contains}
use Rattle.ax_watch.specs.Watch.{WatchState, assuming, cut}
use Rattle.ax_sat.specs.Levels.{AreTrue, Stands, Asks}

at_push : (starts : List ℕ) (n i : ℕ) → i < length (starts ++ n ∷ []) → ((i < length starts) × (get_or (starts ++ n ∷ []) i 0 ≡ get_or starts i 0)) ⊎ ((i ≡ length starts) × (get_or (starts ++ n ∷ []) i 0 ≡ n))
at_push starts n i lt =
    let m = length-append starts (n ∷ []) in
    elim (cases_lt i (length starts)) [
      | inl less ↦ inl (less, get_or_append_left starts (n ∷ []) 0 i less)
      | inr more ↦ let e : i ≡ length starts = omega arith in inr (e, get_or_push starts n 0 i (sym e))
    ]

-- the same decisions over a longer trail
module _ (cs : List (List Literal)) (old new : List Literal) (reasons more starts : List ℕ) (s : Stands cs old reasons starts) (paired : length reasons ≡ length old) (lits : Begins old new) (numbers : Begins reasons more) where
  longer : length old ≤ length new
  longer = let e = lits.1 in let n = length-append old lits.0 in let P : List Literal → Type 0 = λ z. length old ≤ length z in subst P (sym e) (omega arith)

  pub stands_longer : ((at : ℕ) → length old ≤ at → at < length new → get_or more at 0 ≡ 0 → Contains starts at) → Stands cs new more starts
  stands_longer decided = record {
    within = λ i h. let w = s.within i h in let l = longer in omega arith;
    rising = s.rising;
    settled = λ i h.
        let w = s.within i h in
        let P : List Literal → Type 0 = λ z. All (IsSettled z) cs in
        subst P (sym (begins_take old new lits (get_or starts i 0) (omega arith))) (s.settled i h);
    decided = λ at lt e.
        elim (cases_lt at (length old)) [
          | inl less ↦ s.decided at less (sym (begins_get reasons more numbers at 0 (omega arith)) ∙ e)
          | inr late ↦ decided at late lt e
        ];
  }

pub asks_longer : (assumed old new : List Literal) (starts : List ℕ) (roots asked : ℕ) → ((i : ℕ) → i < length starts → get_or starts i 0 < length old) → Begins old new → Asks assumed old starts roots asked → Asks assumed new starts roots asked
asks_longer assumed old new starts roots asked within lits a = record {
  low = a.low;
  assumptions = λ i d h.
      let l = a.low in
      let w = within i (omega arith) in
      let P : Literal → Type 0 = λ z. Contains assumed z in
      subst P (sym (begins_get old new lits (get_or starts i 0) d w)) (a.assumptions i d h);
  later = λ i low h.
      let w = within i h in
      let P : List Literal → Type 0 = λ z. AreTrue z assumed in
      subst P (sym (begins_take old new lits (get_or starts i 0) (omega arith))) (a.later i low h);
  told = λ l h. begins_contains old new lits l (a.told l h);
}

-- after unit propagation
module _ (cs : List (List Literal)) (old new : TrailState) (starts : List ℕ) (goes : GoesOn cs old new) (s : Stands cs old.lits old.reasons starts) (paired : length old.reasons ≡ length old.lits) where
  pub stands_on : Stands cs new.lits new.reasons starts
  stands_on =
      stands_longer cs old.lits new.lits old.reasons new.reasons starts s paired goes.lits goes.reasons
      (λ at low lt e. let f = (goes.forced at (record { var = 0; positive = true }) low lt).0 in absurd (omega arith))

  pub asks_on : (assumed : List Literal) (roots asked : ℕ) → Asks assumed old.lits starts roots asked → Asks assumed new.lits starts roots asked
  asks_on assumed roots asked a = asks_longer assumed old.lits new.lits starts roots asked s.within goes.lits a

-- one decision more
module _ (cs : List (List Literal)) (trail : List Literal) (reasons starts : List ℕ) (lit : Literal) (s : Stands cs trail reasons starts) where
  pub stands_more : length reasons ≡ length trail → All (IsSettled trail) cs → Stands cs (trail ++ lit ∷ []) (reasons ++ 0 ∷ []) (starts ++ length trail ∷ [])
  stands_more paired settled =
      let n = length-append trail (lit ∷ []) in
      let k = length-append reasons (0 ∷ []) in
      record {
        within = λ i h. elim (at_push starts (length trail) i h) [
          | inl q ↦ let w = s.within i q.0 in let e = q.1 in omega arith
          | inr q ↦ let e = q.1 in omega arith
        ];
        rising = λ i j ij h. elim (at_push starts (length trail) j h) [
          | inl q ↦
              let less : i < length starts = let l = q.0 in omega arith in
              let e : get_or (starts ++ length trail ∷ []) i 0 ≡ get_or starts i 0 = get_or_append_left starts (length trail ∷ []) 0 i less in
              let r = s.rising i j ij q.0 in
              let f = q.1 in
              omega arith
          | inr q ↦
              let less : i < length starts = let l = q.0 in omega arith in
              let e : get_or (starts ++ length trail ∷ []) i 0 ≡ get_or starts i 0 = get_or_append_left starts (length trail ∷ []) 0 i less in
              let w = s.within i less in
              let f = q.1 in
              omega arith
        ];
        settled = λ i h.
            let P : ℕ → Type 0 = λ z. All (IsSettled (take z (trail ++ lit ∷ []))) cs in
            let Q : List Literal → Type 0 = λ z. All (IsSettled z) cs in
            elim (at_push starts (length trail) i h) [
              | inl q ↦ let w = s.within i q.0 in subst P (sym q.1) (subst Q (sym (take-append-le (get_or starts i 0) trail (lit ∷ []) (omega arith))) (s.settled i q.0))
              | inr q ↦ subst P (sym q.1) (subst Q (sym (take-append-le (length trail) trail (lit ∷ []) (omega arith) ∙ take_all (length trail) trail (omega arith))) settled)
            ];
        decided = λ at lt e.
            elim (cases_lt at (length trail)) [
              | inl less ↦ Contains-append_left starts (length trail ∷ []) at (s.decided at less (sym (get_or_append_left reasons (0 ∷ []) 0 at (omega arith)) ∙ e))
              | inr late ↦ let here : length trail ≡ at = omega arith in let P : ℕ → Type 0 = λ z. Contains (starts ++ length trail ∷ []) z in subst P here (Contains-push starts (length trail))
            ];
      }

  -- one that is no assumption
  pub asks_free : (assumed : List Literal) (roots asked : ℕ) → Asks assumed trail starts roots asked → AreTrue trail assumed → Asks assumed (trail ++ lit ∷ []) (starts ++ length trail ∷ []) roots asked
  asks_free assumed roots asked a all =
      let m = length-append starts (length trail ∷ []) in
      record {
        low = let l = a.low in omega arith;
        assumptions = λ i d h.
            let less : i < length starts = let l = a.low in omega arith in
            let w = s.within i less in
            let P : Literal → Type 0 = λ z. Contains assumed z in
            let Q : ℕ → Type 0 = λ z. Contains assumed (get_or (trail ++ lit ∷ []) z d) in
            subst Q (sym (get_or_append_left starts (length trail ∷ []) 0 i less)) (subst P (sym (get_or_append_left trail (lit ∷ []) d (get_or starts i 0) w)) (a.assumptions i d h));
        later = λ i low h.
            let P : ℕ → Type 0 = λ z. AreTrue (take z (trail ++ lit ∷ [])) assumed in
            let Q : List Literal → Type 0 = λ z. AreTrue z assumed in
            elim (at_push starts (length trail) i h) [
              | inl q ↦ let w = s.within i q.0 in subst P (sym q.1) (subst Q (sym (take-append-le (get_or starts i 0) trail (lit ∷ []) (omega arith))) (a.later i low q.0))
              | inr q ↦ subst P (sym q.1) (subst Q (sym (take-append-le (length trail) trail (lit ∷ []) (omega arith) ∙ take_all (length trail) trail (omega arith))) all)
            ];
        told = λ l h. Contains-append_left trail (lit ∷ []) l (a.told l h);
      }

  -- an assumption that was open: then all decisions are assumptions
  pub asks_assumed : (assumed : List Literal) (roots asked : ℕ) → Asks assumed trail starts roots asked → Contains assumed lit → IsOpen trail lit → Asks assumed (trail ++ lit ∷ []) (starts ++ length trail ∷ []) (length (starts ++ length trail ∷ [])) asked
  asks_assumed assumed roots asked a here is_open =
      let m = length-append starts (length trail ∷ []) in
      let only : length starts ≤ roots = elim (cases_lt roots (length starts)) [
        | inl less ↦ absurd (is_open.0 (Contains-take trail (get_or starts roots 0) lit (a.later roots (omega arith) less lit here)))
        | inr q ↦ q
      ]
      in
      record {
        low = omega arith;
        assumptions = λ i d h.
            let P : Literal → Type 0 = λ z. Contains assumed z in
            let Q : ℕ → Type 0 = λ z. Contains assumed (get_or (trail ++ lit ∷ []) z d) in
            elim (at_push starts (length trail) i h) [
              | inl q ↦ let w = s.within i q.0 in subst Q (sym q.1) (subst P (sym (get_or_append_left trail (lit ∷ []) d (get_or starts i 0) w)) (a.assumptions i d (let l = q.0 in omega arith)))
              | inr q ↦ subst Q (sym q.1) (subst P (sym (get_or_push trail lit d (length trail) refl)) here)
            ];
        later = λ i low h. absurd (omega arith);
        told = λ l h. Contains-append_left trail (lit ∷ []) l (a.told l h);
      }

-- the decisions before one of them
module _ (cs : List (List Literal)) (trail : List Literal) (reasons starts : List ℕ) (s : Stands cs trail reasons starts) (kept : ℕ) (low : kept < length starts) where
  kept_long : length (take kept starts) ≡ kept
  kept_long = length-take-le kept starts (omega arith)

  cut_long : length (take (get_or starts kept 0) trail) ≡ get_or starts kept 0
  cut_long = let w = s.within kept low in length-take-le (get_or starts kept 0) trail (omega arith)

  pub stands_back : length reasons ≡ length trail → Stands cs (take (get_or starts kept 0) trail) (take (get_or starts kept 0) reasons) (take kept starts)
  stands_back paired =
      let n = kept_long in
      let c = cut_long in
      record {
        within = λ i h.
            let less : i < kept = omega arith in
            let e : get_or (take kept starts) i 0 ≡ get_or starts i 0 = get_or-take kept starts i 0 less in
            let r = s.rising i kept less low in
            omega arith;
        rising = λ i j ij h.
            let less : j < kept = omega arith in
            let e : get_or (take kept starts) i 0 ≡ get_or starts i 0 = get_or-take kept starts i 0 (omega arith) in
            let f : get_or (take kept starts) j 0 ≡ get_or starts j 0 = get_or-take kept starts j 0 less in
            let r = s.rising i j ij (omega arith) in
            omega arith;
        settled = λ i h.
            let less : i < kept = omega arith in
            let r = s.rising i kept less low in
            let P : ℕ → Type 0 = λ z. All (IsSettled (take z (take (get_or starts kept 0) trail))) cs in
            let Q : List Literal → Type 0 = λ z. All (IsSettled z) cs in
            subst P (sym (get_or-take kept starts i 0 less)) (subst Q (sym (take-take (get_or starts i 0) (get_or starts kept 0) trail (omega arith))) (s.settled i (omega arith)));
        decided = λ at lt e.
            let early : at < get_or starts kept 0 = omega arith in
            let w = s.within kept low in
            let (i, h, f) = s.decided at (omega arith) (sym (get_or-take (get_or starts kept 0) reasons at 0 early) ∙ e) in
            let f0 : get_or starts i 0 ≡ at = get_or_default starts i 0 at h ∙ f in
            let less : i < kept = elim (cases_order i kept) [
              | inl q ↦ let P : ℕ → Type 0 = λ z. get_or starts z 0 ≡ at in let g = subst P q f0 in absurd (omega arith)
              | inr (inl q) ↦ q
              | inr (inr q) ↦ let r = s.rising kept i q h in absurd (omega arith)
            ]
            in
            (i, (omega arith), get_or-take kept starts i at less ∙ f);
      }

  -- more are left than assumptions, or just those
  pub asks_back : (assumed : List Literal) (roots asked : ℕ) → Asks assumed trail starts roots asked → roots ≤ kept → Asks assumed (take (get_or starts kept 0) trail) (take kept starts) roots asked
  asks_back assumed roots asked a more =
      let n = kept_long in
      record {
        low = omega arith;
        assumptions = λ i d h.
            let less : i < kept = omega arith in
            let r = s.rising i kept less low in
            let P : ℕ → Type 0 = λ z. Contains assumed (get_or (take (get_or starts kept 0) trail) z d) in
            let Q : Literal → Type 0 = λ z. Contains assumed z in
            subst P (sym (get_or-take kept starts i 0 less)) (subst Q (sym (get_or-take (get_or starts kept 0) trail (get_or starts i 0) d r)) (a.assumptions i d h));
        later = λ i l h.
            let less : i < kept = omega arith in
            let r = s.rising i kept less low in
            let P : ℕ → Type 0 = λ z. AreTrue (take z (take (get_or starts kept 0) trail)) assumed in
            let Q : List Literal → Type 0 = λ z. AreTrue z assumed in
            subst P (sym (get_or-take kept starts i 0 less)) (subst Q (sym (take-take (get_or starts i 0) (get_or starts kept 0) trail (omega arith))) (a.later i l (omega arith)));
        told = λ l h. a.later kept more low l (Contains-take assumed asked l h);
      }

  -- fewer are left than assumptions
  pub asks_back_root : (assumed : List Literal) (roots asked : ℕ) → Asks assumed trail starts roots asked → kept < roots → Asks assumed (take (get_or starts kept 0) trail) (take kept starts) kept 0
  asks_back_root assumed roots asked a fewer =
      let n = kept_long in
      record {
        low = omega arith;
        assumptions = λ i d h.
            let r = s.rising i kept h low in
            let P : ℕ → Type 0 = λ z. Contains assumed (get_or (take (get_or starts kept 0) trail) z d) in
            let Q : Literal → Type 0 = λ z. Contains assumed z in
            subst P (sym (get_or-take kept starts i 0 h)) (subst Q (sym (get_or-take (get_or starts kept 0) trail (get_or starts i 0) d r)) (a.assumptions i d (omega arith)));
        later = λ i l h. absurd (omega arith);
        told = λ l h. absurd (Contains-none l h);
      }

-- one clause more that is settled before each decision
pub stands_with : (cs : List (List Literal)) (trail : List Literal) (reasons starts : List ℕ) (line : List Literal) → Stands cs trail reasons starts → ((i : ℕ) → i < length starts → IsSettled (take (get_or starts i 0) trail) line) → Stands (cs ++ line ∷ []) trail reasons starts
stands_with cs trail reasons starts line s h = record {
  within = s.within;
  rising = s.rising;
  settled = λ i lt. All-push (IsSettled (take (get_or starts i 0) trail)) cs line (s.settled i lt) (h i lt);
  decided = s.decided;
}

pub stands_start : (cs : List (List Literal)) (trail : List Literal) (reasons starts : List ℕ) → trail ≡ [] → starts ≡ [] → Stands cs trail reasons starts
stands_start cs trail reasons starts e f =
    rw (e, f) (record { within = λ i h. absurd (omega arith); rising = λ i j ij h. absurd (omega arith); settled = λ i h. absurd (omega arith); decided = λ at h q. absurd (omega arith) })

pub asks_start : (assumed trail : List Literal) (starts : List ℕ) (roots asked : ℕ) → starts ≡ [] → roots ≡ 0 → asked ≡ 0 → Asks assumed trail starts roots asked
asks_start assumed trail starts roots asked e f g =
    rw (e, f, g) (record { low = omega arith; assumptions = λ i d h. absurd (omega arith); later = λ i l h. absurd (omega arith); told = λ l h. absurd (Contains-none l h) })

-- one more assumption is known to be true
pub asks_told : (assumed trail : List Literal) (starts : List ℕ) (roots asked i : ℕ) (lit : Literal) → Asks assumed trail starts roots asked → i ≤ asked → i < length assumed → lit ≡ get_or assumed i lit → Contains trail lit → Asks assumed trail starts roots (i + 1)
asks_told assumed trail starts roots asked i lit a le within here now = record {
  low = a.low;
  assumptions = a.assumptions;
  later = a.later;
  told = λ l h.
      let n = length-take (i + 1) assumed in
      let (k, lt, e) = h in
      let e2 : get_or assumed k l ≡ l = sym (get_or-take (i + 1) assumed k l (omega arith)) ∙ e in
      elim (cases_lt k i) [
        | inl less ↦ a.told l (k, (let m = length-take asked assumed in omega arith), get_or-take asked assumed k l (omega arith) ∙ e2)
        | inr more ↦
            let ke : k ≡ i = omega arith in
            let P : ℕ → Type 0 = λ z. get_or assumed z l ≡ l in
            let e3 : get_or assumed i l ≡ l = subst P ke e2 in
            let same : lit ≡ l = here ∙ get_or_default assumed i lit l within ∙ e3 in
            let Q : Literal → Type 0 = λ z. Contains trail z in
            subst Q same now
      ];
}

-- what is asked after decisions were taken back
pub asks_after : (cs : List (List Literal)) (assumed trail : List Literal) (reasons starts : List ℕ) (roots asked kept : ℕ) (trail_now : List Literal) (starts_now : List ℕ) (roots_now asked_now : ℕ)
    → Stands cs trail reasons starts → Asks assumed trail starts roots asked → kept < length starts
    → trail_now ≡ take (get_or starts kept 0) trail → starts_now ≡ take kept starts
    → ((kept < roots) × (roots_now ≡ kept) × (asked_now ≡ 0)) ⊎ ((roots ≤ kept) × (roots_now ≡ roots) × (asked_now ≡ asked))
    → Asks assumed trail_now starts_now roots_now asked_now
asks_after cs assumed trail reasons starts roots asked kept trail_now starts_now roots_now asked_now s a low e f (inl (fewer, g, h)) = rw (e, f, g, h) (asks_back_root cs trail reasons starts s kept low assumed roots asked a fewer)
asks_after cs assumed trail reasons starts roots asked kept trail_now starts_now roots_now asked_now s a low e f (inr (more, g, h)) = rw (e, f, g, h) (asks_back cs trail reasons starts s kept low assumed roots asked a more)

module _ (w v : WatchState) (assumed : List Literal) (lit : Literal) (starts starts_now : List ℕ) (roots asked roots_now asked_now : ℕ) (made : v ≡ assuming w lit) (put : starts_now ≡ starts ++ length w.trail ∷ []) (s : Stands w.clauses w.trail w.reasons starts) (a : Asks assumed w.trail starts roots asked) (paired : length w.reasons ≡ length w.trail) (settled : All (IsSettled w.trail) w.clauses) where
  grown : length w.trail < length (w.trail ++ lit ∷ [])
  grown = let n = length-append w.trail (lit ∷ []) in omega arith

  pub decided_assumed : roots_now ≡ length starts_now → asked_now ≡ asked → Contains assumed lit → IsOpen w.trail lit → Stands v.clauses v.trail v.reasons starts_now × Asks assumed v.trail starts_now roots_now asked_now × (length w.trail < length v.trail)
  decided_assumed e f here is_open = rw (made, e, f, put) (stands_more w.clauses w.trail w.reasons starts lit s paired settled, asks_assumed w.clauses w.trail w.reasons starts lit s assumed roots asked a here is_open, grown)

  pub decided_free : roots_now ≡ roots → asked_now ≡ asked → AreTrue w.trail assumed → Stands v.clauses v.trail v.reasons starts_now × Asks assumed v.trail starts_now roots_now asked_now × (length w.trail < length v.trail)
  decided_free e f all = rw (made, e, f, put) (stands_more w.clauses w.trail w.reasons starts lit s paired settled, asks_free w.clauses w.trail w.reasons starts lit s assumed roots asked a all, grown)

pub stands_cut : (w v : WatchState) (starts starts_now : List ℕ) (kept : ℕ) → v ≡ cut w (get_or starts kept 0) → starts_now ≡ take kept starts → kept < length starts → Stands w.clauses w.trail w.reasons starts → length w.reasons ≡ length w.trail → Stands v.clauses v.trail v.reasons starts_now
stands_cut w v starts starts_now kept e f low s paired = rw (e, f) (stands_back w.clauses w.trail w.reasons starts s kept low paired)
