-- Laws of watched literals.
use Rattle.std.proofs.Common.{◌≡◌, ◌≢◌, ℕ, ◌+◌, ◌*◌, ◌/◌, ◌<◌, ◌≤◌, List, [], length, get_or, set, take, arith, inl, inr, refl, sym, subst, ap, ◌∙◌, Bool, true, false, not, cond, eqb, get_or-set_other, get_or-set_same, length-set}
use Rattle.std.specs.List.{All, Contains}
use Rattle.std.proofs.lemmas.Bool.{cases_eq, eqb-true}
use Rattle.std.proofs.lemmas.List.{get_or_default}
use Rattle.std.proofs.lemmas.List.Elements.{Contains-push, Contains-push_cases}
use Rattle.ax_proof.specs.Literal.{Literal, literal, negation, code_of, IsBelow}
use Rattle.ax_proof.specs.Trail.{TrailState, IsOpen, IsUnit}
use Rattle.ax_proof.specs.Runs.{pushed}
use Rattle.ax_proof.proofs.Literals.{same_literal, same_or_other}
use Rattle.ax_proof.proofs.Lists.{took}
use Rattle.ax_proof.proofs.Runs.{numbered_next, goes_on_itself, goes_on_push}
use Rattle.ax_watch.specs.Watch.{clause_of}
use Rattle.ax_watch.specs.Watched.{clause_in, twin, IsCell, watched_in, IsNotFalse, AreWatched, IsFalseElse, Visits}

-- cells

pub twin_half : (cell : ℕ) → twin cell / 2 ≡ cell / 2
twin_half cell = omega arith

pub twin_twin : (cell : ℕ) → twin (twin cell) ≡ cell
twin_twin cell = omega arith

pub twin_other : (cell : ℕ) → twin cell ≢ cell
twin_other cell = omega arith

pub twin_below : (cell n : ℕ) → cell < 2 * n → twin cell < 2 * n
twin_below cell n h = omega arith

pub half_below : (cell n : ℕ) → cell < 2 * n → cell / 2 < n
half_below cell n h = omega arith

pub same_clause : (cs : List (List Literal)) (cell : ℕ) → clause_in cs (twin cell) ≡ clause_in cs cell
same_clause cs cell = let P : ℕ → List Literal = λ n. get_or cs n [] in ap P (twin_half cell)

pub twin_cell : (cs : List (List Literal)) (cell : ℕ) → IsCell cs cell → IsCell cs (twin cell)
twin_cell cs cell (below, two) = (twin_below cell (length cs) below, let P : List Literal → Type 0 = λ c. 1 < length c in subst P (sym (same_clause cs cell)) two)

-- one cell's watched literal replaced

pub watched_same : (w : List Literal) (cell : ℕ) (l : Literal) → cell < length w → watched_in (set w cell l) cell ≡ l
watched_same w cell l below = get_or-set_same w cell l (literal 0 true) below

pub watched_other : (w : List Literal) (cell : ℕ) (l : Literal) (k : ℕ) → k ≢ cell → watched_in (set w cell l) k ≡ watched_in w k
watched_other w cell l k ne = get_or-set_other w cell k l (literal 0 true) ne

-- what a visit does

module _ (cs : List (List Literal)) (cell : ℕ) (t : TrailState) (w : List Literal) (two : AreWatched cs w) (is_cell : IsCell cs cell) where
  pub twin_there : Contains (clause_in cs cell) (watched_in w (twin cell))
  twin_there = let P : List Literal → Type 0 = λ c. Contains c (watched_in w (twin cell)) in subst P (same_clause cs cell) (two.there (twin cell) (twin_cell cs cell is_cell))

  pub visits_true : Contains t.lits (watched_in w (twin cell)) → Visits cs cell t w t w true
  visits_true h = record {
    goes_on = goes_on_itself cs t;
    two = two;
    others = λ k ne. refl;
    alive = inl refl;
    kept = λ e. inl (watched_in w (twin cell), twin_there, h);
    conflict = λ e. cc;
  }

  pub visits_false : Contains t.lits (negation (watched_in w (twin cell))) → IsFalseElse t.lits (clause_in cs cell) (watched_in w (twin cell)) → Visits cs cell t w t w false
  visits_false h rest = record {
    goes_on = goes_on_itself cs t;
    two = two;
    others = λ k ne. refl;
    alive = inl refl;
    kept = λ e. cc;
    conflict = λ e l lin. elim (same_or_other l (watched_in w (twin cell))) [
      | inl same ↦ let P : Literal → Type 0 = λ x. Contains t.lits (negation x) in subst P (sym same) h
      | inr ne ↦ rest l lin ne
    ];
  }

  pub visits_unit : length t.reasons ≡ length t.lits → IsOpen t.lits (watched_in w (twin cell)) → IsFalseElse t.lits (clause_in cs cell) (watched_in w (twin cell)) → Visits cs cell t w (pushed t (watched_in w (twin cell)) (cell / 2 + 1)) w true
  visits_unit paired is_free rest =
      let below = half_below cell (length cs) is_cell.0 in
      let by : IsUnit t.lits (clause_in cs cell) (watched_in w (twin cell)) = (twin_there, is_free, rest) in
      let P : List Literal → Type 0 = λ c. IsUnit t.lits c (watched_in w (twin cell)) in
      record {
        goes_on = goes_on_push cs t (watched_in w (twin cell)) (cell / 2 + 1) paired ((omega arith, omega arith), subst P (sym (numbered_next cs (cell / 2))) by);
        two = two;
        others = λ k ne. refl;
        alive = inl refl;
        kept = λ e. inl (watched_in w (twin cell), twin_there, Contains-push t.lits (watched_in w (twin cell)));
        conflict = λ e. cc;
      }

  module _ (l : Literal) (there : Contains (clause_in cs cell) l) (ne : l ≢ watched_in w (twin cell)) (low : 1 ≤ l.var) where
    below_w : cell < length w
    below_w = let n = two.sized in let h = is_cell.0 in omega arith

    twin_stays : watched_in (set w cell l) (twin cell) ≡ watched_in w (twin cell)
    twin_stays = watched_other w cell l (twin cell) (twin_other cell)

    here : watched_in (set w cell l) cell ≡ l
    here = watched_same w cell l below_w

    moved_differ : (k : ℕ) → IsCell cs k → watched_in (set w cell l) k ≢ watched_in (set w cell l) (twin k)
    moved_differ k k_cell e =
        elim (cases_eq k cell) [
          | inl same ↦
              let P : ℕ → Type 0 = λ n. watched_in (set w cell l) n ≡ watched_in (set w cell l) (twin n) in
              let at_cell = subst P same e in
              ne (sym here ∙ at_cell ∙ twin_stays)
          | inr other ↦ elim (cases_eq (twin k) cell) [
            | inl same ↦
                let f : ℕ → ℕ = λ n. twin n in
                let back : k ≡ twin cell = sym (twin_twin k) ∙ ap f same in
                let P : ℕ → Type 0 = λ n. watched_in (set w cell l) k ≡ watched_in (set w cell l) n in
                let Q : ℕ → Type 0 = λ n. watched_in (set w cell l) n ≡ watched_in (set w cell l) cell in
                let at_twin = subst Q back (subst P same e) in
                ne (sym here ∙ sym at_twin ∙ twin_stays)
            | inr apart ↦ two.differ k k_cell (sym (watched_other w cell l k other) ∙ e ∙ watched_other w cell l (twin k) apart)
          ]
        ]

    moved_two : AreWatched cs (set w cell l)
    moved_two = record {
      sized = length-set w cell l ∙ two.sized;
      there = λ k k_cell. elim (cases_eq k cell) [
        | inl same ↦
            let P : ℕ → Type 0 = λ n. Contains (clause_in cs n) (watched_in (set w cell l) n) in
            let Q : Literal → Type 0 = λ x. Contains (clause_in cs cell) x in
            subst P (sym same) (subst Q (sym here) there)
        | inr other ↦ let Q : Literal → Type 0 = λ x. Contains (clause_in cs k) x in subst Q (sym (watched_other w cell l k other)) (two.there k k_cell)
      ];
      differ = moved_differ;
      low = λ k k_cell. elim (cases_eq k cell) [
        | inl same ↦
            let P : ℕ → Type 0 = λ n. 1 ≤ (watched_in (set w cell l) n).var in
            let Q : Literal → Type 0 = λ x. 1 ≤ x.var in
            subst P (sym same) (subst Q (sym here) low)
        | inr other ↦ let Q : Literal → Type 0 = λ x. 1 ≤ x.var in subst Q (sym (watched_other w cell l k other)) (two.low k k_cell)
      ];
    }

    pub visits_moved : IsNotFalse t.lits l → Visits cs cell t w t (set w cell l) true
    visits_moved alive = record {
      goes_on = goes_on_itself cs t;
      two = moved_two;
      others = λ k other. watched_other w cell l k other;
      alive = let P : Literal → Type 0 = λ x. IsNotFalse t.lits x in inr (subst P (sym here) alive);
      kept = λ e. let P : Literal → Type 0 = λ x. IsNotFalse t.lits x in inr (subst P (sym here) alive);
      conflict = λ e. cc;
    }

-- a replacement sought

pub else_more : (trail c : List Literal) (other : Literal) (i : ℕ) (x : Literal) → i < length c → x ≡ get_or c i x → (x ≢ other → Contains trail (negation x)) → IsFalseElse trail (take i c) other → IsFalseElse trail (take (i + 1) c) other
else_more trail c other i x within here false_here before l h ne =
    let P : List Literal → Type 0 = λ z. Contains z l in
    elim (Contains-push_cases (take i c) x l (subst P (took c i x within here) h)) [
      | inl q ↦ before l q ne
      | inr e ↦
          let Q : Literal → Type 0 = λ z. Contains trail (negation z) in
          subst Q e (false_here (λ q. ne (sym e ∙ q)))
    ]

-- codes

code_parts : (x y : ℕ) (p q : Bool) → 2 * x + cond p 0 1 ≡ 2 * y + cond q 0 1 → (x ≡ y) × (p ≡ q)
code_parts x y true true e = (omega arith, refl)
code_parts x y true false e = absurd (omega arith)
code_parts x y false true e = absurd (omega arith)
code_parts x y false false e = (omega arith, refl)

pub code_once : (a b : Literal) → code_of a ≡ code_of b → a ≡ b
code_once a b e = let (v, s) = code_parts a.var b.var a.positive b.positive e in same_literal a b v s

not_false : (b : Bool) → false ≡ not b → b ≡ true
not_false true e = refl
not_false false e = cc

pub same_code : (a b : Literal) → false ≡ not (eqb (code_of a) (code_of b)) → a ≡ b
same_code a b e = code_once a b (eqb-true (code_of a) (code_of b) (not_false (eqb (code_of a) (code_of b)) e))

code_bound : (x n : ℕ) (p : Bool) → x < n → 2 * x + cond p 0 1 < 2 * n
code_bound x n true h = omega arith
code_bound x n false h = omega arith

pub code_below : (l : Literal) (n : ℕ) → l.var < n → code_of l < 2 * n
code_below l n h = code_bound l.var n l.positive h

code_low : (x : ℕ) (p : Bool) → 1 ≤ x → 2 ≤ 2 * x + cond p 0 1
code_low x true h = omega arith
code_low x false h = omega arith

pub code_from_two : (l : Literal) → 1 ≤ l.var → 2 ≤ code_of l
code_from_two l h = code_low l.var l.positive h

-- a visit, in the words of its calls

pub in_below : (cs : List (List Literal)) (size cell : ℕ) (l : Literal) → All (IsBelow size) cs → IsCell cs cell → Contains (clause_in cs cell) l → l.var < size
in_below cs size cell l below is_cell there = below (cell / 2) [] (half_below cell (length cs) is_cell.0) l there

pub code_fits : (l : Literal) (size count : ℕ) → l.var < size → 2 * size ≤ count → code_of l < count
code_fits l size count h enough = let b = code_below l size h in omega arith

module _ (cs : List (List Literal)) (cell size count : ℕ) (w : List Literal) (two : AreWatched cs w) (is_cell : IsCell cs cell) (below : All (IsBelow size) cs) (enough : 2 * size ≤ count) where
  pub stays_fits : code_of (watched_in w cell) < count
  stays_fits = code_fits (watched_in w cell) size count (in_below cs size cell (watched_in w cell) below is_cell (two.there cell is_cell)) enough

  pub moved_fits : (c : List Literal) (l : Literal) → c ≡ clause_of cs (cell / 2) → Contains c l → code_of (watched_in (set w cell l) cell) < count
  moved_fits c l clause there =
      let P : List Literal → Type 0 = λ x. Contains x l in
      let Q : Literal → Type 0 = λ x. code_of x < count in
      let within : cell < length w = let n = two.sized in let h = is_cell.0 in omega arith in
      subst Q (sym (watched_same w cell l within)) (code_fits l size count (in_below cs size cell l below is_cell (subst P clause there)) enough)

module _ (cs : List (List Literal)) (cell : ℕ) (t : TrailState) (w : List Literal) (two : AreWatched cs w) (is_cell : IsCell cs cell) (n : ℕ) (o : Literal) (c : List Literal) (twin_is : n ≡ twin cell) (read : o ≡ get_or w n o) (clause : c ≡ clause_of cs (cell / 2)) where
  other_is : o ≡ watched_in w (twin cell)
  other_is =
      let b = twin_below cell (length cs) is_cell.0 in
      let s = two.sized in
      let within : n < length w = omega arith in
      let at : ℕ → Literal = λ k. get_or w k (literal 0 true) in
      read ∙ get_or_default w n o (literal 0 true) within ∙ ap at twin_is

  pub other_below : (size : ℕ) → All (IsBelow size) cs → o.var < size
  other_below size below =
      let P : Literal → Type 0 = λ x. x.var < size in
      subst P (sym other_is) (in_below cs size cell (watched_in w (twin cell)) below is_cell (twin_there cs cell t w two is_cell))

  pub found_true : Contains t.lits o → Visits cs cell t w t w true
  found_true h = let P : Literal → Type 0 = λ x. Contains t.lits x in visits_true cs cell t w two is_cell (subst P other_is h)

  pub found_moved : (l : Literal) → 1 ≤ l.var → Contains c l × (l ≢ o) × IsNotFalse t.lits l → Visits cs cell t w t (set w cell l) true
  found_moved l low (there, ne, alive) =
      let P : List Literal → Type 0 = λ x. Contains x l in
      visits_moved cs cell t w two is_cell l (subst P clause there) (λ e. ne (e ∙ sym other_is)) low alive

  else_is : IsFalseElse t.lits c o → IsFalseElse t.lits (clause_in cs cell) (watched_in w (twin cell))
  else_is h =
      let P : List Literal → Type 0 = λ x. IsFalseElse t.lits x o in
      let Q : Literal → Type 0 = λ x. IsFalseElse t.lits (clause_in cs cell) x in
      subst Q other_is (subst P clause h)

  pub found_unit : (new : TrailState) → length t.reasons ≡ length t.lits → IsOpen t.lits o × IsFalseElse t.lits c o → new ≡ pushed t o (cell / 2 + 1) → Visits cs cell t w new w true
  found_unit new paired (is_free, rest) same =
      let P : Literal → Type 0 = λ x. IsOpen t.lits x in
      let Q : TrailState → Type 0 = λ x. Visits cs cell t w x w true in
      let R : Literal → Type 0 = λ x. Visits cs cell t w (pushed t x (cell / 2 + 1)) w true in
      subst Q (sym same) (subst R (sym other_is) (visits_unit cs cell t w two is_cell paired (subst P other_is is_free) (else_is rest)))

  pub found_false : Contains t.lits (negation o) × IsFalseElse t.lits c o → Visits cs cell t w t w false
  found_false (h, rest) = let P : Literal → Type 0 = λ x. Contains t.lits (negation x) in visits_false cs cell t w two is_cell (subst P other_is h) (else_is rest)
