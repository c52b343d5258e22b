-- Laws of marks, and of where propagation goes on.
use Rattle.std.proofs.Common.{◌≡◌, ◌≢◌, ℕ, ◌<◌, ◌≤◌, List, [], ◌∷◌, ◌++◌, length, get_or, take, arith, inl, inr, sym, subst, ap, ◌∙◌, Option, Some, None, IfSome, length-append, length-take}
use Rattle.std.specs.List.{Contains, AllPairs}
use Rattle.std.proofs.lemmas.Bool.{cases_lt}
use Rattle.std.proofs.lemmas.List.{take-append-le, take-take, get_or-take, get_or_default}
use Rattle.std.proofs.lemmas.List.Quantifiers.{all_pairs_push}
use Rattle.std.proofs.lemmas.List.Elements.{Contains-append_left, Contains-get_or}
use Rattle.ax_proof.specs.Literal.{Literal, negation}
use Rattle.ax_proof.specs.Clause.{IsClause}
use Rattle.ax_proof.specs.Trail.{IsSatisfied}
use Rattle.ax_proof.proofs.Lists.{Contains-take}
use Rattle.ax_watch.specs.Marks.{IsRising, IsFrom, AreLeft}
use Rattle.ax_watch.specs.Lists.{ListsState}
use Rattle.ax_watch.specs.Watch.{clause_of}
use Rattle.ax_watch.specs.Watched.{clause_in, watched_in, IsShort, IsNotFalse, IsKept, IsMark, IsHead, IsWatching, KeepsReach}
use Rattle.ax_watch.proofs.Adding.{old_clause, new_clause}
use Rattle.ax_watch.proofs.Settling.{reaches_mark, shorts_mark}

-- rising numbers

pub rising_push : (lens : List ℕ) (len : ℕ) → IsRising lens → ((m : ℕ) → Contains lens m → m ≤ len) → IsRising (lens ++ len ∷ [])
rising_push lens len rising low = all_pairs_push (λ a b. a ≤ b) lens len rising (λ k d lt. low (get_or lens k d) (Contains-get_or lens k d lt))

-- where a literal isn't false

pub not_false_fewer : (trail : List Literal) (l : Literal) (len until : ℕ) → len ≤ until → IsNotFalse (take until trail) l → IsNotFalse (take len trail) l
not_false_fewer trail l len until low alive h =
    let P : List Literal → Type 0 = λ x. Contains x (negation l) in
    alive (Contains-take (take until trail) len (negation l) (subst P (sym (take-take len until trail low)) h))

pub not_before : (trail : List Literal) (at : ℕ) (l : Literal) → AllPairs (λ a b. a.var ≢ b.var) trail → at < length trail → get_or trail at l ≡ l → Contains (take at trail) l → ⊥
not_before trail at l once within here (k, kl, ke) =
    let t = length-take at trail in
    let before : k < at = omega arith in
    let e : get_or (take at trail) k l ≡ get_or trail k l = get_or-take at trail k l before in
    let f : Literal → ℕ = λ x. x.var in
    once k at l before within (ap f (sym e ∙ ke ∙ sym here))

-- literals at two places of a clause

pub two_places : (c : List Literal) (i j : ℕ) (a b : Literal) → IsClause c → i < length c → j < length c → i ≢ j → a ≡ get_or c i a → b ≡ get_or c j b → a ≢ b
two_places c i j a b rising il jl ne ea eb e =
    let same : get_or c j b ≡ get_or c j a = get_or_default c j b a jl in
    let f : Literal → ℕ = λ x. x.var in
    let va : a.var ≡ (get_or c i a).var = ap f ea in
    let vb : b.var ≡ (get_or c j a).var = ap f (eb ∙ same) in
    let vab : a.var ≡ b.var = ap f e in
    elim (cases_lt i j) [
      | inl lt ↦ let h = rising i j a lt jl in omega arith
      | inr ge ↦ let h = rising j i a (omega arith) il in omega arith
    ]

-- where propagation goes on

pub head_of_mark : (cs : List (List Literal)) (w trail : List Literal) (len : ℕ) → IsMark cs w trail len → IsHead cs w trail len
head_of_mark cs w trail len mark = record { within = mark.within; short = shorts_mark cs w trail len mark; reached = reaches_mark cs w trail len mark }

pub head_lower : (cs : List (List Literal)) (w trail : List Literal) (low len : ℕ) → low ≤ len → IsHead cs w trail len → IsHead cs w trail low
head_lower cs w trail low len fewer head = record {
  within = let b = head.within in omega arith;
  short = head.short;
  reached = λ cell is_cell. elim (head.reached cell is_cell) [ inl s ↦ inl s | inr alive ↦ inr (not_false_fewer trail (watched_in w cell) low len fewer alive) ];
}

satisfied_push : (trail c : List Literal) (lit : Literal) → IsSatisfied trail c → IsSatisfied (trail ++ lit ∷ []) c
satisfied_push trail c lit (l, lin, h) = (l, lin, Contains-append_left trail (lit ∷ []) l h)

pub head_push : (cs : List (List Literal)) (w trail : List Literal) (lit : Literal) (head : Option ℕ) → IfSome head (λ len. IsHead cs w trail len) → IfSome head (λ len. IsHead cs w (trail ++ lit ∷ []) len)
head_push cs w trail lit None h = h
head_push cs w trail lit (Some len) h =
    let n = length-append trail (lit ∷ []) in
    let b = h.within in
    let front = take-append-le len trail (lit ∷ []) h.within in
    record {
      within = omega arith;
      short = λ place few. satisfied_push trail (clause_of cs place) lit (h.short place few);
      reached = λ cell is_cell.
          let P : List Literal → Type 0 = λ x. IsKept x (trail ++ lit ∷ []) (clause_in cs cell) (watched_in w cell) in
          subst P (sym front) (elim (h.reached cell is_cell) [ inl s ↦ inl (satisfied_push trail (clause_in cs cell) lit s) | inr alive ↦ inr alive ]);
    }

pub start_head : (cs : List (List Literal)) (w trail : List Literal) (marks : List ℕ) (head : Option ℕ) → ((len : ℕ) → Contains marks len → IsMark cs w trail len) → IfSome head (λ len. IsHead cs w trail len) → (len : ℕ) → IsFrom marks head len → IsHead cs w trail len
start_head cs w trail marks head all h len (inl there) = head_of_mark cs w trail len (all len there)
start_head cs w trail marks head all h len (inr same) = let P : Option ℕ → Type 0 = λ x. IfSome x (λ n. IsHead cs w trail n) in subst P same h

pub start_some : (cs : List (List Literal)) (w trail : List Literal) (marks : List ℕ) (head from : Option ℕ) → ((len : ℕ) → Contains marks len → IsMark cs w trail len) → IfSome head (λ len. IsHead cs w trail len) → IfSome from (λ len. IsFrom marks head len) → IfSome from (λ len. IsHead cs w trail len)
start_some cs w trail marks head None all h is_from = tt
start_some cs w trail marks head (Some len) all h is_from = start_head cs w trail marks head all h len is_from

-- a clause more

module _ (cs : List (List Literal)) (c w w2 trail : List Literal) (size : ℕ) (lists : ListsState) (watching : IsWatching cs size w lists) (until : Option ℕ) (long : IfSome until (λ n. 1 < length c)) (keeps : IfSome until (λ n. (s : ℕ) → IsWatching cs s w lists → KeepsReach cs c w w2 trail n)) where
  old_short : 1 < length c → (place : ℕ) → IsShort (cs ++ c ∷ []) place → IsShort cs place × (clause_of (cs ++ c ∷ []) place ≡ clause_of cs place)
  old_short is_long place few =
      let n = length-append cs (c ∷ []) in
      elim (cases_lt place (length cs)) [
        | inl lt ↦ let P : List Literal → Type 0 = λ x. length x ≤ 1 in ((lt, subst P (old_clause cs c place lt) few.1), old_clause cs c place lt)
        | inr ge ↦
            let b = few.0 in
            let e : place ≡ length cs = omega arith in
            let P : List Literal → Type 0 = λ x. length x ≤ 1 in
            let low : length c ≤ 1 = subst P (new_clause cs c place e) few.1 in
            absurd (omega arith)
      ]

  still_short : (part : List Literal) → 1 < length c → ((place : ℕ) → IsShort cs place → IsSatisfied part (clause_of cs place)) → (place : ℕ) → IsShort (cs ++ c ∷ []) place → IsSatisfied part (clause_of (cs ++ c ∷ []) place)
  still_short part is_long before place few =
      let (was, same) = old_short is_long place few in
      let P : List Literal → Type 0 = λ x. IsSatisfied part x in
      subst P (sym same) (before place was)

  is_long : (bound : ℕ) → until ≡ Some bound → 1 < length c
  is_long bound same = let P : Option ℕ → Type 0 = λ x. IfSome x (λ n. 1 < length c) in subst P same long

  keeps_it : (bound : ℕ) → until ≡ Some bound → KeepsReach cs c w w2 trail bound
  keeps_it bound same =
      let P : Option ℕ → Type 0 = λ x. IfSome x (λ n. (s : ℕ) → IsWatching cs s w lists → KeepsReach cs c w w2 trail n) in
      let it : (s : ℕ) → IsWatching cs s w lists → KeepsReach cs c w w2 trail bound = subst P same keeps in
      it size watching

  pub marks_left : (old new : List ℕ) → AreLeft old new until → ((len : ℕ) → Contains old len → IsMark cs w trail len) → (len : ℕ) → Contains new len → IsMark (cs ++ c ∷ []) w2 trail len
  marks_left old new left all len there =
      let (was, bound, same, low) = left len there in
      let mark = all len was in
      record {
        within = mark.within;
        short = still_short (take len trail) (is_long bound same) mark.short;
        kept = keeps_it bound same len (take len trail) low mark.kept;
      }

  pub head_left : (marks : List ℕ) (head new : Option ℕ) → ((len : ℕ) → Contains marks len → IsMark cs w trail len) → IfSome head (λ len. IsHead cs w trail len) → IfSome new (λ len. (before bound : ℕ) × IsFrom marks head before × (until ≡ Some bound) × (len ≤ before) × (len ≤ bound)) → IfSome new (λ len. IsHead (cs ++ c ∷ []) w2 trail len)
  head_left marks head None all h says = tt
  head_left marks head (Some len) all h (before, bound, is_from, same, low, low_too) =
      let old = head_lower cs w trail len before low (start_head cs w trail marks head all h before is_from) in
      record {
        within = old.within;
        short = still_short trail (is_long bound same) old.short;
        reached = keeps_it bound same len trail low_too old.reached;
      }
