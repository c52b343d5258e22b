-- Marked variables, and what they say of the clauses that a false one needs.
use Rattle.std.proofs.Common.{◌≡◌, ◌≢◌, ℕ, ◌+◌, ◌-◌, ◌<◌, ◌≤◌, List, [], ◌∷◌, ◌++◌, length, get_or, set, take, arith, ◌⊎◌, inl, inr, refl, sym, subst, ap, ◌∙◌, Bool, true, false, get_or-set_other, get_or-set_same, length-set}
use Rattle.std.specs.Prelude.{reverse}
use Rattle.std.specs.List.{All, Contains}
use Rattle.std.proofs.lemmas.Bool.{cases_eq}
use Rattle.std.proofs.lemmas.List.{take_all, length-take, take_more, get_or-take, reverse-append}
use Rattle.std.proofs.lemmas.List.Elements.{All-contains, Contains-append_left, Contains-push, Contains-push_cases}
use Rattle.ax_proof.specs.Literal.{Literal, negation, IsBelow}
use Rattle.ax_proof.specs.Trail.{IsUnit, IsFalsified}
use Rattle.ax_proof.specs.Uses.{numbered, IsNumber, Refutes, final, then}
use Rattle.ax_proof.specs.Runs.{IsForcedBy, AreForced}
use Rattle.ax_proof.specs.Marks.{IsMarked, Marks}
use Rattle.ax_proof.proofs.Lists.{Contains-none, took}
use Rattle.ax_proof.proofs.Runs.{numbered_stands}

pub marks_none : (c : List Literal) (marks : List Bool) → Marks (take 0 c) marks marks
marks_none c marks = record { size = refl; kept = λ x h. h; marked = λ l h. absurd (Contains-none l h) }

pub marks_more : (c : List Literal) (i : ℕ) (lit : Literal) (old now : List Bool) → i < length c → lit ≡ get_or c i lit → lit.var < length old → Marks (take i c) old now → Marks (take (i + 1) c) old (set now lit.var true)
marks_more c i lit old now within here below m =
    let n = m.size in
    let fits : lit.var < length now = omega arith in
    let stays : (x : ℕ) → IsMarked now x → IsMarked (set now lit.var true) x = λ x h.
    elim (cases_eq x lit.var) [
      | inl e ↦ let P : ℕ → Type 0 = λ y. IsMarked (set now lit.var true) y in subst P (sym e) (get_or-set_same now lit.var true false fits)
      | inr ne ↦ get_or-set_other now lit.var x true false ne ∙ h
    ]
    in
    record {
      size = length-set now lit.var true ∙ m.size;
      kept = λ x h. stays x (m.kept x h);
      marked = rw (took c i lit within here) (λ l h. elim (Contains-push_cases (take i c) lit l h) [
        | inl q ↦ stays l.var (m.marked l q)
        | inr q ↦ let P : Literal → Type 0 = λ z. IsMarked (set now lit.var true) z.var in subst P q (get_or-set_same now lit.var true false fits)
      ]);
    }

pub marks_all : (c : List Literal) (i : ℕ) (old now : List Bool) → length c ≤ i → Marks (take i c) old now → Marks c old now
marks_all c i old now past m = rw take_all at m

-- From any part of the first literals that has those with a marked variable, the clauses of these numbers, last first,
-- end in a false one.
abbrev pub Explains : List (List Literal) → List Literal → ℕ → List Bool → List ℕ → Type 0
Explains clauses lits place marks uses =
    (part : List Literal)
    → ((l : Literal) → Contains part l → Contains (take place lits) l)
    → ((l : Literal) → Contains (take place lits) l → IsMarked marks l.var → Contains part l)
    → Refutes clauses part (reverse uses)

pub explains_false : (cs : List (List Literal)) (lits : List Literal) (place number : ℕ) (old new : List Bool) (c : List Literal) → length lits ≤ place → IsNumber cs number → IsFalsified lits (numbered cs number) → c ≡ numbered cs number → Marks c old new → Explains cs lits place new (number ∷ [])
explains_false cs lits place number old new c past is_number false_clause here marks part inside kept =
    let P : List Literal → Type 0 = λ x. (l : Literal) → Contains x l → IsMarked new l.var in
    let Q : List Literal → Type 0 = λ x. (l : Literal) → Contains x l → IsMarked new l.var → Contains part l in
    let all : (l : Literal) → Contains lits l → IsMarked new l.var → Contains part l = subst Q (take_all place lits past) kept in
    let marked : (l : Literal) → Contains (numbered cs number) l → IsMarked new l.var = subst P here marks.marked in
    final is_number (λ l lin. all (negation l) (false_clause l lin) (marked l lin))

module _ (cs : List (List Literal)) (lits : List Literal) (place : ℕ) (lit : Literal) (marks : List Bool) (uses : List ℕ) (within : place < length lits) (here : lit ≡ get_or lits place lit) (before : Explains cs lits (place + 1) marks uses) where
  -- a literal that no later clause needs
  pub explains_less : (IsMarked marks lit.var → ⊥) → Explains cs lits place marks uses
  explains_less unmarked part inside kept =
      let one_more : take (place + 1) lits ≡ take place lits ++ lit ∷ [] = took lits place lit within here in
      let P : List Literal → Type 0 = λ x. (l : Literal) → Contains part l → Contains x l in
      let Q : List Literal → Type 0 = λ x. (l : Literal) → Contains x l → IsMarked marks l.var → Contains part l in
      before part
      (subst P (sym one_more) (λ l h. Contains-append_left (take place lits) (lit ∷ []) l (inside l h)))
      (subst Q (sym one_more) (λ l h m. elim (Contains-push_cases (take place lits) lit l h) [
        | inl q ↦ kept l q m
        | inr q ↦ let R : Literal → Type 0 = λ z. IsMarked marks z.var in absurd (unmarked (subst R (sym q) m))
      ]))

  -- a literal that some later clause needs, with the clause that forced it
  pub explains_more : (number : ℕ) (new : List Bool) (c : List Literal) → IsForcedBy cs (take place lits) number lit → c ≡ numbered cs number → Marks c marks new → Explains cs lits place new (uses ++ number ∷ [])
  explains_more number new c (is_number, forced) same more part inside kept =
      let one_more : take (place + 1) lits ≡ take place lits ++ lit ∷ [] = took lits place lit within here in
      let marked : (l : Literal) → Contains (numbered cs number) l → IsMarked new l.var =
      let R : List Literal → Type 0 = λ x. (l : Literal) → Contains x l → IsMarked new l.var in subst R same more.marked
      in
      let unit : IsUnit part (numbered cs number) lit = (
        forced.0,
        ((λ h. forced.1.0 (inside lit h)), (λ h. forced.1.1 (inside (negation lit) h))),
        λ l lin ne. kept (negation l) (forced.2 l lin ne) (marked l lin),
      )
      in
      let P : List Literal → Type 0 = λ x. (l : Literal) → Contains (part ++ lit ∷ []) l → Contains x l in
      let Q : List Literal → Type 0 = λ x. (l : Literal) → Contains x l → IsMarked marks l.var → Contains (part ++ lit ∷ []) l in
      let rest : Refutes cs (part ++ lit ∷ []) (reverse uses) =
      before (part ++ lit ∷ [])
      (subst P (sym one_more) (λ l h. elim (Contains-push_cases part lit l h) [
        | inl q ↦ Contains-append_left (take place lits) (lit ∷ []) l (inside l q)
        | inr q ↦ let R : Literal → Type 0 = λ z. Contains (take place lits ++ lit ∷ []) z in subst R q (Contains-push (take place lits) lit)
      ]))
      (subst Q (sym one_more) (λ l h m. elim (Contains-push_cases (take place lits) lit l h) [
        | inl q ↦ Contains-append_left part (lit ∷ []) l (kept l q (more.kept l.var m))
        | inr q ↦ let R : Literal → Type 0 = λ z. Contains (part ++ lit ∷ []) z in subst R q (Contains-push part lit)
      ]))
      in
      let S : List ℕ → Type 0 = λ z. Refutes cs part z in
      subst S (sym (reverse-append uses (number ∷ []))) (then lit is_number unit rest)

-- the first literals themselves are such a part
pub explained : (cs : List (List Literal)) (lits : List Literal) (from : ℕ) (marks : List Bool) (uses items : List ℕ) → items ≡ reverse uses → Explains cs lits from marks uses → Refutes cs (take from lits) items
explained cs lits from marks uses items e h =
    let S : List ℕ → Type 0 = λ z. Refutes cs (take from lits) z in
    subst S (sym e) (h (take from lits) (λ l q. q) (λ l q m. q))

-- a walk down the trail comes to this place next
pub explains_at : (cs : List (List Literal)) (lits : List Literal) (from place : ℕ) (marks : List Bool) (uses : List ℕ) → from < place → Explains cs lits place marks uses → Explains cs lits (place - 1 + 1) marks uses
explains_at cs lits from place marks uses low h =
    let P : ℕ → Type 0 = λ n. Explains cs lits n marks uses in
    let same : place - 1 + 1 ≡ place = omega arith in
    subst P (sym same) h

pub forced_there : (cs : List (List Literal)) (lits : List Literal) (reasons : List ℕ) (from place : ℕ) (lit : Literal) → AreForced cs from lits reasons → from < place → place ≤ length lits → lit ≡ get_or lits (place - 1) lit → IsForcedBy cs (take (place - 1) lits) (get_or reasons (place - 1) 0) lit
forced_there cs lits reasons from place lit forced low high here =
    let P : Literal → Type 0 = λ z. IsForcedBy cs (take (place - 1) lits) (get_or reasons (place - 1) 0) z in
    subst P (sym here) (forced (place - 1) lit (omega arith) (omega arith))

pub numbered_below : (cs : List (List Literal)) (number size : ℕ) (c : List Literal) → IsNumber cs number → c ≡ numbered cs number → All (IsBelow size) cs → IsBelow size c
numbered_below cs number size c is_number same below =
    let P : List Literal → Type 0 = λ z. IsBelow size z in
    subst P (sym same) (All-contains (IsBelow size) cs (numbered cs number) below (numbered_stands cs number is_number))

pub explained_from : (cs : List (List Literal)) (lits : List Literal) (from place : ℕ) (marks : List Bool) (uses items : List ℕ) → place ≤ from → from ≤ place → items ≡ reverse uses → Explains cs lits place marks uses → Refutes cs (take from lits) items
explained_from cs lits from place marks uses items high low e h =
    let P : ℕ → Type 0 = λ n. Explains cs lits n marks uses in
    let same : place ≡ from = omega arith in
    explained cs lits from marks uses items e (subst P same h)
