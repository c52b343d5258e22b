-- Models that a complete trail gives.
use Rattle.std.proofs.Common.{◌≡◌, ◌↔◌, ℕ, ◌+◌, ◌-◌, ◌<◌, ◌≤◌, List, [], ◌∷◌, ◌++◌, length, get_or, arith, inl, inr, refl, sym, subst, Bool, true, false, not, ◌&&◌, length-append}
use Rattle.std.specs.List.{All, Contains}
use borrow.Author.Count.{below_more}
use Rattle.std.proofs.Math.ListN.{get_or-append}
use Rattle.std.proofs.Math.Seq.{get_or-append_seam}
use Rattle.std.proofs.lemmas.List.Elements.{All-append, All-head, All-tail, All-map, All-weaker, All-contains_itself, Contains-append_left, Contains-push}
use Rattle.ax_proof.specs.Literal.{Literal, literal, IsOver, IsBelow}
use Rattle.ax_proof.specs.Assignment.{lit_value, clause_true, satisfies, assigned}
use Rattle.ax_proof.specs.Trail.{IsOpen, IsConsistent, IsSettled}
use Rattle.ax_proof.proofs.Lists.{Contains-cons_cases, Contains-none}
use Rattle.ax_proof.proofs.Models.{clause_made}
use Rattle.ax_sat.specs.Answer.{units, IsModel}
use Rattle.ax_sat.specs.Search.{Extends, IsAssigned, AreBitsOf}

-- an assigned variable stays assigned
pub assigned_on : (cs : List (List Literal)) (old new : List Literal) (x : ℕ) → Extends cs old new → IsAssigned old x → IsAssigned new x
assigned_on cs old new x e (inl h) = inl (e.kept _ h)
assigned_on cs old new x e (inr h) = inr (e.kept _ h)

pub assigned_after : (cs : List (List Literal)) (trail : List Literal) (lit : Literal) (new : List Literal) (i : ℕ) → Extends cs (trail ++ lit ∷ []) new → lit ≡ literal (i + 1) true → ((k : ℕ) → k < i → IsAssigned trail (k + 1)) → (k : ℕ) → k < i + 1 → IsAssigned new (k + 1)
assigned_after cs trail lit new i e here before =
    let P : ℕ → Type 0 = λ k. IsAssigned new (k + 1) in
    let Q : Literal → Type 0 = λ x. Contains new x in
    below_more P i
    (λ k h. elim (before k h) [
      | inl q ↦ inl (e.kept _ (Contains-append_left trail (lit ∷ []) _ q))
      | inr q ↦ inr (e.kept _ (Contains-append_left trail (lit ∷ []) _ q))
    ])
    (inl (subst Q here (e.kept lit (Contains-push trail lit))))

assigned_not_open : (trail : List Literal) (x : ℕ) (p : Bool) → IsAssigned trail x → IsOpen trail (literal x p) → ⊥
assigned_not_open trail x true (inl h) o = o.0 h
assigned_not_open trail x true (inr h) o = o.1 h
assigned_not_open trail x false (inl h) o = o.1 h
assigned_not_open trail x false (inr h) o = o.0 h

not_true : (b : Bool) → (b ≡ true → ⊥) → not b ≡ true
not_true true h = absurd (h refl)
not_true false h = refl

and_left : (a b : Bool) → (a && b) ≡ true → a ≡ true
and_left true b e = refl
and_left false b e = cc

and_right : (a b : Bool) → (a && b) ≡ true → b ≡ true
and_right true b e = e
and_right false b e = cc

and_both : (a b : Bool) → a ≡ true → b ≡ true → (a && b) ≡ true
and_both true b e f = f
and_both false b e f = cc

pub satisfies_left : (v : ℕ → Bool) (cs ds : List (List Literal)) → satisfies v (cs ++ ds) ≡ true → satisfies v cs ≡ true
satisfies_left v [] ds h = refl
satisfies_left v (c ∷ cs) ds h =
    and_both (clause_true v c) (satisfies v cs) (and_left (clause_true v c) (satisfies v (cs ++ ds)) h)
    (satisfies_left v cs ds (and_right (clause_true v c) (satisfies v (cs ++ ds)) h))

pub satisfies_right : (v : ℕ → Bool) (cs ds : List (List Literal)) → satisfies v (cs ++ ds) ≡ true → satisfies v ds ≡ true
satisfies_right v [] ds h = h
satisfies_right v (c ∷ cs) ds h = satisfies_right v cs ds (and_right (clause_true v c) (satisfies v (cs ++ ds)) h)

satisfies_all : (v : ℕ → Bool) (cs : List (List Literal)) → All (λ c. (l : Literal) × Contains c l × (lit_value v l ≡ true)) cs → satisfies v cs ≡ true
satisfies_all v [] h = refl
satisfies_all v (c ∷ cs) h =
    let P : List Literal → Type 0 = λ c. (l : Literal) × Contains c l × (lit_value v l ≡ true) in
    let (l, lin, e) = All-head P c cs h in
    and_both (clause_true v c) (satisfies v cs) (clause_made v c l lin e) (satisfies_all v cs (All-tail P c cs h))

module _ (cs : List (List Literal)) (trail : List Literal) (bits : List Bool) (vars : ℕ) (b : AreBitsOf trail vars bits) (ok : IsConsistent trail) where
  value_true : (x : ℕ) (p : Bool) → 1 ≤ x → x ≤ vars → Contains trail (literal x p) → lit_value (assigned bits) (literal x p) ≡ true
  value_true x true low high h =
      let e : x - 1 + 1 ≡ x = omega arith in
      let P : ℕ → Type 0 = λ n. Contains trail (literal n true) in
      (b.values (x - 1) (omega arith)).1 (subst P (sym e) h)
  value_true x false low high h =
      let e : x - 1 + 1 ≡ x = omega arith in
      let P : ℕ → Type 0 = λ n. Contains trail (literal n true) in
      not_true (get_or bits (x - 1) false) (λ t. ok (literal x true) (subst P e ((b.values (x - 1) (omega arith)).0 t)) h)

  true_literal : (c : List Literal) → ((k : ℕ) → k < vars → IsAssigned trail (k + 1)) → IsOver vars c → IsSettled trail c → (l : Literal) × Contains c l × (lit_value (assigned bits) l ≡ true)
  true_literal c all over (inl (s, sin, strue)) = (s, sin, value_true s.var s.positive (over s sin).0 (over s sin).1 strue)
  true_literal c all over (inr (x, y, differ, xin, yin, xopen, yopen)) =
      let o = over x xin in
      let e : x.var - 1 + 1 ≡ x.var = let h = o.0 in omega arith in
      let P : ℕ → Type 0 = λ n. IsAssigned trail n in
      let lt : x.var - 1 < vars = let h = o.0 in let k = o.1 in omega arith in
      absurd (assigned_not_open trail x.var x.positive (subst P e (all (x.var - 1) lt)) xopen)

  pub complete_model : ((k : ℕ) → k < vars → IsAssigned trail (k + 1)) → All (IsOver vars) cs → All (IsSettled trail) cs → IsModel cs vars bits
  complete_model all over settled = (b.covers, satisfies_all (assigned bits) cs (λ k d h. true_literal (get_or cs k d) all (over k d h) (settled k d h)))

last_bit : (bits : List Bool) (b : Bool) (i : ℕ) → length bits ≡ i → get_or (bits ++ b ∷ []) i false ≡ b
last_bit bits b i e = let P : ℕ → Type 0 = λ n. get_or (bits ++ b ∷ []) n false ≡ b in subst P e (get_or-append_seam bits b [] false)

pub bits_push : (trail : List Literal) (i : ℕ) (bits : List Bool) (b : Bool) → AreBitsOf trail i bits → ((b ≡ true) ↔ Contains trail (literal (i + 1) true)) → AreBitsOf trail (i + 1) (bits ++ b ∷ [])
bits_push trail i bits b before now = record {
  covers = let e = before.covers in omega (arith, length-append bits (b ∷ []));
  values =
      let P : ℕ → Type 0 = λ k. (get_or (bits ++ b ∷ []) k false ≡ true) ↔ Contains trail (literal (k + 1) true) in
      let Q : (k : ℕ) → Bool → Type 0 = λ k x. (x ≡ true) ↔ Contains trail (literal (k + 1) true) in
      below_more P i
      (λ k h. let e = before.covers in let lt : k < length bits = omega arith in
      subst (Q k) (sym (get_or-append bits (b ∷ []) false k lt)) (before.values k h))
      (subst (Q i) (sym (last_bit bits b i before.covers)) now);
}

-- the units of assumptions over these variables are over them
pub units_over : (vars : ℕ) (cs : List (List Literal)) (assumed : List Literal) → IsOver vars assumed → All (IsOver vars) cs → All (IsOver vars) (cs ++ units assumed)
units_over vars cs assumed over h =
    let one : Literal → List Literal = λ l. l ∷ [] in
    let P : Literal → Type 0 = λ x. (1 ≤ x.var) × (x.var ≤ vars) in
    All-append (IsOver vars) cs (units assumed) h
    (All-map (IsOver vars) one assumed
    (All-weaker (Contains assumed) (λ l. IsOver vars (one l))
    (λ l q k kin. elim (Contains-cons_cases l [] k kin) [ inl e ↦ subst P (sym e) (over l q) | inr r ↦ absurd (Contains-none k r) ])
    assumed (All-contains_itself assumed)))

pub below_all : (vars size : ℕ) (cs : List (List Literal)) → size ≡ vars + 1 → All (IsOver vars) cs → All (IsBelow size) cs
below_all vars size cs e = All-weaker (IsOver vars) (IsBelow size) (λ c h l lin. let k = (h l lin).1 in omega arith) cs
