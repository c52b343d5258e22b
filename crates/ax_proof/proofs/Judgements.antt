-- How a clause's literals are judged one after another.
use Rattle.std.proofs.Common.{◌≡◌, ◌≢◌, ℕ, ◌+◌, ◌<◌, ◌≤◌, List, [], ◌∷◌, ◌++◌, length, get_or, take, Option, Some, None, arith, inl, inr, sym, subst, ap, ◌∙◌}
use Rattle.std.specs.List.{Contains}
use Rattle.std.proofs.lemmas.List.{get_or-take, get_or_default, take_all, length-take}
use Rattle.std.proofs.lemmas.List.Elements.{Contains-append_left, Contains-push, Contains-push_cases}
use Rattle.ax_proof.specs.Literal.{Literal, negation}
use Rattle.ax_proof.specs.Clause.{IsClause}
use Rattle.ax_proof.specs.Trail.{IsOpen, IsFalsified, IsUnit, HasTwoOpen}
use Rattle.ax_proof.proofs.Lists.{Contains-take, took}

-- the literals seen so far are false, but for an open one
abbrev pub IsFalseBut : List Literal → List Literal → Option Literal → Type 0
IsFalseBut trail c None = IsFalsified trail c
IsFalseBut trail c (Some u) = IsUnit trail c u

module _ (trail c : List Literal) (i : ℕ) (lit : Literal) (within : i < length c) (here : lit ≡ get_or c i lit) where
  pub false_more : (o : Option Literal) → IsFalseBut trail (take i c) o → Contains trail (negation lit) → IsFalseBut trail (take (i + 1) c) o
  false_more None seen f = rw (took c i lit within here) (λ l h. elim (Contains-push_cases (take i c) lit l h) [ inl q ↦ seen l q | inr q ↦ subst (λ (x : Literal). Contains trail (negation x)) q f ])
  false_more (Some u) seen f =
      rw (took c i lit within here) (
        Contains-append_left (take i c) (lit ∷ []) u seen.0,
        seen.1,
        λ l h ne. elim (Contains-push_cases (take i c) lit l h) [ inl q ↦ seen.2 l q ne | inr q ↦ subst (λ (x : Literal). Contains trail (negation x)) q f ],
      )

  pub first_open : IsFalsified trail (take i c) → IsOpen trail lit → IsUnit trail (take (i + 1) c) lit
  first_open seen o =
      rw (took c i lit within here) (
        Contains-push (take i c) lit,
        o,
        λ l h ne. elim (Contains-push_cases (take i c) lit l h) [ inl q ↦ seen l q | inr q ↦ absurd (ne (sym q)) ],
      )

  two_apart : (u : Literal) → IsClause c → Contains (take i c) u → u ≢ lit
  two_apart u rising (k, below, e) same =
      let f : Literal → ℕ = λ x. x.var in
      let ki : k < i = omega (arith, length-take i c) in
      let e' : get_or c k u ≡ u = sym (get_or-take i c k u ki) ∙ e in
      let there : get_or c i u ≡ lit = get_or_default c i u lit within ∙ sym here in
      let less : (get_or c k u).var < (get_or c i u).var = rising k i u ki within in
      let eu : (get_or c k u).var ≡ u.var = ap f e' in
      let el : (get_or c i u).var ≡ lit.var = ap f there in
      let es : u.var ≡ lit.var = ap f same in
      omega arith

  pub second_open : (u : Literal) → IsClause c → IsUnit trail (take i c) u → IsOpen trail lit → HasTwoOpen trail c
  second_open u rising seen o = (u, lit, two_apart u rising seen.0, Contains-take c i u seen.0, (i, within, sym here), seen.1, o)

pub all_seen : (trail c : List Literal) (i : ℕ) (o : Option Literal) → length c ≤ i → IsFalseBut trail (take i c) o → IsFalseBut trail c o
all_seen trail c i o all seen = rw take_all at seen
