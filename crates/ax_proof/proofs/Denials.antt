-- The negations of a line's literals, made true in order.
use Rattle.std.proofs.Common.{◌≡◌, ℕ, ◌+◌, ◌<◌, List, [], ◌∷◌, ◌++◌, length, get_or, take, map, arith, sym, subst, ap, ◌∙◌}
use Rattle.std.specs.List.{Contains}
use Rattle.std.proofs.lemmas.List.{get_or-take, get_or_default, length-take, map_push}
use Rattle.ax_proof.specs.Literal.{Literal, negation, IsBelow}
use Rattle.ax_proof.specs.Clause.{IsClause}
use Rattle.ax_proof.specs.Trail.{IsOpen}
use Rattle.ax_proof.proofs.Lists.{Contains-map, took}

module _ (c : List Literal) (i : ℕ) (lit : Literal) (within : i < length c) (here : lit ≡ get_or c i lit) where
  -- what was denied before has a smaller variable
  denied_below : (x : Literal) → IsClause c → Contains (map negation (take i c)) x → x.var < lit.var
  denied_below x rising h =
      let f : Literal → ℕ = λ y. y.var in
      let (z, zin, n) = Contains-map negation (take i c) x h in
      let (k, below, e) = zin in
      let ki : k < i = omega (arith, length-take i c) in
      let at_k : (get_or c k z).var ≡ z.var = ap f (sym (get_or-take i c k z ki) ∙ e) in
      let at_i : (get_or c i z).var ≡ lit.var = ap f (get_or_default c i z lit within ∙ sym here) in
      let less : (get_or c k z).var < (get_or c i z).var = rising k i z ki within in
      let same : z.var ≡ x.var = ap f n in
      omega arith

  pub denial_open : (trail : List Literal) → IsClause c → trail ≡ map negation (take i c) → IsOpen trail (negation lit)
  denial_open trail rising e =
      let family : List Literal → Type 0 = λ t. IsOpen t (negation lit) in
      subst family (sym e) (
        (λ h. let l : lit.var < lit.var = denied_below (negation lit) rising h in omega arith),
        (λ h. let l : lit.var < lit.var = denied_below (negation (negation lit)) rising h in omega arith),
      )

  pub denial_below : (s t : ℕ) → t ≡ s → IsBelow s c → lit.var < t
  denial_below s t e below = let h : lit.var < s = below lit (i, within, sym here) in omega arith

-- one more literal is denied
pub denied_more : (c : List Literal) (i : ℕ) (lit : Literal) (trail new : List Literal) → i < length c → lit ≡ get_or c i lit → trail ≡ map negation (take i c) → new ≡ trail ++ negation lit ∷ [] → new ≡ map negation (take (i + 1) c)
denied_more c i lit trail new within here before pushed =
    pushed
    ∙ (ap (λ (x : List Literal). x ++ negation lit ∷ []) before
    ∙ (sym (map_push negation (take i c) lit)
    ∙ ap (λ (x : List Literal). map negation x) (sym (took c i lit within here))))
