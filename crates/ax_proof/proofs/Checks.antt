-- The check of lines one after another.
use Rattle.std.proofs.Common.{◌≡◌, ℕ, ◌+◌, ◌<◌, ◌≤◌, List, [], ◌++◌, length, get_or, take, arith, sym, subst, ◌∙◌}
use Rattle.std.specs.List.{All}
use Rattle.std.proofs.lemmas.List.{get_or-take, get_or_default, length-take, take-take}
use Rattle.std.proofs.lemmas.List.Elements.{All-weaker, All-append, All-take}
use borrow.Author.Count.{below_more}
use Rattle.ax_proof.specs.Literal.{Literal, IsBelow}
use Rattle.ax_proof.specs.Propagation.{HasRup}
use Rattle.ax_proof.specs.Lines.{line_at, IsFirstUnlawful}

pub below_weaker : (cs : List (List Literal)) (s t : ℕ) → s ≤ t → All (IsBelow s) cs → All (IsBelow t) cs
below_weaker cs s t le = All-weaker (IsBelow s) (IsBelow t) (λ c h l lin. let b : l.var < s = h l lin in omega arith) cs

-- the clauses and a front of the lines, below a number above the variables of each
pub below_front : (cs lines : List (List Literal)) (at s t n : ℕ) → s ≤ n → t ≤ n → All (IsBelow s) cs → All (IsBelow t) lines → All (IsBelow n) (cs ++ take at lines)
below_front cs lines at s t n sn tn a b =
    All-append (IsBelow n) cs (take at lines) (below_weaker cs s n sn a) (All-take (IsBelow n) at lines (below_weaker lines t n tn b))

pub below_line : (lines : List (List Literal)) (at t n : ℕ) (line : List Literal) → t ≤ n → at < length lines → line ≡ get_or lines at line → All (IsBelow t) lines → IsBelow n line
below_line lines at t n line tn within here b =
    let family : List Literal → Type 0 = λ x. IsBelow n x in
    subst family (sym here) (below_weaker lines t n tn b at line within)

pub take_front : {X : Type 0} (k n : ℕ) (xs : List X) → k < n → take k (take n xs) ≡ take k xs
take_front k n xs h = take-take k n xs (omega arith)

module _ (cs ds lines : List (List Literal)) (at : ℕ) (line : List Literal) (same : ds ≡ cs) (within : at < length lines) (here : line ≡ get_or lines at line) where
  pub line_is : line ≡ line_at lines at
  line_is = here ∙ get_or_default lines at line [] within

  rup_here : HasRup (ds ++ take at lines) line → HasRup (cs ++ take at lines) (line_at lines at)
  rup_here h =
      let family : List (List Literal) → Type 0 = λ x. HasRup (x ++ take at lines) (line_at lines at) in
      let other : List Literal → Type 0 = λ x. HasRup (ds ++ take at lines) x in
      subst family same (subst other line_is h)

  rup_back : HasRup (cs ++ take at lines) (line_at lines at) → HasRup (ds ++ take at lines) line
  rup_back h =
      let family : List (List Literal) → Type 0 = λ x. HasRup (x ++ take at lines) line in
      let other : List Literal → Type 0 = λ x. HasRup (cs ++ take at lines) x in
      subst family (sym same) (subst other (sym line_is) h)

  pub lawful_more : ((k : ℕ) → k < at → HasRup (cs ++ take k lines) (line_at lines k)) → HasRup (ds ++ take at lines) line → (k : ℕ) → k < at + 1 → HasRup (cs ++ take k lines) (line_at lines k)
  lawful_more before now =
      let family : ℕ → Type 0 = λ k. HasRup (cs ++ take k lines) (line_at lines k) in
      below_more family at before (rup_here now)

  pub first_unlawful : ((k : ℕ) → k < at → HasRup (cs ++ take k lines) (line_at lines k)) → (HasRup (ds ++ take at lines) line → ⊥) → IsFirstUnlawful cs lines at
  first_unlawful before bad = (
    within,
    (λ k h.
        let ka : k < at = omega (arith, length-take at lines) in
        let family : List (List Literal) → Type 0 = λ x. HasRup (cs ++ x) (line_at (take at lines) k) in
        let other : List Literal → Type 0 = λ x. HasRup (cs ++ take k lines) x in
        subst family (sym (take_front k at lines ka)) (subst other (sym (get_or-take at lines k [] ka)) (before k ka))),
    λ h. bad (rup_back h),
  )

pub below_same : (cs : List (List Literal)) (s t : ℕ) → t ≡ s → All (IsBelow s) cs → All (IsBelow t) cs
below_same cs s t e h = let family : ℕ → Type 0 = λ n. All (IsBelow n) cs in subst family (sym e) h
