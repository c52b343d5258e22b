-- Tables of the variables that occur.
use Rattle.std.proofs.Common.{◌≡◌, ℕ, zero, suc, ◌+◌, ◌<◌, ◌≤◌, List, [], ◌∷◌, ◌++◌, length, get_or, take, map, arith, inl, inr, sym, subst, ap, ◌∙◌, Bool, Err}
use Rattle.std.specs.List.{All, Contains}
use Rattle.std.specs.List.Sorted.{IsStrictlyIncreasing, IsBinarySearchResult}
use Rattle.std.specs.Ordering.{nat_cmp}
use Rattle.std.proofs.lemmas.Bool.{cases_order, cases_lt}
use Rattle.std.proofs.lemmas.List.{get_or_default, get_or-map, map_push, length-map}
use Rattle.std.proofs.lemmas.List.Kept.{AllPairs-from_increasing}
use Rattle.std.proofs.lemmas.List.Sorted.{searched}
use Rattle.std.proofs.lemmas.List.Elements.{Contains-append_left, Contains-append_right, Contains-push_cases, Contains-get_or}
use Rattle.ax_proof.specs.Literal.{Literal, literal, IsBelow}
use Rattle.ax_proof.specs.Clause.{IsClause}
use Rattle.ax_proof.specs.Naming.{renamed_lit, renamed, IsOneToOne, vars_of, all_vars, name_at, AreNamed, all_renamed, StandFor}
use Rattle.ax_proof.proofs.Lists.{Contains-here, Contains-there, Contains-cons_cases, Contains-none, Contains-mapped, took}
use Rattle.ax_proof.proofs.Literals.{same_literal}

module _ (names : List ℕ) (up : IsStrictlyIncreasing names) where
  pub rises : (i j : ℕ) → i ≤ j → j < length names → get_or names i 0 ≤ get_or names j 0
  rises i j le jl =
      elim (cases_order i j) [
        | inl e ↦ let f : ℕ → ℕ = λ k. get_or names k 0 in let same : get_or names i 0 ≡ get_or names j 0 = ap f e in omega arith
        | inr (inl lt) ↦ let h : get_or names i 0 < get_or names j 0 = AllPairs-from_increasing names up i j 0 lt jl in omega arith
        | inr (inr gt) ↦ absurd (omega arith)
      ]

  -- a variable of the table is found
  pub not_missing : (var at : ℕ) → Contains names var → IsBinarySearchResult (λ y. nat_cmp y var) names (Err at) → ⊥
  not_missing var at (k, kl, ke) missed =
      let (le, before, after) = searched names var (Err at) missed rises in
      let here : get_or names k 0 ≡ var = get_or_default names k 0 var kl ∙ ke in
      elim (cases_lt k at) [
        | inl lt ↦ let h : get_or names k 0 < var = before k lt in omega arith
        | inr ge ↦ let h : var < get_or names k 0 = after k ge kl in omega arith
      ]

  -- and not at place 0, where 0 stands
  pub place_low : (at var : ℕ) → Contains names 0 → 1 ≤ var → get_or names at 0 ≡ var → 1 ≤ at
  place_low zero var (k, kl, ke) low here = let h : get_or names 0 0 ≤ get_or names k 0 = rises 0 k (omega arith) kl in absurd (omega arith)
  place_low (suc at) var has low here = omega arith

  names_apart : IsOneToOne (name_at names) (length names)
  names_apart x y xl yl e =
      elim (cases_order x y) [
        | inl same ↦ same
        | inr (inl lt) ↦ let h : get_or names x 0 < get_or names y 0 = AllPairs-from_increasing names up x y 0 lt yl in absurd (omega arith)
        | inr (inr gt) ↦ let h : get_or names y 0 < get_or names x 0 = AllPairs-from_increasing names up y x 0 gt xl in absurd (omega arith)
      ]

  -- places rise as their variables do
  pub places_rise : (few : List Literal) → IsBelow (length names) few → IsClause (renamed (name_at names) few) → IsClause few
  places_rise few below rising i j d lt jl =
      let f : ℕ → ℕ = name_at names in
      let var : Literal → ℕ = λ l. l.var in
      let n : length (renamed f few) ≡ length few = length-map few (renamed_lit f) in
      let less : (get_or (renamed f few) i (renamed_lit f d)).var < (get_or (renamed f few) j (renamed_lit f d)).var = rising i j (renamed_lit f d) lt (omega arith) in
      let at_i : (get_or (renamed f few) i (renamed_lit f d)).var ≡ f (get_or few i d).var = ap var (get_or-map (renamed_lit f) few i d (renamed_lit f d) (omega arith)) in
      let at_j : (get_or (renamed f few) j (renamed_lit f d)).var ≡ f (get_or few j d).var = ap var (get_or-map (renamed_lit f) few j d (renamed_lit f d) jl) in
      let il : (get_or few i d).var < length names = below (get_or few i d) (Contains-get_or few i d (omega arith)) in
      elim (cases_order (get_or few i d).var (get_or few j d).var) [
        | inl e ↦ let same : f (get_or few i d).var ≡ f (get_or few j d).var = ap f e in absurd (omega arith)
        | inr (inl up_there) ↦ up_there
        | inr (inr down) ↦ let h : f (get_or few j d).var < f (get_or few i d).var = AllPairs-from_increasing names up (get_or few j d).var (get_or few i d).var 0 down il in absurd (omega arith)
      ]

  pub stand_for : (cs lines : List (List Literal)) (size : ℕ) (few few_lines : List (List Literal)) → size ≡ length names → All (IsBelow (length names)) few → All (IsBelow (length names)) few_lines → cs ≡ all_renamed (name_at names) few → lines ≡ all_renamed (name_at names) few_lines → StandFor cs lines size few few_lines
  stand_for cs lines size few few_lines e below lines_below same same_lines =
      let P : ℕ → Type 0 = λ n. IsOneToOne (name_at names) n in
      let Q : ℕ → Type 0 = λ n. All (IsBelow n) few in
      let R : ℕ → Type 0 = λ n. All (IsBelow n) few_lines in
      record {
        names = name_at names;
        apart = subst P (sym e) names_apart;
        below = subst Q (sym e) below;
        lines_below = subst R (sym e) lines_below;
        same = same;
        same_lines = same_lines;
      }

-- one more of a mapped list
pub mapped_more : {X Y : Type 0} (f : Y → X) (xs : List X) (i : ℕ) (x : X) (ys new : List Y) (y : Y) → i < length xs → x ≡ get_or xs i x → take i xs ≡ map f ys → x ≡ f y → new ≡ ys ++ y ∷ [] → take (i + 1) xs ≡ map f new
mapped_more {X} {Y} f xs i x ys new y within here before is pushed =
    took xs i x within here
    ∙ ap (λ (zs : List X). zs ++ x ∷ []) before
    ∙ ap (λ (z : X). map f ys ++ z ∷ []) is
    ∙ sym (map_push f ys y)
    ∙ ap (λ (zs : List Y). map f zs) (sym pushed)

pub placed_lit : (f : ℕ → ℕ) (l : Literal) (place : ℕ) (sign : Bool) → f place ≡ l.var → sign ≡ l.positive → l ≡ renamed_lit f (literal place sign)
placed_lit f l place sign e s = same_literal l (renamed_lit f (literal place sign)) (sym e) (sym s)

pub below_pushed : (size : ℕ) (ls new : List Literal) (l : Literal) → IsBelow size ls → l.var < size → new ≡ ls ++ l ∷ [] → IsBelow size new
below_pushed size ls new l before now pushed =
    let P : List Literal → Type 0 = λ x. IsBelow size x in
    let Q : Literal → Type 0 = λ x. x.var < size in
    let both : IsBelow size (ls ++ l ∷ []) = λ m min. elim (Contains-push_cases ls l m min) [ inl q ↦ before m q | inr q ↦ subst Q q now ] in
    subst P (sym pushed) both

var_among : (cs : List (List Literal)) (c : List Literal) (l : Literal) → Contains cs c → Contains c l → Contains (all_vars cs) l.var
var_among [] c l cin lin = absurd (Contains-none c cin)
var_among (d ∷ cs) c l cin lin =
    let var : Literal → ℕ = λ x. x.var in
    elim (Contains-cons_cases d cs c cin) [
      | inl e ↦
          let P : List Literal → Type 0 = λ x. Contains x l in
          Contains-append_left (vars_of d) (all_vars cs) l.var (Contains-mapped var d l (subst P e lin))
      | inr there ↦ Contains-append_right (vars_of d) (all_vars cs) l.var (var_among cs c l there lin)
    ]

-- where a table has the variables of clauses and lines, it has those of each
module _ (names : List ℕ) (cs lines : List (List Literal)) (all : (x : ℕ) → Contains (0 ∷ all_vars (cs ++ lines)) x → Contains names x) where
  pub has_zero : Contains names 0
  has_zero = all 0 (Contains-here 0 (all_vars (cs ++ lines)))

  pub clauses_named : All (AreNamed names) cs
  clauses_named k d within l lin =
      all l.var (Contains-there 0 (all_vars (cs ++ lines)) l.var (var_among (cs ++ lines) (get_or cs k d) l (Contains-append_left cs lines (get_or cs k d) (Contains-get_or cs k d within)) lin))

  pub lines_named : All (AreNamed names) lines
  lines_named k d within l lin =
      all l.var (Contains-there 0 (all_vars (cs ++ lines)) l.var (var_among (cs ++ lines) (get_or lines k d) l (Contains-append_right cs lines (get_or lines k d) (Contains-get_or lines k d within)) lin))
