-- Clauses and lines in one list.
use Rattle.std.proofs.Common.{◌≡◌, ℕ, zero, suc, ◌+◌, ◌-◌, ◌<◌, ◌≤◌, List, [], ◌∷◌, ◌++◌, length, get_or, take, drop, map, arith, refl, sym, subst, ap, ◌∙◌}
use Rattle.std.specs.Global.{Vec}
use Rattle.std.proofs.Math.Seq.{take-add}
use Rattle.std.proofs.lemmas.List.{take_at, drop_at, get_or-take, get_or-drop, get_or-map, drop_more, drop-map, length-map, length-take, length-drop}
use borrow.Author.Count.{below_more}
use Rattle.ax_proof.specs.Literal.{Literal}
use Rattle.ax_proof.specs.Lines.{line_at}
use Rattle.ax_proof.specs.Uses.{numbered, IsRight, uses_at, AreRight, IsFirstWrong, lists, named_literals, all_named_literals}
use Rattle.ax_proof.proofs.Checks.{take_front}

-- the clauses before a line, and the line
module _ (cs : List (List Literal)) (from at : ℕ) (low : 1 ≤ from) where
  pub front_of : take (from - 1) cs ++ take at (drop (from - 1) cs) ≡ take (from + at - 1) cs
  front_of = let e : from - 1 + at ≡ from + at - 1 = omega arith in sym (take-add (from - 1) at cs) ∙ ap (λ k. take k cs) e

  pub line_of : line_at (drop (from - 1) cs) at ≡ numbered cs (from + at)
  line_of =
      let e : from + at ≡ suc (from - 1 + at) = omega arith in
      get_or-drop (from - 1) cs at [] ∙ sym (ap (λ n. numbered cs n) e)

pub uses_of_line : (uses : List (Vec ℕ)) (at : ℕ) (named : Vec ℕ) → at < length uses → named ≡ get_or uses at named → uses_at (lists uses) at ≡ named.items
uses_of_line uses at named within here =
    get_or-map (λ (u : Vec ℕ). u.items) uses at named [] within ∙ ap (λ (u : Vec ℕ). u.items) (sym here)

module _ (cs : List (List Literal)) (from at : ℕ) (uses : List (Vec ℕ)) (named : Vec ℕ) (low : 1 ≤ from) (lines : from + length uses ≡ length cs + 1) (within : at < length uses) (here : named ≡ get_or uses at named) where
  count_is : length (drop (from - 1) cs) ≡ length uses
  count_is = length-drop (from - 1) cs ∙ omega arith

  pub number_low : 1 ≤ from + at
  number_low = omega arith

  pub number_high : from + at ≤ length cs
  number_high = omega arith

  pub right_there : IsRight (take (from + at - 1) cs) (numbered cs (from + at)) named.items → IsRight (take (from - 1) cs ++ take at (drop (from - 1) cs)) (line_at (drop (from - 1) cs) at) (uses_at (lists uses) at)
  right_there h =
      let P : List (List Literal) → Type 0 = λ x. IsRight x (line_at (drop (from - 1) cs) at) (uses_at (lists uses) at) in
      let Q : List Literal → Type 0 = λ x. IsRight (take (from + at - 1) cs) x (uses_at (lists uses) at) in
      let R : List ℕ → Type 0 = λ x. IsRight (take (from + at - 1) cs) (numbered cs (from + at)) x in
      subst P (sym (front_of cs from at low)) (subst Q (sym (line_of cs from at low)) (subst R (sym (uses_of_line uses at named within here)) h))

  right_back : IsRight (take (from - 1) cs ++ take at (drop (from - 1) cs)) (line_at (drop (from - 1) cs) at) (uses_at (lists uses) at) → IsRight (take (from + at - 1) cs) (numbered cs (from + at)) named.items
  right_back h =
      let P : List (List Literal) → Type 0 = λ x. IsRight x (line_at (drop (from - 1) cs) at) (uses_at (lists uses) at) in
      let Q : List Literal → Type 0 = λ x. IsRight (take (from + at - 1) cs) x (uses_at (lists uses) at) in
      let R : List ℕ → Type 0 = λ x. IsRight (take (from + at - 1) cs) (numbered cs (from + at)) x in
      subst R (uses_of_line uses at named within here) (subst Q (line_of cs from at low) (subst P (front_of cs from at low) h))

  module _ (before : (k : ℕ) → k < at → IsRight (take (from - 1) cs ++ take k (drop (from - 1) cs)) (line_at (drop (from - 1) cs) k) (uses_at (lists uses) k)) where
    pub all_right_more : IsRight (take (from + at - 1) cs) (numbered cs (from + at)) named.items
        → (k : ℕ) → k < at + 1 → IsRight (take (from - 1) cs ++ take k (drop (from - 1) cs)) (line_at (drop (from - 1) cs) k) (uses_at (lists uses) k)
    all_right_more now =
        let family : ℕ → Type 0 = λ k. IsRight (take (from - 1) cs ++ take k (drop (from - 1) cs)) (line_at (drop (from - 1) cs) k) (uses_at (lists uses) k) in
        below_more family at before (right_there now)

    pub first_wrong : (IsRight (take (from + at - 1) cs) (numbered cs (from + at)) named.items → ⊥) → IsFirstWrong (take (from - 1) cs) (drop (from - 1) cs) (lists uses) at
    first_wrong bad = (
      (let n = count_is in omega arith),
      (λ k h.
          let ka : k < at = omega (arith, length-take at (drop (from - 1) cs)) in
          let P : List (List Literal) → Type 0 = λ x. IsRight (take (from - 1) cs ++ x) (line_at (take at (drop (from - 1) cs)) k) (uses_at (lists uses) k) in
          let Q : List Literal → Type 0 = λ x. IsRight (take (from - 1) cs ++ take k (drop (from - 1) cs)) x (uses_at (lists uses) k) in
          subst P (sym (take_front k at (drop (from - 1) cs) ka)) (subst Q (sym (get_or-take at (drop (from - 1) cs) k [] ka)) (before k ka))),
      λ h. bad (right_back h),
    )

  -- the literals that are left to be read
  pub named_left : all_named_literals cs (from + at) (drop at (lists uses)) ≡ length (numbered cs (from + at)) + named_literals cs named.items + all_named_literals cs (from + (at + 1)) (drop (at + 1) (lists uses))
  named_left =
      let n : length (lists uses) ≡ length uses = length-map uses (λ (u : Vec ℕ). u.items) in
      let e : drop at (lists uses) ≡ named.items ∷ drop (at + 1) (lists uses) =
      drop_more (lists uses) at [] (omega arith) ∙ ap (λ (x : List ℕ). x ∷ drop (at + 1) (lists uses)) (uses_of_line uses at named within here)
      in
      let f : from + at + 1 ≡ from + (at + 1) = omega arith in
      ap (λ (x : List (List ℕ)). all_named_literals cs (from + at) x) e
      ∙ ap (λ k. length (numbered cs (from + at)) + named_literals cs named.items + all_named_literals cs k (drop (at + 1) (lists uses))) f

pub all_right : (cs : List (List Literal)) (from at : ℕ) (uses : List (Vec ℕ)) → 1 ≤ from → from + length uses ≡ length cs + 1 → length uses ≤ at
    → ((k : ℕ) → k < at → IsRight (take (from - 1) cs ++ take k (drop (from - 1) cs)) (line_at (drop (from - 1) cs) k) (uses_at (lists uses) k))
    → AreRight (take (from - 1) cs) (drop (from - 1) cs) (lists uses)
all_right cs from at uses low lines past before k kl =
    let n : length (drop (from - 1) cs) ≡ length cs - (from - 1) = length-drop (from - 1) cs in
    before k (omega arith)

-- lines behind clauses
pub clauses_first : (cs lines : List (List Literal)) (n : ℕ) → n ≡ length cs → take (n + 1 - 1) (cs ++ lines) ≡ cs
clauses_first cs lines n e = take_at cs lines (n + 1 - 1) (omega arith)

pub lines_then : (cs lines : List (List Literal)) (n : ℕ) → n ≡ length cs → drop (n + 1 - 1) (cs ++ lines) ≡ lines
lines_then cs lines n e = drop_at cs lines (n + 1 - 1) (omega arith)
