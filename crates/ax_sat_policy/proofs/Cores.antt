-- What follows from a core of clauses follows from all of them, and the other way round where no clause of the core is false.
use Rattle.std.proofs.Common.{◌≡◌, ℕ, List, [], ◌∷◌, ◌++◌, map, ◌⊎◌, inl, inr, refl, sym, subst, Bool, true, false, ◌&&◌}
use Rattle.std.specs.List.{Contains}
use Rattle.std.proofs.lemmas.List.Elements.{Contains-append_left, Contains-append_right, Contains-append_cases}
use Rattle.ax_proof.specs.Literal.{Literal, negation}
use Rattle.ax_proof.specs.Assignment.{clause_true, satisfies}
use Rattle.ax_proof.specs.Propagation.{Propagates, given, unit, Conflicts}
use Rattle.ax_proof.specs.Lines.{IsNew}
use Rattle.ax_proof.proofs.Lists.{Contains-here, Contains-there, Contains-cons_cases, Contains-none}
use Rattle.ax_proof.proofs.Literals.{same_or_other}
use Rattle.ax_proof.proofs.Models.{clause_has, clause_made, satisfied_clause}
use Rattle.ax_proof.proofs.Propagations.{conflicts_along}
use Rattle.ax_sat_policy.specs.Core.{IsCore}

stands_or_not : (c : List Literal) (l : Literal) → Contains c l ⊎ (Contains c l → ⊥)
stands_or_not [] l = inr (λ h. Contains-none l h)
stands_or_not (x ∷ c) l =
    elim (same_or_other l x) [
      | inl same ↦ let P : Literal → Type 0 = λ z. Contains (x ∷ c) z in inl (subst P (sym same) (Contains-here x c))
      | inr other ↦ elim (stands_or_not c l) [
        | inl h ↦ inl (Contains-there x c l h)
        | inr none ↦ inr (λ h. elim (Contains-cons_cases x c l h) [ inl e ↦ other e | inr q ↦ none q ])
      ]
    ]

and_true : (a b : Bool) → a ≡ true → b ≡ true → (a && b) ≡ true
and_true true b e f = f
and_true false b e f = cc

satisfies_each : (v : ℕ → Bool) (cs : List (List Literal)) → ((c : List Literal) → Contains cs c → clause_true v c ≡ true) → satisfies v cs ≡ true
satisfies_each v [] h = refl
satisfies_each v (c ∷ cs) h = and_true (clause_true v c) (satisfies v cs) (h c (Contains-here c cs)) (satisfies_each v cs (λ d din. h d (Contains-there c cs d din)))

module _ (core all : List (List Literal)) (is : IsCore core all) where
  pub core_conflicts : (xs : List Literal) → Conflicts core xs → Conflicts all xs
  core_conflicts xs h = conflicts_along core all xs xs is.among (λ l q. given q) h

  -- the clause that forces the literal has a part in the core, which forces it too, or is false
  core_forces : (xs : List Literal) → (Conflicts core xs → ⊥) → {l : Literal} → Propagates all xs l → Propagates core xs l
  core_forces xs quiet (given h) = given h
  core_forces xs quiet (unit {l} c cin lin rest) =
      let (part, pin, within) = is.parts c cin in
      elim (stands_or_not part l) [
        | inl there ↦ unit part pin there (λ m min ne. core_forces xs quiet (rest m (within m min) ne))
        | inr none ↦
            let P : Literal → Type 0 = λ z. Contains part z in
            absurd (quiet (part, pin, λ m min. core_forces xs quiet (rest m (within m min) (λ e. none (subst P e min)))))
      ]

  pub core_quiet : (xs : List Literal) → (Conflicts core xs → ⊥) → Conflicts all xs → ⊥
  core_quiet xs quiet (c, cin, made) =
      let (part, pin, within) = is.parts c cin in
      quiet (part, pin, λ m min. core_forces xs quiet (made m (within m min)))

  -- what is new over a core is new over all
  pub core_new : (line : List Literal) → IsNew core line → IsNew all line
  core_new line (l, others, same, lone, quiet, free) =
      (l, others, same, lone, core_quiet (map negation others) quiet, (λ h. free (core_forces (map negation others) quiet h)))

  pub core_satisfies : (v : ℕ → Bool) → satisfies v core ≡ true → satisfies v all ≡ true
  core_satisfies v model =
      satisfies_each v all (λ c cin.
      let (part, pin, within) = is.parts c cin in
      let (l, lin, holds) = clause_has v part (satisfied_clause v core part model pin) in
      clause_made v c l (within l lin) holds)

  -- more clauses behind both
  pub core_append : (more : List (List Literal)) → IsCore (core ++ more) (all ++ more)
  core_append more = record {
    among = λ c h. elim (Contains-append_cases core more c h) [
      | inl q ↦ Contains-append_left all more c (is.among c q)
      | inr q ↦ Contains-append_right all more c q
    ];
    parts = λ c h. elim (Contains-append_cases all more c h) [
      | inl q ↦ let (part, pin, within) = is.parts c q in (part, Contains-append_left core more part pin, within)
      | inr q ↦ (c, Contains-append_right core more c q, λ l lin. lin)
    ];
  }

pub core_itself : (cs ds : List (List Literal)) → cs ≡ ds → IsCore cs ds
core_itself cs ds e = let P : List (List Literal) → Type 0 = λ z. IsCore cs z in subst P e (record { among = λ c h. h; parts = λ c h. (c, h, λ l lin. lin) })

pub core_along : (cs ds all : List (List Literal)) → ds ≡ cs → IsCore cs all → IsCore ds all
core_along cs ds all e is = let P : List (List Literal) → Type 0 = λ z. IsCore z all in subst P (sym e) is

-- a core of a core
pub core_of_core : (cs ds all : List (List Literal)) → IsCore cs ds → IsCore ds all → IsCore cs all
core_of_core cs ds all first second = record {
  among = λ c h. second.among c (first.among c h);
  parts = λ c h.
      let (part, pin, within) = second.parts c h in
      let (less, lin, inside) = first.parts part pin in
      (less, lin, λ l q. within l (inside l q));
}
