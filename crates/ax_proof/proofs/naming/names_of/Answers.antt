use Rattle.std.proofs.Common.{◌≡◌, ◌∙◌, ◌∷◌, ◌++◌, [], List, ℕ, ap, sym, subst}
use Rattle.std.specs.List.{Contains}
use Rattle.std.proofs.lemmas.List.Concat.{flat_map-append}
use Rattle.std.proofs.lemmas.List.Filters.{dedup_is}
use Rattle.std.proofs.lemmas.List.Kept.{Contains-dedup_nat, Contains-from_dedup}
use Rattle.std.proofs.lemmas.List.Sorted.{Contains-permutation, IsPermutation-sym}
use Rattle.std.proofs.lemmas.Map.Keys.{IsStrictlyIncreasing-dedup}
use Rattle.ax_proof.specs.Literal.{Literal}
use Rattle.ax_proof.specs.Naming.{vars_of, all_vars}
use Rattle.ax_proof.proofs.naming.names_of.Goals as goal

all_pushed : (cs lines : List (List Literal)) (a b d : List ℕ) → a ≡ 0 ∷ [] → b ≡ a ++ all_vars cs → d ≡ b ++ all_vars lines → d ≡ 0 ∷ all_vars (cs ++ lines)
all_pushed cs lines a b d ea eb ed =
    ed
    ∙ ap (λ (x : List ℕ). x ++ all_vars lines) (eb ∙ ap (λ (x : List ℕ). x ++ all_vars cs) ea)
    ∙ ap (λ (x : List ℕ). 0 ∷ x) (sym (flat_map-append vars_of cs lines))

pub returns-clause-rising : goal.returns-clause-rising
returns-clause-rising c =
    let is = dedup_is _ _ _ c.dedup.ensures.filtered in
    rw is (IsStrictlyIncreasing-dedup _ c.sort_unstable.ensures.sorted)

pub returns-clause-exact : goal.returns-clause-exact
returns-clause-exact c =
    let is = dedup_is _ _ _ c.dedup.ensures.filtered in
    let moved = c.sort_unstable.ensures.permutation in
    let all = all_pushed c.args.clauses.now c.args.lines.now _ _ _ c.in_ok-names.ensures.items c.in_ok-push_all_vars.ensures c.in_ok-push_all_vars-2.ensures in
    λ x. (
      (λ h. let P : List ℕ → Type 0 = λ xs. Contains xs x in subst P all (Contains-permutation _ _ x (IsPermutation-sym _ _ moved) (Contains-from_dedup _ _ x (rw is at h)))),
      (λ h. let P : List ℕ → Type 0 = λ xs. Contains xs x in rw is (Contains-dedup_nat _ x (Contains-permutation _ _ x moved (subst P (sym all) h)))),
    )
