-- Watched clauses of which the trail alone changes.
use Rattle.std.proofs.Common.{◌≡◌, ◌∙◌, ◌<◌, ◌≤◌, ◌+◌, ◌++◌, ℕ, List, [], ◌∷◌, Some, None, length, get_or, take, ap, sym, subst, arith}
use Rattle.std.specs.List.{All}
use Rattle.std.proofs.lemmas.List.{take_all}
use Rattle.std.proofs.lemmas.List.Elements.{All-more}
use Rattle.ax_proof.specs.Literal.{Literal, IsOver}
use Rattle.ax_proof.specs.Clause.{IsClause, clause_of}
use Rattle.ax_proof.proofs.Lists.{took}
use Rattle.ax_proof.proofs.Clauses.{clause_of_clause}
use Rattle.ax_proof.specs.Lines.{IsLawful}
use Rattle.ax_sat.specs.Answer.{units}
use Rattle.ax_watch.specs.Watch.{WatchState}

module _ (w v : WatchState) (kept : v ≡ record w { trail = v.trail; reasons = v.reasons }) where
  pub clauses_kept : v.clauses ≡ w.clauses
  clauses_kept = ap (λ (x : WatchState). x.clauses) kept

  pub vars_kept : v.vars ≡ w.vars
  vars_kept = ap (λ (x : WatchState). x.vars) kept

  pub kept_more : (u : WatchState) → u ≡ record v { trail = u.trail; reasons = u.reasons } → u ≡ record w { trail = u.trail; reasons = u.reasons }
  kept_more u e = e ∙ ap (λ (x : WatchState). let y : WatchState = record x { trail = u.trail; reasons = u.reasons } in y) kept

pub over_along : (n m : ℕ) (ls : List Literal) → n ≡ m → IsOver m ls → IsOver n ls
over_along n m ls e over = rw e over

pub all_over : (n m : ℕ) (cs : List (List Literal)) → n ≡ m → All (IsOver m) cs → All (IsOver n) cs
all_over n m cs e over = rw e over

pub over_at : (n m : ℕ) (cs : List (List Literal)) (i : ℕ) (c : List Literal) → n ≡ m → i < length cs → c ≡ get_or cs i c → All (IsOver m) cs → IsOver n c
over_at n m cs i c e within here over = let P : List Literal → Type 0 = λ z. IsOver m z in rw e (subst P (sym here) (over i c within))

pub clause_stays : (c d : List Literal) → IsClause c → Some d ≡ clause_of c → d ≡ c
clause_stays c d rising made = let e : Some d ≡ Some c = made ∙ sym (clause_of_clause c rising) in cc

pub no_clash_here : (c : List Literal) → IsClause c → None ≡ clause_of c → ⊥
no_clash_here c rising made = let e : None ≡ Some c = made ∙ sym (clause_of_clause c rising) in cc

pub more_copied : (cs : List (List Literal)) (i : ℕ) (c d : List Literal) (old new : List (List Literal)) → i < length cs → c ≡ get_or cs i c → d ≡ c → old ≡ take i cs → new ≡ old ++ d ∷ [] → new ≡ take (i + 1) cs
more_copied cs i c d old new within here same before pushed =
    pushed
    ∙ (ap (λ (x : List (List Literal)). x ++ d ∷ []) before
    ∙ (ap (λ (x : List Literal). take i cs ++ x ∷ []) same
    ∙ sym (took cs i c within here)))

pub all_over_more : (n m k : ℕ) (cs : List (List Literal)) → n ≡ m → m ≤ k → All (IsOver n) cs → All (IsOver k) cs
all_over_more n m k cs e le over i d lt l lin = let o = over i d lt l lin in let low = o.0 in let high = o.1 in (o.0, omega arith)

pub lawful_along : (cs ds : List (List Literal)) (assumed : List Literal) (lines : List (List Literal)) → cs ≡ ds → IsLawful (ds ++ units assumed) lines → IsLawful (cs ++ units assumed) lines
lawful_along cs ds assumed lines e lawful =
    let P : List (List Literal) → Type 0 = λ x. IsLawful (x ++ units assumed) lines in
    subst P (sym e) lawful

-- one clause after another
pub over_at_all : (n : ℕ) (cs : List (List Literal)) (i : ℕ) (c : List Literal) → i < length cs → c ≡ get_or cs i c → All (IsOver n) cs → IsOver n c
over_at_all n cs i c within here over = let P : List Literal → Type 0 = λ z. IsOver n z in subst P (sym here) (over i c within)

pub over_next : (n : ℕ) (cs : List (List Literal)) (i : ℕ) (c : List Literal) → i < length cs → c ≡ get_or cs i c → IsOver n c → All (IsOver n) (take i cs) → All (IsOver n) (take (i + 1) cs)
over_next n cs i c within here now before = let P : List Literal → Type 0 = λ z. IsOver n z in All-more (IsOver n) cs i c within before (subst P here now)

pub over_every : (n : ℕ) (cs : List (List Literal)) (i : ℕ) → length cs ≤ i → All (IsOver n) (take i cs) → All (IsOver n) cs
over_every n cs i all over = rw take_all at over
