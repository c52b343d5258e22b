-- How a log grows.
use Rattle.std.proofs.Common.{◌≡◌, ◌≢◌, ℕ, ◌+◌, List, [], ◌∷◌, ◌++◌, length, take, map, arith, inl, inr, refl, sym, subst, ap, ◌∙◌, length-append, append_assoc, Bool, Ok, Err}
use Rattle.std.specs.Prelude.{Result, OnOk, OnErr, IfOk}
use Rattle.std.specs.List.{All, Contains}
use Rattle.std.proofs.lemmas.Bool.{cases_order}
use Rattle.std.proofs.lemmas.List.{take-append-le, append-nil}
use Rattle.std.proofs.lemmas.List.Elements.{All-push, Contains-append_left, Contains-append_right, Contains-append_cases}
use Rattle.std.proofs.Math.ListN.{get_or-append}
use Rattle.std.proofs.Math.Seq.{get_or-append_seam, take-length}
use Rattle.ax_proof.specs.Literal.{Literal, negation, IsOver}
use Rattle.ax_proof.specs.Clause.{IsClause}
use Rattle.ax_proof.specs.Assignment.{assigned}
use Rattle.ax_proof.specs.Propagation.{given, Conflicts, HasRup}
use Rattle.ax_proof.specs.Lines.{line_at, IsLawful, IsProof, IsNew}
use Rattle.ax_proof.proofs.Lists.{Contains-none}
use Rattle.ax_proof.proofs.Models.{new_is_not_empty, satisfies_both}
use Rattle.ax_proof.proofs.Propagations.{propagates_along, conflicts_along}
use Rattle.ax_sat.specs.declared.answer.Answer.{Answer}
use Rattle.ax_sat.specs.declared.answer.Answer.TheVariants.{Refuted}
use Rattle.ax_sat.specs.Answer.{AnswerSays, units, EachFrom, IsModel, LogGoesOn, SpendsBudget}
use Rattle.ax_sat.specs.Search.{IsLesson, Logs}
use Rattle.ax_sat.proofs.Models.{satisfies_left, satisfies_right}
use Rattle.ax_sat.proofs.Counting.{few_new}

pub each_push : (P : List (List Literal) → List Literal → Type 0) (from : ℕ) (lines : List (List Literal)) (line : List Literal) → EachFrom P from lines → P lines line → EachFrom P from (lines ++ line ∷ [])
each_push P from lines line before now k low h =
    let end : length (lines ++ line ∷ []) ≡ length lines + 1 = length-append lines (line ∷ []) in
    elim (cases_order k (length lines)) [
      | inr (inl lt) ↦
          let at_front : List (List Literal) → Type 0 = λ x. P x (line_at (lines ++ line ∷ []) k) in
          let at_line : List Literal → Type 0 = λ x. P (take k lines) x in
          subst at_front (sym (take-append-le k lines (line ∷ []) (omega arith))) (subst at_line (sym (get_or-append lines (line ∷ []) [] k lt)) (before k low lt))
      | inl e ↦
          let at_place : ℕ → Type 0 = λ n. P (take n (lines ++ line ∷ [])) (line_at (lines ++ line ∷ []) n) in
          let at_front : List (List Literal) → Type 0 = λ x. P x (line_at (lines ++ line ∷ []) (length lines)) in
          let at_line : List Literal → Type 0 = λ x. P lines x in
          subst at_place (sym e) (subst at_front (sym (take-append-le (length lines) lines (line ∷ []) (omega arith) ∙ take-length lines)) (subst at_line (sym (get_or-append_seam lines line [] [])) now))
      | inr (inr gt) ↦ absurd (omega arith)
    ]

module _ (cs ds : List (List Literal)) (more : (c : List Literal) → Contains cs c → Contains ds c) where
  pub conflicts_more : (xs : List Literal) → Conflicts cs xs → Conflicts ds xs
  conflicts_more xs h = conflicts_along cs ds xs xs more (λ l q. given q) h

  -- what is new from more clauses is new from fewer
  pub new_less : (line : List Literal) → IsNew ds line → IsNew cs line
  new_less line (l, others, same, lone, quiet, free) =
      (l, others, same, lone, (λ h. quiet (conflicts_more (map negation others) h)), (λ h. free (propagates_along cs ds (map negation others) (map negation others) more (λ k q. given q) h)))

module _ (cs ls us : List (List Literal)) where
  pub units_last : (c : List Literal) → Contains ((cs ++ us) ++ ls) c → Contains ((cs ++ ls) ++ us) c
  units_last c h =
      elim (Contains-append_cases (cs ++ us) ls c h) [
        | inl q ↦ elim (Contains-append_cases cs us c q) [
          | inl r ↦ Contains-append_left (cs ++ ls) us c (Contains-append_left cs ls c r)
          | inr r ↦ Contains-append_right (cs ++ ls) us c r
        ]
        | inr q ↦ Contains-append_left (cs ++ ls) us c (Contains-append_right cs ls c q)
      ]

  without_units : (c : List Literal) → Contains (cs ++ ls) c → Contains ((cs ++ us) ++ ls) c
  without_units c h =
      elim (Contains-append_cases cs ls c h) [
        | inl q ↦ Contains-append_left (cs ++ us) ls c (Contains-append_left cs us c q)
        | inr q ↦ Contains-append_right (cs ++ us) ls c q
      ]

  units_first : (c : List Literal) → Contains ((cs ++ ls) ++ us) c → Contains ((cs ++ us) ++ ls) c
  units_first c h =
      elim (Contains-append_cases (cs ++ ls) us c h) [
        | inl q ↦ without_units c q
        | inr q ↦ Contains-append_left (cs ++ us) ls c (Contains-append_right cs us c q)
      ]

pub logs_start : (cs : List (List Literal)) (assumed : List Literal) (vars : ℕ) (old : List (List Literal)) → All (IsOver vars) old → All (λ line. line ≢ []) old → IsLawful (cs ++ units assumed) old → Logs cs assumed vars old old 0
logs_start cs assumed vars old over full lawful = record {
  added = [];
  same = sym (append-nil old);
  counted = refl;
  over = over;
  rising = λ k d h. absurd (omega arith);
  full = full;
  lawful = lawful;
  alone = λ k low h. absurd (omega arith);
  fresh = λ k low h. absurd (omega arith);
}

module _ (cs : List (List Literal)) (assumed : List Literal) (vars : ℕ) (old new : List (List Literal)) (count : ℕ) (log : Logs cs assumed vars old new count) where
  lawful_push : (line : List Literal) → HasRup ((cs ++ units assumed) ++ new) line → IsLawful (cs ++ units assumed) (new ++ line ∷ [])
  lawful_push line h k lt = each_push (λ before x. HasRup ((cs ++ units assumed) ++ before) x) 0 new line (λ j low q. log.lawful j q) h k (omega arith) lt

  pub logs_go_on : LogGoesOn cs assumed vars old new
  logs_go_on = record { begins = (log.added, log.same); over = log.over; lawful = log.lawful; alone = log.alone }

  pub logs_more : (line : List Literal) → IsLesson (cs ++ new) assumed vars line → Logs cs assumed vars old (new ++ line ∷ []) (count + 1)
  logs_more line lesson = record {
    added = log.added ++ line ∷ [];
    same = ap (λ (x : List (List Literal)). x ++ line ∷ []) log.same ∙ append_assoc old log.added (line ∷ []);
    counted = let e = log.counted in let f : length (log.added ++ line ∷ []) ≡ length log.added + 1 = length-append log.added (line ∷ []) in omega arith;
    over = All-push (IsOver vars) new line log.over lesson.over;
    rising = All-push IsClause log.added line log.rising lesson.rising;
    full = All-push (λ c. c ≢ []) new line log.full (new_is_not_empty _ line lesson.fresh);
    lawful = lawful_push line (conflicts_more (cs ++ new) ((cs ++ units assumed) ++ new) (without_units cs new (units assumed)) (map negation line) lesson.lawful);
    alone = each_push (λ before x. x ≢ [] → HasRup (cs ++ before) x) (length old) new line log.alone (λ ne. lesson.lawful);
    fresh = each_push (λ before x. IsNew ((cs ++ units assumed) ++ before) x) (length old) new line log.fresh (new_less ((cs ++ units assumed) ++ new) ((cs ++ new) ++ units assumed) (units_last cs new (units assumed)) line lesson.fresh);
  }

  refuted_lawful : HasRup ((cs ++ new) ++ units assumed) [] → IsLawful (cs ++ units assumed) (new ++ [] ∷ [])
  refuted_lawful h = lawful_push [] (conflicts_more ((cs ++ new) ++ units assumed) ((cs ++ units assumed) ++ new) (units_first cs new (units assumed)) [] h)

  pub refuted_proof : HasRup ((cs ++ new) ++ units assumed) [] → IsProof (cs ++ units assumed) (new ++ [] ∷ [])
  refuted_proof h = (refuted_lawful h, (new, refl, log.full))

  pub refuted_goes_on : HasRup ((cs ++ new) ++ units assumed) [] → LogGoesOn cs assumed vars old (new ++ [] ∷ [])
  refuted_goes_on h = record {
    begins = (log.added ++ [] ∷ [], ap (λ (x : List (List Literal)). x ++ [] ∷ []) log.same ∙ append_assoc old log.added ([] ∷ []));
    over = All-push (IsOver vars) new [] log.over (λ l h. absurd (Contains-none l h));
    lawful = refuted_lawful h;
    alone = each_push (λ before x. x ≢ [] → HasRup (cs ++ before) x) (length old) new [] log.alone (λ ne. absurd (ne refl));
  }

  not_refuted : (HasRup ((cs ++ new) ++ units assumed) [] → ⊥) → HasRup ((cs ++ units assumed) ++ new) [] → ⊥
  not_refuted still h = still (conflicts_more ((cs ++ units assumed) ++ new) ((cs ++ new) ++ units assumed) (units_last cs new (units assumed)) [] h)

  pub spends : (HasRup ((cs ++ new) ++ units assumed) [] → ⊥) → SpendsBudget (cs ++ units assumed) vars old new count
  spends still = record {
    added = log.added;
    same = log.same;
    counted = log.counted;
    fresh = log.fresh;
    open_end = not_refuted still;
    few = let e = log.counted in let h = few_new (cs ++ units assumed) vars old log.added new log.same log.over log.rising log.fresh in omega arith;
  }

  pub model_kept : (bits : List Bool) → IsModel ((cs ++ new) ++ units assumed) vars bits → IsModel (cs ++ units assumed) vars bits
  model_kept bits (covers, h) =
      let v = assigned bits in
      (covers, satisfies_both v cs (units assumed) (satisfies_left v cs new (satisfies_left v (cs ++ new) (units assumed) h)) (satisfies_right v (cs ++ new) (units assumed) h))

-- the log that ends with the empty line, or where there was no memory for it
module _ (cs : List (List Literal)) (assumed : List Literal) (vars : ℕ) (old new end : List (List Literal)) (count : ℕ) (log : Logs cs assumed vars old new count) (rup : HasRup ((cs ++ new) ++ units assumed) []) {E : Type 0} where
  pub ended_log : (result : Result Answer E) → OnOk result (end ≡ new ++ [] ∷ []) → OnErr result (end ≡ new) → LogGoesOn cs assumed vars old end
  ended_log (Ok a) done refused = rw done (refuted_goes_on cs assumed vars old new count log rup)
  ended_log (Err e) done refused = rw refused (logs_go_on cs assumed vars old new count log)

  pub ended_answer : (budget : ℕ) (result : Result Answer E) → IfOk result (λ a. a ≡ Refuted) → OnOk result (end ≡ new ++ [] ∷ []) → IfOk result (λ a. AnswerSays (cs ++ units assumed) vars old end budget a)
  ended_answer budget (Ok a) is done = rw (is, done) (refuted_proof cs assumed vars old new count log rup)
  ended_answer budget (Err e) is done = tt
