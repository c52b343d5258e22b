-- How an order to prove ends, step by step, and what its statuses say.
use Rattle.std.proofs.Common.{◌≡◌, ◌≢◌, ◌∙◌, ◌≤◌, ◌<◌, ℕ, List, length, inl, inr, sym, ap, subst, string_bytes, String, Global, Some, None, arith}
use Rattle.std.specs.Prelude.{◌⊎◌, Option, Ok, Err}
use Rattle.ax_dimacs.specs.Clauses.{Formula, formula_of}
use Rattle.ax_prove.specs.declared.outcome.Outcome.{Outcome}
use Rattle.ax_prove.specs.declared.outcome.Outcome.TheVariants as outcome
use Rattle.ax_prove.specs.Outcomes.{Decides, HasModel, Shows, ShowsLines, ShowsModel, ShowsProof, lines_of, report_of, status_of}
use Rattle.ax_prove.specs.Texts.{budget_report, refuted_report}
use Rattle.ax_outside.specs.Seen.{Adds, AddsPart, Holds, NoLess, Rose, Same, Seen, Told}
use Rattle.ax_outside.proofs.Steps.{no_less-then, same-then}
use Rattle.ax_words.specs.declared.order.Order.TheVariants.{Prove}
use Rattle.ax_words.specs.Words.{Says}
use Rattle.ax_top.specs.declared.proving.Halt.{Halt}
use Rattle.ax_top.specs.declared.proving.Halt.TheVariants as halt
use Rattle.ax_top.specs.Delivery.{Delivery, print_failed, put_failed, unprinted, whole}
use Rattle.ax_top.specs.Proving.{AsksToProve, CnfEnds, CnfRead, DoesProve, FoundModel, GaveLessOfProof, GivesLines, GivesOutcome, IsCnfLong, IsSaid, IsUndecided, RanOut, RefusedCnf, Refuses, WroteProof, cnf_limit, fails_to_give, fails_to_read, given, halt_report, halt_status, halted, memory, spends_budget, wants_memory}
use Rattle.ax_top.specs.Reports.{Finishes}
use Rattle.ax_top.proofs.Giving.{delivers-after, reports-after}

-- ---- the call

module _ (old mid new : Seen) (cnf proof : List ℕ) (budget status : ℕ) where
  pub refused-proves : (why : Halt) → CnfEnds old mid cnf budget (Err why) → Same old mid → NoLess old mid → Refuses mid new cnf why status
      → DoesProve old new cnf proof budget status
  refused-proves why ends same less (inl m) = memory m.0 (same-then _ _ _ same m.1) (no_less-then _ _ _ less m.2)
  refused-proves why ends same less (inr e) = halted why mid ends same less e.0 e.1

  -- what is given after calls that changed nothing
  pub lines-after : (report : List ℕ) (own : ℕ) (lines : Option (List ℕ)) → Same old mid → NoLess old mid
      → GivesLines mid new proof report own lines status → GivesLines old new proof report own lines status
  lines-after report own None same less r = reports-after old mid new report own status same less r
  lines-after report own (Some lines) same less d = delivers-after old mid new proof lines report own status same less d

-- ---- counts and prints

rose-from : (before mid now : ℕ) → before ≤ mid → Rose mid now → Rose before now
rose-from before mid now less rose = omega arith

rose-to : (before mid now : ℕ) → Rose before mid → mid ≤ now → Rose before now
rose-to before mid now rose less = omega arith

printed-after : (old mid new : Seen) (report : List ℕ) → Same old mid → NoLess old mid
    → Adds mid.printed report new.printed ⊎ (AddsPart mid.printed report new.printed × Rose mid.prints new.prints)
    → Adds old.printed report new.printed ⊎ (AddsPart old.printed report new.printed × Rose old.prints new.prints)
printed-after old mid new report same less (inl done) = inl (subst (λ p. Adds p report new.printed) same.printed done)
printed-after old mid new report same less (inr failed) =
    inr (subst (λ p. AddsPart p report new.printed) same.printed failed.0, rose-from _ _ _ less.prints failed.1)

pub finishes-after : (old mid new : Seen) (report : List ℕ) → Same old mid → NoLess old mid → Finishes mid new report → Finishes old new report
finishes-after old mid new report same less f = record {
  printed = printed-after old mid new report same less f.printed;
  kept = λ g. f.kept g ∙ same.kept g;
  counts = no_less-then _ _ _ less f.counts;
}

-- ---- what the statuses say

-- what an order to prove says by its status
pub record Proven (old new : Seen) (words : List (List ℕ)) (status : ℕ) : Type 0 where
  pub zero : status ≡ 0 → WroteProof old new words
  pub one : status ≡ 1 → FoundModel old new words
  pub seven : status ≡ 7 → GaveLessOfProof old new words
  pub nine : status ≡ 9 → RanOut old new words
  pub thirteen : status ≡ 13 → RefusedCnf old new words

module _ (old new : Seen) (words : List (List ℕ)) (status : ℕ) (cnf proof : String Global) (budget : ℕ) (says : Says words (Ok (Prove cnf proof budget))) where
  other : (n : ℕ) → (n ≡ 0 → ⊥) → (n ≡ 1 → ⊥) → (n ≡ 7 → ⊥) → (n ≡ 9 → ⊥) → (n ≡ 13 → ⊥) → status ≡ n → Proven old new words status
  other n zero one seven nine thirteen e = record {
    zero = λ h. absurd (zero (sym e ∙ h));
    one = λ h. absurd (one (sym e ∙ h));
    seven = λ h. absurd (seven (sym e ∙ h));
    nine = λ h. absurd (nine (sym e ∙ h));
    thirteen = λ h. absurd (thirteen (sym e ∙ h));
  }

  gave-less : status ≡ 7 → Rose (old.puts (string_bytes proof)) (new.puts (string_bytes proof)) ⊎ Rose old.prints new.prints → Proven old new words status
  gave-less e rose = record {
    zero = λ h. absurd (omega arith);
    one = λ h. absurd (omega arith);
    seven = λ h. record { cnf = cnf; proof = proof; budget = budget; says = says; rose = rose };
    nine = λ h. absurd (omega arith);
    thirteen = λ h. absurd (omega arith);
  }

  by-halt : (why : Halt) (mid : Seen) → CnfEnds old mid (string_bytes cnf) budget (Err why) → Same old mid → NoLess old mid → status ≡ halt_status why
      → Finishes mid new (halt_report (string_bytes cnf) why) → Proven old new words status
  by-halt halt.Memory mid ends same less e f = other 10 (λ h. omega arith) (λ h. omega arith) (λ h. omega arith) (λ h. omega arith) (λ h. omega arith) e
  by-halt halt.ReadFailed mid ends same less e f = other 6 (λ h. omega arith) (λ h. omega arith) (λ h. omega arith) (λ h. omega arith) (λ h. omega arith) e
  by-halt halt.TooLong mid ends same less e f = other 5 (λ h. omega arith) (λ h. omega arith) (λ h. omega arith) (λ h. omega arith) (λ h. omega arith) e
  by-halt (halt.Refused at) mid ends same less e f =
      let is : status ≡ 13 = e in record {
        zero = λ h. absurd (omega arith);
        one = λ h. absurd (omega arith);
        seven = λ h. absurd (omega arith);
        nine = λ h. absurd (omega arith);
        thirteen = λ h. record {
          cnf = cnf;
          proof = proof;
          budget = budget;
          bytes = ends.0;
          at = at;
          says = says;
          read = ends.1;
          fault = ends.2;
          reports = finishes-after old mid new (halt_report (string_bytes cnf) (halt.Refused at)) same less f;
        };
      }

  module _ (bytes : List ℕ) (f : Formula) (read : CnfRead (old.kept (string_bytes cnf)) bytes) (said : formula_of bytes ≡ Ok f) where
    abbrev here : IsSaid old words
    here = record { cnf = cnf; proof = proof; budget = budget; bytes = bytes; formula = f; says = says; read = read; said = said }

    by-model : (report : List ℕ) → ShowsModel f report
        → ((status ≡ 1) × Adds old.printed report new.printed) ⊎ ((status ≡ 7) × AddsPart old.printed report new.printed × Rose old.prints new.prints)
        → Proven old new words status
    by-model report shows (inl done) =
        let is : status ≡ 1 = done.0 in record {
          zero = λ h. absurd (omega arith);
          one = λ h. record { order = here; bits = shows.bits; model = shows.model; reports = subst (λ t. Adds old.printed t new.printed) shows.text done.1 };
          seven = λ h. absurd (omega arith);
          nine = λ h. absurd (omega arith);
          thirteen = λ h. absurd (omega arith);
        }
    by-model report shows (inr failed) = gave-less failed.0 (inr failed.2)

    by-proof : (text : List ℕ) → ShowsProof f text → (HasModel f.clauses → ⊥) → Delivery old new (string_bytes proof) text refuted_report 0 status
        → Proven old new words status
    by-proof text shows none (whole e holds adds) = record {
      zero = λ h. record {
        order = here;
        none = none;
        lines = shows.lines;
        proof = shows.proof;
        holds = subst (λ t. Holds (old.kept (string_bytes proof)) t (new.kept (string_bytes proof))) shows.is_text holds;
        reports = adds;
      };
      one = λ h. absurd (omega arith);
      seven = λ h. absurd (omega arith);
      nine = λ h. absurd (omega arith);
      thirteen = λ h. absurd (omega arith);
    }
    by-proof text shows none (put_failed e holds stays rose) = gave-less e (inl rose)
    by-proof text shows none (print_failed e holds adds rose) = gave-less e (inr rose)

    by-lines : (text : List ℕ) → ShowsLines f budget text → Delivery old new (string_bytes proof) text budget_report 9 status → Proven old new words status
    by-lines text shows (whole e holds adds) = record {
      zero = λ h. absurd (omega arith);
      one = λ h. absurd (omega arith);
      seven = λ h. absurd (omega arith);
      nine = λ h. record { order = here; text = text; lines = shows; holds = holds; reports = inl adds };
      thirteen = λ h. absurd (omega arith);
    }
    by-lines text shows (put_failed e holds stays rose) = gave-less e (inl rose)
    by-lines text shows (print_failed e holds adds rose) =
        let is : status ≡ 9 = e in record {
          zero = λ h. absurd (omega arith);
          one = λ h. absurd (omega arith);
          seven = λ h. absurd (omega arith);
          nine = λ h. record { order = here; text = text; lines = shows; holds = holds; reports = inr (adds, rose) };
          thirteen = λ h. absurd (omega arith);
        }

    by-outcome : (it : Outcome) → Shows f budget it → Decides f it → GivesOutcome old new (string_bytes proof) it status → Proven old new words status
    by-outcome (outcome.Model report) shows decides r = by-model report.items shows r.ended
    by-outcome (outcome.Refuted text) shows decides d = by-proof text.items shows decides d.ended
    by-outcome (outcome.Budget text) shows decides d = by-lines text.items shows d.ended

  pub proven : DoesProve old new (string_bytes cnf) (string_bytes proof) budget status → Proven old new words status
  proven (memory e same less) = other 10 (λ h. omega arith) (λ h. omega arith) (λ h. omega arith) (λ h. omega arith) (λ h. omega arith) e
  proven (halted why mid ends same less e f) = by-halt why mid ends same less e f
  proven (given it mid ends same less gives) =
      by-outcome ends.0 ends.1 ends.2 ends.3 it ends.4 ends.5
      (lines-after old mid new (string_bytes cnf) (string_bytes proof) budget status (report_of it) (status_of it) (lines_of it) same less gives)

-- ---- what stays

kept-by : (old new : Seen) (proof report : List ℕ) (own status : ℕ) (lines : Option (List ℕ)) → GivesLines old new proof report own lines status
    → (f : List ℕ) → f ≢ proof → new.kept f ≡ old.kept f
kept-by old new proof report own status None r f h = r.kept f
kept-by old new proof report own status (Some lines) d f h = d.others f h

counts-by : (old new : Seen) (proof report : List ℕ) (own status : ℕ) (lines : Option (List ℕ)) → GivesLines old new proof report own lines status → NoLess old new
counts-by old new proof report own status None r = r.counts
counts-by old new proof report own status (Some lines) d = d.counts

module _ (old new : Seen) (cnf proof : List ℕ) (budget status : ℕ) where
  pub proof-kept : DoesProve old new cnf proof budget status → (f : List ℕ) → f ≢ proof → new.kept f ≡ old.kept f
  proof-kept (memory e same less) f h = same.kept f
  proof-kept (halted why mid ends same less e g) f h = g.kept f ∙ same.kept f
  proof-kept (given it mid ends same less gives) f h =
      kept-by mid new proof (report_of it) (status_of it) status (lines_of it) gives f h ∙ same.kept f

  pub proof-counts : DoesProve old new cnf proof budget status → NoLess old new
  proof-counts (memory e same less) = less
  proof-counts (halted why mid ends same less e g) = no_less-then _ _ _ less g.counts
  proof-counts (given it mid ends same less gives) =
      no_less-then _ _ _ less (counts-by mid new proof (report_of it) (status_of it) status (lines_of it) gives)

-- ---- what is asked

told-bytes : (told : Told) (bytes found : List ℕ) → told ≡ Some (Some bytes) → CnfRead told found → found ≡ bytes
told-bytes told bytes found e read =
    let is : CnfRead (Some (Some bytes)) found = subst (λ (t : Told). CnfRead t found) e read in
    is.same

too-long : (told : Told) (bytes : List ℕ) → told ≡ Some (Some bytes) → length bytes ≤ cnf_limit → IsCnfLong told → ⊥
too-long told bytes e short long =
    let is : cnf_limit < length bytes = subst (λ (t : Told). IsCnfLong t) e long in
    omega arith

module _ (old new : Seen) (words : List (List ℕ)) (status : ℕ) (cnf proof : String Global) (budget : ℕ) (bytes : List ℕ)
    (asked : AsksToProve old words cnf proof budget bytes) (Goal : Type 0)
    (model : (f : Formula) → formula_of bytes ≡ Ok f → HasModel f.clauses → status ≡ 1 → Goal)
    (none : (f : Formula) → formula_of bytes ≡ Ok f → (HasModel f.clauses → ⊥) → status ≡ 0 → Goal)
    (fault : (at : ℕ) → formula_of bytes ≡ Err at → status ≡ 13 → Goal) where
  asked-halt : (why : Halt) (mid : Seen) → CnfEnds old mid (string_bytes cnf) budget (Err why) → NoLess mid new → status ≡ halt_status why
      → Goal ⊎ IsUndecided old new cnf proof status
  asked-halt halt.Memory mid ends less e = inr (wants_memory e)
  asked-halt halt.ReadFailed mid ends less e = inr (fails_to_read e (rose-to _ _ _ ends (less.reads (string_bytes cnf))))
  asked-halt halt.TooLong mid ends less e = absurd (too-long (old.kept (string_bytes cnf)) bytes asked.told asked.short ends)
  asked-halt (halt.Refused at) mid ends less e =
      let same = told-bytes (old.kept (string_bytes cnf)) bytes ends.0 asked.told ends.1 in
      inl (fault at (ap formula_of (sym same) ∙ ends.2) e)

  asked-report : (own : ℕ) (report : List ℕ) → (status ≡ own → Goal ⊎ IsUndecided old new cnf proof status)
      → ((status ≡ own) × Adds old.printed report new.printed) ⊎ ((status ≡ 7) × AddsPart old.printed report new.printed × Rose old.prints new.prints)
      → Goal ⊎ IsUndecided old new cnf proof status
  asked-report own report go (inl done) = go done.0
  asked-report own report go (inr failed) = inr (fails_to_give failed.0 (inr failed.2))

  asked-delivery : (own : ℕ) (text report : List ℕ) → (status ≡ own → Goal ⊎ IsUndecided old new cnf proof status)
      → (status ≡ unprinted own → Rose old.prints new.prints → Goal ⊎ IsUndecided old new cnf proof status)
      → Delivery old new (string_bytes proof) text report own status → Goal ⊎ IsUndecided old new cnf proof status
  asked-delivery own text report go lost (whole e holds adds) = go e
  asked-delivery own text report go lost (put_failed e holds stays rose) = inr (fails_to_give e (inl rose))
  asked-delivery own text report go lost (print_failed e holds adds rose) = lost e rose

  asked-outcome : (f : Formula) → formula_of bytes ≡ Ok f → (it : Outcome) → Decides f it → GivesOutcome old new (string_bytes proof) it status
      → Goal ⊎ IsUndecided old new cnf proof status
  asked-outcome f said (outcome.Model report) decides r = asked-report 1 report.items (λ e. inl (model f said decides e)) r.ended
  asked-outcome f said (outcome.Refuted text) decides d = asked-delivery 0 text.items refuted_report (λ e. inl (none f said decides e)) (λ e rose. inr (fails_to_give e (inr rose))) d.ended
  asked-outcome f said (outcome.Budget text) decides d = asked-delivery 9 text.items budget_report (λ e. inr (spends_budget e)) (λ e rose. inr (spends_budget e)) d.ended

  pub asked-ends : DoesProve old new (string_bytes cnf) (string_bytes proof) budget status → Goal ⊎ IsUndecided old new cnf proof status
  asked-ends (memory e same less) = inr (wants_memory e)
  asked-ends (halted why mid ends same less e f) = asked-halt why mid ends f.counts e
  asked-ends (given it mid ends same less gives) =
      let found = told-bytes (old.kept (string_bytes cnf)) bytes ends.0 asked.told ends.2 in
      asked-outcome ends.1 (ap formula_of (sym found) ∙ ends.3) it ends.5
      (lines-after old mid new (string_bytes cnf) (string_bytes proof) budget status (report_of it) (status_of it) (lines_of it) same less gives)
