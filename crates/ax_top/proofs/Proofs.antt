-- What an order to prove promises, from what the program does.
use Rattle.std.proofs.Common.{◌≡◌, ◌∙◌, ◌≤◌, ℕ, List, [], sym, subst, string_bytes, String, Global, inl, inr, arith}
use Rattle.std.specs.Prelude.{◌⊎◌, Result, Ok, Err}
use Rattle.ax_dimacs.specs.Clauses.{Formula, formula_of}
use Rattle.ax_prove.specs.Outcomes.{HasModel}
use Rattle.ax_rank_coverage.specs.Handed.{Handed}
use Rattle.ax_outside.specs.Seen.{Adds, AddsPart, Rose, Seen}
use Rattle.ax_words.specs.declared.order.Order.{Order}
use Rattle.ax_words.specs.declared.order.Order.TheVariants.{Check, Gen, Prove, Rank, Repair, Run}
use Rattle.ax_words.specs.declared.order.RepairOrder.{RepairOrder}
use Rattle.ax_words.specs.Words.{Says}
use Rattle.ax_words.proofs.Single.{one_order, orders_have_no_fault}
use Rattle.ax_top.specs.declared.answer.Answer.{Answer}
use Rattle.ax_top.specs.declared.answer.Answer.TheVariants as answer
use Rattle.ax_top.specs.declared.files.Stop.{Stop}
use Rattle.ax_top.specs.declared.files.Stop.TheVariants as stop
use Rattle.ax_top.specs.Causes.{Does, answered, memory, proves, refused, stopped, told}
use Rattle.ax_top.specs.Delivery.{Delivery, Gives, print_failed, put_failed, whole}
use Rattle.ax_top.specs.Ends.{Stops}
use Rattle.ax_top.specs.Proving.{AsksToProve, DoesProve, IsUndecided, Proving, RanOut, RefusedCnf, wants_memory}
use Rattle.ax_top.specs.Repairs.{Answers, no_repair_report}
use Rattle.ax_top.specs.Reports.{stop_status}
use Rattle.ax_top.proofs.Told.{no-proof, own-small}
use Rattle.ax_top.proofs.Proven.{asked-ends, proven}

same-formula : (r : Result Formula ℕ) (x y : Formula) → r ≡ Ok x → r ≡ Ok y → x ≡ y
same-formula r x y e f = cc

no-fault : (r : Result Formula ℕ) (x : Formula) (at : ℕ) → r ≡ Ok x → r ≡ Err at → ⊥
no-fault r x at e f = absurd (cc)

-- ---- 9 and 13 come of orders to prove alone

module _ (status : ℕ) where
  abbrev IsOther : Type 0
  IsOther = (status ≡ 9 → ⊥) × (status ≡ 13 → ⊥)

  is-other : (n : ℕ) → (n ≡ 9 → ⊥) → (n ≡ 13 → ⊥) → status ≡ n → IsOther
  is-other n nine thirteen e = ((λ h. nine (sym e ∙ h)), (λ h. thirteen (sym e ∙ h)))

  by-stop : (why : Stop) → status ≡ stop_status why → IsOther
  by-stop stop.Memory e = is-other 10 (λ h. omega arith) (λ h. omega arith) e
  by-stop stop.NoRanker e = is-other 2 (λ h. omega arith) (λ h. omega arith) e
  by-stop (stop.ReadFailed file) e = is-other 6 (λ h. omega arith) (λ h. omega arith) e
  by-stop (stop.TooLong file) e = is-other 5 (λ h. omega arith) (λ h. omega arith) e
  by-stop (stop.Source fault) e = is-other 3 (λ h. omega arith) (λ h. omega arith) e
  by-stop (stop.Suite fault) e = is-other 4 (λ h. omega arith) (λ h. omega arith) e
  by-stop (stop.NoCandidate picked count) e = is-other 2 (λ h. omega arith) (λ h. omega arith) e
  by-stop stop.NotBuilt e = is-other 11 (λ h. omega arith) (λ h. omega arith) e

  module _ (old new : Seen) (out : List ℕ) where
    by-delivery : (text report : List ℕ) → Delivery old new out text report 0 status → IsOther
    by-delivery text report (whole e holds adds) = is-other 0 (λ h. omega arith) (λ h. omega arith) e
    by-delivery text report (put_failed e holds stays rose) = is-other 7 (λ h. omega arith) (λ h. omega arith) e
    by-delivery text report (print_failed e holds adds rose) = is-other 7 (λ h. omega arith) (λ h. omega arith) e

    by-report : ((status ≡ 1) × Adds old.printed no_repair_report new.printed) ⊎ ((status ≡ 7) × AddsPart old.printed no_repair_report new.printed × Rose old.prints new.prints) → IsOther
    by-report (inl done) = is-other 1 (λ h. omega arith) (λ h. omega arith) done.0
    by-report (inr failed) = is-other 7 (λ h. omega arith) (λ h. omega arith) failed.0

    by-answer : (rankers : List Handed) (o : RepairOrder) (it : Answer) → Answers old rankers o it → Gives old new out it status → IsOther
    by-answer rankers o (answer.Repaired text report) a d = by-delivery text report d.ended
    by-answer rankers o answer.NoRepair a r = by-report r.ended
    by-answer rankers o (answer.Reported it) a r = absurd a.answered

    by-told : (own : ℕ) (report : List ℕ) → own ≤ 1
        → ((status ≡ own) × Adds old.printed report new.printed) ⊎ ((status ≡ 7) × AddsPart old.printed report new.printed × Rose old.prints new.prints) → IsOther
    by-told own report small (inl done) = is-other own (λ h. omega arith) (λ h. omega arith) done.0
    by-told own report small (inr failed) = is-other 7 (λ h. omega arith) (λ h. omega arith) failed.0

module _ (old new : Seen) (rankers : List Handed) (words : List (List ℕ)) (status : ℕ) where
  nine : Does old new rankers words status → status ≡ 9 → RanOut old new words
  nine (memory e same less) h = absurd (omega arith)
  nine (refused fault m says e f) h = absurd (omega arith)
  nine (stopped order why mid says stops same less e f) h = absurd ((by-stop status why e).0 h)
  nine (answered o it says a gives) h = absurd ((by-answer status old new (string_bytes o.out) rankers o it a gives).0 h)
  nine (told order report own says tells gives) h =
      absurd ((by-told status old new [] own report (own-small old rankers order report own tells) gives.ended).0 h)
  nine (proves cnf proof budget says d) h = (proven old new words status cnf proof budget says d).nine h

  thirteen : Does old new rankers words status → status ≡ 13 → RefusedCnf old new words
  thirteen (memory e same less) h = absurd (omega arith)
  thirteen (refused fault m says e f) h = absurd (omega arith)
  thirteen (stopped order why mid says stops same less e f) h = absurd ((by-stop status why e).1 h)
  thirteen (answered o it says a gives) h = absurd ((by-answer status old new (string_bytes o.out) rankers o it a gives).1 h)
  thirteen (told order report own says tells gives) h =
      absurd ((by-told status old new [] own report (own-small old rankers order report own tells) gives.ended).1 h)
  thirteen (proves cnf proof budget says d) h = (proven old new words status cnf proof budget says d).thirteen h

  -- ---- what is asked

  module _ (cnf proof : String Global) (budget : ℕ) (bytes : List ℕ) (asked : AsksToProve old words cnf proof budget bytes) where
    -- words that ask to prove give no other order
    no-stop : (order : Order) (why : Stop) (mid : Seen) → Says words (Ok order) → Stops old mid rankers order why → ⊥
    no-stop (Repair o) why mid says stops = one_order words (Repair o) (Prove cnf proof budget) says asked.says
    no-stop (Check a b c d) why mid says stops = one_order words (Check a b c d) (Prove cnf proof budget) says asked.says
    no-stop (Run a b n) why mid says stops = one_order words (Run a b n) (Prove cnf proof budget) says asked.says
    no-stop (Rank a b c n) why mid says stops = one_order words (Rank a b c n) (Prove cnf proof budget) says asked.says
    no-stop (Gen n) why mid says stops = one_order words (Gen n) (Prove cnf proof budget) says asked.says
    no-stop (Prove a b n) why mid says stops = stops

    that-order : (a b : String Global) (n : ℕ) → Says words (Ok (Prove a b n)) → DoesProve old new (string_bytes a) (string_bytes b) n status
        → DoesProve old new (string_bytes cnf) (string_bytes proof) budget status
    that-order a b n says d =
        let same = one_order words (Prove a b n) (Prove cnf proof budget) says asked.says in
        rw (← same.0, ← same.1, ← same.2) d

    module _ (Goal : Type 0)
        (model : (f : Formula) → formula_of bytes ≡ Ok f → HasModel f.clauses → status ≡ 1 → Goal)
        (none : (f : Formula) → formula_of bytes ≡ Ok f → (HasModel f.clauses → ⊥) → status ≡ 0 → Goal)
        (fault : (at : ℕ) → formula_of bytes ≡ Err at → status ≡ 13 → Goal) where
      ends : Does old new rankers words status → Goal ⊎ IsUndecided old new cnf proof status
      ends (memory e same less) = inr (wants_memory e)
      ends (refused why m says e f) = absurd (m (orders_have_no_fault words (Prove cnf proof budget) why asked.says says))
      ends (stopped order why mid says stops same less e f) = absurd (no-stop order why mid says stops)
      ends (answered o it says a gives) = absurd (one_order words (Repair o) (Prove cnf proof budget) says asked.says)
      ends (told order report own says tells gives) = absurd (no-proof old rankers words order report own says cnf proof budget asked.says tells)
      ends (proves a b n says d) = asked-ends old new words status cnf proof budget bytes asked Goal model none fault (that-order a b n says d)

    ends-none : (f : Formula) → formula_of bytes ≡ Ok f → (HasModel f.clauses → ⊥) → Does old new rankers words status → (status ≡ 0) ⊎ IsUndecided old new cnf proof status
    ends-none f said free does = ends (status ≡ 0)
        (λ g is has e. absurd (free (subst (λ (x : Formula). HasModel x.clauses) (same-formula (formula_of bytes) g f is said) has)))
        (λ g is lacks e. e)
        (λ at is e. absurd (no-fault (formula_of bytes) f at said is))
        does

    ends-some : (f : Formula) → formula_of bytes ≡ Ok f → HasModel f.clauses → Does old new rankers words status → (status ≡ 1) ⊎ IsUndecided old new cnf proof status
    ends-some f said has does = ends (status ≡ 1)
        (λ g is there e. e)
        (λ g is lacks e. absurd (lacks (subst (λ (x : Formula). HasModel x.clauses) (same-formula (formula_of bytes) f g said is) has)))
        (λ at is e. absurd (no-fault (formula_of bytes) f at said is))
        does

    ends-refused : (at : ℕ) → formula_of bytes ≡ Err at → Does old new rankers words status → (status ≡ 13) ⊎ IsUndecided old new cnf proof status
    ends-refused at said does = ends (status ≡ 13)
        (λ g is there e. absurd (no-fault (formula_of bytes) g at is said))
        (λ g is lacks e. absurd (no-fault (formula_of bytes) g at is said))
        (λ place is e. e)
        does

pub proving : (old new : Seen) (rankers : List Handed) (words : List (List ℕ)) (status : ℕ) → Does old new rankers words status → Proving old new words status
proving old new rankers words status does = record {
  nine = nine old new rankers words status does;
  thirteen = thirteen old new rankers words status does;
  none = λ cnf proof budget bytes f asked said free. ends-none old new rankers words status cnf proof budget bytes asked f said free does;
  some = λ cnf proof budget bytes f asked said has. ends-some old new rankers words status cnf proof budget bytes asked f said has does;
  refused = λ cnf proof budget bytes at asked said. ends-refused old new rankers words status cnf proof budget bytes asked at said does;
}
