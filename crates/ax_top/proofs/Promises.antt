-- The headline, and what stays, from what the program does.
use Rattle.std.proofs.Common.{◌≡◌, ◌∙◌, ◌≤◌, ℕ, List, inl, inr, sym, subst, string_bytes, arith}
use Rattle.std.specs.Prelude.{◌⊎◌, Ok}
use Rattle.ax_rank_coverage.specs.Handed.{Handed}
use Rattle.ax_outside.specs.Seen.{Adds, AddsPart, Holds, Rose, Seen}
use Rattle.ax_outside.proofs.Steps.{no_less-then}
use Rattle.ax_words.specs.declared.order.Order.{Order}
use Rattle.ax_words.specs.declared.order.Order.TheVariants.{Repair}
use Rattle.ax_words.specs.declared.order.RepairOrder.{RepairOrder}
use Rattle.ax_words.specs.Words.{Says}
use Rattle.ax_top.specs.declared.answer.Answer.{Answer}
use Rattle.ax_top.specs.declared.answer.Answer.TheVariants as answer
use Rattle.ax_top.specs.declared.files.Stop.{Stop}
use Rattle.ax_top.specs.declared.files.Stop.TheVariants as stop
use Rattle.ax_top.specs.Causes.{Does, Keeps, answered, memory, proves, refused, stopped, told}
use Rattle.ax_top.specs.Delivery.{Delivery, Gives, print_failed, put_failed, whole}
use Rattle.ax_top.specs.Headline.{Headline, Reported, WroteLeast}
use Rattle.ax_top.specs.Repairs.{Answers, no_repair_report}
use Rattle.ax_top.specs.Reports.{stop_status}
use Rattle.ax_top.specs.Telling.{Tells}
use Rattle.ax_top.proofs.Told.{only-reports, own-small}
use Rattle.ax_top.proofs.Proven.{proof-counts, proof-kept, proven}

module _ (old new : Seen) (rankers : List Handed) (words : List (List ℕ)) (status : ℕ) where
  none-of : (n : ℕ) → (n ≡ 0 → ⊥) → (n ≡ 1 → ⊥) → (n ≡ 7 → ⊥) → status ≡ n → Headline old new rankers words status
  none-of n zero one seven e = record {
    zero = λ h. absurd (zero (sym e ∙ h));
    one = λ h. absurd (one (sym e ∙ h));
    seven = λ h. absurd (seven (sym e ∙ h));
  }

  by-stop : (why : Stop) → status ≡ stop_status why → Headline old new rankers words status
  by-stop stop.Memory e = none-of 10 (λ h. omega arith) (λ h. omega arith) (λ h. omega arith) e
  by-stop stop.NoRanker e = none-of 2 (λ h. omega arith) (λ h. omega arith) (λ h. omega arith) e
  by-stop (stop.ReadFailed file) e = none-of 6 (λ h. omega arith) (λ h. omega arith) (λ h. omega arith) e
  by-stop (stop.TooLong file) e = none-of 5 (λ h. omega arith) (λ h. omega arith) (λ h. omega arith) e
  by-stop (stop.Source fault) e = none-of 3 (λ h. omega arith) (λ h. omega arith) (λ h. omega arith) e
  by-stop (stop.Suite fault) e = none-of 4 (λ h. omega arith) (λ h. omega arith) (λ h. omega arith) e
  by-stop (stop.NoCandidate picked count) e = none-of 2 (λ h. omega arith) (λ h. omega arith) (λ h. omega arith) e
  by-stop stop.NotBuilt e = none-of 11 (λ h. omega arith) (λ h. omega arith) (λ h. omega arith) e

  wrote : (o : RepairOrder) (text lines : List ℕ) → Says words (Ok (Repair o)) → Answers old rankers o (answer.Repaired text lines)
      → Holds (old.kept (string_bytes o.out)) text (new.kept (string_bytes o.out)) → Adds old.printed lines new.printed → WroteLeast old new rankers words
  wrote o text lines says a holds adds = record {
    order = o;
    source = a.source;
    program = a.program;
    suite = a.suite;
    numbers = a.numbers;
    chosen = a.chosen;
    patch = a.answered.patch;
    cost = a.answered.cost;
    says = says;
    sought = a.sought;
    least = a.answered.least;
    holds = subst (λ t. Holds (old.kept (string_bytes o.out)) t (new.kept (string_bytes o.out))) a.answered.is_text holds;
    back = a.answered.back;
    unchanged = λ free. sym a.answered.is_text ∙ a.answered.unchanged free;
    reports = subst (λ t. Adds old.printed t new.printed) a.answered.is_report adds;
  }

  by-delivery : (o : RepairOrder) (text lines : List ℕ) → Says words (Ok (Repair o)) → Answers old rankers o (answer.Repaired text lines)
      → Delivery old new (string_bytes o.out) text lines 0 status → Headline old new rankers words status
  by-delivery o text lines says a (whole e holds adds) = record {
    zero = λ h. inl (wrote o text lines says a holds adds);
    one = λ h. absurd (omega arith);
    seven = λ h. absurd (omega arith);
  }
  by-delivery o text lines says a (put_failed e holds stays rose) = record {
    zero = λ h. absurd (omega arith);
    one = λ h. absurd (omega arith);
    seven = λ h. inl (record { order = o; says = says; rose = inl rose });
  }
  by-delivery o text lines says a (print_failed e holds adds rose) =
      let is : status ≡ 7 = e in record {
        zero = λ h. absurd (omega arith);
        one = λ h. absurd (omega arith);
        seven = λ h. inl (record { order = o; says = says; rose = inr rose });
      }

  by-report : (o : RepairOrder) → Says words (Ok (Repair o)) → Answers old rankers o answer.NoRepair
      → ((status ≡ 1) × Adds old.printed no_repair_report new.printed) ⊎ ((status ≡ 7) × AddsPart old.printed no_repair_report new.printed × Rose old.prints new.prints)
      → Headline old new rankers words status
  by-report o says a (inl done) =
      let e : status ≡ 1 = done.0 in record {
        zero = λ h. absurd (omega arith);
        one = λ h. inl (record { order = o; source = a.source; program = a.program; suite = a.suite; numbers = a.numbers; chosen = a.chosen; says = says; sought = a.sought; none = a.answered; reports = done.1 });
        seven = λ h. absurd (omega arith);
      }
  by-report o says a (inr failed) =
      let e : status ≡ 7 = failed.0 in record {
        zero = λ h. absurd (omega arith);
        one = λ h. absurd (omega arith);
        seven = λ h. inl (record { order = o; says = says; rose = inr failed.2 });
      }

  by-answer : (o : RepairOrder) (it : Answer) → Says words (Ok (Repair o)) → Answers old rankers o it → Gives old new (string_bytes o.out) it status
      → Headline old new rankers words status
  by-answer o (answer.Repaired text lines) says a d = by-delivery o text lines says a d.ended
  by-answer o answer.NoRepair says a r = by-report o says a r.ended
  by-answer o (answer.Reported it) says a r = absurd a.answered

  reported : (order : Order) (report : List ℕ) (own n : ℕ) → own ≡ n → Says words (Ok order) → Tells old rankers order report own → Adds old.printed report new.printed
      → Reported old new rankers words n
  reported order report own n e says tells adds = record {
    order = order;
    report = report;
    says = says;
    tells = subst (λ (k : ℕ). Tells old rankers order report k) e tells;
    reports = adds;
  }

  by-told : (order : Order) (report : List ℕ) (own : ℕ) → Says words (Ok order) → Tells old rankers order report own
      → ((status ≡ own) × Adds old.printed report new.printed) ⊎ ((status ≡ 7) × AddsPart old.printed report new.printed × Rose old.prints new.prints)
      → Headline old new rankers words status
  by-told order report own says tells (inl done) =
      let small : own ≤ 1 = own-small old rankers order report own tells in
      let e : status ≡ own = done.0 in record {
        zero = λ h. inr (inr (reported order report own 0 (sym e ∙ h) says tells done.1));
        one = λ h. inr (inr (reported order report own 1 (sym e ∙ h) says tells done.1));
        seven = λ h. absurd (omega arith);
      }
  by-told order report own says tells (inr failed) =
      let e : status ≡ 7 = failed.0 in record {
        zero = λ h. absurd (omega arith);
        one = λ h. absurd (omega arith);
        seven = λ h. inr (inr (record { order = order; says = says; only = only-reports old rankers order report own tells; rose = failed.2 }));
      }

  pub headline : Does old new rankers words status → Headline old new rankers words status
  headline (memory e same less) = none-of 10 (λ h. omega arith) (λ h. omega arith) (λ h. omega arith) e
  headline (refused fault m says e f) = none-of 2 (λ h. omega arith) (λ h. omega arith) (λ h. omega arith) e
  headline (stopped it why mid says stops same less e f) = by-stop why e
  headline (answered o it says a gives) = by-answer o it says a gives
  headline (told order report own says tells gives) = by-told order report own says tells gives.ended
  headline (proves cnf proof budget says d) =
      let p = proven old new words status cnf proof budget says d in record {
        zero = λ h. inr (inl (p.zero h));
        one = λ h. inr (inl (p.one h));
        seven = λ h. inr (inl (p.seven h));
      }

  keeps-out : (o : RepairOrder) (it : Answer) → Says words (Ok (Repair o)) → Gives old new (string_bytes o.out) it status → Keeps old new words
  keeps-out o (answer.Repaired text lines) says d = record { kept = λ f h. d.others f (h.out o says); counts = d.counts }
  keeps-out o answer.NoRepair says r = record { kept = λ f h. r.kept f; counts = r.counts }
  keeps-out o (answer.Reported it) says r = record { kept = λ f h. r.kept f; counts = r.counts }

  pub keeps : Does old new rankers words status → Keeps old new words
  keeps (memory e same less) = record { kept = λ f h. same.kept f; counts = less }
  keeps (refused fault m says e f) = record { kept = λ g h. f.kept g; counts = f.counts }
  keeps (stopped it why mid says stops same less e f) = record {
    kept = λ g h. f.kept g ∙ same.kept g;
    counts = no_less-then _ _ _ less f.counts;
  }
  keeps (answered o it says a gives) = keeps-out o it says gives
  keeps (told order report own says tells gives) = record { kept = λ f h. gives.kept f; counts = gives.counts }
  keeps (proves cnf proof budget says d) = record {
    kept = λ f h. proof-kept old new (string_bytes cnf) (string_bytes proof) budget status d f (h.proof cnf proof budget says);
    counts = proof-counts old new (string_bytes cnf) (string_bytes proof) budget status d;
  }
