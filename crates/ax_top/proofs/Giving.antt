-- Puts and prints one after another.
use Rattle.std.proofs.Common.{◌≡◌, ◌≢◌, ◌∙◌, ◌≤◌, ◌⊎◌, ℕ, List, inl, inr, sym, subst, arith}
use Rattle.ax_outside.specs.Seen.{Adds, AddsPart, Holds, HoldsPart, NoLess, Rose, Same, Seen}
use Rattle.ax_outside.proofs.Steps.{no_less-then}
use Rattle.ax_top.specs.declared.answer.Answer.{Answer}
use Rattle.ax_top.specs.declared.answer.Answer.TheVariants as answer
use Rattle.ax_top.specs.Delivery.{Delivers, Delivery, Gives, Prints, Reports, print_failed, put_failed, unprinted, whole}
use Rattle.ax_top.specs.Repairs.{no_repair_report}

-- a count that stood no lower before
rose-from : (before mid now : ℕ) → before ≤ mid → Rose mid now → Rose before now
rose-from before mid now less rose = omega arith

module _ (old mid new : Seen) (out text lines : List ℕ) (own status : ℕ) where
  by-report : Holds (old.kept out) text (new.kept out) → mid.printed ≡ old.printed → NoLess old mid
      → ((status ≡ own) × Adds mid.printed lines new.printed) ⊎ ((status ≡ unprinted own) × AddsPart mid.printed lines new.printed × Rose mid.prints new.prints)
      → Delivery old new out text lines own status
  by-report holds same less (inl done) = whole done.0 holds (subst (λ p. Adds p lines new.printed) same done.1)
  by-report holds same less (inr failed) =
      print_failed failed.0 holds (subst (λ p. AddsPart p lines new.printed) same failed.1) (rose-from _ _ _ less.prints failed.2)

  -- a put, and then a report
  pub put-then-report : Holds (old.kept out) text (mid.kept out) → ((f : List ℕ) → f ≢ out → mid.kept f ≡ old.kept f) → mid.printed ≡ old.printed
      → NoLess old mid → Prints mid new lines own (unprinted own) status → Delivers old new out text lines own status
  put-then-report holds others same less r = record {
    ended = by-report (subst (λ t. Holds (old.kept out) text t) (sym (r.kept out)) holds) same less r.ended;
    others = λ f h. r.kept f ∙ others f h;
    counts = no_less-then _ _ _ less r.counts;
  }

  delivery-after : Same old mid → NoLess old mid → Delivery mid new out text lines own status → Delivery old new out text lines own status
  delivery-after same less (whole e holds adds) =
      whole e (subst (λ t. Holds t text (new.kept out)) (same.kept out) holds) (subst (λ p. Adds p lines new.printed) same.printed adds)
  delivery-after same less (put_failed e holds stays rose) =
      put_failed e (subst (λ t. HoldsPart t text (new.kept out)) (same.kept out) holds) (stays ∙ same.printed) (rose-from _ _ _ (less.puts out) rose)
  delivery-after same less (print_failed e holds adds rose) =
      print_failed e (subst (λ t. Holds t text (new.kept out)) (same.kept out) holds) (subst (λ p. AddsPart p lines new.printed) same.printed adds) (rose-from _ _ _ less.prints rose)

  pub delivers-after : Same old mid → NoLess old mid → Delivers mid new out text lines own status → Delivers old new out text lines own status
  delivers-after same less d = record {
    ended = delivery-after same less d.ended;
    others = λ f h. d.others f h ∙ same.kept f;
    counts = no_less-then _ _ _ less d.counts;
  }

module _ (old mid new : Seen) (report : List ℕ) (own status : ℕ) where
  ended-after : Same old mid → NoLess old mid
      → ((status ≡ own) × Adds mid.printed report new.printed) ⊎ ((status ≡ 7) × AddsPart mid.printed report new.printed × Rose mid.prints new.prints)
      → ((status ≡ own) × Adds old.printed report new.printed) ⊎ ((status ≡ 7) × AddsPart old.printed report new.printed × Rose old.prints new.prints)
  ended-after same less (inl done) = inl (done.0, subst (λ p. Adds p report new.printed) same.printed done.1)
  ended-after same less (inr failed) =
      inr (failed.0, subst (λ p. AddsPart p report new.printed) same.printed failed.1, rose-from _ _ _ less.prints failed.2)

  pub reports-after : Same old mid → NoLess old mid → Reports mid new report own status → Reports old new report own status
  reports-after same less r = record {
    ended = ended-after same less r.ended;
    kept = λ f. r.kept f ∙ same.kept f;
    counts = no_less-then _ _ _ less r.counts;
  }

module _ (old mid new : Seen) (out : List ℕ) (status : ℕ) where
  -- after calls that changed nothing
  pub gives-after : (it : Answer) → Same old mid → NoLess old mid → Gives mid new out it status → Gives old new out it status
  gives-after (answer.Repaired text lines) same less d = delivers-after old mid new out text lines 0 status same less d
  gives-after answer.NoRepair same less r = reports-after old mid new no_repair_report 1 status same less r
  gives-after (answer.Reported told) same less r = reports-after old mid new told.report told.status status same less r
