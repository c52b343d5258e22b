-- What verdicts say of passing.
use Rattle.std.proofs.Common.{◌≡◌, ◌≢◌, ◌↔◌, ◌⊎◌, ℕ, ℤ, pos, ◌<◌, List, [], length, get_or, Some, IsTrue, Bool, true, false, refl, sym, ap, subst, ◌∙◌, inl, inr, arith}
use Rattle.std.specs.List.{All}
use Rattle.ax_interp_report.proofs.Zips.{zip-get, zip-length}
use Rattle.ax_prog.specs.declared.Program.{Program}
use Rattle.ax_prog.specs.declared.Test.{Test}
use Rattle.ax_meaning.specs.declared.Cell.TheVariants.{Int}
use Rattle.ax_meaning.specs.declared.Why.{Why}
use Rattle.ax_meaning.specs.Acts as acts
use Rattle.ax_meaning.specs.Execution.{Ending, Returned, Stopped}
use Rattle.ax_meaning.specs.Runs.{Passes, Seen, run_of}
use Rattle.ax_interp_report.specs.declared.verdict.Verdict.{Verdict}
use Rattle.ax_interp_report.specs.declared.verdict.Verdict.TheVariants as verdict
use Rattle.ax_interp_report.specs.Texts.{passes, run_report}
use Rattle.ax_interp_report.specs.Outcomes.{IsOutcome, IsStatus}
use Rattle.ax_interp_report.specs.Verdicts.{Fares, FareIn, IsVerdict, OneVerdict}

-- ---- one verdict

never-both : (e : Ending) (n : ℤ) (h : acts.Halt) → e ≡ Returned (Some (Int n)) → e ≡ Stopped h → ⊥
never-both e n h p q = let same : Returned (Some (Int n)) ≡ Stopped h = sym p ∙ q in cc

two-halts : (e : Ending) (why : Why) → e ≡ Stopped (acts.Undefined why) → e ≡ Stopped acts.OutOfSteps → ⊥
two-halts e why p q = let same : Stopped (acts.Undefined why) ≡ Stopped acts.OutOfSteps = sym p ∙ q in cc

one-number : (e : Ending) (n m : ℤ) → e ≡ Returned (Some (Int n)) → e ≡ Returned (Some (Int m)) → n ≡ m
one-number e n m p q = let same : Returned (Some (Int n)) ≡ Returned (Some (Int m)) = sym p ∙ q in cc

pub one_verdict : OneVerdict
one_verdict e o t verdict.Passes verdict.Passes p q = refl
one_verdict e o t verdict.Passes verdict.Undefined p q = absurd (never-both e t.ret _ p.0 q.1)
one_verdict e o t verdict.Passes verdict.OutOfSteps p q = absurd (never-both e t.ret _ p.0 q)
one_verdict e o t verdict.Passes verdict.WrongOutput p q = absurd (q.2 p.1)
one_verdict e o t verdict.Passes verdict.WrongReturn p q = absurd (q.3 (one-number e q.0 t.ret q.1 p.0))
one_verdict e o t verdict.Undefined verdict.Passes p q = absurd (never-both e t.ret _ q.0 p.1)
one_verdict e o t verdict.Undefined verdict.Undefined p q = refl
one_verdict e o t verdict.Undefined verdict.OutOfSteps p q = absurd (two-halts e p.0 p.1 q)
one_verdict e o t verdict.Undefined verdict.WrongOutput p q = absurd (never-both e q.0 _ q.1 p.1)
one_verdict e o t verdict.Undefined verdict.WrongReturn p q = absurd (never-both e q.0 _ q.1 p.1)
one_verdict e o t verdict.OutOfSteps verdict.Passes p q = absurd (never-both e t.ret _ q.0 p)
one_verdict e o t verdict.OutOfSteps verdict.Undefined p q = absurd (two-halts e q.0 q.1 p)
one_verdict e o t verdict.OutOfSteps verdict.OutOfSteps p q = refl
one_verdict e o t verdict.OutOfSteps verdict.WrongOutput p q = absurd (never-both e q.0 _ q.1 p)
one_verdict e o t verdict.OutOfSteps verdict.WrongReturn p q = absurd (never-both e q.0 _ q.1 p)
one_verdict e o t verdict.WrongOutput verdict.Passes p q = absurd (p.2 q.1)
one_verdict e o t verdict.WrongOutput verdict.Undefined p q = absurd (never-both e p.0 _ p.1 q.1)
one_verdict e o t verdict.WrongOutput verdict.OutOfSteps p q = absurd (never-both e p.0 _ p.1 q)
one_verdict e o t verdict.WrongOutput verdict.WrongOutput p q = refl
one_verdict e o t verdict.WrongOutput verdict.WrongReturn p q = absurd (p.2 q.2)
one_verdict e o t verdict.WrongReturn verdict.Passes p q = absurd (p.3 (one-number e p.0 t.ret p.1 q.0))
one_verdict e o t verdict.WrongReturn verdict.Undefined p q = absurd (never-both e p.0 _ p.1 q.1)
one_verdict e o t verdict.WrongReturn verdict.OutOfSteps p q = absurd (never-both e p.0 _ p.1 q)
one_verdict e o t verdict.WrongReturn verdict.WrongOutput p q = absurd (q.2 p.2)
one_verdict e o t verdict.WrongReturn verdict.WrongReturn p q = refl

-- ---- all tests

only-one : (v : Verdict) → passes v ≡ true → v ≡ verdict.Passes
only-one verdict.Passes e = refl
only-one verdict.Undefined e = absurd (cc)
only-one verdict.OutOfSteps e = absurd (cc)
only-one verdict.WrongOutput e = absurd (cc)
only-one verdict.WrongReturn e = absurd (cc)

module _ (program : Program) (steps : ℕ) where
  passed : (test : Test) (v : Verdict) → v ≡ verdict.Passes → Fares program steps test v → Passes program steps test
  passed test v e h = let both = subst (Fares program steps test) e h in record { returned = both.0; printed = both.1 }

  judged : (test : Test) (v : Verdict) → Passes program steps test → Fares program steps test v → v ≡ verdict.Passes
  judged test v h k = one_verdict _ _ test v verdict.Passes k (h.returned, h.printed)

  every : (tests : List Test) (vs : List Verdict) → FareIn program steps tests vs → All (λ (v : Verdict). passes v ≡ true) vs → All (Passes program steps) tests
  every tests vs h all = λ i d l.
      let long : length tests ≡ length vs = zip-length (Fares program steps) tests vs h in
      passed (get_or tests i d) (get_or vs i verdict.Passes) (only-one _ (all i verdict.Passes (omega (arith, long, l)))) (zip-get (Fares program steps) tests vs i d verdict.Passes h l)

  none-fails : (tests : List Test) (vs : List Verdict) → FareIn program steps tests vs → All (Passes program steps) tests → All (λ (v : Verdict). passes v ≡ true) vs
  none-fails tests vs h all = λ i d l.
      let long : length tests ≡ length vs = zip-length (Fares program steps) tests vs h in
      let some : Test = record { inputs = []; outputs = []; ret = pos 0 } in
      ap passes (judged (get_or tests i some) (get_or vs i d) (all i some (omega (arith, long, l))) (zip-get (Fares program steps) tests vs i some d h (omega (arith, long, l))))

  no-false : false ≡ true → ⊥
  no-false e = cc

  status-by : (tests : List Test) (vs : List Verdict) (found : Bool) (status : ℕ) → FareIn program steps tests vs
      → (IsTrue found ↔ All (λ (v : Verdict). passes v ≡ true) vs) → ((found ≡ true) × (status ≡ 0)) ⊎ ((found ≡ false) × (status ≡ 1))
      → IsStatus program steps tests status
  status-by tests vs found status h is (inl hold) = inl (hold.1, every tests vs h (is.0 hold.0))
  status-by tests vs found status h is (inr fails) = inr (fails.1, λ all. no-false (sym fails.0 ∙ is.1 (none-fails tests vs h all)))

  -- from the verdicts to the outcome; the tests and the verdicts were lent
  pub outcome : (lent tests : List Test) (vs a b : List Verdict) (report : List ℕ) (found : Bool) (status : ℕ) → lent ≡ tests → FareIn program steps lent vs
      → a ≡ vs → report ≡ run_report a → b ≡ vs → (IsTrue found ↔ All (λ (v : Verdict). passes v ≡ true) b)
      → ((found ≡ true) × (status ≡ 0)) ⊎ ((found ≡ false) × (status ≡ 1)) → IsOutcome program tests steps report status
  outcome lent tests vs a b report found status same h ea said eb is ends =
      let fare = subst (λ (ts : List Test). FareIn program steps ts vs) same h in
      let all = subst (λ (l : List Verdict). IsTrue found ↔ All (λ (v : Verdict). passes v ≡ true) l) eb is in record {
        verdicts = vs;
        fare = fare;
        is_report = said ∙ ap run_report ea;
        is_status = status-by tests vs found status fare all ends;
      }

  -- the verdict on a run
  pub fares : (test : Test) (inputs : List ℤ) (run : Seen) (v : Verdict) → inputs ≡ test.inputs → run ≡ run_of program inputs steps
      → IsVerdict run.ending run.output test v → Fares program steps test v
  fares test inputs run v same is h =
      subst (λ (r : Seen). IsVerdict r.ending r.output test v) (is ∙ ap (λ (l : List ℤ). run_of program l steps) same) h
