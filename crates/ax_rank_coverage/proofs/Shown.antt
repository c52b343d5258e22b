-- The runs of a suite that a ranker has seen.
use Rattle.std.proofs.Common.{◌≡◌, ◌↔◌, ◌≤◌, ◌++◌, ◌∙◌, ℕ, zero, suc, Bool, IsTrue, List, [], ◌∷◌, length, take, take_all, append-nil, Result, Ok, Err, OnErr, OnOk, refl, sym, ap, ap₂, subst, arith}
use Rattle.std.specs.Bool.{one_answer}
use Rattle.std.specs.List.{AllZip}
use Rattle.ax_rank_coverage.proofs.Zips.{zip-length}
use Rattle.ax_prog.specs.declared.Program.{Program}
use Rattle.ax_prog.specs.declared.Test.{Test}
use Rattle.ax_rank.specs.declared.ranker.SeenRun.{SeenRun}
use Rattle.ax_rank_coverage.specs.Coverage.{AreRunsOf, IsRunOf}
use Rattle.ax_rank_coverage.specs.Orders.{HasSeen, HasSeenSome}

module _ {A B : Type 0} (R : A → B → Type 0) where
  first-zip : (n : ℕ) (xs : List A) (ys : List B) → AllZip R xs ys → AllZip R (take n xs) (take n ys)
  first-zip zero xs ys h = tt
  first-zip (suc n) [] [] h = tt
  first-zip (suc n) [] (y ∷ ys) h = absurd h
  first-zip (suc n) (x ∷ xs) [] h = absurd h
  first-zip (suc n) (x ∷ xs) (y ∷ ys) h = (h.0, first-zip n xs ys h.1)

  one-zip : ((x : A) (y z : B) → R x y → R x z → y ≡ z) → (xs : List A) (ys zs : List B) → AllZip R xs ys → AllZip R xs zs → ys ≡ zs
  one-zip one [] [] [] h k = refl
  one-zip one [] [] (z ∷ zs) h k = absurd k
  one-zip one [] (y ∷ ys) zs h k = absurd h
  one-zip one (x ∷ xs) [] zs h k = absurd h
  one-zip one (x ∷ xs) (y ∷ ys) [] h k = absurd k
  one-zip one (x ∷ xs) (y ∷ ys) (z ∷ zs) h k = ap₂ ◌∷◌ (one x y z h.0 k.0) (one-zip one xs ys zs h.1 k.1)

module _ (program : Program) (steps : ℕ) where
  one-run : (test : Test) (a b : SeenRun) → IsRunOf program steps test a → IsRunOf program steps test b → a ≡ b
  one-run test a b h k =
      let covered : a.covered ≡ b.covered = h.covered ∙ sym k.covered in
      let passed : a.passed ≡ b.passed = one_answer a.passed b.passed h.passed k.passed in
      ap₂ (λ (bits : List Bool) (bit : Bool). record { covered = bits; passed = bit }) covered passed

  -- tests have one list of runs
  pub one-list : (tests : List Test) (a b : List SeenRun) → AreRunsOf program steps tests a → AreRunsOf program steps tests b → a ≡ b
  one-list tests a b h k = one-zip (IsRunOf program steps) one-run tests a b h k

  module _ (tests : List Test) (before : List SeenRun) where
    pub none-seen : HasSeenSome program steps tests before before
    none-seen = (0, omega arith, ([], tt, sym (append-nil before)))

    pub none-stopped : {T E : Type 0} (r : Result T E) → OnErr r (HasSeenSome program steps tests before before)
    none-stopped (Ok x) = tt
    none-stopped (Err e) = none-seen

    pub all-seen : (after : List SeenRun) → HasSeen program steps tests before after → HasSeenSome program steps tests before after
    all-seen after h = (length tests, omega arith, (h.0, subst (λ (ts : List Test). AreRunsOf program steps ts h.0) (sym (take_all (length tests) tests (omega arith))) h.1, h.2))

    pub first-seen : (n : ℕ) (runs after : List SeenRun) → AreRunsOf program steps tests runs → n ≤ length runs → after ≡ before ++ take n runs
        → HasSeenSome program steps tests before after
    first-seen n runs after h few is =
        let long : length tests ≡ length runs = zip-length (IsRunOf program steps) tests runs h in
        (n, omega arith, (take n runs, first-zip (IsRunOf program steps) n tests runs h, is))

    -- what comes of a refusal; the runs were lent
    pub stopped-some : {T E : Type 0} (r : Result T E) (runs lent after : List SeenRun) → lent ≡ runs → AreRunsOf program steps tests runs
        → OnErr r ((n : ℕ) × (n ≤ length lent) × (after ≡ before ++ take n lent)) → OnErr r (HasSeenSome program steps tests before after)
    stopped-some (Ok x) runs lent after same h s = tt
    stopped-some (Err e) runs lent after same h s = first-seen s.0 lent after (subst (AreRunsOf program steps tests) (sym same) h) s.1 s.2

    pub seen-all : {T E : Type 0} (r : Result T E) (runs lent after : List SeenRun) → lent ≡ runs → AreRunsOf program steps tests runs
        → OnOk r (after ≡ before ++ lent) → OnOk r (HasSeen program steps tests before after)
    seen-all (Ok x) runs lent after same h s = (lent, subst (AreRunsOf program steps tests) (sym same) h, s)
    seen-all (Err e) runs lent after same h s = tt

    -- what comes of both
    pub seen-either : {T E : Type 0} (r : Result T E) (after : List SeenRun) → OnOk r (HasSeen program steps tests before after)
        → OnErr r (HasSeenSome program steps tests before after) → HasSeenSome program steps tests before after
    seen-either (Ok x) after all some = all-seen after all
    seen-either (Err e) after all some = some
