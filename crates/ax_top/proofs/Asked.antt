-- What an order is judged by is what is asked.
use Rattle.std.proofs.Common.{◌≡◌, ◌∙◌, ℕ, List, Some, ap, sym, subst, string_bytes}
use Rattle.std.specs.Prelude.{Ok}
use Rattle.std.proofs.lemmas.Option.{same_Some}
use Rattle.ax_prog.specs.declared.Bounds.{Bounds}
use Rattle.ax_prog.specs.declared.Program.{Program}
use Rattle.ax_prog.specs.declared.Sets.{Sets}
use Rattle.ax_prog.specs.declared.SlotId.{SlotId}
use Rattle.ax_prog.specs.declared.Suite.{Suite}
use Rattle.ax_prog.specs.declared.Test.{Test}
use Rattle.ax_space.specs.declared.Patch.{Patch}
use Rattle.ax_space.specs.Chosen.{space_of}
use Rattle.ax_least.specs.Least.{IsRepair}
use Rattle.ax_rank_coverage.specs.Handed.{Handed, ranker_named}
use Rattle.ax_rank_coverage.specs.Orders.{IsOrderOf, OneCandidateOrder, first_numbers}
use Rattle.ax_rank.specs.declared.places.Standing.{Standing}
use Rattle.ax_outside.specs.Seen.{Seen}
use Rattle.ax_words.specs.Laws.{SameChoice, SameRepair}
use Rattle.ax_words.specs.Words.{Says}
use Rattle.ax_words.specs.declared.order.Choice.{Choice}
use Rattle.ax_words.specs.declared.order.Choice.TheVariants.{Pick, Top}
use Rattle.ax_words.specs.declared.order.Order.TheVariants.{Repair}
use Rattle.ax_words.specs.declared.order.RepairOrder.{RepairOrder}
use Rattle.ax_words.proofs.Single.{one_order}
use Rattle.ax_top.specs.Built.{chosen_of, space_for}
use Rattle.ax_top.specs.Choices.{ChoosesNumbers, IsChoice}
use Rattle.ax_top.specs.Complete.{IsAsked}
use Rattle.ax_top.specs.Judging.{IsSource, IsTests}
use Rattle.ax_top.specs.Repairs.{IsSought}
use Rattle.ax_top.proofs.Filed.{one-program, one-tests}

-- ---- tasks

-- the program, the tests, the order and the chosen expressions of one are those of the other
pub record SameTask (p : Program) (ts : List Test) (a : RepairOrder) (ids : List SlotId) (q : Program) (us : List Test) (b : RepairOrder) (others : List SlotId) : Type 0 where
  pub program : p ≡ q
  pub tests : ts ≡ us
  pub bounds : a.bounds ≡ b.bounds
  pub sets : a.sets ≡ b.sets
  pub chosen : ids ≡ others

moved : (p q : Program) (ts us : List Test) (b d : Bounds) (ids others : List SlotId) (s u : Sets) (patch : Patch)
    → p ≡ q → ts ≡ us → b ≡ d → ids ≡ others → s ≡ u
    → IsRepair p ts b (space_of p ids s b.grow) patch → IsRepair q us d (space_of q others u d.grow) patch
moved p q ts us b d ids others s u patch ep et eb ei es h = rw (← ep, ← et, ← eb, ← ei, ← es) h

module _ (p q : Program) (ts us : List Test) (a b : RepairOrder) (ids others : List SlotId) (same : SameTask p ts a ids q us b others) (patch : Patch) where
  pub repair-there : IsRepair p ts a.bounds (space_for p a ids) patch → IsRepair q us b.bounds (space_for q b others) patch
  repair-there h = moved p q ts us a.bounds b.bounds ids others a.sets b.sets patch same.program same.tests same.bounds same.chosen same.sets h

  pub repair-back : IsRepair q us b.bounds (space_for q b others) patch → IsRepair p ts a.bounds (space_for p a ids) patch
  repair-back h =
      moved q p us ts b.bounds a.bounds others ids b.sets a.sets patch (sym same.program) (sym same.tests) (sym same.bounds) (sym same.chosen) (sym same.sets) h

-- ---- orders

-- choices that are the same choose the same numbers
same-numbers : OneCandidateOrder → (rankers : List Handed) (program : Program) (tests : List Test) (steps : ℕ) (a b : Choice) (ns ms : List ℕ)
    → SameChoice a b → IsChoice rankers program tests steps a ns → IsChoice rankers program tests steps b ms → ns ≡ ms
same-numbers law rankers program tests steps (Pick numbers) (Pick others) ns ms h is it = is ∙ h ∙ sym it
same-numbers law rankers program tests steps (Pick numbers) (Top number name) ns ms h is it = absurd h
same-numbers law rankers program tests steps (Top count formula) (Pick others) ns ms h is it = absurd h
same-numbers law rankers program tests steps (Top count formula) (Top number name) ns ms h is it =
    let ranker : is.0 ≡ it.0 = same_Some is.0 it.0 (sym is.1 ∙ ap (λ (n : List ℕ). ranker_named rankers n) h.1 ∙ it.1) in
    let moved : IsOrderOf (it.0).formula (it.0).runs program steps tests is.2.0 =
    subst (λ (r : Handed). IsOrderOf r.formula r.runs program steps tests is.2.0) ranker is.2.1 in
    let order : is.2.0 ≡ it.2.0 = law (it.0).formula (it.0).runs program steps tests is.2.0 it.2.0 moved it.2.1 in
    is.2.2 ∙ ap (λ (o : List Standing). first_numbers count o) order ∙ ap (λ (k : ℕ). first_numbers k it.2.0) h.0 ∙ sym it.2.2

moved-choice : (rankers : List Handed) (p q : Program) (ts us : List Test) (k m : ℕ) (a : Choice) (ns : List ℕ) → p ≡ q → ts ≡ us → k ≡ m
    → IsChoice rankers p ts k a ns → IsChoice rankers q us m a ns
moved-choice rankers p q ts us k m a ns ep et ek h =
    let one = subst (λ (x : Program). IsChoice rankers x ts k a ns) ep h in
    let two = subst (λ (x : List Test). IsChoice rankers q x k a ns) et one in
    subst (λ (x : ℕ). IsChoice rankers q us x a ns) ek two

same-chosen : (p q : Program) (s u : Sets) (ns ms : List ℕ) → p ≡ q → s ≡ u → ns ≡ ms → chosen_of p s ns ≡ chosen_of q u ms
same-chosen p q s u ns ms ep es en =
    ap (λ (x : Program). chosen_of x s ns) ep ∙ ap (λ (x : Sets). chosen_of q x ns) es ∙ ap (λ (x : List ℕ). chosen_of q u x) en

-- ---- what is asked

module _ (law : OneCandidateOrder) (old : Seen) (rankers : List Handed) (words : List (List ℕ)) (o : RepairOrder) (program : Program) (suite : Suite) (chosen : List SlotId)
    (asked : IsAsked old rankers words o program suite chosen) where
  -- words give one order
  pub same-order : (it : RepairOrder) → Says words (Ok (Repair it)) → SameRepair it o
  same-order it says = one_order words (Repair it) (Repair o) says asked.says

  module _ (it : RepairOrder) (same : SameRepair it o) where
    pub same-program : (bytes : List ℕ) (p : Program) → IsSource (old.kept (string_bytes it.source)) bytes p → p ≡ program
    same-program bytes p is =
        one-program old (string_bytes o.source) (string_bytes o.tests) program suite asked.files bytes p
        (subst (λ (name : List ℕ). IsSource (old.kept name) bytes p) same.source is)

    pub same-tests : (s : Suite) → IsTests (old.kept (string_bytes it.tests)) s → s.tests ≡ suite.tests
    same-tests s is =
        one-tests old (string_bytes o.source) (string_bytes o.tests) program suite asked.files s
        (subst (λ (name : List ℕ). IsTests (old.kept name) s) same.tests is)

    -- what the order chooses is what is asked
    pub chosen-there : (p : Program) (ts : List Test) (ns : List ℕ) → p ≡ program → ts ≡ suite.tests → ChoosesNumbers rankers it p ts ns
        → chosen_of p it.sets ns ≡ Some chosen
    chosen-there p ts ns ep et h =
        let here = moved-choice rankers p program ts suite.tests it.bounds.steps o.bounds.steps it.choice ns ep et (ap (λ (b : Bounds). b.steps) same.bounds) h in
        let numbers = same-numbers law rankers program suite.tests o.bounds.steps it.choice o.choice ns asked.numbers same.choice here asked.is_chosen.choice in
        same-chosen p program it.sets o.sets ns asked.numbers ep same.sets numbers ∙ asked.is_chosen.built

    pub same-task : (bytes : List ℕ) (p : Program) (s : Suite) (ns : List ℕ) (ids : List SlotId) → IsSought old rankers it bytes p s ns ids
        → SameTask p s.tests it ids program suite.tests o chosen
    same-task bytes p s ns ids is =
        let e : p ≡ program = same-program bytes p is.fine.files.spelled in
        let t : s.tests ≡ suite.tests = same-tests s is.fine.files.tested in record {
          program = e;
          tests = t;
          bounds = same.bounds;
          sets = same.sets;
          chosen = same_Some ids chosen (sym is.is_chosen.built ∙ chosen-there p s.tests ns e t is.is_chosen.choice);
        }
