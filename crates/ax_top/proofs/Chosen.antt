-- The chosen expression of an order that is built, and its changes.
use Rattle.std.proofs.Common.{◌≡◌, ◌∙◌, ℕ, zero, suc, ◌<◌, ◌-◌, Bool, true, false, not, List, [], ◌∷◌, slice_get, Some, None, IsTrue, refl, sym, ap, subst, inl, inr, arith}
use Rattle.std.specs.Prelude.{◌↔◌, ◌&&◌, Option, Ok, Err, Result, option_and_then, option_map, if◌then◌else◌}
use Rattle.std.specs.List.{All, AllPairs, Contains}
use Rattle.std.proofs.lemmas.Bool.Decides.{same_from_decides}
use Rattle.std.proofs.lemmas.Option.{slice_get_cases, get_or_from_slice_get}
use Rattle.ax_prog.specs.declared.Expr.{Expr}
use Rattle.ax_prog.specs.declared.Slot.{Slot}
use Rattle.ax_prog.specs.declared.SlotId.{SlotId}
use Rattle.ax_prog.specs.declared.Program.{Program}
use Rattle.ax_prog.specs.declared.Suite.{Suite}
use Rattle.ax_prog.specs.Candidates.{candidates_of, slot_at, tree_at}
use Rattle.ax_prog.specs.Equality.{expr_eq}
use Rattle.ax_prog.proofs.Equality.{Decides-expr_eq}
use Rattle.ax_prog.specs.declared.Sets.{Sets}
use Rattle.ax_prog.specs.declared.Test.{Test}
use Rattle.ax_front.specs.Texts.{IsProgramOfText}
use Rattle.ax_space.specs.declared.Patch.{Patch}
use Rattle.ax_space.specs.Chosen.{AreChosen, space_of}
use Rattle.ax_space.specs.Patches.{PatchCost}
use Rattle.ax_least.specs.Least.{IsRepair}
use Rattle.ax_repair.specs.Outcomes.{IsRepaired}
use Rattle.ax_repair.specs.Written.{is_changed, written}
use Rattle.ax_repair.specs.declared.Repaired.{Repaired}
use Rattle.ax_repair_laws.specs.Reading.{PatchesAreWritable, PassesBack, RepairedPasses, StaysAtCost0}
use Rattle.ax_rank_coverage.specs.Handed.{Handed}
use Rattle.ax_outside.specs.Seen.{Seen}
use Rattle.ax_words.specs.declared.order.RepairOrder.{RepairOrder}
use Rattle.ax_top.specs.declared.answer.Answer.{Answer}
use Rattle.ax_top.specs.declared.built.Picked.{Picked}
use Rattle.ax_top.specs.declared.files.Stop.{Stop}
use Rattle.ax_top.specs.declared.files.Stop.TheVariants as stop
use Rattle.ax_top.specs.Built.{IsPicked, are_comparisons, built_slot, candidate_at, chosen_of, is_small, only, small_slot}
use Rattle.ax_top.specs.Choices.{ChoosesNumbers}
use Rattle.ax_top.specs.Orders.{RepairIsFine}
use Rattle.ax_top.specs.Repairs.{Answered, IsAnswer, IsMended, RepairEnds, Searched, memory, repaired_report, unbuilt}

-- whether a tree isn't the slot's own
pub changed-is : (program : Program) (id : SlotId) (tree : Expr) (slot : Slot) (same : Bool) → Some slot ≡ slot_at program id
    → IsTrue same ↔ (slot.expr ≡ tree) → not same ≡ is_changed program (id, tree)
changed-is program id tree slot same is h =
    let eq : expr_eq slot.expr tree ≡ same = same_from_decides (expr_eq slot.expr tree) same (Decides-expr_eq slot.expr tree) (h.0, h.1) in
    rw (sym is, eq) refl

contains-at : (ids : List SlotId) (i : ℕ) (id : SlotId) → slice_get ids i ≡ Some id → Contains ids id
contains-at ids i id e =
    elim (slice_get_cases ids i).1 as (λ _. Contains ids id) [
      | inl found ↦ (i, found.1, get_or_from_slice_get ids i id id e)
      | inr gone ↦ absurd (let f : None ≡ Some id = sym gone.1 ∙ e in cc)
    ]

if-some : (b : Bool) (x id : SlotId) → (if b then Some x else None) ≡ Some id → (b ≡ true) × (x ≡ id)
if-some true x id h = (refl, cc)
if-some false x id h = absurd (cc)

both : (a b : Bool) → (a && b) ≡ true → (a ≡ true) × (b ≡ true)
both true b h = (refl, h)
both false b h = absurd (cc)

not-true : (b : Bool) → not b ≡ true → b ≡ false
not-true true h = absurd (cc)
not-true false h = refl

from-small : (program : Program) (found : Option SlotId) (id : SlotId) → option_and_then (small_slot program) found ≡ Some id → found ≡ Some id
from-small program None id h = absurd (cc)
from-small program (Some x) id h =
    ap (λ (y : SlotId). Some y) (if-some (is_small (tree_at program x)) x id h).1

-- the sets of an order that is built, and what is known of its slot
record Opens (program : Program) (sets : Bool) (number : ℕ) (id : SlotId) : Type 0 where
  pub comparisons : sets ≡ true
  pub candidate : candidate_at program number ≡ Some id

by-sets : (program : Program) (b : Bool) (numbers : List ℕ) (number : ℕ) (id : SlotId) → numbers ≡ number ∷ []
    → (if b then option_and_then (λ n. option_and_then (small_slot program) (candidate_at program n)) (only numbers) else None) ≡ Some id
    → Opens program b number id
by-sets program false numbers number id e h = absurd (cc)
by-sets program true [] number id e h = absurd (cc)
by-sets program true (n ∷ []) number id e h =
    let same : n ≡ number = cc in
    let small = from-small program (candidate_at program n) id h in
    record { comparisons = refl; candidate = subst (λ k. candidate_at program k ≡ Some id) same small }
by-sets program true (n ∷ m ∷ ns) number id e h = absurd (cc)

opens : (program : Program) (sets : Sets) (picked : Picked) → IsPicked program sets picked
    → Opens program (are_comparisons sets) picked.number picked.slot
opens program sets picked is = by-sets program (are_comparisons sets) (picked.number ∷ []) picked.number picked.slot refl is

all-one : {X : Type 0} (P : X → Type 0) (x : X) → P x → All P (x ∷ [])
all-one P x h zero d lt = h
all-one P x h (suc k) d lt = absurd (omega arith)

pairs-one : {X : Type 0} (R : X → X → Type 0) (x : X) → AllPairs R (x ∷ [])
pairs-one R x i j d less lt = absurd (omega arith)

-- the picked slot is a candidate's
pub picked-chosen : (program : Program) (sets : Sets) (picked : Picked) → IsPicked program sets picked → AreChosen program (picked.slot ∷ [])
picked-chosen program sets picked is = record {
  candidates = all-one (Contains (candidates_of program)) picked.slot
      (contains-at (candidates_of program) (picked.number - 1) picked.slot (opens program sets picked is).candidate);
  rising = pairs-one (λ (a b : SlotId). a.0 < b.0) picked.slot;
  few = omega arith;
}

no-guard : (s : Sets) → are_comparisons s ≡ true → s.guard ≡ false
no-guard s h =
    let a = both s.cmp (not s.logic && (not s.arith && (not s.mul && (not s.bits && (not s.vars && (not s.consts && not s.guard)))))) h in
    let b = both (not s.logic) (not s.arith && (not s.mul && (not s.bits && (not s.vars && (not s.consts && not s.guard))))) a.1 in
    let d = both (not s.arith) (not s.mul && (not s.bits && (not s.vars && (not s.consts && not s.guard)))) b.1 in
    let e = both (not s.mul) (not s.bits && (not s.vars && (not s.consts && not s.guard))) d.1 in
    let f = both (not s.bits) (not s.vars && (not s.consts && not s.guard)) e.1 in
    let g = both (not s.vars) (not s.consts && not s.guard) f.1 in
    let k = both (not s.consts) (not s.guard) g.1 in
    not-true s.guard k.1

-- what is written for a repair reads back
pub passes-back : PatchesAreWritable → RepairedPasses → (source : List ℕ) (program : Program) (tests : List Test) (o : RepairOrder) (picked : Picked) (patch : Patch)
    → IsProgramOfText source program → IsPicked program o.sets picked
    → IsRepair program tests o.bounds (space_of program (picked.slot ∷ []) o.sets o.bounds.grow) patch
    → PassesBack source program tests o.bounds (picked.slot ∷ []) patch
passes-back writable law source program tests o picked patch read is repair =
    let chosen = picked-chosen program o.sets picked is in
    let open' = opens program o.sets picked is in
    law source program tests o.bounds (picked.slot ∷ []) o.sets o.bounds.grow patch
    (record {
      text = read;
      chosen = chosen;
      writable = writable source program (picked.slot ∷ []) o.sets o.bounds.grow patch read chosen (no-guard o.sets open'.comparisons) repair.in_space;
    })
    repair

-- at cost 0 what is written is the source
stays : StaysAtCost0 → (source : List ℕ) (program : Program) (o : RepairOrder) (picked : Picked) (patch : Patch) (cost : ℕ)
    → IsPicked program o.sets picked → PatchCost (space_of program (picked.slot ∷ []) o.sets o.bounds.grow) patch cost
    → cost ≡ 0 → written source program (picked.slot ∷ []) patch.trees ≡ source
stays law source program o picked patch cost is costs free =
    law source program (picked.slot ∷ []) o.sets o.bounds.grow patch (picked-chosen program o.sets picked is)
    (subst (λ (n : ℕ). PatchCost (space_of program (picked.slot ∷ []) o.sets o.bounds.grow) patch n) free costs)

-- from the outcome of the search to the answer
pub mended : PatchesAreWritable → RepairedPasses → StaysAtCost0 → (source : List ℕ) (program : Program) (tests : List Test) (o : RepairOrder) (picked : Picked) (it : Repaired) (report : List ℕ)
    → IsProgramOfText source program → IsPicked program o.sets picked
    → IsRepaired program source tests o.bounds (space_of program (picked.slot ∷ []) o.sets o.bounds.grow) it
    → report ≡ repaired_report source program (picked.number ∷ []) (picked.slot ∷ []) (it.patch).trees it.cost
    → IsMended o source program tests (picked.number ∷ []) (picked.slot ∷ []) it.source report
mended writable law unchanged source program tests o picked it report read is found said = record {
  patch = it.patch;
  cost = it.cost;
  least = found.least;
  is_text = found.text;
  back = passes-back writable law source program tests o picked it.patch read is (found.least).repair;
  unchanged = λ free. found.text ∙ stays unchanged source program o picked it.patch it.cost is (found.least).costs free;
  is_report = said;
}

-- what was chosen, and what came of it
pub answered-is : (o : RepairOrder) (source : List ℕ) (program : Program) (tests : List Test) (picked : Picked) (numbers : List ℕ) (it : Answer)
    → numbers ≡ picked.number ∷ [] → IsPicked program o.sets picked
    → IsAnswer o source program tests (picked.number ∷ []) (picked.slot ∷ []) it → Answered o source program tests numbers (Ok it)
answered-is o source program tests picked numbers it e is h = (
  picked.slot ∷ [],
  ap (λ (ns : List ℕ). chosen_of program o.sets ns) e ∙ ap (λ (found : Option SlotId). option_map (λ (id : SlotId). id ∷ []) found) is,
  subst (λ (ns : List ℕ). IsAnswer o source program tests ns (picked.slot ∷ []) it) (sym e) h,
)

pub unbuilt-is : (program : Program) (sets : Sets) (numbers : List ℕ) → built_slot program sets numbers ≡ None → chosen_of program sets numbers ≡ None
unbuilt-is program sets numbers e = ap (λ (found : Option SlotId). option_map (λ (id : SlotId). id ∷ []) found) e

-- from the answer for some numbers to the search
pub searched : (rankers : List Handed) (o : RepairOrder) (source : List ℕ) (program : Program) (tests : List Test) (numbers : List ℕ) (r : Result Answer Stop)
    → ChoosesNumbers rankers o program tests numbers → Answered o source program tests numbers r → Searched rankers o source program tests r
searched rankers o source program tests numbers (Ok it) is h = (numbers, h.0, record { choice = is; built = h.1 }, h.2)
searched rankers o source program tests numbers (Err stop.Memory) is h = tt
searched rankers o source program tests numbers (Err stop.NotBuilt) is h = record { numbers = numbers; choice = is; none = h }
searched rankers o source program tests numbers (Err stop.NoRanker) is h = absurd h
searched rankers o source program tests numbers (Err (stop.ReadFailed file)) is h = absurd h
searched rankers o source program tests numbers (Err (stop.TooLong file)) is h = absurd h
searched rankers o source program tests numbers (Err (stop.Source fault)) is h = absurd h
searched rankers o source program tests numbers (Err (stop.Suite fault)) is h = absurd h
searched rankers o source program tests numbers (Err (stop.NoCandidate picked count)) is h = absurd h

-- the tests and the numbers were lent
pub searched-lent : (rankers : List Handed) (o : RepairOrder) (source : List ℕ) (program : Program) (ts tests : List Test) (ns numbers : List ℕ) (r : Result Answer Stop)
    → ts ≡ tests → ns ≡ numbers → ChoosesNumbers rankers o program ts numbers → Answered o source program tests ns r → Searched rankers o source program tests r
searched-lent rankers o source program ts tests ns numbers r a b is h =
    searched rankers o source program tests numbers r (subst (λ (l : List Test). ChoosesNumbers rankers o program l numbers) a is)
    (subst (λ (l : List ℕ). Answered o source program tests l r) b h)

-- from a search to the end of the order
pub repair-ends : (old new : Seen) (rankers : List Handed) (o : RepairOrder) (bytes text : List ℕ) (program : Program) (suite : Suite) (r : Result Answer Stop)
    → text ≡ bytes → RepairIsFine old rankers o bytes program suite → Searched rankers o text program suite.tests r → RepairEnds old new rankers o r
repair-ends old new rankers o bytes text program suite (Ok it) same fine h = record {
  source = bytes;
  program = program;
  suite = suite;
  numbers = h.0;
  chosen = h.1;
  sought = record { fine = fine; is_chosen = h.2 };
  answered = subst (λ (t : List ℕ). IsAnswer o t program suite.tests h.0 h.1 it) same h.3;
}
repair-ends old new rankers o bytes text program suite (Err stop.Memory) same fine h = memory refl
repair-ends old new rankers o bytes text program suite (Err stop.NotBuilt) same fine h = unbuilt bytes program suite fine h refl
repair-ends old new rankers o bytes text program suite (Err stop.NoRanker) same fine h = absurd h
repair-ends old new rankers o bytes text program suite (Err (stop.ReadFailed file)) same fine h = absurd h
repair-ends old new rankers o bytes text program suite (Err (stop.TooLong file)) same fine h = absurd h
repair-ends old new rankers o bytes text program suite (Err (stop.Source fault)) same fine h = absurd h
repair-ends old new rankers o bytes text program suite (Err (stop.Suite fault)) same fine h = absurd h
repair-ends old new rankers o bytes text program suite (Err (stop.NoCandidate picked count)) same fine h = absurd h
