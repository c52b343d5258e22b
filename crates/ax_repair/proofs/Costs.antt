-- Patches of one cost, and of all costs below another.
use Rattle.std.proofs.Common.{◌≡◌, ℕ, zero, suc, ◌<◌, ◌≤◌, List, get_or, slice_get, Some, false, subst, arith}
use Rattle.std.specs.Prelude.{pos, ◌⊎◌}
use Rattle.std.proofs.Common.{inl, inr}
use Rattle.std.specs.List.{All}
use Rattle.std.proofs.lemmas.List.Elements.{All-contains, Contains-get_or}
use Rattle.ax_prog.specs.declared.Bounds.{Bounds}
use Rattle.ax_prog.specs.declared.Program.{Program}
use Rattle.ax_prog.specs.declared.Test.{Test}
use Rattle.ax_space.specs.declared.Patch.{Patch}
use Rattle.ax_space.specs.Chosen.{Chosen}
use Rattle.ax_space.specs.Patches.{IsPatch, PatchCost, IsPatchesOfCost}
use Rattle.ax_space.specs.Laws.{CostExists, CostedIsPatch, ConstantsAreInts}
use Rattle.ax_least.specs.Least.{IsRepair, IsLeastRepair, NoRepair}
use Rattle.ax_repair.specs.Search.{NoneRepairs, RepairsAt, IsRepairOfCost, NoRepairOfCost}
use Rattle.ax_repair.proofs.Tried.{contains-place}

-- the patches of a cost are patches
pub all-patches : CostedIsPatch → (space : Chosen) (cost : ℕ) (limit : ℕ) (found : List Patch) → IsPatchesOfCost space cost (pos limit) found → All (IsPatch space) found
all-patches law space cost limit found is = λ k d h. law space (get_or found k d) cost ((is.sound (get_or found k d) (Contains-get_or found k d h)).0)

-- a repair among them has this cost
pub found-costs : (program : Program) (tests : List Test) (bounds : Bounds) (space : Chosen) (cost limit : ℕ) (found : List Patch) (at : ℕ) (patch : Patch) → IsPatchesOfCost space cost (pos limit) found → RepairsAt program tests bounds space found at → slice_get found at ≡ Some patch → IsRepairOfCost program tests bounds space cost patch
found-costs program tests bounds space cost limit found at patch is here e = record {
  repair = here.repair patch e;
  costs = (is.sound patch (contains-place found at patch here.within e)).0;
}

-- where none of them is a repair, no repair has this cost
pub none-costs : ConstantsAreInts → (program : Program) (tests : List Test) (bounds : Bounds) (space : Chosen) (cost : ℕ) (found : List Patch) → space.sets.guard ≡ false → IsPatchesOfCost space cost (pos 2147483647) found → NoneRepairs program tests bounds space found → NoRepairOfCost program tests bounds space cost
none-costs law program tests bounds space cost found no_guard is none patch it =
    All-contains (λ patch. IsRepair program tests bounds space patch → ⊥) found patch none
    (is.complete patch it.costs (law space no_guard patch (it.repair).in_space)) it.repair

below-or : (k cost : ℕ) → (k < cost) ⊎ (cost ≤ k)
below-or k zero = inr (omega arith)
below-or zero (suc cost) = inl (omega arith)
below-or (suc k) (suc cost) = elim (below-or k cost) as (λ _. (suc k < suc cost) ⊎ (suc cost ≤ suc k)) [ inl e ↦ inl (omega arith) | inr e ↦ inr (omega arith) ]

-- a repair is least where no repair has a cost below its own
pub is-least : (program : Program) (tests : List Test) (bounds : Bounds) (space : Chosen) (cost : ℕ) (patch : Patch) → IsRepairOfCost program tests bounds space cost patch → ((k : ℕ) → k < cost → NoRepairOfCost program tests bounds space k) → IsLeastRepair program tests bounds space patch cost
is-least program tests bounds space cost patch it none = record {
  repair = it.repair;
  costs = it.costs;
  least = λ other k repair costs.
      elim (below-or k cost) as (λ _. cost ≤ k) [ inl less ↦ absurd (none k less other (record { repair = repair; costs = costs })) | inr more ↦ more ];
}

-- no repair has a cost below this one, nor this one
pub none-up-to : (program : Program) (tests : List Test) (bounds : Bounds) (space : Chosen) (cost : ℕ) → ((k : ℕ) → k < cost → NoRepairOfCost program tests bounds space k) → NoRepairOfCost program tests bounds space cost → (k : ℕ) → k ≤ cost → NoRepairOfCost program tests bounds space k
none-up-to program tests bounds space cost none here k h patch it =
    elim (below-or k cost) as (λ _. ⊥) [
      | inl less ↦ none k less patch it
      | inr more ↦ here patch (let same : k ≡ cost = omega arith in subst (λ n. IsRepairOfCost program tests bounds space n patch) same it)
    ]

-- where no repair has a cost up to the greatest, there is none
pub none-at-all : CostExists → (program : Program) (tests : List Test) (bounds : Bounds) (space : Chosen) (most : ℕ) → space.sets.guard ≡ false → ((patch : Patch) (cost : ℕ) → PatchCost space patch cost → cost ≤ most) → ((k : ℕ) → k ≤ most → NoRepairOfCost program tests bounds space k) → NoRepair program tests bounds space
none-at-all law program tests bounds space most no_guard below none patch repair =
    let costs = law space no_guard patch repair.in_space in
    none costs.0 (below patch costs.0 costs.1) patch (record { repair = repair; costs = costs.1 })
