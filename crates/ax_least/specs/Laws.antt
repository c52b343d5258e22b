-- Laws of least cost, each stated for all programs, suites, bounds and spaces.
use Rattle.std.specs.Prelude.{◌≡◌, ℕ, List}
use Rattle.ax_prog.specs.declared.Bounds.{Bounds}
use Rattle.ax_prog.specs.declared.Program.{Program}
use Rattle.ax_prog.specs.declared.Test.{Test}
use Rattle.ax_space.specs.Chosen.{Chosen}
use Rattle.ax_least.specs.Least.{IsLeastCost, NoRepair}

-- at most one cost is least
abbrev pub OneLeastCost : Type 0
OneLeastCost =
    (program : Program) (tests : List Test) (bounds : Bounds) (space : Chosen) (j k : ℕ) →
    IsLeastCost program tests bounds space j → IsLeastCost program tests bounds space k → j ≡ k

-- where no patch is a repair, no cost is least
abbrev pub LeastIsRepair : Type 0
LeastIsRepair =
    (program : Program) (tests : List Test) (bounds : Bounds) (space : Chosen) →
    NoRepair program tests bounds space → (cost : ℕ) → IsLeastCost program tests bounds space cost → ⊥
