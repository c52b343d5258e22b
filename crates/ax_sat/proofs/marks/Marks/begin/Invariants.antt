use Rattle.std.proofs.Common.{◌≡◌, ◌<◌, ℕ, All, length}
use Rattle.std.specs.List.{Contains}
use Rattle.ax_proof.specs.Marks.{IsMarked}
use Rattle.ax_sat.proofs.marks.Marks.begin.Given as goal

abbrev pub invariant-loop-x : goal.invariant-loop-x
invariant-loop-x l = record {
  size : length l.self-inside.on.items ≡ length l.fn.self.on;
  within : All (λ x. x < length l.self-inside.on.items) l.self-inside.touched.items;
  listed : (x : ℕ) → IsMarked l.self-inside.on.items x → Contains l.self-inside.touched.items x;
}

abbrev pub decreases-loop-x : goal.decreases-loop-x
decreases-loop-x l = length l.self-inside.touched.items
