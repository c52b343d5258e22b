use Rattle.std.proofs.Common.{ap, Some, refl}
use Rattle.ax_space_trees.specs.Space.{none, same, other}
use Rattle.ax_space_trees.proofs.Regions.{some-none, some-some}
use Rattle.ax_space_trees.proofs.Members.{no-false}
use Rattle.ax_space_trees.proofs.changes.changed_root.Goals as goal

pub returns-in-None-clause-count : goal.returns-in-None-clause-count
returns-in-None-clause-count c = rw c.in-None.is (other (λ h. some-none _ h) none)

pub returns-then-same_root-clause-count : goal.returns-then-same_root-clause-count
returns-then-same_root-clause-count c =
    let h = rw c.if-same_root.true at c.same_root.ensures in rw c.in-Some.is (same (ap Some (h.0 refl)) none)

pub returns-else-same_root-clause-count : goal.returns-else-same_root-clause-count
returns-else-same_root-clause-count c =
    let h = rw c.if-same_root.false at c.same_root.ensures in
    rw c.in-Some.is (other (λ e. no-false (h.1 (some-some _ _ e))) none)
