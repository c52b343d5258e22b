use Rattle.std.proofs.Common.{◌≡◌, ◌≤◌, [], take, length}
use Rattle.ax_meaning.specs.Execution.{end_all}
use Rattle.ax_interp_plain.specs.Completions.{declared_after}
use Rattle.ax_interp_plain.proofs.blocks.end_declared.Given as goal

abbrev pub invariant-back : goal.invariant-back
invariant-back l = record {
  within : l.left ≤ length l.items;
  still : end_all (declared_after (take l.left l.items) []) l.state ≡ end_all (declared_after l.items []) l.fn.state;
}

abbrev pub decreases-back : goal.decreases-back
decreases-back l = l.left
