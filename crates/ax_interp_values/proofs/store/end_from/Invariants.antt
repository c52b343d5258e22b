use Rattle.std.proofs.Common.{◌≡◌, length}
use Rattle.ax_meaning.specs.Store.{end_from}
use Rattle.ax_interp_values.proofs.store.end_from.Given as goal

abbrev pub invariant-loop-at : goal.invariant-loop-at
invariant-loop-at l = record {
  still : end_from l.at l.objects ≡ end_from l.from l.fn.objects;
  length : length l.objects ≡ length l.fn.objects;
}
