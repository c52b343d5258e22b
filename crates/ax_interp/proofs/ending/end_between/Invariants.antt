use Rattle.std.proofs.Common.{◌≡◌, ◌≤◌, ◌<◌, ℕ, IsTrue, length}
use Rattle.std.specs.Prelude.{slice_get}
use Rattle.ax_meaning.specs.Store.{end_from}
use Rattle.ax_interp.specs.Gaps.{has_ended, StayEnded}
use Rattle.ax_interp.proofs.ending.end_between.Given as goal

abbrev pub invariant-loop-at : goal.invariant-loop-at
invariant-loop-at l = record {
  before : (n : ℕ) → n ≤ l.from → end_from n l.objects ≡ end_from n l.fn.objects;
  as_long : length l.objects ≡ length l.fn.objects;
  stay : StayEnded l.fn.objects l.objects;
  ended : (i : ℕ) → l.from ≤ i → i < l.at → i < length l.objects → IsTrue (has_ended (slice_get l.objects i));
}
