use Rattle.std.proofs.Common.{◌≡◌, length}
use Rattle.ax_meaning.specs.Store.{end_from}
use Rattle.ax_interp.specs.Gaps.{AllEnded, EndedIn}
use Rattle.ax_interp.proofs.ending.end_outside.Given as goal

abbrev pub invariant-loop-gap : goal.invariant-loop-gap
invariant-loop-gap l = record {
  still : end_from l.from l.objects ≡ end_from l.from l.fn.objects;
  gaps : AllEnded l.gaps l.objects;
  ended : EndedIn l.end (length l.objects) l.objects;
}

abbrev pub decreases-loop-gap : goal.decreases-loop-gap
decreases-loop-gap l = length l.gaps
