use Rattle.std.proofs.Common.{rules}
use Rattle.ax_outside.proofs.Steps.{same-refl, same-then, no_less-refl, no_less-then, taken-none, taken-read}
use Rattle.ax_outside.proofs.reading.read_all.Goals as goal

pub pieces-init : goal.pieces-init
pieces-init g c = (rw c.new-bytes.ensures.items (taken-none _), same-refl _, no_less-refl _)

pub pieces-preserved : goal.pieces-preserved
pieces-preserved g c =
    let step = c.in-Ok.ensures.read in
    let kept = c.pieces.invariant in (
      rw c.in_ok-extend_from_slice.ensures.items
          (taken-read _ _ _ _ _ _ (kept.1.kept c.args.name.now) (search rules) c.in-Ok.ensures.bound.0 kept.0 step.bytes),
      same-then _ _ _ kept.1 step.same,
      no_less-then _ _ _ kept.2 step.counts,
    )
