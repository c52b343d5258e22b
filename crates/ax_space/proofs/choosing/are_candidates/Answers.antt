use Rattle.std.proofs.Common.{get_or, refl}
use Rattle.std.specs.List.{Contains}
use Rattle.ax_prog.specs.Candidates.{candidates_of}
use Rattle.ax_space.proofs.Slices.{item-is}
use Rattle.ax_space.proofs.Rising.{all-more, all-whole}
use Rattle.ax_space.proofs.choosing.are_candidates.Goals as goal

pub loop-id-preserved : goal.loop-id-preserved
loop-id-preserved c =
    all-more (Contains (candidates_of c.args.program.now)) c.args.chosen.now c.loop-id.id-index (get_or c.args.chosen.now c.loop-id.id-index (record { 0 = 0 })) c.loop-id-test.true
    (item-is c.args.chosen.now c.loop-id.id-index (record { 0 = 0 }) c.loop-id-test.true) (c.is_candidate.ensures.0 c.if-not-is_candidate.false) c.loop-id.invariant

pub returns : goal.returns
returns c = ((λ h. all-whole (Contains (candidates_of c.args.program.now)) c.args.chosen.now c.loop-id.id-index c.loop-id-test.false c.loop-id.invariant), (λ all. refl))
