use Rattle.std.proofs.Common.{◌≡◌, ◌∙◌, length, arith}
use Rattle.ax_interp.proofs.Ended.{before_end_object, end_object_stays, length-end_object, ended_more}
use Rattle.ax_interp.proofs.ending.end_between.Goals as goal

pub loop-at-preserved : goal.loop-at-preserved
loop-at-preserved c =
    let at = c.loop-at.at in
    let xs = c.loop-at.objects in
    let same : length c.end_object.new.objects ≡ length xs = rw c.end_object.ensures (length-end_object at xs) in
    record {
      before = λ n le. rw c.end_object.ensures (before_end_object n at xs (omega (arith, le, c.loop-at.auto.at)) ∙ c.loop-at.invariant.before n le);
      as_long = same ∙ c.loop-at.invariant.as_long;
      stay = λ i e. rw c.end_object.ensures (end_object_stays at xs i (c.loop-at.invariant.stay i e));
      ended = λ i ge l within. rw c.end_object.ensures (ended_more c.args.from at xs c.loop-at.invariant.ended i ge l (omega (arith, within, same)));
    }
