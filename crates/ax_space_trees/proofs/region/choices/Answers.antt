use Rattle.std.proofs.Common.{Some, take, ap, sym}
use Rattle.ax_space_trees.proofs.RegionSteps.{start-some, step-new, step-same, some-label, not-earlier, more-labels}
use Rattle.ax_space_trees.proofs.Members.{no-false}
use Rattle.ax_space_trees.proofs.region.choices.Goals as goal
use Rattle.ax_space_trees.proofs.region.choices.Goals.{then-not-same_label+in_ok-copy+in_ok-push-2, else-not-same_label}

pub loop-label-init : goal.loop-label-init
loop-label-init c = rw (c.in_ok-push.ensures.ok, c.new-all.ensures, c.in_ok-first.ensures) (start-some c.args.own.now)

pub loop-label-preserved : goal.loop-label-preserved
loop-label-preserved c =
    elim c.if-not-same_label.branch [
      | then-not-same_label+in_ok-copy+in_ok-push-2 w ↦
          rw (w.all-is, w.in_ok-push-2.ensures.ok, w.in_ok-copy.ensures)
          (more-labels c.args.labels.now c.loop-label.label-index c.label-item.result (Some c.args.own.now) _ c.loop-label-test.true c.label-item.is
          (step-new (take c.loop-label.label-index c.args.labels.now) (Some c.args.own.now) c.loop-label.all c.label-item.result
          (λ q. (let t = c.same_label.ensures.1 (sym (some-label q)) in let f = w.if-not-same_label.true in no-false (cc)))
          (not-earlier c.args.labels.now c.loop-label.label-index c.label-item.result c.requires c.loop-label-test.true c.label-item.is) c.loop-label.invariant))
      | else-not-same_label w ↦
          rw w.all-is
          (more-labels c.args.labels.now c.loop-label.label-index c.label-item.result (Some c.args.own.now) _ c.loop-label-test.true c.label-item.is
          (step-same (take c.loop-label.label-index c.args.labels.now) (Some c.args.own.now) c.loop-label.all c.label-item.result
          (ap Some (sym (c.same_label.ensures.0 w.if-not-same_label.false))) c.loop-label.invariant))
    ]
