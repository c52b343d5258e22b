use Rattle.std.proofs.Common.{take, sym, subst}
use Rattle.ax_space.specs.Positions.{HasOperands, Firsts, none}
use Rattle.ax_space.proofs.Places.{firsts-next}
use Rattle.ax_space.proofs.positions.kept_marks.Goals as goal

pub loop-mark-init : goal.loop-mark-init
loop-mark-init c = subst (λ z. Firsts (HasOperands c.args.grow c.args.old.now c.args.word.now) (take 0 c.args.marks.now) z) (sym c.new-all.ensures) none

pub loop-mark-preserved : goal.loop-mark-preserved
loop-mark-preserved c =
    firsts-next (HasOperands c.args.grow c.args.old.now c.args.word.now) c.args.marks.now c.loop-mark.all c.add_mark.new.all c.loop-mark.mark-index c.mark-item.result c.loop-mark-test.true c.mark-item.is c.in_ok-add_mark.ensures c.loop-mark.invariant
