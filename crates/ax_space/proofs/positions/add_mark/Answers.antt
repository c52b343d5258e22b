use Rattle.std.proofs.Common.{refl, ◌++◌, ◌∷◌, [], sym, ◌∙◌}
use Rattle.ax_space_trees.proofs.Members.{no-false}
use Rattle.ax_space.specs.Positions.{HasOperands}
use Rattle.ax_space.proofs.Places.{next-there, next-without, next-kept}
use Rattle.ax_space.proofs.positions.add_mark.Goals as goal

pub returns-then-has_mark : goal.returns-then-has_mark
returns-then-has_mark c =
    let h = rw c.as_slice.ensures at c.has_mark.ensures in
    next-there (HasOperands c.args.grow c.args.old.now c.args.word.now) c.args.all.now c.args.all.now c.args.mark.now refl (h.0 c.if-has_mark.true)

pub returns-in_ok-push : goal.returns-in_ok-push
returns-in_ok-push c =
    let h = rw c.as_slice.ensures at c.has_mark.ensures in
    rw (c.in_ok-push.ensures.ok, c.in_ok-copy_mark.ensures)
    (next-kept (HasOperands c.args.grow c.args.old.now c.args.word.now) c.args.all.now (c.args.all.now ++ c.args.mark.now ∷ []) c.args.mark.now refl (λ k. no-false (sym c.if-has_mark.false ∙ h.1 k)) (c.in_ok-has_operands.ensures.0 c.if-branch.true))

pub returns-else-branch : goal.returns-else-branch
returns-else-branch c =
    next-without (HasOperands c.args.grow c.args.old.now c.args.word.now) c.args.all.now c.args.all.now c.args.mark.now refl (λ k. no-false (sym c.if-branch.false ∙ c.in_ok-has_operands.ensures.1 k))
