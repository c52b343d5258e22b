use Rattle.std.proofs.Common.{◌≡◌, ◌+◌, ◌++◌, ◌∷◌, [], false, sym, ◌∙◌, arith}
use Rattle.ax_space_trees.proofs.Members.{no-false}
use Rattle.ax_space.specs.Walks.{has_word}
use Rattle.ax_space.specs.Positions.{arity}
use Rattle.ax_space.proofs.Places.{before-more, before-not}
use Rattle.ax_space.proofs.positions.has_operands.Goals as goal

pub returns-then-not-is_position : goal.returns-then-not-is_position
returns-then-not-is_position c =
    let h = rw (c.as_slice.ensures, c.in_ok-below.ensures) at c.is_position.ensures in
    let e : has_word c.args.grow c.args.old.now (c.args.word.now ++ (c.loop-before.before + 1) ∷ []) ≡ false = sym h ∙ c.if-not-is_position.true in (
      (λ q. absurd (no-false q)),
      (λ f. absurd (before-not c.args.grow c.args.old.now c.args.word.now c.loop-before.before (arity c.args.mark.now) (let n = c.operand_count-before-end.ensures.count in let t = c.loop-before-test.true in omega arith) e f)),
    )

pub loop-before-preserved : goal.loop-before-preserved
loop-before-preserved c =
    let h = rw (c.as_slice.ensures, c.in_ok-below.ensures) at c.is_position.ensures in
    before-more c.args.grow c.args.old.now c.args.word.now c.loop-before.before (sym h ∙ c.if-not-is_position.false) c.loop-before.invariant
