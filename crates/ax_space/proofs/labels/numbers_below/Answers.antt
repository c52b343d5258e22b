use Rattle.std.proofs.Common.{◌+◌, ◌++◌, ◌∷◌, [], sym, subst, arith, w32}
use Rattle.std.proofs.lemmas.Int.{to_z_pos}
use Rattle.ax_space_trees.specs.declared.Label.TheVariants as label
use Rattle.ax_space.specs.Rows.{IsPart}
use Rattle.ax_space.specs.Labels.{IsNumberBelow}
use Rattle.ax_space.proofs.Parts.{numbers-more}
use Rattle.ax_space.proofs.labels.numbers_below.Goals as goal

pub loop-number-preserved : goal.loop-number-preserved
loop-number-preserved c =
    let read = to_z_pos w32 c.loop-number.number (omega (arith, c.loop-number-test.true, c.requires)) in
    rw c.in_ok-push.ensures.ok
    (subst (λ z. IsPart (IsNumberBelow (c.loop-number.number + 1)) (c.loop-number.all ++ label.Num z ∷ [])) (sym read)
    (numbers-more c.loop-number.number c.loop-number.all c.loop-number.invariant))
