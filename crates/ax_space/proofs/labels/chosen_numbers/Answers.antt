use Rattle.std.proofs.Common.{◌≡◌, ◌+◌, subst, nat_abs, w32}
use Rattle.std.proofs.lemmas.Int.{to_z-of_z}
use Rattle.ax_space.specs.Rows.{IsPart}
use Rattle.ax_space.specs.Labels.{IsChosenNumber, IsNumberBelow}
use Rattle.ax_space.proofs.Parts.{numbers-part}
use Rattle.ax_space.proofs.Slices.{abs-is}
use Rattle.ax_space.proofs.labels.chosen_numbers.Goals as goal

pub returns-then-limit-ge0 : goal.returns-then-limit-ge0
returns-then-limit-ge0 c =
    let low = rw (to_z-of_z w32 c.args.limit c.ranges.limit) at c.if-limit-ge0.true in
    let same : c.unsigned_abs.result ≡ nat_abs c.args.limit = rw (to_z-of_z w32 c.args.limit c.ranges.limit) at c.unsigned_abs.ensures.value in
    let count = subst (λ z. IsPart (IsNumberBelow (z + 1)) c.in_ok-numbers.numbers) same c.in_ok-numbers.ensures in
    subst (λ z. IsPart (IsChosenNumber c.args.sets.now z) c.in_ok-numbers.numbers) (abs-is c.args.limit low)
    (numbers-part c.args.sets.now (nat_abs c.args.limit) c.in_ok-numbers.numbers c.if-sets.true count)
