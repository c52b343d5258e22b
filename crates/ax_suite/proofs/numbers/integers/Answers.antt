use Rattle.std.proofs.Common.{rules, ◌≡◌, ◌∙◌, ap, w32, to_z, of_z}
use Rattle.std.specs.Int.{w128}
use Rattle.ax_suite.specs.Tests.{int_from}
use Rattle.ax_suite.proofs.Fronts.{next, push-fits, int-is, stops}
use Rattle.ax_suite.proofs.numbers.integers.Goals as goal

pub returns-in_default-int : goal.returns-in_default-int
returns-in_default-int c =
    let same : to_z w128 (of_z w128 c.in-Some.number) ≡ c.in-Some.number = search rules in
    stops _ _ _ _ _ c.in-len1-up.len_at_least c.first-item.is c.in-Some.ensures (c.in_default-int.ensures ∙ ap int_from same) c.loop-rest.invariant.0

pub loop-rest-preserved : goal.loop-rest-preserved
loop-rest-preserved c =
    let same : to_z w128 (of_z w128 c.in-Some.number) ≡ c.in-Some.number = search rules in
    let kept : to_z w32 (of_z w32 c.in-Some-int.number) ≡ c.in-Some-int.number = search rules in
    let int = int-is c.in-Some.number _ (c.in-Some-int.ensures ∙ ap int_from same) in
    rw (c.in_ok-push.ensures.items, kept, int.0)
    (next _ _ _ _ _ c.in-len1-up.len_at_least c.first-item.is c.in-Some.ensures c.loop-rest.invariant.0, push-fits c.loop-rest.list.items c.in-Some.number c.loop-rest.invariant.1 int.1)
