use Rattle.std.proofs.Common.{◌+◌, arith}
use Rattle.ax_meaning.specs.Runs.{evaluations}
use Rattle.ax_least.proofs.Evaluations.{evaluations-more, evaluations-some, not-few}
use Rattle.ax_least.proofs.are_few.Goals as goal

pub returns-then-begun-left : goal.returns-then-begun-left
returns-then-begun-left c =
    let ids = c.args.ids.now in
    let counts = c.args.counts.now in
    let i = c.loop-id.id-index in
    let more = evaluations-more ids i (record { 0 = 0 }) counts c.loop-id-test.true in
    let some = evaluations-some (i + 1) ids counts in
    let e = c.begun_of-begun.ensures in
    let left = c.loop-id.invariant in
    not-few (evaluations ids counts) c.args.most (omega arith)

pub loop-id-preserved : goal.loop-id-preserved
loop-id-preserved c =
    let more = evaluations-more c.args.ids.now c.loop-id.id-index (record { 0 = 0 }) c.args.counts.now c.loop-id-test.true in
    let e = c.begun_of-begun.ensures in
    let left = c.loop-id.invariant in
    omega arith
