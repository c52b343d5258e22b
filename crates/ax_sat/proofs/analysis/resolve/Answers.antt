use Rattle.std.proofs.Common.{[], ◌≤◌, arith}
use Rattle.ax_sat.proofs.Marking.{resolve_marked, ok_true, stands_at}
use Rattle.ax_sat.proofs.analysis.resolve.Goals as goal

pub unset-requires : goal.unset-requires
unset-requires c =
    let o = c.trail-known.ensures.sound.literals c.args.lit c.requires.lit in
    let high : c.args.lit.var ≤ c.args.watch.now.vars = o.1 in
    let v = c.var.ensures.value in
    let f = c.requires.size in
    omega arith

pub returns-clause-end : goal.returns-clause-end
returns-clause-end c =
    let rising = c.trail-known.ensures.sound.clauses c.args.place [] c.requires.place in
    let others = rw c.var.ensures.value at c.unset.ensures.others in
    ok_true c.mark.result _ _
    (λ marked. resolve_marked c.args.watch.now.clauses _ _ _ c.mark.new.marks.on c.args.lit _ c.trail-known.ensures.sound.consistent c.requires.lit rising (stands_at _ c.args.place c.requires.place) c.requires.forced
    (λ v ne h. others v ne h) c.mark.ensures.more marked c.requires.start)
    (rw c.var-2.ensures.value at c.mark.ensures.marked)
