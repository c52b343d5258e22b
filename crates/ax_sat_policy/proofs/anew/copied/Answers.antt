use Rattle.ax_sat_policy.proofs.Choosing.{clause_stays, no_clash_here}
use Rattle.ax_sat_policy.proofs.anew.copied.Goals as goal

pub unreachable-requires : goal.unreachable-requires
unreachable-requires c =
    let made = rw c.in-None.is at c.in_ok-clause.ensures.value in
    no_clash_here c.args.lits.now c.requires made

pub returns : goal.returns
returns c =
    let made = rw c.in-Some.is at c.in_ok-clause.ensures.value in
    clause_stays c.args.lits.now c.in-Some.clause c.requires made
