use Rattle.std.proofs.Common.{◌≡◌, length, rules}
use Rattle.ax_proof.proofs.Shows.{clauses_first, lines_then}
use Rattle.ax_proof.proofs.right.check_counted.Goals as goal

pub returns-clause-right : goal.returns-clause-right
returns-clause-right g c =
    let n : c.len.result ≡ length c.args.cnf.now.clauses.items = search rules in
    let first = clauses_first c.args.cnf.now.clauses.items c.args.lines.now c.len.result n in
    let after = lines_then c.args.cnf.now.clauses.items c.args.lines.now c.len.result n in
    rw (first, after) at c.check_uses.ensures.right

pub returns-clause-fault : goal.returns-clause-fault
returns-clause-fault g c =
    let n : c.len.result ≡ length c.args.cnf.now.clauses.items = search rules in
    let first = clauses_first c.args.cnf.now.clauses.items c.args.lines.now c.len.result n in
    let after = lines_then c.args.cnf.now.clauses.items c.args.lines.now c.len.result n in
    rw (first, after) at c.check_uses.ensures.fault
