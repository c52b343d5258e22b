use Rattle.std.proofs.Common.{◌≡◌, ◌+◌, ◌++◌, length, append_assoc}
use Rattle.ax_gates.specs.Gates.{none, next, block, blocks}
use Rattle.ax_gates.specs.Words.{fresh, xor_gates}
use Rattle.ax_gates_adders.proofs.Laws.{equal_blocks}
use Rattle.ax_gates_adders.proofs.compare.equal_words.Goals as goal

pub returns-clause-appends : goal.returns-clause-appends
returns-clause-appends c =
    let e = equal_blocks c.args.cnf.now.vars c.args.a.now c.args.b.now c.requires.same_length in
    let s =
    append_assoc c.args.cnf.now.clauses.items (blocks c.args.cnf.now.vars (xor_gates c.args.a.now c.args.b.now))
    (block (next (c.args.cnf.now.vars + length c.args.a.now)) (none (fresh c.args.cnf.now.vars c.args.a.now)))
    in
    cc (c.in_ok-unlike.ensures.appends, c.in_ok-unlike.ensures.outs, c.in_ok-unlike.ensures.vars, c.in_ok-none_gate.ensures.appends)
