use Rattle.std.proofs.Common.{◌+◌, ◌*◌, length, take, append_assoc, arith}
use Rattle.ax_gates.specs.Gates.{blocks}
use Rattle.ax_gates.specs.Words.{pick_gates, lit_true}
use Rattle.ax_gates_adders.specs.Adders.{carry_gates, carry_outs}
use Rattle.ax_gates_divider.specs.Divisions.{fits}
use Rattle.ax_gates_divider.proofs.Steps.{carry_is, turn_blocks}
use Rattle.ax_gates_divider.proofs.quotients.subtract.Goals as goal

pub returns-clause-appends : goal.returns-clause-appends
returns-clause-appends c =
    let n = c.args.cnf.now.vars in
    let wide = c.args.wide.now in
    let minus = c.args.minus.now in
    let low = c.args.low in
    let carry = carry_is n wide lit_true c.index-carry.result.now (low + 1) (omega arith) (omega arith) in
    let e = turn_blocks n wide minus low c.requires.same_length in
    let s =
    append_assoc c.args.cnf.now.clauses.items (blocks n (carry_gates n wide minus lit_true))
    (blocks (n + 2 * length wide) (pick_gates (fits n wide) (take low (carry_outs n wide lit_true)) (take low wide)))
    in
    cc (c.in_ok-sums.ensures.appends, c.in_ok-sums.ensures.outs, c.in_ok-sums.ensures.vars, c.deref.ensures.value, c.in_ok-left.ensures.appends)
