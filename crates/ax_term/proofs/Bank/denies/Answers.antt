use Rattle.ax_term.proofs.BankLemmas.{no_child}
use Rattle.ax_term.proofs.Bank.denies.Goals as goal

pub same-requires-clause-first : goal.same-requires-clause-first
same-requires-clause-first c =
    let b = rw c.self.view_is at c.self.invariant.bank in
    (no_child c.args.self.now c.args.f.now c.node.result.now c.in-No.child b c.requires.first c.node.ensures c.in-No.is).0
