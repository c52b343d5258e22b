use Rattle.ax_term.specs.Bank.{HasFlag}
use Rattle.ax_term.proofs.BankLemmas.{no_child, IfOk-clone}
use Rattle.ax_term.proofs.Bank.make_no.Goals as goal

pub returns-in-No-clause-has : goal.returns-in-No-clause-has
returns-in-No-clause-has c =
    let b = rw c.self.view_is at c.self.invariant.bank in
    IfOk-clone _ c.clone.result c.in-No.child _ (λ t. HasFlag c.args.self.now t) c.clone.ensures.cases (no_child c.args.self.now c.args.f.now c.node.result.now c.in-No.child b c.requires.has_flag.0 c.node.ensures c.in-No.is)
