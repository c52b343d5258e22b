use Rattle.ax_term.proofs.BankLemmas.{same_number}
use Rattle.ax_term.proofs.Bank.same.Goals as goal

pub returns : goal.returns
returns c =
    let b = rw c.self.view_is at c.self.invariant.bank in
    rw (c.number.ensures, c.number-2.ensures) (same_number c.args.self.now c.args.a.now c.args.b.now b c.requires.first c.requires.second)
