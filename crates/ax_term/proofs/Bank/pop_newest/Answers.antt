use Rattle.ax_term.proofs.BankLemmas.{IsTable-pop}
use Rattle.ax_term.proofs.Bank.pop_newest.Goals as goal

pub invariant_of-self : goal.invariant_of-self
invariant_of-self c = IsTable-pop _ _ _ c.pop.ensures.entries c.self.invariant

pub returns-clause-sound : goal.returns-clause-sound
returns-clause-sound c = (IsTable-pop _ _ _ c.pop.ensures.entries c.self.invariant).bank
