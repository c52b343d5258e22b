use Rattle.ax_term.specs.Bank.{HasWord}
use Rattle.ax_tests_terms.proofs.terms.doubled.Given as goal

abbrev pub invariant-loop : goal.invariant-loop
invariant-loop l = record { top : HasWord l.bank l.top }
