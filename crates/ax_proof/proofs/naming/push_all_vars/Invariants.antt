use Rattle.std.proofs.Common.{◌≡◌, ◌++◌, take}
use Rattle.ax_proof.specs.Naming.{all_vars}
use Rattle.ax_proof.proofs.naming.push_all_vars.Given as goal

abbrev pub invariant-loop-clause : goal.invariant-loop-clause
invariant-loop-clause l = l.vars.items ≡ l.initial.vars.items ++ all_vars (take l.clause-index l.clauses)
