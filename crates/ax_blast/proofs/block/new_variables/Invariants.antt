use Rattle.std.proofs.Common.{◌≡◌, ◌+◌, ◌-◌, ◌++◌}
use Rattle.ax_blast.specs.Blasting.{new_bits}
use Rattle.ax_blast.proofs.block.new_variables.Given as goal

abbrev pub invariant-loop : goal.invariant-loop
invariant-loop l = record {
  clauses : l.cnf.clauses.items ≡ l.initial.cnf.clauses.items;
  vars : l.cnf.vars ≡ l.initial.cnf.vars + l.counter;
  bits : l.bits.items ++ new_bits l.cnf.vars (l.count - l.counter) ≡ new_bits l.initial.cnf.vars l.count;
}
