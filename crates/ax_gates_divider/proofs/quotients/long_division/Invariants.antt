use Rattle.std.proofs.Common.{◌≡◌, ◌≤◌, ◌++◌, length, drop, reverse}
use Rattle.ax_proof.specs.Runs.{Begins}
use Rattle.ax_gates.specs.Gates.{blocks}
use Rattle.ax_gates_divider.specs.Divisions.{division}
use Rattle.ax_gates_divider.proofs.quotients.long_division.Given as goal

abbrev pub invariant-loop-i : goal.invariant-loop-i
invariant-loop-i l = record {
  within : l.i ≤ length l.a;
  vars : l.cnf.vars ≡ (division l.initial.cnf.vars (drop l.i l.a) l.b).vars;
  clauses : l.cnf.clauses.items ≡ l.initial.cnf.clauses.items ++ blocks l.initial.cnf.vars (division l.initial.cnf.vars (drop l.i l.a) l.b).gates;
  quotient : reverse l.quotient.items ≡ (division l.initial.cnf.vars (drop l.i l.a) l.b).quotient;
  remainder : l.remainder.items ≡ (division l.initial.cnf.vars (drop l.i l.a) l.b).remainder;
  begins : Begins l.initial.cnf.clauses.items l.cnf.clauses.items;
}
