use Rattle.std.proofs.Common.{◌≡◌, ◌+◌, ◌*◌, ◌^◌, ◌++◌, drop, length}
use Rattle.ax_proof.specs.Runs.{Begins}
use Rattle.ax_gates.specs.Gates.{blocks}
use Rattle.ax_gates_shifter.specs.Shifter.{shift_gates, shift_outs}
use Rattle.ax_gates_shifter.proofs.shifts.stages.Given as goal

abbrev pub invariant-loop-i : goal.invariant-loop-i
invariant-loop-i l = record {
  vars : l.cnf.vars ≡ l.initial.cnf.vars + 32 * l.i;
  width : length l.bits.items ≡ 32;
  places : l.places ≡ 2 ^ l.i;
  clauses : l.cnf.clauses.items ++ blocks l.cnf.vars (shift_gates l.right l.fill l.cnf.vars l.bits.items (drop l.i l.count) l.places) ≡ l.initial.cnf.clauses.items ++ blocks l.initial.cnf.vars (shift_gates l.right l.fill l.initial.cnf.vars l.word l.count 1);
  outs : shift_outs l.cnf.vars l.bits.items (drop l.i l.count) ≡ shift_outs l.initial.cnf.vars l.word l.count;
  begins : Begins l.initial.cnf.clauses.items l.cnf.clauses.items;
}
