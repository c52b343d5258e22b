use Rattle.std.proofs.Common.{◌≡◌, ◌+◌, ◌++◌, ◌≤◌, length}
use Rattle.ax_prove.specs.Texts.{literals_from}
use Rattle.ax_prove.proofs.text.true_literals.Given as goal

abbrev pub invariant-loop-rest : goal.invariant-loop-rest
invariant-loop-rest l = record {
  same : literals_from 1 l.fn.bits ≡ l.lits.items ++ literals_from l.var l.rest;
  low : 1 ≤ l.var;
  next : l.var + length l.rest ≡ 1 + length l.fn.bits;
}

abbrev pub decreases-loop-rest : goal.decreases-loop-rest
decreases-loop-rest l = length l.rest
