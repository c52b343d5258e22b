use Rattle.std.proofs.Common.{◌≡◌, [], length}
use Rattle.ax_dimacs.specs.Words.{left, end}
use Rattle.ax_dimacs.specs.Clauses.{clauses_of, joined}
use Rattle.ax_dimacs.proofs.read.take_clauses.Given as goal

abbrev pub invariant-loop-word : goal.invariant-loop-word
invariant-loop-word l = record {
  same : clauses_of l.vars [] (left l.fn.words) ≡ joined l.clauses.items (clauses_of l.vars l.open.items (left l.words));
  end : end l.words ≡ end l.fn.words;
}

abbrev pub decreases-loop-word : goal.decreases-loop-word
decreases-loop-word l = length (left l.words)
