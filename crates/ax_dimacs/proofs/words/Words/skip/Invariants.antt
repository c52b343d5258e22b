use Rattle.std.proofs.Common.{◌≡◌, length}
use Rattle.ax_dimacs.specs.Words.{left, end}
use Rattle.ax_dimacs.proofs.words.Words.skip.Given as goal

abbrev pub invariant-loop-self : goal.invariant-loop-self
invariant-loop-self l = record {
  left : left l.self ≡ left l.fn.self;
  end : end l.self ≡ end l.fn.self;
}

abbrev pub decreases-loop-self : goal.decreases-loop-self
decreases-loop-self l = length l.self.rest.now
