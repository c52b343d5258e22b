use Rattle.std.proofs.Common.{◌≡◌, ◌++◌, ℕ, drop}
use Rattle.ax_print_back.specs.Changes.{AreChanges, parts_of}
use Rattle.ax_print_back.proofs.parts.Given as goal

abbrev pub invariant-loop-change : goal.invariant-loop-change
invariant-loop-change l = record {
  done : l.parts ++ parts_of l.source l.program (drop l.change-index l.changes) ≡ parts_of l.source l.program l.changes;
  rest : (from : ℕ) × AreChanges from l.program (drop l.change-index l.changes);
}
