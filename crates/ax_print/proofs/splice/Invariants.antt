use Rattle.std.proofs.Common.{◌≡◌, ◌++◌, drop, length}
use Rattle.ax_print.specs.Spliced.{spliced_from, AreParts}
use Rattle.ax_print.proofs.splice.Given as goal

abbrev pub invariant-loop-part : goal.invariant-loop-part
invariant-loop-part l = record {
  done : l.out.items ++ spliced_from l.at l.source (drop l.part-index l.parts) ≡ spliced_from 0 l.source l.parts;
  rest : AreParts l.at (length l.source) (drop l.part-index l.parts);
}
