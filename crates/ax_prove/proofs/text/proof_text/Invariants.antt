use Rattle.std.proofs.Common.{◌≡◌, take}
use Rattle.std.specs.List.{flat_map}
use Rattle.ax_dimacs.specs.Written.{clause_text}
use Rattle.ax_prove.proofs.text.proof_text.Given as goal

abbrev pub invariant-loop-line : goal.invariant-loop-line
invariant-loop-line l = l.text.items ≡ flat_map clause_text (take l.line-index l.lines)
