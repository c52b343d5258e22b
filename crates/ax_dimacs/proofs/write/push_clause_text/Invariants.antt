use Rattle.std.proofs.Common.{◌≡◌, ◌++◌, take}
use Rattle.std.specs.List.{flat_map}
use Rattle.ax_dimacs.specs.Written.{part_text}
use Rattle.ax_dimacs.proofs.write.push_clause_text.Given as goal

abbrev pub invariant-loop-lit : goal.invariant-loop-lit
invariant-loop-lit l = l.text.items ≡ l.fn.text.items ++ flat_map part_text (take l.lit-index l.lits)
