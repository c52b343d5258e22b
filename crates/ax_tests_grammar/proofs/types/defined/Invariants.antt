use Rattle.std.proofs.Common.{◌≡◌}
use Rattle.ax_names_declared.specs.Cells.{measured}
use Rattle.ax_tests_grammar.proofs.types.defined.Given as goal

abbrev pub invariant-loop-part : goal.invariant-loop-part
invariant-loop-part l = l.counts ≡ measured l.structs
