use Rattle.std.proofs.Common.{◌≡◌, ◌++◌, drop}
use Rattle.ax_names_rules.specs.Programs.{definitions_of}
use Rattle.ax_names.proofs.definitions_of.Given as goal

abbrev pub invariant-loop-part : goal.invariant-loop-part
invariant-loop-part l = l.names ++ definitions_of (drop l.part-index l.parts) ≡ definitions_of l.parts
