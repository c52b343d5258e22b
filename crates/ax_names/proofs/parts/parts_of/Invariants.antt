use Rattle.std.proofs.Common.{◌≡◌, drop}
use Rattle.ax_names_declared.specs.Cells.{measured}
use Rattle.ax_names_rules.specs.FileWalk.{parts_of}
use Rattle.ax_names.proofs.parts.parts_of.Given as goal

abbrev pub invariant-loop-part : goal.invariant-loop-part
invariant-loop-part l = (parts_of l.defs (drop l.part-index l.parts) l.st ≡ parts_of l.defs l.parts l.initial.st) × (l.cells ≡ measured l.st.structs)
