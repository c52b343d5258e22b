use Rattle.std.proofs.Common.{◌≡◌, drop}
use Rattle.ax_names_rules.specs.StatementWalk.{globals_of}
use Rattle.ax_names.proofs.globals.globals_of.Given as goal

abbrev pub invariant-loop-d : goal.invariant-loop-d
invariant-loop-d l = (globals_of l.base (drop l.d-index l.items) l.st ≡ globals_of l.base l.items l.initial.st) × (l.st.structs ≡ l.initial.st.structs)
