use Rattle.std.proofs.Common.{◌≡◌, drop}
use Rattle.ax_names_rules.specs.StatementWalk.{vars_of}
use Rattle.ax_names.specs.Answers.{prefixed}
use Rattle.ax_names.proofs.declarations.vars_of.Given as goal

abbrev pub invariant-loop-d : goal.invariant-loop-d
invariant-loop-d l = (prefixed l.all (vars_of l.defs l.floor l.base (drop l.d-index l.items) l.st) ≡ vars_of l.defs l.floor l.base l.items l.initial.st) × (l.st.structs ≡ l.initial.st.structs)
