use Rattle.std.proofs.Common.{◌≡◌, drop}
use Rattle.ax_names_rules.specs.StatementWalk.{items_of}
use Rattle.ax_names.specs.Answers.{prefixed}
use Rattle.ax_names.proofs.statements.+statements.Given as goal

abbrev pub invariant-all_of-loop-tree : goal.invariant-all_of-loop-tree
invariant-all_of-loop-tree l = (prefixed l.all (items_of l.set.defs.now l.set.returns.now l.inside l.floor (drop l.tree-index l.items) l.st) ≡ items_of l.set.defs.now l.set.returns.now l.inside l.floor l.items l.initial.st) × (l.st.structs ≡ l.initial.st.structs)
