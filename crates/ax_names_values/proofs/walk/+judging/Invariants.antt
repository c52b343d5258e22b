use Rattle.std.proofs.Common.{◌+◌, ◌*◌}
use Rattle.ax_names_types.specs.Scopes.{env_of}
use Rattle.ax_names_values.proofs.Walks.{nodes, Walking}
use Rattle.ax_names_values.proofs.walk.+judging.Given as goal

abbrev pub decreases-typed : goal.decreases-typed
decreases-typed l = 3 * nodes l.tree.now

abbrev pub decreases-judged_operand : goal.decreases-judged_operand
decreases-judged_operand l = 3 * nodes l.tree.now + 1

abbrev pub decreases-conditional : goal.decreases-conditional
decreases-conditional l = 3 * (nodes l.test.now + nodes l.first.now + nodes l.second.now) + 2

abbrev pub invariant-typed-down : goal.invariant-typed-down
invariant-typed-down l = Walking (env_of l.names l.structs) l.tree l.steps l.part

abbrev pub decreases-typed-down : goal.decreases-typed-down
decreases-typed-down l = nodes l.part
