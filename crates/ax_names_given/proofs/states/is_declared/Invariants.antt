use Rattle.std.proofs.Common.{◌≡◌, drop}
use Rattle.std.specs.Prelude.{is_some}
use Rattle.ax_names_types.specs.Scopes.{innermost}
use Rattle.ax_names_given.proofs.states.is_declared.Given as goal

abbrev pub invariant-loop-entry : goal.invariant-loop-entry
invariant-loop-entry l = is_some (innermost l.name (drop l.entry-index l.names)) ≡ is_some (innermost l.name l.names)
