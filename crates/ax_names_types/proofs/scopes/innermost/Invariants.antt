use Rattle.std.specs.Prelude.{◌≡◌, drop}
use Rattle.std.specs.Option.{option_copied}
use Rattle.ax_names_types.specs.Scopes.{innermost, or_else}
use Rattle.ax_names_types.proofs.scopes.innermost.Given as goal

abbrev pub invariant-loop-entry : goal.invariant-loop-entry
invariant-loop-entry l = or_else (innermost l.name (drop l.entry-index l.names)) (option_copied l.found) ≡ innermost l.name l.names
