use Rattle.std.proofs.Common.{◌≡◌, drop}
use Rattle.ax_names_declared.specs.Signatures.{after_params, no_params}
use Rattle.ax_names_declared.proofs.heads.params.Given as goal

abbrev pub invariant-loop-it : goal.invariant-loop-it
invariant-loop-it l = after_params l.structs l.defined (drop l.it-index l.list) l.found ≡ after_params l.structs l.defined l.list no_params
