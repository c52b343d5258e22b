use Rattle.std.proofs.Common.{◌≡◌, ◌++◌, take}
use Rattle.ax_proof.specs.Naming.{vars_of}
use Rattle.ax_proof.proofs.naming.push_vars.Given as goal

abbrev pub invariant-loop-lit : goal.invariant-loop-lit
invariant-loop-lit l = l.vars.items ≡ l.initial.vars.items ++ vars_of (take l.lit-index l.lit-items)
