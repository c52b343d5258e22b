use Rattle.std.proofs.Common.{◌≡◌, ℕ, [], drop}
use Rattle.ax_meaning.specs.Acts.{arg_values}
use Rattle.ax_meaning.specs.Runs.{plain_setting}
use Rattle.ax_interp_acts.proofs.printing.values_of_args.Given as goal

abbrev pub invariant-loop-arg : goal.invariant-loop-arg
invariant-loop-arg l = (steps : ℕ) → arg_values (plain_setting l.layout.program.now steps) (drop l.arg-index l.args) l.cells l.state ≡ arg_values (plain_setting l.layout.program.now steps) l.args [] l.fn.state
