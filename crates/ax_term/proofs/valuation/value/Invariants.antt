use Rattle.std.proofs.Common.{◌≡◌, take}
use Rattle.ax_term.specs.Valuation.{interpretation_of, values_of}
use Rattle.ax_term.proofs.valuation.value.Given as goal

abbrev pub invariant-loop-number : goal.invariant-loop-number
invariant-loop-number l = l.values.items ≡ values_of (interpretation_of l.valuation) (take l.number l.bank)
