use Rattle.std.proofs.Common.{take}
use Rattle.ax_sat_policy.specs.Core.{IsPart}
use Rattle.ax_sat_policy.proofs.parts.is_part.Given as goal

abbrev pub invariant-loop-lit : goal.invariant-loop-lit
invariant-loop-lit l = IsPart (take l.lit-index l.part) l.lits
