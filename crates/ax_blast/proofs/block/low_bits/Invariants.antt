use Rattle.std.proofs.Common.{◌≡◌, ◌-◌, ◌++◌}
use Rattle.ax_blast.specs.Blasting.{constant_bits}
use Rattle.ax_blast.proofs.block.low_bits.Given as goal

abbrev pub invariant-loop : goal.invariant-loop
invariant-loop l = record {
  bits : l.bits.items ++ constant_bits (l.count - l.counter) l.rest ≡ constant_bits l.count l.number;
}
