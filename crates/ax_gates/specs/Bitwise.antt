-- The gate of a bitwise operator.
use Rattle.ax_proof.specs.Literal.{Literal}
use Rattle.ax_gates.specs.Gates.{Gate, both, either, differ}
use Rattle.ax_gates.specs.declared.words.Bitwise.{Bitwise}
use Rattle.ax_gates.specs.declared.words.Bitwise.TheVariants.{And, Or, Xor}

abbrev pub bit_gate : Bitwise → Literal → Literal → Gate
bit_gate And = both
bit_gate Or = either
bit_gate Xor = differ
