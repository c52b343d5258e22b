use Rattle.std.proofs.Common.{ℕ, ap, ◌∙◌, w32}
use Rattle.std.specs.Int.{cast_unsigned}
use Rattle.std.proofs.lemmas.Int.{to_z-of_z}
use Rattle.ax_blast.specs.Blasting.{constant_bits}
use Rattle.ax_blast.proofs.Bits.{constant_is}
use Rattle.ax_blast.proofs.block.constant.Goals as goal

pub returns : goal.returns
returns c =
    constant_is c.args.value c.in_ok-bits.bits.items c.ranges.value
    (c.in_ok-bits.ensures ∙ ap (λ (x : ℕ). constant_bits 32 x) (c.cast_unsigned-number.ensures ∙ ap (cast_unsigned w32) (to_z-of_z w32 c.args.value c.ranges.value)))
