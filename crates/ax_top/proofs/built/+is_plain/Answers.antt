use Rattle.std.proofs.Common.{refl}
use Rattle.ax_top.proofs.Binaries.{plain-Bin}
use Rattle.ax_top.proofs.built.+is_plain.Goals as goal

pub returns-then-is_plain : goal.returns-then-is_plain
returns-then-is_plain t c =
    rw (c.in-Bin.is, plain-Bin, ← c.get.ensures, ← c.get-then-is_plain.ensures, ← c.is_plain.ensures, c.if-is_plain.true, ← c.is_plain-then-is_plain.ensures) refl

pub returns-else-is_plain : goal.returns-else-is_plain
returns-else-is_plain t c = rw (c.in-Bin.is, plain-Bin, ← c.get.ensures, ← c.is_plain.ensures, c.if-is_plain.false) refl
