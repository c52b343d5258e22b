use Rattle.std.proofs.Common.{arith}
use Rattle.ax_top.proofs.Binaries.{binaries-Un, binaries-Bin, binaries-Cond}
use Rattle.ax_top.proofs.built.+binary_count.Goals as goal

pub returns-in-Un : goal.returns-in-Un
returns-in-Un t c = rw (c.in-Un.is, binaries-Un, ← c.get.ensures) (omega arith)

pub returns-in-Bin : goal.returns-in-Bin
returns-in-Bin t c = rw (c.in-Bin.is, binaries-Bin, ← c.get-in-Bin.ensures, ← c.get-in-Bin-2.ensures) (omega arith)

pub returns-in-Cond : goal.returns-in-Cond
returns-in-Cond t c =
    rw (c.in-Cond.is, binaries-Cond, ← c.get-in-Cond.ensures, ← c.get-in-Cond-2.ensures, ← c.get-in-Cond-3.ensures) (omega arith)
