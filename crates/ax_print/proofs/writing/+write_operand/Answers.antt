use Rattle.ax_print.specs.Text.{atom_text}
use Rattle.ax_print.proofs.Written.{written-Un, written-Bin, written-Cond}
use Rattle.ax_print.proofs.writing.+write_operand.Goals as goal

pub returns-in_ok-append-in-Un-3 : goal.returns-in_ok-append-in-Un-3
returns-in_ok-append-in-Un-3 t c =
    written-Un _ _ _ _ _ _ _ _ _ _ _ _ c.in-Un.is c.get-in-Un.ensures c.as_bytes.ensures.value c.un_sign.ensures c.in_ok-append-in-Un.ensures c.in_ok-append-in-Un-2.ensures c.in_ok-write_operand-in-Un.ensures c.in_ok-append-in-Un-3.ensures

pub returns-in_ok-append-in-Bin-5 : goal.returns-in_ok-append-in-Bin-5
returns-in_ok-append-in-Bin-5 t c =
    written-Bin _ _ _ _ _ _ _ _ _ _ _ _ _ _ _ _ _ c.in-Bin.is c.get-in-Bin.ensures c.get-in-Bin-2.ensures c.as_bytes-in-Bin.ensures.value c.bin_sign.ensures c.in_ok-append-in-Bin.ensures c.in_ok-write_operand-in-Bin.ensures c.in_ok-append-in-Bin-2.ensures c.in_ok-append-in-Bin-3.ensures c.in_ok-append-in-Bin-4.ensures c.in_ok-write_operand-in-Bin-2.ensures c.in_ok-append-in-Bin-5.ensures

pub returns-in_ok-append-in-Cond-4 : goal.returns-in_ok-append-in-Cond-4
returns-in_ok-append-in-Cond-4 t c =
    written-Cond _ _ _ _ _ _ _ _ _ _ _ _ _ _ _ _ c.in-Cond.is c.get-in-Cond.ensures c.get-in-Cond-2.ensures c.get-in-Cond-3.ensures c.in_ok-append-in-Cond.ensures c.in_ok-write_operand-in-Cond.ensures c.in_ok-append-in-Cond-2.ensures c.in_ok-write_operand-in-Cond-2.ensures c.in_ok-append-in-Cond-3.ensures c.in_ok-write_operand-in-Cond-3.ensures c.in_ok-append-in-Cond-4.ensures
