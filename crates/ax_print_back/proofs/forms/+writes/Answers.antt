use Rattle.std.proofs.Common.{refl}
use Rattle.ax_print_back.proofs.Deciding.{writable_test-Un, writable_test-Bin, writable_test-Cond}
use Rattle.ax_print_back.proofs.forms.+writes.Goals as goal

pub returns-in-Un : goal.returns-in-Un
returns-in-Un t c = rw (c.in-Un.is, writable_test-Un, ← c.get.ensures, ← c.writes.ensures) refl

pub returns-then-writes : goal.returns-then-writes
returns-then-writes t c = rw (c.in-Bin.is, writable_test-Bin, ← c.get-in-Bin.ensures, ← c.writes-in-Bin.ensures, c.if-writes.true, ← c.get-then-writes.ensures, ← c.writes-then-writes.ensures) refl

pub returns-else-writes : goal.returns-else-writes
returns-else-writes t c = rw (c.in-Bin.is, writable_test-Bin, ← c.get-in-Bin.ensures, ← c.writes-in-Bin.ensures, c.if-writes.false) refl

pub returns-then-writes-2 : goal.returns-then-writes-2
returns-then-writes-2 t c = rw (c.in-Cond.is, writable_test-Cond, ← c.get-in-Cond.ensures, ← c.writes-in-Cond.ensures, c.if-not-writes.false, ← c.get-in-Cond-2.ensures, ← c.writes-in-Cond-2.ensures, c.if-writes-2.true, ← c.get-then-writes-2.ensures, ← c.writes-then-writes-2.ensures) refl

pub returns-else-writes-2 : goal.returns-else-writes-2
returns-else-writes-2 t c = rw (c.in-Cond.is, writable_test-Cond, ← c.get-in-Cond.ensures, ← c.writes-in-Cond.ensures, c.if-not-writes.false, ← c.get-in-Cond-2.ensures, ← c.writes-in-Cond-2.ensures, c.if-writes-2.false) refl
