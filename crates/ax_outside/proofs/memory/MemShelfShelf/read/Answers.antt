use Rattle.ax_outside.proofs.Shelves.{read-fails}
use Rattle.ax_outside.proofs.memory.MemShelfShelf.read.Goals as goal

pub returns-then-is_due-clause-read : goal.returns-then-is_due-clause-read
returns-then-is_due-clause-read c = read-fails _ _ _ _ _ _ c.fault.ensures.after c.fault.ensures.rises

pub returns-in_default-clause-read : goal.returns-in_default-clause-read
returns-in_default-clause-read c = read-fails _ _ _ _ _ _ c.fault-in_default.ensures.after c.fault-in_default.ensures.rises
