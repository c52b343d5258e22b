use Rattle.std.proofs.Common.{rules, ◌≡◌}
use Rattle.ax_outside.proofs.Shelves.{print-fails, print-leaves-nothing}
use Rattle.ax_outside.proofs.memory.MemShelfShelf.print.Goals as goal

pub returns-then-is_due-clause-print : goal.returns-then-is_due-clause-print
returns-then-is_due-clause-print c =
    print-fails c.args.self.now c.tear_text.new.self c.fault.new.self _ _ c.tear_text.ensures c.fault.ensures.after c.fault.ensures.rises

pub returns-clause-print : goal.returns-clause-print
returns-clause-print c =
    let stays : c.write_text.new.self ≡ c.args.self.now = search rules in
    print-leaves-nothing c.args.self.now c.write_text.new.self c.fault-2.new.self _ _ stays c.fault-2.ensures.after c.fault-2.ensures.rises
