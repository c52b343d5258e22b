use Rattle.std.proofs.Common.{rules, ◌≡◌}
use Rattle.ax_outside.proofs.Shelves.{put-fails, put-leaves-nothing}
use Rattle.ax_outside.proofs.memory.MemShelfShelf.put.Goals as goal

pub returns-then-is_due-clause-put : goal.returns-then-is_due-clause-put
returns-then-is_due-clause-put c =
    put-fails c.args.self.now c.tear_file.new.self c.fault.new.self _ _ _ c.tear_file.ensures c.fault.ensures.after c.fault.ensures.rises

pub returns-clause-put : goal.returns-clause-put
returns-clause-put c =
    let stays : c.write_file.new.self ≡ c.args.self.now = search rules in
    put-leaves-nothing c.args.self.now c.write_file.new.self c.fault-2.new.self _ _ _ stays c.fault-2.ensures.after c.fault-2.ensures.rises
