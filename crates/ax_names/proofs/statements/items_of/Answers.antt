use Rattle.std.proofs.Common.{false}
use Rattle.ax_names_rules.specs.StatementWalk.{items_of}
use Rattle.ax_names.proofs.Kept.{made_kept, items_keep}
use Rattle.ax_names.proofs.statements.items_of.Goals as goal

pub returns-clause-structs : goal.returns-clause-structs
returns-clause-structs c =
    let defs = c.args.defs.now in
    let returns = c.args.returns.now in
    made_kept (items_of defs returns false c.args.floor c.args.items.now c.args.st.now) c.all_of.result c.args.st.now c.all_of.new.st (items_keep defs returns false c.args.floor c.args.items.now c.args.st.now) c.all_of.ensures.made
