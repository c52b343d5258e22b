use Rattle.ax_print.proofs.Written.{written-text}
use Rattle.ax_print.proofs.expr_text.Goals as goal

pub returns : goal.returns
returns c =
    written-text c.args.source.now c.args.program.now c.args.slot c.args.tree.now c.slot_atoms-atoms.result.now _ _ _ c.slot_atoms-atoms.ensures c.new-out.ensures.items c.in_ok-write_whole.ensures c.from_vec.ensures
