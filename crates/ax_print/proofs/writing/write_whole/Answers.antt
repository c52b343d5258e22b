use Rattle.std.proofs.Common.{sym, ◌∙◌}
use Rattle.ax_print.specs.Text.{atom_text}
use Rattle.ax_print.proofs.Written.{written-leaf, written-whole}
use Rattle.ax_print.proofs.writing.write_whole.Goals as goal

pub returns-in_ok-append-2 : goal.returns-in_ok-append-2
returns-in_ok-append-2 c =
    written-leaf (atom_text c.args.site.now.source.now c.args.site.now.program.now c.args.site.now.atoms.now) c.args.tree.now _ _ _ _ (sym c.is_leaf_tree.ensures ∙ c.if-is_leaf_tree.true) c.in_ok-append.ensures c.in_ok-write_operand.ensures c.in_ok-append-2.ensures

pub returns-in_ok-write_operand-2 : goal.returns-in_ok-write_operand-2
returns-in_ok-write_operand-2 c =
    written-whole (atom_text c.args.site.now.source.now c.args.site.now.program.now c.args.site.now.atoms.now) c.args.tree.now _ _ (sym c.is_leaf_tree.ensures ∙ c.if-is_leaf_tree.false) c.in_ok-write_operand-2.ensures
