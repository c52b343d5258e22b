use Rattle.ax_print_back.proofs.Deciding.{decides_writable, told}
use Rattle.ax_print_back.proofs.forms.is_writable.Goals as goal

pub returns : goal.returns
returns c = told c.writes.result _ _ c.writes.ensures (decides_writable c.args.tree.now)
