use Rattle.std.proofs.Common.{sym, subst}
use Rattle.std.specs.Bool.{Decides}
use Rattle.ax_names_declared.specs.Agreement.{Agrees}
use Rattle.ax_names_declared.proofs.Agreeing.{Decides-agrees}
use Rattle.ax_names_declared.proofs.agreement.agrees.Goals as goal

pub returns : goal.returns
returns c = subst (λ b. Decides b (Agrees c.args.heads.now c.args.name.now c.args.signature.now c.args.defined)) (sym c.all_agree.ensures) (Decides-agrees c.args.name.now c.args.signature.now c.args.defined c.args.heads.now)
