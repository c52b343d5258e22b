use Rattle.std.proofs.Common.{Ok, Err, sym, subst}
use Rattle.ax_names_declared.specs.Firsts.{Exact}
use Rattle.ax_names_rules.specs.Programs.{IsProgramOf}
use Rattle.ax_names_rules.specs.FileFaults.{BreaksSource}
use Rattle.ax_names_rules.proofs.Sources.{program_exact}
use Rattle.ax_names.proofs.resolve.Goals as goal

pub returns-in-Ok : goal.returns-in-Ok
returns-in-Ok c = let tree = c.args.tree.now in record { exact = subst (λ v. Exact (IsProgramOf tree) (BreaksSource tree) v) c.in-Ok.ensures (program_exact tree) }

pub returns-in-Err-Fault : goal.returns-in-Err-Fault
returns-in-Err-Fault c = let tree = c.args.tree.now in record { exact = subst (λ v. Exact (IsProgramOf tree) (BreaksSource tree) v) (rw c.in-Err-Fault.field-0-is at c.in-Err-Fault.ensures) (program_exact tree) }
