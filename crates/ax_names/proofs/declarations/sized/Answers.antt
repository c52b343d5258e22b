use Rattle.std.proofs.Common.{Ok, Err}
use Rattle.ax_names.proofs.Objects.{found_as}
use Rattle.ax_names.proofs.declarations.sized.Goals as goal

pub returns-in-Ok : goal.returns-in-Ok
returns-in-Ok c = record { found = found_as c.args.st.now.structs c.as_slice.result.now c.args.base.now c.args.it.now.stars c.args.sizes.now c.args.it.now.span c.in_ok-ty.field-0 (Ok c.in-Ok.ty) c.as_slice.ensures c.in_ok-ty.ensures.exact c.in-Ok.is }

pub returns-in-Err : goal.returns-in-Err
returns-in-Err c = record { found = found_as c.args.st.now.structs c.as_slice.result.now c.args.base.now c.args.it.now.stars c.args.sizes.now c.args.it.now.span c.in_ok-ty.field-0 (Err c.in-Err.fault) c.as_slice.ensures c.in_ok-ty.ensures.exact c.in-Err.is }
