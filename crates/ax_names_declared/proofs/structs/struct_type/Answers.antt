use Rattle.std.proofs.Common.{◌≡◌}
use Rattle.ax_names_declared.specs.Structs.{Defines, Misdefines}
use Rattle.ax_names_declared.specs.Members.{definition, defined}
use Rattle.ax_names_declared.proofs.Exactness.{exact_if, if_is}
use Rattle.ax_names_declared.proofs.Found.{defined_is}
use Rattle.ax_names_declared.proofs.Definitions.{definition_exact}
use Rattle.ax_names_declared.proofs.structs.struct_type.Goals as goal

pub returns : goal.returns
returns c =
    let structs = c.args.structs.now in
    let x = c.args.name.now in
    let list = c.args.list.now in
    let e : defined x c.name_at-at.result c.in_ok-found.found ≡ definition structs x list = rw (c.name_at-at.ensures, c.in_ok-found.ensures, c.as_slice.ensures, c.as_slice-2.ensures) (defined_is structs x list) in
    let v = if_is (defined x c.name_at-at.result c.in_ok-found.found) (definition structs x list) c.defined.result e c.defined.ensures in
    record { exact = exact_if (Defines structs x list) (Misdefines structs x list) (definition structs x list) c.defined.result (definition_exact structs x list) v; verdict = v }
