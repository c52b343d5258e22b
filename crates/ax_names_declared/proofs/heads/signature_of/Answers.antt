use Rattle.std.proofs.Common.{◌≡◌, sym, ◌∙◌, subst}
use Rattle.ax_names_declared.specs.Firsts.{Exact}
use Rattle.ax_names_declared.specs.Heads.{DeclaresFunction, MisdeclaresFunction}
use Rattle.ax_names_declared.specs.Signatures.{signature, concluded}
use Rattle.ax_names_declared.proofs.Functions.{signature_exact, concluded_is}
use Rattle.ax_names_declared.proofs.heads.signature_of.Goals as goal

pub returns : goal.returns
returns c =
    let structs = c.args.structs.now in
    let d = c.args.defined in
    let h = c.args.head.now in
    let e : concluded c.in_ok-returned.returned c.in_ok-found.found ≡ signature structs d h = rw (c.in_ok-returned.ensures, c.in_ok-found.ensures, c.as_slice.ensures) (concluded_is structs d h) in
    record { exact = subst (λ v. Exact (DeclaresFunction structs d h) (MisdeclaresFunction structs d h) v) (sym (c.concluded.ensures ∙ e)) (signature_exact structs d h); verdict = c.concluded.ensures ∙ e }
