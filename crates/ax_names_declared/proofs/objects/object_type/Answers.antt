use Rattle.ax_names_declared.specs.Breaks.{DeclaresObject, MisdeclaresObject}
use Rattle.ax_names_declared.specs.Verdicts.{object}
use Rattle.ax_names_declared.proofs.Exactness.{exact_if}
use Rattle.ax_names_declared.proofs.Variables.{object_exact}
use Rattle.ax_names_declared.proofs.objects.object_type.Goals as goal

pub returns : goal.returns
returns c =
    let d = object_exact c.args.structs.now c.args.base.now c.args.stars c.args.sizes.now c.args.at in
    record { exact = exact_if (λ u. DeclaresObject c.args.structs.now c.args.base.now c.args.stars c.args.sizes.now u) (λ f. MisdeclaresObject c.args.structs.now c.args.base.now c.args.stars c.args.sizes.now c.args.at f) (object c.args.structs.now c.args.cells.now c.args.base.now c.args.stars c.args.sizes.now c.args.at) c.judged.result (rw c.requires.measured d) c.judged.ensures; verdict = c.judged.ensures }
