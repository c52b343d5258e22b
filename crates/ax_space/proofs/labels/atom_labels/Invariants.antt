use Rattle.std.proofs.Common.{◌≡◌, take, map}
use Rattle.ax_space_trees.specs.declared.Label.TheVariants as label
use Rattle.ax_space.proofs.labels.atom_labels.Given as goal

abbrev pub invariant-loop-atom : goal.invariant-loop-atom
invariant-loop-atom l = l.all ≡ map (λ a. label.Atom a) (take l.atom-index l.atoms)
