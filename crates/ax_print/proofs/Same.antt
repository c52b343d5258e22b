-- What an equality function answers is what the test of the definitions computes.
use Rattle.std.proofs.Common.{◌≡◌, Bool}
use Rattle.std.specs.Prelude.{IsTrue, ◌↔◌}
use Rattle.std.proofs.lemmas.Bool.Decides.{same_from_decides}
use Rattle.ax_prog.specs.declared.Atom.{Atom}
use Rattle.ax_prog.specs.Equality.{atom_eq}
use Rattle.ax_prog.proofs.Equality.{Decides-atom_eq}

pub atom_eq-is : (r : Bool) (a b : Atom) → IsTrue r ↔ (a ≡ b) → atom_eq a b ≡ r
atom_eq-is r a b h = same_from_decides (atom_eq a b) r (Decides-atom_eq a b) (h.0, h.1)
