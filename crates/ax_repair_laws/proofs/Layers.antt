-- What the definition of writable trees says at each kind of tree.
use Rattle.std.proofs.Common.{◌≡◌, refl, ℤ}
use Rattle.ax_prog.specs.declared.Un.{Un}
use Rattle.ax_prog.specs.declared.Bin.{Bin}
use Rattle.ax_prog.specs.declared.Expr.{Expr}
use Rattle.ax_prog.specs.declared.Expr.TheVariants as e
use Rattle.ax_prog.specs.declared.Atom.TheBlock.{shape-the_row-Expr-1, hidden-the_row-Expr-1}
use Rattle.ax_front_facts.specs.Writable.{IsWritable}
use denote.Hole.Carrier

pub IsWritable-Un : (op : Un) (a : Expr) → IsWritable (e.Un op a) ≡ IsWritable a
unfolding shape-the_row-Expr-1 hidden-the_row-Expr-1 Carrier.hidden
IsWritable-Un op a = refl

pub IsWritable-Bin : (op : Bin) (a b : Expr) → IsWritable (e.Bin op a b) ≡ (IsWritable a × IsWritable b)
unfolding shape-the_row-Expr-1 hidden-the_row-Expr-1 Carrier.hidden
IsWritable-Bin op a b = refl

pub IsWritable-Cond : (f a b : Expr) → IsWritable (e.Cond f a b) ≡ (IsWritable f × IsWritable a × IsWritable b)
unfolding shape-the_row-Expr-1 hidden-the_row-Expr-1 Carrier.hidden
IsWritable-Cond f a b = refl
