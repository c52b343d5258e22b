use Rattle.std.proofs.Common.{◌≡◌, refl}
use Rattle.ax_prog.specs.declared.Un.{Un}
use Rattle.ax_prog.specs.declared.Bin.{Bin}
use Rattle.ax_prog.specs.declared.Atom.{Atom}
use Rattle.ax_prog.specs.declared.Expr.{Expr}
use Rattle.ax_prog.specs.declared.Expr.TheVariants as e
use Rattle.ax_prog.specs.declared.Atom.TheBlock.{shape-the_row-Atom-0, hidden-the_row-Atom-0, shape-the_row-Expr-1, hidden-the_row-Expr-1}
use Rattle.ax_space_trees.specs.declared.Label.TheVariants as label
use Rattle.ax_space_trees.specs.Positions.{top}
use denote.Hole.Carrier

pub top-Atom : (a : Atom) → top (e.Atom a) ≡ label.Atom a
unfolding shape-the_row-Atom-0 hidden-the_row-Atom-0 shape-the_row-Expr-1 hidden-the_row-Expr-1 Carrier.hidden
top-Atom a = refl

pub top-Un : (op : Un) (a : Expr) → top (e.Un op a) ≡ label.Un op
top-Un op a = refl

pub top-Bin : (op : Bin) (a b : Expr) → top (e.Bin op a b) ≡ label.Bin op
top-Bin op a b = refl

pub top-Cond : (f a b : Expr) → top (e.Cond f a b) ≡ label.Cond
top-Cond f a b = refl

pub ruleset tops = (top-Atom, top-Un, top-Bin, top-Cond)
