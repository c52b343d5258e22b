-- Binary operators of a tree made by a constructor's plain word, and whether it is plain.
use Rattle.std.proofs.Common.{◌≡◌, ◌+◌, ℤ, true, false, refl}
use Rattle.std.specs.Prelude.{◌&&◌}
use Rattle.ax_prog.specs.declared.Un.{Un}
use Rattle.ax_prog.specs.declared.Bin.{Bin}
use Rattle.ax_prog.specs.declared.Atom.{Atom}
use Rattle.ax_prog.specs.declared.Expr.{Expr}
use Rattle.ax_prog.specs.declared.Expr.TheVariants as e
use Rattle.ax_prog.specs.declared.Atom.TheBlock.{shape-the_row-Atom-0, hidden-the_row-Atom-0, shape-the_row-Expr-1, hidden-the_row-Expr-1}
use Rattle.ax_top.specs.Built.{binaries, is_plain}
use denote.Hole.Carrier

pub binaries-Num : (n : ℤ) → binaries (e.Num n) ≡ 0
binaries-Num n = refl

pub binaries-Atom : (a : Atom) → binaries (e.Atom a) ≡ 0
unfolding shape-the_row-Atom-0 hidden-the_row-Atom-0 shape-the_row-Expr-1 hidden-the_row-Expr-1 Carrier.hidden
binaries-Atom a = refl

pub binaries-Un : (op : Un) (a : Expr) → binaries (e.Un op a) ≡ binaries a
unfolding shape-the_row-Atom-0 hidden-the_row-Atom-0 shape-the_row-Expr-1 hidden-the_row-Expr-1 Carrier.hidden
binaries-Un op a = refl

pub binaries-Bin : (op : Bin) (a b : Expr) → binaries (e.Bin op a b) ≡ binaries a + binaries b + 1
unfolding shape-the_row-Atom-0 hidden-the_row-Atom-0 shape-the_row-Expr-1 hidden-the_row-Expr-1 Carrier.hidden
binaries-Bin op a b = refl

pub binaries-Cond : (f a b : Expr) → binaries (e.Cond f a b) ≡ binaries f + binaries a + binaries b
unfolding shape-the_row-Atom-0 hidden-the_row-Atom-0 shape-the_row-Expr-1 hidden-the_row-Expr-1 Carrier.hidden
binaries-Cond f a b = refl

pub ruleset binary_layers = (binaries-Num, binaries-Atom, binaries-Un, binaries-Bin, binaries-Cond)

pub plain-Num : (n : ℤ) → is_plain (e.Num n) ≡ true
plain-Num n = refl

pub plain-Atom : (a : Atom) → is_plain (e.Atom a) ≡ true
unfolding shape-the_row-Atom-0 hidden-the_row-Atom-0 shape-the_row-Expr-1 hidden-the_row-Expr-1 Carrier.hidden
plain-Atom a = refl

pub plain-Un : (op : Un) (a : Expr) → is_plain (e.Un op a) ≡ false
unfolding shape-the_row-Atom-0 hidden-the_row-Atom-0 shape-the_row-Expr-1 hidden-the_row-Expr-1 Carrier.hidden
plain-Un op a = refl

pub plain-Bin : (op : Bin) (a b : Expr) → is_plain (e.Bin op a b) ≡ (is_plain a && is_plain b)
unfolding shape-the_row-Atom-0 hidden-the_row-Atom-0 shape-the_row-Expr-1 hidden-the_row-Expr-1 Carrier.hidden
plain-Bin op a b = refl

pub plain-Cond : (f a b : Expr) → is_plain (e.Cond f a b) ≡ false
unfolding shape-the_row-Atom-0 hidden-the_row-Atom-0 shape-the_row-Expr-1 hidden-the_row-Expr-1 Carrier.hidden
plain-Cond f a b = refl

pub ruleset plain_layers = (plain-Num, plain-Atom, plain-Un, plain-Bin, plain-Cond)
