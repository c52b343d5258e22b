-- The text of an operand, by the kind of its tree.
use Rattle.std.proofs.Common.{◌≡◌, refl, ℤ, ℕ, List, ◌++◌, Bool, true, false}
use Rattle.std.specs.Prelude.{codes}
use Rattle.std.specs.Fmt.{signed_decimal}
use Rattle.ax_prog.specs.declared.Un.{Un}
use Rattle.ax_prog.specs.declared.Bin.{Bin}
use Rattle.ax_prog.specs.declared.Atom.{Atom}
use Rattle.ax_prog.specs.declared.Expr.{Expr}
use Rattle.ax_prog.specs.declared.Expr.TheVariants as e
use Rattle.ax_prog.specs.declared.Atom.TheBlock.{shape-the_row-Atom-0, hidden-the_row-Atom-0, shape-the_row-Expr-1, hidden-the_row-Expr-1}
use Rattle.ax_print.specs.Text.{un_text, bin_text, in_parens, is_read, is_leaf, tree_text, as_operand, atom_operand, operand_text}
use denote.Hole.Carrier

pub is_leaf-Num : (n : ℤ) → is_leaf (e.Num n) ≡ true
is_leaf-Num n = refl

pub is_leaf-Atom : (a : Atom) → is_leaf (e.Atom a) ≡ is_read a
unfolding shape-the_row-Atom-0 hidden-the_row-Atom-0 shape-the_row-Expr-1 hidden-the_row-Expr-1 Carrier.hidden
is_leaf-Atom a = refl

pub is_leaf-Un : (op : Un) (a : Expr) → is_leaf (e.Un op a) ≡ false
is_leaf-Un op a = refl

pub is_leaf-Bin : (op : Bin) (a b : Expr) → is_leaf (e.Bin op a b) ≡ false
is_leaf-Bin op a b = refl

pub is_leaf-Cond : (f a b : Expr) → is_leaf (e.Cond f a b) ≡ false
is_leaf-Cond f a b = refl

pub operand_text-Num : (w : Atom → List ℕ) (n : ℤ) → operand_text w (e.Num n) ≡ signed_decimal n
operand_text-Num w n = refl

pub operand_text-Atom : (w : Atom → List ℕ) (a : Atom) → operand_text w (e.Atom a) ≡ atom_operand w a
unfolding shape-the_row-Atom-0 hidden-the_row-Atom-0 shape-the_row-Expr-1 hidden-the_row-Expr-1 Carrier.hidden
operand_text-Atom w a = refl

pub operand_text-Un : (w : Atom → List ℕ) (op : Un) (a : Expr) → operand_text w (e.Un op a) ≡ in_parens (un_text op ++ operand_text w a)
unfolding shape-the_row-Atom-0 hidden-the_row-Atom-0 shape-the_row-Expr-1 hidden-the_row-Expr-1 Carrier.hidden
operand_text-Un w op a = refl

pub operand_text-Bin : (w : Atom → List ℕ) (op : Bin) (a b : Expr) → operand_text w (e.Bin op a b) ≡ in_parens (operand_text w a ++ (codes " " ++ (bin_text op ++ (codes " " ++ operand_text w b))))
unfolding shape-the_row-Atom-0 hidden-the_row-Atom-0 shape-the_row-Expr-1 hidden-the_row-Expr-1 Carrier.hidden
operand_text-Bin w op a b = refl

pub operand_text-Cond : (w : Atom → List ℕ) (f a b : Expr) → operand_text w (e.Cond f a b) ≡ in_parens (operand_text w f ++ (codes " ? " ++ (operand_text w a ++ (codes " : " ++ operand_text w b))))
unfolding shape-the_row-Atom-0 hidden-the_row-Atom-0 shape-the_row-Expr-1 hidden-the_row-Expr-1 Carrier.hidden
operand_text-Cond w f a b = refl

pub ruleset layers = (is_leaf-Num, is_leaf-Atom, is_leaf-Un, is_leaf-Bin, is_leaf-Cond, operand_text-Num, operand_text-Atom, operand_text-Un, operand_text-Bin, operand_text-Cond)
