-- Whether two trees are equal, as a test that computes.
use Rattle.std.specs.Prelude.{ℕ, ◌==◌, ◌&&◌, Bool, true, false}
use Rattle.std.specs.Ordering.{int_eq}
use Rattle.ax_prog.specs.declared.Un.{Un}
use Rattle.ax_prog.specs.declared.Un.TheVariants as un
use Rattle.ax_prog.specs.declared.Bin.{Bin}
use Rattle.ax_prog.specs.declared.Bin.TheVariants as bin
use Rattle.ax_prog.specs.declared.Expr.{Expr, Num, Atom', Un', Bin', Cond'}
use Rattle.ax_prog.specs.declared.Atom.{Atom}
use Rattle.ax_prog.specs.declared.Atom.TheVariants as atom
use Rattle.ax_prog.specs.declared.Lval.{Lval, Var, Deref', Field'}
use Rattle.ax_prog.specs.declared.Pexpr.{Pexpr}
use Rattle.ax_prog.specs.declared.Pexpr.TheVariants as p
use Rattle.ax_prog.specs.declared.Atom.TheBlock.{more_of-Expr, end_of-Expr, more_of-Atom, end_of-Atom, more_of-Lval, end_of-Lval, more_of-Pexpr, end_of-Pexpr}

-- operators by their place in their list
abbrev pub un_number : Un → ℕ
un_number un.Neg = 0
un_number un.Not = 1
un_number un.BitNot = 2

abbrev pub bin_number : Bin → ℕ
bin_number bin.Eq = 0
bin_number bin.Ne = 1
bin_number bin.Lt = 2
bin_number bin.Le = 3
bin_number bin.Gt = 4
bin_number bin.Ge = 5
bin_number bin.And = 6
bin_number bin.Or = 7
bin_number bin.Add = 8
bin_number bin.Sub = 9
bin_number bin.Mul = 10
bin_number bin.Div = 11
bin_number bin.Rem = 12
bin_number bin.BitAnd = 13
bin_number bin.BitOr = 14
bin_number bin.BitXor = 15
bin_number bin.Shl = 16
bin_number bin.Shr = 17

abbrev pub un_eq : Un → Un → Bool
un_eq a b = un_number a == un_number b

abbrev pub bin_eq : Bin → Bin → Bool
bin_eq a b = bin_number a == bin_number b

unfoldable mutual
  pub expr_eq : Expr → Expr → Bool
  expr_eq (Num m) (Num n) = int_eq m n
  expr_eq (Atom' s (more_of-Atom a end_of-Atom)) (Atom' t (more_of-Atom b end_of-Atom)) = atom_eq a b
  expr_eq (Un' op s (more_of-Expr a end_of-Expr)) (Un' with t (more_of-Expr b end_of-Expr)) = un_eq op with && expr_eq a b
  expr_eq (Bin' op s (more_of-Expr a end_of-Expr) t (more_of-Expr b end_of-Expr)) (Bin' with u (more_of-Expr c end_of-Expr) v (more_of-Expr d end_of-Expr)) =
      bin_eq op with && (expr_eq a c && expr_eq b d)
  expr_eq (Cond' s (more_of-Expr f end_of-Expr) t (more_of-Expr a end_of-Expr) u (more_of-Expr b end_of-Expr)) (Cond' v (more_of-Expr g end_of-Expr) w (more_of-Expr c end_of-Expr) x (more_of-Expr d end_of-Expr)) =
      expr_eq f g && (expr_eq a c && expr_eq b d)
  expr_eq a b = false

  pub atom_eq : Atom → Atom → Bool
  atom_eq (atom.Read a) (atom.Read b) = lval_eq a b
  atom_eq (atom.Same a b) (atom.Same c d) = pexpr_eq a c && pexpr_eq b d
  atom_eq (atom.Differ a b) (atom.Differ c d) = pexpr_eq a c && pexpr_eq b d
  atom_eq a b = false

  pub lval_eq : Lval → Lval → Bool
  lval_eq (Var v) (Var w) = v.0 == w.0
  lval_eq (Deref' s (more_of-Pexpr a end_of-Pexpr)) (Deref' t (more_of-Pexpr b end_of-Pexpr)) = pexpr_eq a b
  lval_eq (Field' s (more_of-Lval a end_of-Lval) m) (Field' t (more_of-Lval b end_of-Lval) n) = m == n && lval_eq a b
  lval_eq a b = false

  pub pexpr_eq : Pexpr → Pexpr → Bool
  pexpr_eq p.Null p.Null = true
  pexpr_eq (p.Read' s (more_of-Lval a end_of-Lval)) (p.Read' t (more_of-Lval b end_of-Lval)) = lval_eq a b
  pexpr_eq (p.Decay' s (more_of-Lval a end_of-Lval)) (p.Decay' t (more_of-Lval b end_of-Lval)) = lval_eq a b
  pexpr_eq (p.Address' s (more_of-Lval a end_of-Lval)) (p.Address' t (more_of-Lval b end_of-Lval)) = lval_eq a b
  pexpr_eq (p.Plus' s (more_of-Pexpr a end_of-Pexpr) t (more_of-Expr i end_of-Expr)) (p.Plus' u (more_of-Pexpr b end_of-Pexpr) v (more_of-Expr j end_of-Expr)) =
      pexpr_eq a b && expr_eq i j
  pexpr_eq (p.Minus' s (more_of-Pexpr a end_of-Pexpr) t (more_of-Expr i end_of-Expr)) (p.Minus' u (more_of-Pexpr b end_of-Pexpr) v (more_of-Expr j end_of-Expr)) =
      pexpr_eq a b && expr_eq i j
  pexpr_eq a b = false
