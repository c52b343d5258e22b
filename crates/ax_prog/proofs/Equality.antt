-- The tests of `specs/Equality.antt` are true exactly of equal trees.
use Rattle.std.proofs.Common.{◌≡◌, refl, sym, ap, ◌∙◌, ℕ, List, [], ◌∷◌, Option, Some, slice_get, ◌==◌, ℤ, pos, Bool, true, false, arith}
use Rattle.std.specs.Bool.{Decides}
use Rattle.std.specs.Ordering.{int_eq}
use Rattle.std.proofs.lemmas.Bool.Decides.{Decides-eqb, Decides-int_eq, Decides-and, Decides-like}
use Rattle.ax_prog.specs.declared.Un.{Un}
use Rattle.ax_prog.specs.declared.Un.TheVariants as un
use Rattle.ax_prog.specs.declared.Bin.{Bin}
use Rattle.ax_prog.specs.declared.Bin.TheVariants as bin
use Rattle.ax_prog.specs.declared.Expr.{Expr, Num, Atom', Un', Bin', Cond'}
use Rattle.ax_prog.specs.declared.Expr.TheVariants as e
use Rattle.ax_prog.specs.declared.Atom.{Atom}
use Rattle.ax_prog.specs.declared.Atom.TheVariants as atom
use Rattle.ax_prog.specs.declared.Lval.{Lval, Var, Deref', Field'}
use Rattle.ax_prog.specs.declared.Lval.TheVariants as lval
use Rattle.ax_prog.specs.declared.Pexpr.{Pexpr}
use Rattle.ax_prog.specs.declared.Pexpr.TheVariants as p
use Rattle.ax_prog.specs.declared.VarId.{VarId}
use Rattle.ax_prog.specs.declared.Atom.TheBlock.{more_of-Expr, end_of-Expr, more_of-Atom, end_of-Atom, more_of-Lval, end_of-Lval, more_of-Pexpr, end_of-Pexpr, shape-the_row-Atom-0, hidden-the_row-Atom-0, shape-the_row-Expr-1, hidden-the_row-Expr-1, shape-the_row-Pexpr-2, hidden-the_row-Pexpr-2, shape-the_row-Lval-3, hidden-the_row-Lval-3}
use Rattle.ax_prog.specs.Equality.{un_number, bin_number, un_eq, bin_eq, expr_eq, atom_eq, lval_eq, pexpr_eq}
use denote.Hole.Carrier

-- the operators in the order of their numbers
uns : List Un
uns = un.Neg ∷ un.Not ∷ un.BitNot ∷ []

bins : List Bin
bins = bin.Eq ∷ bin.Ne ∷ bin.Lt ∷ bin.Le ∷ bin.Gt ∷ bin.Ge ∷ bin.And ∷ bin.Or ∷ bin.Add ∷ bin.Sub ∷ bin.Mul ∷ bin.Div ∷ bin.Rem ∷ bin.BitAnd ∷ bin.BitOr ∷ bin.BitXor ∷ bin.Shl ∷ bin.Shr ∷ []

uns-at : (op : Un) → slice_get uns (un_number op) ≡ Some op
unfolding uns
uns-at un.Neg = refl
uns-at un.Not = refl
uns-at un.BitNot = refl

bins-at : (op : Bin) → slice_get bins (bin_number op) ≡ Some op
unfolding bins
bins-at bin.Eq = refl
bins-at bin.Ne = refl
bins-at bin.Lt = refl
bins-at bin.Le = refl
bins-at bin.Gt = refl
bins-at bin.Ge = refl
bins-at bin.And = refl
bins-at bin.Or = refl
bins-at bin.Add = refl
bins-at bin.Sub = refl
bins-at bin.Mul = refl
bins-at bin.Div = refl
bins-at bin.Rem = refl
bins-at bin.BitAnd = refl
bins-at bin.BitOr = refl
bins-at bin.BitXor = refl
bins-at bin.Shl = refl
bins-at bin.Shr = refl

Decides-un_eq : (a b : Un) → Decides (un_eq a b) (a ≡ b)
Decides-un_eq a b =
    Decides-like (un_eq a b) (λ h. let e = sym (uns-at a) ∙ ap (slice_get uns) h ∙ uns-at b in cc) (ap un_number) (Decides-eqb (un_number a) (un_number b))

Decides-bin_eq : (a b : Bin) → Decides (bin_eq a b) (a ≡ b)
Decides-bin_eq a b =
    Decides-like (bin_eq a b) (λ h. let e = sym (bins-at a) ∙ ap (slice_get bins) h ∙ bins-at b in cc) (ap bin_number) (Decides-eqb (bin_number a) (bin_number b))

-- a tree's kind, and what a tree of a kind is made of, or else what is given
abbrev expr_kind : Expr → ℕ
expr_kind (e.Num x0) = 0
expr_kind (e.Atom' s0 r0) = 1
expr_kind (e.Un' x0 s1 r1) = 2
expr_kind (e.Bin' x0 s1 r1 s2 r2) = 3
expr_kind (e.Cond' s0 r0 s1 r1 s2 r2) = 4

abbrev expr_num_parts : ℤ → Expr → ℤ
expr_num_parts d (e.Num a) = a
expr_num_parts d t = d

abbrev expr_atom_parts : Atom → Expr → Atom
expr_atom_parts d (e.Atom' s0 (more_of-Atom a end_of-Atom)) = a
expr_atom_parts d t = d

abbrev expr_un_parts : (Un × Expr) → Expr → Un × Expr
expr_un_parts d (e.Un' a s0 (more_of-Expr b end_of-Expr)) = (a, b)
expr_un_parts d t = d

abbrev expr_bin_parts : (Bin × Expr × Expr) → Expr → Bin × Expr × Expr
expr_bin_parts d (e.Bin' a s0 (more_of-Expr b end_of-Expr) s1 (more_of-Expr c end_of-Expr)) = (a, b, c)
expr_bin_parts d t = d

abbrev expr_cond_parts : (Expr × Expr × Expr) → Expr → Expr × Expr × Expr
expr_cond_parts d (e.Cond' s0 (more_of-Expr a end_of-Expr) s1 (more_of-Expr b end_of-Expr) s2 (more_of-Expr c end_of-Expr)) = (a, b, c)
expr_cond_parts d t = d

abbrev atom_kind : Atom → ℕ
atom_kind (atom.Read x0) = 0
atom_kind (atom.Same x0 x1) = 1
atom_kind (atom.Differ x0 x1) = 2

abbrev atom_read_parts : Lval → Atom → Lval
atom_read_parts d (atom.Read a) = a
atom_read_parts d t = d

abbrev atom_same_parts : (Pexpr × Pexpr) → Atom → Pexpr × Pexpr
atom_same_parts d (atom.Same a b) = (a, b)
atom_same_parts d t = d

abbrev atom_differ_parts : (Pexpr × Pexpr) → Atom → Pexpr × Pexpr
atom_differ_parts d (atom.Differ a b) = (a, b)
atom_differ_parts d t = d

abbrev lval_kind : Lval → ℕ
lval_kind (lval.Var x0) = 0
lval_kind (lval.Deref' s0 r0) = 1
lval_kind (lval.Field' s0 r0 x1) = 2

abbrev lval_var_parts : VarId → Lval → VarId
lval_var_parts d (lval.Var a) = a
lval_var_parts d t = d

abbrev lval_deref_parts : Pexpr → Lval → Pexpr
lval_deref_parts d (lval.Deref' s0 (more_of-Pexpr a end_of-Pexpr)) = a
lval_deref_parts d t = d

abbrev lval_field_parts : (Lval × ℕ) → Lval → Lval × ℕ
lval_field_parts d (lval.Field' s0 (more_of-Lval a end_of-Lval) b) = (a, b)
lval_field_parts d t = d

abbrev pexpr_kind : Pexpr → ℕ
pexpr_kind p.Null = 0
pexpr_kind (p.Read' s0 r0) = 1
pexpr_kind (p.Decay' s0 r0) = 2
pexpr_kind (p.Address' s0 r0) = 3
pexpr_kind (p.Plus' s0 r0 s1 r1) = 4
pexpr_kind (p.Minus' s0 r0 s1 r1) = 5

abbrev pexpr_read_parts : Lval → Pexpr → Lval
pexpr_read_parts d (p.Read' s0 (more_of-Lval a end_of-Lval)) = a
pexpr_read_parts d t = d

abbrev pexpr_decay_parts : Lval → Pexpr → Lval
pexpr_decay_parts d (p.Decay' s0 (more_of-Lval a end_of-Lval)) = a
pexpr_decay_parts d t = d

abbrev pexpr_address_parts : Lval → Pexpr → Lval
pexpr_address_parts d (p.Address' s0 (more_of-Lval a end_of-Lval)) = a
pexpr_address_parts d t = d

abbrev pexpr_plus_parts : (Pexpr × Expr) → Pexpr → Pexpr × Expr
pexpr_plus_parts d (p.Plus' s0 (more_of-Pexpr a end_of-Pexpr) s1 (more_of-Expr b end_of-Expr)) = (a, b)
pexpr_plus_parts d t = d

abbrev pexpr_minus_parts : (Pexpr × Expr) → Pexpr → Pexpr × Expr
pexpr_minus_parts d (p.Minus' s0 (more_of-Pexpr a end_of-Pexpr) s1 (more_of-Expr b end_of-Expr)) = (a, b)
pexpr_minus_parts d t = d

Decides-var_eq : (v w : VarId) → Decides (v.0 == w.0) (v ≡ w)
Decides-var_eq v w = Decides-like (v.0 == w.0) (λ h i. record { 0 = h i }) (ap (λ x. x.0)) (Decides-eqb v.0 w.0)

-- trees of two kinds are not equal, and their test is false
apart : {A : Type 0} (kind : A → ℕ) (a b : A) → (kind a ≡ kind b → ⊥) → Decides false (a ≡ b)
apart kind a b h = ((λ e. absurd (cc)), (λ e. absurd (h (ap kind e))))

mutual
  unfolding shape-the_row-Atom-0 hidden-the_row-Atom-0 shape-the_row-Expr-1 hidden-the_row-Expr-1 shape-the_row-Pexpr-2 hidden-the_row-Pexpr-2 shape-the_row-Lval-3 hidden-the_row-Lval-3 Carrier.hidden expr_eq atom_eq lval_eq pexpr_eq

  pub Decides-expr_eq : (x y : Expr) → Decides (expr_eq x y) (x ≡ y)
  Decides-expr_eq (e.Num a) (e.Num a') = Decides-like _ (ap e.Num) (ap (expr_num_parts a)) (Decides-int_eq a a')
  Decides-expr_eq (e.Atom' s0 (more_of-Atom a end_of-Atom)) (e.Atom' t0 (more_of-Atom a' end_of-Atom)) = Decides-like _ (ap e.Atom) (ap (expr_atom_parts a)) (Decides-atom_eq a a')
  Decides-expr_eq (e.Un' a s0 (more_of-Expr b end_of-Expr)) (e.Un' a' t0 (more_of-Expr b' end_of-Expr)) = Decides-like _ (λ h i. e.Un (h.0 i) (h.1 i)) (λ h. ((ap (λ t. (expr_un_parts (a, b) t).0) h), (ap (λ t. (expr_un_parts (a, b) t).1) h))) (Decides-and _ _ (Decides-un_eq a a') (Decides-expr_eq b b'))
  Decides-expr_eq (e.Bin' a s0 (more_of-Expr b end_of-Expr) s1 (more_of-Expr c end_of-Expr)) (e.Bin' a' t0 (more_of-Expr b' end_of-Expr) t1 (more_of-Expr c' end_of-Expr)) = Decides-like _ (λ h i. e.Bin (h.0 i) (h.1.0 i) (h.1.1 i)) (λ h. ((ap (λ t. (expr_bin_parts (a, b, c) t).0) h), ((ap (λ t. (expr_bin_parts (a, b, c) t).1) h), (ap (λ t. (expr_bin_parts (a, b, c) t).2) h)))) (Decides-and _ _ (Decides-bin_eq a a') (Decides-and _ _ (Decides-expr_eq b b') (Decides-expr_eq c c')))
  Decides-expr_eq (e.Cond' s0 (more_of-Expr a end_of-Expr) s1 (more_of-Expr b end_of-Expr) s2 (more_of-Expr c end_of-Expr)) (e.Cond' t0 (more_of-Expr a' end_of-Expr) t1 (more_of-Expr b' end_of-Expr) t2 (more_of-Expr c' end_of-Expr)) = Decides-like _ (λ h i. e.Cond (h.0 i) (h.1.0 i) (h.1.1 i)) (λ h. ((ap (λ t. (expr_cond_parts (a, b, c) t).0) h), ((ap (λ t. (expr_cond_parts (a, b, c) t).1) h), (ap (λ t. (expr_cond_parts (a, b, c) t).2) h)))) (Decides-and _ _ (Decides-expr_eq a a') (Decides-and _ _ (Decides-expr_eq b b') (Decides-expr_eq c c')))
  Decides-expr_eq x y = apart expr_kind x y (λ h. omega arith)

  pub Decides-atom_eq : (x y : Atom) → Decides (atom_eq x y) (x ≡ y)
  Decides-atom_eq (atom.Read a) (atom.Read a') = Decides-like _ (ap atom.Read) (ap (atom_read_parts a)) (Decides-lval_eq a a')
  Decides-atom_eq (atom.Same a b) (atom.Same a' b') = Decides-like _ (λ h i. atom.Same (h.0 i) (h.1 i)) (λ h. ((ap (λ t. (atom_same_parts (a, b) t).0) h), (ap (λ t. (atom_same_parts (a, b) t).1) h))) (Decides-and _ _ (Decides-pexpr_eq a a') (Decides-pexpr_eq b b'))
  Decides-atom_eq (atom.Differ a b) (atom.Differ a' b') = Decides-like _ (λ h i. atom.Differ (h.0 i) (h.1 i)) (λ h. ((ap (λ t. (atom_differ_parts (a, b) t).0) h), (ap (λ t. (atom_differ_parts (a, b) t).1) h))) (Decides-and _ _ (Decides-pexpr_eq a a') (Decides-pexpr_eq b b'))
  Decides-atom_eq x y = apart atom_kind x y (λ h. omega arith)

  pub Decides-lval_eq : (x y : Lval) → Decides (lval_eq x y) (x ≡ y)
  Decides-lval_eq (lval.Var a) (lval.Var a') = Decides-like _ (ap lval.Var) (ap (lval_var_parts a)) (Decides-var_eq a a')
  Decides-lval_eq (lval.Deref' s0 (more_of-Pexpr a end_of-Pexpr)) (lval.Deref' t0 (more_of-Pexpr a' end_of-Pexpr)) = Decides-like _ (ap lval.Deref) (ap (lval_deref_parts a)) (Decides-pexpr_eq a a')
  Decides-lval_eq (lval.Field' s0 (more_of-Lval a end_of-Lval) b) (lval.Field' t0 (more_of-Lval a' end_of-Lval) b') = Decides-like _ (λ h i. lval.Field (h.1 i) (h.0 i)) (λ h. ((ap (λ t. (lval_field_parts (a, b) t).1) h), (ap (λ t. (lval_field_parts (a, b) t).0) h))) (Decides-and _ _ (Decides-eqb b b') (Decides-lval_eq a a'))
  Decides-lval_eq x y = apart lval_kind x y (λ h. omega arith)

  pub Decides-pexpr_eq : (x y : Pexpr) → Decides (pexpr_eq x y) (x ≡ y)
  Decides-pexpr_eq p.Null p.Null = ((λ h. refl), (λ h. refl))
  Decides-pexpr_eq (p.Read' s0 (more_of-Lval a end_of-Lval)) (p.Read' t0 (more_of-Lval a' end_of-Lval)) = Decides-like _ (ap p.Read) (ap (pexpr_read_parts a)) (Decides-lval_eq a a')
  Decides-pexpr_eq (p.Decay' s0 (more_of-Lval a end_of-Lval)) (p.Decay' t0 (more_of-Lval a' end_of-Lval)) = Decides-like _ (ap p.Decay) (ap (pexpr_decay_parts a)) (Decides-lval_eq a a')
  Decides-pexpr_eq (p.Address' s0 (more_of-Lval a end_of-Lval)) (p.Address' t0 (more_of-Lval a' end_of-Lval)) = Decides-like _ (ap p.Address) (ap (pexpr_address_parts a)) (Decides-lval_eq a a')
  Decides-pexpr_eq (p.Plus' s0 (more_of-Pexpr a end_of-Pexpr) s1 (more_of-Expr b end_of-Expr)) (p.Plus' t0 (more_of-Pexpr a' end_of-Pexpr) t1 (more_of-Expr b' end_of-Expr)) = Decides-like _ (λ h i. p.Plus (h.0 i) (h.1 i)) (λ h. ((ap (λ t. (pexpr_plus_parts (a, b) t).0) h), (ap (λ t. (pexpr_plus_parts (a, b) t).1) h))) (Decides-and _ _ (Decides-pexpr_eq a a') (Decides-expr_eq b b'))
  Decides-pexpr_eq (p.Minus' s0 (more_of-Pexpr a end_of-Pexpr) s1 (more_of-Expr b end_of-Expr)) (p.Minus' t0 (more_of-Pexpr a' end_of-Pexpr) t1 (more_of-Expr b' end_of-Expr)) = Decides-like _ (λ h i. p.Minus (h.0 i) (h.1 i)) (λ h. ((ap (λ t. (pexpr_minus_parts (a, b) t).0) h), (ap (λ t. (pexpr_minus_parts (a, b) t).1) h))) (Decides-and _ _ (Decides-pexpr_eq a a') (Decides-expr_eq b b'))
  Decides-pexpr_eq x y = apart pexpr_kind x y (λ h. omega arith)
