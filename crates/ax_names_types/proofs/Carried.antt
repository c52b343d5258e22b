-- The atoms that come with a number are those of its expression.
use Rattle.std.proofs.Common.{◌≡◌, ℕ, ℤ, Bool, List, [], ◌∷◌, ◌++◌, refl, sym, ap, ◌∙◌}
use Rattle.std.proofs.lemmas.List.{map-append}
use Rattle.ax_prog.specs.declared.Span.{Span}
use Rattle.ax_prog.specs.declared.Un.{Un}
use Rattle.ax_prog.specs.declared.Bin.{Bin}
use Rattle.ax_prog.specs.declared.Bin.TheVariants as bin
use Rattle.ax_prog.specs.declared.Ty.{Ty, Ptr', Array', more_of-Ty, end_of-Ty}
use Rattle.ax_prog.specs.declared.Ty.TheVariants as ty
use Rattle.ax_prog.specs.declared.Expr as ex
use Rattle.ax_prog.specs.declared.Expr.TheVariants as e
use Rattle.ax_prog.specs.declared.Atom.{Atom}
use Rattle.ax_prog.specs.declared.Atom.TheVariants as atom
use Rattle.ax_prog.specs.declared.Atom.TheBlock.{shape-the_row-Atom-0, hidden-the_row-Atom-0, shape-the_row-Expr-1, hidden-the_row-Expr-1}
use Rattle.ax_prog.specs.declared.Lval.{Lval}
use Rattle.ax_prog.specs.declared.Pexpr.{Pexpr}
use Rattle.ax_parse_grammar.specs.declared.tree.Expr.{Expr}
use Rattle.ax_parse_grammar.specs.Trees.{span_of}
use Rattle.ax_names_types.specs.declared.Typed.{Typed}
use Rattle.ax_names_types.specs.declared.Typed.TheVariants as t
use Rattle.ax_names_types.specs.Scopes.{Env}
use Rattle.ax_names_types.specs.Types.{value_of, value_of_place, compared, un_of}
use Rattle.ax_names_types.specs.Meaning.{Means}
use Rattle.ax_names_types.specs.Atoms.{atoms_of, atoms_in, CarriesItsAtoms}
use denote.Hole.Carrier

-- ---- the atoms of each kind of node

atom_alone : (a : Atom) (at : Span) → atoms_in ((a, at) ∷ []) ≡ atoms_of (e.Atom a)
unfolding shape-the_row-Atom-0 hidden-the_row-Atom-0 shape-the_row-Expr-1 hidden-the_row-Expr-1 Carrier.hidden
atom_alone a at = refl

atoms_of-Un : (op : Un) (x : ex.Expr) → atoms_of (e.Un op x) ≡ atoms_of x
unfolding shape-the_row-Atom-0 hidden-the_row-Atom-0 shape-the_row-Expr-1 hidden-the_row-Expr-1 Carrier.hidden
atoms_of-Un op x = refl

atoms_of-Bin : (op : Bin) (x y : ex.Expr) → atoms_of (e.Bin op x y) ≡ atoms_of x ++ atoms_of y
unfolding shape-the_row-Atom-0 hidden-the_row-Atom-0 shape-the_row-Expr-1 hidden-the_row-Expr-1 Carrier.hidden
atoms_of-Bin op x y = refl

atoms_of-Cond : (x y z : ex.Expr) → atoms_of (e.Cond x y z) ≡ (atoms_of x ++ atoms_of y) ++ atoms_of z
unfolding shape-the_row-Atom-0 hidden-the_row-Atom-0 shape-the_row-Expr-1 hidden-the_row-Expr-1 Carrier.hidden
atoms_of-Cond x y z = refl

both_carry : (xs ys : List (Atom × Span)) (cs ds : List Atom) → atoms_in xs ≡ cs → atoms_in ys ≡ ds → atoms_in (xs ++ ys) ≡ cs ++ ds
both_carry xs ys cs ds h k = map-append (λ x. x.0) xs ys ∙ ap (λ l. l ++ atoms_in ys) h ∙ ap (λ l. cs ++ l) k

-- ---- a number, a place

abbrev expr_or : ex.Expr → Typed → ex.Expr
expr_or d (t.Int x xs) = x
expr_or d (t.Ptr u q) = d
expr_or d (t.Place u l) = d

abbrev spots_or : List (Atom × Span) → Typed → List (Atom × Span)
spots_or d (t.Int x xs) = xs
spots_or d (t.Ptr u q) = d
spots_or d (t.Place u l) = d

int_carries : (y : ex.Expr) (ys : List (Atom × Span)) → atoms_in ys ≡ atoms_of y → CarriesItsAtoms (t.Int y ys)
int_carries y ys k x xs h = sym (ap (λ m. atoms_in (spots_or ys m)) h) ∙ k ∙ ap (λ m. atoms_of (expr_or y m)) h

pointer_carries : (u : Ty) (q : Pexpr) → CarriesItsAtoms (t.Ptr u q)
pointer_carries u q x xs h = cc

place_is_no_number : (u : Ty) (l : Lval) → CarriesItsAtoms (t.Place u l)
place_is_no_number u l x xs h = cc

place_carries : (at : Span) (u : Ty) (l : Lval) → CarriesItsAtoms (value_of_place at u l)
place_carries at ty.Int l = int_carries (e.Atom (atom.Read l)) ((atom.Read l, at) ∷ []) (atom_alone (atom.Read l) at)
place_carries at (Ptr' s (more_of-Ty a end_of-Ty)) l = λ x xs h. cc
place_carries at (Array' s (more_of-Ty a end_of-Ty) n) l = λ x xs h. cc
place_carries at (ty.Struct k) l = place_is_no_number (ty.Struct k) l

value_carries : (at : Span) (m : Typed) → CarriesItsAtoms m → CarriesItsAtoms (value_of at m)
value_carries at (t.Int x xs) c = c
value_carries at (t.Ptr u q) c = c
value_carries at (t.Place u l) c = place_carries at u l

compared_carries : (op : Bin) (at : Span) (q r : Pexpr) → CarriesItsAtoms (compared op at q r)
compared_carries bin.Ne at q r = int_carries (e.Atom (atom.Differ q r)) ((atom.Differ q r, at) ∷ []) (atom_alone (atom.Differ q r) at)
compared_carries _ at q r = int_carries (e.Atom (atom.Same q r)) ((atom.Same q r, at) ∷ []) (atom_alone (atom.Same q r) at)

-- ---- what an expression means

carried : (env : Env) (x : Expr) (m : Typed) → Means env x m → CarriesItsAtoms m
carried env x m (Means.name d id u h c) = place_is_no_number _ _
carried env x m (Means.number {n = n}) = int_carries (e.Num n) [] refl
carried env x m (Means.unary {op = op} {a = a} {m = n} y ys g d h) = int_carries (e.Un (un_of op) y) ys (value_carries (span_of a) n (carried env a n d) y ys h ∙ sym (atoms_of-Un (un_of op) y))
carried env x m (Means.deref u q d h) = place_is_no_number _ _
carried env x m (Means.address u l d) = pointer_carries _ _
carried env x m (Means.binary {op = op} {a = a} {b = b} {m = va} {n = vb} y z ys zs da db ha hb) =
    int_carries (e.Bin op y z) (ys ++ zs) (both_carry ys zs (atoms_of y) (atoms_of z) (value_carries (span_of a) va (carried env a va da) y ys ha) (value_carries (span_of b) vb (carried env b vb db) z zs hb) ∙ sym (atoms_of-Bin op y z))
carried env x m (Means.plus u q y ys da db ha hb) = pointer_carries _ _
carried env x m (Means.minus u q y ys da db ha hb) = pointer_carries _ _
carried env x m (Means.pointers {at = at} {op = op} u q r c da db ha hb) = compared_carries op at q r
carried env x m (Means.left_null {at = at} {op = op} a u r c z db hb) = compared_carries op at _ r
carried env x m (Means.right_null {at = at} {op = op} b u q c z da ha) = compared_carries op at q _
carried env x m (Means.cond {c = c} {a = a} {b = b} {l = vc} {m = va} {n = vb} y z w ys zs ws dc da db hc ha hb) =
    int_carries (e.Cond y z w) ((ys ++ zs) ++ ws)
    (both_carry (ys ++ zs) ws (atoms_of y ++ atoms_of z) (atoms_of w)
    (both_carry ys zs (atoms_of y) (atoms_of z) (value_carries (span_of c) vc (carried env c vc dc) y ys hc) (value_carries (span_of a) va (carried env a va da) z zs ha))
    (value_carries (span_of b) vb (carried env b vb db) w ws hb) ∙ sym (atoms_of-Cond y z w))
carried env x m (Means.index u q i is da db ha hb) = place_is_no_number _ _
carried env x m (Means.member k l i u d h f) = place_is_no_number _ _
carried env x m (Means.arrow k q i u d h f) = place_is_no_number _ _

pub value_carried : (env : Env) (x : Expr) (m : Typed) (at : Span) → Means env x m → CarriesItsAtoms (value_of at m)
value_carried env x m at d = value_carries at m (carried env x m d)
