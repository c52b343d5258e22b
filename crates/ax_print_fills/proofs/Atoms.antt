-- Each atom of a number is a part of its expression.
use Rattle.std.proofs.Common.{◌≡◌, true, List, [], ◌∷◌, ◌++◌, refl, ap, subst}
use Rattle.std.specs.Prelude.{All}
use Rattle.std.proofs.lemmas.List.Elements.{All-nil, All-cons, All-append, All-weaker}
use Rattle.ax_prog.specs.declared.Span.{Span}
use Rattle.ax_prog.specs.declared.Ty.{Ty, Ptr', Array', more_of-Ty, end_of-Ty}
use Rattle.ax_prog.specs.declared.Ty.TheVariants as ty
use Rattle.ax_prog.specs.declared.Bin.{Bin}
use Rattle.ax_prog.specs.declared.Bin.TheVariants as bin
use Rattle.ax_prog.specs.declared.Expr as ex
use Rattle.ax_prog.specs.declared.Expr.TheVariants as e
use Rattle.ax_prog.specs.declared.Atom.{Atom}
use Rattle.ax_prog.specs.declared.Atom.TheVariants as atom
use Rattle.ax_prog.specs.declared.Lval.{Lval}
use Rattle.ax_prog.specs.declared.Lval.TheVariants as lval
use Rattle.ax_prog.specs.declared.Pexpr.{Pexpr}
use Rattle.ax_prog.specs.declared.Pexpr.TheVariants as p
use Rattle.ax_parse_grammar.specs.declared.tree.Prefix.TheVariants as pre
use Rattle.ax_parse_grammar.specs.declared.tree.Expr.{Expr}
use Rattle.ax_parse_grammar.specs.declared.tree.Expr.TheVariants as form
use Rattle.ax_parse_grammar.specs.Trees.{span_of}
use Rattle.ax_names_types.specs.declared.Typed.{Typed}
use Rattle.ax_names_types.specs.declared.Typed.TheVariants as t
use Rattle.ax_names_types.specs.Scopes.{Env}
use Rattle.ax_names_types.specs.Types.{value_of, compared, is_comparison, un_of}
use Rattle.ax_names_types.specs.Meaning.{Is, Means}
use Rattle.ax_print_fills.specs.Replaced.{IsNumberIn}
use Rattle.ax_print_fills.specs.Written.{IsPartOf, HasAtom}

abbrev atoms_in : Typed → List (Atom × Span)
atoms_in (t.Int x atoms) = atoms
atoms_in (t.Ptr u q) = []
atoms_in (t.Place u l) = []

module _ (there : Env) where
  abbrev HasAtoms : Expr → List (Atom × Span) → Type 0
  HasAtoms a atoms = All (HasAtom there a) atoms

  -- an expression that is an atom itself
  itself : (a : Expr) (m : Typed) (y : Atom) → Means there a m → Is a m (t.Int (e.Atom y) ((y, span_of a) ∷ [])) → HasAtoms a ((y, span_of a) ∷ [])
  itself a m y d h = All-cons (HasAtom there a) (y, span_of a) [] (a, IsPartOf.whole, refl, (m, d, h)) (All-nil (HasAtom there a))

  said : (a : Expr) (m : Typed) (x : ex.Expr) (atoms : List (Atom × Span)) → m ≡ t.Int x atoms → HasAtoms a (atoms_in m) → HasAtoms a atoms
  said a m x atoms h all = subst (HasAtoms a) (ap atoms_in h) all

  place_atoms : (a : Expr) (u : Ty) (l : Lval) → Means there a (t.Place u l) → (x : ex.Expr) (atoms : List (Atom × Span)) → Is a (t.Place u l) (t.Int x atoms) → HasAtoms a atoms
  place_atoms a ty.Int l d x atoms h = said a (value_of (span_of a) (t.Place ty.Int l)) x atoms h (itself a (t.Place ty.Int l) (atom.Read l) d refl)
  place_atoms a (Ptr' sh (more_of-Ty u end_of-Ty)) l d x atoms h = said a (t.Ptr u (p.Read l)) x atoms h (All-nil (HasAtom there a))
  place_atoms a (Array' sh (more_of-Ty u end_of-Ty) n) l d x atoms h = said a (t.Ptr u (p.Decay l)) x atoms h (All-nil (HasAtom there a))
  place_atoms a (ty.Struct k) l d x atoms h = said a (t.Place (ty.Struct k) l) x atoms h (All-nil (HasAtom there a))

  compared_atoms : (op : Bin) (a : Expr) (q r : Pexpr) → is_comparison op ≡ true → Means there a (compared op (span_of a) q r) → (x : ex.Expr) (atoms : List (Atom × Span)) → Is a (compared op (span_of a) q r) (t.Int x atoms) → HasAtoms a atoms
  compared_atoms bin.Ne a q r z d x atoms h = said a (t.Int (e.Atom (atom.Differ q r)) ((atom.Differ q r, span_of a) ∷ [])) x atoms h (itself a (compared bin.Ne (span_of a) q r) (atom.Differ q r) d refl)
  compared_atoms bin.Eq a q r z d x atoms h = said a (t.Int (e.Atom (atom.Same q r)) ((atom.Same q r, span_of a) ∷ [])) x atoms h (itself a (compared bin.Eq (span_of a) q r) (atom.Same q r) d refl)
  compared_atoms _ a q r z d x atoms h = cc

  -- atoms of an operand are atoms of the whole
  raised : (a c : Expr) (atoms : List (Atom × Span)) → ((b : Expr) → IsPartOf b a → IsPartOf b c) → HasAtoms a atoms → HasAtoms c atoms
  raised a c atoms up all = All-weaker (HasAtom there a) (HasAtom there c) (λ y h. (h.0, up h.0 h.1, h.2, h.3)) atoms all

  pub atoms_are : (a : Expr) (m : Typed) → Means there a m → (x : ex.Expr) (atoms : List (Atom × Span)) → Is a m (t.Int x atoms) → HasAtoms a atoms
  atoms_are _ _ (Means.name {at = at} {x = y} d id u h k) x atoms i = place_atoms (form.Name at y) u (lval.Var id) (Means.name d id u h k) x atoms i
  atoms_are _ _ (Means.number {at = at} {n = n}) x atoms i = said (form.Number at n) (t.Int (e.Num n) []) x atoms i (All-nil (HasAtom there (form.Number at n)))
  atoms_are _ _ (Means.unary {at = at} {op = op} {a = a} {m = m} y ys h d j) x atoms i =
      let c : Expr = form.Unary at op a in
      said c (t.Int (e.Un (un_of op) y) ys) x atoms i (raised a c ys (λ b q. IsPartOf.operand q) (atoms_are a m d y ys j))
  atoms_are _ _ (Means.deref {at = at} {a = a} {m = m} u q d j) x atoms i = place_atoms (form.Unary at pre.Deref a) u (lval.Deref q) (Means.deref u q d j) x atoms i
  atoms_are _ _ (Means.address {at = at} {a = a} u l d) x atoms i = said (form.Unary at pre.Address a) (t.Ptr u (p.Address l)) x atoms i (All-nil (HasAtom there (form.Unary at pre.Address a)))
  atoms_are _ _ (Means.binary {at = at} {op = op} {a = a} {b = b} {m = m} {n = n} y z ys zs d g j k) x atoms i =
      let c : Expr = form.Binary at op a b in
      said c (t.Int (e.Bin op y z) (ys ++ zs)) x atoms i (All-append (HasAtom there c) ys zs (raised a c ys (λ w q. IsPartOf.left b q) (atoms_are a m d y ys j)) (raised b c zs (λ w q. IsPartOf.right a q) (atoms_are b n g z zs k)))
  atoms_are _ _ (Means.plus {at = at} {a = a} {b = b} u q y ys d g j k) x atoms i = said (form.Binary at bin.Add a b) (t.Ptr u (p.Plus q y)) x atoms i (All-nil (HasAtom there (form.Binary at bin.Add a b)))
  atoms_are _ _ (Means.minus {at = at} {a = a} {b = b} u q y ys d g j k) x atoms i = said (form.Binary at bin.Sub a b) (t.Ptr u (p.Minus q y)) x atoms i (All-nil (HasAtom there (form.Binary at bin.Sub a b)))
  atoms_are _ _ (Means.pointers {at = at} {op = op} {a = a} {b = b} u q r h d g j k) x atoms i = compared_atoms op (form.Binary at op a b) q r h (Means.pointers u q r h d g j k) x atoms i
  atoms_are _ _ (Means.left_null {at = at} {op = op} {b = b} a u r h z g k) x atoms i = compared_atoms op (form.Binary at op a b) p.Null r h (Means.left_null a u r h z g k) x atoms i
  atoms_are _ _ (Means.right_null {at = at} {op = op} {a = a} b u q h z d j) x atoms i = compared_atoms op (form.Binary at op a b) q p.Null h (Means.right_null b u q h z d j) x atoms i
  atoms_are _ _ (Means.cond {at = at} {c = c} {a = a} {b = b} {l = l} {m = m} {n = n} w y z ws ys zs d g o j k h) x atoms i =
      let v : Expr = form.Cond at c a b in
      said v (t.Int (e.Cond w y z) ((ws ++ ys) ++ zs)) x atoms i
      (All-append (HasAtom there v) (ws ++ ys) zs
      (All-append (HasAtom there v) ws ys (raised c v ws (λ s q. IsPartOf.test a b q) (atoms_are c l d w ws j)) (raised a v ys (λ s q. IsPartOf.first c b q) (atoms_are a m g y ys k))) (raised b v zs (λ s q. IsPartOf.second c a q) (atoms_are b n o z zs h)))
  atoms_are _ _ (Means.index {at = at} {a = a} {b = b} u q y ys d g j k) x atoms i = place_atoms (form.Index at a b) u (lval.Deref (p.Plus q y)) (Means.index u q y ys d g j k) x atoms i
  atoms_are _ _ (Means.member {at = at} {a = a} {x = y} k l n u d j h) x atoms i = place_atoms (form.Member at a y) u (lval.Field l n) (Means.member k l n u d j h) x atoms i
  atoms_are _ _ (Means.arrow {at = at} {a = a} {x = y} k q n u d j h) x atoms i = place_atoms (form.Arrow at a y) u (lval.Field (lval.Deref q) n) (Means.arrow k q n u d j h) x atoms i

  pub atoms_stand : (a : Expr) (x : ex.Expr) (atoms : List (Atom × Span)) → IsNumberIn there a x atoms → HasAtoms a atoms
  atoms_stand a x atoms n = atoms_are a n.0 n.1 x atoms n.2
