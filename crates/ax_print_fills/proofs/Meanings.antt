-- What a moved expression means.
use Rattle.std.proofs.Common.{◌≡◌, ℕ, List, ◌++◌, refl, sym, ap, ◌∙◌, subst}
use Rattle.std.proofs.lemmas.List.{map-append}
use Rattle.ax_prog.specs.declared.Span.{Span}
use Rattle.ax_prog.specs.declared.Ty.{Ty, Ptr', Array', more_of-Ty, end_of-Ty}
use Rattle.ax_prog.specs.declared.Ty.TheVariants as ty
use Rattle.ax_prog.specs.declared.Bin.{Bin}
use Rattle.ax_prog.specs.declared.Bin.TheVariants as bin
use Rattle.ax_prog.specs.declared.Expr.TheVariants as e
use Rattle.ax_prog.specs.declared.Atom.{Atom}
use Rattle.ax_prog.specs.declared.Lval.{Lval}
use Rattle.ax_prog.specs.declared.Pexpr.{Pexpr}
use Rattle.ax_prog.specs.declared.Pexpr.TheVariants as p
use Rattle.ax_parse_grammar.specs.declared.tree.Prefix.TheVariants as pre
use Rattle.ax_parse_grammar.specs.declared.tree.Expr.{Expr}
use Rattle.ax_parse_grammar.specs.Trees.{span_of}
use Rattle.ax_names_types.specs.declared.Typed.{Typed}
use Rattle.ax_names_types.specs.declared.Typed.TheVariants as t
use Rattle.ax_names_types.specs.Scopes.{Env}
use Rattle.ax_names_types.specs.Types.{value_of_place, value_of, compared}
use Rattle.ax_names_types.specs.Meaning.{Is, Means}
use Rattle.ax_print_holes.specs.Moved.{moved_span, moved_expr}
use Rattle.ax_print_fills.specs.Replaced.{moved_atoms}
use Rattle.ax_print_holes.proofs.Layers.{moved-Unary, moved-Binary, moved-Cond, moved-Index, moved-Member, moved-Arrow}
use Rattle.ax_print_fills.proofs.Words.{span_moved, zero_moved}

-- what a moved expression means
abbrev pub moved_typed : (ℕ → ℕ) → Typed → Typed
moved_typed f (t.Int x atoms) = t.Int x (moved_atoms f atoms)
moved_typed f (t.Ptr u q) = t.Ptr u q
moved_typed f (t.Place u l) = t.Place u l

module _ (f : ℕ → ℕ) where
  place_moved : (at : Span) (u : Ty) (l : Lval) → value_of_place (moved_span f at) u l ≡ moved_typed f (value_of_place at u l)
  place_moved at ty.Int l = refl
  place_moved at (Ptr' sh (more_of-Ty a end_of-Ty)) l = refl
  place_moved at (Array' sh (more_of-Ty a end_of-Ty) n) l = refl
  place_moved at (ty.Struct k) l = refl

  value_moved : (at : Span) (m : Typed) → value_of (moved_span f at) (moved_typed f m) ≡ moved_typed f (value_of at m)
  value_moved at (t.Place u l) = place_moved at u l
  value_moved at (t.Int x atoms) = refl
  value_moved at (t.Ptr u q) = refl

  pub is_moved : (a : Expr) (m v : Typed) → Is a m v → Is (moved_expr f a) (moved_typed f m) (moved_typed f v)
  is_moved a m v h = ap (λ at. value_of at (moved_typed f m)) (span_moved f a) ∙ (value_moved (span_of a) m ∙ ap (moved_typed f) h)

  compared_moved : (op : Bin) (at : Span) (q r : Pexpr) → compared op (moved_span f at) q r ≡ moved_typed f (compared op at q r)
  compared_moved bin.Ne at q r = refl
  compared_moved _ at q r = refl

  atoms_moved : (xs ys : List (Atom × Span)) → moved_atoms f xs ++ moved_atoms f ys ≡ moved_atoms f (xs ++ ys)
  atoms_moved xs ys = sym (map-append (λ (a : Atom × Span). (a.0, moved_span f a.1)) xs ys)

  module _ (env : Env) where
    said : (x y : Expr) (m n : Typed) → x ≡ y → m ≡ n → Means env x m → Means env y n
    said x y m n h k d = subst (λ (n : Typed). Means env y n) k (subst (λ (y : Expr). Means env y m) h d)

    pub means_moved : (a : Expr) (m : Typed) → Means env a m → Means env (moved_expr f a) (moved_typed f m)
    means_moved _ _ (Means.name d id u h k) = Means.name d id u h k
    means_moved _ _ Means.number = Means.number
    means_moved _ _ (Means.unary {at = at} {op = op} {a = a} {m = m} x xs h d i) =
        said _ _ _ _ (sym (moved-Unary f at op a)) refl (Means.unary x (moved_atoms f xs) h (means_moved a m d) (is_moved a m (t.Int x xs) i))
    means_moved _ _ (Means.deref {at = at} {a = a} {m = m} u q d i) =
        said _ _ _ _ (sym (moved-Unary f at pre.Deref a)) refl (Means.deref u q (means_moved a m d) (is_moved a m (t.Ptr u q) i))
    means_moved _ _ (Means.address {at = at} {a = a} u l d) =
        said _ _ _ _ (sym (moved-Unary f at pre.Address a)) refl (Means.address u l (means_moved a (t.Place u l) d))
    means_moved _ _ (Means.binary {at = at} {op = op} {a = a} {b = b} {m = m} {n = n} x y xs ys d g i j) =
        said _ _ _ _ (sym (moved-Binary f at op a b)) (ap (t.Int (e.Bin op x y)) (atoms_moved xs ys))
        (Means.binary x y (moved_atoms f xs) (moved_atoms f ys) (means_moved a m d) (means_moved b n g) (is_moved a m (t.Int x xs) i) (is_moved b n (t.Int y ys) j))
    means_moved _ _ (Means.plus {at = at} {a = a} {b = b} {m = m} {n = n} u q y ys d g i j) =
        said _ _ _ _ (sym (moved-Binary f at bin.Add a b)) refl (Means.plus u q y (moved_atoms f ys) (means_moved a m d) (means_moved b n g) (is_moved a m (t.Ptr u q) i) (is_moved b n (t.Int y ys) j))
    means_moved _ _ (Means.minus {at = at} {a = a} {b = b} {m = m} {n = n} u q y ys d g i j) =
        said _ _ _ _ (sym (moved-Binary f at bin.Sub a b)) refl (Means.minus u q y (moved_atoms f ys) (means_moved a m d) (means_moved b n g) (is_moved a m (t.Ptr u q) i) (is_moved b n (t.Int y ys) j))
    means_moved _ _ (Means.pointers {at = at} {op = op} {a = a} {b = b} {m = m} {n = n} u q r h d g i j) =
        said _ _ _ _ (sym (moved-Binary f at op a b)) (compared_moved op at q r) (Means.pointers u q r h (means_moved a m d) (means_moved b n g) (is_moved a m (t.Ptr u q) i) (is_moved b n (t.Ptr u r) j))
    means_moved _ _ (Means.left_null {at = at} {op = op} {b = b} {n = n} a u r h z g j) =
        said _ _ _ _ (sym (moved-Binary f at op a b)) (compared_moved op at p.Null r) (Means.left_null (moved_expr f a) u r h (zero_moved f a ∙ z) (means_moved b n g) (is_moved b n (t.Ptr u r) j))
    means_moved _ _ (Means.right_null {at = at} {op = op} {a = a} {m = m} b u q h z d i) =
        said _ _ _ _ (sym (moved-Binary f at op a b)) (compared_moved op at q p.Null) (Means.right_null (moved_expr f b) u q h (zero_moved f b ∙ z) (means_moved a m d) (is_moved a m (t.Ptr u q) i))
    means_moved _ _ (Means.cond {at = at} {c = c} {a = a} {b = b} {l = l} {m = m} {n = n} x y z xs ys zs d g o i j k) =
        said _ _ _ _ (sym (moved-Cond f at c a b)) (ap (t.Int (e.Cond x y z)) (ap (λ l. l ++ moved_atoms f zs) (atoms_moved xs ys) ∙ atoms_moved (xs ++ ys) zs))
        (Means.cond x y z (moved_atoms f xs) (moved_atoms f ys) (moved_atoms f zs) (means_moved c l d) (means_moved a m g) (means_moved b n o) (is_moved c l (t.Int x xs) i) (is_moved a m (t.Int y ys) j) (is_moved b n (t.Int z zs) k))
    means_moved _ _ (Means.index {at = at} {a = a} {b = b} {m = m} {n = n} u q i is d g j k) =
        said _ _ _ _ (sym (moved-Index f at a b)) refl (Means.index u q i (moved_atoms f is) (means_moved a m d) (means_moved b n g) (is_moved a m (t.Ptr u q) j) (is_moved b n (t.Int i is) k))
    means_moved _ _ (Means.member {at = at} {a = a} {x = x} {m = m} k l i u d j h) =
        said _ _ _ _ (sym (moved-Member f at a x)) refl (Means.member k l i u (means_moved a m d) (is_moved a m (t.Place (ty.Struct k) l) j) h)
    means_moved _ _ (Means.arrow {at = at} {a = a} {x = x} {m = m} k q i u d j h) =
        said _ _ _ _ (sym (moved-Arrow f at a x)) refl (Means.arrow k q i u (means_moved a m d) (is_moved a m (t.Ptr (ty.Struct k) q) j) h)
