-- The verdict of an expression that has a meaning is this meaning.
use Rattle.std.proofs.Common.{◌≡◌, ℕ, ◌+◌, ◌*◌, ◌≤◌, ◌<◌, ℤ, Bool, true, false, List, [], ◌∷◌, ◌++◌, Option, Some, None, Result, Ok, Err, refl, sym, ap, ◌∙◌, subst, arith, inl, inr, ◌⊎◌, if◌then◌else◌}
use Rattle.std.specs.Prelude.{nat_lt, is_some, IfOk}
use Rattle.ax_prog.specs.declared.Span.{Span}
use Rattle.ax_prog.specs.declared.Ty.{Ty}
use Rattle.ax_prog.specs.declared.Ty.TheVariants as ty
use Rattle.ax_prog.specs.declared.VarId.{VarId}
use Rattle.ax_prog.specs.declared.StructId.{StructId}
use Rattle.ax_prog.specs.declared.Struct.{Struct}
use Rattle.ax_prog.specs.declared.Bin.{Bin}
use Rattle.ax_prog.specs.declared.Bin.TheVariants as bin
use Rattle.ax_prog.specs.declared.Expr.TheVariants as e
use Rattle.ax_prog.specs.declared.Expr as ex
use Rattle.ax_prog.specs.declared.Atom.{Atom}
use Rattle.ax_prog.specs.declared.Lval.{Lval}
use Rattle.ax_prog.specs.declared.Lval.TheVariants as lval
use Rattle.ax_prog.specs.declared.Pexpr.{Pexpr}
use Rattle.ax_prog.specs.declared.Pexpr.TheVariants as p
use Rattle.ax_parse_grammar.specs.declared.tree.Name as word
use Rattle.ax_parse_grammar.specs.declared.tree.Prefix.{Prefix}
use Rattle.ax_parse_grammar.specs.declared.tree.Prefix.TheVariants as pre
use Rattle.ax_parse_grammar.specs.declared.tree.Expr.{Expr, Name, Number, Unary', Binary', Cond', Index', Member', Arrow', Call'}
use Rattle.ax_parse_grammar.specs.declared.tree.Expr.TheVariants as s
use Rattle.ax_parse_grammar.specs.declared.tree.Expr.TheBlock.{more_of-Expr, end_of-Expr, shape-the_row-Expr-0, hidden-the_row-Expr-0}
use Rattle.ax_parse_grammar.specs.Trees.{span_of}
use Rattle.ax_names_types.specs.declared.Typed.{Typed}
use Rattle.ax_names_types.specs.declared.Typed.TheVariants as t
use Rattle.ax_names_types.specs.declared.Need.{Need}
use Rattle.ax_names_types.specs.declared.Need.TheVariants as need
use Rattle.ax_names_types.specs.declared.Entry.{Entry}
use Rattle.ax_names_types.specs.declared.Entity.{Entity}
use Rattle.ax_names_types.specs.declared.Entity.TheVariants as entity
use Rattle.ax_names_types.specs.declared.TypeKind.{TypeKind}
use Rattle.ax_names_types.specs.declared.TypeKind.TheVariants.{UnknownName, WrongType, NotLvalue, MissingField}
use Rattle.ax_names_types.specs.declared.TypeFault.{TypeFault}
use Rattle.ax_names_types.specs.Faults.{fault, turn, Verdict}
use Rattle.ax_names_types.specs.Scopes.{Env, innermost, is_function, member_of}
use Rattle.ax_names_types.specs.Types.{value_of, struct_of, meets, left_need, right_need, unary_need, is_comparison, is_address, is_arithmetic, un_of, compared, is_zero, is_call}
use Rattle.ax_names_types.specs.Meaning.{Is, Means}
use Rattle.ax_names_types.specs.Breaks.{Needs, Misses, Breaks, First, Exact}
use Rattle.ax_names_types.specs.Verdicts.{sooner, both, on, pair, needed, as_value, same_ty, pointer_int, sides, binary, negated, followed, addressed, unless_function, unary, chosen, cond, indexed, index, field, field_of, selected, pointed, member, arrow, denoted, named, verdict_of}
use Rattle.ax_names_types.proofs.Layers.{verdict_of-Unary, verdict_of-Binary, verdict_of-Cond, verdict_of-Index, verdict_of-Member, verdict_of-Arrow}
use Rattle.ax_names_types.proofs.Equality.{same_is, differs, same_itself, struct_is}
use Rattle.ax_names_types.proofs.Sound.{clash, int_left, int_right, pointer_left, pointer_right, sooner_left, sooner_right, as_value_is, choice}
use denote.Hole.Carrier

pub binary_of : (op : Bin) (at sa sb : Span) (za zb : Bool) (m n v w : Typed) → value_of sa m ≡ v → value_of sb n ≡ w → meets (left_need op) v ≡ true → meets (right_need op) w ≡ true → binary op at za sa (Ok m) zb sb (Ok n) ≡ sides op at za zb v w
binary_of op at sa sb za zb m n v w hv hw kv kw = rw (as_value_is (left_need op) sa m v hv kv, as_value_is (right_need op) sb n w hw kw) refl

index_of : (sa sb : Span) (m n v w : Typed) → value_of sa m ≡ v → value_of sb n ≡ w → meets need.Pointer v ≡ true → meets need.Int w ≡ true → index sa (Ok m) sb (Ok n) ≡ indexed v w
index_of sa sb m n v w hv hw kv kw = rw (as_value_is need.Pointer sa m v hv kv, as_value_is need.Int sb n w hw kw) refl

cond_of : (sc sa sb : Span) (l m n u v w : Typed) → value_of sc l ≡ u → value_of sa m ≡ v → value_of sb n ≡ w → meets need.Int u ≡ true → meets need.Int v ≡ true → meets need.Int w ≡ true → cond sc (Ok l) sa (Ok m) sb (Ok n) ≡ Ok (chosen u v w)
cond_of sc sa sb l m n u v w hu hv hw ku kv kw = rw (as_value_is need.Int sc l u hu ku, as_value_is need.Int sa m v hv kv, as_value_is need.Int sb n w hw kw) refl

pub member_is : (structs : List Struct) (y : word.Name) (at : Span) (m : Typed) (k : StructId) (l : Lval) → value_of at m ≡ t.Place (ty.Struct k) l → member structs y at (Ok m) ≡ field y l (member_of structs k y.text)
member_is structs y at m k l h = rw (as_value_is need.Struct at m (t.Place (ty.Struct k) l) h refl) refl

pub arrow_is : (structs : List Struct) (y : word.Name) (at : Span) (m : Typed) (k : StructId) (q : Pexpr) → value_of at m ≡ t.Ptr (ty.Struct k) q → arrow structs y at (Ok m) ≡ field y (lval.Deref q) (member_of structs k y.text)
arrow_is structs y at m k q h = rw (as_value_is need.StructPointer at m (t.Ptr (ty.Struct k) q) h refl) refl

negated_of : (op : Prefix) (b : Bool) (at : Span) (m : Typed) (x : ex.Expr) (xs : List (Atom × Span)) → is_arithmetic op ≡ true → value_of at m ≡ t.Int x xs → unary op b at (Ok m) ≡ Ok (t.Int (e.Un (un_of op) x) xs)
negated_of pre.Deref b at m x xs h k = cc
negated_of pre.Address b at m x xs h k = cc
negated_of pre.Neg b at m x xs h k = rw (as_value_is need.Int at m (t.Int x xs) k refl) refl
negated_of pre.Not b at m x xs h k = rw (as_value_is need.Int at m (t.Int x xs) k refl) refl
negated_of pre.BitNot b at m x xs h k = rw (as_value_is need.Int at m (t.Int x xs) k refl) refl

pub pointer_int_null : (op : Bin) (at : Span) (b : Bool) (u : Ty) (q : Pexpr) (y : ex.Expr) → is_comparison op ≡ true → pointer_int op at b u q y ≡ (if b then Ok (compared op at q p.Null) else Err (fault WrongType at))
pointer_int_null bin.Eq at b u q y h = refl
pointer_int_null bin.Ne at b u q y h = refl
pointer_int_null bin.Add at b u q y h = cc
pointer_int_null bin.Sub at b u q y h = cc
pointer_int_null _ at b u q y h = refl

-- the literal 0 is a number
zero_verdict : (env : Env) (a : Expr) → is_zero a ≡ true → (n : ℤ) × (verdict_of env a ≡ Ok (t.Int (e.Num n) []))
zero_verdict env (Number at n) h = (n, refl)
zero_verdict env (Name at x) h = cc
zero_verdict env (Unary' at op sh r) h = cc
zero_verdict env (Binary' at op sh r sh2 r2) h = cc
zero_verdict env (Cond' at sh r sh2 r2 sh3 r3) h = cc
zero_verdict env (Index' at sh r sh2 r2) h = cc
zero_verdict env (Member' at sh r x) h = cc
zero_verdict env (Arrow' at sh r x) h = cc
zero_verdict env (Call' at sh r sh2 r2) h = cc

-- what means something is no function's name
no_function : (env : Env) (a : Expr) (m : Typed) → Means env a m → is_function env.names a ≡ false
no_function env a m (Means.name d id u h c) = rw (h, c) refl
no_function env a m Means.number = refl
no_function env a m (Means.unary y ys g d h) = refl
no_function env a m (Means.deref u q d h) = refl
no_function env a m (Means.address u l d) = refl
no_function env a m (Means.binary y z ys zs da db ha hb) = refl
no_function env a m (Means.plus u q y ys da db ha hb) = refl
no_function env a m (Means.minus u q y ys da db ha hb) = refl
no_function env a m (Means.pointers u q r c da db ha hb) = refl
no_function env a m (Means.left_null b u r c z db hb) = refl
no_function env a m (Means.right_null b u q c z da ha) = refl
no_function env a m (Means.cond y z w ys zs ws dc da db hc ha hb) = refl
no_function env a m (Means.index u q i is da db ha hb) = refl
no_function env a m (Means.member k l i u d h f) = refl
no_function env a m (Means.arrow k q i u d h f) = refl

pub means_verdict : (env : Env) (x : Expr) (m : Typed) → Means env x m → verdict_of env x ≡ Ok m
means_verdict env x m (Means.name d id u h c) = rw (h, c) refl
means_verdict env x m Means.number = refl
means_verdict env x m (Means.unary {at = at} {op = op} {a = a} {m = n} y ys g d h) = rw (verdict_of-Unary env at op a, means_verdict env a n d) (negated_of op (is_function env.names a) (span_of a) n y ys g h)
means_verdict env x m (Means.deref {at = at} {a = a} {m = n} u q d h) = rw (verdict_of-Unary env at pre.Deref a, means_verdict env a n d, as_value_is need.Pointer (span_of a) n (t.Ptr u q) h refl) refl
means_verdict env x m (Means.address {at = at} {a = a} u l d) = rw (verdict_of-Unary env at pre.Address a, no_function env a (t.Place u l) d, means_verdict env a (t.Place u l) d) refl
means_verdict env x m (Means.binary {at = at} {op = op} {a = a} {b = b} {m = va} {n = vb} y z ys zs da db ha hb) =
    rw (verdict_of-Binary env at op a b, means_verdict env a va da, means_verdict env b vb db)
    (binary_of op at (span_of a) (span_of b) (is_zero a) (is_zero b) va vb (t.Int y ys) (t.Int z zs) ha hb (int_left op y ys) (int_right op z zs))
means_verdict env x m (Means.plus {at = at} {a = a} {b = b} {m = va} {n = vb} u q y ys da db ha hb) =
    rw (verdict_of-Binary env at bin.Add a b, means_verdict env a va da, means_verdict env b vb db)
    (binary_of bin.Add at (span_of a) (span_of b) (is_zero a) (is_zero b) va vb (t.Ptr u q) (t.Int y ys) ha hb refl refl)
means_verdict env x m (Means.minus {at = at} {a = a} {b = b} {m = va} {n = vb} u q y ys da db ha hb) =
    rw (verdict_of-Binary env at bin.Sub a b, means_verdict env a va da, means_verdict env b vb db)
    (binary_of bin.Sub at (span_of a) (span_of b) (is_zero a) (is_zero b) va vb (t.Ptr u q) (t.Int y ys) ha hb refl refl)
means_verdict env x m (Means.pointers {at = at} {op = op} {a = a} {b = b} {m = va} {n = vb} u q r c da db ha hb) =
    rw (verdict_of-Binary env at op a b, means_verdict env a va da, means_verdict env b vb db)
    (binary_of op at (span_of a) (span_of b) (is_zero a) (is_zero b) va vb (t.Ptr u q) (t.Ptr u r) ha hb (pointer_left op u q c) (pointer_right op u r c) ∙ rw (same_itself u) refl)
means_verdict env x m (Means.left_null {at = at} {op = op} {b = b} {n = vb} a u r c z db hb) =
    let o = zero_verdict env a z in
    rw (verdict_of-Binary env at op a b, o.1, means_verdict env b vb db)
    (binary_of op at (span_of a) (span_of b) (is_zero a) (is_zero b) (t.Int (e.Num o.0) []) vb (t.Int (e.Num o.0) []) (t.Ptr u r) refl hb (int_left op (e.Num o.0) []) (pointer_right op u r c) ∙ rw z refl)
means_verdict env x m (Means.right_null {at = at} {op = op} {a = a} {m = va} b u q c z da ha) =
    let o = zero_verdict env b z in
    rw (verdict_of-Binary env at op a b, means_verdict env a va da, o.1)
    (binary_of op at (span_of a) (span_of b) (is_zero a) (is_zero b) va (t.Int (e.Num o.0) []) (t.Ptr u q) (t.Int (e.Num o.0) []) ha refl (pointer_left op u q c) (int_right op (e.Num o.0) []) ∙ rw (pointer_int_null op at (is_zero b) u q (e.Num o.0) c, z) refl)
means_verdict env x m (Means.cond {at = at} {c = c} {a = a} {b = b} {l = vc} {m = va} {n = vb} y z w ys zs ws dc da db hc ha hb) =
    rw (verdict_of-Cond env at c a b, means_verdict env c vc dc, means_verdict env a va da, means_verdict env b vb db)
    (cond_of (span_of c) (span_of a) (span_of b) vc va vb (t.Int y ys) (t.Int z zs) (t.Int w ws) hc ha hb refl refl refl)
means_verdict env x m (Means.index {at = at} {a = a} {b = b} {m = va} {n = vb} u q i is da db ha hb) =
    rw (verdict_of-Index env at a b, means_verdict env a va da, means_verdict env b vb db)
    (index_of (span_of a) (span_of b) va vb (t.Ptr u q) (t.Int i is) ha hb refl refl)
means_verdict env x m (Means.member {at = at} {a = a} {x = y} {m = va} k l i u d h f) =
    rw (verdict_of-Member env at a y, means_verdict env a va d) (member_is env.structs y (span_of a) va k l h ∙ ap (field y l) f)
means_verdict env x m (Means.arrow {at = at} {a = a} {x = y} {m = va} k q i u d h f) =
    rw (verdict_of-Arrow env at a y, means_verdict env a va d) (arrow_is env.structs y (span_of a) va k q h ∙ ap (field y (lval.Deref q)) f)

-- the same where a place is wanted
pub means_place : (env : Env) (a : Expr) (m : Typed) → Means env a m → unless_function (is_function env.names a) (span_of a) (verdict_of env a) ≡ Ok m
means_place env a m d = rw (no_function env a m d, means_verdict env a m d) refl
