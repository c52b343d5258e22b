-- No break comes sooner than the fault of the verdict.
use Rattle.std.proofs.Common.{◌≡◌, ℕ, ◌+◌, ◌*◌, ◌≤◌, ◌<◌, ℤ, Bool, true, false, List, [], ◌∷◌, ◌++◌, Option, Some, None, Result, Ok, Err, refl, sym, ap, ◌∙◌, subst, arith, inl, inr, ◌⊎◌, if◌then◌else◌}
use Rattle.std.specs.Prelude.{nat_lt, is_some, IfOk}
use Rattle.ax_prog.specs.declared.Span.{Span}
use Rattle.ax_prog.specs.declared.Ty.{Ty}
use Rattle.ax_prog.specs.declared.Ty.TheVariants as ty
use Rattle.ax_prog.specs.declared.VarId.{VarId}
use Rattle.ax_prog.specs.declared.StructId.{StructId}
use Rattle.ax_prog.specs.declared.Struct.{Struct}
use Rattle.ax_prog.specs.declared.Bin.{Bin}
use Rattle.ax_prog.specs.declared.Bin.TheVariants as bin
use Rattle.ax_prog.specs.declared.Expr.TheVariants as e
use Rattle.ax_prog.specs.declared.Expr as ex
use Rattle.ax_prog.specs.declared.Atom.{Atom}
use Rattle.ax_prog.specs.declared.Lval.{Lval}
use Rattle.ax_prog.specs.declared.Lval.TheVariants as lval
use Rattle.ax_prog.specs.declared.Pexpr.{Pexpr}
use Rattle.ax_prog.specs.declared.Pexpr.TheVariants as p
use Rattle.ax_parse_grammar.specs.declared.tree.Name as word
use Rattle.ax_parse_grammar.specs.declared.tree.Prefix.{Prefix}
use Rattle.ax_parse_grammar.specs.declared.tree.Prefix.TheVariants as pre
use Rattle.ax_parse_grammar.specs.declared.tree.Expr.{Expr, Name, Number, Unary', Binary', Cond', Index', Member', Arrow', Call'}
use Rattle.ax_parse_grammar.specs.declared.tree.Expr.TheVariants as s
use Rattle.ax_parse_grammar.specs.declared.tree.Expr.TheBlock.{more_of-Expr, end_of-Expr, shape-the_row-Expr-0, hidden-the_row-Expr-0}
use Rattle.ax_parse_grammar.specs.Trees.{span_of}
use Rattle.ax_names_types.specs.declared.Typed.{Typed}
use Rattle.ax_names_types.specs.declared.Typed.TheVariants as t
use Rattle.ax_names_types.specs.declared.Need.{Need}
use Rattle.ax_names_types.specs.declared.Need.TheVariants as need
use Rattle.ax_names_types.specs.declared.Entry.{Entry}
use Rattle.ax_names_types.specs.declared.Entity.{Entity}
use Rattle.ax_names_types.specs.declared.Entity.TheVariants as entity
use Rattle.ax_names_types.specs.declared.TypeKind.{TypeKind}
use Rattle.ax_names_types.specs.declared.TypeKind.TheVariants.{UnknownName, WrongType, NotLvalue, MissingField}
use Rattle.ax_names_types.specs.declared.TypeFault.{TypeFault}
use Rattle.ax_names_types.specs.Faults.{fault, turn, Verdict}
use Rattle.ax_names_types.specs.Scopes.{Env, innermost, is_function, member_of}
use Rattle.ax_names_types.specs.Types.{value_of, struct_of, meets, left_need, right_need, unary_need, is_comparison, is_address, is_arithmetic, un_of, compared, is_zero, is_call}
use Rattle.ax_names_types.specs.Meaning.{Is, Means}
use Rattle.ax_names_types.specs.Breaks.{Needs, Misses, Breaks, First, Exact}
use Rattle.ax_names_types.specs.Verdicts.{sooner, both, on, pair, needed, as_value, same_ty, pointer_int, sides, binary, negated, followed, addressed, unless_function, unary, chosen, cond, indexed, index, field, field_of, selected, pointed, member, arrow, denoted, named, verdict_of}
use Rattle.ax_names_types.proofs.Layers.{verdict_of-Unary, verdict_of-Binary, verdict_of-Cond, verdict_of-Index, verdict_of-Member, verdict_of-Arrow}
use Rattle.ax_names_types.proofs.Equality.{same_is, differs, same_itself, struct_is}
use Rattle.ax_names_types.proofs.Sound.{clash, int_left, int_right, pointer_left, pointer_right, sooner_left, sooner_right, as_value_is, choice}
use Rattle.ax_names_types.proofs.Meant.{binary_of, member_is, arrow_is, pointer_int_null, means_verdict, means_place}
use denote.Hole.Carrier

-- the verdict is a fault, at this one or sooner
abbrev pub Faulty : {A : Type 0} → Verdict A → TypeFault → Type 0
Faulty v g = (f : TypeFault) × (v ≡ Err f) × (turn f ≤ turn g)

both_left : {A B C : Type 0} (k : A → B → Verdict C) (v : Verdict A) (w : Verdict B) (g : TypeFault) → Faulty v g → Faulty (both k v w) g
both_left k v (Ok y) g h = (h.0, rw h.1 refl, h.2)
both_left k v (Err f) g h = (sooner h.0 f, rw h.1 refl, let p = sooner_left h.0 f in omega (arith, p, h.2))

both_right : {A B C : Type 0} (k : A → B → Verdict C) (v : Verdict A) (w : Verdict B) (g : TypeFault) → Faulty w g → Faulty (both k v w) g
both_right k (Ok y) w g h = (h.0, rw h.1 refl, h.2)
both_right k (Err f) w g h = (sooner f h.0, rw h.1 refl, let p = sooner_right f h.0 in omega (arith, p, h.2))

on_faulty : {A B : Type 0} (k : A → Verdict B) (v : Verdict A) (g : TypeFault) → Faulty v g → Faulty (on k v) g
on_faulty k v g h = (h.0, rw h.1 refl, h.2)

value_faulty : (want : Need) (at : Span) (v : Verdict Typed) (g : TypeFault) → Faulty v g → Faulty (as_value want at v) g
value_faulty want at v g h = (h.0, rw h.1 refl, h.2)

value_misses : (want : Need) (at : Span) (m : Typed) (v : Verdict Typed) → v ≡ Ok m → meets want (value_of at m) ≡ false → Faulty (as_value want at v) (fault WrongType at)
value_misses want at m v h k = (fault WrongType at, rw (h, k) refl, omega arith)

-- a verdict that is another's
moved_to : (v w : Verdict Typed) (g : TypeFault) → v ≡ w → Faulty w g → Faulty v g
moved_to v w g h k = (k.0, h ∙ k.1, k.2)

unary_faulty : (op : Prefix) (b : Bool) (at : Span) (v : Verdict Typed) (g : TypeFault) → is_address op ≡ false → Faulty (as_value (unary_need op) at v) g → Faulty (unary op b at v) g
unary_faulty pre.Address b at v g h k = cc
unary_faulty pre.Deref b at v g h k = on_faulty followed (as_value need.Pointer at v) g k
unary_faulty pre.Neg b at v g h k = on_faulty (negated pre.Neg) (as_value need.Int at v) g k
unary_faulty pre.Not b at v g h k = on_faulty (negated pre.Not) (as_value need.Int at v) g k
unary_faulty pre.BitNot b at v g h k = on_faulty (negated pre.BitNot) (as_value need.Int at v) g k

-- what goes wrong with an operand goes wrong with the whole
needs_faulty : (env : Env) (x a : Expr) (want : Need) (g : TypeFault) → Needs x a want → Faulty (as_value want (span_of a) (verdict_of env a)) g → Faulty (verdict_of env x) g
needs_faulty env x a want g (Needs.operand {at = at} {op = op} b h) k = moved_to _ _ g (verdict_of-Unary env at op b) (unary_faulty op (is_function env.names b) (span_of b) (verdict_of env b) g h k)
needs_faulty env x a want g (Needs.left {at = at} {op = op} b c) k = moved_to _ _ g (verdict_of-Binary env at op b c) (both_left (sides op at (is_zero b) (is_zero c)) _ _ g k)
needs_faulty env x a want g (Needs.right {at = at} {op = op} b c) k = moved_to _ _ g (verdict_of-Binary env at op b c) (both_right (sides op at (is_zero b) (is_zero c)) _ _ g k)
needs_faulty env x a want g (Needs.test {at = at} b c d) k = moved_to _ _ g (verdict_of-Cond env at b c d) (both_left choice _ _ g k)
needs_faulty env x a want g (Needs.first {at = at} b c d) k = moved_to _ _ g (verdict_of-Cond env at b c d) (both_right choice _ _ g (both_left pair _ _ g k))
needs_faulty env x a want g (Needs.second {at = at} b c d) k = moved_to _ _ g (verdict_of-Cond env at b c d) (both_right choice _ _ g (both_right pair _ _ g k))
needs_faulty env x a want g (Needs.array {at = at} b c) k = moved_to _ _ g (verdict_of-Index env at b c) (both_left indexed _ _ g k)
needs_faulty env x a want g (Needs.index {at = at} b c) k = moved_to _ _ g (verdict_of-Index env at b c) (both_right indexed _ _ g k)
needs_faulty env x a want g (Needs.member {at = at} b y) k = moved_to _ _ g (verdict_of-Member env at b y) (on_faulty (selected env.structs y (span_of b)) _ g k)
needs_faulty env x a want g (Needs.arrow {at = at} b y) k = moved_to _ _ g (verdict_of-Arrow env at b y) (on_faulty (pointed env.structs y (span_of b)) _ g k)

address_faulty : (at : Span) (m : Typed) (v : Verdict Typed) → v ≡ Ok m → ((u : Ty) (l : Lval) → m ≡ t.Place u l → ⊥) → Faulty (on (addressed at) v) (fault NotLvalue at)
address_faulty at (t.Place u l) v h k = absurd (k u l refl)
address_faulty at (t.Int x xs) v h k = (fault NotLvalue at, rw h refl, omega arith)
address_faulty at (t.Ptr u q) v h k = (fault NotLvalue at, rw h refl, omega arith)

-- where a place is wanted
pub function_faulty : (b : Bool) (at : Span) (v : Verdict Typed) → b ≡ true → Faulty (unless_function b at v) (fault NotLvalue at)
function_faulty true at v h = (fault NotLvalue at, refl, omega arith)
function_faulty false at v h = cc

pub place_faulty : (b : Bool) (at : Span) (v : Verdict Typed) (g : TypeFault) → b ≡ false → Faulty v g → Faulty (unless_function b at v) g
place_faulty false at v g h k = k
place_faulty true at v g h k = cc

sides_faulty : (env : Env) (at : Span) (op : Bin) (a b : Expr) (m n v w : Typed) → Means env a m → Means env b n → Is a m v → Is b n w → meets (left_need op) v ≡ true → meets (right_need op) w ≡ true → sides op at (is_zero a) (is_zero b) v w ≡ Err (fault WrongType at) → Faulty (verdict_of env (s.Binary at op a b)) (fault WrongType at)
sides_faulty env at op a b m n v w da db ha hb ka kb k =
    (fault WrongType at, rw (verdict_of-Binary env at op a b, means_verdict env a m da, means_verdict env b n db) (binary_of op at (span_of a) (span_of b) (is_zero a) (is_zero b) m n v w ha hb ka kb ∙ k), omega arith)

call_verdict : (env : Env) (x : Expr) → is_call x ≡ true → verdict_of env x ≡ Err (fault WrongType (span_of x))
call_verdict env (Call' at sh r s2 r2) h = refl
call_verdict env (Name at x) h = cc
call_verdict env (Number at x) h = cc
call_verdict env (Unary' at op sh r) h = cc
call_verdict env (Binary' at op sh r s2 r2) h = cc
call_verdict env (Cond' at sh r s2 r2 s3 r3) h = cc
call_verdict env (Index' at sh r s2 r2) h = cc
call_verdict env (Member' at sh r x) h = cc
call_verdict env (Arrow' at sh r x) h = cc

pub breaks_verdict : (env : Env) (x : Expr) (g : TypeFault) → Breaks env x g → Faulty (verdict_of env x) g
breaks_verdict env x g (Breaks.unknown {at = at} h) = (fault UnknownName at, rw h refl, omega arith)
breaks_verdict env x g (Breaks.function {at = at} d k h c) = (fault WrongType at, rw (h, c) refl, omega arith)
breaks_verdict env x g (Breaks.within {a = a} {want = want} n d) = needs_faulty env x a want g n (value_faulty want (span_of a) (verdict_of env a) g (breaks_verdict env a g d))
breaks_verdict env x g (Breaks.kind {a = a} {want = want} {m = m} n d k) = needs_faulty env x a want g n (value_misses want (span_of a) m (verdict_of env a) (means_verdict env a m d) k)
breaks_verdict env x g (Breaks.function_address {at = at} a h) =
    moved_to _ _ (fault NotLvalue (span_of a)) (verdict_of-Unary env at pre.Address a) (on_faulty (addressed (span_of a)) _ (fault NotLvalue (span_of a)) (function_faulty (is_function env.names a) (span_of a) (verdict_of env a) h))
breaks_verdict env x g (Breaks.in_address {at = at} {a = a} h d) =
    moved_to _ _ g (verdict_of-Unary env at pre.Address a) (on_faulty (addressed (span_of a)) _ g (place_faulty (is_function env.names a) (span_of a) (verdict_of env a) g h (breaks_verdict env a g d)))
breaks_verdict env x g (Breaks.no_place {at = at} {a = a} {m = m} d k) = moved_to _ _ g (verdict_of-Unary env at pre.Address a) (address_faulty (span_of a) m _ (means_place env a m d) k)
breaks_verdict env x g (Breaks.unlike {at = at} {op = op} {a = a} {b = b} {m = va} {n = vb} u v q r c da db ha hb other) =
    sides_faulty env at op a b va vb (t.Ptr u q) (t.Ptr v r) da db ha hb (pointer_left op u q c) (pointer_right op v r c) (rw (differs u v other) refl)
breaks_verdict env x g (Breaks.left_number {at = at} {op = op} {a = a} {b = b} {m = va} {n = vb} v r y ys c z da db ha hb) =
    sides_faulty env at op a b va vb (t.Int y ys) (t.Ptr v r) da db ha hb (int_left op y ys) (pointer_right op v r c) (rw z refl)
breaks_verdict env x g (Breaks.right_number {at = at} {op = op} {a = a} {b = b} {m = va} {n = vb} u q y ys c z da db ha hb) =
    sides_faulty env at op a b va vb (t.Ptr u q) (t.Int y ys) da db ha hb (pointer_left op u q c) (int_right op y ys) (rw (pointer_int_null op at (is_zero b) u q y c, z) refl)
breaks_verdict env x g (Breaks.no_member {at = at} {a = a} {x = y} {m = m} k l d h f) =
    (fault MissingField y.span, rw (verdict_of-Member env at a y, means_verdict env a m d) (member_is env.structs y (span_of a) m k l h ∙ ap (field y l) f), omega arith)
breaks_verdict env x g (Breaks.no_member_behind {at = at} {a = a} {x = y} {m = m} k q d h f) =
    (fault MissingField y.span, rw (verdict_of-Arrow env at a y, means_verdict env a m d) (arrow_is env.structs y (span_of a) m k q h ∙ ap (field y (lval.Deref q)) f), omega arith)
breaks_verdict env x g (Breaks.call h) = (fault WrongType (span_of x), call_verdict env x h, omega arith)
