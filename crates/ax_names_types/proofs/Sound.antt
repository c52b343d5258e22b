-- The verdict is a meaning, or a break.
use Rattle.std.proofs.Common.{◌≡◌, ℕ, ◌+◌, ◌*◌, ◌≤◌, ◌<◌, ℤ, Bool, true, false, List, [], ◌∷◌, ◌++◌, Option, Some, None, Result, Ok, Err, refl, sym, ap, ◌∙◌, subst, arith, inl, inr, ◌⊎◌, if◌then◌else◌}
use Rattle.std.specs.Prelude.{nat_lt, is_some, IfOk}
use Rattle.ax_prog.specs.declared.Span.{Span}
use Rattle.ax_prog.specs.declared.Ty.{Ty}
use Rattle.ax_prog.specs.declared.Ty.TheVariants as ty
use Rattle.ax_prog.specs.declared.VarId.{VarId}
use Rattle.ax_prog.specs.declared.StructId.{StructId}
use Rattle.ax_prog.specs.declared.Struct.{Struct}
use Rattle.ax_prog.specs.declared.Bin.{Bin}
use Rattle.ax_prog.specs.declared.Bin.TheVariants as bin
use Rattle.ax_prog.specs.declared.Expr.TheVariants as e
use Rattle.ax_prog.specs.declared.Expr as ex
use Rattle.ax_prog.specs.declared.Atom.{Atom}
use Rattle.ax_prog.specs.declared.Lval.{Lval}
use Rattle.ax_prog.specs.declared.Lval.TheVariants as lval
use Rattle.ax_prog.specs.declared.Pexpr.{Pexpr}
use Rattle.ax_prog.specs.declared.Pexpr.TheVariants as p
use Rattle.ax_parse_grammar.specs.declared.tree.Name as word
use Rattle.ax_parse_grammar.specs.declared.tree.Prefix.{Prefix}
use Rattle.ax_parse_grammar.specs.declared.tree.Prefix.TheVariants as pre
use Rattle.ax_parse_grammar.specs.declared.tree.Expr.{Expr, Name, Number, Unary', Binary', Cond', Index', Member', Arrow', Call'}
use Rattle.ax_parse_grammar.specs.declared.tree.Expr.TheVariants as s
use Rattle.ax_parse_grammar.specs.declared.tree.Expr.TheBlock.{more_of-Expr, end_of-Expr, shape-the_row-Expr-0, hidden-the_row-Expr-0}
use Rattle.ax_parse_grammar.specs.Trees.{span_of}
use Rattle.ax_names_types.specs.declared.Typed.{Typed}
use Rattle.ax_names_types.specs.declared.Typed.TheVariants as t
use Rattle.ax_names_types.specs.declared.Need.{Need}
use Rattle.ax_names_types.specs.declared.Need.TheVariants as need
use Rattle.ax_names_types.specs.declared.Entry.{Entry}
use Rattle.ax_names_types.specs.declared.Entity.{Entity}
use Rattle.ax_names_types.specs.declared.Entity.TheVariants as entity
use Rattle.ax_names_types.specs.declared.TypeKind.{TypeKind}
use Rattle.ax_names_types.specs.declared.TypeKind.TheVariants.{UnknownName, WrongType, NotLvalue, MissingField}
use Rattle.ax_names_types.specs.declared.TypeFault.{TypeFault}
use Rattle.ax_names_types.specs.Faults.{fault, turn, Verdict}
use Rattle.ax_names_types.specs.Scopes.{Env, innermost, is_function, member_of}
use Rattle.ax_names_types.specs.Types.{value_of, struct_of, meets, left_need, right_need, unary_need, is_comparison, is_address, is_arithmetic, un_of, compared, is_zero, is_call}
use Rattle.ax_names_types.specs.Meaning.{Is, Means}
use Rattle.ax_names_types.specs.Breaks.{Needs, Misses, Breaks, First, Exact}
use Rattle.ax_names_types.specs.Verdicts.{sooner, both, on, pair, needed, as_value, same_ty, pointer_int, sides, binary, negated, followed, addressed, unless_function, unary, chosen, cond, indexed, index, field, field_of, selected, pointed, member, arrow, denoted, named, verdict_of}
use Rattle.ax_names_types.proofs.Layers.{verdict_of-Unary, verdict_of-Binary, verdict_of-Cond, verdict_of-Index, verdict_of-Member, verdict_of-Arrow}
use Rattle.ax_names_types.proofs.Equality.{same_is, differs, same_itself, struct_is}
use denote.Hole.Carrier

-- ---- tools

pub clash : {A : Type 0} (b : Bool) → b ≡ true → b ≡ false → A
clash b p q = cc

-- a choice has what both of its sides have
choose : (P : Verdict Typed → Type 0) (b : Bool) (x y : Verdict Typed) → (b ≡ true → P x) → (b ≡ false → P y) → P (if b then x else y)
choose P true x y f g = f refl
choose P false x y f g = g refl

one_of : (P : TypeFault → Type 0) (f g : TypeFault) → P f → P g → P (sooner f g)
one_of P f g p q = elim (nat_lt (turn g) (turn f)) as (λ b. P (if b then g else f)) [ true ↦ q | false ↦ p ]

pub sooner_left : (f g : TypeFault) → turn (sooner f g) ≤ turn f
sooner_left f g = grind arith

pub sooner_right : (f g : TypeFault) → turn (sooner f g) ≤ turn g
sooner_right f g = grind arith

-- ---- an operand

pub as_value_is : (want : Need) (at : Span) (m v : Typed) → value_of at m ≡ v → meets want v ≡ true → as_value want at (Ok m) ≡ Ok v
as_value_is want at m v h k = rw (h, k) refl

-- what an operand that passed is, and what its fault is
abbrev Operand : Env → Need → Expr → Verdict Typed → Type 0
Operand env want a (Ok v) = (m : Typed) × Means env a m × Is a m v × (meets want v ≡ true)
Operand env want a (Err f) = Breaks env a f ⊎ ((m : Typed) × Means env a m × Misses want a m × (f ≡ fault WrongType (span_of a)))

abbrev pub Judged : Env → Expr → Verdict Typed → Type 0
Judged env x (Ok m) = Means env x m
Judged env x (Err f) = Breaks env x f

operand : (env : Env) (want : Need) (a : Expr) (v : Verdict Typed) → Judged env a v → Operand env want a (as_value want (span_of a) v)
operand env want a (Err f) d = inl d
operand env want a (Ok m) d = choose (Operand env want a) (meets want (value_of (span_of a) m)) (Ok (value_of (span_of a) m)) (Err (fault WrongType (span_of a))) (λ h. (m, d, refl, h)) (λ h. inr (m, d, h, refl))

operand_breaks : (env : Env) (x a : Expr) (want : Need) (f : TypeFault) → Needs x a want → Operand env want a (Err f) → Breaks env x f
operand_breaks env x a want f n (inl d) = Breaks.within n d
operand_breaks env x a want f n (inr d) = subst (λ f. Breaks env x f) (sym d.3) (Breaks.kind n d.1 d.2)

both_judged : (env : Env) (x a b : Expr) (left right : Need) (k : Typed → Typed → Verdict Typed) (v w : Verdict Typed) → Needs x a left → Needs x b right → Operand env left a v → Operand env right b w
    → ((m n v w : Typed) → Means env a m → Means env b n → Is a m v → Is b n w → meets left v ≡ true → meets right w ≡ true → Judged env x (k v w)) → Judged env x (both k v w)
both_judged env x a b left right k (Err f) (Err g) na nb da db fk = one_of (Breaks env x) f g (operand_breaks env x a left f na da) (operand_breaks env x b right g nb db)
both_judged env x a b left right k (Err f) (Ok w) na nb da db fk = operand_breaks env x a left f na da
both_judged env x a b left right k (Ok v) (Err g) na nb da db fk = operand_breaks env x b right g nb db
both_judged env x a b left right k (Ok v) (Ok w) na nb da db fk = fk da.0 db.0 v w da.1 db.1 da.2 db.2 da.3 db.3

on_judged : (env : Env) (x a : Expr) (want : Need) (k : Typed → Verdict Typed) (v : Verdict Typed) → Needs x a want → Operand env want a v → ((m v : Typed) → Means env a m → Is a m v → meets want v ≡ true → Judged env x (k v)) → Judged env x (on k v)
on_judged env x a want k (Err f) n d fk = operand_breaks env x a want f n d
on_judged env x a want k (Ok v) n d fk = fk d.0 v d.1 d.2 d.3

-- ---- binary operators and indices

right_pointer : (op : Bin) (u : Ty) (q : Pexpr) → meets (right_need op) (t.Ptr u q) ≡ true → is_comparison op ≡ true
right_pointer bin.Eq u q h = refl
right_pointer bin.Ne u q h = refl
right_pointer _ u q h = h

pub int_left : (op : Bin) (x : ex.Expr) (xs : List (Atom × Span)) → meets (left_need op) (t.Int x xs) ≡ true
int_left bin.Add x xs = refl
int_left bin.Sub x xs = refl
int_left bin.Eq x xs = refl
int_left bin.Ne x xs = refl
int_left _ x xs = refl

pub int_right : (op : Bin) (x : ex.Expr) (xs : List (Atom × Span)) → meets (right_need op) (t.Int x xs) ≡ true
int_right bin.Eq x xs = refl
int_right bin.Ne x xs = refl
int_right _ x xs = refl

pub pointer_left : (op : Bin) (u : Ty) (q : Pexpr) → is_comparison op ≡ true → meets (left_need op) (t.Ptr u q) ≡ true
pointer_left bin.Eq u q h = refl
pointer_left bin.Ne u q h = refl
pointer_left bin.Add u q h = refl
pointer_left bin.Sub u q h = refl
pointer_left _ u q h = h

pub pointer_right : (op : Bin) (u : Ty) (q : Pexpr) → is_comparison op ≡ true → meets (right_need op) (t.Ptr u q) ≡ true
pointer_right bin.Eq u q h = refl
pointer_right bin.Ne u q h = refl
pointer_right _ u q h = h

left_place : {A : Type 0} (op : Bin) (u : Ty) (l : Lval) → meets (left_need op) (t.Place u l) ≡ true → A
left_place bin.Add u l h = cc
left_place bin.Sub u l h = cc
left_place bin.Eq u l h = cc
left_place bin.Ne u l h = cc
left_place _ u l h = cc

right_place : {A : Type 0} (op : Bin) (u : Ty) (l : Lval) → meets (right_need op) (t.Place u l) ≡ true → A
right_place bin.Eq u l h = cc
right_place bin.Ne u l h = cc
right_place _ u l h = cc

module _ (env : Env) (at : Span) (a b : Expr) (m n : Typed) (da : Means env a m) (db : Means env b n) where
  pointer_int_judged : (op : Bin) (u : Ty) (q : Pexpr) (y : ex.Expr) (ys : List (Atom × Span)) → Is a m (t.Ptr u q) → Is b n (t.Int y ys) → meets (left_need op) (t.Ptr u q) ≡ true → Judged env (s.Binary at op a b) (pointer_int op at (is_zero b) u q y)
  pointer_int_judged bin.Add u q y ys ha hb h = Means.plus u q y ys da db ha hb
  pointer_int_judged bin.Sub u q y ys ha hb h = Means.minus u q y ys da db ha hb
  pointer_int_judged bin.Eq u q y ys ha hb h = choose (Judged env (s.Binary at bin.Eq a b)) (is_zero b) (Ok (compared bin.Eq at q p.Null)) (Err (fault WrongType at)) (λ z. Means.right_null b u q refl z da ha) (λ z. Breaks.right_number u q y ys refl z da db ha hb)
  pointer_int_judged bin.Ne u q y ys ha hb h = choose (Judged env (s.Binary at bin.Ne a b)) (is_zero b) (Ok (compared bin.Ne at q p.Null)) (Err (fault WrongType at)) (λ z. Means.right_null b u q refl z da ha) (λ z. Breaks.right_number u q y ys refl z da db ha hb)
  pointer_int_judged _ u q y ys ha hb h = cc

  sides_judged : (op : Bin) (v w : Typed) → Is a m v → Is b n w → meets (left_need op) v ≡ true → meets (right_need op) w ≡ true → Judged env (s.Binary at op a b) (sides op at (is_zero a) (is_zero b) v w)
  sides_judged op (t.Int x xs) (t.Int y ys) ha hb h k = Means.binary x y xs ys da db ha hb
  sides_judged op (t.Int x xs) (t.Ptr u q) ha hb h k = choose (Judged env (s.Binary at op a b)) (is_zero a) (Ok (compared op at p.Null q)) (Err (fault WrongType at)) (λ z. Means.left_null a u q (right_pointer op u q k) z db hb) (λ z. Breaks.left_number u q x xs (right_pointer op u q k) z da db ha hb)
  sides_judged op (t.Ptr u q) (t.Int y ys) ha hb h k = pointer_int_judged op u q y ys ha hb h
  sides_judged op (t.Ptr u q) (t.Ptr v r) ha hb h k =
      choose (Judged env (s.Binary at op a b)) (same_ty u v) (Ok (compared op at q r)) (Err (fault WrongType at))
      (λ z. Means.pointers u q r (right_pointer op v r k) da db ha (subst (λ (v : Ty). Is b n (t.Ptr v r)) (sym (same_is u v z)) hb))
      (λ z. Breaks.unlike u v q r (right_pointer op v r k) da db ha hb (λ c. clash (same_ty u v) (subst (λ (v : Ty). same_ty u v ≡ true) c (same_itself u)) z))
  sides_judged op (t.Place u l) w ha hb h k = left_place op u l h
  sides_judged op (t.Int x xs) (t.Place u l) ha hb h k = right_place op u l k
  sides_judged op (t.Ptr v q) (t.Place u l) ha hb h k = right_place op u l k

  indexed_judged : (v w : Typed) → Is a m v → Is b n w → meets need.Pointer v ≡ true → meets need.Int w ≡ true → Judged env (s.Index at a b) (indexed v w)
  indexed_judged (t.Ptr u q) (t.Int i is) ha hb h k = Means.index u q i is da db ha hb
  indexed_judged (t.Ptr u q) (t.Ptr v r) ha hb h k = cc
  indexed_judged (t.Ptr u q) (t.Place v r) ha hb h k = cc
  indexed_judged (t.Int x xs) w ha hb h k = cc
  indexed_judged (t.Place u l) w ha hb h k = cc

binary_judged : (env : Env) (at : Span) (op : Bin) (a b : Expr) (v w : Verdict Typed) → Judged env a v → Judged env b w → Judged env (s.Binary at op a b) (binary op at (is_zero a) (span_of a) v (is_zero b) (span_of b) w)
binary_judged env at op a b v w da db =
    both_judged env (s.Binary at op a b) a b (left_need op) (right_need op) (sides op at (is_zero a) (is_zero b)) (as_value (left_need op) (span_of a) v) (as_value (right_need op) (span_of b) w)
    (Needs.left a b) (Needs.right a b) (operand env (left_need op) a v da) (operand env (right_need op) b w db) (λ m n v w dm dn. sides_judged env at a b m n dm dn op v w)

index_judged : (env : Env) (at : Span) (a b : Expr) (v w : Verdict Typed) → Judged env a v → Judged env b w → Judged env (s.Index at a b) (index (span_of a) v (span_of b) w)
index_judged env at a b v w da db =
    both_judged env (s.Index at a b) a b need.Pointer need.Int indexed (as_value need.Pointer (span_of a) v) (as_value need.Int (span_of b) w)
    (Needs.array a b) (Needs.index a b) (operand env need.Pointer a v da) (operand env need.Int b w db) (λ m n v w dm dn. indexed_judged env at a b m n dm dn v w)

-- ---- `?:`

chosen_judged : (env : Env) (at : Span) (c a b : Expr) (l m n u v w : Typed) → Means env c l → Means env a m → Means env b n → Is c l u → Is a m v → Is b n w → meets need.Int u ≡ true → meets need.Int v ≡ true → meets need.Int w ≡ true → Means env (s.Cond at c a b) (chosen u v w)
chosen_judged env at c a b l m n (t.Int x xs) (t.Int y ys) (t.Int z zs) dl dm dn hl hm hn ku kv kw = Means.cond x y z xs ys zs dl dm dn hl hm hn
chosen_judged env at c a b l m n (t.Int x xs) (t.Int y ys) (t.Ptr u q) dl dm dn hl hm hn ku kv kw = cc
chosen_judged env at c a b l m n (t.Int x xs) (t.Int y ys) (t.Place u q) dl dm dn hl hm hn ku kv kw = cc
chosen_judged env at c a b l m n (t.Int x xs) (t.Ptr u q) w dl dm dn hl hm hn ku kv kw = cc
chosen_judged env at c a b l m n (t.Int x xs) (t.Place u q) w dl dm dn hl hm hn ku kv kw = cc
chosen_judged env at c a b l m n (t.Ptr u q) v w dl dm dn hl hm hn ku kv kw = cc
chosen_judged env at c a b l m n (t.Place u q) v w dl dm dn hl hm hn ku kv kw = cc

abbrev pub choice : Typed → (Typed × Typed) → Verdict Typed
choice u q = Ok (chosen u q.0 q.1)

module _ (env : Env) (at : Span) (c a b : Expr) where
  test_breaks : (f : TypeFault) → Operand env need.Int c (Err f) → Breaks env (s.Cond at c a b) f
  test_breaks f d = operand_breaks env (s.Cond at c a b) c need.Int f (Needs.test c a b) d

  first_breaks : (f : TypeFault) → Operand env need.Int a (Err f) → Breaks env (s.Cond at c a b) f
  first_breaks f d = operand_breaks env (s.Cond at c a b) a need.Int f (Needs.first c a b) d

  second_breaks : (f : TypeFault) → Operand env need.Int b (Err f) → Breaks env (s.Cond at c a b) f
  second_breaks f d = operand_breaks env (s.Cond at c a b) b need.Int f (Needs.second c a b) d

  three_judged : (u v w : Verdict Typed) → Operand env need.Int c u → Operand env need.Int a v → Operand env need.Int b w → Judged env (s.Cond at c a b) (both choice u (both pair v w))
  three_judged (Err f) (Err g) (Err h) du dv dw = one_of (Breaks env (s.Cond at c a b)) f (sooner g h) (test_breaks f du) (one_of (Breaks env (s.Cond at c a b)) g h (first_breaks g dv) (second_breaks h dw))
  three_judged (Err f) (Err g) (Ok w) du dv dw = one_of (Breaks env (s.Cond at c a b)) f g (test_breaks f du) (first_breaks g dv)
  three_judged (Err f) (Ok v) (Err h) du dv dw = one_of (Breaks env (s.Cond at c a b)) f h (test_breaks f du) (second_breaks h dw)
  three_judged (Err f) (Ok v) (Ok w) du dv dw = test_breaks f du
  three_judged (Ok u) (Err g) (Err h) du dv dw = one_of (Breaks env (s.Cond at c a b)) g h (first_breaks g dv) (second_breaks h dw)
  three_judged (Ok u) (Err g) (Ok w) du dv dw = first_breaks g dv
  three_judged (Ok u) (Ok v) (Err h) du dv dw = second_breaks h dw
  three_judged (Ok u) (Ok v) (Ok w) du dv dw = chosen_judged env at c a b du.0 dv.0 dw.0 u v w du.1 dv.1 dw.1 du.2 dv.2 dw.2 du.3 dv.3 dw.3

  cond_judged : (u v w : Verdict Typed) → Judged env c u → Judged env a v → Judged env b w → Judged env (s.Cond at c a b) (cond (span_of c) u (span_of a) v (span_of b) w)
  cond_judged u v w du dv dw =
      three_judged (as_value need.Int (span_of c) u) (as_value need.Int (span_of a) v) (as_value need.Int (span_of b) w) (operand env need.Int c u du) (operand env need.Int a v dv) (operand env need.Int b w dw)

-- ---- unary operators

negated_judged : (env : Env) (at : Span) (op : Prefix) (a : Expr) (m v : Typed) → is_arithmetic op ≡ true → Means env a m → Is a m v → meets need.Int v ≡ true → Judged env (s.Unary at op a) (negated op v)
negated_judged env at op a m (t.Int x xs) g d h k = Means.unary x xs g d h
negated_judged env at op a m (t.Ptr u q) g d h k = cc
negated_judged env at op a m (t.Place u l) g d h k = cc

followed_judged : (env : Env) (at : Span) (a : Expr) (m v : Typed) → Means env a m → Is a m v → meets need.Pointer v ≡ true → Judged env (s.Unary at pre.Deref a) (followed v)
followed_judged env at a m (t.Ptr u q) d h k = Means.deref u q d h
followed_judged env at a m (t.Int x xs) d h k = cc
followed_judged env at a m (t.Place u l) d h k = cc

abbrev is_place : Typed → Bool
is_place (t.Place u l) = true
is_place (t.Int x xs) = false
is_place (t.Ptr u q) = false

addressed_judged : (env : Env) (at : Span) (a : Expr) (b : Bool) (v : Verdict Typed) → is_function env.names a ≡ b → Judged env a v → Judged env (s.Unary at pre.Address a) (on (addressed (span_of a)) (unless_function b (span_of a) v))
addressed_judged env at a true v h d = Breaks.function_address a h
addressed_judged env at a false (Err f) h d = Breaks.in_address h d
addressed_judged env at a false (Ok (t.Place u l)) h d = Means.address u l d
addressed_judged env at a false (Ok (t.Int x xs)) k d = Breaks.no_place d (λ u l h. clash (is_place (t.Int x xs)) (ap is_place h) refl)
addressed_judged env at a false (Ok (t.Ptr v q)) k d = Breaks.no_place d (λ u l h. clash (is_place (t.Ptr v q)) (ap is_place h) refl)

unary_judged : (env : Env) (at : Span) (op : Prefix) (a : Expr) (v : Verdict Typed) → Judged env a v → Judged env (s.Unary at op a) (unary op (is_function env.names a) (span_of a) v)
unary_judged env at pre.Address a v d = addressed_judged env at a (is_function env.names a) v refl d
unary_judged env at pre.Deref a v d = on_judged env (s.Unary at pre.Deref a) a need.Pointer followed (as_value need.Pointer (span_of a) v) (Needs.operand a refl) (operand env need.Pointer a v d) (followed_judged env at a)
unary_judged env at pre.Neg a v d = on_judged env (s.Unary at pre.Neg a) a need.Int (negated pre.Neg) (as_value need.Int (span_of a) v) (Needs.operand a refl) (operand env need.Int a v d) (λ m v. negated_judged env at pre.Neg a m v refl)
unary_judged env at pre.Not a v d = on_judged env (s.Unary at pre.Not a) a need.Int (negated pre.Not) (as_value need.Int (span_of a) v) (Needs.operand a refl) (operand env need.Int a v d) (λ m v. negated_judged env at pre.Not a m v refl)
unary_judged env at pre.BitNot a v d = on_judged env (s.Unary at pre.BitNot a) a need.Int (negated pre.BitNot) (as_value need.Int (span_of a) v) (Needs.operand a refl) (operand env need.Int a v d) (λ m v. negated_judged env at pre.BitNot a m v refl)

-- ---- members

module _ (env : Env) (at : Span) (a : Expr) (y : word.Name) (m : Typed) (d : Means env a m) where
  member_found : (k : StructId) (l : Lval) (o : Option (ℕ × Ty)) → Is a m (t.Place (ty.Struct k) l) → member_of env.structs k y.text ≡ o → Judged env (s.Member at a y) (field y l o)
  member_found k l None h c = Breaks.no_member k l d h c
  member_found k l (Some f) h c = Means.member k l f.0 f.1 d h c

  arrow_found : (k : StructId) (q : Pexpr) (o : Option (ℕ × Ty)) → Is a m (t.Ptr (ty.Struct k) q) → member_of env.structs k y.text ≡ o → Judged env (s.Arrow at a y) (field y (lval.Deref q) o)
  arrow_found k q None h c = Breaks.no_member_behind k q d h c
  arrow_found k q (Some f) h c = Means.arrow k q f.0 f.1 d h c

  member_at_struct : (u : Ty) (l : Lval) (o : Option StructId) → struct_of u ≡ o → is_some o ≡ true → Is a m (t.Place u l) → Judged env (s.Member at a y) (field_of env.structs y (span_of a) o l)
  member_at_struct u l None c k h = cc
  member_at_struct u l (Some j) c k h = member_found j l (member_of env.structs j y.text) (subst (λ (u : Ty). Is a m (t.Place u l)) (struct_is u j c) h) refl

  arrow_at_struct : (u : Ty) (q : Pexpr) (o : Option StructId) → struct_of u ≡ o → is_some o ≡ true → Is a m (t.Ptr u q) → Judged env (s.Arrow at a y) (field_of env.structs y (span_of a) o (lval.Deref q))
  arrow_at_struct u q None c k h = cc
  arrow_at_struct u q (Some j) c k h = arrow_found j q (member_of env.structs j y.text) (subst (λ (u : Ty). Is a m (t.Ptr u q)) (struct_is u j c) h) refl

  selected_judged : (v : Typed) → Is a m v → meets need.Struct v ≡ true → Judged env (s.Member at a y) (selected env.structs y (span_of a) v)
  selected_judged (t.Place u l) h k = member_at_struct u l (struct_of u) refl k h
  selected_judged (t.Int x xs) h k = cc
  selected_judged (t.Ptr u q) h k = cc

  pointed_judged : (v : Typed) → Is a m v → meets need.StructPointer v ≡ true → Judged env (s.Arrow at a y) (pointed env.structs y (span_of a) v)
  pointed_judged (t.Ptr u q) h k = arrow_at_struct u q (struct_of u) refl k h
  pointed_judged (t.Int x xs) h k = cc
  pointed_judged (t.Place u l) h k = cc

member_judged : (env : Env) (at : Span) (a : Expr) (y : word.Name) (v : Verdict Typed) → Judged env a v → Judged env (s.Member at a y) (member env.structs y (span_of a) v)
member_judged env at a y v d = on_judged env (s.Member at a y) a need.Struct (selected env.structs y (span_of a)) (as_value need.Struct (span_of a) v) (Needs.member a y) (operand env need.Struct a v d) (λ m v dm. selected_judged env at a y m dm v)

arrow_judged : (env : Env) (at : Span) (a : Expr) (y : word.Name) (v : Verdict Typed) → Judged env a v → Judged env (s.Arrow at a y) (arrow env.structs y (span_of a) v)
arrow_judged env at a y v d = on_judged env (s.Arrow at a y) a need.StructPointer (pointed env.structs y (span_of a)) (as_value need.StructPointer (span_of a) v) (Needs.arrow a y) (operand env need.StructPointer a v d) (λ m v dm. pointed_judged env at a y m dm v)

-- ---- names, and the whole

denoted_judged : (env : Env) (at : Span) (x : List ℕ) (d : Entry) (w : Entity) → innermost x env.names ≡ Some d → d.entity ≡ w → Judged env (s.Name at x) (denoted at w)
denoted_judged env at x d (entity.Variable id u) h c = Means.name d id u h c
denoted_judged env at x d (entity.Function k) h c = Breaks.function d k h c

named_judged : (env : Env) (at : Span) (x : List ℕ) (o : Option Entry) → innermost x env.names ≡ o → Judged env (s.Name at x) (named at o)
named_judged env at x None h = Breaks.unknown h
named_judged env at x (Some d) h = denoted_judged env at x d d.entity h refl

pub judged : (env : Env) (x : Expr) → Judged env x (verdict_of env x)
unfolding shape-the_row-Expr-0 hidden-the_row-Expr-0 Carrier.hidden
judged env (Name at x) = named_judged env at x (innermost x env.names) refl
judged env (Number at n) = Means.number
judged env (Unary' at op s (more_of-Expr a end_of-Expr)) = unary_judged env at op a (verdict_of env a) (judged env a)
judged env (Binary' at op s (more_of-Expr a end_of-Expr) s2 (more_of-Expr b end_of-Expr)) = binary_judged env at op a b (verdict_of env a) (verdict_of env b) (judged env a) (judged env b)
judged env (Cond' at s (more_of-Expr c end_of-Expr) s2 (more_of-Expr a end_of-Expr) s3 (more_of-Expr b end_of-Expr)) = cond_judged env at c a b (verdict_of env c) (verdict_of env a) (verdict_of env b) (judged env c) (judged env a) (judged env b)
judged env (Index' at s (more_of-Expr a end_of-Expr) s2 (more_of-Expr b end_of-Expr)) = index_judged env at a b (verdict_of env a) (verdict_of env b) (judged env a) (judged env b)
judged env (Member' at s (more_of-Expr a end_of-Expr) x) = member_judged env at a x (verdict_of env a) (judged env a)
judged env (Arrow' at s (more_of-Expr a end_of-Expr) x) = arrow_judged env at a x (verdict_of env a) (judged env a)
judged env (Call' at s sh s2 r) = Breaks.call refl
