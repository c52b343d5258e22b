-- What an expression means, or its first break, as a function; `Exact` says what it has to do with the rules.
use Rattle.std.specs.Prelude.{◌≡◌, ℕ, zero, nat_eq, nat_lt, ◌==◌, ◌&&◌, ℤ, Bool, true, false, if◌then◌else◌, List, [], ◌∷◌, ◌++◌, Option, Some, None, Result, Ok, Err}
use Rattle.ax_prog.specs.declared.Span.{Span}
use Rattle.ax_prog.specs.declared.Ty.{Ty, Ptr', Array', more_of-Ty, end_of-Ty}
use Rattle.ax_prog.specs.declared.Ty.TheVariants as ty
use Rattle.ax_prog.specs.declared.StructId.{StructId}
use Rattle.ax_prog.specs.declared.Struct.{Struct}
use Rattle.ax_prog.specs.declared.Bin.{Bin}
use Rattle.ax_prog.specs.declared.Bin.TheVariants as bin
use Rattle.ax_prog.specs.declared.Expr as ex
use Rattle.ax_prog.specs.declared.Expr.TheVariants as e
use Rattle.ax_prog.specs.declared.Lval.{Lval}
use Rattle.ax_prog.specs.declared.Lval.TheVariants as lval
use Rattle.ax_prog.specs.declared.Pexpr.{Pexpr}
use Rattle.ax_prog.specs.declared.Pexpr.TheVariants as p
use Rattle.ax_parse_grammar.specs.declared.tree.Name as word
use Rattle.ax_parse_grammar.specs.declared.tree.Prefix.{Prefix}
use Rattle.ax_parse_grammar.specs.declared.tree.Prefix.TheVariants as pre
use Rattle.ax_parse_grammar.specs.declared.tree.Expr.{Expr, Name, Number, Unary', Binary', Cond', Index', Member', Arrow', Call'}
use Rattle.ax_parse_grammar.specs.declared.tree.Expr.TheBlock.{more_of-Expr, end_of-Expr}
use Rattle.ax_parse_grammar.specs.Trees.{span_of}
use Rattle.ax_names_types.specs.declared.Entry.{Entry}
use Rattle.ax_names_types.specs.declared.Entity.{Entity}
use Rattle.ax_names_types.specs.declared.Entity.TheVariants as entity
use Rattle.ax_names_types.specs.declared.Typed.{Typed}
use Rattle.ax_names_types.specs.declared.Typed.TheVariants as t
use Rattle.ax_names_types.specs.declared.Need.{Need}
use Rattle.ax_names_types.specs.declared.Need.TheVariants as need
use Rattle.ax_names_types.specs.declared.TypeKind.TheVariants.{UnknownName, WrongType, NotLvalue, MissingField}
use Rattle.ax_names_types.specs.declared.TypeFault.{TypeFault}
use Rattle.ax_names_types.specs.Faults.{fault, turn, Verdict}
use Rattle.ax_names_types.specs.Scopes.{Env, innermost, is_function, member_of}
use Rattle.ax_names_types.specs.Types.{value_of, struct_of, meets, left_need, right_need, compared, un_of, is_zero}

abbrev pub sooner : TypeFault → TypeFault → TypeFault
sooner f g = if nat_lt (turn g) (turn f) then g else f

-- both parts are judged, and the sooner fault counts
abbrev pub both : {A B C : Type 0} → (A → B → Verdict C) → Verdict A → Verdict B → Verdict C
both f (Ok a) (Ok b) = f a b
both f (Ok a) (Err g) = Err g
both f (Err g) (Ok b) = Err g
both f (Err g) (Err h) = Err (sooner g h)

abbrev pub on : {A B : Type 0} → (A → Verdict B) → Verdict A → Verdict B
on f (Ok a) = f a
on f (Err g) = Err g

abbrev pub pair : {A B : Type 0} → A → B → Verdict (A × B)
pair a b = Ok (a, b)

-- the part is of this kind, or else it is the place of a fault
abbrev pub needed : Need → Span → Typed → Verdict Typed
needed want at v = if meets want v then Ok v else Err (fault WrongType at)

-- as a value, of this kind
abbrev pub as_value : Need → Span → Verdict Typed → Verdict Typed
as_value want at v = on (λ v. needed want at (value_of at v)) v

-- ---- binary operators

abbrev pub same_ty : Ty → Ty → Bool
same_ty ty.Int ty.Int = true
same_ty (Ptr' s (more_of-Ty a end_of-Ty)) (Ptr' s2 (more_of-Ty b end_of-Ty)) = same_ty a b
same_ty (Array' s (more_of-Ty a end_of-Ty) m) (Array' s2 (more_of-Ty b end_of-Ty) n) = if nat_eq m n then same_ty a b else false
same_ty (ty.Struct j) (ty.Struct k) = nat_eq j.0 k.0
same_ty _ _ = false

abbrev pub pointer_int : Bin → Span → Bool → Ty → Pexpr → ex.Expr → Verdict Typed
pointer_int bin.Add at b u q y = Ok (t.Ptr u (p.Plus q y))
pointer_int bin.Sub at b u q y = Ok (t.Ptr u (p.Minus q y))
pointer_int op at b u q y = if b then Ok (compared op at q p.Null) else Err (fault WrongType at)

-- two sides of the kinds that the operator needs; `a` and `b` say which of them is the literal 0
abbrev pub sides : Bin → Span → Bool → Bool → Typed → Typed → Verdict Typed
sides op at a b (t.Int x xs) (t.Int y ys) = Ok (t.Int (e.Bin op x y) (xs ++ ys))
sides op at a b (t.Ptr u q) (t.Int y ys) = pointer_int op at b u q y
sides op at a b (t.Int x xs) (t.Ptr u q) = if a then Ok (compared op at p.Null q) else Err (fault WrongType at)
sides op at a b (t.Ptr u q) (t.Ptr v r) = if same_ty u v then Ok (compared op at q r) else Err (fault WrongType at)
sides op at a b _ _ = Err (fault WrongType at)

abbrev pub binary : Bin → Span → Bool → Span → Verdict Typed → Bool → Span → Verdict Typed → Verdict Typed
binary op at a left x b right y = both (sides op at a b) (as_value (left_need op) left x) (as_value (right_need op) right y)

-- ---- unary operators

abbrev pub negated : Prefix → Typed → Verdict Typed
negated op (t.Int x xs) = Ok (t.Int (e.Un (un_of op) x) xs)
negated op v = Ok v

abbrev pub followed : Typed → Verdict Typed
followed (t.Ptr a q) = Ok (t.Place a (lval.Deref q))
followed v = Ok v

abbrev pub addressed : Span → Typed → Verdict Typed
addressed at (t.Place a l) = Ok (t.Ptr a (p.Address l))
addressed at v = Err (fault NotLvalue at)

-- where a place is wanted, a function's name is none
abbrev pub unless_function : Bool → Span → Verdict Typed → Verdict Typed
unless_function true at v = Err (fault NotLvalue at)
unless_function false at v = v

-- `b` says whether the operand is a function's name
abbrev pub unary : Prefix → Bool → Span → Verdict Typed → Verdict Typed
unary pre.Deref b part v = on followed (as_value need.Pointer part v)
unary pre.Address b part v = on (addressed part) (unless_function b part v)
unary op b part v = on (negated op) (as_value need.Int part v)

-- ---- `?:`, indices, members, names

abbrev pub chosen : Typed → Typed → Typed → Typed
chosen (t.Int x xs) (t.Int y ys) (t.Int z zs) = t.Int (e.Cond x y z) ((xs ++ ys) ++ zs)
chosen (t.Int x xs) (t.Int y ys) w = w
chosen (t.Int x xs) v w = v
chosen u v w = u

abbrev pub cond : Span → Verdict Typed → Span → Verdict Typed → Span → Verdict Typed → Verdict Typed
cond test x first y second z = both (λ u p. Ok (chosen u p.0 p.1)) (as_value need.Int test x) (both pair (as_value need.Int first y) (as_value need.Int second z))

abbrev pub indexed : Typed → Typed → Verdict Typed
indexed (t.Ptr a q) (t.Int i is) = Ok (t.Place a (lval.Deref (p.Plus q i)))
indexed v w = Ok v

abbrev pub index : Span → Verdict Typed → Span → Verdict Typed → Verdict Typed
index left x right y = both indexed (as_value need.Pointer left x) (as_value need.Int right y)

abbrev pub field : word.Name → Lval → Option (ℕ × Ty) → Verdict Typed
field x l None = Err (fault MissingField x.span)
field x l (Some f) = Ok (t.Place f.1 (lval.Field l f.0))

abbrev pub field_of : List Struct → word.Name → Span → Option StructId → Lval → Verdict Typed
field_of structs x part None l = Err (fault WrongType part)
field_of structs x part (Some k) l = field x l (member_of structs k x.text)

abbrev pub selected : List Struct → word.Name → Span → Typed → Verdict Typed
selected structs x part (t.Place a l) = field_of structs x part (struct_of a) l
selected structs x part v = Ok v

abbrev pub pointed : List Struct → word.Name → Span → Typed → Verdict Typed
pointed structs x part (t.Ptr a q) = field_of structs x part (struct_of a) (lval.Deref q)
pointed structs x part v = Ok v

abbrev pub member : List Struct → word.Name → Span → Verdict Typed → Verdict Typed
member structs x part v = on (selected structs x part) (as_value need.Struct part v)

abbrev pub arrow : List Struct → word.Name → Span → Verdict Typed → Verdict Typed
arrow structs x part v = on (pointed structs x part) (as_value need.StructPointer part v)

abbrev pub denoted : Span → Entity → Verdict Typed
denoted at (entity.Variable id u) = Ok (t.Place u (lval.Var id))
denoted at (entity.Function k) = Err (fault WrongType at)

abbrev pub named : Span → Option Entry → Verdict Typed
named at None = Err (fault UnknownName at)
named at (Some d) = denoted at d.entity

-- ---- the whole

abbrev pub verdict_of : Env → Expr → Verdict Typed
verdict_of env (Name at x) = named at (innermost x env.names)
verdict_of env (Number at n) = Ok (t.Int (e.Num n) [])
verdict_of env (Unary' at op s (more_of-Expr a end_of-Expr)) = unary op (is_function env.names a) (span_of a) (verdict_of env a)
verdict_of env (Binary' at op s (more_of-Expr a end_of-Expr) s2 (more_of-Expr b end_of-Expr)) =
    binary op at (is_zero a) (span_of a) (verdict_of env a) (is_zero b) (span_of b) (verdict_of env b)
verdict_of env (Cond' at s (more_of-Expr c end_of-Expr) s2 (more_of-Expr a end_of-Expr) s3 (more_of-Expr b end_of-Expr)) =
    cond (span_of c) (verdict_of env c) (span_of a) (verdict_of env a) (span_of b) (verdict_of env b)
verdict_of env (Index' at s (more_of-Expr a end_of-Expr) s2 (more_of-Expr b end_of-Expr)) =
    index (span_of a) (verdict_of env a) (span_of b) (verdict_of env b)
verdict_of env (Member' at s (more_of-Expr a end_of-Expr) x) = member env.structs x (span_of a) (verdict_of env a)
verdict_of env (Arrow' at s (more_of-Expr a end_of-Expr) x) = arrow env.structs x (span_of a) (verdict_of env a)
verdict_of env (Call' at s r s2 r2) = Err (fault WrongType at)
