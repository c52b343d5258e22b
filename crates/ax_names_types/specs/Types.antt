-- Types of operands and of what they are as values (C11 6.3.2.1, 6.5).
use Rattle.std.specs.Prelude.{◌≡◌, ℕ, zero, nat_eq, ◌==◌, ◌&&◌, ℤ, pos, Bool, true, false, List, [], ◌∷◌, Option, Some, None, is_some}
use Rattle.ax_prog.specs.declared.Span.{Span}
use Rattle.ax_prog.specs.declared.Ty.{Ty, Ptr', Array', more_of-Ty, end_of-Ty}
use Rattle.ax_prog.specs.declared.Ty.TheVariants as ty
use Rattle.ax_prog.specs.declared.StructId.{StructId}
use Rattle.ax_prog.specs.declared.Un.{Un}
use Rattle.ax_prog.specs.declared.Un.TheVariants as un
use Rattle.ax_prog.specs.declared.Bin.{Bin}
use Rattle.ax_prog.specs.declared.Bin.TheVariants as bin
use Rattle.ax_prog.specs.declared.Expr.TheVariants as e
use Rattle.ax_prog.specs.declared.Atom.{Atom}
use Rattle.ax_prog.specs.declared.Atom.TheVariants as atom
use Rattle.ax_prog.specs.declared.Lval.{Lval}
use Rattle.ax_prog.specs.declared.Pexpr.{Pexpr}
use Rattle.ax_prog.specs.declared.Pexpr.TheVariants as p
use Rattle.ax_parse_grammar.specs.declared.tree.Prefix.{Prefix}
use Rattle.ax_parse_grammar.specs.declared.tree.Prefix.TheVariants as pre
use Rattle.ax_parse_grammar.specs.declared.tree.Expr.{Expr, Name, Number, Unary', Binary', Cond', Index', Member', Arrow', Call'}
use Rattle.ax_names_types.specs.declared.Need.{Need}
use Rattle.ax_names_types.specs.declared.Need.TheVariants as need
use Rattle.ax_names_types.specs.declared.Typed.{Typed}
use Rattle.ax_names_types.specs.declared.Typed.TheVariants as t

-- 6.3.2.1p2, p3: a place is read as its number or its pointer, and an array is a pointer to its first element; a struct stays a place
abbrev pub value_of_place : Span → Ty → Lval → Typed
value_of_place at ty.Int l = t.Int (e.Atom (atom.Read l)) ((atom.Read l, at) ∷ [])
value_of_place at (Ptr' s (more_of-Ty a end_of-Ty)) l = t.Ptr a (p.Read l)
value_of_place at (Array' s (more_of-Ty a end_of-Ty) n) l = t.Ptr a (p.Decay l)
value_of_place at (ty.Struct k) l = t.Place (ty.Struct k) l

-- what an operand with this span is as a value
abbrev pub value_of : Span → Typed → Typed
value_of at (t.Place a l) = value_of_place at a l
value_of at (t.Int x atoms) = t.Int x atoms
value_of at (t.Ptr a q) = t.Ptr a q

-- which struct a type is
abbrev pub struct_of : Ty → Option StructId
struct_of (ty.Struct k) = Some k
struct_of ty.Int = None
struct_of (Ptr' s row) = None
struct_of (Array' s row n) = None

-- the value is of this kind
abbrev pub meets : Need → Typed → Bool
meets need.Int (t.Int x atoms) = true
meets need.Int (t.Ptr a q) = false
meets need.Int (t.Place a l) = false
meets need.Scalar (t.Int x atoms) = true
meets need.Scalar (t.Ptr a q) = true
meets need.Scalar (t.Place a l) = false
meets need.Pointer (t.Int x atoms) = false
meets need.Pointer (t.Ptr a q) = true
meets need.Pointer (t.Place a l) = false
meets need.Struct (t.Int x atoms) = false
meets need.Struct (t.Ptr a q) = false
meets need.Struct (t.Place a l) = is_some (struct_of a)
meets need.StructPointer (t.Int x atoms) = false
meets need.StructPointer (t.Ptr a q) = is_some (struct_of a)
meets need.StructPointer (t.Place a l) = false

-- the left operand of `+`, `-`, `==` and `!=` may be a pointer, the right one of `==` and `!=` too
abbrev pub left_need : Bin → Need
left_need bin.Add = need.Scalar
left_need bin.Sub = need.Scalar
left_need bin.Eq = need.Scalar
left_need bin.Ne = need.Scalar
left_need _ = need.Int

abbrev pub right_need : Bin → Need
right_need bin.Eq = need.Scalar
right_need bin.Ne = need.Scalar
right_need _ = need.Int

abbrev pub unary_need : Prefix → Need
unary_need pre.Deref = need.Pointer
unary_need _ = need.Int

abbrev pub is_comparison : Bin → Bool
is_comparison bin.Eq = true
is_comparison bin.Ne = true
is_comparison _ = false

abbrev pub is_address : Prefix → Bool
is_address pre.Address = true
is_address _ = false

abbrev pub is_arithmetic : Prefix → Bool
is_arithmetic pre.Deref = false
is_arithmetic pre.Address = false
is_arithmetic _ = true

abbrev pub un_of : Prefix → Un
un_of pre.Not = un.Not
un_of pre.BitNot = un.BitNot
un_of _ = un.Neg

-- 6.5.9: a comparison of pointers is one atom
abbrev pub compared : Bin → Span → Pexpr → Pexpr → Typed
compared bin.Ne at q r = t.Int (e.Atom (atom.Differ q r)) ((atom.Differ q r, at) ∷ [])
compared _ at q r = t.Int (e.Atom (atom.Same q r)) ((atom.Same q r, at) ∷ [])

abbrev pub is_zero_number : ℤ → Bool
is_zero_number (pos zero) = true
is_zero_number _ = false

-- the literal 0, which stands for the null pointer too (6.3.2.3p3)
abbrev pub is_zero : Expr → Bool
is_zero (Number at n) = is_zero_number n
is_zero (Name at x) = false
is_zero (Unary' at op s r) = false
is_zero (Binary' at op s r s2 r2) = false
is_zero (Cond' at s r s2 r2 s3 r3) = false
is_zero (Index' at s r s2 r2) = false
is_zero (Member' at s r x) = false
is_zero (Arrow' at s r x) = false
is_zero (Call' at s r s2 r2) = false

abbrev pub is_call : Expr → Bool
is_call (Call' at s r s2 r2) = true
is_call (Name at x) = false
is_call (Number at n) = false
is_call (Unary' at op s r) = false
is_call (Binary' at op s r s2 r2) = false
is_call (Cond' at s r s2 r2 s3 r3) = false
is_call (Index' at s r s2 r2) = false
is_call (Member' at s r x) = false
is_call (Arrow' at s r x) = false
