-- The value of an expression, the place of an lvalue and the value of a pointer expression in a store (C11 6.5): or the cause of
-- the first undefined act in order of evaluation.
use Rattle.std.specs.Prelude.{ℕ, ◌+◌, ◌*◌, ℤ, pos, negsuc, neg_ℤ, ◌+ℤ◌, nat_lt, nat_le, ◌==◌, ◌&&◌, Bool, true, false, not, if◌then◌else◌, Ok, Err, slice_get}
use Rattle.ax_base.specs.Arithmetic.{truth}
use Rattle.ax_prog.specs.declared.Expr.{Expr, Num, Atom', Un', Bin', Cond'}
use Rattle.ax_prog.specs.declared.Atom.TheBlock.{more_of-Expr, end_of-Expr, more_of-Atom, end_of-Atom, more_of-Lval, end_of-Lval, more_of-Pexpr, end_of-Pexpr}
use Rattle.ax_prog.specs.declared.Atom.{Atom}
use Rattle.ax_prog.specs.declared.Atom.TheVariants as atom
use Rattle.ax_prog.specs.declared.Lval.{Lval, Deref', Field'}
use Rattle.ax_prog.specs.declared.Lval.TheVariants as lval
use Rattle.ax_prog.specs.declared.Pexpr.{Pexpr}
use Rattle.ax_prog.specs.declared.Pexpr.TheVariants as p
use Rattle.ax_prog.specs.declared.Program.{Program}
use Rattle.ax_meaning.specs.declared.Why.TheVariants.{NullAccess, OutOfBounds}
use Rattle.ax_meaning.specs.declared.Spot.{Spot}
use Rattle.ax_meaning.specs.declared.Pointer.{Pointer}
use Rattle.ax_meaning.specs.declared.Pointer.TheVariants.{Null, At}
use Rattle.ax_meaning.specs.declared.Place.{Place}
use Rattle.ax_meaning.specs.declared.Store.{Store}
use Rattle.ax_meaning.specs.Answer.{Answer, with_value, with_values}
use Rattle.ax_meaning.specs.Operators.{unary_value, binary_value, choice_value}
use Rattle.ax_meaning.specs.Types.{cell_number, cells_of, sizes_of, element_of, elements_of, offset_of, type_of}
use Rattle.ax_meaning.specs.Store.{int_at, pointer_at, place_named}

-- ---- pointers

abbrev pub cell_of : Spot → ℕ
cell_of s = cell_number (s.start + s.size * s.index)

-- 6.5.3.2p4: what a pointer points at, which is an element
abbrev pub deref : Pointer → Answer Place
deref Null = Err NullAccess
deref (At s) = if nat_lt s.index s.count then Ok (record { object = s.object; cell = cell_of s }) else Err OutOfBounds

abbrev pub at_index : Spot → ℤ → Answer Pointer
at_index s (pos n) = if nat_le n s.count then Ok (At (record s { index = n })) else Err OutOfBounds
at_index s (negsuc n) = Err OutOfBounds

-- 6.5.6p8: a pointer moves within its array, and to the place after its last element
abbrev pub moved : Pointer → ℤ → Answer Pointer
moved Null i = Err NullAccess
moved (At s) i = at_index s (pos s.index +ℤ i)

abbrev pub moved_back : Pointer → ℤ → Answer Pointer
moved_back q i = moved q (neg_ℤ i)

-- 6.5.9p6, but for ends and ended objects, where the rule is this language's own: two pointers are equal where both are null,
-- or are in one object at one cell. So a pointer past the end of an object equals none to another object.
abbrev pub same_pointer : Pointer → Pointer → Bool
same_pointer Null Null = true
same_pointer Null (At s) = false
same_pointer (At s) Null = false
same_pointer (At s) (At t) = (s.object == t.object) && (cell_of s == cell_of t)

abbrev pub same_value : Pointer → Pointer → Answer ℤ
same_value q r = Ok (truth (same_pointer q r))

abbrev pub differ_value : Pointer → Pointer → Answer ℤ
differ_value q r = Ok (truth (not (same_pointer q r)))

-- 6.3.2.1p3: the first of so many elements of this size, from this place on
abbrev pub first_of_array : ℕ → ℕ → Place → Answer Pointer
first_of_array size count at = Ok (At (record { object = at.object; start = at.cell; size = size; count = count; index = 0 }))

-- 6.5.2.3: so many cells further on in the object
abbrev pub further : ℕ → Place → Answer Place
further n at = Ok (record at { cell = cell_number (at.cell + n) })

-- ---- trees

abbrev mutual
  -- 6.5.1 to 6.5.15: the value of an int expression
  pub value_of : Program → Store → Expr → Answer ℤ
  value_of cx m (Num n) = Ok n
  value_of cx m (Atom' s (more_of-Atom a end_of-Atom)) = atom_of cx m a
  value_of cx m (Un' op s (more_of-Expr a end_of-Expr)) = with_value (unary_value op) (value_of cx m a)
  value_of cx m (Bin' op s (more_of-Expr a end_of-Expr) t (more_of-Expr b end_of-Expr)) = binary_value op (value_of cx m a) (value_of cx m b)
  value_of cx m (Cond' s (more_of-Expr f end_of-Expr) t (more_of-Expr a end_of-Expr) u (more_of-Expr b end_of-Expr)) =
      choice_value (value_of cx m f) (value_of cx m a) (value_of cx m b)

  -- 6.3.2.1p2, 6.5.9: the int that is read, or the truth of a comparison of pointers
  pub atom_of : Program → Store → Atom → Answer ℤ
  atom_of cx m (atom.Read l) = with_value (int_at m) (place_of cx m l)
  atom_of cx m (atom.Same q r) = with_values same_value (pointer_of cx m q) (pointer_of cx m r)
  atom_of cx m (atom.Differ q r) = with_values differ_value (pointer_of cx m q) (pointer_of cx m r)

  -- 6.5.1p2, 6.5.3.2p4, 6.5.2.3: the place of a variable, of what a pointer points at, of a member
  pub place_of : Program → Store → Lval → Answer Place
  place_of cx m (lval.Var v) = place_named (slice_get m.named v.0)
  place_of cx m (Deref' s (more_of-Pexpr q end_of-Pexpr)) = with_value deref (pointer_of cx m q)
  place_of cx m (Field' s (more_of-Lval l end_of-Lval) at) =
      with_value (further (offset_of (sizes_of cx) cx.structs (type_of cx l) at)) (place_of cx m l)

  -- 6.3.2.3p3, 6.3.2.1p3, 6.5.3.2p3, 6.5.6p8: the value of a pointer expression
  pub pointer_of : Program → Store → Pexpr → Answer Pointer
  pointer_of cx m p.Null = Ok Null
  pointer_of cx m (p.Read' s (more_of-Lval l end_of-Lval)) = with_value (pointer_at m) (place_of cx m l)
  pointer_of cx m (p.Decay' s (more_of-Lval l end_of-Lval)) =
      with_value (first_of_array (cells_of (sizes_of cx) (element_of (type_of cx l))) (elements_of (type_of cx l))) (place_of cx m l)
  pointer_of cx m (p.Address' s (more_of-Lval l end_of-Lval)) = address_of cx m l
  pointer_of cx m (p.Plus' s (more_of-Pexpr q end_of-Pexpr) t (more_of-Expr i end_of-Expr)) =
      with_values moved (pointer_of cx m q) (value_of cx m i)
  pointer_of cx m (p.Minus' s (more_of-Pexpr q end_of-Pexpr) t (more_of-Expr i end_of-Expr)) =
      with_values moved_back (pointer_of cx m q) (value_of cx m i)

  -- 6.5.3.2p3: `&*p` is `p`, without access; another place is an array of one element (6.5.6p7)
  pub address_of : Program → Store → Lval → Answer Pointer
  address_of cx m (lval.Var v) =
      with_value (first_of_array (cells_of (sizes_of cx) (type_of cx (lval.Var v))) 1) (place_named (slice_get m.named v.0))
  address_of cx m (Deref' s (more_of-Pexpr q end_of-Pexpr)) = pointer_of cx m q
  address_of cx m (Field' s (more_of-Lval l end_of-Lval) at) =
      with_value (first_of_array (cells_of (sizes_of cx) (type_of cx (Field' s (more_of-Lval l end_of-Lval) at))) 1)
      (with_value (further (offset_of (sizes_of cx) cx.structs (type_of cx l) at)) (place_of cx m l))
