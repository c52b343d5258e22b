-- The definitions on types and trees, one equation for each constructor that has children.
use Rattle.std.proofs.Common.{zero, suc, [], ◌∷◌, ◌+◌, ◌-◌, ◌<◌, ◌≡◌, ℕ, ◌*◌, List, refl, arith}
use Rattle.ax_prog.specs.declared.Ty.{Ty, Array, Ptr}
use Rattle.ax_prog.specs.declared.Ty.TheBlock.{shape-the_row-Ty-0, hidden-the_row-Ty-0}
use Rattle.ax_prog.specs.declared.Lval.{Lval, Deref, Field}
use Rattle.ax_prog.specs.declared.Pexpr.{Pexpr}
use Rattle.ax_prog.specs.declared.Pexpr.TheVariants as p
use Rattle.ax_prog.specs.declared.Expr.{Expr}
use Rattle.ax_prog.specs.declared.Expr.TheVariants as e
use Rattle.ax_prog.specs.declared.Atom.{Atom}
use Rattle.ax_prog.specs.declared.Atom.TheBlock.{shape-the_row-Atom-0, hidden-the_row-Atom-0, shape-the_row-Expr-1, hidden-the_row-Expr-1, shape-the_row-Pexpr-2, hidden-the_row-Pexpr-2, shape-the_row-Lval-3, hidden-the_row-Lval-3}
use Rattle.ax_prog.specs.declared.Un.{Un}
use Rattle.ax_prog.specs.declared.Bin.{Bin}
use Rattle.ax_prog.specs.declared.Program.{Program}
use Rattle.ax_meaning.specs.declared.Cell.{Cell}
use Rattle.ax_meaning.specs.declared.Store.{Store}
use Rattle.ax_meaning.specs.Answer.{with_value, with_values}
use Rattle.ax_meaning.specs.Operators.{unary_value, binary_value, choice_value}
use Rattle.ax_meaning.specs.Types.{cell_number, cells_of, cells_before, sizes_of, pointee_of, element_of, elements_of, field_of, offset_of, type_of, target_of}
use Rattle.ax_meaning.specs.Store.{pointer_at}
use Rattle.ax_meaning.specs.Values.{value_of, atom_of, place_of, pointer_of, address_of, deref, moved, moved_back, first_of_array, further}
use Rattle.ax_meaning.specs.Runs.{zeros, repeated}
use denote.Hole.Carrier
use native.Mathlib.Numerals.{unary_clauses}

pub cells_of-Array : (sizes : List ℕ) (t : Ty) (n : ℕ) → cells_of sizes (Array t n) ≡ cell_number (n * cells_of sizes t)
unfolding shape-the_row-Ty-0 hidden-the_row-Ty-0 Carrier.hidden
cells_of-Array sizes t n = refl

pub pointee_of-Ptr : (t : Ty) → pointee_of (Ptr t) ≡ t
unfolding shape-the_row-Ty-0 hidden-the_row-Ty-0 Carrier.hidden
pointee_of-Ptr t = refl

pub element_of-Array : (t : Ty) (n : ℕ) → element_of (Array t n) ≡ t
unfolding shape-the_row-Ty-0 hidden-the_row-Ty-0 Carrier.hidden
element_of-Array t n = refl

pub zeros-Array : (structs : List (List Cell)) (t : Ty) (n : ℕ) → zeros structs (Array t n) ≡ repeated n (zeros structs t)
unfolding shape-the_row-Ty-0 hidden-the_row-Ty-0 Carrier.hidden
zeros-Array structs t n = refl

pub type_of-Deref : (cx : Program) (q : Pexpr) → type_of cx (Deref q) ≡ target_of cx q
unfolding shape-the_row-Atom-0 hidden-the_row-Atom-0 shape-the_row-Expr-1 hidden-the_row-Expr-1 shape-the_row-Pexpr-2 hidden-the_row-Pexpr-2 shape-the_row-Lval-3 hidden-the_row-Lval-3 Carrier.hidden
type_of-Deref cx q = refl

pub type_of-Field : (cx : Program) (l : Lval) (at : ℕ) → type_of cx (Field l at) ≡ field_of cx.structs (type_of cx l) at
unfolding shape-the_row-Atom-0 hidden-the_row-Atom-0 shape-the_row-Expr-1 hidden-the_row-Expr-1 shape-the_row-Pexpr-2 hidden-the_row-Pexpr-2 shape-the_row-Lval-3 hidden-the_row-Lval-3 Carrier.hidden
type_of-Field cx l at = refl

pub target_of-Read : (cx : Program) (l : Lval) → target_of cx (p.Read l) ≡ pointee_of (type_of cx l)
unfolding shape-the_row-Atom-0 hidden-the_row-Atom-0 shape-the_row-Expr-1 hidden-the_row-Expr-1 shape-the_row-Pexpr-2 hidden-the_row-Pexpr-2 shape-the_row-Lval-3 hidden-the_row-Lval-3 Carrier.hidden
target_of-Read cx l = refl

pub target_of-Decay : (cx : Program) (l : Lval) → target_of cx (p.Decay l) ≡ element_of (type_of cx l)
unfolding shape-the_row-Atom-0 hidden-the_row-Atom-0 shape-the_row-Expr-1 hidden-the_row-Expr-1 shape-the_row-Pexpr-2 hidden-the_row-Pexpr-2 shape-the_row-Lval-3 hidden-the_row-Lval-3 Carrier.hidden
target_of-Decay cx l = refl

pub target_of-Address : (cx : Program) (l : Lval) → target_of cx (p.Address l) ≡ type_of cx l
unfolding shape-the_row-Atom-0 hidden-the_row-Atom-0 shape-the_row-Expr-1 hidden-the_row-Expr-1 shape-the_row-Pexpr-2 hidden-the_row-Pexpr-2 shape-the_row-Lval-3 hidden-the_row-Lval-3 Carrier.hidden
target_of-Address cx l = refl

pub target_of-Plus : (cx : Program) (q : Pexpr) (i : Expr) → target_of cx (p.Plus q i) ≡ target_of cx q
unfolding shape-the_row-Atom-0 hidden-the_row-Atom-0 shape-the_row-Expr-1 hidden-the_row-Expr-1 shape-the_row-Pexpr-2 hidden-the_row-Pexpr-2 shape-the_row-Lval-3 hidden-the_row-Lval-3 Carrier.hidden
target_of-Plus cx q i = refl

pub target_of-Minus : (cx : Program) (q : Pexpr) (i : Expr) → target_of cx (p.Minus q i) ≡ target_of cx q
unfolding shape-the_row-Atom-0 hidden-the_row-Atom-0 shape-the_row-Expr-1 hidden-the_row-Expr-1 shape-the_row-Pexpr-2 hidden-the_row-Pexpr-2 shape-the_row-Lval-3 hidden-the_row-Lval-3 Carrier.hidden
target_of-Minus cx q i = refl

pub cells_before-none : (sizes : List ℕ) (at : ℕ) → cells_before sizes [] at ≡ 0
cells_before-none sizes at = refl

pub cells_before-first : (sizes : List ℕ) (f : List ℕ × Ty) (fs : List (List ℕ × Ty)) (at : ℕ) → at ≡ 0 → cells_before sizes (f ∷ fs) at ≡ 0
cells_before-first sizes f fs zero h = refl
cells_before-first sizes f fs (suc at) h = cc

pub cells_before-more : (sizes : List ℕ) (f : List ℕ × Ty) (fs : List (List ℕ × Ty)) (at : ℕ) → 0 < at → cells_before sizes (f ∷ fs) at ≡ cell_number (cells_of sizes f.1 + cells_before sizes fs (at - 1))
cells_before-more sizes f fs zero h = absurd (omega arith)
cells_before-more sizes f fs (suc at) h = simp unary_clauses refl

pub ruleset types = (cells_before-none, cells_before-first, cells_before-more, cells_of-Array, pointee_of-Ptr, element_of-Array, zeros-Array, type_of-Deref, type_of-Field, target_of-Read, target_of-Decay, target_of-Address, target_of-Plus, target_of-Minus)

pub value_of-Atom : (cx : Program) (m : Store) (a : Atom) → value_of cx m (e.Atom a) ≡ atom_of cx m a
unfolding shape-the_row-Atom-0 hidden-the_row-Atom-0 shape-the_row-Expr-1 hidden-the_row-Expr-1 shape-the_row-Pexpr-2 hidden-the_row-Pexpr-2 shape-the_row-Lval-3 hidden-the_row-Lval-3 Carrier.hidden
value_of-Atom cx m a = refl

pub value_of-Un : (cx : Program) (m : Store) (op : Un) (a : Expr) → value_of cx m (e.Un op a) ≡ with_value (unary_value op) (value_of cx m a)
unfolding shape-the_row-Atom-0 hidden-the_row-Atom-0 shape-the_row-Expr-1 hidden-the_row-Expr-1 shape-the_row-Pexpr-2 hidden-the_row-Pexpr-2 shape-the_row-Lval-3 hidden-the_row-Lval-3 Carrier.hidden
value_of-Un cx m op a = refl

pub value_of-Bin : (cx : Program) (m : Store) (op : Bin) (a b : Expr) → value_of cx m (e.Bin op a b) ≡ binary_value op (value_of cx m a) (value_of cx m b)
unfolding shape-the_row-Atom-0 hidden-the_row-Atom-0 shape-the_row-Expr-1 hidden-the_row-Expr-1 shape-the_row-Pexpr-2 hidden-the_row-Pexpr-2 shape-the_row-Lval-3 hidden-the_row-Lval-3 Carrier.hidden
value_of-Bin cx m op a b = refl

pub value_of-Cond : (cx : Program) (m : Store) (f a b : Expr) → value_of cx m (e.Cond f a b) ≡ choice_value (value_of cx m f) (value_of cx m a) (value_of cx m b)
unfolding shape-the_row-Atom-0 hidden-the_row-Atom-0 shape-the_row-Expr-1 hidden-the_row-Expr-1 shape-the_row-Pexpr-2 hidden-the_row-Pexpr-2 shape-the_row-Lval-3 hidden-the_row-Lval-3 Carrier.hidden
value_of-Cond cx m f a b = refl

pub place_of-Deref : (cx : Program) (m : Store) (q : Pexpr) → place_of cx m (Deref q) ≡ with_value deref (pointer_of cx m q)
unfolding shape-the_row-Atom-0 hidden-the_row-Atom-0 shape-the_row-Expr-1 hidden-the_row-Expr-1 shape-the_row-Pexpr-2 hidden-the_row-Pexpr-2 shape-the_row-Lval-3 hidden-the_row-Lval-3 Carrier.hidden
place_of-Deref cx m q = refl

pub place_of-Field : (cx : Program) (m : Store) (l : Lval) (at : ℕ) → place_of cx m (Field l at) ≡ with_value (further (offset_of (sizes_of cx) cx.structs (type_of cx l) at)) (place_of cx m l)
unfolding shape-the_row-Atom-0 hidden-the_row-Atom-0 shape-the_row-Expr-1 hidden-the_row-Expr-1 shape-the_row-Pexpr-2 hidden-the_row-Pexpr-2 shape-the_row-Lval-3 hidden-the_row-Lval-3 Carrier.hidden
place_of-Field cx m l at = refl

pub pointer_of-Read : (cx : Program) (m : Store) (l : Lval) → pointer_of cx m (p.Read l) ≡ with_value (pointer_at m) (place_of cx m l)
unfolding shape-the_row-Atom-0 hidden-the_row-Atom-0 shape-the_row-Expr-1 hidden-the_row-Expr-1 shape-the_row-Pexpr-2 hidden-the_row-Pexpr-2 shape-the_row-Lval-3 hidden-the_row-Lval-3 Carrier.hidden
pointer_of-Read cx m l = refl

pub pointer_of-Decay : (cx : Program) (m : Store) (l : Lval) → pointer_of cx m (p.Decay l) ≡ with_value (first_of_array (cells_of (sizes_of cx) (element_of (type_of cx l))) (elements_of (type_of cx l))) (place_of cx m l)
unfolding shape-the_row-Atom-0 hidden-the_row-Atom-0 shape-the_row-Expr-1 hidden-the_row-Expr-1 shape-the_row-Pexpr-2 hidden-the_row-Pexpr-2 shape-the_row-Lval-3 hidden-the_row-Lval-3 Carrier.hidden
pointer_of-Decay cx m l = refl

pub pointer_of-Address : (cx : Program) (m : Store) (l : Lval) → pointer_of cx m (p.Address l) ≡ address_of cx m l
unfolding shape-the_row-Atom-0 hidden-the_row-Atom-0 shape-the_row-Expr-1 hidden-the_row-Expr-1 shape-the_row-Pexpr-2 hidden-the_row-Pexpr-2 shape-the_row-Lval-3 hidden-the_row-Lval-3 Carrier.hidden
pointer_of-Address cx m l = refl

pub address_of-Deref : (cx : Program) (m : Store) (q : Pexpr) → address_of cx m (Deref q) ≡ pointer_of cx m q
unfolding shape-the_row-Atom-0 hidden-the_row-Atom-0 shape-the_row-Expr-1 hidden-the_row-Expr-1 shape-the_row-Pexpr-2 hidden-the_row-Pexpr-2 shape-the_row-Lval-3 hidden-the_row-Lval-3 Carrier.hidden
address_of-Deref cx m q = refl

pub address_of-Field : (cx : Program) (m : Store) (l : Lval) (at : ℕ) → address_of cx m (Field l at) ≡ with_value (first_of_array (cells_of (sizes_of cx) (type_of cx (Field l at))) 1) (with_value (further (offset_of (sizes_of cx) cx.structs (type_of cx l) at)) (place_of cx m l))
unfolding shape-the_row-Atom-0 hidden-the_row-Atom-0 shape-the_row-Expr-1 hidden-the_row-Expr-1 shape-the_row-Pexpr-2 hidden-the_row-Pexpr-2 shape-the_row-Lval-3 hidden-the_row-Lval-3 Carrier.hidden
address_of-Field cx m l at = refl

pub pointer_of-Plus : (cx : Program) (m : Store) (q : Pexpr) (i : Expr) → pointer_of cx m (p.Plus q i) ≡ with_values moved (pointer_of cx m q) (value_of cx m i)
unfolding shape-the_row-Atom-0 hidden-the_row-Atom-0 shape-the_row-Expr-1 hidden-the_row-Expr-1 shape-the_row-Pexpr-2 hidden-the_row-Pexpr-2 shape-the_row-Lval-3 hidden-the_row-Lval-3 Carrier.hidden
pointer_of-Plus cx m q i = refl

pub pointer_of-Minus : (cx : Program) (m : Store) (q : Pexpr) (i : Expr) → pointer_of cx m (p.Minus q i) ≡ with_values moved_back (pointer_of cx m q) (value_of cx m i)
unfolding shape-the_row-Atom-0 hidden-the_row-Atom-0 shape-the_row-Expr-1 hidden-the_row-Expr-1 shape-the_row-Pexpr-2 hidden-the_row-Pexpr-2 shape-the_row-Lval-3 hidden-the_row-Lval-3 Carrier.hidden
pointer_of-Minus cx m q i = refl

pub ruleset values = (value_of-Atom, value_of-Un, value_of-Bin, value_of-Cond, place_of-Deref, place_of-Field, pointer_of-Read, pointer_of-Decay, pointer_of-Address, address_of-Deref, address_of-Field, pointer_of-Plus, pointer_of-Minus)
