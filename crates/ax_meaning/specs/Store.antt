-- The store: cells, the objects that they belong to, and which object a variable names (C11 3.15, 6.2.4).
use Rattle.std.specs.Prelude.{ℕ, ◌+◌, ℤ, nat_lt, ◌&&◌, true, false, if◌then◌else◌, List, [], ◌∷◌, ◌++◌, length, take, drop, map, Option, Some, None, Ok, Err, slice_get, slice_set}
use Rattle.ax_prog.specs.declared.VarId.{VarId}
use Rattle.ax_meaning.specs.declared.Why.TheVariants.{Uninit, OutOfBounds, DeadObject}
use Rattle.ax_meaning.specs.declared.Pointer.{Pointer}
use Rattle.ax_meaning.specs.declared.Cell.{Cell}
use Rattle.ax_meaning.specs.declared.Cell.TheVariants.{Empty, Int, Ptr}
use Rattle.ax_meaning.specs.declared.Place.{Place}
use Rattle.ax_meaning.specs.declared.Extent.{Extent}
use Rattle.ax_meaning.specs.declared.Store.{Store}
use Rattle.ax_meaning.specs.Answer.{Answer, with_value, value_or}

-- ---- access

-- where the cell of this number of an object stands among so many cells; 6.2.4p2, an object is not accessed after its end
abbrev pub index_in : ℕ → Option Extent → ℕ → Answer ℕ
index_in len None at = Err DeadObject
index_in len (Some o) at =
    if nat_lt at o.count && nat_lt (o.first + at) len then (if o.live then Ok (o.first + at) else Err DeadObject) else Err OutOfBounds

abbrev pub index_of : Store → Place → Answer ℕ
index_of m at = index_in (length m.cells) (slice_get m.objects at.object) at.cell

abbrev pub cell_at : Store → Place → Answer Cell
cell_at m at = with_value (λ i. value_or (slice_get m.cells i) OutOfBounds) (index_of m at)

-- 6.3.2.1p2, and for every cell this language's own rule: the value of a cell in which nothing was stored is not used
abbrev pub stored_in : Cell → Answer Cell
stored_in Empty = Err Uninit
stored_in (Int n) = Ok (Int n)
stored_in (Ptr q) = Ok (Ptr q)

abbrev pub int_in : Cell → Answer ℤ
int_in Empty = Err Uninit
int_in (Int n) = Ok n
int_in (Ptr q) = Err Uninit

abbrev pub pointer_in : Cell → Answer Pointer
pointer_in Empty = Err Uninit
pointer_in (Int n) = Err Uninit
pointer_in (Ptr q) = Ok q

abbrev pub stored_at : Store → Place → Answer Cell
stored_at m at = with_value stored_in (cell_at m at)

abbrev pub int_at : Store → Place → Answer ℤ
int_at m at = with_value int_in (cell_at m at)

abbrev pub pointer_at : Store → Place → Answer Pointer
pointer_at m at = with_value pointer_in (cell_at m at)

-- the store after a write
abbrev pub write : Store → Place → Cell → Answer Store
write m at c = with_value (λ i. Ok (record m { cells = slice_set m.cells i c })) (index_of m at)

-- ---- objects begin and end

-- the object that a variable names
abbrev pub place_named : Option (Option ℕ) → Answer Place
place_named None = Err DeadObject
place_named (Some None) = Err DeadObject
place_named (Some (Some o)) = Ok (record { object = o; cell = 0 })

-- 6.2.4p5 and p6: a variable's object begins with these cells
abbrev pub begin : VarId → List Cell → Store → Store
begin v cells m = record {
  cells = m.cells ++ cells;
  objects = m.objects ++ (record { live = true; first = length m.cells; count = length cells }) ∷ [];
  named = slice_set m.named v.0 (Some (length m.objects));
}

abbrev pub dead : Extent → Extent
dead o = record o { live = false }

abbrev pub end_extent : Option Extent → ℕ → List Extent → List Extent
end_extent None o objects = objects
end_extent (Some object) o objects = slice_set objects o (dead object)

-- the objects after the end of one of them
abbrev pub end_object : ℕ → List Extent → List Extent
end_object o objects = end_extent (slice_get objects o) o objects

abbrev pub end_named : Option (Option ℕ) → Store → Store
end_named None m = m
end_named (Some None) m = m
end_named (Some (Some o)) m = record m { objects = end_object o m.objects }

-- the object that a variable names ends
abbrev pub end_var : VarId → Store → Store
end_var v m = end_named (slice_get m.named v.0) m

-- the objects of these variables end, in this order
abbrev pub end_vars : List VarId → Store → Store
end_vars [] m = m
end_vars (v ∷ vs) m = end_vars vs (end_var v m)

-- the objects after the end of those from number n on
abbrev pub end_from : ℕ → List Extent → List Extent
end_from n objects = take n objects ++ map dead (drop n objects)

-- a call is over: the objects from number n on end, and variables name what they named before
abbrev pub leave : ℕ → List (Option ℕ) → Store → Store
leave n names m = record m { objects = end_from n m.objects; named = names }
