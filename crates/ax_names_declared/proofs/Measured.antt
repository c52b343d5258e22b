-- One struct more has its cells behind those of the others; capped numbers of cells.
use Rattle.std.proofs.Common.{◌≡◌, ℕ, suc, ◌+◌, ◌*◌, List, [], ◌∷◌, ◌++◌, map, refl, sym, ap, ◌∙◌, arith}
use Rattle.std.proofs.Math.Nat.{mul_comm, mul_assoc}
use Rattle.ax_prog.specs.declared.Ty.{Ty, Ptr', Array', more_of-Ty, end_of-Ty}
use Rattle.ax_prog.specs.declared.Ty.TheVariants as ty
use Rattle.ax_prog.specs.declared.Struct.{Struct}
use Rattle.ax_names_declared.specs.Cells.{cells_of, cells_in, cells_after, struct_cells, capped, measured}
use Rattle.ax_prog.specs.declared.Ty.TheBlock.{shape-the_row-Ty-0, hidden-the_row-Ty-0}
use Rattle.ax_names_declared.proofs.Counts.{capped_times, at_capped, pointer_cells}
use denote.Hole.Carrier

map_append : {X Y : Type 0} (f : X → Y) (xs ys : List X) → map f (xs ++ ys) ≡ map f xs ++ map f ys
map_append f [] ys = refl
map_append f (x ∷ xs) ys = ap (λ l. f x ∷ l) (map_append f xs ys)

capped_plus : (a b c d : ℕ) → capped a ≡ capped b → capped c ≡ capped d → capped (a + c) ≡ capped (b + d)
capped_plus a b c d e h = omega arith

capped_twice : (n : ℕ) → capped (capped n) ≡ capped n
capped_twice n = omega arith

capped_cells : (cells : List ℕ) (u : Ty) → capped (cells_of (map capped cells) u) ≡ capped (cells_of cells u)
capped_cells cells ty.Int = refl
capped_cells cells (Ptr' s r) = refl
capped_cells cells (Array' s (more_of-Ty t end_of-Ty) n) =
    sym (capped_times n (cells_of (map capped cells) t)) ∙ ap (λ m. capped (n * m)) (capped_cells cells t) ∙ capped_times n (cells_of cells t)
capped_cells cells (ty.Struct k) = ap capped (at_capped cells k.0) ∙ capped_twice _

capped_fields : (cells : List ℕ) (fields : List (List ℕ × Ty)) → capped (cells_in (map capped cells) fields) ≡ capped (cells_in cells fields)
capped_fields cells [] = refl
capped_fields cells (f ∷ rest) = capped_plus (cells_of (map capped cells) f.1) (cells_of cells f.1) (cells_in (map capped cells) rest) (cells_in cells rest) (capped_cells cells f.1) (capped_fields cells rest)

one_more : (cells : List ℕ) (structs : List Struct) (s : Struct) → cells_after cells (structs ++ s ∷ []) ≡ cells_after cells structs ++ cells_in (cells_after cells structs) s.fields ∷ []
one_more cells [] s = refl
one_more cells (r ∷ rest) s = one_more (cells ++ cells_in cells r.fields ∷ []) rest s

pub measured_more : (structs : List Struct) (s : Struct) → measured (structs ++ s ∷ []) ≡ measured structs ++ capped (cells_in (measured structs) s.fields) ∷ []
measured_more structs s =
    ap (map capped) (one_more [] structs s)
    ∙ map_append capped (struct_cells structs) (cells_in (struct_cells structs) s.fields ∷ [])
    ∙ ap (λ n. measured structs ++ n ∷ []) (sym (capped_fields (struct_cells structs) s.fields))

-- how many arrays stand around the element
abbrev pub depth : Ty → ℕ
depth ty.Int = 0
depth (Ptr' s r) = 0
depth (Array' s (more_of-Ty t end_of-Ty) n) = suc (depth t)
depth (ty.Struct k) = 0

pub array_layer : (cells : List ℕ) (t : Ty) (n : ℕ) → cells_of cells (ty.Array t n) ≡ n * cells_of cells t
unfolding shape-the_row-Ty-0 hidden-the_row-Ty-0 Carrier.hidden
array_layer cells t n = refl

pub depth_layer : (t : Ty) (n : ℕ) → depth (ty.Array t n) ≡ suc (depth t)
unfolding shape-the_row-Ty-0 hidden-the_row-Ty-0 Carrier.hidden
depth_layer t n = refl

times_capped : (a c : ℕ) → capped (capped a * c) ≡ capped (a * c)
times_capped a c = ap capped (mul_comm (capped a) c) ∙ capped_times c a ∙ ap capped (mul_comm c a)

pub times_array : (times n c : ℕ) → capped (capped (times * n) * c) ≡ capped (times * (n * c))
times_array times n c = times_capped (times * n) c ∙ ap capped (mul_assoc times n c)

pub ruleset layers = (array_layer, pointer_cells, depth_layer, times_array)
