-- The cells of what a declarator makes, by its base and its sizes; capped numbers of cells.
use Rattle.std.proofs.Common.{◌≡◌, ℕ, zero, suc, ◌*◌, ◌≤◌, List, [], ◌∷◌, map, Option, Some, None, Ok, Err, refl, sym, ap, ◌∙◌, arith, ⊎_elim}
use Rattle.std.specs.Prelude.{nat_le, slice_get}
use Rattle.std.specs.Prelude.{option_map}
use Rattle.std.proofs.lemmas.Bool.{cases_lt}
use Rattle.std.proofs.lemmas.Bool.Decides.{nat_tests}
use Rattle.std.proofs.lemmas.Option.{slice_get-map}
use Rattle.ax_prog.specs.declared.StructId.{StructId}
use Rattle.ax_prog.specs.declared.Ty.{Ty}
use Rattle.ax_prog.specs.declared.Ty.TheVariants as ty
use Rattle.ax_prog.specs.declared.Ty.TheBlock.{shape-the_row-Ty-0, hidden-the_row-Ty-0}
use Rattle.ax_parse_grammar.specs.declared.tree.Base.{Base}
use Rattle.ax_parse_grammar.specs.declared.tree.Size.{Size}
use Rattle.ax_names_types.specs.Types.{struct_of}
use Rattle.ax_names_declared.specs.Denotations.{pointers_to, count_of, arrays_of, Denotes}
use Rattle.ax_names_declared.specs.Cells.{or_zero, cells_of, capped}
use Rattle.ax_names_types.specs.Faults.{Verdict}
use Rattle.ax_names_declared.specs.Verdicts.{unit_cells, product, fits}
use denote.Hole.Carrier

pub array_cells : (cells : List ℕ) (sizes : List Size) (u : Ty) → cells_of cells (arrays_of sizes u) ≡ product sizes (cells_of cells u)
unfolding shape-the_row-Ty-0 hidden-the_row-Ty-0 Carrier.hidden
array_cells cells [] u = refl
array_cells cells (s ∷ rest) u = ap (λ n. count_of s.count * n) (array_cells cells rest u)

pub pointer_cells : (cells : List ℕ) (u : Ty) → cells_of cells (ty.Ptr u) ≡ 1
unfolding shape-the_row-Ty-0 hidden-the_row-Ty-0 Carrier.hidden
pointer_cells cells u = refl

pub base_cells : (cells : List ℕ) (tags : List (List ℕ)) (base : Base) (stars : ℕ) (u : Ty) → Denotes tags base u → cells_of cells (pointers_to stars u) ≡ unit_cells cells stars (struct_of u)
base_cells cells tags base (suc stars) u d = pointer_cells cells (pointers_to stars u)
base_cells cells tags base zero u (Denotes.int {at = at}) = refl
base_cells cells tags base zero u (Denotes.struct {at = at} {x = x} k e) = refl

times_more : (n a b : ℕ) → a ≤ b → n * a ≤ n * b
times_more zero a b h = omega arith
times_more (suc n) a b h = let k = times_more n a b h in omega arith

small : (n a : ℕ) → a ≤ 4097 → capped (n * capped a) ≡ capped (n * a)
small n a h = let e : capped a ≡ a = omega arith in ap (λ b. capped (n * b)) e

large : (n a : ℕ) → 4097 ≤ a → capped (suc n * capped a) ≡ capped (suc n * a)
large n a h =
    let e : capped a ≡ 4097 = omega arith in
    let l : 4097 ≤ suc n * 4097 = omega arith in
    let k : suc n * 4097 ≤ suc n * a = times_more (suc n) 4097 a h in
    ap (λ b. capped (suc n * b)) e ∙ omega arith

-- cells above the most count as one more than the most, also before they are multiplied
pub capped_times : (n a : ℕ) → capped (n * capped a) ≡ capped (n * a)
capped_times zero a = omega arith
capped_times (suc n) a = ⊎_elim (λ h. small (suc n) a (omega arith)) (λ h. large n a h) (cases_lt a 4097)

capped_product : (sizes : List Size) (n : ℕ) → capped (product sizes (capped n)) ≡ capped (product sizes n)
capped_product [] n = omega arith
capped_product (s ∷ rest) n =
    sym (capped_times (count_of s.count) (product rest (capped n))) ∙ ap (λ m. capped (count_of s.count * m)) (capped_product rest n) ∙ capped_times (count_of s.count) (product rest n)

capped_option : (o : Option ℕ) → or_zero (option_map capped o) ≡ capped (or_zero o)
capped_option None = refl
capped_option (Some n) = refl

pub at_capped : (cells : List ℕ) (k : ℕ) → or_zero (slice_get (map capped cells) k) ≡ capped (or_zero (slice_get cells k))
at_capped cells k = ap or_zero (slice_get-map capped cells k) ∙ capped_option (slice_get cells k)

unit_capped : (cells : List ℕ) (stars : ℕ) (o : Option StructId) → unit_cells (map capped cells) stars o ≡ capped (unit_cells cells stars o)
unit_capped cells zero None = refl
unit_capped cells zero (Some k) = at_capped cells k.0
unit_capped cells (suc stars) o = refl

le_capped : (n : ℕ) → nat_le n 4096 ≡ nat_le (capped n) 4096
le_capped n = grind (arith, nat_tests)

-- the test by capped numbers of cells is the test by the numbers themselves
pub fits_capped : (cells : List ℕ) (stars : ℕ) (sizes : List Size) (v : Verdict Ty) → fits (map capped cells) stars sizes v ≡ fits cells stars sizes v
fits_capped cells stars sizes (Err f) = refl
fits_capped cells stars sizes (Ok u) =
    le_capped (product sizes (unit_cells (map capped cells) stars (struct_of u)))
    ∙ ap (λ n. nat_le (capped (product sizes n)) 4096) (unit_capped cells stars (struct_of u))
    ∙ ap (λ n. nat_le n 4096) (capped_product sizes (unit_cells cells stars (struct_of u)))
    ∙ sym (le_capped (product sizes (unit_cells cells stars (struct_of u))))

-- the cells of what stars and sizes make of a base
pub cells_made : (cells : List ℕ) (tags : List (List ℕ)) (base : Base) (stars : ℕ) (sizes : List Size) (u : Ty) → Denotes tags base u → cells_of cells (arrays_of sizes (pointers_to stars u)) ≡ product sizes (unit_cells cells stars (struct_of u))
cells_made cells tags base stars sizes u d = array_cells cells sizes (pointers_to stars u) ∙ ap (product sizes) (base_cells cells tags base stars u d)
