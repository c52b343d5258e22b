-- The structs within a program's globals get the zeros that the definitions give them, and so the globals begin alike.
use Rattle.std.proofs.Common.{◌≡◌, refl, sym, ap, ◌∙◌, subst, ℕ, zero, suc, pred, Bool, true, false, List, [], ◌∷◌, ◌++◌, Option, Some, None, append_assoc, append-nil}
use Rattle.std.specs.Prelude.{length, replicate, slice_get, slice_set}
use Rattle.ax_prog.specs.declared.Ty.{Ty, Array, Ptr', Array', more_of-Ty, end_of-Ty}
use Rattle.ax_prog.specs.declared.Ty.TheVariants as ty
use Rattle.ax_prog.specs.declared.Ty.TheBlock.{shape-the_row-Ty-0, hidden-the_row-Ty-0}
use Rattle.ax_prog.specs.declared.VarId.{VarId}
use Rattle.ax_prog.specs.declared.StructId.{StructId}
use Rattle.ax_prog.specs.declared.Struct.{Struct}
use Rattle.ax_prog.specs.declared.Init.{Init}
use Rattle.ax_prog.specs.declared.Init.TheVariants as init
use Rattle.ax_prog.specs.declared.Program.{Program}
use Rattle.ax_meaning.specs.declared.Cell.{Cell}
use Rattle.ax_meaning.specs.declared.State.{State}
use Rattle.ax_meaning.specs.Types.{type_of_var, fields_of}
use Rattle.ax_meaning.specs.Acts.{with_object}
use Rattle.ax_meaning.specs.Runs.{repeated, or_nothing, zeros, zeros_of_fields, zeros_after, global_cells, enter_globals}
use Rattle.ax_interp_acts.specs.Within.{struct_in, left_out, with_struct, with_members, with_globals, unless_left, with_inner, cells_unless, zeros_by, marks_of, cells_from, entered_from}
use denote.Hole.Carrier

pub struct_in-Array : (t : Ty) (n : ℕ) → struct_in (Array t n) ≡ struct_in t
unfolding shape-the_row-Ty-0 hidden-the_row-Ty-0 Carrier.hidden
struct_in-Array t n = refl

-- ---- marks only grow

abbrev Needed : List Bool → ℕ → Type 0
Needed marks j = left_out (slice_get marks j) ≡ false

set_true : (marks : List Bool) (k : ℕ) → Needed (slice_set marks k true) k
set_true [] zero = refl
set_true [] (suc k) = refl
set_true (b ∷ marks) zero = refl
set_true (b ∷ marks) (suc k) = set_true marks k

set_keeps : (marks : List Bool) (k j : ℕ) → Needed marks j → Needed (slice_set marks k true) j
set_keeps [] zero j h = h
set_keeps [] (suc k) j h = h
set_keeps (b ∷ marks) zero zero h = refl
set_keeps (b ∷ marks) zero (suc j) h = h
set_keeps (b ∷ marks) (suc k) zero h = h
set_keeps (b ∷ marks) (suc k) (suc j) h = set_keeps marks k j h

struct_keeps : (o : Option StructId) (marks : List Bool) (j : ℕ) → Needed marks j → Needed (with_struct o marks) j
struct_keeps None marks j h = h
struct_keeps (Some k) marks j h = set_keeps marks k.0 j h

members_keep : (fields : List (List ℕ × Ty)) (marks : List Bool) (j : ℕ) → Needed marks j → Needed (with_members fields marks) j
members_keep [] marks j h = h
members_keep (f ∷ rest) marks j h = members_keep rest (with_struct (struct_in f.1) marks) j (struct_keeps (struct_in f.1) marks j h)

unless_keeps : (b : Bool) (fields : List (List ℕ × Ty)) (marks : List Bool) (j : ℕ) → Needed marks j → Needed (unless_left b fields marks) j
unless_keeps true fields marks j h = h
unless_keeps false fields marks j h = members_keep fields marks j h

inner_keeps : (structs : List Struct) (n : ℕ) (marks : List Bool) (j : ℕ) → Needed marks j → Needed (with_inner structs n marks) j
inner_keeps structs zero marks j h = h
inner_keeps structs (suc n) marks j h =
    inner_keeps structs n (unless_left (left_out (slice_get marks n)) (fields_of (slice_get structs n)) marks) j
    (unless_keeps (left_out (slice_get marks n)) (fields_of (slice_get structs n)) marks j h)

globals_keep : (p : Program) (gs : List (VarId × Init)) (marks : List Bool) (j : ℕ) → Needed marks j → Needed (with_globals p gs marks) j
globals_keep p [] marks j h = h
globals_keep p (g ∷ rest) marks j h =
    globals_keep p rest (with_struct (struct_in (type_of_var (slice_get p.vars g.0.0))) marks) j
    (struct_keeps (struct_in (type_of_var (slice_get p.vars g.0.0))) marks j h)

-- ---- alike for what is needed

abbrev Alike : List Bool → List (List Cell) → List (List Cell) → Type 0
Alike marks a b = (j : ℕ) → Needed marks j → slice_get a j ≡ slice_get b j

-- a type whose struct is needed has the same zeros by both
same_zeros : (a b : List (List Cell)) (t : Ty) → ((k : StructId) → struct_in t ≡ Some k → slice_get a k.0 ≡ slice_get b k.0) → zeros a t ≡ zeros b t
same_zeros a b ty.Int h = refl
same_zeros a b (Ptr' s row) h = refl
same_zeros a b (Array' s (more_of-Ty t end_of-Ty) n) h = ap (λ cells. repeated n cells) (same_zeros a b t h)
same_zeros a b (ty.Struct k) h = ap or_nothing (h k refl)

marked_struct : (o : Option StructId) (marks : List Bool) (k : StructId) → o ≡ Some k → Needed (with_struct o marks) k.0
marked_struct None marks k h = cc
marked_struct (Some l) marks k h = subst (λ o. Needed (with_struct o marks) k.0) (sym h) (set_true marks k.0)

same_members : (a b : List (List Cell)) (fields : List (List ℕ × Ty)) (marks : List Bool) → Alike (with_members fields marks) a b → zeros_of_fields a fields ≡ zeros_of_fields b fields
same_members a b [] marks h = refl
same_members a b (f ∷ rest) marks h =
    let first : zeros a f.1 ≡ zeros b f.1 =
    same_zeros a b f.1 (λ k e. h k.0 (members_keep rest (with_struct (struct_in f.1) marks) k.0 (marked_struct (struct_in f.1) marks k e))) in
    ap (λ cells. cells ++ zeros_of_fields a rest) first
    ∙ ap (λ cells. zeros b f.1 ++ cells) (same_members a b rest (with_struct (struct_in f.1) marks) h)

-- ---- tables with one struct more

by_more : (marks : List Bool) (done : List (List Cell)) (front : List Struct) (s : Struct) → zeros_by marks done (front ++ s ∷ []) ≡ zeros_by marks done front ++ cells_unless (left_out (slice_get marks (length (zeros_by marks done front)))) (zeros_of_fields (zeros_by marks done front) s.fields) ∷ []
by_more marks done [] s = refl
by_more marks done (r ∷ rest) s = by_more marks (done ++ cells_unless (left_out (slice_get marks (length done))) (zeros_of_fields done r.fields) ∷ []) rest s

after_more : (done : List (List Cell)) (front : List Struct) (s : Struct) → zeros_after done (front ++ s ∷ []) ≡ zeros_after done front ++ zeros_of_fields (zeros_after done front) s.fields ∷ []
after_more done [] s = refl
after_more done (r ∷ rest) s = after_more (done ++ zeros_of_fields done r.fields ∷ []) rest s

length-more : {X : Type 0} (xs : List X) (x : X) → length (xs ++ x ∷ []) ≡ suc (length xs)
length-more [] x = refl
length-more (y ∷ xs) x = ap suc (length-more xs x)

at_end : {X : Type 0} (xs : List X) (x : X) (ys : List X) → slice_get (xs ++ x ∷ ys) (length xs) ≡ Some x
at_end [] x ys = refl
at_end (y ∷ xs) x ys = at_end xs x ys

alike_more : {X : Type 0} (a b : List X) (x y : X) (j : ℕ) → length a ≡ length b → slice_get a j ≡ slice_get b j → (j ≡ length a → x ≡ y) → slice_get (a ++ x ∷ []) j ≡ slice_get (b ++ y ∷ []) j
alike_more [] [] x y zero l h e = ap Some (e refl)
alike_more [] [] x y (suc j) l h e = refl
alike_more [] (d ∷ b) x y j l h e = cc
alike_more (c ∷ a) [] x y j l h e = cc
alike_more (c ∷ a) (d ∷ b) x y zero l h e = h
alike_more (c ∷ a) (d ∷ b) x y (suc j) l h e = alike_more a b x y j (ap pred l) h (λ i. e (ap suc i))

by_last : {X : Type 0} (P : List X → Type 0) → P [] → ((xs : List X) (x : X) → P xs → P (xs ++ x ∷ [])) → (xs : List X) → P xs
by_last {X = X} P first more xs = from [] xs first
  where
    from : (ys xs : List X) → P ys → P (ys ++ xs)
    from ys [] p = subst P (sym (append-nil ys)) p
    from ys (x ∷ xs) p = subst P (append_assoc ys (x ∷ []) xs) (from (ys ++ x ∷ []) xs (more ys x p))

length-by : (marks : List Bool) (front : List Struct) → length (zeros_by marks [] front) ≡ length front
length-by marks = by_last (λ front. length (zeros_by marks [] front) ≡ length front) refl
    (λ front s e. ap length (by_more marks [] front s) ∙ length-more (zeros_by marks [] front) _ ∙ ap suc e ∙ sym (length-more front s))

length-after : (front : List Struct) → length (zeros_after [] front) ≡ length front
length-after = by_last (λ front. length (zeros_after [] front) ≡ length front) refl
    (λ front s e. ap length (after_more [] front s) ∙ length-more (zeros_after [] front) _ ∙ ap suc e ∙ sym (length-more front s))

-- ---- the marked structs have their zeros

abbrev Right : List Struct → Type 0
Right front = (back : List Struct) (marks : List Bool) → Alike marks (zeros_by (with_inner (front ++ back) (length front) marks) [] front) (zeros_after [] front)

module _ (front : List Struct) (s : Struct) (right : Right front) (back : List Struct) (marks : List Bool) where
  abbrev all : List Struct
  all = front ++ s ∷ back

  abbrev n : ℕ
  n = length front

  abbrev more : List Bool
  more = unless_left (left_out (slice_get marks n)) s.fields marks

  abbrev final : List Bool
  final = with_inner all n more

  abbrev made : List (List Cell)
  made = zeros_by final [] front

  abbrev whole : List (List Cell)
  whole = zeros_after [] front

  by_inner : with_inner all (suc n) marks ≡ final
  by_inner = ap (λ o. with_inner all n (unless_left (left_out (slice_get marks n)) (fields_of o) marks)) (at_end front s back)

  before : (j : ℕ) → Needed marks j → slice_get made j ≡ slice_get whole j
  before j h = right (s ∷ back) more j (unless_keeps (left_out (slice_get marks n)) s.fields marks j h)

  -- the members of a struct that is needed are marked
  own : Needed marks n → zeros_of_fields made s.fields ≡ zeros_of_fields whole s.fields
  own h = same_members made whole s.fields marks (subst (λ b. Alike (unless_left b s.fields marks) made whole) h (λ j. right (s ∷ back) more j))

  last : Needed marks n → cells_unless (left_out (slice_get final (length made))) (zeros_of_fields made s.fields) ≡ zeros_of_fields whole s.fields
  last h =
      ap (λ i. cells_unless (left_out (slice_get final i)) (zeros_of_fields made s.fields)) (length-by final front)
      ∙ ap (λ b. cells_unless b (zeros_of_fields made s.fields)) (inner_keeps all n more n (unless_keeps (left_out (slice_get marks n)) s.fields marks n h))
      ∙ own h

  lengths : length made ≡ length whole
  lengths = length-by final front ∙ sym (length-after front)

  one_more : Alike marks (zeros_by final [] (front ++ s ∷ [])) (zeros_after [] (front ++ s ∷ []))
  one_more j h =
      ap (λ t. slice_get t j) (by_more final [] front s)
      ∙ alike_more made whole _ _ j lengths (before j h) (λ e. last (subst (λ i. Needed marks i) (e ∙ length-by final front) h))
      ∙ ap (λ t. slice_get t j) (sym (after_more [] front s))

  step : Alike marks (zeros_by (with_inner ((front ++ s ∷ []) ++ back) (length (front ++ s ∷ [])) marks) [] (front ++ s ∷ [])) (zeros_after [] (front ++ s ∷ []))
  step = subst (λ m. Alike marks (zeros_by m [] (front ++ s ∷ [])) (zeros_after [] (front ++ s ∷ []))) (sym (whole_is ∙ by_inner)) one_more
    where
      whole_is : with_inner ((front ++ s ∷ []) ++ back) (length (front ++ s ∷ [])) marks ≡ with_inner all (suc n) marks
      whole_is = ap (λ xs. with_inner xs (length (front ++ s ∷ [])) marks) (append_assoc front (s ∷ []) back) ∙ ap (λ i. with_inner all i marks) (length-more front s)

right_from : (structs : List Struct) → Right structs
right_from = by_last Right (λ back marks j h. refl) (λ front s r back marks. step front s r back marks)

inner_zeros : (structs : List Struct) (marks : List Bool) → Alike marks (zeros_by (with_inner structs (length structs) marks) [] structs) (zeros_after [] structs)
inner_zeros structs marks =
    subst (λ xs. Alike marks (zeros_by (with_inner xs (length structs) marks) [] structs) (zeros_after [] structs)) (append-nil structs) (right_from structs [] marks)

-- ---- the globals begin alike

same_cells : (structs : List (List Cell)) (p : Program) (v : VarId) (i : Init) → zeros structs (type_of_var (slice_get p.vars v.0)) ≡ zeros (zeros_after [] p.structs) (type_of_var (slice_get p.vars v.0)) → cells_from structs p v i ≡ global_cells p v i
same_cells structs p v (init.List ns) h = refl
same_cells structs p v init.Nothing h = h
same_cells structs p v (init.Value w) h = h

same_entered : (structs : List (List Cell)) (p : Program) (gs : List (VarId × Init)) (marks : List Bool) (st : State) → Alike (with_globals p gs marks) structs (zeros_after [] p.structs) → entered_from structs p gs st ≡ enter_globals p gs st
same_entered structs p [] marks st h = refl
same_entered structs p (g ∷ rest) marks st h =
    let t : Ty = type_of_var (slice_get p.vars g.0.0) in
    let zero_cells : zeros structs t ≡ zeros (zeros_after [] p.structs) t =
    same_zeros structs (zeros_after [] p.structs) t (λ k e. h k.0 (globals_keep p rest (with_struct (struct_in t) marks) k.0 (marked_struct (struct_in t) marks k e))) in
    ap (λ cells. entered_from structs p rest (with_object g.0 cells st)) (same_cells structs p g.0 g.1 zero_cells)
    ∙ same_entered structs p rest (with_struct (struct_in t) marks) (with_object g.0 (global_cells p g.0 g.1) st) h

pub entered_by_marks : (p : Program) (st : State) → entered_from (zeros_by (marks_of p) [] p.structs) p p.globals st ≡ enter_globals p p.globals st
entered_by_marks p st =
    same_entered (zeros_by (marks_of p) [] p.structs) p p.globals (replicate (length p.structs) false) st
    (inner_zeros p.structs (with_globals p p.globals (replicate (length p.structs) false)))
