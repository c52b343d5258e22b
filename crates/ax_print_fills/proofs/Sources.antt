-- Sources: the program of one that has moved, and of one with a number replaced.
use Rattle.std.proofs.Common.{◌≡◌, ℕ, zero, suc, List, [], ◌∷◌, ◌++◌, length, map, Some, refl, sym, ap, ◌∙◌, subst}
use Rattle.std.specs.Prelude.{slice_get, slice_set}
use Rattle.std.proofs.lemmas.List.{map-append, length-map}
use Rattle.std.proofs.lemmas.List.Elements.{All-nil}
use Rattle.ax_prog.specs.declared.Span.{Span}
use Rattle.ax_prog.specs.declared.Expr as ex
use Rattle.ax_prog.specs.declared.Atom.{Atom}
use Rattle.ax_prog.specs.declared.VarId.{VarId}
use Rattle.ax_prog.specs.declared.Var.{Var}
use Rattle.ax_prog.specs.declared.Slot.{Slot}
use Rattle.ax_prog.specs.declared.Program.{Program}
use Rattle.ax_parse_grammar.specs.declared.tree.Expr.{Expr}
use Rattle.ax_parse_grammar.specs.declared.tree.Part.{Part}
use Rattle.ax_parse_grammar.specs.declared.tree.Part.TheVariants as part
use Rattle.ax_parse_grammar.specs.declared.tree.Tree.{Tree}
use Rattle.ax_parse_grammar.specs.Trees.{span_of}
use Rattle.ax_names_types.specs.declared.Entry.{Entry}
use Rattle.ax_names_rules.specs.declared.State.{State}
use Rattle.ax_names_rules.specs.States.{here, visible}
use Rattle.ax_names_rules.specs.Values.{IsNumber}
use Rattle.ax_names_rules.specs.Programs.{defined_by, definitions_of, BecomeParts, start, program_with, HasMain, IsProgramOf}
use Rattle.ax_print_holes.specs.Moved.{moved_part, moved_tree}
use Rattle.ax_print_holes.specs.Holes.{HoldsPart, Among, put_part, put_among_parts, put}
use Rattle.ax_print_fills.specs.Replaced.{moved_slot, moved_program, renewed, AgreesWith, AgreeWith, IsNumberIn, IsFilledIn}
use Rattle.ax_print_fills.proofs.Grown.{agree_before}
use Rattle.ax_print_fills.proofs.Added.{over, slot_of, Adds, Fills}
use Rattle.ax_print_fills.proofs.Files.{InParts, PartsMoved, PartsPut, parts_add}

-- ---- the functions that a file defines

module _ (f : ℕ → ℕ) where
  defined_moved : (x : Part) → defined_by (moved_part f x) ≡ defined_by x
  defined_moved (part.Struct at x ms) = refl
  defined_moved (part.Decl d) = refl
  defined_moved (part.Function at h items) = refl
  defined_moved (part.Prototype at h) = refl

  definitions_moved : (xs : List Part) → definitions_of (map (moved_part f) xs) ≡ definitions_of xs
  definitions_moved [] = refl
  definitions_moved (x ∷ rest) = ap (λ l. l ++ definitions_of (map (moved_part f) rest)) (defined_moved x) ∙ ap (λ l. defined_by x ++ l) (definitions_moved rest)

  defined_put : (new old : Expr) (x : Part) (h : HoldsPart old x) → defined_by (put_part f new h) ≡ defined_by x
  defined_put new old _ (HoldsPart.function {h = h} k) = refl

  definitions_put : (new old : Expr) (xs : List Part) (h : Among (HoldsPart old) xs) → definitions_of (put_among_parts f new h) ≡ definitions_of xs
  definitions_put new old _ (Among.this {x = x} {xs = xs} h) = ap (λ l. l ++ definitions_of (map (moved_part f) xs)) (defined_put new old x h) ∙ ap (λ l. defined_by x ++ l) (definitions_moved xs)
  definitions_put new old _ (Among.later {x = x} {xs = xs} h) = ap (λ l. l ++ definitions_of (put_among_parts f new h)) (defined_moved x) ∙ ap (λ l. defined_by x ++ l) (definitions_put new old xs h)

-- ---- programs

main_over : (defs : List (List ℕ)) (st : State) (s : List Slot) (j : ℕ) → HasMain defs st j → HasMain defs (over st s) j
main_over defs st s j (HasMain.main h i) = HasMain.main h i

-- another tree of the same definitions, with other slots
program_by : (tree other : Tree) (st : State) (j : ℕ) (s : List Slot) → definitions_of other.parts ≡ definitions_of tree.parts → HasMain (definitions_of tree.parts) st j → BecomeParts (definitions_of tree.parts) start other.parts (over st s) → IsProgramOf other (program_with (over st s) j)
program_by tree other st j s e m b =
    IsProgramOf.file (subst (λ (defs : List (List ℕ)). BecomeParts defs start other.parts (over st s)) (sym e) b) (main_over (definitions_of other.parts) st s j (subst (λ (defs : List (List ℕ)). HasMain defs st j) (sym e) m))

pub moved : (f : ℕ → ℕ) (tree : Tree) (p : Program) → IsProgramOf tree p → IsProgramOf (moved_tree f tree) (moved_program f p)
moved f tree _ (IsProgramOf.file {st = st} {j = j} b m) =
    let d : Adds start st (PartsMoved (definitions_of tree.parts) start tree.parts st) (InParts tree.parts) (PartsPut (definitions_of tree.parts) start tree.parts st) = parts_add (definitions_of tree.parts) start tree.parts st b in
    subst (λ (l : List Slot). IsProgramOf (moved_tree f tree) (program_with (over st l) j)) (ap (map (moved_slot f)) (sym d.1))
    (program_by tree (moved_tree f tree) st j (map (moved_slot f) d.0) (definitions_moved f tree.parts) m (d.3 f [] refl))

-- ---- a slot among the others

before_it : (l : List Slot) (k : ℕ) (slot : Slot) → slice_get l k ≡ Some slot → (before : List Slot) × (after : List Slot) × (l ≡ before ++ slot ∷ after) × (length before ≡ k)
before_it [] k slot h = cc
before_it (x ∷ l) zero slot h = ([], l, cc, refl)
before_it (x ∷ l) (suc k) slot h = let q = before_it l k slot h in (x ∷ q.0, q.1, ap (λ l. x ∷ l) q.2, ap suc q.3)

set_between : (before after : List Slot) (old new : Slot) → slice_set (before ++ old ∷ after) (length before) new ≡ before ++ new ∷ after
set_between [] after old new = refl
set_between (x ∷ before) after old new = ap (λ l. x ∷ l) (set_between before after old new)

number_in : (st : State) (a : Expr) (x : ex.Expr) (atoms : List (Atom × Span)) → IsNumber st a x atoms → IsNumberIn (here st) a x atoms
number_in st a _ _ (IsNumber.number {m = m} x atoms d h) = (m, d, h)

number_there : (st : State) (a : Expr) (x : ex.Expr) (atoms : List (Atom × Span)) → IsNumberIn (here st) a x atoms → IsNumber st a x atoms
number_there st a x atoms n = IsNumber.number x atoms n.1 n.2

same_slots : (f : ℕ → ℕ) (l before after : List Slot) (slot new : Slot) (k : ℕ) → l ≡ before ++ slot ∷ after → length before ≡ k → map (moved_slot f) before ++ new ∷ map (moved_slot f) after ≡ slice_set (map (moved_slot f) l) k new
same_slots f l before after slot new k e h =
    sym (ap (λ (z : List Slot). slice_set (map (moved_slot f) z) k new) e ∙
    (ap (λ (z : List Slot). slice_set z k new) (map-append (moved_slot f) before (slot ∷ after)) ∙
    (ap (λ (n : ℕ). slice_set (map (moved_slot f) before ++ moved_slot f slot ∷ map (moved_slot f) after) n new) (sym (length-map before (moved_slot f) ∙ h)) ∙ set_between (map (moved_slot f) before) (map (moved_slot f) after) (moved_slot f slot) new)))

in_scope : (slot : Slot) (there : State) (new : Expr) (x : ex.Expr) (atoms : List (Atom × Span)) → visible there.names ≡ slot.scope → slot_of there new x atoms ≡ renewed slot (span_of new) x atoms
in_scope slot there new x atoms h = ap (λ (ids : List VarId). let made : Slot = record { span = span_of new; expr = x; scope = ids; atoms = atoms } in made) h

pub filled : (tree : Tree) (p : Program) (k : ℕ) (slot : Slot) → IsProgramOf tree p → slice_get p.slots k ≡ Some slot → IsFilledIn tree p k slot
filled tree _ k slot (IsProgramOf.file {st = st} {j = j} b m) h =
    let defs : List (List ℕ) = definitions_of tree.parts in
    let d : Adds start st (PartsMoved defs start tree.parts st) (InParts tree.parts) (PartsPut defs start tree.parts st) = parts_add defs start tree.parts st b in
    let q = before_it st.slots k slot h in
    let w : Fills start st q.0 slot q.1 (InParts tree.parts) (PartsPut defs start tree.parts st) = d.4 q.0 slot q.1 (sym d.1 ∙ q.2) in
    record {
      old = w.0;
      path = w.1;
      there = here w.2;
      stands = w.3;
      means = number_in w.2 w.0 slot.expr slot.atoms w.5;
      scope = w.4;
      named = subst (λ (vars : List Var). AgreeWith vars (w.2).names) (sym (w.7).1) (agree_before (w.2).vars (w.7).0 (w.2).names ((w.6).2 (All-nil (λ (e : Entry). AgreesWith [] e.name e.entity))));
      filled = λ f new x atoms n.
          let l : List Slot = map (moved_slot f) q.0 ++ slot_of w.2 new x atoms ∷ map (moved_slot f) q.1 in
          subst (λ (z : List Slot). IsProgramOf (put f new tree w.1) (program_with (over st z) j))
          (ap (λ (z : Slot). map (moved_slot f) q.0 ++ z ∷ map (moved_slot f) q.1) (in_scope slot w.2 new x atoms w.4) ∙ same_slots f st.slots q.0 q.1 slot (renewed slot (span_of new) x atoms) k q.2 q.3)
          (program_by tree (put f new tree w.1) st j l (definitions_put f new w.0 tree.parts w.1) m (w.8 f new x atoms (number_there w.2 new x atoms n) [] refl));
    }
