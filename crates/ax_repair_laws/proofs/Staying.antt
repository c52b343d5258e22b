-- A patch of cost 0 has each chosen expression's own tree.
use Rattle.std.proofs.Common.{◌≡◌, ℕ, List, [], ◌∷◌, Option, Some, refl, sym, ap, ◌∙◌, subst, arith}
use Rattle.std.specs.List.{All, Contains, zip}
use Rattle.std.specs.Option.{option_map}
use Rattle.std.proofs.lemmas.List.Elements.{All-nil, All-cons, All-head, All-tail}
use Rattle.ax_prog.specs.declared.Expr.{Expr}
use Rattle.ax_prog.specs.declared.Sets.{Sets}
use Rattle.ax_prog.specs.declared.Slot.{Slot}
use Rattle.ax_prog.specs.declared.SlotId.{SlotId}
use Rattle.ax_prog.specs.declared.Program.{Program}
use Rattle.ax_prog.specs.Candidates.{candidates_of, tree_at}
use Rattle.ax_space_trees.specs.Space.{Changes}
use Rattle.ax_space.specs.Chosen.{with_slot, slots_of}
use Rattle.ax_space.specs.Patches.{Reading, plain, guarded, TreesCost, more}
use Rattle.ax_space.proofs.Patching.{candidate-slot}
use Rattle.ax_repair.specs.Written.{AreOwn, Change}
use Rattle.ax_repair_laws.proofs.Unchanged.{unchanged-same}

-- a reading without a changed node is the old tree
reading-own : {sets : Sets} {grow : ℕ} {slot : Slot} {tree : Expr} {n : ℕ} → Reading sets grow slot tree n → n ≡ 0 → slot.expr ≡ tree
reading-own {slot} {tree} (plain s d) h = sym (unchanged-same slot.expr tree (subst (λ n. Changes slot.expr tree n) h d))
reading-own (guarded on is g) h = absurd (omega arith)

first-own : {sets : Sets} {grow : ℕ} {slot : Slot} {slots : List Slot} {tree : Expr} {trees : List Expr} {n : ℕ} → TreesCost sets grow (slot ∷ slots) (tree ∷ trees) n → n ≡ 0 → (slot.expr ≡ tree) × TreesCost sets grow slots trees 0
first-own {sets} {grow} {slots} {trees} (more {i} {j} c d) h =
    let one : i ≡ 0 = omega arith in
    let two : j ≡ 0 = omega arith in
    (reading-own c.reading one, subst (λ n. TreesCost sets grow slots trees n) two d)

pub own-at-0 : (program : Program) (sets : Sets) (grow : ℕ) (ids : List SlotId) (trees : List Expr) → All (Contains (candidates_of program)) ids → TreesCost sets grow (slots_of program ids) trees 0 → AreOwn program ids trees
own-at-0 program sets grow [] trees chosen c = All-nil (λ (change : Change). tree_at program change.0 ≡ Some change.1)
own-at-0 program sets grow (id ∷ ids) [] chosen c = All-nil (λ (change : Change). tree_at program change.0 ≡ Some change.1)
own-at-0 program sets grow (id ∷ ids) (tree ∷ trees) chosen c =
    let s = candidate-slot program id (All-head (Contains (candidates_of program)) id ids chosen) in
    let peeled : TreesCost sets grow (s.0 ∷ slots_of program ids) (tree ∷ trees) 0 = subst (λ (o : Option Slot). TreesCost sets grow (with_slot o (slots_of program ids)) (tree ∷ trees) 0) s.1 c in
    let own = first-own peeled refl in
    let here : tree_at program id ≡ Some tree = ap (λ (o : Option Slot). option_map (λ (slot : Slot). slot.expr) o) s.1 ∙ ap Some own.0 in
    All-cons (λ (change : Change). tree_at program change.0 ≡ Some change.1) (id, tree) (zip ids trees) here
    (own-at-0 program sets grow ids trees (All-tail (Contains (candidates_of program)) id ids chosen) own.1)
