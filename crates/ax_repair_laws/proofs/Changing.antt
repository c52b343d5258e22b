-- The changes of a patch are changes of slots whose numbers rise, and make the patched program.
use Rattle.std.proofs.Common.{◌≡◌, ℕ, zero, suc, ◌+◌, ◌<◌, ◌≤◌, Bool, true, false, not, cond, List, [], ◌∷◌, length, get_or, slice_get, slice_set, Option, Some, None, refl, sym, ap, ◌∙◌, subst, arith}
use Rattle.std.specs.List.{All, AllPairs, Contains, zip}
use Rattle.std.proofs.lemmas.Option.{slice_get_within, get_or_from_slice_get}
use Rattle.std.proofs.lemmas.List.Elements.{All-nil, All-cons, All-head, All-tail, All-contains}
use Rattle.ax_prog.specs.declared.Expr.{Expr}
use Rattle.ax_prog.specs.declared.Sets.{Sets}
use Rattle.ax_prog.specs.declared.Slot.{Slot}
use Rattle.ax_prog.specs.declared.SlotId.{SlotId}
use Rattle.ax_prog.specs.declared.Program.{Program}
use Rattle.ax_prog.specs.Candidates.{slot_at, candidates_of}
use Rattle.ax_prog.specs.Equality.{expr_eq}
use Rattle.ax_prog.specs.Substitution.{FitsSlot, Fits, substituted, with_tree}
use Rattle.ax_prog.proofs.Equality.{Decides-expr_eq}
use Rattle.ax_space.specs.declared.Patch.{Patch}
use Rattle.ax_space.specs.Chosen.{SlotsFit, with_slot, slots_of, AreChosen, space_of}
use Rattle.ax_space.specs.Patches.{AreTrees, IsPatch, with_trees, patched}
use Rattle.ax_space.proofs.Patching.{candidate-slot, reading-fits}
use Rattle.ax_front_facts.specs.Writable.{IsWritable}
use Rattle.ax_print_back.specs.Changes.{AreChanges, replaced}
use Rattle.ax_repair.specs.Written.{Change, is_other, is_changed, changes_of}

some-same : {X : Type 0} {x y : X} → ◌≡◌ {A = Option X} (Some x) (Some y) → x ≡ y
some-same h = cc

abbrev Rising : List SlotId → Type 0
Rising ids = AllPairs (λ (a b : SlotId). a.0 < b.0) ids

rising-tail : (id : SlotId) (ids : List SlotId) → Rising (id ∷ ids) → Rising ids
rising-tail id ids order = λ i j d lt in'. order (suc i) (suc j) d (omega (arith, lt)) (omega (arith, in'))

rising-first : (id : SlotId) (ids : List SlotId) → Rising (id ∷ ids) → All (λ (other : SlotId). id.0 < other.0) ids
rising-first id ids order = λ k d h. order zero (suc k) d (omega arith) (omega (arith, h))

-- ---- the trees fit

abbrev FitsThere : Program → Change → Type 0
FitsThere program change = Fits program change.0 change.1

own-tree : (program : Program) → SlotsFit program.slots → (i : ℕ) (slot : Slot) → slice_get program.slots i ≡ Some slot → FitsSlot slot slot.expr
own-tree program fit i slot e =
    All-contains (λ (slot : Slot). FitsSlot slot slot.expr) program.slots slot fit (i, slice_get_within program.slots i slot e, get_or_from_slice_get program.slots i slot slot e)

all_fit : (program : Program) (sets : Sets) (grow : ℕ) → SlotsFit program.slots → (ids : List SlotId) (trees : List Expr) → All (Contains (candidates_of program)) ids → AreTrees sets grow (slots_of program ids) trees → All (FitsThere program) (zip ids trees)
all_fit program sets grow fit [] trees c h = All-nil (FitsThere program)
all_fit program sets grow fit (id ∷ ids) [] c h = All-nil (FitsThere program)
all_fit program sets grow fit (id ∷ ids) (tree ∷ trees) c h =
    let s = candidate-slot program id (All-head (Contains (candidates_of program)) id ids c) in
    let peeled : AreTrees sets grow (s.0 ∷ slots_of program ids) (tree ∷ trees) = subst (λ (o : Option Slot). AreTrees sets grow (with_slot o (slots_of program ids)) (tree ∷ trees)) s.1 h in
    let here : FitsThere program (id, tree) = λ slot e. subst (λ (x : Slot). FitsSlot x tree) (some-same (sym s.1 ∙ e)) (reading-fits (own-tree program fit id.0 s.0 s.1) (peeled.0).1) in
    All-cons (FitsThere program) (id, tree) (zip ids trees) here (all_fit program sets grow fit ids trees (All-tail (Contains (candidates_of program)) id ids c) peeled.1)

-- ---- the changes are changes

-- the program has such a slot
abbrev Within : Program → SlotId → Type 0
Within program id = id.0 < length program.slots

all-within : (program : Program) (ids : List SlotId) → All (Contains (candidates_of program)) ids → All (Within program) ids
all-within program ids c = λ k d h. (let s = candidate-slot program (get_or ids k d) (c k d h) in slice_get_within program.slots (get_or ids k d).0 s.0 s.1)

change-or : (program : Program) (from : ℕ) (id : SlotId) (tree : Expr) (rest : List Change) (b : Bool) → from ≤ id.0 → Within program id → Fits program id tree → IsWritable tree → AreChanges (id.0 + 1) program rest → AreChanges from program rest → AreChanges from program (cond b ((id, tree) ∷ rest) rest)
change-or program from id tree rest true le within fits writable after skip = (le, (within, fits, writable), after)
change-or program from id tree rest false le within fits writable after skip = skip

are_changes : (program : Program) (ids : List SlotId) (trees : List Expr) → Rising ids → All (Within program) ids → All (FitsThere program) (zip ids trees) → All IsWritable trees → (from : ℕ) → All (λ (id : SlotId). from ≤ id.0) ids → AreChanges from program (changes_of program ids trees)
are_changes program [] trees order within fits writable from above = tt
are_changes program (id ∷ ids) [] order within fits writable from above = tt
are_changes program (id ∷ ids) (tree ∷ trees) order within fits writable from above =
    let later = are_changes program ids trees (rising-tail id ids order) (All-tail (Within program) id ids within) (All-tail (FitsThere program) (id, tree) (zip ids trees) fits) (All-tail IsWritable tree trees writable) in
    let next : All (λ (other : SlotId). id.0 + 1 ≤ other.0) ids = λ k d h. (let lt = rising-first id ids order k d h in omega arith) in
    change-or program from id tree (changes_of program ids trees) (is_changed program (id, tree))
    (All-head (λ (id : SlotId). from ≤ id.0) id ids above)
    (All-head (Within program) id ids within)
    (All-head (FitsThere program) (id, tree) (zip ids trees) fits)
    (All-head IsWritable tree trees writable)
    (later (id.0 + 1) next)
    (later from (All-tail (λ (id : SlotId). from ≤ id.0) id ids above))

-- ---- the changed program is the patched one

set-other : {X : Type 0} (xs : List X) (i j : ℕ) (x : X) → i < j → slice_get (slice_set xs i x) j ≡ slice_get xs j
set-other [] i j x h = refl
set-other (y ∷ xs) zero zero x h = absurd (omega arith)
set-other (y ∷ xs) zero (suc j) x h = refl
set-other (y ∷ xs) (suc i) zero x h = absurd (omega arith)
set-other (y ∷ xs) (suc i) (suc j) x h = set-other xs i j x (omega arith)

set-own : {X : Type 0} (xs : List X) (i : ℕ) (x : X) → slice_get xs i ≡ Some x → slice_set xs i x ≡ xs
set-own [] i x h = refl
set-own (y ∷ xs) zero x h = ap (λ z. z ∷ xs) (sym (some-same h))
set-own (y ∷ xs) (suc i) x h = ap (λ zs. y ∷ zs) (set-own xs i x h)

other-slot : (o : Option Slot) (slots : List Slot) (id other : SlotId) (tree : Expr) → id.0 < other.0 → slice_get (with_tree o slots id tree) other.0 ≡ slice_get slots other.0
other-slot None slots id other tree h = refl
other-slot (Some slot) slots id other tree h = set-other slots id.0 other.0 (record slot { expr = tree }) h

not-false : (b : Bool) → not b ≡ false → b ≡ true
not-false true h = refl
not-false false h = absurd (cc)

own-again : (slots : List Slot) (id : SlotId) (tree : Expr) (o : Option Slot) → slice_get slots id.0 ≡ o → is_other o tree ≡ false → with_tree o slots id tree ≡ slots
own-again slots id tree None e h = refl
own-again slots id tree (Some slot) e h =
    let same : slot.expr ≡ tree = (Decides-expr_eq slot.expr tree).0 (not-false (expr_eq slot.expr tree) h) in
    let new : record slot { expr = tree } ≡ slot = λ i. record slot { expr = sym same i } in
    ap (λ (x : Slot). slice_set slots id.0 x) new ∙ set-own slots id.0 slot e

-- a slot's own tree in its place changes nothing
stays : (program : Program) (id : SlotId) (tree : Expr) → is_other (slot_at program id) tree ≡ false → substituted program id tree ≡ program
stays program id tree h = ap (λ (slots : List Slot). record program { slots = slots }) (own-again program.slots id tree (slot_at program id) refl h)

abbrev SameThere : Program → Program → SlotId → Type 0
SameThere program other id = slot_at other id ≡ slot_at program id

replaced-or : (program other : Program) (id : SlotId) (tree : Expr) (ids : List SlotId) (trees : List Expr) (rest : List Change) (b : Bool) → is_changed program (id, tree) ≡ b → SameThere program other id → replaced (substituted other id tree) rest ≡ with_trees (substituted other id tree) ids trees → replaced other rest ≡ with_trees other ids trees → replaced other (cond b ((id, tree) ∷ rest) rest) ≡ with_trees (substituted other id tree) ids trees
replaced-or program other id tree ids trees rest true is same after skip = after
replaced-or program other id tree ids trees rest false is same after skip =
    skip ∙ ap (λ (p : Program). with_trees p ids trees) (sym (stays other id tree (ap (λ o. is_other o tree) same ∙ is)))

replaced-is : (program : Program) (ids : List SlotId) (trees : List Expr) → Rising ids → (other : Program) → All (SameThere program other) ids → replaced other (changes_of program ids trees) ≡ with_trees other ids trees
replaced-is program [] trees order other same = refl
replaced-is program (id ∷ ids) [] order other same = refl
replaced-is program (id ∷ ids) (tree ∷ trees) order other same =
    let later = replaced-is program ids trees (rising-tail id ids order) in
    let tail = All-tail (SameThere program other) id ids same in
    let after : All (SameThere program (substituted other id tree)) ids = λ k d h. other-slot (slot_at other id) other.slots id (get_or ids k d) tree (rising-first id ids order k d h) ∙ tail k d h in
    replaced-or program other id tree ids trees (changes_of program ids trees) (is_changed program (id, tree)) refl (All-head (SameThere program other) id ids same) (later (substituted other id tree) after) (later other tail)

-- ---- the whole

pub changes_are : (program : Program) (ids : List SlotId) (sets : Sets) (grow : ℕ) (patch : Patch) → SlotsFit program.slots → AreChosen program ids → All IsWritable patch.trees → IsPatch (space_of program ids sets grow) patch → AreChanges 0 program (changes_of program ids patch.trees)
changes_are program ids sets grow patch fit chosen writable is =
    are_changes program ids patch.trees chosen.rising (all-within program ids chosen.candidates) (all_fit program sets grow fit ids patch.trees chosen.candidates is) writable 0 (λ k d h. omega arith)

pub replaced-patched : (program : Program) (ids : List SlotId) (patch : Patch) → AreChosen program ids → replaced program (changes_of program ids patch.trees) ≡ patched program ids patch
replaced-patched program ids patch chosen = replaced-is program ids patch.trees chosen.rising program (λ k d h. refl)
