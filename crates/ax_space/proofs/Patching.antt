-- The chosen slots of a program, and the trees of a patch in them.
use Rattle.std.proofs.Common.{◌≡◌, ℕ, zero, suc, ◌+◌, ◌<◌, ◌≤◌, Bool, true, false, List, [], ◌∷◌, ◌++◌, refl, sym, ◌∙◌, ap, subst, length, take, get_or, arith, Option, Some, None, slice_get, slice_set, nat_le, if◌then◌else◌}
use Rattle.std.specs.List.{Contains, All}
use Rattle.std.proofs.lemmas.List.{take_more}
use Rattle.std.proofs.lemmas.List.Elements.{All-contains}
use Rattle.std.proofs.lemmas.Option.{slice_get_within, slice_get_read}
use mathlib.Core.Logic.{inl, inr}
use Rattle.ax_prog.specs.declared.Expr.{Expr}
use Rattle.ax_prog.specs.declared.Expr.TheVariants as e
use Rattle.ax_prog.specs.declared.Sets.{Sets}
use Rattle.ax_prog.specs.declared.Slot.{Slot}
use Rattle.ax_prog.specs.declared.SlotId.{SlotId}
use Rattle.ax_prog.specs.declared.Program.{Program}
use Rattle.ax_prog.specs.Nodes.{nodes, operands}
use Rattle.ax_prog.specs.Candidates.{slot_at, is_small, candidates_from, candidates_of}
use Rattle.ax_prog.specs.Substitution.{with_tree, substituted, IsAtomOf, IsLiteral, FitsSlot, Fits}
use Rattle.ax_prog.proofs.Trees.{expr-cases, expr-induction, operands-Un, operands-Bin, operands-Cond, FitsSlot-Atom, FitsSlot-Un, FitsSlot-Bin, FitsSlot-Cond}
use Rattle.ax_space_trees.specs.declared.Label.{Label}
use Rattle.ax_space_trees.specs.declared.Label.TheVariants as label
use Rattle.ax_space_trees.specs.Positions.{top, nth, operand, at_position, label_at}
use Rattle.ax_space_trees.specs.Space.{InSpace}
use Rattle.ax_space_trees.proofs.Tops.{top-Atom}
use Rattle.ax_space_trees.proofs.Members.{nothing, here, there, only, which, Apart, from_pairs, pairs_from}
use Rattle.ax_space.specs.declared.Patch.{Patch}
use Rattle.ax_space.specs.Sets.{IsAllowed}
use Rattle.ax_space.specs.Sets as allowed
use Rattle.ax_space.specs.Chosen.{Chosen, with_slot, slots_of, space_of, AreChosen, IsSpaceOf, SlotsFit, AreBounded}
use Rattle.ax_space.specs.Patches.{InGuard, Reading, plain, guarded, AreTrees, IsPatch}
use Rattle.ax_space.specs.Fitting.{Fitting}
use Rattle.ax_space.proofs.Costs.{at-label}

-- candidates are small slots of the program
abbrev IsSmallSlot : List Slot → ℕ → Type 0
IsSmallSlot slots k = (slot : Slot) × (slice_get slots k ≡ Some slot) × (nodes slot.expr ≤ 31)

small-is : (n : ℕ) → nat_le n 31 ≡ true → n ≤ 31
small-is n h = grind arith

abbrev From : ℕ → List Slot → SlotId → Type 0
From at slots id = (k : ℕ) × (id.0 ≡ at + k) × IsSmallSlot slots k

from-later : (at : ℕ) (slot : Slot) (rest : List Slot) (id : SlotId) → From (at + 1) rest id → From at (slot ∷ rest) id
from-later at slot rest id h = (suc h.0, (let k = h.1 in omega arith), h.2)

from-first : (at : ℕ) (slot : Slot) (rest : List Slot) (id : SlotId) → (b : Bool) → is_small slot.expr ≡ b → (Contains (candidates_from (at + 1) rest) id → From (at + 1) rest id) → Contains (if b then (record { 0 = at }) ∷ candidates_from (at + 1) rest else candidates_from (at + 1) rest) id → From at (slot ∷ rest) id
from-first at slot rest id true is f c = elim (which (record { 0 = at }) id (candidates_from (at + 1) rest) c) as (λ _. From at (slot ∷ rest) id) [
  | inl e ↦ (0, (let q = ap (λ z. z.0) e in omega arith), (slot, refl, small-is (nodes slot.expr) is))
  | inr d ↦ from-later at slot rest id (f d)
]
from-first at slot rest id false is f c = from-later at slot rest id (f c)

candidate-from : (at : ℕ) (slots : List Slot) (id : SlotId) → Contains (candidates_from at slots) id → From at slots id
candidate-from at [] id c = absurd (nothing c)
candidate-from at (slot ∷ rest) id c = from-first at slot rest id (is_small slot.expr) refl (candidate-from (at + 1) rest id) c

pub candidate-slot : (program : Program) (id : SlotId) → Contains (candidates_of program) id → IsSmallSlot program.slots id.0
candidate-slot program id c =
    let h = candidate-from 0 program.slots id c in
    let same : id.0 ≡ h.0 = (let q = h.1 in omega arith) in
    subst (IsSmallSlot program.slots) (sym same) h.2

-- the chosen slots
slot-of : (program : Program) (ids : List SlotId) → AreChosen program ids → (id : SlotId) → Contains ids id → IsSmallSlot program.slots id.0
slot-of program ids h id c = candidate-slot program id (All-contains (Contains (candidates_of program)) ids id h.candidates c)

contains-at : {X : Type 0} (xs : List X) (i : ℕ) (x : X) → i < length xs → x ≡ get_or xs i x → Contains xs x
contains-at xs i x lt is = (i, lt, sym is)

pub chosen-at : (program : Program) (ids : List SlotId) (i : ℕ) (id : SlotId) → AreChosen program ids → i < length ids → id ≡ get_or ids i id → IsSmallSlot program.slots id.0
chosen-at program ids i id h lt is = slot-of program ids h id (contains-at ids i id lt is)

pub chosen-below : (program : Program) (ids : List SlotId) (i : ℕ) (id : SlotId) → AreChosen program ids → i < length ids → id ≡ get_or ids i id → id.0 < length program.slots
chosen-below program ids i id h lt is = let s = chosen-at program ids i id h lt is in slice_get_within program.slots id.0 s.0 s.1

with_slot-push : (o : Option Slot) (xs ys : List Slot) → with_slot o (xs ++ ys) ≡ with_slot o xs ++ ys
with_slot-push None xs ys = refl
with_slot-push (Some slot) xs ys = refl

slots_of-append : (program : Program) (xs ys : List SlotId) → slots_of program (xs ++ ys) ≡ slots_of program xs ++ slots_of program ys
slots_of-append program [] ys = refl
slots_of-append program (id ∷ xs) ys =
    ap (with_slot (slot_at program id)) (slots_of-append program xs ys) ∙ with_slot-push (slot_at program id) (slots_of program xs) (slots_of program ys)

one-slot : (program : Program) (id : SlotId) (slot : Slot) → slice_get program.slots id.0 ≡ Some slot → slots_of program (id ∷ []) ≡ slot ∷ []
one-slot program id slot h = ap (λ o. with_slot o []) h

pub slots-more : (program : Program) (ids : List SlotId) (i : ℕ) (id : SlotId) (slot : Slot) → i < length ids → id ≡ get_or ids i id → slice_get program.slots id.0 ≡ Some slot → slots_of program (take (i + 1) ids) ≡ slots_of program (take i ids) ++ slot ∷ []
slots-more program ids i id slot lt is h =
    rw (take_more ids i id lt, ← is, slots_of-append program (take i ids) (id ∷ [])) (ap (λ ys. slots_of program (take i ids) ++ ys) (one-slot program id slot h))

found-all : (program : Program) (ids : List SlotId) → ((id : SlotId) → Contains ids id → IsSmallSlot program.slots id.0) → (length (slots_of program ids) ≡ length ids) × ((slot : Slot) → Contains (slots_of program ids) slot → nodes slot.expr ≤ 31)
found-all program [] f = (refl, (λ slot c. absurd (nothing c)))
found-all program (id ∷ ids) f =
    let s = f id (here id ids) in
    let r = found-all program ids (λ other c. f other (there id ids c)) in
    rw s.1 (
      ap suc r.0,
      (λ slot c. elim (which s.0 slot (slots_of program ids) c) as (λ _. nodes slot.expr ≤ 31) [
        | inl e ↦ subst (λ z. nodes z.expr ≤ 31) e s.2
        | inr d ↦ r.1 slot d
      ]),
    )

again : {X : Type 0} (xs : List X) (k : ℕ) (d : X) → k < length xs → get_or xs k (get_or xs k d) ≡ get_or xs k d
again [] k d h = absurd (omega arith)
again (x ∷ xs) zero d h = refl
again (x ∷ xs) (suc k) d h = again xs k d (omega arith)

all-from : {X : Type 0} (P : X → Type 0) (xs : List X) → ((y : X) → Contains xs y → P y) → All P xs
all-from P xs f k d h = f (get_or xs k d) (k, h, again xs k d h)

pub bounded : (program : Program) (ids : List SlotId) (grow : ℕ) → AreChosen program ids → grow ≤ 20 → AreBounded ids (slots_of program ids) grow
bounded program ids grow h g =
    let f = found-all program ids (slot-of program ids h) in
    record { one_each = f.0; few = (let k = h.few in let e = f.0 in omega arith); small = all-from (λ slot. nodes slot.expr ≤ 31) (slots_of program ids) f.1; grown = g }

-- what fits a slot, label by label
abbrev LabelFits : Slot → Label → Type 0
LabelFits slot (label.Num n) = IsLiteral n
LabelFits slot (label.Atom a) = IsAtomOf slot a
LabelFits slot (label.Un op) = Unit {0}
LabelFits slot (label.Bin op) = Unit {0}
LabelFits slot label.Cond = Unit {0}

allowed-fits : (slot : Slot) {sets : Sets} {l : Label} → IsAllowed sets slot l → LabelFits slot l
allowed-fits slot (allowed.unary h) = tt
allowed-fits slot (allowed.binary h) = tt
allowed-fits slot (allowed.atom h is) = is
allowed-fits slot (allowed.number h le) = tt

root-fits : (slot : Slot) (t : Expr) → FitsSlot slot t → LabelFits slot (top t)
root-fits slot =
    expr-cases (λ t. FitsSlot slot t → LabelFits slot (top t))
    (λ n h. h)
    (λ a h. rw (top-Atom a) (rw (FitsSlot-Atom slot a) at h))
    (λ op a h. tt)
    (λ op a b h. tt)
    (λ f a b h. tt)

two-fit : (P : Expr → Type 0) (a b x : Expr) → P a → P b → Contains (a ∷ b ∷ []) x → P x
two-fit P a b x p q c = elim (which a x (b ∷ []) c) as (λ _. P x) [ inl e ↦ subst P e p | inr d ↦ subst P (only b x d) q ]

operand-fits : (slot : Slot) (t : Expr) → FitsSlot slot t → (x : Expr) → Contains (operands t) x → FitsSlot slot x
operand-fits slot =
    expr-cases (λ t. FitsSlot slot t → (x : Expr) → Contains (operands t) x → FitsSlot slot x)
    (λ n h x c. absurd (nothing c))
    (λ a h x c. absurd (nothing c))
    (λ op a h x c. (let d = rw (operands-Un op a) at c in let p = rw (FitsSlot-Un slot op a) at h in subst (FitsSlot slot) (only a x d) p))
    (λ op a b h x c. (let d = rw (operands-Bin op a b) at c in let p = rw (FitsSlot-Bin slot op a b) at h in two-fit (FitsSlot slot) a b x p.0 p.1 d))
    (λ f a b h x c. (let d = rw (operands-Cond f a b) at c in let p = rw (FitsSlot-Cond slot f a b) at h in
    elim (which f x (a ∷ b ∷ []) d) as (λ _. FitsSlot slot x) [ inl q ↦ subst (FitsSlot slot) q p.0 | inr r ↦ two-fit (FitsSlot slot) a b x p.1 p.2 r ]))

none-is-some : {t : Expr} → ◌≡◌ {A = Option Expr} None (Some t) → ⊥
none-is-some h = cc

some-is-some : {t u : Expr} → ◌≡◌ {A = Option Expr} (Some t) (Some u) → t ≡ u
some-is-some h = cc

nth-in : (es : List Expr) (k : ℕ) (x : Expr) → nth es k ≡ Some x → Contains es x
nth-in [] zero x h = absurd (none-is-some h)
nth-in [] (suc k) x h = absurd (none-is-some h)
nth-in (t ∷ es) zero x h = absurd (none-is-some h)
nth-in (t ∷ es) (suc zero) x h = subst (Contains (t ∷ es)) (some-is-some h) (here t es)
nth-in (t ∷ es) (suc (suc k)) x h = there t es (nth-in es (suc k) x h)

child-fits : (slot : Slot) (o : Option Expr) → ((t : Expr) → o ≡ Some t → FitsSlot slot t) → (k : ℕ) (x : Expr) → operand o k ≡ Some x → FitsSlot slot x
child-fits slot None f k x h = absurd (none-is-some h)
child-fits slot (Some t) f k x h = operand-fits slot t (f t refl) x (nth-in (operands t) k x h)

part-fits : (slot : Slot) (w : List ℕ) (o : Option Expr) → ((t : Expr) → o ≡ Some t → FitsSlot slot t) → (t : Expr) → at_position w o ≡ Some t → FitsSlot slot t
part-fits slot [] o f t h = f t h
part-fits slot (k ∷ w) o f t h = part-fits slot w (operand o k) (child-fits slot o f k) t h

pub old-fits : (slot : Slot) (old : Expr) → FitsSlot slot old → (w : List ℕ) (l : Label) → label_at w (Some old) ≡ Some l → LabelFits slot l
old-fits slot old h w l is =
    let t = at-label w old l is in
    subst (LabelFits slot) t.2 (root-fits slot t.0 (part-fits slot w (Some old) (λ u e. subst (FitsSlot slot) (some-is-some e) h) t.0 t.1))

abbrev EachFits : Slot → Expr → Type 0
EachFits slot tree = (w : List ℕ) (t : Expr) → at_position w (Some tree) ≡ Some t → LabelFits slot (top t)

whole-fits : (slot : Slot) (tree : Expr) → EachFits slot tree → FitsSlot slot tree
whole-fits slot =
    expr-induction (λ t. EachFits slot t → FitsSlot slot t)
    (λ n f. f [] (e.Num n) refl)
    (λ a f. rw (FitsSlot-Atom slot a) (rw (top-Atom a) at (f [] (e.Atom a) refl)))
    (λ op a ih f. rw (FitsSlot-Un slot op a) (ih (λ w t h. f (1 ∷ w) t (rw (operands-Un op a) h))))
    (λ op a b ih jh f. rw (FitsSlot-Bin slot op a b) (ih (λ w t h. f (1 ∷ w) t (rw (operands-Bin op a b) h)), jh (λ w t h. f (2 ∷ w) t (rw (operands-Bin op a b) h))))
    (λ x a b ih jh kh f. rw (FitsSlot-Cond slot x a b)
    (ih (λ w t h. f (1 ∷ w) t (rw (operands-Cond x a b) h)), jh (λ w t h. f (2 ∷ w) t (rw (operands-Cond x a b) h)), kh (λ w t h. f (3 ∷ w) t (rw (operands-Cond x a b) h))))

space-fits : (sets : Sets) (grow : ℕ) (slot : Slot) (tree : Expr) → FitsSlot slot slot.expr → InSpace (IsAllowed sets slot) grow slot.expr tree → FitsSlot slot tree
space-fits sets grow slot tree h s = whole-fits slot tree
    (λ w t is. elim (s w t is).1 as (λ _. LabelFits slot (top t)) [ inl q ↦ old-fits slot slot.expr h w (top t) q | inr a ↦ allowed-fits slot a ])

guard-fits : (sets : Sets) (slot : Slot) (guard : Expr) → InGuard (IsAllowed sets slot) guard → FitsSlot slot guard
guard-fits sets slot guard g = whole-fits slot guard (λ w t is. allowed-fits slot (g w t is).1)

pub reading-fits : {sets : Sets} {grow : ℕ} {slot : Slot} {tree : Expr} {n : ℕ} → FitsSlot slot slot.expr → Reading sets grow slot tree n → FitsSlot slot tree
reading-fits {sets} {grow} {slot} h (plain {tree} s d) = space-fits sets grow slot tree h s
reading-fits {sets} {grow} {slot} h (guarded {op} {guard} on is g) = rw (FitsSlot-Bin slot op slot.expr guard) (h, guard-fits sets slot guard g)

-- one tree after the other
set-other : {X : Type 0} (xs : List X) (i j : ℕ) (x : X) → i < j → slice_get (slice_set xs i x) j ≡ slice_get xs j
set-other [] i j x h = refl
set-other (y ∷ xs) zero zero x h = absurd (omega arith)
set-other (y ∷ xs) zero (suc j) x h = refl
set-other (y ∷ xs) (suc i) zero x h = absurd (omega arith)
set-other (y ∷ xs) (suc i) (suc j) x h = set-other xs i j x (omega arith)

with-tree-other : (o : Option Slot) (slots : List Slot) (id other : SlotId) (tree : Expr) → id.0 < other.0 → slice_get (with_tree o slots id tree) other.0 ≡ slice_get slots other.0
with-tree-other None slots id other tree h = refl
with-tree-other (Some slot) slots id other tree h = set-other slots id.0 other.0 (record slot { expr = tree }) h

abbrev Matched : Program → List SlotId → List Slot → Type 0
Matched program [] [] = Unit {0}
Matched program (id ∷ ids) (slot ∷ slots) = (slot_at program id ≡ Some slot) × Matched program ids slots
Matched program [] (slot ∷ slots) = ⊥
Matched program (id ∷ ids) [] = ⊥

matched-later : (program : Program) (id : SlotId) (tree : Expr) (ids : List SlotId) (slots : List Slot) → ((other : SlotId) → Contains ids other → id.0 < other.0) → Matched program ids slots → Matched (substituted program id tree) ids slots
matched-later program id tree [] [] f m = tt
matched-later program id tree (other ∷ ids) (slot ∷ slots) f m = (
  with-tree-other (slot_at program id) program.slots id other tree (f other (here other ids)) ∙ m.0,
  matched-later program id tree ids slots (λ next c. f next (there other ids c)) m.1,
)
matched-later program id tree [] (slot ∷ slots) f m = m
matched-later program id tree (other ∷ ids) [] f m = m

some-slot : {s t : Slot} → ◌≡◌ {A = Option Slot} (Some s) (Some t) → s ≡ t
some-slot h = cc

fitting : (sets : Sets) (grow : ℕ) (program : Program) (ids : List SlotId) (slots : List Slot) (trees : List Expr) → Apart (λ a b. a.0 < b.0) ids → Matched program ids slots → ((slot : Slot) → Contains slots slot → FitsSlot slot slot.expr) → AreTrees sets grow slots trees → Fitting program ids trees
fitting sets grow program [] slots trees a m f h = tt
fitting sets grow program (id ∷ ids) [] trees a m f h = absurd m
fitting sets grow program (id ∷ ids) (slot ∷ slots) [] a m f h = tt
fitting sets grow program (id ∷ ids) (slot ∷ slots) (tree ∷ trees) a m f h = (
  slice_get_within program.slots id.0 slot m.0,
  (λ x is. subst (λ z. FitsSlot z tree) (some-slot (sym m.0 ∙ is)) (reading-fits (f slot (here slot slots)) (h.0).1)),
  fitting sets grow (substituted program id tree) ids slots trees a.1 (matched-later program id tree ids slots a.0 m.1) (λ s c. f s (there slot slots c)) h.1,
)

matched : (program : Program) (ids : List SlotId) → ((id : SlotId) → Contains ids id → IsSmallSlot program.slots id.0) → Matched program ids (slots_of program ids)
matched program [] f = tt
matched program (id ∷ ids) f =
    let s = f id (here id ids) in
    subst (λ o. Matched program (id ∷ ids) (with_slot o (slots_of program ids))) (sym s.1) (s.1, matched program ids (λ other c. f other (there id ids c)))

get-in : {X : Type 0} (xs : List X) (k : ℕ) (x : X) → slice_get xs k ≡ Some x → Contains xs x
get-in [] k x h = absurd (cc)
get-in (y ∷ xs) zero x h = (let q : y ≡ x = cc in subst (Contains (y ∷ xs)) q (here y xs))
get-in (y ∷ xs) (suc k) x h = there y xs (get-in xs k x h)

chosen-in : (program : Program) (ids : List SlotId) → ((id : SlotId) → Contains ids id → IsSmallSlot program.slots id.0) → (slot : Slot) → Contains (slots_of program ids) slot → Contains program.slots slot
chosen-in program [] f slot c = absurd (nothing c)
chosen-in program (id ∷ ids) f slot c =
    let s = f id (here id ids) in
    let d : Contains (s.0 ∷ slots_of program ids) slot = rw s.1 at c in
    elim (which s.0 slot (slots_of program ids) d) as (λ _. Contains program.slots slot) [
      | inl q ↦ subst (Contains program.slots) q (get-in program.slots id.0 s.0 s.1)
      | inr r ↦ chosen-in program ids (λ other g. f other (there id ids g)) slot r
    ]

pub patch-fitting : (program : Program) (space : Chosen) (patch : Patch) → IsSpaceOf program space → IsPatch space patch → SlotsFit program.slots → Fitting program space.ids patch.trees
patch-fitting program space patch is p fit =
    let f = slot-of program space.ids is.chosen in
    fitting space.sets space.grow program space.ids space.slots patch.trees (from_pairs (λ a b. a.0 < b.0) space.ids is.chosen.rising)
    (subst (Matched program space.ids) (sym is.slots) (matched program space.ids f))
    (λ slot c. All-contains (λ s. FitsSlot s s.expr) program.slots slot fit (chosen-in program space.ids f slot (subst (λ z. Contains z slot) is.slots c)))
    p

pub made-is-space : (program : Program) (space : Chosen) → AreChosen program space.ids → space ≡ space_of program space.ids space.sets space.grow → IsSpaceOf program space
made-is-space program space h is = record { chosen = h; slots = ap (λ s. s.slots) is }

pub read-slot : (xs ys : List Slot) (k : ℕ) (slot : Slot) → xs ≡ ys → k < length ys → slot ≡ get_or xs k slot → slice_get ys k ≡ Some slot
read-slot xs ys k slot same lt is = slice_get_read ys (length ys) k slot refl lt (is ∙ ap (λ z. get_or z k slot) same)

fits-at : (sets : Sets) (grow : ℕ) (program : Program) (ids : List SlotId) (slots : List Slot) (trees : List Expr) → Matched program ids slots → ((slot : Slot) → Contains slots slot → FitsSlot slot slot.expr) → AreTrees sets grow slots trees → (k : ℕ) (id : SlotId) (tree : Expr) → slice_get ids k ≡ Some id → slice_get trees k ≡ Some tree → Fits program id tree
fits-at sets grow program [] slots trees m f h k id tree a b = absurd (cc)
fits-at sets grow program (first ∷ ids) [] trees m f h k id tree a b = absurd m
fits-at sets grow program (first ∷ ids) (slot ∷ slots) [] m f h k id tree a b = absurd h
fits-at sets grow program (first ∷ ids) (slot ∷ slots) (own ∷ trees) m f h zero id tree a b =
    (let p : first ≡ id = cc in let q : own ≡ tree = cc in
    subst (λ z. Fits program z tree) p (subst (Fits program first) q
    (λ x is. subst (λ z. FitsSlot z own) (some-slot (sym m.0 ∙ is)) (reading-fits (f slot (here slot slots)) (h.0).1))))
fits-at sets grow program (first ∷ ids) (slot ∷ slots) (own ∷ trees) m f h (suc k) id tree a b =
    fits-at sets grow program ids slots trees m.1 (λ s c. f s (there slot slots c)) h.1 k id tree a b

pub patch-fits : (program : Program) (space : Chosen) → IsSpaceOf program space → SlotsFit program.slots → (patch : Patch) → IsPatch space patch → (k : ℕ) (id : SlotId) (tree : Expr) → slice_get space.ids k ≡ Some id → slice_get patch.trees k ≡ Some tree → Fits program id tree
patch-fits program space is fit patch p k id tree a b =
    let f = slot-of program space.ids is.chosen in
    fits-at space.sets space.grow program space.ids space.slots patch.trees
    (subst (Matched program space.ids) (sym is.slots) (matched program space.ids f))
    (λ slot c. All-contains (λ s. FitsSlot s s.expr) program.slots slot fit (chosen-in program space.ids f slot (subst (λ z. Contains z slot) is.slots c)))
    p k id tree a b

-- the candidates of a program may be chosen, where they are few
abbrev NotBelow : ℕ → SlotId → Type 0
NotBelow at id = at ≤ id.0

pick-from : (at : ℕ) (rest : List SlotId) (b : Bool) → ((id : SlotId) → Contains rest id → at + 1 ≤ id.0) → Apart (λ x y. x.0 < y.0) rest → Apart (λ x y. x.0 < y.0) (if b then (record { 0 = at }) ∷ rest else rest)
pick-from at rest true f a = ((λ id c. (let h = f id c in omega arith)), a)
pick-from at rest false f a = a

rise : (at : ℕ) (slots : List Slot) → Apart (λ x y. x.0 < y.0) (candidates_from at slots)
rise at [] = tt
rise at (slot ∷ rest) = pick-from at (candidates_from (at + 1) rest) (is_small slot.expr) (λ id c. (let h = candidate-from (at + 1) rest id c in let q = h.1 in omega arith)) (rise (at + 1) rest)

pub candidates-chosen : (program : Program) → length (candidates_of program) ≤ 4 → AreChosen program (candidates_of program)
candidates-chosen program few = record {
  candidates = all-from (Contains (candidates_of program)) (candidates_of program) (λ id c. c);
  rising = pairs_from (λ x y. x.0 < y.0) (candidates_of program) (rise 0 program.slots);
  few = few;
}
