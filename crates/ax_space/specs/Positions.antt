-- The positions of a chosen expression's space in their order, and the labels that each offers.
use Rattle.std.specs.Prelude.{◌≡◌, ◌⊎◌, ℕ, ◌<◌, ◌≤◌, List, [], ◌∷◌, ◌++◌, length, map, Contains, AllPairs, Option, Some, None, is_some, slice_get, if◌then◌else◌}
use Rattle.std.specs.List.{All}
use Rattle.ax_prog.specs.declared.Atom.{Atom}
use Rattle.ax_prog.specs.declared.Span.{Span}
use Rattle.ax_prog.specs.declared.Expr.{Expr}
use Rattle.ax_prog.specs.declared.Sets.{Sets}
use Rattle.ax_prog.specs.declared.Slot.{Slot}
use Rattle.ax_space_trees.specs.declared.Label.{Label}
use Rattle.ax_space_trees.specs.declared.Label.TheVariants as label
use Rattle.ax_space_trees.specs.Positions.{at_position, label_at}
use Rattle.ax_space_trees.specs.Space.{IsPosition}
use Rattle.ax_space.specs.declared.Mark.{Mark}
use Rattle.ax_space.specs.declared.Mark.TheVariants as mark
use Rattle.ax_space.specs.declared.Position.{Position}
use Rattle.ax_space.specs.Chosen.{Chosen}
use Rattle.ax_space.specs.Labels.{operator_labels, variable}

-- of two words, the first digit that differs is smaller in this one
abbrev pub ByDigits : List ℕ → List ℕ → Type 0
ByDigits [] w = ⊥
ByDigits (j ∷ v) [] = ⊥
ByDigits (j ∷ v) (k ∷ w) = (j < k) ⊎ ((j ≡ k) × ByDigits v w)

-- shorter words first, and words of one length by their digits
abbrev pub Precedes : List ℕ → List ℕ → Type 0
Precedes v w = (length v < length w) ⊎ ((length v ≡ length w) × ByDigits v w)

-- the number of operands that a label takes
abbrev pub operands_of : Label → ℕ
operands_of (label.Num n) = 0
operands_of (label.Atom a) = 0
operands_of (label.Un op) = 1
operands_of (label.Bin op) = 2
operands_of label.Cond = 3

abbrev pub arity : Mark → ℕ
arity (mark.Label l) = operands_of l
arity mark.Const = 0

-- each operand of the label has a position in the space
abbrev pub HasOperands : ℕ → Expr → List ℕ → Mark → Type 0
HasOperands grow old w m = (k : ℕ) → 1 ≤ k → k ≤ arity m → IsPosition grow old (w ++ k ∷ [])

-- the elements of a list that have a property, each once, in the order in which they first come
pub data Firsts {X : Type 0} (P : X → Type 0) : List X → List X → Type 0 where
  none : Firsts P [] []
  kept : {xs found : List X} {x : X} → Firsts P xs found → P x → (Contains found x → ⊥) → Firsts P (xs ++ x ∷ []) (found ++ x ∷ [])
  passed : {xs found : List X} {x : X} → Firsts P xs found → (P x → ⊥) ⊎ Contains found x → Firsts P (xs ++ x ∷ []) found

-- the same of a list with an element more
abbrev pub IsFirstsNext : {X : Type 0} → (X → Type 0) → List X → X → List X → Type 0
IsFirstsNext {X} P before x after = (xs : List X) → Firsts P xs before → Firsts P (xs ++ x ∷ []) after

-- the label of the old tree, if it has a node there
abbrev pub old_marks : Option Label → List Mark
old_marks None = []
old_marks (Some l) = mark.Label l ∷ []

abbrev pub atom_in : Atom × Span → Atom
atom_in pair = pair.0

-- the variables in scope in order of declaration, then the atoms of the expression in source order
abbrev pub atoms_of : Slot → List Atom
atoms_of slot = map variable slot.scope ++ map atom_in slot.atoms

-- the labels of the chosen sets in their order: operators, atoms, the constant
abbrev pub set_marks : Sets → Slot → List Mark
set_marks sets slot =
    map (λ l. mark.Label l) (operator_labels sets ++ (if sets.vars then map (λ a. label.Atom a) (atoms_of slot) else [])) ++
    (if sets.consts then mark.Const ∷ [] else [])

-- the labels of a position: the old one, then those of the chosen sets whose operands have positions, each once
abbrev pub LabelsAt : Sets → ℕ → Slot → List ℕ → List Mark → Type 0
LabelsAt sets grow slot w labels =
    Firsts (HasOperands grow slot.expr w) (old_marks (label_at w (Some slot.expr)) ++ set_marks sets slot) labels

-- a position with its labels, and whether the old tree has a node there
pub record IsDescribed (sets : Sets) (grow : ℕ) (slot : Slot) (p : Position) : Type 0 where
  pub labels : LabelsAt sets grow slot p.word p.labels
  pub old : p.old ≡ is_some (at_position p.word (Some slot.expr))

-- exactly the positions of a slot's space, by length and then by digits, none twice
pub record ArePositions (sets : Sets) (grow : ℕ) (slot : Slot) (found : List Position) : Type 0 where
  pub placed : (p : Position) → Contains found p → IsPosition grow slot.expr p.word
  pub all : (w : List ℕ) → IsPosition grow slot.expr w → (p : Position) × Contains found p × (p.word ≡ w)
  pub rise : AllPairs (λ p q. Precedes p.word q.word) found
  pub described : All (IsDescribed sets grow slot) found

-- the positions of the chosen expression of that number, from 0
abbrev pub ArePositionsOf : Chosen → ℕ → List Position → Type 0
ArePositionsOf space chosen found = (slot : Slot) → slice_get space.slots chosen ≡ Some slot → ArePositions space.sets space.grow slot found
