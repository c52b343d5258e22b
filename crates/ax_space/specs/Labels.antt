-- The operators in the order in which labels are listed, and lists of labels.
use Rattle.std.specs.Prelude.{◌≡◌, ◌≢◌, ◌⊎◌, ℕ, ◌<◌, ℤ, pos, ◌≤ℤ◌, Bool, true, List, [], ◌∷◌, map, Contains, AllPairs}
use Rattle.std.specs.List.{filter}
use Rattle.ax_prog.specs.declared.Un.TheVariants as un
use Rattle.ax_prog.specs.declared.Bin.TheVariants as bin
use Rattle.ax_prog.specs.declared.Atom.{Atom}
use Rattle.ax_prog.specs.declared.Atom.TheVariants as atom
use Rattle.ax_prog.specs.declared.Lval.TheVariants as lval
use Rattle.ax_prog.specs.declared.VarId.{VarId}
use Rattle.ax_prog.specs.declared.Span.{Span}
use Rattle.ax_prog.specs.declared.Sets.{Sets}
use Rattle.ax_prog.specs.declared.Slot.{Slot}
use Rattle.ax_prog.specs.Substitution.{IsAtomOf}
use Rattle.ax_space_trees.specs.declared.Label.{Label}
use Rattle.ax_space_trees.specs.declared.Label.TheVariants as label
use Rattle.ax_space.specs.declared.Operator.{Operator}
use Rattle.ax_space.specs.declared.Operator.TheVariants as operator
use Rattle.ax_space.specs.Sets.{has_un, has_bin}

abbrev pub operators : List Operator
operators =
    operator.Binary bin.Eq ∷ operator.Binary bin.Ne ∷ operator.Binary bin.Lt ∷ operator.Binary bin.Le ∷ operator.Binary bin.Gt ∷ operator.Binary bin.Ge ∷
    operator.Binary bin.And ∷ operator.Binary bin.Or ∷ operator.Unary un.Not ∷
    operator.Binary bin.Add ∷ operator.Binary bin.Sub ∷ operator.Unary un.Neg ∷
    operator.Binary bin.Mul ∷ operator.Binary bin.Div ∷ operator.Binary bin.Rem ∷
    operator.Binary bin.BitAnd ∷ operator.Binary bin.BitOr ∷ operator.Binary bin.BitXor ∷ operator.Unary un.BitNot ∷ operator.Binary bin.Shl ∷ operator.Binary bin.Shr ∷ []

abbrev pub has_operator : Sets → Operator → Bool
has_operator sets (operator.Unary op) = has_un sets op
has_operator sets (operator.Binary op) = has_bin sets op

abbrev pub operator_label : Operator → Label
operator_label (operator.Unary op) = label.Un op
operator_label (operator.Binary op) = label.Bin op

-- the operators of the chosen sets, as labels
abbrev pub operator_labels : Sets → List Label
operator_labels sets = map operator_label (filter (has_operator sets) operators)

abbrev pub variable : VarId → Atom
variable v = atom.Read (lval.Var v)

-- exactly these variables and these atoms, each once
pub record IsCollected (scope : List VarId) (atoms : List (Atom × Span)) (found : List Atom) : Type 0 where
  pub sound : (a : Atom) → Contains found a → ((v : VarId) × Contains scope v × (variable v ≡ a)) ⊎ ((span : Span) × Contains atoms (a, span))
  pub variables : (v : VarId) → Contains scope v → Contains found (variable v)
  pub others : (a : Atom) (span : Span) → Contains atoms (a, span) → Contains found a
  pub once : AllPairs (λ x y. x ≢ y) found

-- a list with an atom more, if it isn't there yet
pub record IsAdded (before : List Atom) (a : Atom) (after : List Atom) : Type 0 where
  pub only : (b : Atom) → Contains after b → Contains before b ⊎ (b ≡ a)
  pub kept : (b : Atom) → Contains before b → Contains after b
  pub has : Contains after a
  pub once : AllPairs (λ x y. x ≢ y) before → AllPairs (λ x y. x ≢ y) after

abbrev pub IsChosenAtom : Sets → Slot → Label → Type 0
IsChosenAtom sets slot l = (sets.vars ≡ true) × (a : Atom) × (l ≡ label.Atom a) × IsAtomOf slot a

abbrev pub IsChosenNumber : Sets → ℤ → Label → Type 0
IsChosenNumber sets limit l = (sets.consts ≡ true) × (n : ℕ) × (l ≡ label.Num (pos n)) × (pos n ≤ℤ limit)

abbrev pub IsNumberBelow : ℕ → Label → Type 0
IsNumberBelow count l = (n : ℕ) × (l ≡ label.Num (pos n)) × (n < count)
