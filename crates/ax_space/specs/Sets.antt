-- The labels that the chosen sets allow in a slot.
use Rattle.std.specs.Prelude.{◌≡◌, ℕ, ◌≤◌, pos, Bool, true}
use Rattle.ax_prog.specs.declared.Un.{Un}
use Rattle.ax_prog.specs.declared.Un.TheVariants as un
use Rattle.ax_prog.specs.declared.Bin.{Bin}
use Rattle.ax_prog.specs.declared.Bin.TheVariants as bin
use Rattle.ax_prog.specs.declared.Atom.{Atom}
use Rattle.ax_prog.specs.declared.Sets.{Sets}
use Rattle.ax_prog.specs.declared.Slot.{Slot}
use Rattle.ax_prog.specs.Substitution.{IsAtomOf}
use Rattle.ax_space_trees.specs.declared.Label.{Label}
use Rattle.ax_space_trees.specs.declared.Label.TheVariants as label

-- the set that a unary operator belongs to
abbrev pub has_un : Sets → Un → Bool
has_un sets un.Neg = sets.arith
has_un sets un.Not = sets.logic
has_un sets un.BitNot = sets.bits

-- the set that a binary operator belongs to
abbrev pub has_bin : Sets → Bin → Bool
has_bin sets bin.Eq = sets.cmp
has_bin sets bin.Ne = sets.cmp
has_bin sets bin.Lt = sets.cmp
has_bin sets bin.Le = sets.cmp
has_bin sets bin.Gt = sets.cmp
has_bin sets bin.Ge = sets.cmp
has_bin sets bin.And = sets.logic
has_bin sets bin.Or = sets.logic
has_bin sets bin.Add = sets.arith
has_bin sets bin.Sub = sets.arith
has_bin sets bin.Mul = sets.mul
has_bin sets bin.Div = sets.mul
has_bin sets bin.Rem = sets.mul
has_bin sets bin.BitAnd = sets.bits
has_bin sets bin.BitOr = sets.bits
has_bin sets bin.BitXor = sets.bits
has_bin sets bin.Shl = sets.bits
has_bin sets bin.Shr = sets.bits

-- the labels of the chosen sets: operators, the atoms that may stand in the slot, and the numbers from 0 to the
-- largest `int`
pub data IsAllowed (sets : Sets) (slot : Slot) : Label → Type 0 where
  unary : {op : Un} → has_un sets op ≡ true → IsAllowed sets slot (label.Un op)
  binary : {op : Bin} → has_bin sets op ≡ true → IsAllowed sets slot (label.Bin op)
  atom : {a : Atom} → sets.vars ≡ true → IsAtomOf slot a → IsAllowed sets slot (label.Atom a)
  number : {n : ℕ} → sets.consts ≡ true → n ≤ 2147483647 → IsAllowed sets slot (label.Num (pos n))
