-- The text that stands for a tree where it replaces a slot's expression.
use Rattle.std.specs.Prelude.{ℕ, ◌-◌, Bool, true, false, if◌then◌else◌, List, [], ◌∷◌, ◌++◌, take, drop, codes, Option, Some, None, slice_get}
use Rattle.std.specs.Fmt.{signed_decimal}
use Rattle.ax_prog.specs.declared.Un.{Un}
use Rattle.ax_prog.specs.declared.Un.TheVariants as un
use Rattle.ax_prog.specs.declared.Bin.{Bin}
use Rattle.ax_prog.specs.declared.Bin.TheVariants as bin
use Rattle.ax_prog.specs.declared.Expr.{Expr, Num, Atom', Un', Bin', Cond'}
use Rattle.ax_prog.specs.declared.Atom.{Atom}
use Rattle.ax_prog.specs.declared.Atom.TheVariants as atom
use Rattle.ax_prog.specs.declared.Atom.TheBlock.{more_of-Expr, end_of-Expr, more_of-Atom, end_of-Atom}
use Rattle.ax_prog.specs.declared.Lval.{Var}
use Rattle.ax_prog.specs.declared.Span.{Span}
use Rattle.ax_prog.specs.declared.Var as var
use Rattle.ax_prog.specs.declared.VarId.{VarId}
use Rattle.ax_prog.specs.declared.Slot.{Slot}
use Rattle.ax_prog.specs.declared.SlotId.{SlotId}
use Rattle.ax_prog.specs.declared.Program.{Program}
use Rattle.ax_prog.specs.Candidates.{slot_at}
use Rattle.ax_prog.specs.Equality.{atom_eq}

abbrev pub un_text : Un → List ℕ
un_text un.Neg = codes "-"
un_text un.Not = codes "!"
un_text un.BitNot = codes "~"

abbrev pub bin_text : Bin → List ℕ
bin_text bin.Eq = codes "=="
bin_text bin.Ne = codes "!="
bin_text bin.Lt = codes "<"
bin_text bin.Le = codes "<="
bin_text bin.Gt = codes ">"
bin_text bin.Ge = codes ">="
bin_text bin.And = codes "&&"
bin_text bin.Or = codes "||"
bin_text bin.Add = codes "+"
bin_text bin.Sub = codes "-"
bin_text bin.Mul = codes "*"
bin_text bin.Div = codes "/"
bin_text bin.Rem = codes "%"
bin_text bin.BitAnd = codes "&"
bin_text bin.BitOr = codes "|"
bin_text bin.BitXor = codes "^"
bin_text bin.Shl = codes "<<"
bin_text bin.Shr = codes ">>"

abbrev pub in_parens : List ℕ → List ℕ
in_parens text = codes "(" ++ text ++ codes ")"

abbrev pub is_read : Atom → Bool
is_read (atom.Read place) = true
is_read (atom.Same a b) = false
is_read (atom.Differ a b) = false

-- a number, or the value of a place
abbrev pub is_leaf : Expr → Bool
is_leaf (Num n) = true
is_leaf (Atom' s (more_of-Atom a end_of-Atom)) = is_read a
is_leaf (Un' op s row) = false
is_leaf (Bin' op s row t row2) = false
is_leaf (Cond' s row t row2 u row3) = false

-- a tree's text as an operand: in parentheses, but for a leaf
abbrev pub as_operand : Expr → List ℕ → List ℕ
as_operand tree text = if is_leaf tree then text else in_parens text

-- a tree's text, where each atom's text is given
abbrev pub tree_text : (Atom → List ℕ) → Expr → List ℕ
tree_text text_of_atom (Num n) = signed_decimal n
tree_text text_of_atom (Atom' s (more_of-Atom a end_of-Atom)) = text_of_atom a
tree_text text_of_atom (Un' op s (more_of-Expr a end_of-Expr)) = un_text op ++ as_operand a (tree_text text_of_atom a)
tree_text text_of_atom (Bin' op s (more_of-Expr a end_of-Expr) t (more_of-Expr b end_of-Expr)) =
    as_operand a (tree_text text_of_atom a) ++ (codes " " ++ (bin_text op ++ (codes " " ++ as_operand b (tree_text text_of_atom b))))
tree_text text_of_atom (Cond' s (more_of-Expr f end_of-Expr) t (more_of-Expr a end_of-Expr) u (more_of-Expr b end_of-Expr)) =
    as_operand f (tree_text text_of_atom f) ++ (codes " ? " ++ (as_operand a (tree_text text_of_atom a) ++ (codes " : " ++ as_operand b (tree_text text_of_atom b))))

abbrev pub atom_operand : (Atom → List ℕ) → Atom → List ℕ
atom_operand text_of_atom a = if is_read a then text_of_atom a else in_parens (text_of_atom a)

abbrev pub operand_text : (Atom → List ℕ) → Expr → List ℕ
operand_text text_of_atom tree = as_operand tree (tree_text text_of_atom tree)

-- the place in the source of the first of the atoms that equals it
abbrev pub first_span : Atom → List (Atom × Span) → Option Span
first_span a [] = None
first_span a (part ∷ rest) = if atom_eq part.0 a then Some part.1 else first_span a rest

abbrev pub bytes_at : List ℕ → Option Span → List ℕ
bytes_at source None = []
bytes_at source (Some span) = take (span.to - span.from) (drop span.from source)

abbrev pub name_in : Option var.Var → List ℕ
name_in None = []
name_in (Some v) = v.name

abbrev pub name_of : Program → VarId → List ℕ
name_of program id = name_in (slice_get program.vars id.0)

-- a variable's name, or else the source bytes of the first of the slot's atoms that equals it
abbrev pub atom_text : List ℕ → Program → List (Atom × Span) → Atom → List ℕ
atom_text source program atoms (atom.Read (Var id)) = name_of program id
atom_text source program atoms a = bytes_at source (first_span a atoms)

abbrev pub atoms_in : Option Slot → List (Atom × Span)
atoms_in None = []
atoms_in (Some slot) = slot.atoms

abbrev pub leaf_text : List ℕ → Program → SlotId → Atom → List ℕ
leaf_text source program id a = atom_text source program (atoms_in (slot_at program id)) a

-- the text that replaces the expression of the slot of that number
abbrev pub text_of : List ℕ → Program → SlotId → Expr → List ℕ
text_of source program id tree = in_parens (tree_text (leaf_text source program id) tree)
