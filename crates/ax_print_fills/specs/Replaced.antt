-- Programs of texts that have moved, programs with one number replaced, and where such a number stands in the source.
use Rattle.std.specs.Prelude.{◌≡◌, ℕ, List, All, map, Some, slice_get, slice_set}
use Rattle.ax_prog.specs.declared.Span.{Span}
use Rattle.ax_prog.specs.declared.Expr as ex
use Rattle.ax_prog.specs.declared.Atom.{Atom}
use Rattle.ax_prog.specs.declared.Var.{Var}
use Rattle.ax_prog.specs.declared.Slot.{Slot}
use Rattle.ax_prog.specs.declared.Program.{Program}
use Rattle.ax_parse_grammar.specs.declared.tree.Expr as tree_of
use Rattle.ax_parse_grammar.specs.declared.tree.Tree.{Tree}
use Rattle.ax_parse_grammar.specs.Trees.{span_of}
use Rattle.ax_names_types.specs.declared.Entry.{Entry}
use Rattle.ax_names_types.specs.declared.Entity.{Entity}
use Rattle.ax_names_types.specs.declared.Entity.TheVariants as entity
use Rattle.ax_names_types.specs.declared.Typed.{Typed}
use Rattle.ax_names_types.specs.declared.Typed.TheVariants as t
use Rattle.ax_names_types.specs.Scopes.{Env}
use Rattle.ax_names_types.specs.Meaning.{Is, Means}
use Rattle.ax_names_rules.specs.States.{visible}
use Rattle.ax_names_rules.specs.Programs.{IsProgramOf}
use Rattle.ax_print_holes.specs.Moved.{moved_span}
use Rattle.ax_print_holes.specs.Holes.{Holds, put}

-- ---- what moves in a program

abbrev pub moved_atoms : (ℕ → ℕ) → List (Atom × Span) → List (Atom × Span)
moved_atoms f atoms = map (λ (a : Atom × Span). (a.0, moved_span f a.1)) atoms

abbrev pub moved_slot : (ℕ → ℕ) → Slot → Slot
moved_slot f s = record s { span = moved_span f s.span; atoms = moved_atoms f s.atoms }

abbrev pub moved_program : (ℕ → ℕ) → Program → Program
moved_program f p = record p { slots = map (moved_slot f) p.slots }

-- ---- one number replaced

-- the slot with another expression in its place
abbrev pub renewed : Slot → Span → ex.Expr → List (Atom × Span) → Slot
renewed s at x atoms = record s { span = at; expr = x; atoms = atoms }

-- the program of a text that has moved, but for the slot of that number
abbrev pub filled_program : (ℕ → ℕ) → ℕ → Slot → Program → Program
filled_program f k s p = record p { slots = slice_set (map (moved_slot f) p.slots) k s }

-- ---- names in scope

-- a name that denotes a variable is that variable's
abbrev pub AgreesWith : List Var → List ℕ → Entity → Type 0
AgreesWith vars x (entity.Variable id u) = slice_get vars id.0 ≡ Some (record { name = x; ty = u })
AgreesWith vars x (entity.Function k) = Unit {0}

abbrev pub AgreeWith : List Var → List Entry → Type 0
AgreeWith vars names = All (λ e. AgreesWith vars e.name e.entity) names

-- ---- where a slot's number stands

-- the expression is a number here, with these atoms
abbrev pub IsNumberIn : Env → tree_of.Expr → ex.Expr → List (Atom × Span) → Type 0
IsNumberIn env a x atoms = (m : Typed) × Means env a m × Is a m (t.Int x atoms)

-- The expression of a slot in the source, and the names in scope there. Another expression that is a number there may stand in
-- its place: the program is the same then, with that number in the slot.
pub record IsFilledIn (tree : Tree) (p : Program) (k : ℕ) (slot : Slot) : Type 0 where
  pub old : tree_of.Expr
  pub path : Holds old tree
  pub there : Env
  pub stands : span_of old ≡ slot.span
  pub means : IsNumberIn there old slot.expr slot.atoms
  pub scope : visible there.names ≡ slot.scope
  pub named : AgreeWith p.vars there.names
  pub filled : (f : ℕ → ℕ) (new : tree_of.Expr) (x : ex.Expr) (atoms : List (Atom × Span)) → IsNumberIn there new x atoms → IsProgramOf (put f new tree path) (filled_program f k (renewed slot (span_of new) x atoms) p)
