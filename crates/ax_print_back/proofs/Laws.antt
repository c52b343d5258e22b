-- The laws of the crates below that the proof stands on.
use Rattle.std.proofs.Common.{◌≡◌, ℕ, List, ◌∷◌, ◌++◌, length, Some, slice_get}
use Rattle.std.specs.List.{All}
use Rattle.ax_prog.specs.declared.Span as place
use Rattle.ax_prog.specs.declared.Var.{Var}
use Rattle.ax_prog.specs.declared.Expr as number
use Rattle.ax_prog.specs.declared.Atom.{Atom}
use Rattle.ax_prog.specs.declared.Slot.{Slot}
use Rattle.ax_prog.specs.declared.Program.{Program}
use Rattle.ax_prog.specs.declared.tokens.Kind.{Kind}
use Rattle.ax_prog.specs.declared.tokens.Token.{Token}
use Rattle.ax_prog.specs.Substitution.{FitsSlot}
use Rattle.ax_lex.specs.Bytes.{Text}
use Rattle.ax_lex.specs.Pieces.{SpellsTokens}
use Rattle.ax_lex.specs.Splices.{SpellsInside}
use Rattle.ax_print.specs.Text.{tree_text, leaf_text}
use Rattle.ax_parse_grammar.specs.declared.tree.Expr.{Expr}
use Rattle.ax_parse_grammar.specs.declared.tree.Tree.{Tree}
use Rattle.ax_parse_grammar.specs.Sources.{SpellsTree}
use Rattle.ax_names_types.specs.Scopes.{Env}
use Rattle.ax_names_rules.specs.Programs.{IsProgramOf}
use Rattle.ax_print_holes.specs.Holes.{Holds}
use Rattle.ax_print_holes.specs.Places.{IsRespelled}
use Rattle.ax_print_fills.specs.Replaced.{AgreeWith, IsNumberIn, IsFilledIn}
use Rattle.ax_print_fills.specs.Written.{HasAtom, IsWritten}
use Rattle.ax_print_back.specs.Swaps.{IsSwapped}
use Rattle.ax_front_facts.specs.Spans.{SlotsLie, SlotsRise, NamesAreWords}
use Rattle.ax_front_facts.specs.Writable.{IsWritable}
use Rattle.ax_print_back.specs.Shown.{IsShown}

pub record Laws : Type 0 where
  pub lie : (bytes : Text) (tokens : List Token) (tree : Tree) (program : Program) → SpellsTokens bytes tokens → SpellsTree tree tokens → IsProgramOf tree program → SlotsLie (length bytes) program
  pub rise : (bytes : Text) (tokens : List Token) (tree : Tree) (program : Program) → SpellsTokens bytes tokens → SpellsTree tree tokens → IsProgramOf tree program → SlotsRise program
  pub words : (bytes : Text) (tokens : List Token) (tree : Tree) (program : Program) → SpellsTokens bytes tokens → SpellsTree tree tokens → IsProgramOf tree program → NamesAreWords program
  pub swapped : (bytes : Text) (front : List Token) (t : Token) (ts back : List Token) (text : Text) (kinds : List Kind) (inside : SpellsInside text kinds) → SpellsTokens bytes (front ++ ((t ∷ ts) ++ back)) → IsSwapped bytes front (t ∷ ts) back inside
  pub shown : (bytes : Text) (tokens : List Token) (tree : Tree) (p : Program) (k : ℕ) (slot : Slot) (x : number.Expr) → SpellsTokens bytes tokens → SpellsTree tree tokens → NamesAreWords p → slice_get p.slots k ≡ Some slot → (h : IsFilledIn tree p k slot) → FitsSlot slot x → IsWritable x → IsShown p.vars h.there x (tree_text (leaf_text bytes p (record { 0 = k })) x)
  pub holes : (old : Expr) (tree : Tree) (tokens : List Token) (h : Holds old tree) → SpellsTree tree tokens → IsRespelled tree h tokens
  pub filled : (tree : Tree) (p : Program) (k : ℕ) (slot : Slot) → IsProgramOf tree p → slice_get p.slots k ≡ Some slot → IsFilledIn tree p k slot
  pub written : (there : Env) (vars : List Var) (x : number.Expr) (a : Expr) → AgreeWith vars there.names → IsWritten vars there x a → (atoms : List (Atom × place.Span)) × IsNumberIn there a x atoms
  pub atoms : (there : Env) (a : Expr) (x : number.Expr) (atoms : List (Atom × place.Span)) → IsNumberIn there a x atoms → All (HasAtom there a) atoms
