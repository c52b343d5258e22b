-- Texts of trees, in words of the grammar.
use Rattle.std.specs.Prelude.{ℕ, List}
use Rattle.ax_prog.specs.declared.Var.{Var}
use Rattle.ax_prog.specs.declared.Expr as ex
use Rattle.ax_prog.specs.declared.tokens.Kind.{Kind}
use Rattle.ax_lex.specs.Bytes.{Text}
use Rattle.ax_lex.specs.Pieces.{tokens_of}
use Rattle.ax_lex.specs.Splices.{SpellsInside}
use Rattle.ax_parse_grammar.specs.declared.tree.Expr.{Expr}
use Rattle.ax_parse_grammar.specs.Expressions.{Spells}
use Rattle.ax_names_types.specs.Scopes.{Env}
use Rattle.ax_print_fills.specs.Written.{IsWritten}

-- Before a space or `)`, the text spells an expression that writes the tree out, wherever it stands.
pub record IsShown (vars : List Var) (there : Env) (x : ex.Expr) (text : Text) : Type 0 where
  pub kinds : List Kind
  pub inside : SpellsInside text kinds
  pub spelled : (at : ℕ) → (a : Expr) × Spells 0 a (tokens_of at inside.pieces) × IsWritten vars there x a
