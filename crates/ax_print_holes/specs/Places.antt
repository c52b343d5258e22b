-- The tokens of an expression in a source, and the token lists with others in their place.
use Rattle.std.specs.Prelude.{◌≡◌, ℕ, List, ◌++◌}
use Rattle.ax_prog.specs.declared.tokens.Token.{Token}
use Rattle.ax_parse_grammar.specs.declared.tree.Expr.{Expr}
use Rattle.ax_parse_grammar.specs.declared.tree.Tree.{Tree}
use Rattle.ax_parse_grammar.specs.Trees.{span_of}
use Rattle.ax_parse_grammar.specs.Terminals.{extent}
use Rattle.ax_parse_grammar.specs.Expressions.{Spells}
use Rattle.ax_parse_grammar.specs.Sources.{SpellsTree}
use Rattle.ax_print_holes.specs.Moved.{moved_span, moved_tokens}
use Rattle.ax_print_holes.specs.Holes.{Holds, put}

-- The source with another expression at the end of the path is spelled where tokens of the new expression stand in the place
-- of those of the old one, and all other tokens move. The place is that of the expression's span, so parentheses around it
-- stay. The new tokens stand where the old ones move to.
pub record IsRespelled {old : Expr} (tree : Tree) (h : Holds old tree) (ts : List Token) : Type 0 where
  pub front : List Token
  pub hole : List Token
  pub back : List Token
  pub joined : ts ≡ front ++ (hole ++ back)
  pub spelled : Spells 0 old hole
  pub stands : extent hole ≡ span_of old
  pub respelled : (f : ℕ → ℕ) (new : Expr) (us : List Token) → f 0 ≡ 0 → Spells 0 new us → extent us ≡ moved_span f (span_of old) → SpellsTree (put f new tree h) (moved_tokens f front ++ (us ++ moved_tokens f back))
