-- What no source begins with, and where a source stops.
use Rattle.std.specs.Prelude.{◌≡◌, ℕ, List, [], ◌∷◌, ◌++◌}
use Rattle.ax_prog.specs.declared.tokens.Token.{Token}
use Rattle.ax_parse_grammar.specs.declared.tree.Tree.{Tree}
use Rattle.ax_parse_grammar.specs.Terminals.{extent}
use Rattle.ax_parse_grammar.specs.Sources.{SpellsTree}

-- no tree's tokens begin with these
abbrev pub BeginsNone : List Token → Type 0
BeginsNone front = (t : Tree) (rest : List Token) → SpellsTree t (front ++ rest) → ⊥

-- Where tokens that spell no tree stop: at the start of a token with which, and with those before it, no tree's tokens begin; or at
-- the end of the last token, where the text ends too early.
pub data StopsAt (tokens : List Token) : ℕ → Type 0 where
  token : (front rest : List Token) (t : Token) → tokens ≡ front ++ t ∷ rest → BeginsNone (front ++ t ∷ []) → StopsAt tokens t.span.from
  end : StopsAt tokens (extent tokens).to
