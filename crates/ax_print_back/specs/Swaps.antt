-- Stretches of tokens in a text, as texts of their own and replaced by others, with the place of each token.
use Rattle.std.specs.Prelude.{◌≡◌, ℕ, ◌+◌, ◌-◌, nat_le, if◌then◌else◌, List, [], ◌∷◌, ◌++◌, take, drop, length}
use Rattle.ax_prog.specs.declared.Span.{Span}
use Rattle.ax_prog.specs.declared.tokens.Kind.{Kind}
use Rattle.ax_prog.specs.declared.tokens.Token.{Token}
use Rattle.ax_lex.specs.Bytes.{Text}
use Rattle.ax_lex.specs.Pieces.{tokens_of, SpellsTokens}
use Rattle.ax_lex.specs.Splices.{kinds_of, SpellsInside, in_parens}
use Rattle.ax_parse_grammar.specs.declared.terminals.Terminal.TheVariants as w
use Rattle.ax_parse_grammar.specs.Terminals.{Is, extent}
use Rattle.ax_print_holes.specs.Moved.{moved_span, moved_tokens}

-- the bytes of a place
abbrev pub bytes_of : Text → Span → Text
bytes_of bytes s = take (s.to - s.from) (drop s.from bytes)

-- where the places go when what begins here is moved to there
abbrev pub carried : ℕ → ℕ → ℕ → ℕ
carried from to p = to + (p - from)

-- The bytes of a stretch of tokens spell these tokens wherever they stand before a space or `)`.
pub record IsCopied (bytes : Text) (ts : List Token) : Type 0 where
  pub inside : SpellsInside (bytes_of bytes (extent ts)) (kinds_of ts)
  pub tokens : (at : ℕ) → tokens_of at inside.pieces ≡ moved_tokens (carried (extent ts).from at) ts

-- where the places go when n bytes stand in this place: those up to its start stay
abbrev pub shifted : Span → ℕ → ℕ → ℕ
shifted s n p = if nat_le p s.from then p else (s.from + n) + (p - s.to)

-- the bytes with a text in parentheses in this place
abbrev pub swapped : Text → Span → Text → Text
swapped bytes s text = take s.from bytes ++ (in_parens text ++ drop s.to bytes)

-- With a text in parentheses in the place of a stretch of tokens, the bytes spell the text's tokens between `(` and `)` there,
-- and all other tokens where they move to.
pub record IsSwapped (bytes : Text) (front hole back : List Token) {text : Text} {kinds : List Kind} (inside : SpellsInside text kinds) : Type 0 where
  pub first : Token
  pub last : Token
  pub opens : Is w.OpenRound first
  pub closes : Is w.CloseRound last
  pub spelled : SpellsTokens (swapped bytes (extent hole) text) (moved_tokens (shifted (extent hole) (length (in_parens text))) front ++ ((first ∷ (tokens_of ((extent hole).from + 1) inside.pieces ++ last ∷ [])) ++ moved_tokens (shifted (extent hole) (length (in_parens text))) back))
  pub stands : extent (first ∷ (tokens_of ((extent hole).from + 1) inside.pieces ++ last ∷ [])) ≡ moved_span (shifted (extent hole) (length (in_parens text))) (extent hole)
