-- Texts that stand inside other texts, and stretches of tokens that are replaced.
use Rattle.std.specs.Prelude.{◌≡◌, ◌≤◌, ℕ, ◌-◌, Bool, true, false, ◌||◌, ◌==◌, List, [], ◌∷◌, ◌++◌, map, take, drop, codes}
use Rattle.ax_prog.specs.declared.Span.{Span}
use Rattle.ax_prog.specs.declared.tokens.Kind.{Kind}
use Rattle.ax_prog.specs.declared.tokens.Kind.TheVariants as k
use Rattle.ax_prog.specs.declared.tokens.Mark.TheVariants as m
use Rattle.ax_prog.specs.declared.tokens.Token.{Token}
use Rattle.ax_lex.specs.Bytes.{Text}
use Rattle.ax_lex.specs.Pieces.{Piece, texts, ArePieces, tokens_of}

-- the tokens without their places
abbrev pub kinds_of : List Token → List Kind
kinds_of = map (λ t. t.kind)

-- where the last of these tokens ends, or the given place
abbrev pub last_to : ℕ → List Token → ℕ
last_to to [] = to
last_to to (t ∷ ts) = last_to t.span.to ts

-- a space or `)`, which makes no token longer
abbrev pub is_end : ℕ → Bool
is_end b = b == 32 || b == 41

-- Behind other bytes of its line and before a space or `)`, the text spells these tokens.
pub record SpellsInside (text : Text) (kinds : List Kind) : Type 0 where
  pub pieces : List Piece
  pub joined : text ≡ texts pieces
  pub proper : (b : ℕ) (rest : Text) → is_end b ≡ true → ArePieces false pieces (b ∷ rest)
  pub found : kinds ≡ kinds_of (tokens_of 0 pieces)

abbrev pub in_parens : Text → Text
in_parens text = codes "(" ++ text ++ codes ")"

abbrev pub kinds_in_parens : List Kind → List Kind
kinds_in_parens kinds = k.Mark m.OpenRound ∷ (kinds ++ k.Mark m.CloseRound ∷ [])

-- the bytes from a place on, where each span's bytes are replaced by its text
abbrev pub spliced_from : ℕ → Text → List (Span × Text) → Text
spliced_from at bytes [] = drop at bytes
spliced_from at bytes (p ∷ ps) = take (p.0.from - at) (drop at bytes) ++ (p.1 ++ spliced_from p.0.to bytes ps)

abbrev pub spliced : Text → List (Span × Text) → Text
spliced = spliced_from 0

-- Among the tokens behind a place, these stretches become texts in parentheses, and of these kinds are the tokens then.
pub data Replaces : ℕ → List Token → List (Span × Text) → List Kind → Type 0 where
  none : {at : ℕ} (tokens : List Token) → Replaces at tokens [] (kinds_of tokens)
  next : {at : ℕ} {parts : List (Span × Text)} {kinds later : List Kind} (gap : List Token) (t : Token) (ts more : List Token) (text : Text) → at ≤ t.span.from → SpellsInside text kinds → Replaces (last_to t.span.to ts) more parts later → Replaces at (gap ++ ((t ∷ ts) ++ more)) ((record { from = t.span.from; to = last_to t.span.to ts }, in_parens text) ∷ parts) (kinds_of gap ++ (kinds_in_parens kinds ++ later))
