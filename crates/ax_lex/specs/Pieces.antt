-- Which tokens bytes spell.
use Rattle.std.specs.Prelude.{◌≡◌, ℕ, ◌+◌, Bool, true, false, not, ◌&&◌, ◌||◌, ◌==◌, List, [], ◌∷◌, ◌++◌, length, slice_index, Some, codes}
use Rattle.std.specs.List.{list_all, flat_map}
use Rattle.ax_prog.specs.declared.tokens.Kind.{Kind}
use Rattle.ax_prog.specs.declared.tokens.Token.{Token}
use Rattle.ax_lex.specs.Bytes.{Text, is_blank, is_space, last_of, AtHead}
use Rattle.ax_lex.specs.Tokens.{kind_of, continues}

pub data Piece : Type 0 where
  -- a space, tab, line feed or carriage return
  space : ℕ → Piece
  -- what follows `//` on its line
  line : Text → Piece
  -- what stands between `/*` and `*/`
  block : Text → Piece
  -- `#`, blanks, `include`, blanks, and what stands between `<` and `>`
  include : Text → Text → Text → Piece
  token : Text → Kind → Piece

abbrev pub text_of : Piece → Text
text_of (space b) = b ∷ []
text_of (line body) = codes "//" ++ body
text_of (block body) = codes "/*" ++ body ++ codes "*/"
text_of (include a b name) = codes "#" ++ a ++ codes "include" ++ b ++ codes "<" ++ name ++ codes ">"
text_of (token text kind) = text

-- `*/` stands in it
abbrev pub has_end : Text → Bool
has_end [] = false
has_end (b ∷ bs) = (b == 42 && slice_index bs 0 == 47) || has_end bs

-- only spaces and tabs stand before what comes next on its line
abbrev pub fresh_after : Bool → Piece → Bool
fresh_after fresh (space b) = b == 10 || (fresh && is_blank b)
fresh_after fresh _ = false

-- and after these pieces
abbrev pub fresh_end : Bool → List Piece → Bool
fresh_end fresh [] = fresh
fresh_end fresh (p ∷ ps) = fresh_end (fresh_after fresh p) ps

-- The piece stands whole before these bytes. A `//` comment ends before a line feed that no backslash stands before
-- (6.4.9), `/*` at the first `*/`, and a token where the next byte would not make it longer (6.4p4).
abbrev pub IsPiece : Bool → Piece → Text → Type 0
IsPiece fresh (space b) rest = is_space b ≡ true
IsPiece fresh (line body) rest = (list_all (λ b. not (b == 10)) body ≡ true) × AtHead rest (λ b. (b ≡ 10) × (last_of body ≡ 92 → ⊥))
IsPiece fresh (block body) rest = has_end body ≡ false
IsPiece fresh (include a b name) rest = (fresh ≡ true) × (list_all is_blank a ≡ true) × (list_all is_blank b ≡ true) × (list_all (λ c. not (c == 62 || c == 10)) name ≡ true)
IsPiece fresh (token text kind) rest = (kind_of text ≡ Some kind) × AtHead rest (λ b. continues text b ≡ false)

abbrev pub texts : List Piece → Text
texts ps = flat_map text_of ps

-- each stands whole before the next ones and the rest
abbrev pub ArePieces : Bool → List Piece → Text → Type 0
ArePieces fresh [] rest = Unit {0}
ArePieces fresh (p ∷ ps) rest = IsPiece fresh p (texts ps ++ rest) × ArePieces (fresh_after fresh p) ps rest

abbrev pub token_of : ℕ → Piece → List Token
token_of at (token text kind) = record { kind = kind; span = record { from = at; to = at + length text } } ∷ []
token_of at _ = []

-- the tokens among these pieces, the first of which stands at this byte
abbrev pub tokens_of : ℕ → List Piece → List Token
tokens_of at [] = []
tokens_of at (p ∷ ps) = token_of at p ++ tokens_of (at + length (text_of p)) ps

-- The bytes are spaces, comments, includes and token texts, and these are their tokens.
pub record SpellsTokens (bytes : Text) (tokens : List Token) : Type 0 where
  pub pieces : List Piece
  pub joined : bytes ≡ texts pieces
  pub proper : ArePieces true pieces []
  pub found : tokens ≡ tokens_of 0 pieces

-- they spell no other tokens
abbrev pub IsOnlyList : Text → List Token → Type 0
IsOnlyList bytes tokens = (others : List Token) → SpellsTokens bytes others → others ≡ tokens
