-- Where bytes spell no tokens, and why.
use Rattle.std.specs.Prelude.{◌≡◌, ◌≤◌, ◌<◌, ℕ, ◌+◌, Bool, true, false, not, ◌&&◌, ◌||◌, if◌then◌else◌, ◌==◌, nat_lt, nat_le, List, [], ◌∷◌, ◌++◌, length, take, Some, None, codes}
use Rattle.std.specs.List.{list_all}
use Rattle.ax_prog.specs.declared.tokens.Kind.{Kind}
use Rattle.ax_prog.specs.declared.tokens.Token.{Token}
use Rattle.ax_lex.specs.declared.LexFault.{LexFault}
use Rattle.ax_lex.specs.declared.LexFault.TheVariants as fault
use Rattle.ax_lex.specs.declared.TheConstants.{MAX_TOKENS}
use Rattle.ax_lex.specs.Bytes.{Text, is_space, is_word, same, digit, AtHead}
use Rattle.ax_lex.specs.Tokens.{mark_of, format_of, base_of, number_of, kind_of, continues}
use Rattle.ax_lex.specs.Pieces.{Piece, include, text_of, has_end, fresh_end, IsPiece, texts, ArePieces, tokens_of, SpellsTokens}

-- the byte goes on with this numeral: a digit, or the x after a single 0
abbrev pub extends : Text → ℕ → Bool
extends w b = nat_lt (digit b) (base_of w) || (same w (codes "0") && (b == 120 || b == 88))

-- no `#include <..>` stands first
abbrev pub NoInclude : Bool → Text → Type 0
NoInclude fresh s = (a b name rest : Text) → s ≡ text_of (include a b name) ++ rest → IsPiece fresh (include a b name) rest → ⊥

-- token 20,001 begins before what stands in it
abbrev pub late : ℕ → ℕ → LexFault → LexFault
late count at f = if nat_le MAX_TOKENS count then fault.TooManyTokens at else f

-- Behind whole pieces with so many tokens no piece goes on: at this place, with this rest, for this reason. A number of C
-- (6.4.8) takes in each letter and digit behind it, and a sign behind e, so one that such a byte follows is none here.
pub data Stuck : ℕ → Bool → ℕ → Text → LexFault → Type 0 where
  -- a byte with which nothing begins
  stray : {at : ℕ} {fresh : Bool} {count : ℕ} (b : ℕ) (r : Text) → is_space b ≡ false → is_word b ≡ false → mark_of (b ∷ []) ≡ None → ((n : ℕ) → format_of (take n (b ∷ r)) ≡ None) → NoInclude fresh (b ∷ r) → Stuck at fresh count (b ∷ r) (fault.BadByte at)
  -- a `//` comment with a backslash at its line's end
  spliced : {at : ℕ} {fresh : Bool} {count : ℕ} (body r : Text) → list_all (λ b. not (b == 10)) body ≡ true → Stuck at fresh count (codes "//" ++ body ++ 92 ∷ 10 ∷ r) (fault.BadByte (at + 2 + length body))
  -- `/*` with no `*/`
  unclosed : {at : ℕ} {fresh : Bool} {count : ℕ} (body : Text) → has_end body ≡ false → Stuck at fresh count (codes "/*" ++ body) (fault.OpenComment at)
  -- a number above 2147483647, whatever follows it
  large : {at : ℕ} {fresh : Bool} {count : ℕ} (w r : Text) (n : ℕ) → number_of w ≡ Some n → AtHead r (λ b. extends w b ≡ false) → 2147483647 < n → Stuck at fresh count (w ++ r) (fault.NumberTooLarge at)
  -- a letter, `_`, wrong digit or sign directly after a number
  spoiled : {at : ℕ} {fresh : Bool} {count : ℕ} (w : Text) (b : ℕ) (r : Text) (n : ℕ) → number_of w ≡ Some n → extends w b ≡ false → continues w b ≡ true → n ≤ 2147483647 → Stuck at fresh count (w ++ b ∷ r) (late count at (fault.BadByte (at + length w)))
  -- `0x` without a digit
  bare : {at : ℕ} {fresh : Bool} {count : ℕ} (x : ℕ) (r : Text) → (x == 120 || x == 88) ≡ true → AtHead r (λ b. nat_lt (digit b) 16 ≡ false) → Stuck at fresh count (codes "0" ++ x ∷ r) (late count at (fault.BadByte (at + 1)))
  -- token 20,001
  many : {at : ℕ} {fresh : Bool} {count : ℕ} (w r : Text) (kind : Kind) → kind_of w ≡ Some kind → AtHead r (λ b. continues w b ≡ false) → MAX_TOKENS ≤ count → Stuck at fresh count (w ++ r) (fault.TooManyTokens at)

-- whole pieces, and then this fault
pub record Faulty (bytes : Text) (why : LexFault) : Type 0 where
  pub pieces : List Piece
  pub rest : Text
  pub joined : bytes ≡ texts pieces ++ rest
  pub proper : ArePieces true pieces rest
  pub few : length (tokens_of 0 pieces) ≤ MAX_TOKENS
  pub stuck : Stuck (length (texts pieces)) (fresh_end true pieces) (length (tokens_of 0 pieces)) rest why

-- no other fault stands in them
abbrev pub IsOnlyFault : Text → LexFault → Type 0
IsOnlyFault bytes why = (other : LexFault) → Faulty bytes other → other ≡ why

-- no token list within the limit is spelled
abbrev pub IsUnspelled : Text → Type 0
IsUnspelled bytes = (tokens : List Token) → SpellsTokens bytes tokens → length tokens ≤ MAX_TOKENS → ⊥
