-- What the lexer's parts find first; private contracts alone cite this.
use Rattle.std.specs.Prelude.{◌≡◌, ◌≤◌, ◌<◌, ℕ, ◌+◌, Bool, true, false, [], ◌∷◌, ◌++◌, take, drop, length, slice_index, ◌==◌, ◌&&◌, ◌||◌, if◌then◌else◌, Option, Some, None, nat_lt, ◌⊎◌, option_map}
use Rattle.std.specs.List.{prefix_len}
use Rattle.ax_prog.specs.declared.tokens.Kind.{Kind}
use Rattle.ax_lex.specs.declared.numbers.NumberFault.{NumberFault}
use Rattle.ax_lex.specs.declared.numbers.NumberFault.TheVariants.{Large, Bad}
use Rattle.ax_lex.specs.declared.front.Front.{Front}
use Rattle.ax_lex.specs.declared.front.Front.TheVariants.{Layout, Word}
use Rattle.ax_lex.specs.Bytes.{Text, digit, AtHead}
use Rattle.ax_lex.specs.Tokens.{is_hex, base_of, number_of, continues}
use Rattle.ax_lex.specs.Pieces.{IsPiece, Piece, token, text_of, token_of, fresh_after}
use Rattle.ax_lex.specs.Faults.{extends}

-- a token of n bytes stands first
pub record WordIs (kind : Kind) (n : ℕ) (s : Text) : Type 0 where
  pub some : 0 < n
  pub within : n ≤ length s
  pub piece : IsPiece true (token (take n s) kind) (drop n s)

-- a space, a comment or an include of n bytes stands first
pub record LayoutIs (fresh : Bool) (n : ℕ) (next : Bool) (s : Text) : Type 0 where
  pub p : Piece
  pub some : 0 < n
  pub within : n ≤ length s
  pub text : text_of p ≡ take n s
  pub piece : IsPiece fresh p (drop n s)
  pub silent : (at : ℕ) → token_of at p ≡ []
  pub goes : fresh_after fresh p ≡ next

abbrev pub FrontIs : Bool → Front → Text → Type 0
FrontIs fresh (Layout n next) s = LayoutIs fresh n next s
FrontIs fresh (Word kind n) s = WordIs kind n s

-- ---- comments

-- how many bytes stand before the first `*/`
abbrev pub end_of : Text → Option ℕ
end_of [] = None
end_of (b ∷ bs) = if b == 42 && slice_index bs 0 == 47 then Some 0 else option_map (λ n. n + 1) (end_of bs)

-- ---- numbers

abbrev pub head_of : Text → ℕ
head_of w = if is_hex w then 2 else 0

-- how many bytes of a numeral stand first
abbrev pub numeral_len : Text → ℕ
numeral_len s = head_of s + prefix_len (λ b. nat_lt (digit b) (base_of s)) (drop (head_of s) s)

-- why a digit begins no token
abbrev pub NumberIs : NumberFault → Text → Type 0
NumberIs Large s = (w : Text) × (r : Text) × (n : ℕ) × (s ≡ w ++ r) × (number_of w ≡ Some n) × AtHead r (λ b. extends w b ≡ false) × (2147483647 < n)
NumberIs (Bad k) s = ((w : Text) × (b : ℕ) × (r : Text) × (n : ℕ) × (s ≡ w ++ b ∷ r) × (number_of w ≡ Some n) × (extends w b ≡ false) × (continues w b ≡ true) × (n ≤ 2147483647) × (length w ≡ k)) ⊎ ((x : ℕ) × (r : Text) × (s ≡ 48 ∷ x ∷ r) × ((x == 120 || x == 88) ≡ true) × AtHead r (λ b. nat_lt (digit b) 16 ≡ false) × (k ≡ 1))

abbrev pub Inside : NumberFault → Text → Type 0
Inside Large s = Unit {0}
Inside (Bad k) s = k < length s
