-- The tokens of a text are what their own texts are.
use Rattle.std.proofs.Common.{◌≡◌, ℕ, ◌+◌, ℤ, Bool, true, List, [], ◌∷◌, ◌++◌, length, Option, Some, sym, ap, ◌∙◌, subst}
use Rattle.ax_prog.specs.declared.tokens.Kind.{Kind}
use Rattle.ax_prog.specs.declared.tokens.Kind.TheVariants as k
use Rattle.ax_prog.specs.declared.tokens.Token.{Token}
use Rattle.ax_lex.specs.Bytes.{Text}
use Rattle.ax_lex.specs.Tokens.{kind_of}
use Rattle.ax_lex.specs.Pieces.{Piece, space, line, block, include, token, text_of, fresh_after, ArePieces, tokens_of, SpellsTokens}
use Rattle.ax_lex.proofs.Places.{name_text, number_range}
use Rattle.ax_front_facts.specs.Writable.{IsNumber}
use Rattle.ax_front_facts.specs.Spans.{IsWord}

-- the token is what this text is
abbrev pub IsLexed : Token → Type 0
IsLexed t = (text : Text) × (kind_of text ≡ Some t.kind)

abbrev pub Lexed : List Token → Type 0
Lexed [] = Unit {0}
Lexed (t ∷ ts) = IsLexed t × Lexed ts

pub lexed_parts : (ts us : List Token) → Lexed (ts ++ us) → Lexed ts × Lexed us
lexed_parts [] us h = (tt, h)
lexed_parts (t ∷ ts) us h = let r = lexed_parts ts us h.1 in ((h.0, r.0), r.1)

-- around one token
pub lexed_around : (ts us : List Token) (t : Token) → Lexed (ts ++ t ∷ us) → Lexed ts × IsLexed t × Lexed us
lexed_around ts us t h = let r = lexed_parts ts (t ∷ us) h in (r.0, r.1.0, r.1.1)

-- ---- the tokens of a text

lexed_pieces : (fresh : Bool) (at : ℕ) (ps : List Piece) (rest : Text) → ArePieces fresh ps rest → Lexed (tokens_of at ps)
lexed_pieces fresh at [] rest h = tt
lexed_pieces fresh at (space b ∷ ps) rest h = lexed_pieces (fresh_after fresh (space b)) (at + length (text_of (space b))) ps rest h.1
lexed_pieces fresh at (line body ∷ ps) rest h = lexed_pieces (fresh_after fresh (line body)) (at + length (text_of (line body))) ps rest h.1
lexed_pieces fresh at (block body ∷ ps) rest h = lexed_pieces (fresh_after fresh (block body)) (at + length (text_of (block body))) ps rest h.1
lexed_pieces fresh at (include a b name ∷ ps) rest h = lexed_pieces (fresh_after fresh (include a b name)) (at + length (text_of (include a b name))) ps rest h.1
lexed_pieces fresh at (token text kind ∷ ps) rest h = ((text, h.0.0), lexed_pieces (fresh_after fresh (token text kind)) (at + length (text_of (token text kind))) ps rest h.1)

pub lexed : (bytes : Text) (tokens : List Token) → SpellsTokens bytes tokens → Lexed tokens
lexed bytes tokens s = subst Lexed (sym s.found) (lexed_pieces true 0 s.pieces [] s.proper)

-- ---- names and numbers

said : (t : Token) (kind : Kind) → (h : IsLexed t) → t.kind ≡ kind → kind_of h.0 ≡ Some kind
said t kind h is = h.1 ∙ ap (λ (j : Kind). let o : Option Kind = Some j in o) is

-- a name's own text is the token
pub word_token : (t : Token) (x : List ℕ) → IsLexed t → t.kind ≡ k.Name x → IsWord x
word_token t x h is =
    let kind = said t (k.Name x) h is in
    subst (λ (v : Text). kind_of v ≡ Some (k.Name x)) (name_text h.0 x kind) kind

pub number_token : (t : Token) (n : ℤ) → IsLexed t → t.kind ≡ k.Number n → IsNumber n
number_token t n h is = number_range h.0 n (said t (k.Number n) h is)
