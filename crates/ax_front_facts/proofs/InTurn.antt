-- The tokens of a text stand in turn.
use Rattle.std.proofs.Common.{◌≤◌, ℕ, ◌+◌, Bool, true, List, [], ◌∷◌, ◌++◌, length, sym, ap, subst, arith, length-append}
use Rattle.ax_prog.specs.declared.Span.{Span}
use Rattle.ax_prog.specs.declared.tokens.Token.{Token}
use Rattle.ax_lex.specs.Bytes.{Text}
use Rattle.ax_lex.specs.Pieces.{Piece, space, line, block, include, token, text_of, fresh_after, texts, ArePieces, tokens_of, SpellsTokens}
use Rattle.ax_parse_grammar.specs.Terminals.{end_of, extent}

-- one token after another, from one place up to another
abbrev pub Stand : ℕ → List Token → ℕ → Type 0
Stand a [] b = a ≤ b
Stand a (t ∷ ts) b = (a ≤ t.span.from) × (t.span.from ≤ t.span.to) × Stand t.span.to ts b

-- a stretch between two places
abbrev pub Within : ℕ → Span → ℕ → Type 0
Within a s b = (a ≤ s.from) × (s.from ≤ s.to) × (s.to ≤ b)

pub in_order : (a b : ℕ) (ts : List Token) → Stand a ts b → a ≤ b
in_order a b [] h = h
in_order a b (t ∷ ts) h = let r : t.span.to ≤ b = in_order t.span.to b ts h.2 in omega (arith, h.0, h.1, r)

earlier : (a m b : ℕ) (ts : List Token) → a ≤ m → Stand m ts b → Stand a ts b
earlier a m b [] le h = omega (arith, le, h)
earlier a m b (t ∷ ts) le h = (omega (arith, le, h.0), h.1, h.2)

pub split : (a b : ℕ) (xs ys : List Token) → Stand a (xs ++ ys) b → (m : ℕ) × Stand a xs m × Stand m ys b
split a b [] ys h = (a, omega arith, h)
split a b (t ∷ xs) ys h = let r = split t.span.to b xs ys h.2 in (r.0, (h.0, h.1, r.1), r.2)

-- the tokens behind the first
pub rest : (a b : ℕ) (t : Token) (ts : List Token) → Stand a (t ∷ ts) b → Stand a ts b
rest a b t ts h = earlier a t.span.to b ts (omega (arith, h.0, h.1)) h.2

pub behind : (a b : ℕ) (xs ys : List Token) → Stand a (xs ++ ys) b → Stand a ys b
behind a b [] ys h = h
behind a b (t ∷ xs) ys h = behind a b xs ys (rest a b t (xs ++ ys) h)

pub before : (a b : ℕ) (xs ys : List Token) → Stand a (xs ++ ys) b → Stand a xs b
before a b [] ys h = in_order a b ys h
before a b (t ∷ xs) ys h = (h.0, h.1, before t.span.to b xs ys h.2)

-- what stands around a token
pub around : (a b : ℕ) (xs ys : List Token) (t : Token) → Stand a (xs ++ t ∷ ys) b → (m : ℕ) × Stand a xs m × Stand m ys b
around a b xs ys t h = let r = split a b xs (t ∷ ys) h in (r.0, r.1, rest r.0 b t ys r.2)

-- ---- stretches of tokens

ends : (a b : ℕ) (ts : List Token) → Stand a ts b → (a ≤ end_of a ts) × (end_of a ts ≤ b)
ends a b [] h = (omega arith, h)
ends a b (t ∷ ts) h = let r = ends t.span.to b ts h.2 in (omega (arith, h.0, h.1, r.0), r.1)

pub extent_within : (a b : ℕ) (t : Token) (ts : List Token) → Stand a (t ∷ ts) b → Within a (extent (t ∷ ts)) b
extent_within a b t ts h = let r = ends t.span.to b ts h.2 in (h.0, omega (arith, h.1, r.0), r.1)

pub extent_around : (a b : ℕ) (ts us : List Token) (t : Token) → Stand a (ts ++ t ∷ us) b → Within a (extent (ts ++ t ∷ us)) b
extent_around a b [] us t h = extent_within a b t us h
extent_around a b (v ∷ ts) us t h = extent_within a b v (ts ++ t ∷ us) h

-- ---- tokens of pieces

room : (at b : ℕ) (w v : Text) → at + length (w ++ v) ≤ b → at + length w + length v ≤ b
room at b w v le = omega (arith, le, length-append w v)

-- a piece that is no token only moves what follows it
skipped : (at n b : ℕ) (ts : List Token) → Stand (at + n) ts b → Stand at ts b
skipped at n b ts h = earlier at (at + n) b ts (omega arith) h

pieces_stand : (at b : ℕ) (fresh : Bool) (ps : List Piece) → ArePieces fresh ps [] → at + length (texts ps) ≤ b → Stand at (tokens_of at ps) b
pieces_stand at b fresh [] p le = omega (arith, le)
pieces_stand at b fresh (token w kind ∷ ps) p le = (omega arith, omega arith, pieces_stand (at + length w) b (fresh_after fresh (token w kind)) ps p.1 (room at b w (texts ps) le))
pieces_stand at b fresh (space c ∷ ps) p le = skipped at (length (text_of (space c))) b (tokens_of (at + length (text_of (space c))) ps) (pieces_stand (at + length (text_of (space c))) b (fresh_after fresh (space c)) ps p.1 (room at b (text_of (space c)) (texts ps) le))
pieces_stand at b fresh (line w ∷ ps) p le = skipped at (length (text_of (line w))) b (tokens_of (at + length (text_of (line w))) ps) (pieces_stand (at + length (text_of (line w))) b (fresh_after fresh (line w)) ps p.1 (room at b (text_of (line w)) (texts ps) le))
pieces_stand at b fresh (block w ∷ ps) p le = skipped at (length (text_of (block w))) b (tokens_of (at + length (text_of (block w))) ps) (pieces_stand (at + length (text_of (block w))) b (fresh_after fresh (block w)) ps p.1 (room at b (text_of (block w)) (texts ps) le))
pieces_stand at b fresh (include v w x ∷ ps) p le = skipped at (length (text_of (include v w x))) b (tokens_of (at + length (text_of (include v w x))) ps) (pieces_stand (at + length (text_of (include v w x))) b (fresh_after fresh (include v w x)) ps p.1 (room at b (text_of (include v w x)) (texts ps) le))

pub stands : (bytes : Text) (tokens : List Token) → SpellsTokens bytes tokens → Stand 0 tokens (length bytes)
stands bytes tokens s = subst (λ (ts : List Token). Stand 0 ts (length bytes)) (sym s.found) (pieces_stand 0 (length bytes) true s.pieces s.proper (omega (arith, ap length s.joined)))
