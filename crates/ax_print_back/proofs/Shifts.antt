-- The tokens of pieces that stand elsewhere.
use Rattle.std.proofs.Common.{◌≡◌, ◌≤◌, ◌<◌, ℕ, ◌+◌, List, [], ◌∷◌, ◌++◌, length, refl, sym, ap, ◌∙◌, arith, length-append}
use Rattle.std.proofs.lemmas.Bool.{le-leb, lt-leb}
use Rattle.std.proofs.lemmas.List.{map-append}
use Rattle.ax_prog.specs.declared.Span.{Span}
use Rattle.ax_prog.specs.declared.tokens.Token.{Token}
use Rattle.ax_lex.specs.Pieces.{Piece, space, line, block, include, token, text_of, texts, token_of, tokens_of}
use Rattle.ax_lex.specs.Splices.{last_to}
use Rattle.ax_parse_grammar.specs.Terminals.{end_of}
use Rattle.ax_print_holes.specs.Moved.{moved_token, moved_tokens}
use Rattle.ax_print_back.specs.Swaps.{carried, shifted}

token_moved : (f : ℕ → ℕ) (a b : ℕ) (p : Piece) → f a ≡ b → f (a + length (text_of p)) ≡ b + length (text_of p) → token_of b p ≡ moved_tokens f (token_of a p)
token_moved f a b (space c) from to = refl
token_moved f a b (line body) from to = refl
token_moved f a b (block body) from to = refl
token_moved f a b (include c d name) from to = refl
token_moved f a b (token w kind) from to =
    let here : Span = record { from = b; to = b + length w } in
    let there : Span = record { from = f a; to = f (a + length w) } in
    let same : here ≡ there = cc in
    ap (λ (s : Span). let t : Token = record { kind = kind; span = s } in t ∷ []) same

-- the pieces stand at b, and the places from a on go there
pub tokens_moved : (f : ℕ → ℕ) (a b : ℕ) (ps : List Piece) → ((j : ℕ) → j ≤ length (texts ps) → f (a + j) ≡ b + j) → tokens_of b ps ≡ moved_tokens f (tokens_of a ps)
tokens_moved f a b [] goes = refl
tokens_moved f a b (p ∷ ps) goes =
    let n = length (text_of p) in
    let size : length (texts (p ∷ ps)) ≡ n + length (texts ps) = length-append (text_of p) (texts ps) in
    let at_a : f a ≡ b = ap f (let e : a ≡ a + 0 = omega arith in e) ∙ goes 0 (omega arith) ∙ (let e : b + 0 ≡ b = omega arith in e) in
    let later : (j : ℕ) → j ≤ length (texts ps) → f (a + n + j) ≡ b + n + j = λ j le. ap f (let e : a + n + j ≡ a + (n + j) = omega arith in e) ∙ goes (n + j) (omega (arith, size)) ∙ (let e : b + (n + j) ≡ b + n + j = omega arith in e) in
    (λ i. token_moved f a b p at_a (goes n (omega (arith, size))) i ++ tokens_moved f (a + n) (b + n) ps later i) ∙ sym (map-append (moved_token f) (token_of a p) (tokens_of (a + n) ps))

pub ends_last : (at : ℕ) (ts : List Token) → end_of at ts ≡ last_to at ts
ends_last at [] = refl
ends_last at (t ∷ ts) = ends_last t.span.to ts

-- ---- where single places go

pub carries : (from at j : ℕ) → carried from at (from + j) ≡ at + j
carries from at j = omega arith

pub stays : (s : Span) (n p : ℕ) → p ≤ s.from → shifted s n p ≡ p
stays s n p le = rw (le-leb p s.from le) refl

pub shifts : (s : Span) (n j : ℕ) → s.from < s.to → shifted s n (s.to + j) ≡ s.from + n + j
shifts s n j lt =
    let behind : s.from < s.to + j = omega arith in
    rw (lt-leb (s.to + j) s.from behind) (omega arith)
