-- Two lists of pieces in a row.
use Rattle.std.proofs.Common.{◌≡◌, ℕ, ◌+◌, Bool, List, [], ◌∷◌, ◌++◌, length, refl, sym, ap, ◌∙◌, subst, arith, append_assoc, add-zero, length-append}
use Rattle.ax_prog.specs.declared.tokens.Kind.{Kind}
use Rattle.ax_prog.specs.declared.tokens.Token.{Token}
use Rattle.ax_lex.specs.Bytes.{Text}
use Rattle.ax_lex.specs.Pieces.{Piece, space, line, block, include, token, text_of, fresh_after, fresh_end, IsPiece, texts, ArePieces, token_of, tokens_of}
use Rattle.ax_lex.specs.Splices.{kinds_of}

pub texts-append : (ps qs : List Piece) → texts (ps ++ qs) ≡ texts ps ++ texts qs
texts-append [] qs = refl
texts-append (p ∷ ps) qs = ap (λ (w : Text). text_of p ++ w) (texts-append ps qs) ∙ sym (append_assoc (text_of p) (texts ps) (texts qs))

pub ArePieces-append : (f : Bool) (ps qs : List Piece) (rest : Text) → ArePieces f ps (texts qs ++ rest) → ArePieces (fresh_end f ps) qs rest → ArePieces f (ps ++ qs) rest
ArePieces-append f [] qs rest a b = b
ArePieces-append f (p ∷ ps) qs rest a b =
    let same : texts ps ++ (texts qs ++ rest) ≡ texts (ps ++ qs) ++ rest = sym (append_assoc (texts ps) (texts qs) rest) ∙ ap (λ (w : Text). w ++ rest) (sym (texts-append ps qs)) in
    (subst (λ (w : Text). IsPiece f p w) same a.0, ArePieces-append (fresh_after f p) ps qs rest a.1 b)

pub ArePieces-parts : (f : Bool) (ps qs : List Piece) (rest : Text) → ArePieces f (ps ++ qs) rest → ArePieces f ps (texts qs ++ rest) × ArePieces (fresh_end f ps) qs rest
ArePieces-parts f [] qs rest a = (tt, a)
ArePieces-parts f (p ∷ ps) qs rest a =
    let same : texts (ps ++ qs) ++ rest ≡ texts ps ++ (texts qs ++ rest) = ap (λ (w : Text). w ++ rest) (texts-append ps qs) ∙ append_assoc (texts ps) (texts qs) rest in
    let more = ArePieces-parts (fresh_after f p) ps qs rest a.1 in
    ((subst (λ (w : Text). IsPiece f p w) same a.0, more.0), more.1)

pub fresh_end-append : (f : Bool) (ps qs : List Piece) → fresh_end f (ps ++ qs) ≡ fresh_end (fresh_end f ps) qs
fresh_end-append f [] qs = refl
fresh_end-append f (p ∷ ps) qs = fresh_end-append (fresh_after f p) ps qs

pub tokens_of-append : (at : ℕ) (ps qs : List Piece) → tokens_of at (ps ++ qs) ≡ tokens_of at ps ++ tokens_of (at + length (texts ps)) qs
tokens_of-append at [] qs = rw add-zero refl
tokens_of-append at (p ∷ ps) qs =
    let n = length (text_of p) in
    let sum : at + n + length (texts ps) ≡ at + length (text_of p ++ texts ps) = omega (arith, length-append (text_of p) (texts ps)) in
    ap (λ (w : List Token). token_of at p ++ w) (tokens_of-append (at + n) ps qs ∙ ap (λ (j : ℕ). tokens_of (at + n) ps ++ tokens_of j qs) sum) ∙ sym (append_assoc (token_of at p) (tokens_of (at + n) ps) (tokens_of (at + length (text_of p ++ texts ps)) qs))

-- the tokens of pieces, without their places
abbrev pub kinds : List Piece → List Kind
kinds [] = []
kinds (token w k ∷ ps) = k ∷ kinds ps
kinds (p ∷ ps) = kinds ps

pub kinds-append : (ps qs : List Piece) → kinds (ps ++ qs) ≡ kinds ps ++ kinds qs
kinds-append [] qs = refl
kinds-append (token w k ∷ ps) qs = ap (λ (ks : List Kind). k ∷ ks) (kinds-append ps qs)
kinds-append (space b ∷ ps) qs = kinds-append ps qs
kinds-append (line b ∷ ps) qs = kinds-append ps qs
kinds-append (block b ∷ ps) qs = kinds-append ps qs
kinds-append (include a b c ∷ ps) qs = kinds-append ps qs

pub kinds_of-tokens_of : (at : ℕ) (ps : List Piece) → kinds_of (tokens_of at ps) ≡ kinds ps
kinds_of-tokens_of at [] = refl
kinds_of-tokens_of at (token w k ∷ ps) = ap (λ (ks : List Kind). k ∷ ks) (kinds_of-tokens_of (at + length w) ps)
kinds_of-tokens_of at (space b ∷ ps) = kinds_of-tokens_of (at + 1) ps
kinds_of-tokens_of at (line b ∷ ps) = kinds_of-tokens_of (at + length (text_of (line b))) ps
kinds_of-tokens_of at (block b ∷ ps) = kinds_of-tokens_of (at + length (text_of (block b))) ps
kinds_of-tokens_of at (include a b c ∷ ps) = kinds_of-tokens_of (at + length (text_of (include a b c))) ps
