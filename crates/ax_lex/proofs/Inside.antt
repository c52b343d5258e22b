-- Texts that spell the same tokens wherever they stand.
use Rattle.std.proofs.Common.{◌≡◌, ℕ, ◌-◌, Bool, true, false, List, [], ◌∷◌, ◌++◌, length, take, drop, Some, refl, sym, ap, ◌∙◌, subst, arith, append-nil}
use Rattle.ax_prog.specs.declared.tokens.Mark.TheVariants as m
use Rattle.ax_prog.specs.declared.tokens.Kind.{Kind}
use Rattle.ax_prog.specs.declared.tokens.Kind.TheVariants as k
use Rattle.ax_prog.specs.declared.tokens.Token.{Token}
use Rattle.ax_lex.specs.Bytes.{Text, AtHead}
use Rattle.ax_lex.specs.Tokens.{continues, kind_of}
use Rattle.ax_lex.specs.Pieces.{Piece, space, token, fresh_end, texts, ArePieces, SpellsTokens}
use Rattle.ax_lex.specs.Splices.{kinds_of, last_to, SpellsInside}
use Rattle.ax_lex.proofs.Sequences.{texts-append, ArePieces-append, ArePieces-parts, kinds-append, kinds_of-tokens_of}
use Rattle.ax_lex.proofs.Comments.{take_front}
use Rattle.ax_lex.proofs.Ends.{continues_end, open_piece, close_piece, pieces_before_end}
use Rattle.ax_lex.proofs.Cuts.{found_at, drop_front}

-- the bytes of a stretch of tokens
pub source_inside : (bytes : Text) (before : List Token) (t : Token) (ts after : List Token) → SpellsTokens bytes (before ++ ((t ∷ ts) ++ after)) → SpellsInside (take (last_to t.span.to ts - t.span.from) (drop t.span.from bytes)) (kinds_of (t ∷ ts))
source_inside bytes before t ts after s =
    let f = found_at bytes before t ts after s in
    let old = f.mid ++ token f.word f.last ∷ [] in
    let size : last_to t.span.to ts - t.span.from ≡ length (texts old) = omega (arith, f.from_is, f.to_is) in
    let cut_front : drop t.span.from bytes ≡ texts old ++ texts f.back = (λ i. drop (f.from_is i) (f.joined i)) ∙ drop_front (texts f.front) (texts old ++ texts f.back) in
    let kind_is : kind_of f.word ≡ Some f.last = (ArePieces-parts (fresh_end true f.front) f.mid (token f.word f.last ∷ []) (texts f.back) f.proper_mid).1.0.0 in
    let free : ArePieces false old (texts f.back) = subst (λ (qs : List Piece). ArePieces false qs (texts f.back)) (sym f.begins) (any_flag (fresh_end true f.front) f.first t.kind f.tail (texts f.back) (subst (λ (qs : List Piece). ArePieces (fresh_end true f.front) qs (texts f.back)) f.begins f.proper_mid)) in
    record {
      pieces = old;
      joined = (λ i. take (size i) (cut_front i)) ∙ take_front (texts old) (texts f.back);
      proper = λ b rest end. pieces_before_end false f.mid f.word f.last (texts f.back) (b ∷ rest) free (continues_end b end f.word f.last kind_is);
      found = sym (kinds_of-tokens_of 0 old ∙ f.kinds_is);
    }
  where
    any_flag : (f : Bool) (w : Text) (kind : Kind) (ps : List Piece) (x : Text) → ArePieces f (token w kind ∷ ps) x → ArePieces false (token w kind ∷ ps) x
    any_flag f w kind ps x h = h

-- one token's text
pub token_inside : (w : Text) (kind : Kind) → kind_of w ≡ Some kind → SpellsInside w (kind ∷ [])
token_inside w kind is = record {
  pieces = token w kind ∷ [];
  joined = sym (append-nil w);
  proper = λ b rest end. ((is, continues_end b end w kind is), tt);
  found = refl;
}

-- a text in parentheses
pub parens_inside : (u : Text) (ks : List Kind) → SpellsInside u ks → SpellsInside (40 ∷ (u ++ 41 ∷ [])) (k.Mark m.OpenRound ∷ (ks ++ k.Mark m.CloseRound ∷ []))
parens_inside u ks s = record {
  pieces = token (40 ∷ []) (k.Mark m.OpenRound) ∷ (s.pieces ++ close);
  joined = ap (λ (v : Text). 40 ∷ v) (ap (λ (v : Text). v ++ 41 ∷ []) s.joined ∙ sym (texts-append s.pieces close));
  proper = λ b rest end. (open_piece false (texts (s.pieces ++ close) ++ b ∷ rest), ArePieces-append false s.pieces close (b ∷ rest) (s.proper 41 (b ∷ rest) refl) (close_piece (fresh_end false s.pieces) (b ∷ rest), tt));
  found = ap (λ (js : List Kind). k.Mark m.OpenRound ∷ (js ++ k.Mark m.CloseRound ∷ [])) (s.found ∙ kinds_of-tokens_of 0 s.pieces) ∙ ap (λ (js : List Kind). k.Mark m.OpenRound ∷ js) (sym (kinds-append s.pieces close)) ∙ sym (kinds_of-tokens_of 0 (token (40 ∷ []) (k.Mark m.OpenRound) ∷ (s.pieces ++ close)));
}
  where
    close : List Piece
    close = token (41 ∷ []) (k.Mark m.CloseRound) ∷ []

-- a mark directly before a text whose first byte does not make it longer
pub prefix_inside : (w : Text) (kind : Kind) (b : ℕ) (u : Text) (ks : List Kind) → kind_of w ≡ Some kind → continues w b ≡ false → SpellsInside (b ∷ u) ks → SpellsInside (w ++ b ∷ u) (kind ∷ ks)
prefix_inside w kind b u ks is off s = record {
  pieces = token w kind ∷ s.pieces;
  joined = ap (λ (v : Text). w ++ v) s.joined;
  proper = λ c rest end. ((is, subst (λ (v : Text). AtHead (v ++ c ∷ rest) (λ d. continues w d ≡ false)) s.joined off), s.proper c rest end);
  found = ap (λ (js : List Kind). kind ∷ js) (s.found ∙ kinds_of-tokens_of 0 s.pieces) ∙ sym (kinds_of-tokens_of 0 (token w kind ∷ s.pieces));
}

-- a mark between two texts, with a space on each side
pub between_inside : (u : Text) (ks : List Kind) (w : Text) (kind : Kind) (v : Text) (js : List Kind) → SpellsInside u ks → kind_of w ≡ Some kind → SpellsInside v js → SpellsInside (u ++ 32 ∷ (w ++ 32 ∷ v)) (ks ++ kind ∷ js)
between_inside u ks w kind v js s is r = record {
  pieces = s.pieces ++ more;
  joined = (λ i. s.joined i ++ 32 ∷ (w ++ 32 ∷ r.joined i)) ∙ sym (texts-append s.pieces more);
  proper = λ b rest end. ArePieces-append false s.pieces more (b ∷ rest) (s.proper 32 ((w ++ 32 ∷ texts r.pieces) ++ b ∷ rest) refl) (refl, ((is, spaced b rest), (refl, r.proper b rest end)));
  found = (λ i. (s.found ∙ kinds_of-tokens_of 0 s.pieces) i ++ kind ∷ (r.found ∙ kinds_of-tokens_of 0 r.pieces) i) ∙ sym (kinds-append s.pieces more) ∙ sym (kinds_of-tokens_of 0 (s.pieces ++ more));
}
  where
    more : List Piece
    more = space 32 ∷ token w kind ∷ space 32 ∷ r.pieces

    spaced : (b : ℕ) (rest : Text) → continues w 32 ≡ false
    spaced b rest = continues_end 32 refl w kind is
