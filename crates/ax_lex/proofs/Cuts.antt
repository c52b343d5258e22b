-- Pieces cut at tokens.
use Rattle.std.proofs.Common.{◌≡◌, ℕ, ◌+◌, Bool, true, false, List, [], ◌∷◌, ◌++◌, length, drop, refl, sym, ap, ◌∙◌, subst, arith, append_assoc, append-nil, add-zero, zero-add, length-append}
use Rattle.ax_prog.specs.declared.tokens.Kind.{Kind}
use Rattle.ax_prog.specs.declared.tokens.Token.{Token}
use Rattle.ax_lex.specs.Bytes.{Text}
use Rattle.ax_lex.specs.Pieces.{Piece, space, line, block, include, token, text_of, fresh_end, texts, ArePieces, token_of, tokens_of, SpellsTokens}
use Rattle.ax_lex.specs.Splices.{kinds_of, last_to}
use Rattle.ax_lex.proofs.Sequences.{texts-append, fresh_end-append, ArePieces-parts, kinds, kinds-append, kinds_of-tokens_of}

-- this token among the tokens of the pieces
pub record Cut (at : ℕ) (ps : List Piece) (before : List Token) (t : Token) (after : List Token) : Type 0 where
  pub front : List Piece
  pub word : Text
  pub back : List Piece
  pub joined : ps ≡ front ++ token word t.kind ∷ back
  pub before_is : tokens_of at front ≡ before
  pub from_is : t.span.from ≡ at + length (texts front)
  pub to_is : t.span.to ≡ at + length (texts front) + length word
  pub after_is : tokens_of (at + length (texts front) + length word) back ≡ after

-- with one more piece before it
cut_later : (at : ℕ) (p : Piece) (ps : List Piece) (first before : List Token) (t : Token) (after : List Token) → token_of at p ≡ first → Cut (at + length (text_of p)) ps before t after → Cut at (p ∷ ps) (first ++ before) t after
cut_later at p ps first before t after is c =
    let sum : at + length (text_of p) + length (texts c.front) ≡ at + length (text_of p ++ texts c.front) = omega (arith, length-append (text_of p) (texts c.front)) in
    record {
      front = p ∷ c.front;
      word = c.word;
      back = c.back;
      joined = ap (λ (qs : List Piece). p ∷ qs) c.joined;
      before_is = λ i. is i ++ c.before_is i;
      from_is = c.from_is ∙ sum;
      to_is = c.to_is ∙ ap (λ (n : ℕ). n + length c.word) sum;
      after_is = ap (λ (n : ℕ). tokens_of (n + length c.word) c.back) (sym sum) ∙ c.after_is;
    }

pub cut : (at : ℕ) (ps : List Piece) (before : List Token) (t : Token) (after : List Token) → tokens_of at ps ≡ before ++ t ∷ after → Cut at ps before t after
cut at [] [] t after h = cc
cut at [] (u ∷ before) t after h = cc
cut at (token w kind ∷ ps) [] t after h =
    let made : Token = record { kind = kind; span = record { from = at; to = at + length w } } in
    let head : made ≡ t = cc in
    let tail : tokens_of (at + length w) ps ≡ after = cc in
    record {
      front = [];
      word = w;
      back = ps;
      joined = ap (λ (u : Token). token w u.kind ∷ ps) head;
      before_is = refl;
      from_is = ap (λ (u : Token). u.span.from) (sym head) ∙ sym (add-zero at);
      to_is = ap (λ (u : Token). u.span.to) (sym head) ∙ ap (λ (n : ℕ). n + length w) (sym (add-zero at));
      after_is = ap (λ (n : ℕ). tokens_of (n + length w) ps) (add-zero at) ∙ tail;
    }
cut at (token w kind ∷ ps) (u ∷ before) t after h =
    let made : Token = record { kind = kind; span = record { from = at; to = at + length w } } in
    let head : made ∷ [] ≡ u ∷ [] = cc in
    let tail : tokens_of (at + length w) ps ≡ before ++ t ∷ after = cc in
    cut_later at (token w kind) ps (u ∷ []) before t after head (cut (at + length w) ps before t after tail)
cut at (space b ∷ ps) before t after h = cut_later at (space b) ps [] before t after refl (cut (at + length (text_of (space b))) ps before t after h)
cut at (line body ∷ ps) before t after h = cut_later at (line body) ps [] before t after refl (cut (at + length (text_of (line body))) ps before t after h)
cut at (block body ∷ ps) before t after h = cut_later at (block body) ps [] before t after refl (cut (at + length (text_of (block body))) ps before t after h)
cut at (include a b name ∷ ps) before t after h = cut_later at (include a b name) ps [] before t after refl (cut (at + length (text_of (include a b name))) ps before t after h)

-- the pieces from a token to the last of those that follow it
pub record Stretch (at : ℕ) (w : Text) (kind : Kind) (ps : List Piece) (ts after : List Token) : Type 0 where
  pub mid : List Piece
  pub word : Text
  pub last : Kind
  pub tail : List Piece
  pub back : List Piece
  pub joined : token w kind ∷ ps ≡ (mid ++ token word last ∷ []) ++ back
  pub begins : mid ++ token word last ∷ [] ≡ token w kind ∷ tail
  pub to_is : at + length (texts (mid ++ token word last ∷ [])) ≡ last_to (at + length w) ts
  pub after_is : tokens_of (last_to (at + length w) ts) back ≡ after
  pub kinds_is : kinds (mid ++ token word last ∷ []) ≡ kind ∷ kinds_of ts

pub stretch : (at : ℕ) (w : Text) (kind : Kind) (ps : List Piece) (ts after : List Token) → tokens_of (at + length w) ps ≡ ts ++ after → Stretch at w kind ps ts after
stretch at w kind ps [] after h = record {
  mid = [];
  word = w;
  last = kind;
  tail = [];
  back = ps;
  joined = refl;
  begins = refl;
  to_is = ap (λ (v : Text). at + length v) (append-nil w);
  after_is = h;
  kinds_is = refl;
}
stretch at w kind ps (u ∷ us) after h =
    let c = cut (at + length w) ps [] u (us ++ after) h in
    let place = at + length w + length (texts c.front) in
    let s = stretch place c.word u.kind c.back us after c.after_is in
    let end = s.mid ++ token s.word s.last ∷ [] in
    let shape : (c.front ++ s.mid) ++ token s.word s.last ∷ [] ≡ c.front ++ end = append_assoc c.front s.mid (token s.word s.last ∷ []) in
    let ends : last_to (place + length c.word) us ≡ last_to u.span.to us = ap (λ (n : ℕ). last_to n us) (sym c.to_is) in
    let size : at + length (w ++ texts (c.front ++ end)) ≡ place + length (texts end) = omega (arith, length-append w (texts (c.front ++ end)), ap length (texts-append c.front end), length-append (texts c.front) (texts end)) in
    record {
      mid = token w kind ∷ (c.front ++ s.mid);
      word = s.word;
      last = s.last;
      tail = (c.front ++ s.mid) ++ token s.word s.last ∷ [];
      back = s.back;
      joined = ap (λ (qs : List Piece). token w kind ∷ qs) (c.joined ∙ ap (λ (qs : List Piece). c.front ++ qs) s.joined ∙ sym (append_assoc c.front end s.back) ∙ ap (λ (qs : List Piece). qs ++ s.back) (sym shape));
      begins = refl;
      to_is = ap (λ (qs : List Piece). at + length (w ++ texts qs)) shape ∙ size ∙ s.to_is ∙ ends;
      after_is = ap (λ (n : ℕ). tokens_of n s.back) (sym ends) ∙ s.after_is;
      kinds_is = ap (λ (ks : List Kind). kind ∷ ks) (ap kinds shape ∙ kinds-append c.front end ∙ ap (λ (ks : List Kind). ks ++ kinds end) (sym (kinds_of-tokens_of (at + length w) c.front) ∙ ap kinds_of c.before_is) ∙ s.kinds_is);
    }

pub drop_front : (u r : Text) → drop (length u) (u ++ r) ≡ r
drop_front [] r = refl
drop_front (x ∷ u) r = drop_front u r

-- A stretch of tokens, as pieces of the bytes.
pub record Found (bytes : Text) (before : List Token) (t : Token) (ts after : List Token) : Type 0 where
  pub front : List Piece
  pub mid : List Piece
  pub word : Text
  pub last : Kind
  pub first : Text
  pub tail : List Piece
  pub back : List Piece
  pub joined : bytes ≡ texts front ++ (texts (mid ++ token word last ∷ []) ++ texts back)
  pub proper_front : ArePieces true front (texts (mid ++ token word last ∷ []) ++ texts back)
  pub proper_mid : ArePieces (fresh_end true front) (mid ++ token word last ∷ []) (texts back)
  pub proper_back : ArePieces false back []
  pub begins : mid ++ token word last ∷ [] ≡ token first t.kind ∷ tail
  pub from_is : t.span.from ≡ length (texts front)
  pub to_is : last_to t.span.to ts ≡ length (texts front) + length (texts (mid ++ token word last ∷ []))
  pub before_is : tokens_of 0 front ≡ before
  pub kinds_is : kinds (mid ++ token word last ∷ []) ≡ kinds_of (t ∷ ts)
  pub after_is : kinds back ≡ kinds_of after

pub found_at : (bytes : Text) (before : List Token) (t : Token) (ts after : List Token) → SpellsTokens bytes (before ++ ((t ∷ ts) ++ after)) → Found bytes before t ts after
found_at bytes before t ts after s =
    let c = cut 0 s.pieces before t (ts ++ after) (sym s.found) in
    let z = stretch (0 + length (texts c.front)) c.word t.kind c.back ts after c.after_is in
    let mid = z.mid ++ token z.word z.last ∷ [] in
    let all : s.pieces ≡ c.front ++ (mid ++ z.back) = c.joined ∙ ap (λ (qs : List Piece). c.front ++ qs) z.joined in
    let text : texts (mid ++ z.back) ≡ texts mid ++ texts z.back = texts-append mid z.back in
    let parts = ArePieces-parts true c.front (mid ++ z.back) [] (subst (λ (qs : List Piece). ArePieces true qs []) all s.proper) in
    let rest = ArePieces-parts (fresh_end true c.front) mid z.back [] parts.1 in
    let stale : fresh_end (fresh_end true c.front) mid ≡ false = fresh_end-append (fresh_end true c.front) z.mid (token z.word z.last ∷ []) in
    record {
      front = c.front;
      mid = z.mid;
      word = z.word;
      last = z.last;
      first = c.word;
      tail = z.tail;
      back = z.back;
      joined = s.joined ∙ ap texts all ∙ texts-append c.front (mid ++ z.back) ∙ ap (λ (v : Text). texts c.front ++ v) text;
      proper_front = subst (λ (v : Text). ArePieces true c.front v) (append-nil (texts (mid ++ z.back)) ∙ text) parts.0;
      proper_mid = subst (λ (v : Text). ArePieces (fresh_end true c.front) mid v) (append-nil (texts z.back)) rest.0;
      proper_back = subst (λ (f : Bool). ArePieces f z.back []) stale rest.1;
      begins = z.begins;
      from_is = c.from_is ∙ zero-add (length (texts c.front));
      to_is = ap (λ (n : ℕ). last_to n ts) c.to_is ∙ sym z.to_is ∙ ap (λ (n : ℕ). n + length (texts mid)) (zero-add (length (texts c.front)));
      before_is = c.before_is;
      kinds_is = z.kinds_is;
      after_is = sym (kinds_of-tokens_of (last_to (0 + length (texts c.front) + length c.word) ts) z.back) ∙ ap kinds_of z.after_is;
    }
