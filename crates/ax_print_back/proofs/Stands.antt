-- A stretch of tokens among the pieces of the bytes, with the place of each token.
use Rattle.std.proofs.Common.{◌≡◌, ◌<◌, ℕ, ◌+◌, Bool, true, false, List, [], ◌∷◌, ◌++◌, length, take, drop, refl, sym, ap, ◌∙◌, subst, arith, append-nil, zero-add}
use Rattle.std.proofs.lemmas.List.{append_cancel_left, length-map, take_at, drop_at}
use Rattle.ax_prog.specs.declared.tokens.Token.{Token}
use Rattle.ax_lex.specs.Bytes.{Text}
use Rattle.ax_lex.specs.Pieces.{Piece, token, fresh_end, texts, ArePieces, tokens_of, SpellsTokens}
use Rattle.ax_lex.proofs.Sequences.{texts-append, fresh_end-append, ArePieces-append, tokens_of-append, kinds_of-tokens_of}
use Rattle.ax_lex.proofs.Ends.{token_begins}
use Rattle.ax_lex.proofs.Cuts.{Found, found_at}
use Rattle.ax_lex.proofs.Unique.{one_list}
use Rattle.ax_parse_grammar.specs.Terminals.{extent}
use Rattle.ax_print_back.proofs.Shifts.{ends_last}

-- the pieces of the stretch
abbrev pub old_of : {bytes : Text} {before : List Token} {t : Token} {ts after : List Token} → Found bytes before t ts after → List Piece
old_of f = f.mid ++ token f.word f.last ∷ []

pub record Stands (bytes : Text) (before : List Token) (t : Token) (ts after : List Token) : Type 0 where
  pub cut : Found bytes before t ts after
  pub to_is : (extent (t ∷ ts)).to ≡ t.span.from + length (texts (old_of cut))
  pub wide : 0 < length (texts (old_of cut))
  pub hole_is : tokens_of t.span.from (old_of cut) ≡ t ∷ ts
  pub back_is : tokens_of (extent (t ∷ ts)).to cut.back ≡ after

pub stands : (bytes : Text) (before : List Token) (t : Token) (ts after : List Token) → SpellsTokens bytes (before ++ ((t ∷ ts) ++ after)) → Stands bytes before t ts after
stands bytes before t ts after s =
    let f = found_at bytes before t ts after s in
    let old = old_of f in
    let all = f.front ++ (old ++ f.back) in
    let end : (extent (t ∷ ts)).to ≡ t.span.from + length (texts old) = ends_last t.span.to ts ∙ f.to_is ∙ ap (λ (n : ℕ). n + length (texts old)) (sym f.from_is) in
    -- the pieces spell these tokens and no others
    let text : texts (old ++ f.back) ≡ texts old ++ texts f.back = texts-append old f.back in
    let stale : fresh_end (fresh_end true f.front) old ≡ false = fresh_end-append (fresh_end true f.front) f.mid (token f.word f.last ∷ []) in
    let fronts : ArePieces true f.front (texts (old ++ f.back) ++ []) = subst (λ (v : Text). ArePieces true f.front v) (sym (append-nil (texts (old ++ f.back)) ∙ text)) f.proper_front in
    let holes : ArePieces (fresh_end true f.front) old (texts f.back ++ []) = subst (λ (v : Text). ArePieces (fresh_end true f.front) old v) (sym (append-nil (texts f.back))) f.proper_mid in
    let backs : ArePieces (fresh_end (fresh_end true f.front) old) f.back [] = subst (λ (g : Bool). ArePieces g f.back []) (sym stale) f.proper_back in
    let spelled : SpellsTokens bytes (tokens_of 0 all) = record {
      pieces = all;
      joined = f.joined ∙ ap (λ (v : Text). texts f.front ++ v) (sym text) ∙ sym (texts-append f.front (old ++ f.back));
      proper = ArePieces-append true f.front (old ++ f.back) [] fronts (ArePieces-append (fresh_end true f.front) old f.back [] holes backs);
      found = refl;
    } in
    let whole : tokens_of 0 all ≡ before ++ ((t ∷ ts) ++ after) = one_list bytes (tokens_of 0 all) (before ++ ((t ∷ ts) ++ after)) spelled s in
    let place : 0 + length (texts f.front) ≡ t.span.from = zero-add (length (texts f.front)) ∙ sym f.from_is in
    let to = (extent (t ∷ ts)).to in
    let parts : tokens_of 0 all ≡ before ++ (tokens_of t.span.from old ++ tokens_of to f.back) = tokens_of-append 0 f.front (old ++ f.back) ∙ (λ i. f.before_is i ++ tokens_of (place i) (old ++ f.back)) ∙ ap (λ (us : List Token). before ++ us) (tokens_of-append t.span.from old f.back ∙ ap (λ (n : ℕ). tokens_of t.span.from old ++ tokens_of n f.back) (sym end)) in
    let rest : tokens_of t.span.from old ++ tokens_of to f.back ≡ (t ∷ ts) ++ after = append_cancel_left before (tokens_of t.span.from old ++ tokens_of to f.back) ((t ∷ ts) ++ after) (sym parts ∙ whole) in
    -- as many of them stand in the stretch
    let count : length (tokens_of t.span.from old) ≡ length (t ∷ ts) = sym (length-map (tokens_of t.span.from old) (λ (u : Token). u.kind)) ∙ ap length (kinds_of-tokens_of t.span.from old ∙ f.kinds_is) ∙ length-map (t ∷ ts) (λ (u : Token). u.kind) in
    let n = length (t ∷ ts) in
    let first = token_begins f.first t.kind (subst (λ (qs : List Piece). ArePieces (fresh_end true f.front) qs (texts f.back)) f.begins f.proper_mid).0.0 in
    let old_text : texts old ≡ first.0 ∷ (first.1 ++ texts f.tail) = ap texts f.begins ∙ ap (λ (v : Text). v ++ texts f.tail) first.2 in
    record {
      cut = f;
      to_is = end;
      wide = omega (arith, ap length old_text);
      hole_is = sym (take_at (tokens_of t.span.from old) (tokens_of to f.back) n count) ∙ ap (λ (us : List Token). take n us) rest ∙ take_at (t ∷ ts) after n refl;
      back_is = sym (drop_at (tokens_of t.span.from old) (tokens_of to f.back) n count) ∙ ap (λ (us : List Token). drop n us) rest ∙ drop_at (t ∷ ts) after n refl;
    }
