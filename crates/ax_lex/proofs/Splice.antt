-- Stretches of tokens replaced by texts in parentheses.
use Rattle.std.proofs.Common.{◌≡◌, ℕ, ◌+◌, ◌-◌, Bool, true, false, List, [], ◌∷◌, ◌++◌, length, take, drop, refl, sym, ap, ◌∙◌, subst, arith, append_assoc, append-nil, length-append, ◌≤◌, length-take-le}
use Rattle.std.proofs.lemmas.List.{take-append-drop, take-append-le, map-append}
use Rattle.ax_lex.proofs.Turns.{take_add}
use Rattle.ax_prog.specs.declared.tokens.Mark.TheVariants as m
use Rattle.ax_prog.specs.declared.tokens.Kind.{Kind}
use Rattle.ax_prog.specs.declared.tokens.Kind.TheVariants as k
use Rattle.ax_prog.specs.declared.tokens.Token.{Token}
use Rattle.ax_prog.specs.declared.Span.{Span}
use Rattle.ax_lex.specs.Bytes.{Text}
use Rattle.ax_lex.specs.Pieces.{Piece, token, fresh_end, texts, ArePieces, tokens_of, SpellsTokens}
use Rattle.ax_lex.specs.Splices.{kinds_of, last_to, SpellsInside, in_parens, spliced_from, spliced, Replaces}
use Rattle.ax_lex.proofs.Sequences.{texts-append, fresh_end-append, ArePieces-append, tokens_of-append, kinds, kinds-append, kinds_of-tokens_of}
use Rattle.ax_lex.proofs.Comments.{take_front}
use Rattle.ax_lex.proofs.Ends.{open_piece, close_piece, pieces_before_open, token_begins}
use Rattle.ax_lex.proofs.Cuts.{found_at, drop_front}

-- The bytes spell these tokens, and then others of these kinds.
pub record SpellsOn (bytes : Text) (before : List Token) (middle after : List Kind) : Type 0 where
  pub mid : List Token
  pub rest : List Token
  pub spelled : SpellsTokens bytes (before ++ (mid ++ rest))
  pub mid_kinds : kinds_of mid ≡ middle
  pub rest_kinds : kinds_of rest ≡ after

pub record SpellsThen (bytes : Text) (before : List Token) (after : List Kind) : Type 0 where
  pub others : List Token
  pub spelled : SpellsTokens bytes (before ++ others)
  pub others_kinds : kinds_of others ≡ after

-- Where a stretch of tokens is replaced by a text in parentheses, the tokens before it stay as they are, and those behind
-- it stay but for their places.
pub splice_spells : (bytes inner : Text) (before : List Token) (t : Token) (ts after : List Token) (ks : List Kind) → SpellsTokens bytes (before ++ ((t ∷ ts) ++ after)) → SpellsInside inner ks → SpellsOn (take t.span.from bytes ++ 40 ∷ (inner ++ 41 ∷ drop (last_to t.span.to ts) bytes)) before (k.Mark m.OpenRound ∷ (ks ++ k.Mark m.CloseRound ∷ [])) (kinds_of after)
splice_spells bytes inner before t ts after ks s inside =
    let f = found_at bytes before t ts after s in
    let old = f.mid ++ token f.word f.last ∷ [] in
    let new : List Piece = token (40 ∷ []) (k.Mark m.OpenRound) ∷ (inside.pieces ++ token (41 ∷ []) (k.Mark m.CloseRound) ∷ []) in
    let place = 0 + length (texts f.front) in
    -- the bytes
    let cut_front : take t.span.from bytes ≡ texts f.front = (λ i. take (f.from_is i) (f.joined i)) ∙ take_front (texts f.front) (texts old ++ texts f.back) in
    let regrouped : bytes ≡ (texts f.front ++ texts old) ++ texts f.back = f.joined ∙ sym (append_assoc (texts f.front) (texts old) (texts f.back)) in
    let to_place : last_to t.span.to ts ≡ length (texts f.front ++ texts old) = f.to_is ∙ sym (length-append (texts f.front) (texts old)) in
    let cut_back : drop (last_to t.span.to ts) bytes ≡ texts f.back = (λ i. drop (to_place i) (regrouped i)) ∙ drop_front (texts f.front ++ texts old) (texts f.back) in
    let new_text : texts (new ++ f.back) ≡ 40 ∷ (inner ++ 41 ∷ texts f.back) = texts-append new f.back ∙ ap (λ (v : Text). 40 ∷ (v ++ texts f.back)) (texts-append inside.pieces (token (41 ∷ []) (k.Mark m.CloseRound) ∷ [])) ∙ ap (λ (v : Text). 40 ∷ v) (append_assoc (texts inside.pieces) (41 ∷ []) (texts f.back)) ∙ ap (λ (v : Text). 40 ∷ (v ++ 41 ∷ texts f.back)) (sym inside.joined) in
    let whole : take t.span.from bytes ++ 40 ∷ (inner ++ 41 ∷ drop (last_to t.span.to ts) bytes) ≡ texts (f.front ++ (new ++ f.back)) = (λ i. cut_front i ++ 40 ∷ (inner ++ 41 ∷ cut_back i)) ∙ ap (λ (v : Text). texts f.front ++ v) (sym new_text) ∙ sym (texts-append f.front (new ++ f.back)) in
    -- the pieces
    let first = token_begins f.first t.kind (subst (λ (qs : List Piece). ArePieces (fresh_end true f.front) qs (texts f.back)) f.begins f.proper_mid).0.0 in
    let old_text : texts old ++ texts f.back ≡ first.0 ∷ ((first.1 ++ texts f.tail) ++ texts f.back) = ap (λ (qs : List Piece). texts qs ++ texts f.back) f.begins ∙ ap (λ (v : Text). (v ++ texts f.tail) ++ texts f.back) first.2 in
    let fronts : ArePieces true f.front (texts (new ++ f.back) ++ []) = subst (λ (v : Text). ArePieces true f.front v) (sym (append-nil (texts (new ++ f.back)) ∙ new_text)) (pieces_before_open true f.front first.0 ((first.1 ++ texts f.tail) ++ texts f.back) (inner ++ 41 ∷ texts f.back) first.3 (subst (λ (v : Text). ArePieces true f.front v) old_text f.proper_front)) in
    let mids : ArePieces (fresh_end true f.front) new (texts f.back ++ []) = (open_piece (fresh_end true f.front) (texts (inside.pieces ++ token (41 ∷ []) (k.Mark m.CloseRound) ∷ []) ++ (texts f.back ++ [])), ArePieces-append false inside.pieces (token (41 ∷ []) (k.Mark m.CloseRound) ∷ []) (texts f.back ++ []) (inside.proper 41 (texts f.back ++ []) refl) (close_piece (fresh_end false inside.pieces) (texts f.back ++ []), tt)) in
    let stale : fresh_end (fresh_end true f.front) new ≡ false = fresh_end-append false inside.pieces (token (41 ∷ []) (k.Mark m.CloseRound) ∷ []) in
    let backs : ArePieces (fresh_end (fresh_end true f.front) new) f.back [] = subst (λ (g : Bool). ArePieces g f.back []) (sym stale) f.proper_back in
    record {
      mid = tokens_of place new;
      rest = tokens_of (place + length (texts new)) f.back;
      spelled = record {
        pieces = f.front ++ (new ++ f.back);
        joined = whole;
        proper = ArePieces-append true f.front (new ++ f.back) [] fronts (ArePieces-append (fresh_end true f.front) new f.back [] mids backs);
        found = (λ i. (sym f.before_is) i ++ (sym (tokens_of-append place new f.back)) i) ∙ sym (tokens_of-append 0 f.front (new ++ f.back));
      };
      mid_kinds = kinds_of-tokens_of place new ∙ ap (λ (js : List Kind). k.Mark m.OpenRound ∷ js) (kinds-append inside.pieces (token (41 ∷ []) (k.Mark m.CloseRound) ∷ []) ∙ ap (λ (js : List Kind). js ++ k.Mark m.CloseRound ∷ []) (sym (kinds_of-tokens_of 0 inside.pieces) ∙ sym inside.found));
      rest_kinds = kinds_of-tokens_of (place + length (texts new)) f.back ∙ f.after_is;
    }

-- the same for several stretches, of which the next is the first
pub splices_spell : {at : ℕ} {tokens : List Token} {parts : List (Span × Text)} {kinds : List Kind} → Replaces at tokens parts kinds → (bytes : Text) (before : List Token) → SpellsTokens bytes (before ++ tokens) → at ≤ length bytes → SpellsThen (take at bytes ++ spliced_from at bytes parts) before kinds
splices_spell (Replaces.none {at = at} tokens) bytes before s le = record {
  others = tokens;
  spelled = subst (λ (v : Text). SpellsTokens v (before ++ tokens)) (sym (take-append-drop at bytes)) s;
  others_kinds = refl;
}
splices_spell (Replaces.next {at = at} {parts = parts} {kinds = ks} {later = later} gap t ts more text rises inside rest) bytes before s le =
    let from = t.span.from in
    let to = last_to t.span.to ts in
    let tail = spliced_from to bytes parts in
    let f = found_at bytes (before ++ gap) t ts more (subst (λ (us : List Token). SpellsTokens bytes us) (sym (append_assoc before gap ((t ∷ ts) ++ more))) s) in
    let size : length bytes ≡ to + length (texts f.back) = ap length f.joined ∙ omega_size (texts f.front) (texts (f.mid ++ token f.word f.last ∷ [])) (texts f.back) to f.to_is in
    let order : from ≤ to = omega (arith, f.from_is, f.to_is) in
    let shape : (before ++ (gap ++ (t ∷ ts))) ++ more ≡ before ++ (gap ++ ((t ∷ ts) ++ more)) = append_assoc before (gap ++ (t ∷ ts)) more ∙ ap (λ (us : List Token). before ++ us) (append_assoc gap (t ∷ ts) more) in
    -- the later stretches first
    let r = splices_spell rest bytes (before ++ (gap ++ (t ∷ ts))) (subst (λ (us : List Token). SpellsTokens bytes us) (sym shape) s) (omega (arith, size)) in
    let shape2 : (before ++ (gap ++ (t ∷ ts))) ++ r.others ≡ (before ++ gap) ++ ((t ∷ ts) ++ r.others) = append_assoc before (gap ++ (t ∷ ts)) r.others ∙ ap (λ (us : List Token). before ++ us) (append_assoc gap (t ∷ ts) r.others) ∙ sym (append_assoc before gap ((t ∷ ts) ++ r.others)) in
    let one = splice_spells (take to bytes ++ tail) text (before ++ gap) t ts r.others ks (subst (λ (us : List Token). SpellsTokens (take to bytes ++ tail) us) shape2 r.spelled) inside in
    -- the same bytes
    let count : length (take to bytes) ≡ to = length-take-le to bytes (omega (arith, size)) in
    let cut_front : take from (take to bytes ++ tail) ≡ take from bytes = take_in from to bytes tail order (omega (arith, size)) in
    let cut_back : drop to (take to bytes ++ tail) ≡ tail = (λ i. drop (sym count i) (take to bytes ++ tail)) ∙ drop_front (take to bytes) tail in
    let gap_text : take at bytes ++ take (from - at) (drop at bytes) ≡ take from bytes = sym (take_add at (from - at) bytes) ∙ ap (λ (n : ℕ). take n bytes) (let e : at + (from - at) ≡ from = omega arith in e) in
    let close : 40 ∷ (text ++ 41 ∷ tail) ≡ in_parens text ++ tail = ap (λ (v : Text). 40 ∷ v) (sym (append_assoc text (41 ∷ []) tail)) in
    let whole : take from (take to bytes ++ tail) ++ 40 ∷ (text ++ 41 ∷ drop to (take to bytes ++ tail)) ≡ take at bytes ++ (take (from - at) (drop at bytes) ++ (in_parens text ++ tail)) = (λ i. cut_front i ++ 40 ∷ (text ++ 41 ∷ cut_back i)) ∙ (λ i. (sym gap_text) i ++ close i) ∙ append_assoc (take at bytes) (take (from - at) (drop at bytes)) (in_parens text ++ tail) in
    record {
      others = gap ++ (one.mid ++ one.rest);
      spelled = subst (λ (v : Text). SpellsTokens v (before ++ (gap ++ (one.mid ++ one.rest)))) whole (subst (λ (us : List Token). SpellsTokens (take from (take to bytes ++ tail) ++ 40 ∷ (text ++ 41 ∷ drop to (take to bytes ++ tail))) us) (append_assoc before gap (one.mid ++ one.rest)) one.spelled);
      others_kinds = map-append (λ (u : Token). u.kind) gap (one.mid ++ one.rest) ∙ ap (λ (js : List Kind). kinds_of gap ++ js) (map-append (λ (u : Token). u.kind) one.mid one.rest ∙ (λ i. one.mid_kinds i ++ (one.rest_kinds ∙ r.others_kinds) i));
    }
  where
    omega_size : (u v w : Text) (to : ℕ) → to ≡ length u + length v → length (u ++ (v ++ w)) ≡ to + length w
    omega_size u v w to h = omega (arith, length-append u (v ++ w), length-append v w)

    take_in : (from to : ℕ) (bytes tail : Text) → from ≤ to → to ≤ length bytes → take from (take to bytes ++ tail) ≡ take from bytes
    take_in from to bytes tail a b = take-append-le from (take to bytes) tail (omega (arith, length-take-le to bytes b)) ∙ sym (take-append-le from (take to bytes) (drop to bytes) (omega (arith, length-take-le to bytes b))) ∙ ap (λ (v : Text). take from v) (take-append-drop to bytes)

-- the spliced bytes spell the tokens with these stretches replaced
pub spliced_spells : (bytes : Text) (tokens : List Token) (parts : List (Span × Text)) (kinds : List Kind) → SpellsTokens bytes tokens → Replaces 0 tokens parts kinds → (others : List Token) × SpellsTokens (spliced bytes parts) others × (kinds_of others ≡ kinds)
spliced_spells bytes tokens parts kinds s r =
    let all = splices_spell r bytes [] s (omega arith) in
    (all.others, all.spelled, all.others_kinds)
