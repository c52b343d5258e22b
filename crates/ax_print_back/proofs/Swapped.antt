-- A text in parentheses in the place of a stretch of tokens.
use Rattle.std.proofs.Common.{◌≡◌, ◌<◌, ℕ, ◌+◌, Bool, true, false, List, [], ◌∷◌, ◌++◌, length, take, drop, refl, sym, ap, ◌∙◌, subst, arith, append_assoc, length-append, add-zero}
use Rattle.std.proofs.lemmas.List.{take_at, drop_at}
use Rattle.ax_prog.specs.declared.Span.{Span}
use Rattle.ax_prog.specs.declared.tokens.Mark.TheVariants as m
use Rattle.ax_prog.specs.declared.tokens.Kind.{Kind}
use Rattle.ax_prog.specs.declared.tokens.Kind.TheVariants as k
use Rattle.ax_prog.specs.declared.tokens.Token.{Token}
use Rattle.ax_lex.specs.Bytes.{Text}
use Rattle.ax_lex.specs.Pieces.{Piece, token, fresh_end, texts, ArePieces, tokens_of, SpellsTokens}
use Rattle.ax_lex.specs.Splices.{SpellsInside, in_parens}
use Rattle.ax_lex.proofs.Sequences.{texts-append, fresh_end-append, ArePieces-append, tokens_of-append}
use Rattle.ax_lex.proofs.Ends.{open_piece, close_piece, pieces_before_open, token_begins}
use Rattle.ax_lex.proofs.Cuts.{Found}
use Rattle.ax_parse_grammar.specs.Terminals.{extent, end_of}
use Rattle.ax_print_holes.specs.Moved.{moved_tokens}
use Rattle.ax_print_back.specs.Swaps.{shifted, swapped, IsSwapped}
use Rattle.ax_print_back.proofs.Shifts.{tokens_moved, stays, shifts}
use Rattle.ax_print_back.proofs.Stands.{Stands, old_of, stands}

abbrev close : List Piece
close = token (41 ∷ []) (k.Mark m.CloseRound) ∷ []

-- the pieces in parentheses
abbrev round : List Piece → List Piece
round ps = token (40 ∷ []) (k.Mark m.OpenRound) ∷ (ps ++ close)

abbrev mark_at : Kind → ℕ → Token
mark_at kind at = record { kind = kind; span = record { from = at; to = at + 1 } }

round_text : (ps : List Piece) → texts (round ps) ≡ in_parens (texts ps)
round_text ps = ap (λ (v : Text). 40 ∷ v) (texts-append ps close)

round_tokens : (at : ℕ) (ps : List Piece) → tokens_of at (round ps) ≡ mark_at (k.Mark m.OpenRound) at ∷ (tokens_of (at + 1) ps ++ mark_at (k.Mark m.CloseRound) (at + 1 + length (texts ps)) ∷ [])
round_tokens at ps = ap (λ (us : List Token). mark_at (k.Mark m.OpenRound) at ∷ us) (tokens_of-append (at + 1) ps close)

round_proper : (f : Bool) (text : Text) (kinds : List Kind) (inside : SpellsInside text kinds) (rest : Text) → ArePieces f (round inside.pieces) rest
round_proper f text kinds inside rest = (open_piece f (texts (inside.pieces ++ close) ++ rest), ArePieces-append false inside.pieces close rest (inside.proper 41 rest refl) (close_piece (fresh_end false inside.pieces) rest, tt))

end_of-append : (at : ℕ) (us : List Token) (u : Token) → end_of at (us ++ u ∷ []) ≡ u.span.to
end_of-append at [] u = refl
end_of-append at (v ∷ us) u = end_of-append v.span.to us u

-- the bytes
text_swapped : (bytes : Text) (front : List Token) (t : Token) (ts back : List Token) (p : Stands bytes front t ts back) (text : Text) (ps : List Piece) → text ≡ texts ps → swapped bytes (extent (t ∷ ts)) text ≡ texts (p.cut.front ++ (round ps ++ p.cut.back))
text_swapped bytes front t ts back p text ps is =
    let f = p.cut in
    let old = old_of f in
    let to = (extent (t ∷ ts)).to in
    let cut_front : take t.span.from bytes ≡ texts f.front = ap (λ (v : Text). take t.span.from v) f.joined ∙ take_at (texts f.front) (texts old ++ texts f.back) t.span.from (sym f.from_is) in
    let regrouped : bytes ≡ (texts f.front ++ texts old) ++ texts f.back = f.joined ∙ sym (append_assoc (texts f.front) (texts old) (texts f.back)) in
    let size : length (texts f.front ++ texts old) ≡ to = length-append (texts f.front) (texts old) ∙ ap (λ (n : ℕ). n + length (texts old)) (sym f.from_is) ∙ sym p.to_is in
    let cut_back : drop to bytes ≡ texts f.back = ap (λ (v : Text). drop to v) regrouped ∙ drop_at (texts f.front ++ texts old) (texts f.back) to size in
    let new_text : in_parens text ≡ texts (round ps) = ap in_parens is ∙ sym (round_text ps) in
    (λ i. cut_front i ++ (new_text i ++ cut_back i)) ∙ ap (λ (v : Text). texts f.front ++ v) (sym (texts-append (round ps) f.back)) ∙ sym (texts-append f.front (round ps ++ f.back))

-- the pieces
pieces_swapped : (bytes : Text) (front : List Token) (t : Token) (ts back : List Token) (f : Found bytes front t ts back) (text : Text) (kinds : List Kind) (inside : SpellsInside text kinds) → ArePieces true (f.front ++ (round inside.pieces ++ f.back)) []
pieces_swapped bytes front t ts back f text kinds inside =
    let old = old_of f in
    let new = round inside.pieces in
    let fresh = fresh_end true f.front in
    let first = token_begins f.first t.kind (subst (λ (qs : List Piece). ArePieces fresh qs (texts f.back)) f.begins f.proper_mid).0.0 in
    let old_text : texts old ++ texts f.back ≡ first.0 ∷ ((first.1 ++ texts f.tail) ++ texts f.back) = ap (λ (qs : List Piece). texts qs ++ texts f.back) f.begins ∙ ap (λ (v : Text). (v ++ texts f.tail) ++ texts f.back) first.2 in
    let fronts : ArePieces true f.front (texts (new ++ f.back) ++ []) = pieces_before_open true f.front first.0 ((first.1 ++ texts f.tail) ++ texts f.back) (texts ((inside.pieces ++ close) ++ f.back) ++ []) first.3 (subst (λ (v : Text). ArePieces true f.front v) old_text f.proper_front) in
    let stale : fresh_end fresh new ≡ false = fresh_end-append false inside.pieces close in
    let backs : ArePieces (fresh_end fresh new) f.back [] = subst (λ (g : Bool). ArePieces g f.back []) (sym stale) f.proper_back in
    ArePieces-append true f.front (new ++ f.back) [] fronts (ArePieces-append fresh new f.back [] (round_proper fresh text kinds inside (texts f.back ++ [])) backs)

pub swapped_in : (bytes : Text) (front : List Token) (t : Token) (ts back : List Token) (text : Text) (kinds : List Kind) (inside : SpellsInside text kinds) → SpellsTokens bytes (front ++ ((t ∷ ts) ++ back)) → IsSwapped bytes front (t ∷ ts) back inside
swapped_in bytes front t ts back text kinds inside s =
    let p = stands bytes front t ts back s in
    let f = p.cut in
    let at : Span = extent (t ∷ ts) in
    let n = length (in_parens text) in
    let goes = shifted at n in
    let new = round inside.pieces in
    let opens = mark_at (k.Mark m.OpenRound) at.from in
    let closes = mark_at (k.Mark m.CloseRound) (at.from + 1 + length (texts inside.pieces)) in
    let wide : at.from < at.to = omega (arith, p.to_is, p.wide) in
    let size : length (texts new) ≡ n = ap length (round_text inside.pieces ∙ ap in_parens (sym inside.joined)) in
    let count : n ≡ 1 + length (texts inside.pieces) + 1 = ap (λ (v : Text). length (in_parens v)) inside.joined ∙ omega (arith, length-append (texts inside.pieces) (41 ∷ [])) in
    -- the tokens
    let before : tokens_of 0 f.front ≡ moved_tokens goes front = tokens_moved goes 0 0 f.front (λ j le. stays at n (0 + j) (omega (arith, f.from_is))) ∙ ap (λ (us : List Token). moved_tokens goes us) f.before_is in
    let after : tokens_of (at.from + n) f.back ≡ moved_tokens goes back = tokens_moved goes at.to (at.from + n) f.back (λ j le. shifts at n j wide) ∙ ap (λ (us : List Token). moved_tokens goes us) p.back_is in
    let place : 0 + length (texts f.front) ≡ at.from = omega (arith, f.from_is) in
    let middle : tokens_of at.from (new ++ f.back) ≡ (opens ∷ (tokens_of (at.from + 1) inside.pieces ++ closes ∷ [])) ++ moved_tokens goes back = tokens_of-append at.from new f.back ∙ (λ i. round_tokens at.from inside.pieces i ++ (ap (λ (j : ℕ). tokens_of (at.from + j) f.back) size ∙ after) i) in
    let ends : end_of opens.span.to (tokens_of (at.from + 1) inside.pieces ++ closes ∷ []) ≡ at.from + n = end_of-append opens.span.to (tokens_of (at.from + 1) inside.pieces) closes ∙ omega (arith, count) in
    let ends_moved : goes at.to ≡ at.from + n = ap goes (sym (add-zero at.to)) ∙ shifts at n 0 wide ∙ add-zero (at.from + n) in
    record {
      first = opens;
      last = closes;
      opens = refl;
      closes = refl;
      spelled = record {
        pieces = f.front ++ (new ++ f.back);
        joined = text_swapped bytes front t ts back p text inside.pieces inside.joined;
        proper = pieces_swapped bytes front t ts back f text kinds inside;
        found = sym (tokens_of-append 0 f.front (new ++ f.back) ∙ (λ i. before i ++ (ap (λ (j : ℕ). tokens_of j (new ++ f.back)) place ∙ middle) i));
      };
      stands = λ i. record { from = sym (stays at n at.from (omega arith)) i; to = (ends ∙ sym ends_moved) i };
    }
