-- The bytes of a stretch of tokens, elsewhere.
use Rattle.std.proofs.Common.{◌≡◌, ◌-◌, Bool, true, false, List, [], ◌∷◌, ◌++◌, length, take, drop, Some, refl, sym, ap, ◌∙◌, subst, arith}
use Rattle.std.proofs.lemmas.List.{take_at, drop_at}
use Rattle.ax_prog.specs.declared.tokens.Kind.{Kind}
use Rattle.ax_prog.specs.declared.tokens.Token.{Token}
use Rattle.ax_lex.specs.Bytes.{Text}
use Rattle.ax_lex.specs.Tokens.{kind_of}
use Rattle.ax_lex.specs.Pieces.{Piece, token, fresh_end, texts, ArePieces, SpellsTokens}
use Rattle.ax_lex.proofs.Sequences.{ArePieces-parts, kinds_of-tokens_of}
use Rattle.ax_lex.proofs.Ends.{continues_end, pieces_before_end}
use Rattle.ax_parse_grammar.specs.Terminals.{extent}
use Rattle.ax_print_holes.specs.Moved.{moved_tokens}
use Rattle.ax_print_back.specs.Swaps.{carried, IsCopied}
use Rattle.ax_print_back.proofs.Shifts.{tokens_moved, carries}
use Rattle.ax_print_back.proofs.Stands.{old_of, stands}

-- a token first is a piece wherever it stands
any_flag : (f : Bool) (w : Text) (kind : Kind) (ps : List Piece) (x : Text) → ArePieces f (token w kind ∷ ps) x → ArePieces false (token w kind ∷ ps) x
any_flag f w kind ps x h = h

pub copied : (bytes : Text) (front : List Token) (t : Token) (ts back : List Token) → SpellsTokens bytes (front ++ ((t ∷ ts) ++ back)) → IsCopied bytes (t ∷ ts)
copied bytes front t ts back s =
    let p = stands bytes front t ts back s in
    let f = p.cut in
    let old = old_of f in
    let fresh = fresh_end true f.front in
    let size : (extent (t ∷ ts)).to - t.span.from ≡ length (texts old) = omega (arith, p.to_is) in
    let dropped : drop t.span.from bytes ≡ texts old ++ texts f.back = ap (λ (v : Text). drop t.span.from v) f.joined ∙ drop_at (texts f.front) (texts old ++ texts f.back) t.span.from (sym f.from_is) in
    let kind_is : kind_of f.word ≡ Some f.last = (ArePieces-parts fresh f.mid (token f.word f.last ∷ []) (texts f.back) f.proper_mid).1.0.0 in
    let free : ArePieces false old (texts f.back) = subst (λ (qs : List Piece). ArePieces false qs (texts f.back)) (sym f.begins) (any_flag fresh f.first t.kind f.tail (texts f.back) (subst (λ (qs : List Piece). ArePieces fresh qs (texts f.back)) f.begins f.proper_mid)) in
    record {
      inside = record {
        pieces = old;
        joined = (λ i. take (size i) (dropped i)) ∙ take_at (texts old) (texts f.back) (length (texts old)) refl;
        proper = λ b rest end. pieces_before_end false f.mid f.word f.last (texts f.back) (b ∷ rest) free (continues_end b end f.word f.last kind_is);
        found = sym (kinds_of-tokens_of 0 old ∙ f.kinds_is);
      };
      tokens = λ at. tokens_moved (carried t.span.from at) t.span.from at old (λ j le. carries t.span.from at j) ∙ ap (λ (us : List Token). moved_tokens (carried t.span.from at) us) p.hole_is;
    }
