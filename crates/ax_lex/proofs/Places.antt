-- What stands at a token's place.
use Rattle.std.proofs.Common.{◌≡◌, ◌≤◌, ℕ, ℤ, pos, ◌-◌, Bool, true, false, List, [], ◌∷◌, ◌++◌, length, take, drop, get_or, Option, Some, None, refl, sym, ap, ◌∙◌, subst, arith, zero-add, length-append, option_map, cond}
use Rattle.std.specs.List.{list_all}
use Rattle.std.specs.Char.{is_ascii_digit}
use Rattle.ax_prog.specs.declared.tokens.Keyword.{Keyword}
use Rattle.ax_prog.specs.declared.tokens.Mark.{Mark}
use Rattle.ax_prog.specs.declared.tokens.Kind.{Kind}
use Rattle.ax_prog.specs.declared.tokens.Kind.TheVariants as k
use Rattle.ax_prog.specs.declared.tokens.Token.{Token}
use Rattle.ax_lex.specs.Bytes.{Text, is_letter, is_word}
use Rattle.ax_lex.specs.Tokens.{number_of, small, keyword_of, mark_of, format_of, word_kind, other_kind, kind_of}
use Rattle.ax_lex.specs.Pieces.{Piece, token, texts, ArePieces, SpellsTokens}
use Rattle.ax_lex.specs.Splices.{SpellsInside}
use Rattle.ax_lex.proofs.Sequences.{texts-append, ArePieces-parts}
use Rattle.ax_lex.proofs.Comments.{take_front}
use Rattle.ax_lex.proofs.Unique.{small_some}
use Rattle.ax_lex.proofs.Cuts.{cut, drop_front}
use Rattle.ax_lex.proofs.Inside.{token_inside}

-- the token is that of the bytes at its place
pub record StandsIn (bytes : Text) (t : Token) : Type 0 where
  pub kind : kind_of (take (t.span.to - t.span.from) (drop t.span.from bytes)) ≡ Some t.kind
  pub order : t.span.from ≤ t.span.to
  pub within : t.span.to ≤ length bytes

pub token_at : (bytes : Text) (before : List Token) (t : Token) (after : List Token) → SpellsTokens bytes (before ++ t ∷ after) → StandsIn bytes t
token_at bytes before t after s =
    let c = cut 0 s.pieces before t after (sym s.found) in
    let all = ArePieces-parts true c.front (token c.word t.kind ∷ c.back) [] (subst (λ (qs : List Piece). ArePieces true qs []) c.joined s.proper) in
    let text : bytes ≡ texts c.front ++ (c.word ++ texts c.back) = s.joined ∙ ap texts c.joined ∙ texts-append c.front (token c.word t.kind ∷ c.back) in
    let from : t.span.from ≡ length (texts c.front) = c.from_is ∙ zero-add (length (texts c.front)) in
    let size : t.span.to - t.span.from ≡ length c.word = omega (arith, c.from_is, c.to_is) in
    let here : take (t.span.to - t.span.from) (drop t.span.from bytes) ≡ c.word = (λ i. take (size i) (drop (from i) (text i))) ∙ ap (λ (v : Text). take (length c.word) v) (drop_front (texts c.front) (c.word ++ texts c.back)) ∙ take_front c.word (texts c.back) in
    record {
      kind = ap kind_of here ∙ all.1.0.0;
      order = omega (arith, c.from_is, c.to_is);
      within = omega (arith, c.from_is, c.to_is, ap length text, length-append (texts c.front) (c.word ++ texts c.back), length-append c.word (texts c.back));
    }

-- ---- names and numbers

-- which token a text is, by what its first byte is
sorted : Text → Bool → Bool → Bool → Option ℕ → Option Keyword → Option ℕ → Option Mark → Option Kind
sorted w digit letter word number keyword format mark = cond digit (option_map (λ (n : ℕ). k.Number (pos n)) number) (cond letter (cond word (Some (word_kind w keyword)) None) (other_kind format mark))

sorted_is : (w : Text) → kind_of w ≡ sorted w (is_ascii_digit (get_or w 0 0)) (is_letter (get_or w 0 0)) (list_all is_word w) (small (number_of w)) (keyword_of w) (format_of w) (mark_of w)
unfolding sorted
sorted_is w = refl

name_sorted : (v w : Text) (d l a : Bool) (n : Option ℕ) (c : Option Keyword) (f : Option ℕ) (m : Option Mark) → sorted v d l a n c f m ≡ Some (k.Name w) → v ≡ w
unfolding sorted
name_sorted v w true l a None c f m h = cc
name_sorted v w true l a (Some n) c f m h = cc
name_sorted v w false true true n None f m h = cc
name_sorted v w false true true n (Some c) f m h = cc
name_sorted v w false true false n c f m h = cc
name_sorted v w false false a n c (Some f) m h = cc
name_sorted v w false false a n c None (Some m) h = cc
name_sorted v w false false a n c None None h = cc

-- a name's text is the name
pub name_text : (v w : Text) → kind_of v ≡ Some (k.Name w) → v ≡ w
name_text v w h = name_sorted v w (is_ascii_digit (get_or v 0 0)) (is_letter (get_or v 0 0)) (list_all is_word v) (small (number_of v)) (keyword_of v) (format_of v) (mark_of v) (sym (sorted_is v) ∙ h)

number_sorted : (v : Text) (z : ℤ) (d l a : Bool) (n : Option ℕ) (c : Option Keyword) (f : Option ℕ) (m : Option Mark) → sorted v d l a n c f m ≡ Some (k.Number z) → (j : ℕ) × (z ≡ pos j) × (n ≡ Some j)
unfolding sorted
number_sorted v z true l a None c f m h = cc
number_sorted v z true l a (Some n) c f m h = (n, cc, refl)
number_sorted v z false true true n None f m h = cc
number_sorted v z false true true n (Some c) f m h = cc
number_sorted v z false true false n c f m h = cc
number_sorted v z false false a n c (Some f) m h = cc
number_sorted v z false false a n c None (Some m) h = cc
number_sorted v z false false a n c None None h = cc

-- a number is from 0 to 2147483647
pub number_range : (v : Text) (z : ℤ) → kind_of v ≡ Some (k.Number z) → (n : ℕ) × (z ≡ pos n) × (n ≤ 2147483647)
number_range v z h =
    let s = number_sorted v z (is_ascii_digit (get_or v 0 0)) (is_letter (get_or v 0 0)) (list_all is_word v) (small (number_of v)) (keyword_of v) (format_of v) (mark_of v) (sym (sorted_is v) ∙ h) in
    (s.0, s.1, (small_some (number_of v) s.0 s.2).1)

-- a name that stands among the tokens spells itself
pub name_inside : (bytes : Text) (before : List Token) (t : Token) (after : List Token) (w : Text) → SpellsTokens bytes (before ++ t ∷ after) → t.kind ≡ k.Name w → SpellsInside w (k.Name w ∷ [])
name_inside bytes before t after w s is =
    let kind = (token_at bytes before t after s).kind ∙ ap (λ (j : Kind). let o : Option Kind = Some j in o) is in
    let text = take (t.span.to - t.span.from) (drop t.span.from bytes) in
    token_inside w (k.Name w) (subst (λ (v : Text). kind_of v ≡ Some (k.Name w)) (name_text text w kind) kind)

-- a number that stands among the tokens
pub number_at : (bytes : Text) (before : List Token) (t : Token) (after : List Token) (z : ℤ) → SpellsTokens bytes (before ++ t ∷ after) → t.kind ≡ k.Number z → (n : ℕ) × (z ≡ pos n) × (n ≤ 2147483647)
number_at bytes before t after z s is = number_range (take (t.span.to - t.span.from) (drop t.span.from bytes)) z ((token_at bytes before t after s).kind ∙ ap (λ (j : Kind). let o : Option Kind = Some j in o) is)
