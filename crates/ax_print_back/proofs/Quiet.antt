-- Texts that no prefix mark before them draws in, and the texts of operators.
use Rattle.std.proofs.Common.{◌≡◌, ℕ, ◌≤◌, ◌+◌, Bool, true, false, not, ◌||◌, eqb, ltb, List, [], ◌∷◌, ◌++◌, length, get_or, Option, Some, None, refl, ap, ◌∙◌, subst, arith, ⊎_elim}
use Rattle.std.specs.List.{list_all}
use Rattle.std.specs.Char.{is_ascii_digit}
use Rattle.std.proofs.lemmas.Bool.{cases_Bool, and_parts, false≢true}
use Rattle.std.proofs.lemmas.Bool.Decides.{nat_tests}
use Rattle.std.proofs.lemmas.Option.{none-some, same_Some}
use Rattle.ax_prog.specs.declared.Un.{Un}
use Rattle.ax_prog.specs.declared.Un.TheVariants as un
use Rattle.ax_prog.specs.declared.Bin.{Bin}
use Rattle.ax_prog.specs.declared.Bin.TheVariants as bin
use Rattle.ax_prog.specs.declared.tokens.Mark.{Mark}
use Rattle.ax_prog.specs.declared.tokens.Mark.TheVariants as m
use Rattle.ax_prog.specs.declared.tokens.Kind.{Kind}
use Rattle.ax_prog.specs.declared.tokens.Kind.TheVariants as k
use Rattle.ax_prog.specs.declared.tokens.Token.{Token}
use Rattle.ax_lex.specs.Bytes.{Text, is_letter, same}
use Rattle.ax_lex.specs.Tokens.{lookup, marks, keyword_of, mark_of, format_of, other_kind, kind_of, continues}
use Rattle.ax_lex.specs.Pieces.{Piece, space, line, block, include, token, text_of, texts, ArePieces, tokens_of}
use Rattle.ax_lex.proofs.Lookups.{same_true, lookup_none}
use Rattle.ax_lex.proofs.Ends.{kind_none}
use Rattle.ax_parse_grammar.specs.declared.tree.Prefix.{Prefix}
use Rattle.ax_parse_grammar.specs.declared.tree.Prefix.TheVariants as pre
use Rattle.ax_parse_grammar.specs.Operators.{binary_of, prefix_of}
use Rattle.ax_names_types.specs.Types.{is_arithmetic, un_of}
use Rattle.ax_print.specs.Text.{un_text, bin_text}
use Rattle.ax_print_holes.proofs.Following.{start_of}
use Rattle.ax_print_back.proofs.Firsts.{begins}

-- neither `-`, `=` nor `>`
abbrev pub quiet : ℕ → Bool
quiet b = not (eqb b 45 || (eqb b 61 || eqb b 62))

-- the first byte is such a one
abbrev pub Quiet : Text → Type 0
Quiet [] = ⊥
Quiet (b ∷ bs) = quiet b ≡ true

pub quiet_append : (u v : Text) → Quiet u → Quiet (u ++ v)
quiet_append [] v h = absurd h
quiet_append (b ∷ u) v h = h

-- ---- marks before them

-- not `-` or `!` with a quiet byte behind it
abbrev apart : Text → Bool
apart w = not (eqb (get_or w 0 0) 45 || eqb (get_or w 0 0) 33) || (ltb (length w) 2 || not (quiet (get_or w 1 45)))

no_mark : (a b : ℕ) → list_all (λ (p : Text × Mark). apart p.0) marks ≡ true → (eqb a 45 || eqb a 33) ≡ true → quiet b ≡ true → mark_of (a ∷ b ∷ []) ≡ None
unfolding mark_of
no_mark a b all h g = lookup_none apart marks (a ∷ b ∷ []) all (rw (h, g) refl)

-- the operator's text is a token, and a quiet byte does not make it longer
pub record IsPrefix (op : Un) : Type 0 where
  pub kind : Kind
  pub prefix : Prefix
  pub token : kind_of (un_text op) ≡ Some kind
  pub is : prefix_of kind ≡ Some prefix
  pub arithmetic : is_arithmetic prefix ≡ true
  pub same : un_of prefix ≡ op
  pub ends : (b : ℕ) → quiet b ≡ true → continues (un_text op) b ≡ false

pub prefix_mark : (op : Un) → IsPrefix op
unfolding mark_of format_of keyword_of
prefix_mark un.Neg = record { kind = k.Mark m.Minus; prefix = pre.Neg; token = refl; is = refl; arithmetic = refl; same = refl; ends = λ b h. rw (no_mark 45 b refl refl h) refl }
prefix_mark un.Not = record { kind = k.Mark m.Bang; prefix = pre.Not; token = refl; is = refl; arithmetic = refl; same = refl; ends = λ b h. rw (no_mark 33 b refl refl h) refl }
prefix_mark un.BitNot = record { kind = k.Mark m.Tilde; prefix = pre.BitNot; token = refl; is = refl; arithmetic = refl; same = refl; ends = λ b h. refl }

pub record IsBetween (op : Bin) : Type 0 where
  pub kind : Kind
  pub token : kind_of (bin_text op) ≡ Some kind
  pub is : binary_of kind ≡ Some op

between_by : (op : Bin) (kind : Kind) → kind_of (bin_text op) ≡ Some kind → binary_of kind ≡ Some op → IsBetween op
between_by op kind h g = record { kind = kind; token = h; is = g }

pub binary_mark : (op : Bin) → IsBetween op
unfolding mark_of format_of keyword_of
binary_mark bin.Eq = between_by bin.Eq (k.Mark m.Equal) refl refl
binary_mark bin.Ne = between_by bin.Ne (k.Mark m.NotEqual) refl refl
binary_mark bin.Lt = between_by bin.Lt (k.Mark m.Less) refl refl
binary_mark bin.Le = between_by bin.Le (k.Mark m.LessEqual) refl refl
binary_mark bin.Gt = between_by bin.Gt (k.Mark m.Greater) refl refl
binary_mark bin.Ge = between_by bin.Ge (k.Mark m.GreaterEqual) refl refl
binary_mark bin.And = between_by bin.And (k.Mark m.AmpAmp) refl refl
binary_mark bin.Or = between_by bin.Or (k.Mark m.BarBar) refl refl
binary_mark bin.Add = between_by bin.Add (k.Mark m.Plus) refl refl
binary_mark bin.Sub = between_by bin.Sub (k.Mark m.Minus) refl refl
binary_mark bin.Mul = between_by bin.Mul (k.Mark m.Star) refl refl
binary_mark bin.Div = between_by bin.Div (k.Mark m.Slash) refl refl
binary_mark bin.Rem = between_by bin.Rem (k.Mark m.Percent) refl refl
binary_mark bin.BitAnd = between_by bin.BitAnd (k.Mark m.Amp) refl refl
binary_mark bin.BitOr = between_by bin.BitOr (k.Mark m.Bar) refl refl
binary_mark bin.BitXor = between_by bin.BitXor (k.Mark m.Caret) refl refl
binary_mark bin.Shl = between_by bin.Shl (k.Mark m.Shl) refl refl
binary_mark bin.Shr = between_by bin.Shr (k.Mark m.Shr) refl refl

pub question_kind : kind_of (63 ∷ []) ≡ Some (k.Mark m.Question)
unfolding mark_of format_of keyword_of
question_kind = refl

pub colon_kind : kind_of (58 ∷ []) ≡ Some (k.Mark m.Colon)
unfolding mark_of format_of keyword_of
colon_kind = refl

-- ---- first bytes of tokens

-- what is found in a table passes each test that the whole table passes
lookup_pair : {K : Type 0} (test : Text → K → Bool) (ps : List (Text × K)) (w : Text) (x : K) → list_all (λ p. test p.0 p.1) ps ≡ true → lookup ps w ≡ Some x → test w x ≡ true
lookup_pair test [] w x all h = absurd (none-some x h)
lookup_pair test (p ∷ ps) w x all h =
    let a = and_parts (test p.0 p.1) (list_all (λ p. test p.0 p.1) ps) all in
    ⊎_elim
    (λ (is : same p.0 w ≡ true). let same_word = same_true p.0 w is in let found : p.1 ≡ x = same_Some p.1 x (rw is at h) in subst (λ v. test v x ≡ true) same_word (subst (λ y. test p.0 y ≡ true) found a.0))
    (λ (no : same p.0 w ≡ false). lookup_pair test ps w x a.1 (rw no at h))
    (cases_Bool (same p.0 w))

abbrev loud_or_quiet : Text → Mark → Bool
loud_or_quiet w mark = not (begins (k.Mark mark)) || quiet (get_or w 0 45)

mark_quiet : (b : ℕ) (w : Text) (mark : Mark) → mark_of (b ∷ w) ≡ Some mark → begins (k.Mark mark) ≡ true → quiet b ≡ true
unfolding mark_of
mark_quiet b w mark h g = let z = lookup_pair loud_or_quiet marks (b ∷ w) mark refl h in rw g at z

other_quiet : (b : ℕ) (w : Text) (o : Option ℕ) (q : Option Mark) (kind : Kind) → ((mark : Mark) → q ≡ Some mark → begins (k.Mark mark) ≡ true → quiet b ≡ true) → other_kind o q ≡ Some kind → begins kind ≡ true → quiet b ≡ true
other_quiet b w (Some f) q kind mark h g = absurd (false≢true (ap begins (same_Some (k.Format f) kind h) ∙ g))
other_quiet b w None (Some x) kind mark h g = mark x refl (ap begins (same_Some (k.Mark x) kind h) ∙ g)
other_quiet b w None None kind mark h g = absurd (none-some kind h)

digit_quiet : (b : ℕ) → is_ascii_digit b ≡ true → quiet b ≡ true
digit_quiet b h = grind (arith, nat_tests)

letter_quiet : (b : ℕ) → is_letter b ≡ true → quiet b ≡ true
letter_quiet b h = grind (arith, nat_tests)

pub kind_quiet : (w : Text) (kind : Kind) → kind_of w ≡ Some kind → begins kind ≡ true → Quiet w
kind_quiet [] kind h g = absurd (kind_none kind h)
kind_quiet (b ∷ w) kind h g = ⊎_elim
    (λ (d : is_ascii_digit b ≡ true). digit_quiet b d)
    (λ (d : is_ascii_digit b ≡ false). ⊎_elim
    (λ (l : is_letter b ≡ true). letter_quiet b l)
    (λ (l : is_letter b ≡ false). other_quiet b w (format_of (b ∷ w)) (mark_of (b ∷ w)) kind (λ mark e c. mark_quiet b w mark e c) (rw l at (rw d at h)) g)
    (cases_Bool (is_letter b)))
    (cases_Bool (is_ascii_digit b))

-- ---- first bytes of pieces

abbrev kind_in : Kind → List Token → Kind
kind_in kind [] = kind
kind_in kind (t ∷ ts) = t.kind

from_token : (at : ℕ) (w : Text) (kind : Kind) (ps : List Piece) (u : Token) (us : List Token) → tokens_of at (token w kind ∷ ps) ≡ u ∷ us → (at ≡ u.span.from) × (kind ≡ u.kind)
from_token at w kind ps u us h = (ap (start_of at) h, ap (kind_in kind) h)

-- tokens stand no earlier than the pieces that they are among
from_on : (at : ℕ) (ps : List Piece) (u : Token) (us : List Token) → tokens_of at ps ≡ u ∷ us → at ≤ u.span.from
from_on at [] u us h = absurd (cc)
from_on at (token w kind ∷ ps) u us h = let e = (from_token at w kind ps u us h).0 in omega arith
from_on at (space b ∷ ps) u us h = let e = from_on (at + length (text_of (space b))) ps u us h in omega arith
from_on at (line body ∷ ps) u us h = let e = from_on (at + length (text_of (line body))) ps u us h in omega arith
from_on at (block body ∷ ps) u us h = let e = from_on (at + length (text_of (block body))) ps u us h in omega arith
from_on at (include a b name ∷ ps) u us h = let e = from_on (at + length (text_of (include a b name))) ps u us h in omega arith

-- pieces that begin with such a token
pub pieces_quiet : (ps : List Piece) (rest : Text) (u : Token) (us : List Token) → ArePieces false ps rest → tokens_of 0 ps ≡ u ∷ us → u.span.from ≡ 0 → begins u.kind ≡ true → Quiet (texts ps)
pieces_quiet [] rest u us all h z g = absurd (cc)
pieces_quiet (token w kind ∷ ps) rest u us all h z g =
    let same = (from_token 0 w kind ps u us h).1 in
    quiet_append w (texts ps) (kind_quiet w kind all.0.0 (ap begins same ∙ g))
pieces_quiet (space b ∷ ps) rest u us all h z g = let e = from_on (0 + length (text_of (space b))) ps u us h in absurd (omega arith)
pieces_quiet (line body ∷ ps) rest u us all h z g = let e = from_on (0 + length (text_of (line body))) ps u us h in absurd (omega arith)
pieces_quiet (block body ∷ ps) rest u us all h z g = let e = from_on (0 + length (text_of (block body))) ps u us h in absurd (omega arith)
pieces_quiet (include a b name ∷ ps) rest u us all h z g = let e = from_on (0 + length (text_of (include a b name))) ps u us h in absurd (omega arith)
