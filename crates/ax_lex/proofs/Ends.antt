-- What a space, a parenthesis or another byte does behind pieces.
use Rattle.std.proofs.Common.{◌≡◌, ℕ, Bool, true, false, not, ◌&&◌, ◌||◌, eqb, ltb, List, [], ◌∷◌, ◌++◌, length, drop, get_or, Some, None, refl, sym, ap, ◌∙◌, arith, ⊎_elim}
use Rattle.std.specs.List.{list_all}
use Rattle.std.proofs.lemmas.Bool.{cases_Bool, and_right, or_cases, eqb-true}
use Rattle.std.proofs.lemmas.Option.{none-some}
use Rattle.ax_prog.specs.declared.tokens.Mark.{Mark}
use Rattle.ax_prog.specs.declared.tokens.Mark.TheVariants as m
use Rattle.ax_prog.specs.declared.tokens.Kind.{Kind}
use Rattle.ax_prog.specs.declared.tokens.Kind.TheVariants as k
use Rattle.ax_lex.specs.Bytes.{Text, is_word, same, last_of, AtHead}
use Rattle.ax_lex.specs.Tokens.{marks, is_hex, mark_of, format_of, continues, kind_of}
use Rattle.ax_lex.specs.Pieces.{Piece, space, line, block, include, token, fresh_after, IsPiece, texts, ArePieces}
use Rattle.ax_lex.specs.Splices.{is_end}
use Rattle.ax_lex.proofs.Lookups.{lookup_none}
use Rattle.ax_lex.proofs.Sequences.{ArePieces-append, ArePieces-parts}
use Rattle.ax_lex.proofs.Unique.{sort_of, kind_sort}

abbrev has : ℕ → Text → Bool
has c [] = false
has c (b ∷ bs) = eqb b c || has c bs

-- the byte stands nowhere but first
abbrev only_first : ℕ → Text → Bool
only_first c w = not (has c (drop 1 w))

-- what begins with the byte is the byte alone
abbrev alone : ℕ → Text → Bool
alone c w = not (eqb (get_or w 0 0) c && ltb 1 (length w))

has_last : (w : Text) (c : ℕ) → has c (w ++ c ∷ []) ≡ true
has_last [] c = rw eq-eqb_self refl
  where
    eq-eqb_self : eqb c c ≡ true
    eq-eqb_self = grind arith
has_last (b ∷ bs) c = rw (has_last bs c) (or_true (eqb b c))
  where
    or_true : (x : Bool) → (x || true) ≡ true
    or_true true = refl
    or_true false = refl

no_mark_with : (c a : ℕ) (w : Text) → list_all (λ (p : Text × Mark). only_first c p.0) marks ≡ true → mark_of (a ∷ (w ++ c ∷ [])) ≡ None
unfolding mark_of
no_mark_with c a w all = lookup_none (only_first c) marks (a ∷ (w ++ c ∷ [])) all (ap not (has_last w c))

pub kind_none : (kind : Kind) → kind_of [] ≡ Some kind → ⊥
unfolding format_of mark_of
kind_none kind h = none-some kind h

ends_tokens : (c : ℕ) → list_all (λ (p : Text × Mark). only_first c p.0) marks ≡ true → is_word c ≡ false → (eqb c 43 || eqb c 45) ≡ false → (eqb c 47 || eqb c 42) ≡ false → (w : Text) (kind : Kind) → kind_of w ≡ Some kind → continues w c ≡ false
ends_tokens c all word sign slash [] kind h = absurd (kind_none kind h)
ends_tokens c all word sign slash (a ∷ w) kind h =
    ⊎_elim
    (λ (t : is_word a ≡ true). rw t (rw word (rw sign (and_right (is_hex (a ∷ w) && (eqb (last_of (a ∷ w)) 101 || eqb (last_of (a ∷ w)) 69)) false refl))))
    (λ (t : is_word a ≡ false). rw t (rw (no_mark_with c a w all) (rw slash (and_right (same (a ∷ w) (47 ∷ [])) false refl))))
    (cases_Bool (is_word a))

pub continues_open : (w : Text) (kind : Kind) → kind_of w ≡ Some kind → continues w 40 ≡ false
continues_open = ends_tokens 40 refl refl refl refl

-- a space and `)` end each token
pub continues_end : (b : ℕ) → is_end b ≡ true → (w : Text) (kind : Kind) → kind_of w ≡ Some kind → continues w b ≡ false
continues_end b end w kind h = ⊎_elim
    (λ (t : eqb b 32 ≡ true). ap (continues w) (eqb-true b 32 t) ∙ ends_tokens 32 refl refl refl refl w kind h)
    (λ (t : eqb b 41 ≡ true). ap (continues w) (eqb-true b 41 t) ∙ ends_tokens 41 refl refl refl refl w kind h)
    (or_cases (eqb b 32) (eqb b 41) end)

no_mark_open : (b : ℕ) → mark_of (40 ∷ b ∷ []) ≡ None
unfolding mark_of
no_mark_open b = lookup_none (alone 40) marks (40 ∷ b ∷ []) refl refl

no_mark_close : (b : ℕ) → mark_of (41 ∷ b ∷ []) ≡ None
unfolding mark_of
no_mark_close b = lookup_none (alone 41) marks (41 ∷ b ∷ []) refl refl

at_head : (x : Text) (P : ℕ → Type 0) → ((b : ℕ) → P b) → AtHead x P
at_head [] P h = tt
at_head (b ∷ x) P h = h b

pub continues_from_open : (b : ℕ) → continues (40 ∷ []) b ≡ false
continues_from_open b = rw (no_mark_open b) refl

pub continues_from_close : (b : ℕ) → continues (41 ∷ []) b ≡ false
continues_from_close b = rw (no_mark_close b) refl

pub open_piece : (f : Bool) (rest : Text) → IsPiece f (token (40 ∷ []) (k.Mark m.OpenRound)) rest
unfolding mark_of format_of
open_piece f rest = (refl, at_head rest (λ b. continues (40 ∷ []) b ≡ false) continues_from_open)

pub close_piece : (f : Bool) (rest : Text) → IsPiece f (token (41 ∷ []) (k.Mark m.CloseRound)) rest
unfolding mark_of format_of
close_piece f rest = (refl, at_head rest (λ b. continues (41 ∷ []) b ≡ false) continues_from_close)

-- ---- what stands behind pieces

piece_before_open : (f : Bool) (p : Piece) (a : Text) (b : ℕ) (x y : Text) → (b ≡ 10 → ⊥) → IsPiece f p (a ++ b ∷ x) → IsPiece f p (a ++ 40 ∷ y)
piece_before_open f (space c) a b x y ne h = h
piece_before_open f (block body) a b x y ne h = h
piece_before_open f (include c d name) a b x y ne h = h
piece_before_open f (line body) [] b x y ne h = absurd (ne h.1.0)
piece_before_open f (line body) (c ∷ a) b x y ne h = h
piece_before_open f (token w kind) [] b x y ne h = (h.0, continues_open w kind h.0)
piece_before_open f (token w kind) (c ∷ a) b x y ne h = h

-- pieces before a byte other than a line feed stay pieces before `(`
pub pieces_before_open : (f : Bool) (ps : List Piece) (b : ℕ) (x y : Text) → (b ≡ 10 → ⊥) → ArePieces f ps (b ∷ x) → ArePieces f ps (40 ∷ y)
pieces_before_open f [] b x y ne h = tt
pieces_before_open f (p ∷ ps) b x y ne h = (piece_before_open f p (texts ps) b x y ne h.0, pieces_before_open (fresh_after f p) ps b x y ne h.1)

piece_same_head : (f : Bool) (p : Piece) (a : Text) (b : ℕ) (x y : Text) → IsPiece f p (a ++ b ∷ x) → IsPiece f p (a ++ b ∷ y)
piece_same_head f (space c) a b x y h = h
piece_same_head f (block body) a b x y h = h
piece_same_head f (include c d name) a b x y h = h
piece_same_head f (line body) [] b x y h = h
piece_same_head f (line body) (c ∷ a) b x y h = h
piece_same_head f (token w kind) [] b x y h = h
piece_same_head f (token w kind) (c ∷ a) b x y h = h

-- only the first byte behind pieces matters
pieces_same_head : (f : Bool) (ps : List Piece) (b : ℕ) (x y : Text) → ArePieces f ps (b ∷ x) → ArePieces f ps (b ∷ y)
pieces_same_head f [] b x y h = tt
pieces_same_head f (p ∷ ps) b x y h = (piece_same_head f p (texts ps) b x y h.0, pieces_same_head (fresh_after f p) ps b x y h.1)

-- pieces that end with a token stay pieces before what does not make it longer
pub pieces_before_end : (f : Bool) (ps : List Piece) (w : Text) (kind : Kind) (x y : Text) → ArePieces f (ps ++ token w kind ∷ []) x → AtHead y (λ b. continues w b ≡ false) → ArePieces f (ps ++ token w kind ∷ []) y
pieces_before_end f ps [] kind x y h ends = absurd (kind_none kind (ArePieces-parts f ps (token [] kind ∷ []) x h).1.0.0)
pieces_before_end f ps (c ∷ w) kind x y h ends =
    let parts = ArePieces-parts f ps (token (c ∷ w) kind ∷ []) x h in
    ArePieces-append f ps (token (c ∷ w) kind ∷ []) y (pieces_same_head f ps c ((w ++ []) ++ x) ((w ++ []) ++ y) parts.0) ((parts.1.0.0, ends), tt)

pub token_begins : (w : Text) (kind : Kind) → kind_of w ≡ Some kind → (b : ℕ) × (x : Text) × (w ≡ b ∷ x) × (b ≡ 10 → ⊥)
token_begins [] kind h = absurd (kind_none kind h)
token_begins (b ∷ x) kind h = (b, x, refl, λ feed. not_feed (kind_sort (b ∷ x) kind [] h tt) feed)
  where
    not_feed : sort_of (b ∷ (x ++ [])) ≡ 4 → b ≡ 10 → ⊥
    not_feed four feed = let e : 0 ≡ 4 = sym (ap (λ (c : ℕ). sort_of (c ∷ (x ++ []))) feed) ∙ four in absurd (omega (arith, e))
