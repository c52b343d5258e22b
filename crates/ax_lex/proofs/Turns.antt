-- A turn of the lexer's loop.
use Rattle.std.proofs.Common.{◌≡◌, ◌≤◌, ◌<◌, ℕ, zero, suc, ◌+◌, Bool, true, List, [], ◌∷◌, ◌++◌, length, take, drop, refl, sym, ap, ◌∙◌, subst, arith, append-nil, zero-add, length-append, length-take-le, false, length-drop}
use Rattle.std.proofs.Math.Nat.{suc-add}
use Rattle.std.proofs.lemmas.List.{take-append-drop, drop-drop, take_all, drop_all}
use Rattle.ax_prog.specs.declared.tokens.Token.{Token}
use Rattle.ax_prog.specs.declared.tokens.Kind.{Kind}
use Rattle.ax_lex.specs.declared.LexFault.{LexFault}
use Rattle.ax_lex.specs.declared.LexFault.TheVariants as fault
use Rattle.ax_lex.specs.declared.front.Front.{Front}
use Rattle.ax_lex.specs.declared.front.Front.TheVariants.{Word}
use Rattle.ax_lex.specs.Bytes.{Text}
use Rattle.ax_lex.specs.Pieces.{Piece, token, text_of, IsPiece, fresh_after, fresh_end, texts, ArePieces, token_of, tokens_of, SpellsTokens}
use Rattle.ax_lex.specs.Fronts.{FrontIs, WordIs, LayoutIs}
use Rattle.ax_lex.specs.Faults.{Stuck, Faulty}
use Rattle.ax_lex.proofs.Firsts.{too_many}
use Rattle.ax_lex.proofs.Sequences.{texts-append, fresh_end-append, ArePieces-append, tokens_of-append}

pub take_add : (a n : ℕ) (xs : Text) → take (a + n) xs ≡ take a xs ++ take n (drop a xs)
take_add zero n xs = rw zero-add refl
take_add (suc a) n [] = rw suc-add (take_nil n)
  where
    take_nil : (n : ℕ) → take zero (let e : Text = [] in e) ≡ take n (let e : Text = [] in e)
    take_nil zero = refl
    take_nil (suc n) = refl
take_add (suc a) n (x ∷ xs) = rw suc-add (ap (λ (w : Text). x ∷ w) (take_add a n xs))

-- the bytes before the place are these pieces
pub record SoFar (bytes : Text) (at : ℕ) (fresh : Bool) (tokens : List Token) : Type 0 where
  pub pieces : List Piece
  pub within : at ≤ length bytes
  pub joined : take at bytes ≡ texts pieces
  pub proper : ArePieces true pieces (drop at bytes)
  pub found : tokens ≡ tokens_of 0 pieces
  pub flag : fresh ≡ fresh_end true pieces
  pub few : length tokens ≤ 20000

pub starts : (bytes : Text) → SoFar bytes 0 true []
starts bytes = record { pieces = []; within = omega arith; joined = refl; proper = tt; found = refl; flag = refl; few = omega arith }

pub turn : (bytes : Text) (at n : ℕ) (fresh after : Bool) (tokens : List Token) (p : Piece) → SoFar bytes at fresh tokens → n ≤ length (drop at bytes) → text_of p ≡ take n (drop at bytes) → IsPiece fresh p (drop n (drop at bytes)) → fresh_after fresh p ≡ after → length (tokens ++ token_of at p) ≤ 20000 → SoFar bytes (at + n) after (tokens ++ token_of at p)
turn bytes at n fresh after tokens p s le text is next few =
    let rest = drop (at + n) bytes in
    let dropped : drop n (drop at bytes) ≡ rest = drop-drop n at bytes in
    let split : drop at bytes ≡ texts (p ∷ []) ++ rest = sym (take-append-drop n (drop at bytes)) ∙ ap (λ (w : Text). w ++ drop n (drop at bytes)) (sym text ∙ sym (append-nil (text_of p))) ∙ ap (λ (w : Text). texts (p ∷ []) ++ w) dropped in
    let place : length (texts s.pieces) ≡ at = ap length (sym s.joined) ∙ length-take-le at bytes s.within in
    record {
      pieces = s.pieces ++ p ∷ [];
      within = omega (arith, length-drop at bytes, s.within);
      joined = take_add at n bytes ∙ ap (λ (w : Text). w ++ take n (drop at bytes)) s.joined ∙ ap (λ (w : Text). texts s.pieces ++ w) (sym text ∙ sym (append-nil (text_of p))) ∙ sym (texts-append s.pieces (p ∷ []));
      proper = ArePieces-append true s.pieces (p ∷ []) rest (subst (λ (w : Text). ArePieces true s.pieces w) split s.proper) (subst (λ (f : Bool). IsPiece f p rest) s.flag (subst (λ (w : Text). IsPiece fresh p w) dropped is), tt);
      found = ap (λ (w : List Token). w ++ token_of at p) s.found ∙ ap (λ (j : ℕ). tokens_of 0 s.pieces ++ token_of j p) (sym place ∙ sym (zero-add (length (texts s.pieces)))) ∙ ap (λ (w : List Token). tokens_of 0 s.pieces ++ w) (sym (append-nil (token_of (0 + length (texts s.pieces)) p))) ∙ sym (tokens_of-append 0 s.pieces (p ∷ []));
      flag = sym next ∙ ap (λ (f : Bool). fresh_after f p) s.flag ∙ sym (fresh_end-append true s.pieces (p ∷ []));
      few = few;
    }

pub ends : (bytes : Text) (at : ℕ) (fresh : Bool) (tokens : List Token) → SoFar bytes at fresh tokens → length bytes ≤ at → SpellsTokens bytes tokens
ends bytes at fresh tokens s le = record {
  pieces = s.pieces;
  joined = sym (take_all at bytes le) ∙ s.joined;
  proper = subst (λ (w : Text). ArePieces true s.pieces w) (drop_all at bytes le) s.proper;
  found = s.found;
}

pub stops : (bytes : Text) (at : ℕ) (fresh : Bool) (tokens : List Token) (why : LexFault) → SoFar bytes at fresh tokens → Stuck at fresh (length tokens) (drop at bytes) why → Faulty bytes why
stops bytes at fresh tokens why s stuck =
    let place : at ≡ length (texts s.pieces) = sym (length-take-le at bytes s.within) ∙ ap length s.joined in
    record {
      pieces = s.pieces;
      rest = drop at bytes;
      joined = sym (take-append-drop at bytes) ∙ ap (λ (w : Text). w ++ drop at bytes) s.joined;
      proper = s.proper;
      few = subst (λ (w : List Token). length w ≤ 20000) s.found s.few;
      stuck = subst (λ (w : List Token). Stuck (length (texts s.pieces)) (fresh_end true s.pieces) (length w) (drop at bytes) why) s.found
          (subst (λ (f : Bool). Stuck (length (texts s.pieces)) f (length tokens) (drop at bytes) why) s.flag
          (subst (λ (j : ℕ). Stuck j fresh (length tokens) (drop at bytes) why) place stuck));
    }

pub turn_layout : (bytes : Text) (at n : ℕ) (fresh after : Bool) (tokens : List Token) → SoFar bytes at fresh tokens → LayoutIs fresh n after (drop at bytes) → SoFar bytes (at + n) after tokens
turn_layout bytes at n fresh after tokens s h =
    let same : tokens ++ token_of at h.p ≡ tokens = ap (λ (w : List Token). tokens ++ w) (h.silent at) ∙ append-nil tokens in
    subst (λ (w : List Token). SoFar bytes (at + n) after w) same (turn bytes at n fresh after tokens h.p s h.within h.text h.piece h.goes (subst (λ (w : List Token). length w ≤ 20000) (sym same) s.few))

pub turn_token : (bytes : Text) (at n : ℕ) (fresh : Bool) (tokens new : List Token) (kind : Kind) → SoFar bytes at fresh tokens → WordIs kind n (drop at bytes) → length tokens < 20000 → new ≡ tokens ++ record { kind = kind; span = record { from = at; to = at + n } } ∷ [] → SoFar bytes (at + n) false new
turn_token bytes at n fresh tokens new kind s h lt is =
    let text = take n (drop at bytes) in
    let count : length text ≡ n = length-take-le n (drop at bytes) h.within in
    let made : SoFar bytes (at + n) false (tokens ++ record { kind = kind; span = record { from = at; to = at + length text } } ∷ []) = turn bytes at n fresh false tokens (token text kind) s h.within refl h.piece refl (omega (arith, length-append tokens (let t : Token = record { kind = kind; span = record { from = at; to = at + length text } } in t ∷ []))) in
    let same : tokens ++ record { kind = kind; span = record { from = at; to = at + length text } } ∷ [] ≡ new = ap (λ (j : ℕ). let t : Token = record { kind = kind; span = record { from = at; to = at + j } } in tokens ++ t ∷ []) count ∙ sym is in
    subst (λ (w : List Token). SoFar bytes (at + n) false w) same made

-- the token that stands next is one too many
pub full : (bytes : Text) (at n : ℕ) (fresh : Bool) (tokens : List Token) (kind : Kind) (found : Front) (rest : Text) → SoFar bytes at fresh tokens → rest ≡ drop at bytes → FrontIs fresh found rest → found ≡ Word kind n → 20000 ≤ length tokens → Faulty bytes (fault.TooManyTokens at)
full bytes at n fresh tokens kind found rest s there is word le =
    let next : WordIs kind n (drop at bytes) = subst (λ (x : Front). FrontIs fresh x (drop at bytes)) word (subst (λ (w : Text). FrontIs fresh found w) there is) in
    stops bytes at fresh tokens (fault.TooManyTokens at) s (too_many (drop at bytes) at (length tokens) n fresh kind next le)
