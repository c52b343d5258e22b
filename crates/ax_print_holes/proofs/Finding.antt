-- The place of an expression in a token list, and the list with other tokens there.
use Rattle.std.proofs.Common.{◌≡◌, ℕ, List, [], ◌∷◌, ◌++◌, refl, sym, ap, ◌∙◌, subst, append_assoc, append-nil}
use Rattle.std.proofs.lemmas.List.{map-append}
use Rattle.ax_prog.specs.declared.tokens.Token.{Token}
use Rattle.ax_parse_grammar.specs.declared.tree.Expr.{Expr}
use Rattle.ax_parse_grammar.specs.Trees.{span_of}
use Rattle.ax_parse_grammar.specs.Terminals.{extent}
use Rattle.ax_parse_grammar.specs.Expressions.{Spells}
use Rattle.ax_print_holes.specs.Moved.{moved_span, moved_token, moved_tokens}
use Rattle.ax_print_holes.proofs.Following.{Follows, follow_both, moved_follow, follows_by_extent}

-- ---- places

-- the tokens of the place stand in the list
pub data At (hole : List Token) : List Token → Type 0 where
  here : At hole hole
  in_left : {ts : List Token} (us : List Token) → At hole ts → At hole (ts ++ us)
  in_right : {ts : List Token} (us : List Token) → At hole ts → At hole (us ++ ts)

-- the list with other tokens at the place, and all others moved
abbrev pub refill : (f : ℕ → ℕ) (new : List Token) {hole ts : List Token} → At hole ts → List Token
refill f new At.here = new
refill f new (At.in_left us p) = refill f new p ++ moved_tokens f us
refill f new (At.in_right us p) = moved_tokens f us ++ refill f new p

pub refill_follows : (f : ℕ → ℕ) (new : List Token) {hole ts : List Token} → Follows f hole new → (p : At hole ts) → Follows f ts (refill f new p)
refill_follows f new h At.here = h
refill_follows f new h (At.in_left {ts = ts} us p) = follow_both f ts (refill f new p) us (moved_tokens f us) (refill_follows f new h p) (moved_follow f us)
refill_follows f new h (At.in_right {ts = ts} us p) = follow_both f us (moved_tokens f us) ts (refill f new p) (moved_follow f us) (refill_follows f new h p)

-- the list in three parts
pub record Cut {hole ts : List Token} (p : At hole ts) : Type 0 where
  pub front : List Token
  pub back : List Token
  pub joined : ts ≡ front ++ (hole ++ back)
  pub same : (f : ℕ → ℕ) (new : List Token) → refill f new p ≡ moved_tokens f front ++ (new ++ moved_tokens f back)

behind : (a b c d : List Token) → (a ++ (b ++ c)) ++ d ≡ a ++ (b ++ (c ++ d))
behind a b c d = append_assoc a (b ++ c) d ∙ ap (λ (l : List Token). a ++ l) (append_assoc b c d)

pub cut : {hole ts : List Token} (p : At hole ts) → Cut p
cut {hole = hole} At.here = record { front = []; back = []; joined = sym (append-nil hole); same = λ f new. sym (append-nil new) }
cut {hole = hole} (At.in_left us p) =
    let c = cut p in
    record {
      front = c.front;
      back = c.back ++ us;
      joined = ap (λ (l : List Token). l ++ us) c.joined ∙ behind c.front hole c.back us;
      same = λ f new. ap (λ (l : List Token). l ++ moved_tokens f us) (c.same f new) ∙ behind (moved_tokens f c.front) new (moved_tokens f c.back) (moved_tokens f us) ∙ ap (λ (l : List Token). moved_tokens f c.front ++ (new ++ l)) (sym (map-append (moved_token f) c.back us));
    }
cut {hole = hole} (At.in_right us p) =
    let c = cut p in
    record {
      front = us ++ c.front;
      back = c.back;
      joined = ap (λ (l : List Token). us ++ l) c.joined ∙ sym (append_assoc us c.front (hole ++ c.back));
      same = λ f new. ap (λ (l : List Token). moved_tokens f us ++ l) (c.same f new) ∙ sym (append_assoc (moved_tokens f us) (moved_tokens f c.front) (new ++ moved_tokens f c.back)) ∙ ap (λ (l : List Token). l ++ (new ++ moved_tokens f c.back)) (sym (map-append (moved_token f) us c.front));
    }

-- ---- an expression at its place

-- the tokens of an expression, and what the list spells with those of another there
pub record Found (old : Expr) (P : (ℕ → ℕ) → Expr → List Token → Type 0) (ts : List Token) : Type 0 where
  pub hole : List Token
  pub spelled : Spells 0 old hole
  pub stands : extent hole ≡ span_of old
  pub at : At hole ts
  pub filled : (f : ℕ → ℕ) (new : Expr) (us : List Token) → f 0 ≡ 0 → Spells 0 new us → Follows f hole us → P f new (refill f us at)

-- the place in a list around this one
pub within : {old : Expr} {P Q : (ℕ → ℕ) → Expr → List Token → Type 0} {ts : List Token} (all : List Token) (r : Found old P ts) (at : At r.hole all)
    → ((f : ℕ → ℕ) (new : Expr) (us : List Token) → f 0 ≡ 0 → Follows f all (refill f us at) → P f new (refill f us r.at) → Q f new (refill f us at))
    → Found old Q all
within all r at go = record {
  hole = r.hole;
  spelled = r.spelled;
  stands = r.stands;
  at = at;
  filled = λ f new us zero s h. go f new us zero (refill_follows f us h at) (r.filled f new us zero s h);
}

-- the place in the same list
pub also : {old : Expr} {P Q : (ℕ → ℕ) → Expr → List Token → Type 0} {ts : List Token} (r : Found old P ts) → ((f : ℕ → ℕ) (new : Expr) (us : List Token) → P f new us → Q f new us) → Found old Q ts
also {ts = ts} r go = within ts r r.at (λ f new us zero h p. go f new (refill f us r.at) p)

-- ---- an expression has a first token

first_in : (ts us : List Token) (t : Token) → (u : Token) × (vs : List Token) × (ts ++ t ∷ us ≡ u ∷ vs)
first_in [] us t = (t, us, refl)
first_in (u ∷ ts) us t = (u, ts ++ t ∷ us, refl)

pub first_token : {l : ℕ} {x : Expr} {ts : List Token} → Spells l x ts → (u : Token) × (vs : List Token) × (ts ≡ u ∷ vs)
first_token (Spells.name t h) = (t, [], refl)
first_token (Spells.number t h) = (t, [], refl)
first_token (Spells.parens {ts = ts} first last o c p) = (first, ts ++ last ∷ [], refl)
first_token (Spells.index {ts = ts} {us = us} first last le o c p q) = first_in ts (us ++ last ∷ []) first
first_token (Spells.member {ts = ts} dot t le d n p) = first_in ts (t ∷ []) dot
first_token (Spells.arrow {ts = ts} mark t le d n p) = first_in ts (t ∷ []) mark
first_token (Spells.call {ts = ts} {us = us} first last le o c p q) = first_in ts (us ++ last ∷ []) first
first_token (Spells.unary {ts = ts} t le o p) = (t, ts, refl)
first_token (Spells.binary {left = left} {right = right} t le o p q) = first_in left right t
first_token (Spells.cond {test = test} {then = then} {else = else} question colon q k p r v) = first_in test (then ++ colon ∷ else) question

-- tokens of expressions stand where their extents do
pub follows_spelled : (f : ℕ → ℕ) {x y : Expr} {ts us : List Token} → Spells 0 x ts → Spells 0 y us → extent us ≡ moved_span f (extent ts) → Follows f ts us
follows_spelled f {ts = ts} {us = us} p q h =
    let a = first_token p in
    let b = first_token q in
    let e : extent (b.0 ∷ b.1) ≡ moved_span f (extent (a.0 ∷ a.1)) = ap extent (sym b.2) ∙ h ∙ ap (λ (l : List Token). moved_span f (extent l)) a.2 in
    let one : Follows f (a.0 ∷ a.1) (b.0 ∷ b.1) = follows_by_extent f a.0 b.0 a.1 b.1 e in
    subst (λ (l : List Token). Follows f l us) (sym a.2) (subst (λ (l : List Token). Follows f (a.0 ∷ a.1) l) (sym b.2) one)
