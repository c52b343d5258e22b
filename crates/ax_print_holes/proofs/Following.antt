-- Tokens that stand where others move to.
use Rattle.std.proofs.Common.{◌≡◌, ℕ, List, [], ◌∷◌, ◌++◌, map, refl, sym, ap, ◌∙◌, subst}
use Rattle.ax_prog.specs.declared.Span.{Span}
use Rattle.ax_prog.specs.declared.tokens.Token.{Token}
use Rattle.ax_parse_grammar.specs.declared.terminals.Terminal.{Terminal}
use Rattle.ax_parse_grammar.specs.Terminals.{Are, end_of, extent}
use Rattle.ax_print_holes.specs.Moved.{moved_span, moved_tokens}

-- the start of the first token
abbrev pub start_of : ℕ → List Token → ℕ
start_of at [] = at
start_of at (t ∷ ts) = t.span.from

start_append : (at : ℕ) (ts us : List Token) → start_of at (ts ++ us) ≡ start_of (start_of at us) ts
start_append at [] us = refl
start_append at (t ∷ ts) us = refl

end_append : (at : ℕ) (ts us : List Token) → end_of at (ts ++ us) ≡ end_of (end_of at ts) us
end_append at [] us = refl
end_append at (t ∷ ts) us = end_append t.span.to ts us

extent_is : (ts : List Token) → extent ts ≡ record { from = start_of 0 ts; to = end_of 0 ts }
extent_is [] = refl
extent_is (t ∷ ts) = refl

span_is : (a b c d : ℕ) → a ≡ b → c ≡ d → (let s : Span = record { from = a; to = c } in s) ≡ record { from = b; to = d }
span_is a b c d p q = λ i. record { from = p i; to = q i }

-- The second list stands where the first one moves to.
pub record Follows (f : ℕ → ℕ) (ts us : List Token) : Type 0 where
  pub start : (at : ℕ) → start_of (f at) us ≡ f (start_of at ts)
  pub end : (at : ℕ) → end_of (f at) us ≡ f (end_of at ts)

pub follow_both : (f : ℕ → ℕ) (a b c d : List Token) → Follows f a b → Follows f c d → Follows f (a ++ c) (b ++ d)
follow_both f a b c d p q = record {
  start = λ at. start_append (f at) b d ∙ ap (λ (n : ℕ). start_of n b) (q.start at) ∙ p.start (start_of at c) ∙ ap f (sym (start_append at a c));
  end = λ at. end_append (f at) b d ∙ ap (λ (n : ℕ). end_of n d) (p.end at) ∙ q.end (end_of at a) ∙ ap f (sym (end_append at a c));
}

moved_start : (f : ℕ → ℕ) (ts : List Token) (at : ℕ) → start_of (f at) (moved_tokens f ts) ≡ f (start_of at ts)
moved_start f [] at = refl
moved_start f (t ∷ ts) at = refl

moved_end : (f : ℕ → ℕ) (ts : List Token) (at : ℕ) → end_of (f at) (moved_tokens f ts) ≡ f (end_of at ts)
moved_end f [] at = refl
moved_end f (t ∷ ts) at = moved_end f ts t.span.to

pub moved_follow : (f : ℕ → ℕ) (ts : List Token) → Follows f ts (moved_tokens f ts)
moved_follow f ts = record { start = moved_start f ts; end = moved_end f ts }

pub extent_follows : (f : ℕ → ℕ) (ts us : List Token) → f 0 ≡ 0 → Follows f ts us → extent us ≡ moved_span f (extent ts)
extent_follows f ts us zero h =
    let start : start_of 0 us ≡ f (start_of 0 ts) = ap (λ (n : ℕ). start_of n us) (sym zero) ∙ h.start 0 in
    let end : end_of 0 us ≡ f (end_of 0 ts) = ap (λ (n : ℕ). end_of n us) (sym zero) ∙ h.end 0 in
    extent_is us ∙ span_is (start_of 0 us) (f (start_of 0 ts)) (end_of 0 us) (f (end_of 0 ts)) start end ∙ ap (moved_span f) (sym (extent_is ts))

-- lists of tokens that aren't empty stand where their extents do
pub follows_by_extent : (f : ℕ → ℕ) (t u : Token) (ts us : List Token) → extent (u ∷ us) ≡ moved_span f (extent (t ∷ ts)) → Follows f (t ∷ ts) (u ∷ us)
follows_by_extent f t u ts us h = record { start = λ at. ap (λ (s : Span). s.from) h; end = λ at. ap (λ (s : Span). s.to) h }

-- What holds of a list and its extent, holds of the span that the extent is.
pub told : (P : Span → List Token → Type 0) (f : ℕ → ℕ) {ts us : List Token} → f 0 ≡ 0 → Follows f ts us → P (extent us) us → P (moved_span f (extent ts)) us
told P f {ts = ts} {us = us} zero h p = subst (λ (at : Span). P at us) (extent_follows f ts us zero h) p

-- the same of the list in another form
pub told_as : (P : Span → List Token → Type 0) (f : ℕ → ℕ) {ts us : List Token} (vs : List Token) → f 0 ≡ 0 → Follows f ts us → vs ≡ us → P (extent vs) vs → P (moved_span f (extent ts)) us
told_as P f vs zero h same p = told P f zero h (subst (λ (l : List Token). P (extent l) l) same p)

pub extent_moved : (f : ℕ → ℕ) (ts us : List Token) → f 0 ≡ 0 → moved_tokens f ts ≡ us → extent us ≡ moved_span f (extent ts)
extent_moved f ts us zero same = ap extent (sym same) ∙ extent_follows f ts (moved_tokens f ts) zero (moved_follow f ts)

pub told_moved : (P : Span → List Token → Type 0) (f : ℕ → ℕ) (ts us : List Token) → f 0 ≡ 0 → moved_tokens f ts ≡ us → P (extent us) us → P (moved_span f (extent ts)) (moved_tokens f ts)
told_moved P f ts us zero same p =
    told P f zero (moved_follow f ts) (subst (λ (l : List Token). P (extent l) l) (sym same) p)

-- ---- the same terminals

moved_kinds : (f : ℕ → ℕ) (ts : List Token) → map (λ t. t.kind) (moved_tokens f ts) ≡ map (λ t. t.kind) ts
moved_kinds f [] = refl
moved_kinds f (t ∷ ts) = ap (λ l. t.kind ∷ l) (moved_kinds f ts)

pub moved_are : (f : ℕ → ℕ) (whats : List Terminal) (ts : List Token) → Are whats ts → Are whats (moved_tokens f ts)
moved_are f whats ts h = moved_kinds f ts ∙ h
