-- The tokens of an expression without parentheses around it, and of its parts.
use Rattle.std.proofs.Common.{◌≡◌, ℕ, List, [], ◌∷◌, ◌++◌, ◌⊎◌, inl, inr, ⊎_elim, refl, sym, ap, ◌∙◌, subst, arith, append_assoc, append-nil}
use Rattle.ax_prog.specs.declared.Span.{Span}
use Rattle.ax_prog.specs.declared.Bin.{Bin}
use Rattle.ax_prog.specs.declared.tokens.Token.{Token}
use Rattle.ax_parse_grammar.specs.declared.tree.Prefix.{Prefix}
use Rattle.ax_parse_grammar.specs.declared.tree.Expr.{Expr, Name, Number, Unary', Binary', Cond', Index', Member', Arrow', Call'}
use Rattle.ax_parse_grammar.specs.declared.tree.Expr.TheVariants as e
use Rattle.ax_parse_grammar.specs.declared.tree.Expr.TheBlock.{more_of-Expr, end_of-Expr, shape-the_row-Expr-0, hidden-the_row-Expr-0}
use Rattle.ax_parse_grammar.specs.Trees.{span_of}
use Rattle.ax_parse_grammar.specs.Terminals.{extent}
use Rattle.ax_parse_grammar.specs.Expressions.{Spells}
use Rattle.ax_print_fills.specs.Written.{IsPartOf}
use Rattle.ax_print_back.proofs.Levels.{top}
use denote.Hole.Carrier

-- Among the tokens a stretch spells the expression with no parentheses around it.
pub record Bare (b : Expr) (ts : List Token) : Type 0 where
  pub front : List Token
  pub first : Token
  pub more : List Token
  pub back : List Token
  pub joined : ts ≡ front ++ ((first ∷ more) ++ back)
  pub spelled : Spells (top b) b (first ∷ more)
  pub stands : extent (first ∷ more) ≡ span_of b

-- among more tokens
pub among : {b : Expr} {ts : List Token} (us vs ws : List Token) → ws ≡ us ++ (ts ++ vs) → Bare b ts → Bare b ws
among us vs ws h r = record {
  front = us ++ r.front;
  first = r.first;
  more = r.more;
  back = r.back ++ vs;
  joined = h ∙ ap (λ (l : List Token). us ++ (l ++ vs)) r.joined ∙ simp append_assoc;
  spelled = r.spelled;
  stands = r.stands;
}

-- all of the tokens
all_of : (b : Expr) (ts : List Token) (t : Token) (us : List Token) → Spells (top b) b (ts ++ t ∷ us) → extent (ts ++ t ∷ us) ≡ span_of b → Bare b (ts ++ t ∷ us)
all_of b [] t us p h = record { front = []; first = t; more = us; back = []; joined = ap (λ (l : List Token). t ∷ l) (sym (append-nil us)); spelled = p; stands = h }
all_of b (s ∷ ts) t us p h = record { front = []; first = s; more = ts ++ t ∷ us; back = []; joined = ap (λ (l : List Token). s ∷ l) (sym (append-nil (ts ++ t ∷ us))); spelled = p; stands = h }

pub bare : {l : ℕ} {a : Expr} {ts : List Token} → Spells l a ts → Bare a ts
bare (Spells.name {x = x} t h) = all_of (e.Name t.span x) [] t [] (Spells.name t h) refl
bare (Spells.number {n = n} t h) = all_of (e.Number t.span n) [] t [] (Spells.number t h) refl
bare (Spells.parens {ts = ts} first last o c p) = among (first ∷ []) (last ∷ []) (first ∷ (ts ++ last ∷ [])) refl (bare p)
bare (Spells.index {a = a} {i = i} {ts = ts} {us = us} first last le o c p q) =
    let b = e.Index (extent (ts ++ first ∷ (us ++ last ∷ []))) a i in
    all_of b ts first (us ++ last ∷ []) (Spells.index first last (omega arith) o c p q) refl
bare (Spells.member {a = a} {x = x} {ts = ts} dot t le d n p) = all_of _ ts dot (t ∷ []) (Spells.member dot t (omega arith) d n p) refl
bare (Spells.arrow {a = a} {x = x} {ts = ts} mark t le d n p) = all_of _ ts mark (t ∷ []) (Spells.arrow mark t (omega arith) d n p) refl
bare (Spells.call {f = g} {xs = xs} {ts = ts} {us = us} first last le o c p q) = all_of _ ts first (us ++ last ∷ []) (Spells.call first last (omega arith) o c p q) refl
bare (Spells.unary {op = op} {a = a} {ts = ts} t le o p) = all_of _ [] t ts (Spells.unary t (omega arith) o p) refl
bare (Spells.binary {op = op} {a = a} {b = b} {left = left} {right = right} t le o p q) = all_of _ left t right (Spells.binary t (omega arith) o p q) refl
bare (Spells.cond {c = c} {a = a} {b = b} {test = test} {then = then} {else = else} question colon q k p r v) = all_of _ test question (then ++ colon ∷ else) (Spells.cond question colon q k p r v) refl

-- ---- parts

-- it is the expression, or a part of an operand
abbrev Under : Expr → Expr → Type 0
Under b (Name at x) = ⊥
Under b (Number at n) = ⊥
Under b (Unary' at op s (more_of-Expr a end_of-Expr)) = IsPartOf b a
Under b (Binary' at op s (more_of-Expr a end_of-Expr) t (more_of-Expr c end_of-Expr)) = IsPartOf b a ⊎ IsPartOf b c
Under b (Cond' at s (more_of-Expr c end_of-Expr) t (more_of-Expr a end_of-Expr) u (more_of-Expr d end_of-Expr)) = IsPartOf b c ⊎ (IsPartOf b a ⊎ IsPartOf b d)
Under b (Index' at s row t row2) = ⊥
Under b (Member' at s row x) = ⊥
Under b (Arrow' at s row x) = ⊥
Under b (Call' at s row t row2) = ⊥

under : {a : Expr} (b : Expr) → IsPartOf b a → (b ≡ a) ⊎ Under b a
unfolding shape-the_row-Expr-0 hidden-the_row-Expr-0 Carrier.hidden
under b IsPartOf.whole = inl refl
under b (IsPartOf.operand q) = inr q
under b (IsPartOf.left c q) = inr (inl q)
under b (IsPartOf.right a q) = inr (inr q)
under b (IsPartOf.test a d q) = inr (inl q)
under b (IsPartOf.first c d q) = inr (inr (inl q))
under b (IsPartOf.second c a q) = inr (inr (inr q))

under_unary : {b : Expr} (at : Span) (op : Prefix) (a : Expr) → IsPartOf b (e.Unary at op a) → (b ≡ e.Unary at op a) ⊎ IsPartOf b a
unfolding shape-the_row-Expr-0 hidden-the_row-Expr-0 Carrier.hidden
under_unary {b = b} at op a q = under b q

under_binary : {b : Expr} (at : Span) (op : Bin) (a c : Expr) → IsPartOf b (e.Binary at op a c) → (b ≡ e.Binary at op a c) ⊎ (IsPartOf b a ⊎ IsPartOf b c)
unfolding shape-the_row-Expr-0 hidden-the_row-Expr-0 Carrier.hidden
under_binary {b = b} at op a c q = under b q

under_cond : {b : Expr} (at : Span) (c a d : Expr) → IsPartOf b (e.Cond at c a d) → (b ≡ e.Cond at c a d) ⊎ (IsPartOf b c ⊎ (IsPartOf b a ⊎ IsPartOf b d))
unfolding shape-the_row-Expr-0 hidden-the_row-Expr-0 Carrier.hidden
under_cond {b = b} at c a d q = under b q

itself : {l : ℕ} {a : Expr} {ts : List Token} (b : Expr) → Spells l a ts → b ≡ a → Bare b ts
itself {ts = ts} b p same = subst (λ (c : Expr). Bare c ts) (sym same) (bare p)

-- the tokens of a part stand among those of the whole
pub part : {l : ℕ} {a : Expr} {ts : List Token} (b : Expr) → Spells l a ts → IsPartOf b a → Bare b ts
part b (Spells.name t h) g = ⊎_elim (itself b (Spells.name {l = 0} t h)) (λ none. absurd none) (under b g)
part b (Spells.number t h) g = ⊎_elim (itself b (Spells.number {l = 0} t h)) (λ none. absurd none) (under b g)
part b (Spells.parens {ts = ts} first last o c p) g = among (first ∷ []) (last ∷ []) (first ∷ (ts ++ last ∷ [])) refl (part b p g)
part b (Spells.index first last le o c p q) g = ⊎_elim (itself b (Spells.index first last le o c p q)) (λ none. absurd none) (under b g)
part b (Spells.member dot t le d n p) g = ⊎_elim (itself b (Spells.member dot t le d n p)) (λ none. absurd none) (under b g)
part b (Spells.arrow mark t le d n p) g = ⊎_elim (itself b (Spells.arrow mark t le d n p)) (λ none. absurd none) (under b g)
part b (Spells.call first last le o c p q) g = ⊎_elim (itself b (Spells.call first last le o c p q)) (λ none. absurd none) (under b g)
part b (Spells.unary {op = op} {a = a} {ts = ts} t le o p) g =
    ⊎_elim (itself b (Spells.unary t le o p))
    (λ h. among (t ∷ []) [] (t ∷ ts) (ap (λ (l : List Token). t ∷ l) (sym (append-nil ts))) (part b p h))
    (under_unary (extent (t ∷ ts)) op a g)
part b (Spells.binary {op = op} {a = a} {b = c} {left = left} {right = right} t le o p q) g =
    let whole = left ++ t ∷ right in
    ⊎_elim (itself b (Spells.binary t le o p q))
    (λ h. ⊎_elim (λ i. among [] (t ∷ right) whole refl (part b p i)) (λ i. among (left ++ t ∷ []) [] whole (in_back left t right) (part b q i)) h)
    (under_binary (extent whole) op a c g)
  where
    in_back : (us : List Token) (t : Token) (vs : List Token) → us ++ t ∷ vs ≡ (us ++ t ∷ []) ++ (vs ++ [])
    in_back us t vs = ap (λ (l : List Token). us ++ t ∷ l) (sym (append-nil vs)) ∙ sym (append_assoc us (t ∷ []) (vs ++ []))
part b (Spells.cond {c = c} {a = a} {b = d} {test = test} {then = then} {else = else} question colon q k p r v) g =
    let whole = test ++ question ∷ (then ++ colon ∷ else) in
    ⊎_elim (itself b (Spells.cond question colon q k p r v))
    (λ h. ⊎_elim (λ i. among [] (question ∷ (then ++ colon ∷ else)) whole refl (part b p i))
    (λ i. ⊎_elim (λ j. among (test ++ question ∷ []) (colon ∷ else) whole (in_middle test question (then ++ colon ∷ else)) (part b r j)) (λ j. among (test ++ question ∷ (then ++ colon ∷ [])) [] whole (in_end test question then colon else) (part b v j)) i) h)
    (under_cond (extent whole) c a d g)
  where
    in_middle : (us : List Token) (t : Token) (vs : List Token) → us ++ t ∷ vs ≡ (us ++ t ∷ []) ++ vs
    in_middle us t vs = sym (append_assoc us (t ∷ []) vs)

    in_end : (us : List Token) (t : Token) (vs : List Token) (u : Token) (ws : List Token) → us ++ t ∷ (vs ++ u ∷ ws) ≡ (us ++ t ∷ (vs ++ u ∷ [])) ++ (ws ++ [])
    in_end us t vs u ws = simp (append_assoc, append-nil)
