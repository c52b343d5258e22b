-- Moved expressions are spelled by their tokens moved alike, wherever the text's start goes.
use Rattle.std.proofs.Common.{◌≡◌, ℕ, List, [], ◌∷◌, ◌++◌, map, refl, sym, subst}
use Rattle.ax_prog.specs.declared.Span.{Span}
use Rattle.ax_prog.specs.declared.tokens.Token.{Token}
use Rattle.ax_parse_grammar.specs.declared.tree.Expr.{Expr}
use Rattle.ax_parse_grammar.specs.declared.tree.Expr.TheVariants as e
use Rattle.ax_parse_grammar.specs.Terminals.{named, extent}
use Rattle.ax_parse_grammar.specs.Expressions.{Spells, SpellArgs, SpellMany}
use Rattle.ax_print_holes.specs.Moved.{moved_span, moved_token, moved_tokens, moved_expr}
use Rattle.ax_print_holes.proofs.Following.{moved_follow}
use Rattle.ax_print_holes.proofs.Layers.{moved-Unary, moved-Binary, moved-Cond, moved-Index, moved-Member, moved-Arrow, moved-Call}
use Rattle.ax_print_holes.proofs.Expressions.{two_parts, three_parts}

module _ (f : ℕ → ℕ) where
  extent_moves : (ts : List Token) (t : Token) (us : List Token) → extent (moved_tokens f (ts ++ t ∷ us)) ≡ moved_span f (extent (ts ++ t ∷ us))
  extent_moves [] t us = let end = (moved_follow f (t ∷ us)).end 0 in λ i. record { from = f t.span.from; to = end i }
  extent_moves (s ∷ ts) t us = let end = (moved_follow f (s ∷ (ts ++ t ∷ us))).end 0 in λ i. record { from = f s.span.from; to = end i }

  -- what holds of a list and its extent, holds of tokens moved to there, which aren't none
  told_there : (P : Span → List Token → Type 0) (ts : List Token) (t : Token) (us vs : List Token) → moved_tokens f (ts ++ t ∷ us) ≡ vs → P (extent vs) vs → P (moved_span f (extent (ts ++ t ∷ us))) (moved_tokens f (ts ++ t ∷ us))
  told_there P ts t us vs same p =
      let whole = ts ++ t ∷ us in
      subst (λ (at : Span). P at (moved_tokens f whole)) (extent_moves ts t us) (subst (λ (l : List Token). P (extent l) l) (sym same) p)

  mutual
    pub carried_spells : {l : ℕ} {x : Expr} {ts : List Token} → Spells l x ts → Spells l (moved_expr f x) (moved_tokens f ts)
    carried_spells (Spells.name t h) = Spells.name (moved_token f t) h
    carried_spells (Spells.number t h) = Spells.number (moved_token f t) h
    carried_spells (Spells.parens {l = l} {x = x} {ts = ts} first last o c p) =
        subst (λ (w : List Token). Spells l (moved_expr f x) (moved_token f first ∷ w)) (sym (two_parts f ts [] last)) (Spells.parens (moved_token f first) (moved_token f last) o c (carried_spells p))
    carried_spells (Spells.index {l = l} {a = a} {i = i} {ts = ts} {us = us} first last le o c p q) =
        let whole = ts ++ first ∷ (us ++ last ∷ []) in
        subst (λ (x : Expr). Spells l x (moved_tokens f whole)) (sym (moved-Index f (extent whole) a i))
        (told_there (λ at w. Spells l (e.Index at (moved_expr f a) (moved_expr f i)) w) ts first (us ++ last ∷ []) (moved_tokens f ts ++ moved_token f first ∷ (moved_tokens f us ++ moved_token f last ∷ [])) (three_parts f ts us [] first last)
        (Spells.index (moved_token f first) (moved_token f last) le o c (carried_spells p) (carried_spells q)))
    carried_spells (Spells.member {l = l} {a = a} {x = x} {ts = ts} dot t le d n p) =
        let whole = ts ++ dot ∷ t ∷ [] in
        subst (λ (x : Expr). Spells l x (moved_tokens f whole)) (sym (moved-Member f (extent whole) a (named t x)))
        (told_there (λ at w. Spells l (e.Member at (moved_expr f a) (named (moved_token f t) x)) w) ts dot (t ∷ []) (moved_tokens f ts ++ moved_token f dot ∷ moved_token f t ∷ []) (two_parts f ts (t ∷ []) dot)
        (Spells.member (moved_token f dot) (moved_token f t) le d n (carried_spells p)))
    carried_spells (Spells.arrow {l = l} {a = a} {x = x} {ts = ts} mark t le d n p) =
        let whole = ts ++ mark ∷ t ∷ [] in
        subst (λ (x : Expr). Spells l x (moved_tokens f whole)) (sym (moved-Arrow f (extent whole) a (named t x)))
        (told_there (λ at w. Spells l (e.Arrow at (moved_expr f a) (named (moved_token f t) x)) w) ts mark (t ∷ []) (moved_tokens f ts ++ moved_token f mark ∷ moved_token f t ∷ []) (two_parts f ts (t ∷ []) mark)
        (Spells.arrow (moved_token f mark) (moved_token f t) le d n (carried_spells p)))
    carried_spells (Spells.call {l = l} {f = g} {xs = xs} {ts = ts} {us = us} first last le o c p q) =
        let whole = ts ++ first ∷ (us ++ last ∷ []) in
        subst (λ (x : Expr). Spells l x (moved_tokens f whole)) (sym (moved-Call f (extent whole) g xs))
        (told_there (λ at w. Spells l (e.Call at (moved_expr f g) (map (moved_expr f) xs)) w) ts first (us ++ last ∷ []) (moved_tokens f ts ++ moved_token f first ∷ (moved_tokens f us ++ moved_token f last ∷ [])) (three_parts f ts us [] first last)
        (Spells.call (moved_token f first) (moved_token f last) le o c (carried_spells p) (carried_arguments q)))
    carried_spells (Spells.unary {l = l} {op = op} {a = a} {ts = ts} t le o p) =
        let whole = t ∷ ts in
        subst (λ (x : Expr). Spells l x (moved_tokens f whole)) (sym (moved-Unary f (extent whole) op a))
        (told_there (λ at w. Spells l (e.Unary at op (moved_expr f a)) w) [] t ts (moved_tokens f whole) refl
        (Spells.unary (moved_token f t) le o (carried_spells p)))
    carried_spells (Spells.binary {l = l} {op = op} {a = a} {b = b} {left = left} {right = right} t le o p q) =
        let whole = left ++ t ∷ right in
        subst (λ (x : Expr). Spells l x (moved_tokens f whole)) (sym (moved-Binary f (extent whole) op a b))
        (told_there (λ at w. Spells l (e.Binary at op (moved_expr f a) (moved_expr f b)) w) left t right (moved_tokens f left ++ moved_token f t ∷ moved_tokens f right) (two_parts f left right t)
        (Spells.binary (moved_token f t) le o (carried_spells p) (carried_spells q)))
    carried_spells (Spells.cond {c = c} {a = a} {b = b} {test = test} {then = then} {else = else} question colon q k p r v) =
        let whole = test ++ question ∷ (then ++ colon ∷ else) in
        subst (λ (x : Expr). Spells 0 x (moved_tokens f whole)) (sym (moved-Cond f (extent whole) c a b))
        (told_there (λ at w. Spells 0 (e.Cond at (moved_expr f c) (moved_expr f a) (moved_expr f b)) w) test question (then ++ colon ∷ else) (moved_tokens f test ++ moved_token f question ∷ (moved_tokens f then ++ moved_token f colon ∷ moved_tokens f else)) (three_parts f test then else question colon)
        (Spells.cond (moved_token f question) (moved_token f colon) q k (carried_spells p) (carried_spells r) (carried_spells v)))

    carried_arguments : {xs : List Expr} {ts : List Token} → SpellArgs xs ts → SpellArgs (map (moved_expr f) xs) (moved_tokens f ts)
    carried_arguments SpellArgs.nothing = SpellArgs.nothing
    carried_arguments (SpellArgs.some p) = SpellArgs.some (carried_many p)

    carried_many : {xs : List Expr} {ts : List Token} → SpellMany xs ts → SpellMany (map (moved_expr f) xs) (moved_tokens f ts)
    carried_many (SpellMany.one p) = SpellMany.one (carried_spells p)
    carried_many (SpellMany.more {x = x} {xs = xs} {ts = ts} {us = us} comma c p q) =
        subst (SpellMany (moved_expr f x ∷ map (moved_expr f) xs)) (sym (two_parts f ts us comma)) (SpellMany.more (moved_token f comma) c (carried_spells p) (carried_many q))
