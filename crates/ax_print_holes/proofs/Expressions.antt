-- Moved expressions are spelled by their tokens moved alike.
use Rattle.std.proofs.Common.{◌≡◌, ℕ, List, [], ◌∷◌, ◌++◌, map, refl, sym, ap, ◌∙◌, subst}
use Rattle.std.proofs.lemmas.List.{map-append}
use Rattle.ax_prog.specs.declared.tokens.Token.{Token}
use Rattle.ax_parse_grammar.specs.declared.tree.Expr.{Expr}
use Rattle.ax_parse_grammar.specs.declared.tree.Expr.TheVariants as e
use Rattle.ax_parse_grammar.specs.Terminals.{named, extent}
use Rattle.ax_parse_grammar.specs.Expressions.{Spells, SpellArgs, SpellMany}
use Rattle.ax_print_holes.specs.Moved.{moved_token, moved_tokens, moved_expr}
use Rattle.ax_print_holes.proofs.Following.{told_moved}
use Rattle.ax_print_holes.proofs.Layers.{moved-Unary, moved-Binary, moved-Cond, moved-Index, moved-Member, moved-Arrow, moved-Call}

module _ (f : ℕ → ℕ) where
  -- lists of tokens in their parts
  pub two_parts : (ts us : List Token) (t : Token) → moved_tokens f (ts ++ t ∷ us) ≡ moved_tokens f ts ++ moved_token f t ∷ moved_tokens f us
  two_parts ts us t = map-append (moved_token f) ts (t ∷ us)

  pub three_parts : (ts us vs : List Token) (t u : Token) → moved_tokens f (ts ++ t ∷ (us ++ u ∷ vs)) ≡ moved_tokens f ts ++ moved_token f t ∷ (moved_tokens f us ++ moved_token f u ∷ moved_tokens f vs)
  three_parts ts us vs t u = two_parts ts (us ++ u ∷ vs) t ∙ ap (λ (l : List Token). moved_tokens f ts ++ moved_token f t ∷ l) (two_parts us vs u)

  module _ (zero : f 0 ≡ 0) where
    mutual
      pub moved_spells : {l : ℕ} {x : Expr} {ts : List Token} → Spells l x ts → Spells l (moved_expr f x) (moved_tokens f ts)
      moved_spells (Spells.name t h) = Spells.name (moved_token f t) h
      moved_spells (Spells.number t h) = Spells.number (moved_token f t) h
      moved_spells (Spells.parens {l = l} {x = x} {ts = ts} first last o c p) =
          subst (λ (w : List Token). Spells l (moved_expr f x) (moved_token f first ∷ w)) (sym (two_parts ts [] last)) (Spells.parens (moved_token f first) (moved_token f last) o c (moved_spells p))
      moved_spells (Spells.index {l = l} {a = a} {i = i} {ts = ts} {us = us} first last le o c p q) =
          let whole = ts ++ first ∷ (us ++ last ∷ []) in
          subst (λ (x : Expr). Spells l x (moved_tokens f whole)) (sym (moved-Index f (extent whole) a i))
          (told_moved (λ at w. Spells l (e.Index at (moved_expr f a) (moved_expr f i)) w) f whole (moved_tokens f ts ++ moved_token f first ∷ (moved_tokens f us ++ moved_token f last ∷ [])) zero (three_parts ts us [] first last)
          (Spells.index (moved_token f first) (moved_token f last) le o c (moved_spells p) (moved_spells q)))
      moved_spells (Spells.member {l = l} {a = a} {x = x} {ts = ts} dot t le d n p) =
          let whole = ts ++ dot ∷ t ∷ [] in
          subst (λ (x : Expr). Spells l x (moved_tokens f whole)) (sym (moved-Member f (extent whole) a (named t x)))
          (told_moved (λ at w. Spells l (e.Member at (moved_expr f a) (named (moved_token f t) x)) w) f whole (moved_tokens f ts ++ moved_token f dot ∷ moved_token f t ∷ []) zero (two_parts ts (t ∷ []) dot)
          (Spells.member (moved_token f dot) (moved_token f t) le d n (moved_spells p)))
      moved_spells (Spells.arrow {l = l} {a = a} {x = x} {ts = ts} mark t le d n p) =
          let whole = ts ++ mark ∷ t ∷ [] in
          subst (λ (x : Expr). Spells l x (moved_tokens f whole)) (sym (moved-Arrow f (extent whole) a (named t x)))
          (told_moved (λ at w. Spells l (e.Arrow at (moved_expr f a) (named (moved_token f t) x)) w) f whole (moved_tokens f ts ++ moved_token f mark ∷ moved_token f t ∷ []) zero (two_parts ts (t ∷ []) mark)
          (Spells.arrow (moved_token f mark) (moved_token f t) le d n (moved_spells p)))
      moved_spells (Spells.call {l = l} {f = g} {xs = xs} {ts = ts} {us = us} first last le o c p q) =
          let whole = ts ++ first ∷ (us ++ last ∷ []) in
          subst (λ (x : Expr). Spells l x (moved_tokens f whole)) (sym (moved-Call f (extent whole) g xs))
          (told_moved (λ at w. Spells l (e.Call at (moved_expr f g) (map (moved_expr f) xs)) w) f whole (moved_tokens f ts ++ moved_token f first ∷ (moved_tokens f us ++ moved_token f last ∷ [])) zero (three_parts ts us [] first last)
          (Spells.call (moved_token f first) (moved_token f last) le o c (moved_spells p) (moved_arguments q)))
      moved_spells (Spells.unary {l = l} {op = op} {a = a} {ts = ts} t le o p) =
          let whole = t ∷ ts in
          subst (λ (x : Expr). Spells l x (moved_tokens f whole)) (sym (moved-Unary f (extent whole) op a))
          (told_moved (λ at w. Spells l (e.Unary at op (moved_expr f a)) w) f whole (moved_tokens f whole) zero refl
          (Spells.unary (moved_token f t) le o (moved_spells p)))
      moved_spells (Spells.binary {l = l} {op = op} {a = a} {b = b} {left = left} {right = right} t le o p q) =
          let whole = left ++ t ∷ right in
          subst (λ (x : Expr). Spells l x (moved_tokens f whole)) (sym (moved-Binary f (extent whole) op a b))
          (told_moved (λ at w. Spells l (e.Binary at op (moved_expr f a) (moved_expr f b)) w) f whole (moved_tokens f left ++ moved_token f t ∷ moved_tokens f right) zero (two_parts left right t)
          (Spells.binary (moved_token f t) le o (moved_spells p) (moved_spells q)))
      moved_spells (Spells.cond {c = c} {a = a} {b = b} {test = test} {then = then} {else = else} question colon q k p r v) =
          let whole = test ++ question ∷ (then ++ colon ∷ else) in
          subst (λ (x : Expr). Spells 0 x (moved_tokens f whole)) (sym (moved-Cond f (extent whole) c a b))
          (told_moved (λ at w. Spells 0 (e.Cond at (moved_expr f c) (moved_expr f a) (moved_expr f b)) w) f whole (moved_tokens f test ++ moved_token f question ∷ (moved_tokens f then ++ moved_token f colon ∷ moved_tokens f else)) zero (three_parts test then else question colon)
          (Spells.cond (moved_token f question) (moved_token f colon) q k (moved_spells p) (moved_spells r) (moved_spells v)))

      pub moved_arguments : {xs : List Expr} {ts : List Token} → SpellArgs xs ts → SpellArgs (map (moved_expr f) xs) (moved_tokens f ts)
      moved_arguments SpellArgs.nothing = SpellArgs.nothing
      moved_arguments (SpellArgs.some p) = SpellArgs.some (moved_many p)

      pub moved_many : {xs : List Expr} {ts : List Token} → SpellMany xs ts → SpellMany (map (moved_expr f) xs) (moved_tokens f ts)
      moved_many (SpellMany.one p) = SpellMany.one (moved_spells p)
      moved_many (SpellMany.more {x = x} {xs = xs} {ts = ts} {us = us} comma c p q) =
          subst (SpellMany (moved_expr f x ∷ map (moved_expr f) xs)) (sym (two_parts ts us comma)) (SpellMany.more (moved_token f comma) c (moved_spells p) (moved_many q))
