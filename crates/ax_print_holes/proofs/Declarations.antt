-- Moved declarations are spelled by their tokens moved alike.
use Rattle.std.proofs.Common.{◌≡◌, ℕ, Bool, List, [], ◌∷◌, ◌++◌, map, refl, sym, ap, ◌∙◌, subst}
use Rattle.std.proofs.lemmas.List.{map-append}
use Rattle.ax_prog.specs.declared.Span.{Span}
use Rattle.ax_prog.specs.declared.tokens.Token.{Token}
use Rattle.ax_parse_grammar.specs.declared.tree.Base.{Base}
use Rattle.ax_parse_grammar.specs.declared.tree.Size.{Size}
use Rattle.ax_parse_grammar.specs.declared.tree.Signed.{Signed}
use Rattle.ax_parse_grammar.specs.declared.tree.Declarator.{Declarator}
use Rattle.ax_parse_grammar.specs.declared.tree.Initialiser.TheVariants as init
use Rattle.ax_parse_grammar.specs.declared.tree.Declared.{Declared}
use Rattle.ax_parse_grammar.specs.declared.tree.Decl.{Decl}
use Rattle.ax_parse_grammar.specs.Terminals.{named, extent}
use Rattle.ax_parse_grammar.specs.Declarations.{SpellAll, SpellSeparated, SpellsBase, SpellStars, SpellSizes, SpellsDeclarator, SpellsSigned, SpellNumbers, SpellsDeclared, SpellsDecl}
use Rattle.ax_print_holes.specs.Moved.{moved_span, moved_token, moved_tokens, moved_expr, moved_base, moved_size, moved_declarator, moved_signed, moved_declared, moved_decl}
use Rattle.ax_print_holes.proofs.Following.{extent_moved, told_moved}
use Rattle.ax_print_holes.proofs.Expressions.{two_parts, moved_spells}

module _ (f : ℕ → ℕ) where
  pub moved_all : {A : Type 0} {P : A → List Token → Type 0} (g : A → A) → ((x : A) (ts : List Token) → P x ts → P (g x) (moved_tokens f ts)) → {xs : List A} {ts : List Token} → SpellAll P xs ts → SpellAll P (map g xs) (moved_tokens f ts)
  moved_all g go SpellAll.none = SpellAll.none
  moved_all {P = P} g go (SpellAll.more {x = x} {xs = xs} {ts = ts} {us = us} p q) =
      subst (SpellAll P (g x ∷ map g xs)) (sym (map-append (moved_token f) ts us)) (SpellAll.more (go x ts p) (moved_all g go q))

  pub moved_separated : {A : Type 0} {P : A → List Token → Type 0} (g : A → A) → ((x : A) (ts : List Token) → P x ts → P (g x) (moved_tokens f ts)) → {xs : List A} {ts : List Token} → SpellSeparated P xs ts → SpellSeparated P (map g xs) (moved_tokens f ts)
  moved_separated g go (SpellSeparated.one {x = x} {ts = ts} p) = SpellSeparated.one (go x ts p)
  moved_separated {P = P} g go (SpellSeparated.more {x = x} {xs = xs} {ts = ts} {us = us} comma c p q) =
      subst (SpellSeparated P (g x ∷ map g xs)) (sym (two_parts f ts us comma)) (SpellSeparated.more (moved_token f comma) c (go x ts p) (moved_separated g go q))

  pub moved_spells_base : {x : Base} {ts : List Token} → SpellsBase x ts → SpellsBase (moved_base f x) (moved_tokens f ts)
  moved_spells_base (SpellsBase.int t h) = SpellsBase.int (moved_token f t) h
  moved_spells_base (SpellsBase.struct s t h n) = SpellsBase.struct (moved_token f s) (moved_token f t) h n

  pub moved_stars : {n : ℕ} {ts : List Token} → SpellStars n ts → SpellStars n (moved_tokens f ts)
  moved_stars SpellStars.none = SpellStars.none
  moved_stars (SpellStars.more t h p) = SpellStars.more (moved_token f t) h (moved_stars p)

  pub moved_sizes : {g : Bool} {xs : List Size} {ts : List Token} → SpellSizes g xs ts → SpellSizes g (map (moved_size f) xs) (moved_tokens f ts)
  moved_sizes SpellSizes.none = SpellSizes.none
  moved_sizes (SpellSizes.given first t last o n c p) = SpellSizes.given (moved_token f first) (moved_token f t) (moved_token f last) o n c (moved_sizes p)
  moved_sizes (SpellSizes.empty first last o c p) = SpellSizes.empty (moved_token f first) (moved_token f last) o c (moved_sizes p)

  moved_spells_signed : {x : Signed} {ts : List Token} → SpellsSigned x ts → SpellsSigned (moved_signed f x) (moved_tokens f ts)
  moved_spells_signed (SpellsSigned.plain t h) = SpellsSigned.plain (moved_token f t) h
  moved_spells_signed (SpellsSigned.negative minus t m h) = SpellsSigned.negative (moved_token f minus) (moved_token f t) m h

  pub moved_numbers : {xs : List Signed} {ts : List Token} → SpellNumbers xs ts → SpellNumbers (map (moved_signed f) xs) (moved_tokens f ts)
  moved_numbers (SpellNumbers.last p) = SpellNumbers.last (moved_spells_signed p)
  moved_numbers (SpellNumbers.last_comma {x = x} {ts = ts} comma c p) = subst (SpellNumbers (moved_signed f x ∷ [])) (sym (two_parts f ts [] comma)) (SpellNumbers.last_comma (moved_token f comma) c (moved_spells_signed p))
  moved_numbers (SpellNumbers.more {x = x} {xs = xs} {ts = ts} {us = us} comma c p q) =
      subst (SpellNumbers (moved_signed f x ∷ map (moved_signed f) xs)) (sym (two_parts f ts us comma)) (SpellNumbers.more (moved_token f comma) c (moved_spells_signed p) (moved_numbers q))

  module _ (zero : f 0 ≡ 0) where
    pub moved_spells_declarator : {g : Bool} {d : Declarator} {ts : List Token} → SpellsDeclarator g d ts → SpellsDeclarator g (moved_declarator f d) (moved_tokens f ts)
    moved_spells_declarator (SpellsDeclarator.declarator {f = g} {n = n} {x = x} {xs = xs} {stars = stars} {ts = ts} t h p q) =
        told_moved (λ at w. SpellsDeclarator g (record { span = at; stars = n; name = named (moved_token f t) x; sizes = map (moved_size f) xs }) w) f (stars ++ t ∷ ts) (moved_tokens f stars ++ moved_token f t ∷ moved_tokens f ts) zero (two_parts f stars ts t)
        (SpellsDeclarator.declarator (moved_token f t) h (moved_stars p) (moved_sizes q))

    pub moved_spells_declared : {d : Declared} {ts : List Token} → SpellsDeclared d ts → SpellsDeclared (moved_declared f d) (moved_tokens f ts)
    moved_spells_declared (SpellsDeclared.plain {d = d} {ts = ts} p) =
        told_moved (λ at w. SpellsDeclared (record { span = at; declarator = moved_declarator f d; initialiser = init.Nothing }) w) f ts (moved_tokens f ts) zero refl (SpellsDeclared.plain (moved_spells_declarator p))
    moved_spells_declared (SpellsDeclared.value {d = d} {a = a} {ts = ts} {us = us} mark h p q) =
        told_moved (λ at w. SpellsDeclared (record { span = at; declarator = moved_declarator f d; initialiser = init.Value (moved_expr f a) }) w) f (ts ++ mark ∷ us) (moved_tokens f ts ++ moved_token f mark ∷ moved_tokens f us) zero (two_parts f ts us mark)
        (SpellsDeclared.value (moved_token f mark) h (moved_spells_declarator p) (moved_spells f zero q))
    moved_spells_declared (SpellsDeclared.list {d = d} {xs = xs} {ts = ts} {us = us} mark first last h o c p q) =
        let list = first ∷ (us ++ last ∷ []) in
        let now = moved_token f first ∷ (moved_tokens f us ++ moved_token f last ∷ []) in
        let parts : moved_tokens f list ≡ now = ap (λ (l : List Token). moved_token f first ∷ l) (two_parts f us [] last) in
        let whole : moved_tokens f (ts ++ mark ∷ list) ≡ moved_tokens f ts ++ moved_token f mark ∷ now = two_parts f ts list mark ∙ ap (λ (l : List Token). moved_tokens f ts ++ moved_token f mark ∷ l) parts in
        told_moved (λ at w. SpellsDeclared (record { span = at; declarator = moved_declarator f d; initialiser = init.List (moved_span f (extent list)) (map (moved_signed f) xs) }) w) f (ts ++ mark ∷ list) (moved_tokens f ts ++ moved_token f mark ∷ now) zero whole
        (subst (λ (at : Span). SpellsDeclared (record { span = extent (moved_tokens f ts ++ moved_token f mark ∷ now); declarator = moved_declarator f d; initialiser = init.List at (map (moved_signed f) xs) }) (moved_tokens f ts ++ moved_token f mark ∷ now)) (extent_moved f list now zero parts)
        (SpellsDeclared.list (moved_token f mark) (moved_token f first) (moved_token f last) h o c (moved_spells_declarator p) (moved_numbers q)))

    pub moved_spells_decl : {d : Decl} {ts : List Token} → SpellsDecl d ts → SpellsDecl (moved_decl f d) (moved_tokens f ts)
    moved_spells_decl (SpellsDecl.decl {base = base} {xs = xs} {bs = bs} {ts = ts} last h p q) =
        told_moved (λ at w. SpellsDecl (record { span = at; base = moved_base f base; items = map (moved_declared f) xs }) w) f (bs ++ (ts ++ last ∷ [])) (moved_tokens f bs ++ (moved_tokens f ts ++ moved_token f last ∷ [])) zero
        (map-append (moved_token f) bs (ts ++ last ∷ []) ∙ ap (λ (l : List Token). moved_tokens f bs ++ l) (two_parts f ts [] last))
        (SpellsDecl.decl (moved_token f last) h (moved_spells_base p) (moved_separated (moved_declared f) (λ x us k. moved_spells_declared k) q))
