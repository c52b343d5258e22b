-- What the parser of declarations reads is spelled.
use Rattle.std.proofs.Common.{◌≡◌, ℕ, zero, suc, ℤ, Bool, true, false, List, [], ◌∷◌, ◌++◌, Option, Some, None, refl, sym, ap, ◌∙◌, subst, append_assoc}
use Rattle.std.specs.Prelude.{if◌then◌else◌}
use Rattle.std.proofs.lemmas.Bool.{false≢true}
use Rattle.std.proofs.lemmas.Option.{none-some, same_Some}
use Rattle.ax_prog.specs.declared.Span.{Span}
use Rattle.ax_prog.specs.declared.tokens.Kind.{Kind}
use Rattle.ax_prog.specs.declared.tokens.Kind.TheVariants as k
use Rattle.ax_prog.specs.declared.tokens.Token.{Token}
use Rattle.ax_parse_grammar.specs.declared.terminals.Terminal.TheVariants as w
use Rattle.ax_parse_grammar.specs.declared.tree.Name.{Name}
use Rattle.ax_parse_grammar.specs.declared.tree.Base.{Base}
use Rattle.ax_parse_grammar.specs.declared.tree.Base.TheVariants as b
use Rattle.ax_parse_grammar.specs.declared.tree.Size.{Size}
use Rattle.ax_parse_grammar.specs.declared.tree.Signed.{Signed}
use Rattle.ax_parse_grammar.specs.declared.tree.Declarator.{Declarator}
use Rattle.ax_parse_grammar.specs.declared.tree.Initialiser.TheVariants as init
use Rattle.ax_parse_grammar.specs.declared.tree.Declared.{Declared}
use Rattle.ax_parse_grammar.specs.declared.tree.Decl.{Decl}
use Rattle.ax_parse_grammar.specs.declared.tree.Expr.{Expr}
use Rattle.ax_parse_grammar.specs.Terminals.{Is, is, named, extent}
use Rattle.ax_parse_grammar.specs.Declarations.{SpellsBase, SpellStars, SpellSizes, SpellsDeclarator, SpellsSigned, SpellNumbers, SpellsDeclared, SpellsDecl}
use Rattle.ax_parse_grammar.specs.Reading.{◌>>=◌, choose, extent_to, after, next, name, separated}
use Rattle.ax_parse_grammar.specs.ReadExpressions.{expr}
use Rattle.ax_parse_grammar.specs.ReadDeclarations.{size_of, declarator_of, signed_of, declared_of, decl_of, number_of, base, stars, size_by, sizes, declarator, is_sized, signed, numbers, value_by, list_by, declared_by, declared, decl_by, decl}
use Rattle.ax_parse_grammar.proofs.Tools.{is_true, span_to, extent_to_is}
use Rattle.ax_parse.proofs.Tools.{bind_some, choose_some, after_some, next_some, name_some, join, cons, Front, Closed, Sound, made, separated_sound}
use Rattle.ax_parse.proofs.ExpressionsSound.{sounds}

-- ---- bases and numbers

number_kind : (kind : Kind) (n : ℤ) → number_of kind ≡ Some n → kind ≡ k.Number n
number_kind (k.Number m) n h = ap (λ (i : ℤ). k.Number i) (same_Some m n h)
number_kind _ n h = absurd (none-some n h)

-- a number that comes first
pub number_some : (ts : List Token) (r : ℤ × List Token) → next number_of ts ≡ Some r → (t : Token) × (t.kind ≡ k.Number r.0) × (ts ≡ t ∷ r.1)
number_some ts r h = let t = next_some number_of ts r h in (t.0, number_kind t.0.kind r.0 t.1, t.2)

-- the span of one token
pub one_span : (t : Token) (ts rest : List Token) → ts ≡ t ∷ rest → extent_to ts rest ≡ t.span
one_span t ts rest h = ap (λ (l : List Token). extent_to l rest) h ∙ extent_to_is (t ∷ []) rest

pub base_sound : Sound SpellsBase base
base_sound ts r h = go (after w.Struct ts) refl h
  where
    int : (o : Option (List Token)) → after w.Int ts ≡ o → choose {B = Option (Base × List Token)} o None (λ us. Some (b.Int (extent_to ts us), us)) ≡ Some r → Front SpellsBase ts r
    int None is g = absurd (none-some r g)
    int (Some us) is g =
        let t = after_some w.Int ts us is in
        subst (λ (q : Base × List Token). Front SpellsBase ts q) (ap (λ (x : Span). let p : Base × List Token = (b.Int x, us) in p) (sym (one_span t.0 ts us t.2)) ∙ same_Some (b.Int (extent_to ts us), us) r g) (record { front = t.0 ∷ []; joined = t.2; spelled = SpellsBase.int t.0 t.1 })

    go : (o : Option (List Token)) → after w.Struct ts ≡ o → choose {B = Option (Base × List Token)} o (choose (after w.Int ts) None (λ us. Some (b.Int (extent_to ts us), us))) (λ us. name us >>= λ (x : Name × List Token). Some (b.Struct (extent_to ts x.1) x.0, x.1)) ≡ Some r → Front SpellsBase ts r
    go None is g = int (after w.Int ts) refl g
    go (Some us) is g =
        let s = after_some w.Struct ts us is in
        let x = bind_some {B = Base × List Token} (name us) (λ (x : Name × List Token). Some (b.Struct (extent_to ts x.1) x.0, x.1)) r g in
        let t = name_some us x.0 x.1 in
        let joined : ts ≡ (s.0 ∷ t.0 ∷ []) ++ x.0.1 = cons ts us (t.0 ∷ []) x.0.1 s.0 s.2 t.4 in
        let same : (b.Struct (extent_to ts x.0.1) (named t.0 t.1), x.0.1) ≡ r = ap (λ (q : Name). let p : Base × List Token = (b.Struct (extent_to ts x.0.1) q, x.0.1) in p) t.3 ∙ same_Some (b.Struct (extent_to ts x.0.1) x.0.0, x.0.1) r x.2 in
        made SpellsBase (λ (q : Span). b.Struct q (named t.0 t.1)) ts (s.0 ∷ t.0 ∷ []) x.0.1 joined (SpellsBase.struct s.0 t.0 s.1 t.2) r same

-- so many stars are spelled before what is left
pub record StarsFront (ts : List Token) (r : ℕ × List Token) : Type 0 where
  pub front : List Token
  pub joined : ts ≡ front ++ r.1
  pub spelled : SpellStars r.0 front

stars_step : (t : Token) (ts : List Token) → StarsFront ts (stars ts) → (b : Bool) → is w.Star t.kind ≡ b → StarsFront (t ∷ ts) (if b then (suc (stars ts).0, (stars ts).1) else (0, t ∷ ts))
stars_step t ts f false h = record { front = []; joined = refl; spelled = SpellStars.none }
stars_step t ts f true h = record { front = t ∷ f.front; joined = ap (λ (l : List Token). t ∷ l) f.joined; spelled = SpellStars.more t (is_true w.Star t.kind h) f.spelled }

pub stars_sound : (ts : List Token) → StarsFront ts (stars ts)
stars_sound [] = record { front = []; joined = refl; spelled = SpellStars.none }
stars_sound (t ∷ ts) = stars_step t ts (stars_sound ts) (is w.Star t.kind) refl

-- ---- sizes

-- a size, and those that follow
record SizeFront (f : Bool) (ts : List Token) (r : Size × List Token) : Type 0 where
  front : List Token
  joined : ts ≡ front ++ r.1
  more : {xs : List Size} {us : List Token} → SpellSizes false xs us → SpellSizes f (r.0 ∷ xs) (front ++ us)

size_front : (f : Bool) (ts us : List Token) (r : Size × List Token) → after w.OpenSquare ts ≡ Some us → size_by f ts us ≡ Some r → SizeFront f ts r
size_front f ts us r is h = go (next number_of us) refl h
  where
    empty : (g : Bool) → (if g then choose (after w.CloseSquare us) None (λ rest. Some (size_of (extent_to ts rest) None, rest)) else None) ≡ Some r → SizeFront g ts r
    empty false h = absurd (none-some r h)
    empty true h =
        let t = after_some w.OpenSquare ts us is in
        let a = choose_some (after w.CloseSquare us) (λ (rest : List Token). let p : Option (Size × List Token) = Some (size_of (extent_to ts rest) None, rest) in p) r h in
        let e = after_some w.CloseSquare us a.0 a.1 in
        let front : List Token = t.0 ∷ e.0 ∷ [] in
        let joined : ts ≡ front ++ a.0 = cons ts us (e.0 ∷ []) a.0 t.0 t.2 e.2 in
        subst (λ (q : Size × List Token). SizeFront true ts q) (same_Some (size_of (extent_to ts a.0) None, a.0) r a.2) (record {
          front = front;
          joined = joined;
          more = λ {xs} {us = vs} s. subst (λ (x : Span). SpellSizes true (size_of x None ∷ xs) (front ++ vs)) (sym (span_to ts front a.0 joined)) (SpellSizes.empty t.0 e.0 t.1 e.1 s);
        })

    go : (o : Option (ℤ × List Token)) → next number_of us ≡ o → choose o (if f then choose (after w.CloseSquare us) None (λ rest. Some (size_of (extent_to ts rest) None, rest)) else None) (λ n. choose (after w.CloseSquare n.1) None (λ rest. Some (size_of (extent_to ts rest) (Some n.0), rest))) ≡ Some r → SizeFront f ts r
    go None off g = empty f g
    go (Some n) on g =
        let t = after_some w.OpenSquare ts us is in
        let d = number_some us n on in
        let a = choose_some (after w.CloseSquare n.1) (λ (rest : List Token). let p : Option (Size × List Token) = Some (size_of (extent_to ts rest) (Some n.0), rest) in p) r g in
        let e = after_some w.CloseSquare n.1 a.0 a.1 in
        let front : List Token = t.0 ∷ d.0 ∷ e.0 ∷ [] in
        let joined : ts ≡ front ++ a.0 = cons ts us (d.0 ∷ e.0 ∷ []) a.0 t.0 t.2 (cons us n.1 (e.0 ∷ []) a.0 d.0 d.2 e.2) in
        subst (λ (q : Size × List Token). SizeFront f ts q) (same_Some (size_of (extent_to ts a.0) (Some n.0), a.0) r a.2) (record {
          front = front;
          joined = joined;
          more = λ {xs} {us = vs} s. subst (λ (x : Span). SpellSizes f (size_of x (Some n.0) ∷ xs) (front ++ vs)) (sym (span_to ts front a.0 joined)) (SpellSizes.given t.0 d.0 e.0 t.1 d.1 e.1 s);
        })

sizes_step : (n : ℕ) → Sound (SpellSizes false) (sizes n false) → (f : Bool) → Sound (SpellSizes f) (sizes (suc n) f)
unfolding sizes
sizes_step n again f ts r h = go (after w.OpenSquare ts) refl h
  where
    go : (o : Option (List Token)) → after w.OpenSquare ts ≡ o → choose {B = Option (List Size × List Token)} o (Some ([], ts)) (λ us. size_by f ts us >>= λ (x : Size × List Token). sizes n false x.1 >>= λ (xs : List Size × List Token). Some (x.0 ∷ xs.0, xs.1)) ≡ Some r → Front (SpellSizes f) ts r
    go None is g = subst (λ (q : List Size × List Token). Front (SpellSizes f) ts q) (same_Some ([], ts) r g) (record { front = []; joined = refl; spelled = SpellSizes.none })
    go (Some us) is g =
        let a = bind_some {B = List Size × List Token} (size_by f ts us) (λ (x : Size × List Token). sizes n false x.1 >>= λ (xs : List Size × List Token). Some (x.0 ∷ xs.0, xs.1)) r g in
        let c = bind_some {B = List Size × List Token} (sizes n false a.0.1) (λ (xs : List Size × List Token). Some (a.0.0 ∷ xs.0, xs.1)) r a.2 in
        let x = size_front f ts us a.0 is a.1 in
        let y = again a.0.1 c.0 c.1 in
        subst (λ (q : List Size × List Token). Front (SpellSizes f) ts q) (same_Some (a.0.0 ∷ c.0.0, c.0.1) r c.2) (record {
          front = x.front ++ y.front;
          joined = join ts x.front a.0.1 y.front c.0.1 x.joined y.joined;
          spelled = x.more y.spelled;
        })

pub sizes_sound : (n : ℕ) (f : Bool) → Sound (SpellSizes f) (sizes n f)
unfolding sizes
sizes_sound zero f ts r h = absurd (none-some r h)
sizes_sound (suc n) f ts r h = sizes_step n (sizes_sound n false) f ts r h

-- ---- declarators

pub declarator_sound : (f : Bool) (n : ℕ) → Sound (SpellsDeclarator f) (declarator f n)
declarator_sound f n ts r h =
    let p = stars_sound ts in
    let x = bind_some {B = Declarator × List Token} (name (stars ts).1) (λ (x : Name × List Token). sizes n f x.1 >>= λ (xs : List Size × List Token). Some (declarator_of (extent_to ts xs.1) (stars ts).0 x.0 xs.0, xs.1)) r h in
    let t = name_some (stars ts).1 x.0 x.1 in
    let y = bind_some {B = Declarator × List Token} (sizes n f x.0.1) (λ (xs : List Size × List Token). Some (declarator_of (extent_to ts xs.1) (stars ts).0 x.0.0 xs.0, xs.1)) r x.2 in
    let s = sizes_sound n f x.0.1 y.0 y.1 in
    let front : List Token = p.front ++ t.0 ∷ s.front in
    let joined : ts ≡ front ++ y.0.1 = join ts p.front (stars ts).1 (t.0 ∷ s.front) y.0.1 p.joined (cons (stars ts).1 x.0.1 s.front y.0.1 t.0 t.4 s.joined) in
    let same : (declarator_of (extent_to ts y.0.1) (stars ts).0 (named t.0 t.1) y.0.0, y.0.1) ≡ r = ap (λ (q : Name). let p : Declarator × List Token = (declarator_of (extent_to ts y.0.1) (stars ts).0 q y.0.0, y.0.1) in p) t.3 ∙ same_Some (declarator_of (extent_to ts y.0.1) (stars ts).0 x.0.0 y.0.0, y.0.1) r y.2 in
    made (SpellsDeclarator f) (λ (q : Span). declarator_of q (stars ts).0 (named t.0 t.1) y.0.0) ts front y.0.1 joined (SpellsDeclarator.declarator t.0 t.2 p.spelled s.spelled) r same

-- sizes of which none is empty need no leave
sized : (xs : List Size) (ts : List Token) → SpellSizes true xs ts → is_sized xs ≡ true → SpellSizes false xs ts
sized _ _ SpellSizes.none is = SpellSizes.none
sized _ _ (SpellSizes.given a t b h g l s) is = SpellSizes.given a t b h g l s
sized _ _ (SpellSizes.empty a b h g s) is = absurd (false≢true is)

sized_declarator : (d : Declarator) (ts : List Token) → SpellsDeclarator true d ts → is_sized d.sizes ≡ true → SpellsDeclarator false d ts
sized_declarator _ _ (SpellsDeclarator.declarator {xs = xs} {ts = ts} t h s r) is = SpellsDeclarator.declarator t h s (sized xs ts r is)

-- ---- brace lists

pub signed_sound : Sound SpellsSigned signed
signed_sound ts r h = go (after w.Minus ts) refl h
  where
    go : (o : Option (List Token)) → after w.Minus ts ≡ o → choose {B = Option (Signed × List Token)} o (next number_of ts >>= λ (n : ℤ × List Token). Some (signed_of (extent_to ts n.1) false n.0, n.1)) (λ us. next number_of us >>= λ (n : ℤ × List Token). Some (signed_of (extent_to ts n.1) true n.0, n.1)) ≡ Some r → Front SpellsSigned ts r
    go None is g =
        let a = bind_some {B = Signed × List Token} (next number_of ts) (λ (n : ℤ × List Token). Some (signed_of (extent_to ts n.1) false n.0, n.1)) r g in
        let t = number_some ts a.0 a.1 in
        subst (λ (q : Signed × List Token). Front SpellsSigned ts q) (ap (λ (x : Span). let p : Signed × List Token = (signed_of x false a.0.0, a.0.1) in p) (sym (one_span t.0 ts a.0.1 t.2)) ∙ same_Some (signed_of (extent_to ts a.0.1) false a.0.0, a.0.1) r a.2) (record { front = t.0 ∷ []; joined = t.2; spelled = SpellsSigned.plain t.0 t.1 })
    go (Some us) is g =
        let m = after_some w.Minus ts us is in
        let a = bind_some {B = Signed × List Token} (next number_of us) (λ (n : ℤ × List Token). Some (signed_of (extent_to ts n.1) true n.0, n.1)) r g in
        let t = number_some us a.0 a.1 in
        made SpellsSigned (λ (q : Span). signed_of q true a.0.0) ts (m.0 ∷ t.0 ∷ []) a.0.1 (cons ts us (t.0 ∷ []) a.0.1 m.0 m.2 t.2) (SpellsSigned.negative m.0 t.0 m.1 t.1) r (same_Some (signed_of (extent_to ts a.0.1) true a.0.0, a.0.1) r a.2)

abbrev pub NumbersSound : ℕ → Type 0
NumbersSound n = (ts : List Token) (r : List Signed × List Token) → numbers n ts ≡ Some r → Closed SpellNumbers w.CloseCurly ts r

numbers_step : (n : ℕ) → NumbersSound n → NumbersSound (suc n)
unfolding numbers
numbers_step n again ts r h =
    let a = bind_some {B = List Signed × List Token} (signed ts) (λ (x : Signed × List Token). choose (after w.CloseCurly x.1) (choose (after w.Comma x.1) None (λ us. choose (after w.CloseCurly us) (numbers n us >>= λ (xs : List Signed × List Token). Some (x.0 ∷ xs.0, xs.1)) (λ rest. Some (x.0 ∷ [], rest)))) (λ rest. Some (x.0 ∷ [], rest))) r h in
    go a.0 (signed_sound ts a.0 a.1) (after w.CloseCurly a.0.1) (after w.Comma a.0.1) refl refl a.2
  where
    inner : (x : Signed × List Token) (f : Front SpellsSigned ts x) (us : List Token) (c : Token) → Is w.Comma c → x.1 ≡ c ∷ us → (o : Option (List Token)) → after w.CloseCurly us ≡ o → choose {B = Option (List Signed × List Token)} o (numbers n us >>= λ (xs : List Signed × List Token). Some (x.0 ∷ xs.0, xs.1)) (λ rest. Some (x.0 ∷ [], rest)) ≡ Some r → Closed SpellNumbers w.CloseCurly ts r
    inner x f us c comma at None is g =
        let b = bind_some {B = List Signed × List Token} (numbers n us) (λ (xs : List Signed × List Token). Some (x.0 ∷ xs.0, xs.1)) r g in
        let s = again us b.0 b.1 in
        let joined : ts ≡ (f.front ++ c ∷ (s.inner ++ s.last ∷ [])) ++ b.0.1 = join ts f.front x.1 (c ∷ (s.inner ++ s.last ∷ [])) b.0.1 f.joined (cons x.1 us (s.inner ++ s.last ∷ []) b.0.1 c at s.joined) in
        subst (λ (q : List Signed × List Token). Closed SpellNumbers w.CloseCurly ts q) (same_Some (x.0 ∷ b.0.0, b.0.1) r b.2) (record { inner = f.front ++ c ∷ s.inner; last = s.last; joined = joined ∙ ap (λ (l : List Token). l ++ b.0.1) (sym (append_assoc f.front (c ∷ s.inner) (s.last ∷ []))); spelled = SpellNumbers.more c comma f.spelled s.spelled; closes = s.closes })
    inner x f us c comma at (Some rest) is g =
        let e = after_some w.CloseCurly us rest is in
        let joined : ts ≡ (f.front ++ c ∷ e.0 ∷ []) ++ rest = join ts f.front x.1 (c ∷ e.0 ∷ []) rest f.joined (cons x.1 us (e.0 ∷ []) rest c at e.2) in
        subst (λ (q : List Signed × List Token). Closed SpellNumbers w.CloseCurly ts q) (same_Some (x.0 ∷ [], rest) r g) (record { inner = f.front ++ c ∷ []; last = e.0; joined = joined ∙ ap (λ (l : List Token). l ++ rest) (sym (append_assoc f.front (c ∷ []) (e.0 ∷ []))); spelled = SpellNumbers.last_comma c comma f.spelled; closes = e.1 })

    go : (x : Signed × List Token) → Front SpellsSigned ts x → (o p : Option (List Token)) → after w.CloseCurly x.1 ≡ o → after w.Comma x.1 ≡ p → choose {B = Option (List Signed × List Token)} o (choose p None (λ us. choose (after w.CloseCurly us) (numbers n us >>= λ (xs : List Signed × List Token). Some (x.0 ∷ xs.0, xs.1)) (λ rest. Some (x.0 ∷ [], rest)))) (λ rest. Some (x.0 ∷ [], rest)) ≡ Some r → Closed SpellNumbers w.CloseCurly ts r
    go x f (Some rest) p is comma g =
        let e = after_some w.CloseCurly x.1 rest is in
        subst (λ (q : List Signed × List Token). Closed SpellNumbers w.CloseCurly ts q) (same_Some (x.0 ∷ [], rest) r g) (record { inner = f.front; last = e.0; joined = join ts f.front x.1 (e.0 ∷ []) rest f.joined e.2; spelled = SpellNumbers.last f.spelled; closes = e.1 })
    go x f None None is comma g = absurd (none-some r g)
    go x f None (Some us) is comma g = let c = after_some w.Comma x.1 us comma in inner x f us c.0 c.1 c.2 (after w.CloseCurly us) refl g

pub numbers_sound : (n : ℕ) → NumbersSound n
unfolding numbers
numbers_sound zero ts r h = absurd (none-some r h)
numbers_sound (suc n) ts r h = numbers_step n (numbers_sound n) ts r h

-- ---- declared names

pub declared_sound : (n : ℕ) → Sound SpellsDeclared (declared n)
declared_sound n ts r h =
    let a = bind_some {B = Declared × List Token} (declarator true n ts) (declared_by (expr n) (numbers n) ts) r h in
    go a.0 (declarator_sound true n ts a.0 a.1) (is_sized (a.0.0).sizes) (after w.Assign a.0.1) refl refl a.2
  where
    initialised : (d : Declarator × List Token) → Front (SpellsDeclarator true) ts d → (full : Bool) → is_sized (d.0).sizes ≡ full → (us : List Token) (t : Token) → Is w.Assign t → d.1 ≡ t ∷ us → (o : Option (List Token)) → after w.OpenCurly us ≡ o → choose {B = Option (Declared × List Token)} o (if full then value_by (expr n) ts d.0 us else None) (λ vs. list_by (numbers n) ts d.0 us vs) ≡ Some r → Front SpellsDeclared ts r
    initialised d f false full us t mark at None is g = absurd (none-some r g)
    initialised d f true full us t mark at None is g =
        let a = bind_some {B = Declared × List Token} (expr n us) (λ (a : Expr × List Token). Some (declared_of (extent_to ts a.1) d.0 (init.Value a.0), a.1)) r g in
        let x = (sounds n).whole us a.0 a.1 in
        let joined : ts ≡ (f.front ++ t ∷ x.front) ++ a.0.1 = join ts f.front d.1 (t ∷ x.front) a.0.1 f.joined (cons d.1 us x.front a.0.1 t at x.joined) in
        made SpellsDeclared (λ (q : Span). declared_of q d.0 (init.Value a.0.0)) ts (f.front ++ t ∷ x.front) a.0.1 joined (SpellsDeclared.value t mark (sized_declarator d.0 f.front f.spelled full) x.spelled) r (same_Some (declared_of (extent_to ts a.0.1) d.0 (init.Value a.0.0), a.0.1) r a.2)
    initialised d f sure full us t mark at (Some vs) is g =
        let e = after_some w.OpenCurly us vs is in
        let a = bind_some {B = Declared × List Token} (numbers n vs) (λ (xs : List Signed × List Token). Some (declared_of (extent_to ts xs.1) d.0 (init.List (extent_to us xs.1) xs.0), xs.1)) r g in
        let x = numbers_sound n vs a.0 a.1 in
        let inside : List Token = e.0 ∷ (x.inner ++ x.last ∷ []) in
        let inner : us ≡ inside ++ a.0.1 = cons us vs (x.inner ++ x.last ∷ []) a.0.1 e.0 e.2 x.joined in
        let joined : ts ≡ (f.front ++ t ∷ inside) ++ a.0.1 = join ts f.front d.1 (t ∷ inside) a.0.1 f.joined (cons d.1 us inside a.0.1 t at inner) in
        let same : (declared_of (extent_to ts a.0.1) d.0 (init.List (extent inside) a.0.0), a.0.1) ≡ r = ap (λ (q : Span). let p : Declared × List Token = (declared_of (extent_to ts a.0.1) d.0 (init.List q a.0.0), a.0.1) in p) (sym (span_to us inside a.0.1 inner)) ∙ same_Some (declared_of (extent_to ts a.0.1) d.0 (init.List (extent_to us a.0.1) a.0.0), a.0.1) r a.2 in
        made SpellsDeclared (λ (q : Span). declared_of q d.0 (init.List (extent inside) a.0.0)) ts (f.front ++ t ∷ inside) a.0.1 joined (SpellsDeclared.list t e.0 x.last mark e.1 x.closes f.spelled x.spelled) r same

    go : (d : Declarator × List Token) → Front (SpellsDeclarator true) ts d → (full : Bool) (o : Option (List Token)) → is_sized (d.0).sizes ≡ full → after w.Assign d.1 ≡ o → choose {B = Option (Declared × List Token)} o (if full then Some (declared_of (extent_to ts d.1) d.0 init.Nothing, d.1) else None) (λ us. choose (after w.OpenCurly us) (if full then value_by (expr n) ts d.0 us else None) (λ vs. list_by (numbers n) ts d.0 us vs)) ≡ Some r → Front SpellsDeclared ts r
    go d f false None sure is g = absurd (none-some r g)
    go d f true None sure is g = made SpellsDeclared (λ (q : Span). declared_of q d.0 init.Nothing) ts f.front d.1 f.joined (SpellsDeclared.plain (sized_declarator d.0 f.front f.spelled sure)) r (same_Some (declared_of (extent_to ts d.1) d.0 init.Nothing, d.1) r g)
    go d f full (Some us) sure is g = let t = after_some w.Assign d.1 us is in initialised d f full sure us t.0 t.1 t.2 (after w.OpenCurly us) refl g

pub decl_sound : (n : ℕ) → Sound SpellsDecl (decl n)
decl_sound n ts r h =
    let a = bind_some {B = Decl × List Token} (base ts) (decl_by (separated declared n) ts) r h in
    let c = bind_some {B = Decl × List Token} (separated declared n a.0.1) (λ (xs : List Declared × List Token). choose (after w.Semicolon xs.1) None (λ rest. Some (decl_of (extent_to ts rest) a.0.0 xs.0, rest))) r a.2 in
    let e = choose_some (after w.Semicolon c.0.1) (λ (rest : List Token). let p : Option (Decl × List Token) = Some (decl_of (extent_to ts rest) a.0.0 c.0.0, rest) in p) r c.2 in
    let t = after_some w.Semicolon c.0.1 e.0 e.1 in
    let x = base_sound ts a.0 a.1 in
    let y = separated_sound SpellsDeclared declared declared_sound n a.0.1 c.0 c.1 in
    let back : List Token = y.front ++ t.0 ∷ [] in
    let joined : ts ≡ (x.front ++ back) ++ e.0 = join ts x.front a.0.1 back e.0 x.joined (join a.0.1 y.front c.0.1 (t.0 ∷ []) e.0 y.joined t.2) in
    made SpellsDecl (λ (q : Span). decl_of q a.0.0 c.0.0) ts (x.front ++ back) e.0 joined (SpellsDecl.decl t.0 t.1 x.spelled y.spelled) r (same_Some (decl_of (extent_to ts e.0) a.0.0 c.0.0, e.0) r e.2)
