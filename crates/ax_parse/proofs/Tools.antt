-- What parsers on lists answer, taken apart.
use Rattle.std.proofs.Common.{◌≡◌, ℕ, zero, suc, Bool, true, false, List, [], ◌∷◌, ◌++◌, map, Option, Some, None, refl, sym, ap, ◌∙◌, subst, append_assoc}
use Rattle.std.proofs.lemmas.Option.{none-some, cond_some, same_Some}
use Rattle.ax_prog.specs.declared.Span.{Span}
use Rattle.ax_prog.specs.declared.tokens.Kind.{Kind}
use Rattle.ax_prog.specs.declared.tokens.Kind.TheVariants as k
use Rattle.ax_prog.specs.declared.tokens.Token.{Token}
use Rattle.ax_parse_grammar.specs.declared.terminals.Terminal.{Terminal}
use Rattle.ax_parse_grammar.specs.declared.terminals.Terminal.TheVariants as w
use Rattle.ax_parse_grammar.specs.declared.tree.Name.{Name}
use Rattle.ax_parse_grammar.specs.Terminals.{kind_of, Is, is, Are, named, extent}
use Rattle.ax_parse_grammar.specs.Declarations.{SpellAll, SpellSeparated}
use Rattle.ax_parse_grammar.specs.Statements.{SpellsMaybe}
use Rattle.ax_parse_grammar.specs.Reading.{Parser, ◌>>=◌, choose, extent_to, after, past, next, name_in, name, until, maybe_until, separated, repeat_by, repeated}
use Rattle.ax_parse_grammar.proofs.Tools.{is_true, span_to}

-- ---- what may be absent

pub bind_some : {A B : Type 0} (o : Option A) (f : A → Option B) (y : B) → (o >>= f) ≡ Some y → (x : A) × (o ≡ Some x) × (f x ≡ Some y)
bind_some None f y h = absurd (none-some y h)
bind_some (Some x) f y h = (x, refl, h)

pub choose_some : {A B : Type 0} (o : Option A) (f : A → Option B) (y : B) → choose o None f ≡ Some y → (x : A) × (o ≡ Some x) × (f x ≡ Some y)
choose_some None f y h = absurd (none-some y h)
choose_some (Some x) f y h = (x, refl, h)

-- ---- the first tokens

pub after_some : (what : Terminal) (ts rest : List Token) → after what ts ≡ Some rest → (t : Token) × Is what t × (ts ≡ t ∷ rest)
after_some what [] rest h = absurd (none-some rest h)
after_some what (t ∷ ts) rest h = let c = cond_some (is what t.kind) ts rest h in (t, is_true what t.kind c.0, ap (λ (l : List Token). t ∷ l) c.1)

pub past_some : (whats : List Terminal) (ts rest : List Token) → past whats ts ≡ Some rest → (front : List Token) × Are whats front × (ts ≡ front ++ rest)
past_some [] ts rest h = ([], refl, same_Some ts rest h)
past_some (what ∷ whats) ts rest h =
    let a = choose_some (after what ts) (λ (l : List Token). past whats l) rest h in
    let t = after_some what ts a.0 a.1 in
    let b = past_some whats a.0 rest a.2 in
    (t.0 ∷ b.0, cons t.0.kind (kind_of what) (map (λ u. u.kind) b.0) (map kind_of whats) t.1 b.1, t.2 ∙ ap (λ (l : List Token). t.0 ∷ l) b.2)
  where
    cons : (i j : Kind) (is js : List Kind) → i ≡ j → is ≡ js → i ∷ is ≡ j ∷ js
    cons i j is js h g = cc

pub next_some : {A : Type 0} (f : Kind → Option A) (ts : List Token) (r : A × List Token) → next f ts ≡ Some r → (t : Token) × (f t.kind ≡ Some r.0) × (ts ≡ t ∷ r.1)
next_some f [] r h = absurd (none-some r h)
next_some {A = A} f (t ∷ ts) r h =
    let a = choose_some (f t.kind) (λ (x : A). Some (x, ts)) r h in
    let P : A × List Token → Type 0 = λ q. (u : Token) × (f u.kind ≡ Some q.0) × (t ∷ ts ≡ u ∷ q.1) in
    subst P (same_Some (a.0, ts) r a.2) (t, a.1, refl)

name_in_some : (t : Token) (kind : Kind) (ts : List Token) (r : Name × List Token) → name_in t kind ts ≡ Some r → (x : List ℕ) × (kind ≡ k.Name x) × ((named t x, ts) ≡ r)
name_in_some t (k.Name x) ts r h = (x, refl, same_Some (named t x, ts) r h)
name_in_some t _ ts r h = absurd (none-some r h)

pub name_some : (ts : List Token) (r : Name × List Token) → name ts ≡ Some r → (t : Token) × (x : List ℕ) × (t.kind ≡ k.Name x) × (named t x ≡ r.0) × (ts ≡ t ∷ r.1)
name_some [] r h = absurd (none-some r h)
name_some (t ∷ ts) r h =
    let a = name_in_some t t.kind ts r h in
    (t, a.0, a.1, ap (λ (q : Name × List Token). q.0) a.2, ap (λ (q : Name × List Token). t ∷ q.1) a.2)

-- ---- fronts

pub join : (ts a r b s : List Token) → ts ≡ a ++ r → r ≡ b ++ s → ts ≡ (a ++ b) ++ s
join ts a r b s h g = h ∙ ap (λ (l : List Token). a ++ l) g ∙ sym (append_assoc a b s)

pub cons : (ts us b s : List Token) (t : Token) → ts ≡ t ∷ us → us ≡ b ++ s → ts ≡ (t ∷ b) ++ s
cons ts us b s t h g = h ∙ ap (λ (l : List Token). t ∷ l) g

-- behind a closing token
pub closed_join : (ts a : List Token) (t : Token) (r b s : List Token) → ts ≡ (a ++ t ∷ []) ++ r → r ≡ b ++ s → ts ≡ (a ++ t ∷ b) ++ s
closed_join ts a t r b s h g = join ts (a ++ t ∷ []) r b s h g ∙ ap (λ (l : List Token). l ++ s) (append_assoc a (t ∷ []) b)

-- what is read is spelled by the tokens before what is left
pub record Front {A : Type 0} (P : A → List Token → Type 0) (ts : List Token) (r : A × List Token) : Type 0 where
  pub front : List Token
  pub joined : ts ≡ front ++ r.1
  pub spelled : P r.0 front

-- the same with a terminal behind it
pub record Closed {A : Type 0} (P : A → List Token → Type 0) (what : Terminal) (ts : List Token) (r : A × List Token) : Type 0 where
  pub inner : List Token
  pub last : Token
  pub joined : ts ≡ (inner ++ last ∷ []) ++ r.1
  pub spelled : P r.0 inner
  pub closes : Is what last

abbrev pub Sound : {A : Type 0} → (A → List Token → Type 0) → Parser A → Type 0
Sound {A = A} P p = (ts : List Token) (r : A × List Token) → p ts ≡ Some r → Front P ts r

-- what is made with the span of its front
pub made : {A : Type 0} (P : A → List Token → Type 0) (g : Span → A) (ts front rest : List Token) → ts ≡ front ++ rest → P (g (extent front)) front → (r : A × List Token) → (g (extent_to ts rest), rest) ≡ r → Front P ts r
made {A = A} P g ts front rest h is r same = subst (λ (f : A × List Token). Front P ts f) same (record {
  front = front;
  joined = h;
  spelled = subst (λ (x : Span). P (g x) front) (sym (span_to ts front rest h)) is;
})

pub until_some : {A : Type 0} (P : A → List Token → Type 0) (what : Terminal) (p : Parser A) → Sound P p → (ts : List Token) (r : A × List Token) → until what p ts ≡ Some r → Closed P what ts r
until_some {A = A} P what p sound ts r h =
    let a = bind_some (p ts) (λ (x : A × List Token). choose (after what x.1) None (λ (rest : List Token). Some (x.0, rest))) r h in
    let b = choose_some (after what a.0.1) (λ (rest : List Token). Some (a.0.0, rest)) r a.2 in
    let t = after_some what a.0.1 b.0 b.1 in
    let f = sound ts a.0 a.1 in
    subst (λ (q : A × List Token). Closed P what ts q) (same_Some (a.0.0, b.0) r b.2) (record {
      inner = f.front;
      last = t.0;
      joined = join ts f.front a.0.1 (t.0 ∷ []) b.0 f.joined t.2;
      spelled = f.spelled;
      closes = t.1;
    })

pub maybe_sound : {A : Type 0} (P : A → List Token → Type 0) (what : Terminal) (p : Parser A) → Sound P p → (ts : List Token) (r : Option A × List Token) → maybe_until what p ts ≡ Some r → Closed (SpellsMaybe P) what ts r
maybe_sound {A = A} P what p sound ts r h = go (after what ts) refl h
  where
    go : (o : Option (List Token)) → after what ts ≡ o → choose {B = Option (Option A × List Token)} o (until what p ts >>= λ (x : A × List Token). Some (Some x.0, x.1)) (λ (rest : List Token). Some (None, rest)) ≡ Some r → Closed (SpellsMaybe P) what ts r
    go None is g =
        let a = bind_some {B = Option A × List Token} (until what p ts) (λ (x : A × List Token). Some (Some x.0, x.1)) r g in
        let c = until_some P what p sound ts a.0 a.1 in
        subst (λ (q : Option A × List Token). Closed (SpellsMaybe P) what ts q) (same_Some (Some a.0.0, a.0.1) r a.2) (record { inner = c.inner; last = c.last; joined = c.joined; spelled = SpellsMaybe.some c.spelled; closes = c.closes })
    go (Some rest) is g =
        let t = after_some what ts rest is in
        subst (λ (q : Option A × List Token). Closed (SpellsMaybe P) what ts q) (same_Some (None, rest) r g) (record { inner = []; last = t.0; joined = t.2; spelled = SpellsMaybe.nothing; closes = t.1 })

-- ---- lists

separated_step : {A : Type 0} (P : A → List Token → Type 0) (p : ℕ → Parser A) (n : ℕ) → Sound P (p n) → Sound (SpellSeparated P) (separated p n) → Sound (SpellSeparated P) (separated p (suc n))
unfolding separated
separated_step {A = A} P p n sound again ts r h =
    let a = bind_some (p n ts) (λ (x : A × List Token). choose (after w.Comma x.1) (Some (x.0 ∷ [], x.1)) (λ (rest : List Token). separated p n rest >>= λ (xs : List A × List Token). Some (x.0 ∷ xs.0, xs.1))) r h in
    go a.0 (sound ts a.0 a.1) (after w.Comma a.0.1) refl a.2
  where
    go : (x : A × List Token) → Front P ts x → (o : Option (List Token)) → after w.Comma x.1 ≡ o → choose {B = Option (List A × List Token)} o (Some (x.0 ∷ [], x.1)) (λ (rest : List Token). separated p n rest >>= λ (xs : List A × List Token). Some (x.0 ∷ xs.0, xs.1)) ≡ Some r → Front (SpellSeparated P) ts r
    go x f None is g = subst (λ (q : List A × List Token). Front (SpellSeparated P) ts q) (same_Some (x.0 ∷ [], x.1) r g) (record { front = f.front; joined = f.joined; spelled = SpellSeparated.one f.spelled })
    go x f (Some rest) is g =
        let t = after_some w.Comma x.1 rest is in
        let b = bind_some (separated p n rest) (λ (xs : List A × List Token). Some (x.0 ∷ xs.0, xs.1)) r g in
        let s = again rest b.0 b.1 in
        subst (λ (q : List A × List Token). Front (SpellSeparated P) ts q) (same_Some (x.0 ∷ b.0.0, b.0.1) r b.2) (record {
          front = f.front ++ t.0 ∷ s.front;
          joined = join ts f.front x.1 (t.0 ∷ s.front) b.0.1 f.joined (cons x.1 rest s.front b.0.1 t.0 t.2 s.joined);
          spelled = SpellSeparated.more t.0 t.1 f.spelled s.spelled;
        })

pub separated_sound : {A : Type 0} (P : A → List Token → Type 0) (p : ℕ → Parser A) → ((n : ℕ) → Sound P (p n)) → (n : ℕ) → Sound (SpellSeparated P) (separated p n)
unfolding separated
separated_sound P p sound zero ts r h = absurd (none-some r h)
separated_sound P p sound (suc n) ts r h = separated_step P p n (sound n) (separated_sound P p sound n) ts r h

repeated_step : {A : Type 0} (P : A → List Token → Type 0) (ends : List Token → Bool) (p : ℕ → Parser A) (n : ℕ) → Sound P (p n) → Sound (SpellAll P) (repeated ends p n) → Sound (SpellAll P) (repeated ends p (suc n))
unfolding repeated
repeated_step {A = A} P ends p n sound again ts r h = go (ends ts) refl h
  where
    go : (b : Bool) → ends ts ≡ b → repeat_by b (p n) (repeated ends p n) ts ≡ Some r → Front (SpellAll P) ts r
    go true is g = subst (λ (q : List A × List Token). Front (SpellAll P) ts q) (same_Some ([], ts) r g) (record { front = []; joined = refl; spelled = SpellAll.none })
    go false is g =
        let a = bind_some (p n ts) (λ (x : A × List Token). repeated ends p n x.1 >>= λ (xs : List A × List Token). Some (x.0 ∷ xs.0, xs.1)) r g in
        let b = bind_some (repeated ends p n a.0.1) (λ (xs : List A × List Token). Some (a.0.0 ∷ xs.0, xs.1)) r a.2 in
        let f = sound ts a.0 a.1 in
        let s = again a.0.1 b.0 b.1 in
        subst (λ (q : List A × List Token). Front (SpellAll P) ts q) (same_Some (a.0.0 ∷ b.0.0, b.0.1) r b.2) (record {
          front = f.front ++ s.front;
          joined = join ts f.front a.0.1 s.front b.0.1 f.joined s.joined;
          spelled = SpellAll.more f.spelled s.spelled;
        })

pub repeated_sound : {A : Type 0} (P : A → List Token → Type 0) (ends : List Token → Bool) (p : ℕ → Parser A) → ((n : ℕ) → Sound P (p n)) → (n : ℕ) → Sound (SpellAll P) (repeated ends p n)
unfolding repeated
repeated_sound P ends p sound zero ts r h = absurd (none-some r h)
repeated_sound P ends p sound (suc n) ts r h = repeated_step P ends p n (sound n) (repeated_sound P ends p sound n) ts r h
