-- Sizes, and the numbers of brace lists.
use Rattle.std.proofs.Common.{◌≡◌, ℕ, suc, Bool, true, false, cond, List, [], ◌∷◌, Option, Some, None, refl, sym, ap, ◌∙◌, subst, append-nil}
use Rattle.std.specs.Prelude.{option_map, is_none}
use Rattle.std.proofs.lemmas.Option.{none-some}
use Rattle.ax_prog.specs.declared.tokens.Token.{Token}
use Rattle.ax_parse_grammar.specs.declared.terminals.Terminal.TheVariants as w
use Rattle.ax_parse_grammar.specs.declared.tree.Size.{Size}
use Rattle.ax_parse_grammar.specs.declared.tree.Signed.{Signed}
use Rattle.ax_parse_grammar.specs.Terminals.{is}
use Rattle.ax_parse_grammar.specs.Reading.{◌>>=◌, choose, after, Settles}
use Rattle.ax_parse_grammar.specs.declared.tree.Declarator.{Declarator}
use Rattle.ax_parse_grammar.specs.ReadExpressions.{expr}
use Rattle.ax_parse_grammar.specs.ReadDeclarations.{stars, size_by, sizes, declarator, signed, numbers, declared}
use Rattle.ax_parse_grammar.proofs.Tools.{is_true, after_other, settle_0, settle_1, also_1}
use Rattle.ax_parse_statements.specs.DeclarationsFound.{another, list_end, initialised_by}
use Rattle.ax_parse_statements.proofs.DeclarationTurns.{prefixed, prefixed_cons, OnTo, settled}

-- ---- stars

stars_by : (b : Bool) (t : Token) (ts us : List Token) → is w.Star t.kind ≡ b → cond b (Some ts) None ≡ Some us → stars (t ∷ ts) ≡ (suc (stars us).0, (stars us).1)
stars_by false t ts us h is = absurd (none-some us is)
stars_by true t ts us h is =
    let same : ts ≡ us = cc in
    rw h (ap (λ (l : List Token). (suc (stars l).0, (stars l).1)) same)

pub stars_on : (ts us : List Token) → after w.Star ts ≡ Some us → stars ts ≡ (suc (stars us).0, (stars us).1)
stars_on [] us on = absurd (none-some us on)
stars_on (t ∷ ts) us on = stars_by (is w.Star t.kind) t ts us refl on

star_off : (t : Token) (ts : List Token) (b : Bool) → is w.Star t.kind ≡ b → cond {A = Option (List Token)} b (Some ts) None ≡ None → stars (t ∷ ts) ≡ (0, t ∷ ts)
star_off t ts false h is = rw h refl
star_off t ts true h is = absurd (none-some ts (sym is))

pub stars_off : (ts : List Token) → after w.Star ts ≡ None → stars ts ≡ (0, ts)
stars_off [] off = refl
stars_off (t ∷ ts) off = star_off t ts (is w.Star t.kind) refl off

-- ---- sizes

pub sizes_on : (f : Bool) (ts us r : List Token) (x : Size) → after w.OpenSquare ts ≡ Some us → size_by f ts us ≡ Some (x, r) → OnTo (λ n. sizes n f ts) (λ n. sizes n false r) (x ∷ [])
unfolding sizes
sizes_on f ts us r x is one o s = settle_1 (λ n. sizes n false r) o (λ n. sizes n f ts) (prefixed (x ∷ []) o) s (λ n two. rw is (rw one (rw two (prefixed_cons x o))))

pub sizes_fail : (f : Bool) (ts us : List Token) → after w.OpenSquare ts ≡ Some us → size_by f ts us ≡ None → Settles (λ n. sizes n f ts) None
unfolding sizes
sizes_fail f ts us is none = settle_0 (λ n. sizes n f ts) None (λ n. rw is (rw none refl))

pub sizes_end : (f : Bool) (ts : List Token) → after w.OpenSquare ts ≡ None → Settles (λ n. sizes n f ts) (Some ([], ts))
unfolding sizes
sizes_end f ts off = settle_0 (λ n. sizes n f ts) (Some ([], ts)) (λ n. rw off refl)

-- ---- brace lists

-- behind a number
abbrev pub further_by : (List Token → Option (List Signed × List Token)) → List Token → Option (List Signed × List Token)
further_by again ts = choose (after w.CloseCurly ts) (choose (after w.Comma ts) None (λ us. choose (after w.CloseCurly us) (again us) (λ rest. Some ([], rest)))) (λ rest. Some ([], rest))

abbrev pub further : List Token → ℕ → Option (List Signed × List Token)
further ts n = further_by (numbers n) ts

prefixed_inner : (x : Signed) (p : Option (List Token)) (us : List Token) (again : List Token → Option (List Signed × List Token)) → choose p (again us >>= λ (xs : List Signed × List Token). Some (x ∷ xs.0, xs.1)) (λ rest. Some (x ∷ [], rest)) ≡ prefixed (x ∷ []) (choose p (again us) (λ rest. Some ([], rest)))
prefixed_inner x None us again = prefixed_cons x (again us)
prefixed_inner x (Some rest) us again = refl

prefixed_further : (x : Signed) (o p : Option (List Token)) (again : List Token → Option (List Signed × List Token))
    → choose o (choose p None (λ us. choose (after w.CloseCurly us) (again us >>= λ (xs : List Signed × List Token). Some (x ∷ xs.0, xs.1)) (λ rest. Some (x ∷ [], rest)))) (λ rest. Some (x ∷ [], rest))
    ≡ prefixed (x ∷ []) (choose o (choose p None (λ us. choose (after w.CloseCurly us) (again us) (λ rest. Some ([], rest)))) (λ rest. Some ([], rest)))
prefixed_further x (Some rest) p again = refl
prefixed_further x None None again = refl
prefixed_further x None (Some us) again = prefixed_inner x (after w.CloseCurly us) us again

pub numbers_on : (ts r : List Token) (x : Signed) → signed ts ≡ Some (x, r) → OnTo (λ n. numbers n ts) (further r) (x ∷ [])
unfolding numbers
numbers_on ts r x is o s = settle_1 (further r) o (λ n. numbers n ts) (prefixed (x ∷ []) o) s (λ n one. rw is (prefixed_further x (after w.CloseCurly r) (after w.Comma r) (numbers n) ∙ ap (prefixed (x ∷ [])) one))

pub numbers_fail : (ts : List Token) → signed ts ≡ None → Settles (λ n. numbers n ts) None
unfolding numbers
numbers_fail ts none = settle_0 (λ n. numbers n ts) None (λ n. rw none refl)

-- no `}` is a comma
comma_off : (b : Bool) (t : Token) (ts us : List Token) → is w.Comma t.kind ≡ b → cond b (Some ts) None ≡ Some us → after w.CloseCurly (t ∷ ts) ≡ None
comma_off false t ts us h is = absurd (none-some us is)
comma_off true t ts us h is = after_other w.CloseCurly w.Comma t ts (is_true w.Comma t.kind h) refl

pub comma_no_curly : (ts us : List Token) → after w.Comma ts ≡ Some us → after w.CloseCurly ts ≡ None
comma_no_curly [] us on = refl
comma_no_curly (t ∷ ts) us on = comma_off (is w.Comma t.kind) t ts us refl on

none_is : {A : Type 0} (o : Option A) → is_none o ≡ true → o ≡ None
none_is None h = refl
none_is (Some x) h = cc

some_is : {A : Type 0} (o : Option A) → is_none o ≡ false → (x : A) × (o ≡ Some x)
some_is None h = cc
some_is (Some x) h = (x, refl)

-- another number follows
goes : (ts us : List Token) → after w.Comma ts ≡ Some us → another ts ≡ true → (n : ℕ) → further ts n ≡ numbers n us
goes ts us is on n =
    let off : after w.CloseCurly us ≡ None = none_is (after w.CloseCurly us) (ap (λ (o : Option (List Token)). choose o false (λ us. is_none (after w.CloseCurly us))) (sym is) ∙ on) in
    rw (comma_no_curly ts us is) (rw is (rw off refl))

pub further_on : (ts us r : List Token) (x : Signed) → after w.Comma ts ≡ Some us → another ts ≡ true → signed us ≡ Some (x, r) → OnTo (further ts) (further r) (x ∷ [])
further_on ts us r x is on one o s = also_1 (λ n. numbers n us) (prefixed (x ∷ []) o) (further ts) (prefixed (x ∷ []) o) (numbers_on us r x one o s) (λ n two. goes ts us is on n ∙ two)

pub further_fail : (ts us : List Token) → after w.Comma ts ≡ Some us → another ts ≡ true → signed us ≡ None → Settles (further ts) None
further_fail ts us is on none = also_1 (λ n. numbers n us) None (further ts) None (numbers_fail us none) (λ n two. goes ts us is on n ∙ two)

-- no other number follows
pub further_end : (ts : List Token) → another ts ≡ false → (n : ℕ) → further ts n ≡ option_map (λ rest. ([], rest)) (list_end ts)
further_end ts off n = go (after w.Comma ts) refl off
  where
    last : (o : Option (List Token)) → choose {B = Option (List Signed × List Token)} o None (λ rest. Some ([], rest)) ≡ option_map (λ rest. ([], rest)) o
    last None = refl
    last (Some rest) = refl

    go : (o : Option (List Token)) → after w.Comma ts ≡ o → choose o false (λ us. is_none (after w.CloseCurly us)) ≡ false → further ts n ≡ option_map (λ rest. ([], rest)) (list_end ts)
    go None is h = rw is (last (after w.CloseCurly ts))
    go (Some us) is h = let s = some_is (after w.CloseCurly us) h in rw (comma_no_curly ts us is) (rw is (rw s.1 refl))

pub numbers_end : {f : ℕ → Option (List Signed × List Token)} (xs : List Signed) (ts : List Token) → OnTo f (further ts) xs → another ts ≡ false → Settles f (option_map (λ rest. (xs, rest)) (list_end ts))
numbers_end {f = f} xs ts a off =
    subst (λ (p : Option (List Signed × List Token)). Settles f p) (moved (list_end ts)) (a (option_map (λ rest. ([], rest)) (list_end ts)) (settled (further ts) (option_map (λ rest. ([], rest)) (list_end ts)) (further_end ts off)))
  where
    moved : (o : Option (List Token)) → prefixed xs (option_map (λ rest. ([], rest)) o) ≡ option_map (λ rest. (xs, rest)) o
    moved None = refl
    moved (Some rest) = ap (λ (l : List Signed). Some (l, rest)) (append-nil xs)

-- ---- a declarator with its initialiser

pub declared_on : (ts us vs : List Token) (d : Declarator) → after w.Assign us ≡ Some vs → (n : ℕ) → declarator true n ts ≡ Some (d, us) → declared n ts ≡ initialised_by (expr n) (numbers n) ts d vs
declared_on ts us vs d on n one = rw one (rw on refl)
