-- What is spelled the parser of declarations reads.
use Rattle.std.proofs.Common.{◌≡◌, ℕ, suc, ℤ, Bool, true, false, List, [], ◌∷◌, ◌++◌, Some, None, refl, sym, ap, ◌∙◌, append_assoc}
use Rattle.std.proofs.lemmas.Option.{none-some}
use Rattle.ax_prog.specs.declared.Span.{Span}
use Rattle.ax_prog.specs.declared.tokens.Kind.TheVariants as k
use Rattle.ax_prog.specs.declared.tokens.Token.{Token}
use Rattle.ax_parse_grammar.specs.declared.terminals.Terminal.{Terminal}
use Rattle.ax_parse_grammar.specs.declared.terminals.Terminal.TheVariants as w
use Rattle.ax_parse_grammar.specs.declared.tree.Name.{Name}
use Rattle.ax_parse_grammar.specs.declared.tree.Base.{Base}
use Rattle.ax_parse_grammar.specs.declared.tree.Base.TheVariants as b
use Rattle.ax_parse_grammar.specs.declared.tree.Size.{Size}
use Rattle.ax_parse_grammar.specs.declared.tree.Signed.{Signed}
use Rattle.ax_parse_grammar.specs.declared.tree.Declarator.{Declarator}
use Rattle.ax_parse_grammar.specs.declared.tree.Initialiser.TheVariants as init
use Rattle.ax_parse_grammar.specs.declared.tree.Declared.{Declared}
use Rattle.ax_parse_grammar.specs.declared.tree.Decl.{Decl}
use Rattle.ax_parse_grammar.specs.declared.tree.Expr.{Expr}
use Rattle.ax_parse_grammar.specs.Operators.{compound_of, step_of}
use Rattle.ax_parse_grammar.specs.Terminals.{kind_of, Is, is, named, extent}
use Rattle.ax_parse_grammar.specs.Declarations.{SpellsBase, SpellStars, SpellSizes, SpellsDeclarator, SpellsSigned, SpellNumbers, SpellsDeclared, SpellsDecl}
use Rattle.ax_parse_grammar.specs.Reading.{extent_to, after, next, name, separated, Settles}
use Rattle.ax_parse_grammar.specs.ReadExpressions.{expr}
use Rattle.ax_parse_grammar.specs.ReadDeclarations.{size_of, declarator_of, signed_of, declared_of, decl_of, number_of, base, stars, sizes, declarator, is_sized, signed, numbers, declared, decl}
use Rattle.ax_parse_grammar.proofs.Tools.{after_is, after_none, after_other, next_is, next_none, name_is, span_to, extent_to_is, settle_0, settle_1, also_1, also_2, settles_at, separated_reads}
use Rattle.ax_parse_grammar.proofs.ExpressionsRead.{Stops, stops_close, stops_comma, stops_semicolon, read, expr_first, after_leads}

-- a mark that ends declarators, parameters and simple statements
pub record Ended (rest : List Token) : Type 0 where
  pub stops : Stops rest
  pub square : after w.OpenSquare rest ≡ None
  pub assign : after w.Assign rest ≡ None
  pub star : after w.Star rest ≡ None
  pub open_round : after w.OpenRound rest ≡ None
  pub compound : next compound_of rest ≡ None
  pub step : next step_of rest ≡ None
  pub name : name rest ≡ None

ended_of : (what : Terminal) (t : Token) (rest : List Token) → Is what t → Stops (t ∷ rest) → is w.OpenSquare (kind_of what) ≡ false → is w.Assign (kind_of what) ≡ false → is w.Star (kind_of what) ≡ false → is w.OpenRound (kind_of what) ≡ false → compound_of (kind_of what) ≡ None → step_of (kind_of what) ≡ None → name (t ∷ rest) ≡ None → Ended (t ∷ rest)
ended_of what t rest h stops square assign star round compound step name = record {
  stops = stops;
  square = after_other w.OpenSquare what t rest h square;
  assign = after_other w.Assign what t rest h assign;
  star = after_other w.Star what t rest h star;
  open_round = after_other w.OpenRound what t rest h round;
  compound = next_none compound_of t rest (ap compound_of h ∙ compound);
  step = next_none step_of t rest (ap step_of h ∙ step);
  name = name;
}

pub ended_close : (t : Token) (rest : List Token) → Is w.CloseRound t → Ended (t ∷ rest)
ended_close t rest h = ended_of w.CloseRound t rest h (stops_close t rest h) refl refl refl refl refl refl (rw h refl)

pub ended_comma : (t : Token) (rest : List Token) → Is w.Comma t → Ended (t ∷ rest)
ended_comma t rest h = ended_of w.Comma t rest h (stops_comma t rest h) refl refl refl refl refl refl (rw h refl)

pub ended_semicolon : (t : Token) (rest : List Token) → Is w.Semicolon t → Ended (t ∷ rest)
ended_semicolon t rest h = ended_of w.Semicolon t rest h (stops_semicolon t rest h) refl refl refl refl refl refl (rw h refl)

-- ---- bases, stars and sizes

number_is : (t : Token) (n : ℤ) (rest : List Token) → t.kind ≡ k.Number n → next number_of (t ∷ rest) ≡ Some (n, rest)
number_is t n rest h = next_is number_of t rest n (ap number_of h)

int_turn : (ts rest : List Token) (at : Span) → after w.Struct ts ≡ None → after w.Int ts ≡ Some rest → extent_to ts rest ≡ at → base ts ≡ Some (b.Int at, rest)
int_turn ts rest at off is span = rw off (rw is (rw span refl))

struct_turn : (ts us rest : List Token) (x : Name) (at : Span) → after w.Struct ts ≡ Some us → name us ≡ Some (x, rest) → extent_to ts rest ≡ at → base ts ≡ Some (b.Struct at x, rest)
struct_turn ts us rest x at is one span = rw is (rw one (rw span refl))

pub base_reads : (x : Base) (ts : List Token) → SpellsBase x ts → (rest : List Token) → base (ts ++ rest) ≡ Some (x, rest)
base_reads x ts (SpellsBase.int t h) rest = int_turn (t ∷ rest) rest t.span (after_other w.Struct w.Int t rest h refl) (after_is w.Int t rest h) (extent_to_is (t ∷ []) rest)
base_reads x ts (SpellsBase.struct {x = y} s t h g) rest = struct_turn (s ∷ t ∷ rest) (t ∷ rest) rest (named t y) (extent (s ∷ t ∷ [])) (after_is w.Struct s (t ∷ rest) h) (name_is t y rest g) (extent_to_is (s ∷ t ∷ []) rest)

is_off : (what : Terminal) (t : Token) (us : List Token) → after what (t ∷ us) ≡ None → is what t.kind ≡ false
is_off what t us off = go (is what t.kind) refl
  where
    go : (b : Bool) → is what t.kind ≡ b → is what t.kind ≡ false
    go false h = h
    go true h = let there : after what (t ∷ us) ≡ Some us = rw h refl in absurd (none-some us (sym off ∙ there))

stars_end : (ts : List Token) → after w.Star ts ≡ None → stars ts ≡ (0, ts)
stars_end [] off = refl
stars_end (t ∷ ts) off = rw (is_off w.Star t ts off) refl

stars_more : (t : Token) (ts : List Token) (r : ℕ × List Token) → is w.Star t.kind ≡ true → stars ts ≡ r → stars (t ∷ ts) ≡ (suc r.0, r.1)
stars_more t ts r is h = rw is (rw h refl)

pub stars_read : (n : ℕ) (ts : List Token) → SpellStars n ts → (rest : List Token) → after w.Star rest ≡ None → stars (ts ++ rest) ≡ (n, rest)
stars_read n ts SpellStars.none rest off = stars_end rest off
stars_read n ts (SpellStars.more {n = m} {ts = us} t h s) rest off = stars_more t (us ++ rest) (m, rest) (ap (is w.Star) h) (stars_read m us s rest off)

-- a name is no star
pub name_no_star : (t : Token) (x : List ℕ) (rest : List Token) → t.kind ≡ k.Name x → after w.Star (t ∷ rest) ≡ None
name_no_star t x rest h = after_none w.Star t rest (ap (is w.Star) h)

sizes_end : (f : Bool) (ts : List Token) → after w.OpenSquare ts ≡ None → Settles (λ n. sizes n f ts) (Some ([], ts))
unfolding sizes
sizes_end f ts off = settle_0 (λ n. sizes n f ts) (Some ([], ts)) (λ n. rw off refl)

sizes_given : (f : Bool) (ts us vs r rest : List Token) (i : ℤ) (at : Span) (xs : List Size) → after w.OpenSquare ts ≡ Some us → next number_of us ≡ Some (i, vs) → after w.CloseSquare vs ≡ Some r → extent_to ts r ≡ at → Settles (λ n. sizes n false r) (Some (xs, rest)) → Settles (λ n. sizes n f ts) (Some (size_of at (Some i) ∷ xs, rest))
unfolding sizes
sizes_given f ts us vs r rest i at xs a b c span s = settle_1 (λ n. sizes n false r) (Some (xs, rest)) (λ n. sizes n f ts) (Some (size_of at (Some i) ∷ xs, rest)) s (λ n one. rw a (rw b (rw c (rw one (rw span refl)))))

sizes_empty : (f : Bool) (ts us r rest : List Token) (at : Span) (xs : List Size) → f ≡ true → after w.OpenSquare ts ≡ Some us → next number_of us ≡ None → after w.CloseSquare us ≡ Some r → extent_to ts r ≡ at → Settles (λ n. sizes n false r) (Some (xs, rest)) → Settles (λ n. sizes n f ts) (Some (size_of at None ∷ xs, rest))
unfolding sizes
sizes_empty f ts us r rest at xs full a b c span s = settle_1 (λ n. sizes n false r) (Some (xs, rest)) (λ n. sizes n f ts) (Some (size_of at None ∷ xs, rest)) s (λ n one. rw a (rw b (rw full (rw c (rw one (rw span refl))))))

-- read with leave for as much as is spelled
pub sizes_read : (f : Bool) (xs : List Size) (ts : List Token) → SpellSizes f xs ts → (g : Bool) → (f ≡ true → g ≡ true) → (rest : List Token) → after w.OpenSquare rest ≡ None → Settles (λ n. sizes n g (ts ++ rest)) (Some (xs, rest))
sizes_read f xs ts SpellSizes.none g leave rest off = sizes_end g rest off
sizes_read f xs ts (SpellSizes.given {n = i} {xs = ys} {ts = us} a t b h j l s) g leave rest off = sizes_given g (a ∷ t ∷ b ∷ (us ++ rest)) (t ∷ b ∷ (us ++ rest)) (b ∷ (us ++ rest)) (us ++ rest) rest i (extent (a ∷ t ∷ b ∷ [])) ys (after_is w.OpenSquare a (t ∷ b ∷ (us ++ rest)) h) (number_is t i (b ∷ (us ++ rest)) j) (after_is w.CloseSquare b (us ++ rest) l) (extent_to_is (a ∷ t ∷ b ∷ []) (us ++ rest)) (sizes_read false ys us s false (λ no_leave. no_leave) rest off)
sizes_read f xs ts (SpellSizes.empty {xs = ys} {ts = us} a b h l s) g leave rest off = sizes_empty g (a ∷ b ∷ (us ++ rest)) (b ∷ (us ++ rest)) (us ++ rest) rest (extent (a ∷ b ∷ [])) ys (leave refl) (after_is w.OpenSquare a (b ∷ (us ++ rest)) h) (next_none number_of b (us ++ rest) (ap number_of l)) (after_is w.CloseSquare b (us ++ rest) l) (extent_to_is (a ∷ b ∷ []) (us ++ rest)) (sizes_read false ys us s false (λ no_leave. no_leave) rest off)

sizes_sized : (xs : List Size) (ts : List Token) → SpellSizes false xs ts → is_sized xs ≡ true
sizes_sized xs ts SpellSizes.none = refl
sizes_sized xs ts (SpellSizes.given a t b h j l s) = refl

-- ---- declarators

declarator_turn : (n : ℕ) (g : Bool) (ts us vs rest : List Token) (i : ℕ) (x : Name) (xs : List Size) (at : Span) → stars ts ≡ (i, us) → name us ≡ Some (x, vs) → sizes n g vs ≡ Some (xs, rest) → extent_to ts rest ≡ at → declarator g n ts ≡ Some (declarator_of at i x xs, rest)
declarator_turn n g ts us vs rest i x xs at a b c span = rw a (rw b (rw c (rw span refl)))

pub declarator_reads : (f : Bool) (d : Declarator) (ts : List Token) → SpellsDeclarator f d ts → (g : Bool) → (f ≡ true → g ≡ true) → (rest : List Token) → after w.OpenSquare rest ≡ None → Settles (λ n. declarator g n (ts ++ rest)) (Some (d, rest))
declarator_reads f d ts (SpellsDeclarator.declarator {n = i} {x = x} {xs = xs} {stars = ss} {ts = us} t h s r) g leave rest off =
    let flat : List Token = ss ++ t ∷ (us ++ rest) in
    let same : flat ≡ (ss ++ t ∷ us) ++ rest = sym (append_assoc ss (t ∷ us) rest) in
    settles_at (λ n w. declarator g n w) flat ((ss ++ t ∷ us) ++ rest) (Some (declarator_of (extent (ss ++ t ∷ us)) i (named t x) xs, rest)) same (also_1 (λ n. sizes n g (us ++ rest)) (Some (xs, rest)) (λ n. declarator g n flat) (Some (declarator_of (extent (ss ++ t ∷ us)) i (named t x) xs, rest)) (sizes_read f xs us r g leave rest off) (λ n one. declarator_turn n g flat (t ∷ (us ++ rest)) (us ++ rest) rest i (named t x) xs (extent (ss ++ t ∷ us)) (stars_read i ss s (t ∷ (us ++ rest)) (name_no_star t x (us ++ rest) h)) (name_is t x (us ++ rest) h) one (span_to flat (ss ++ t ∷ us) rest same)))

declarator_sized : (d : Declarator) (ts : List Token) → SpellsDeclarator false d ts → is_sized d.sizes ≡ true
declarator_sized d ts (SpellsDeclarator.declarator {xs = xs} {ts = us} t h s r) = sizes_sized xs us r

-- ---- brace lists

plain_turn : (ts rest : List Token) (i : ℤ) (at : Span) → after w.Minus ts ≡ None → next number_of ts ≡ Some (i, rest) → extent_to ts rest ≡ at → signed ts ≡ Some (signed_of at false i, rest)
plain_turn ts rest i at off is span = rw off (rw is (rw span refl))

negative_turn : (ts us rest : List Token) (i : ℤ) (at : Span) → after w.Minus ts ≡ Some us → next number_of us ≡ Some (i, rest) → extent_to ts rest ≡ at → signed ts ≡ Some (signed_of at true i, rest)
negative_turn ts us rest i at is one span = rw is (rw one (rw span refl))

signed_reads : (x : Signed) (ts : List Token) → SpellsSigned x ts → (rest : List Token) → signed (ts ++ rest) ≡ Some (x, rest)
signed_reads x ts (SpellsSigned.plain {n = i} t h) rest = plain_turn (t ∷ rest) rest i t.span (after_none w.Minus t rest (ap (is w.Minus) h)) (number_is t i rest h) (extent_to_is (t ∷ []) rest)
signed_reads x ts (SpellsSigned.negative {n = i} a t h g) rest = negative_turn (a ∷ t ∷ rest) (t ∷ rest) rest i (extent (a ∷ t ∷ [])) (after_is w.Minus a (t ∷ rest) h) (number_is t i rest g) (extent_to_is (a ∷ t ∷ []) rest)

-- a number is no `}`
signed_first : (x : Signed) (ts : List Token) → SpellsSigned x ts → (rest : List Token) → after w.CloseCurly (ts ++ rest) ≡ None
signed_first x ts (SpellsSigned.plain t h) rest = after_none w.CloseCurly t rest (ap (is w.CloseCurly) h)
signed_first x ts (SpellsSigned.negative a t h g) rest = after_other w.CloseCurly w.Minus a (t ∷ rest) h refl

numbers_first : (xs : List Signed) (ts : List Token) → SpellNumbers xs ts → (rest : List Token) → after w.CloseCurly (ts ++ rest) ≡ None
numbers_first xs ts (SpellNumbers.last {x = x} {ts = us} s) rest = signed_first x us s rest
numbers_first xs ts (SpellNumbers.last_comma {x = x} {ts = us} c h s) rest = ap (after w.CloseCurly) (append_assoc us (c ∷ []) rest) ∙ signed_first x us s (c ∷ rest)
numbers_first xs ts (SpellNumbers.more {x = x} {ts = us} {us = vs} c h s r) rest = ap (after w.CloseCurly) (append_assoc us (c ∷ vs) rest) ∙ signed_first x us s (c ∷ (vs ++ rest))

numbers_last : (ts us rest : List Token) (x : Signed) → signed ts ≡ Some (x, us) → after w.CloseCurly us ≡ Some rest → Settles (λ n. numbers n ts) (Some (x ∷ [], rest))
unfolding numbers
numbers_last ts us rest x a b = settle_0 (λ n. numbers n ts) (Some (x ∷ [], rest)) (λ n. rw a (rw b refl))

numbers_comma : (ts us vs rest : List Token) (x : Signed) → signed ts ≡ Some (x, us) → after w.CloseCurly us ≡ None → after w.Comma us ≡ Some vs → after w.CloseCurly vs ≡ Some rest → Settles (λ n. numbers n ts) (Some (x ∷ [], rest))
unfolding numbers
numbers_comma ts us vs rest x a b c d = settle_0 (λ n. numbers n ts) (Some (x ∷ [], rest)) (λ n. rw a (rw b (rw c (rw d refl))))

numbers_more : (ts us vs rest : List Token) (x : Signed) (xs : List Signed) → signed ts ≡ Some (x, us) → after w.CloseCurly us ≡ None → after w.Comma us ≡ Some vs → after w.CloseCurly vs ≡ None → Settles (λ n. numbers n vs) (Some (xs, rest)) → Settles (λ n. numbers n ts) (Some (x ∷ xs, rest))
unfolding numbers
numbers_more ts us vs rest x xs a b c d s = settle_1 (λ n. numbers n vs) (Some (xs, rest)) (λ n. numbers n ts) (Some (x ∷ xs, rest)) s (λ n one. rw a (rw b (rw c (rw d (rw one refl)))))

-- read up to and with `}`
numbers_read : (xs : List Signed) (ts : List Token) → SpellNumbers xs ts → (t : Token) (rest : List Token) → Is w.CloseCurly t → Settles (λ n. numbers n (ts ++ t ∷ rest)) (Some (xs, rest))
numbers_read xs ts (SpellNumbers.last {x = x} {ts = us} s) t rest h = numbers_last (us ++ t ∷ rest) (t ∷ rest) rest x (signed_reads x us s (t ∷ rest)) (after_is w.CloseCurly t rest h)
numbers_read xs ts (SpellNumbers.last_comma {x = x} {ts = us} c g s) t rest h = settles_at numbers (us ++ (c ∷ t ∷ rest)) ((us ++ c ∷ []) ++ t ∷ rest) (Some (x ∷ [], rest)) (sym (append_assoc us (c ∷ []) (t ∷ rest))) (numbers_comma (us ++ (c ∷ t ∷ rest)) (c ∷ t ∷ rest) (t ∷ rest) rest x (signed_reads x us s (c ∷ t ∷ rest)) (after_other w.CloseCurly w.Comma c (t ∷ rest) g refl) (after_is w.Comma c (t ∷ rest) g) (after_is w.CloseCurly t rest h))
numbers_read xs ts (SpellNumbers.more {x = x} {xs = ys} {ts = us} {us = vs} c g s r) t rest h =
    let tail : List Token = vs ++ t ∷ rest in
    settles_at numbers (us ++ (c ∷ tail)) ((us ++ c ∷ vs) ++ t ∷ rest) (Some (x ∷ ys, rest)) (sym (append_assoc us (c ∷ vs) (t ∷ rest))) (numbers_more (us ++ (c ∷ tail)) (c ∷ tail) tail rest x ys (signed_reads x us s (c ∷ tail)) (after_other w.CloseCurly w.Comma c tail g refl) (after_is w.Comma c tail g) (numbers_first ys vs r (t ∷ rest)) (numbers_read ys vs r t rest h))

-- ---- declared names

nothing_turn : (n : ℕ) (ts rest : List Token) (d : Declarator) (at : Span) → declarator true n ts ≡ Some (d, rest) → after w.Assign rest ≡ None → is_sized d.sizes ≡ true → extent_to ts rest ≡ at → declared n ts ≡ Some (declared_of at d init.Nothing, rest)
nothing_turn n ts rest d at a b c span = rw a (rw b (rw c (rw span refl)))

value_turn : (n : ℕ) (ts us vs rest : List Token) (d : Declarator) (x : Expr) (at : Span) → declarator true n ts ≡ Some (d, us) → after w.Assign us ≡ Some vs → after w.OpenCurly vs ≡ None → is_sized d.sizes ≡ true → expr n vs ≡ Some (x, rest) → extent_to ts rest ≡ at → declared n ts ≡ Some (declared_of at d (init.Value x), rest)
value_turn n ts us vs rest d x at a b c e f span = rw a (rw b (rw c (rw e (rw f (rw span refl)))))

list_turn : (n : ℕ) (ts us vs ws rest : List Token) (d : Declarator) (xs : List Signed) (at inside : Span) → declarator true n ts ≡ Some (d, us) → after w.Assign us ≡ Some vs → after w.OpenCurly vs ≡ Some ws → numbers n ws ≡ Some (xs, rest) → extent_to ts rest ≡ at → extent_to vs rest ≡ inside → declared n ts ≡ Some (declared_of at d (init.List inside xs), rest)
list_turn n ts us vs ws rest d xs at inside a b c e span inner = rw a (rw b (rw c (rw e (rw span (rw inner refl)))))

pub declared_reads : (x : Declared) (ts : List Token) → SpellsDeclared x ts → (rest : List Token) → Ended rest → Settles (λ n. declared n (ts ++ rest)) (Some (x, rest))
declared_reads x ts (SpellsDeclared.plain {d = d} {ts = us} s) rest ended = also_1 (λ n. declarator true n (us ++ rest)) (Some (d, rest)) (λ n. declared n (us ++ rest)) (Some (declared_of (extent us) d init.Nothing, rest)) (declarator_reads false d us s true (λ leave. refl) rest ended.square) (λ n one. nothing_turn n (us ++ rest) rest d (extent us) one ended.assign (declarator_sized d us s) (extent_to_is us rest))
declared_reads x ts (SpellsDeclared.value {d = d} {a = a} {ts = us} {us = vs} t h s r) rest ended =
    let tail : List Token = t ∷ (vs ++ rest) in
    let same : us ++ tail ≡ (us ++ t ∷ vs) ++ rest = sym (append_assoc us (t ∷ vs) rest) in
    let made = Some (declared_of (extent (us ++ t ∷ vs)) d (init.Value a), rest) in
    settles_at declared (us ++ tail) ((us ++ t ∷ vs) ++ rest) made same (also_2 (λ n. declarator true n (us ++ tail)) (Some (d, tail)) (λ n. expr n (vs ++ rest)) (Some (a, rest)) (λ n. declared n (us ++ tail)) made (declarator_reads false d us s true (λ leave. refl) tail (after_other w.OpenSquare w.Assign t (vs ++ rest) h refl)) ((read r).expr rest ended.stops) (λ n one two. value_turn n (us ++ tail) tail (vs ++ rest) rest d a (extent (us ++ t ∷ vs)) one (after_is w.Assign t (vs ++ rest) h) (after_leads w.OpenCurly vs rest (expr_first r) refl) (declarator_sized d us s) two (span_to (us ++ tail) (us ++ t ∷ vs) rest same)))
declared_reads x ts (SpellsDeclared.list {d = d} {xs = xs} {ts = us} {us = vs} t first last h g l s r) rest ended =
    let inside : List Token = first ∷ (vs ++ last ∷ []) in
    let flat : List Token = first ∷ (vs ++ last ∷ rest) in
    let inner : flat ≡ inside ++ rest = ap (λ (w : List Token). first ∷ w) (sym (append_assoc vs (last ∷ []) rest)) in
    let tail : List Token = t ∷ flat in
    let same : us ++ tail ≡ (us ++ t ∷ inside) ++ rest = ap (λ (w : List Token). us ++ t ∷ w) inner ∙ sym (append_assoc us (t ∷ inside) rest) in
    let made = Some (declared_of (extent (us ++ t ∷ inside)) d (init.List (extent inside) xs), rest) in
    settles_at declared (us ++ tail) ((us ++ t ∷ inside) ++ rest) made same (also_2 (λ n. declarator true n (us ++ tail)) (Some (d, tail)) (λ n. numbers n (vs ++ last ∷ rest)) (Some (xs, rest)) (λ n. declared n (us ++ tail)) made (declarator_reads true d us s true (λ leave. refl) tail (after_other w.OpenSquare w.Assign t flat h refl)) (numbers_read xs vs r last rest l) (λ n one two. list_turn n (us ++ tail) tail flat (vs ++ last ∷ rest) rest d xs (extent (us ++ t ∷ inside)) (extent inside) one (after_is w.Assign t flat h) (after_is w.OpenCurly first (vs ++ last ∷ rest) g) two (span_to (us ++ tail) (us ++ t ∷ inside) rest same) (span_to flat inside rest inner)))

decl_turn : (n : ℕ) (ts us vs rest : List Token) (x : Base) (xs : List Declared) (at : Span) → base ts ≡ Some (x, us) → separated declared n us ≡ Some (xs, vs) → after w.Semicolon vs ≡ Some rest → extent_to ts rest ≡ at → decl n ts ≡ Some (decl_of at x xs, rest)
decl_turn n ts us vs rest x xs at a b c span = rw a (rw b (rw c (rw span refl)))

pub decl_reads : (d : Decl) (ts : List Token) → SpellsDecl d ts → (rest : List Token) → Settles (λ n. decl n (ts ++ rest)) (Some (d, rest))
decl_reads d ts (SpellsDecl.decl {base = x} {xs = xs} {bs = bs} {ts = us} t h s r) rest =
    let inner : us ++ t ∷ rest ≡ (us ++ t ∷ []) ++ rest = sym (append_assoc us (t ∷ []) rest) in
    let flat : List Token = bs ++ (us ++ t ∷ rest) in
    let same : flat ≡ (bs ++ (us ++ t ∷ [])) ++ rest = ap (λ (w : List Token). bs ++ w) inner ∙ sym (append_assoc bs (us ++ t ∷ []) rest) in
    let made = Some (decl_of (extent (bs ++ (us ++ t ∷ []))) x xs, rest) in
    let items = separated_reads SpellsDeclared Ended declared declared_reads ended_comma xs us r (t ∷ rest) (ended_semicolon t rest h) (after_other w.Comma w.Semicolon t rest h refl) in
    settles_at decl flat ((bs ++ (us ++ t ∷ [])) ++ rest) made same (also_1 (λ n. separated declared n (us ++ t ∷ rest)) (Some (xs, t ∷ rest)) (λ n. decl n flat) made items (λ n one. decl_turn n flat (us ++ t ∷ rest) (t ∷ rest) rest x xs (extent (bs ++ (us ++ t ∷ []))) (base_reads x bs s (us ++ t ∷ rest)) one (after_is w.Semicolon t rest h) (span_to flat (bs ++ (us ++ t ∷ [])) rest same)))
