-- Terminals, and what parsers on lists answer.
use Rattle.std.proofs.Common.{◌≡◌, ℕ, zero, suc, ◌+◌, ◌≤◌, ◌<◌, ◌-◌, Bool, true, false, List, [], ◌∷◌, ◌++◌, map, length, take, drop, get_or, Option, Some, None, refl, sym, ap, ◌∙◌, subst, arith, append_assoc, length-append, length-drop, get_or-drop}
use Rattle.std.proofs.lemmas.Bool.{eqb-true, false≢true}
use Rattle.std.proofs.lemmas.List.{take_at, drop_more, get_or_default}
use Rattle.ax_prog.specs.declared.Span.{Span}
use Rattle.ax_prog.specs.declared.tokens.Keyword.TheVariants as kw
use Rattle.ax_prog.specs.declared.tokens.Mark.TheVariants as m
use Rattle.ax_prog.specs.declared.tokens.Kind.{Kind}
use Rattle.ax_prog.specs.declared.tokens.Kind.TheVariants as k
use Rattle.ax_prog.specs.declared.tokens.Token.{Token}
use Rattle.ax_parse_grammar.specs.declared.terminals.Terminal.{Terminal}
use Rattle.ax_parse_grammar.specs.declared.terminals.Terminal.TheVariants as w
use Rattle.ax_parse_grammar.specs.Terminals.{kind_of, Is, is, Are, named, end_of, extent}
use Rattle.ax_parse_grammar.specs.Declarations.{SpellAll, SpellSeparated}
use Rattle.ax_parse_grammar.specs.Statements.{SpellsMaybe}
use Rattle.ax_parse_grammar.specs.Reading.{extent_to, Parser, after, past, next, name, until, maybe_until, separated, repeated, Settles}

pub is_same : (what : Terminal) → is what (kind_of what) ≡ true
is_same w.Int = refl
is_same w.Struct = refl
is_same w.Void = refl
is_same w.If = refl
is_same w.Else = refl
is_same w.While = refl
is_same w.Do = refl
is_same w.For = refl
is_same w.Break = refl
is_same w.Continue = refl
is_same w.Return = refl
is_same w.Scanf = refl
is_same w.Printf = refl
is_same w.OpenRound = refl
is_same w.CloseRound = refl
is_same w.OpenSquare = refl
is_same w.CloseSquare = refl
is_same w.OpenCurly = refl
is_same w.CloseCurly = refl
is_same w.Semicolon = refl
is_same w.Comma = refl
is_same w.Dot = refl
is_same w.Arrow = refl
is_same w.Assign = refl
is_same w.Question = refl
is_same w.Colon = refl
is_same w.PlusPlus = refl
is_same w.MinusMinus = refl
is_same w.Star = refl
is_same w.Minus = refl
is_same w.Amp = refl
is_same w.Format = refl

pub is_true : (what : Terminal) (kind : Kind) → is what kind ≡ true → kind ≡ kind_of what
is_true w.Int (k.Keyword kw.Int) h = refl
is_true w.Int _ h = absurd (false≢true h)
is_true w.Struct (k.Keyword kw.Struct) h = refl
is_true w.Struct _ h = absurd (false≢true h)
is_true w.Void (k.Keyword kw.Void) h = refl
is_true w.Void _ h = absurd (false≢true h)
is_true w.If (k.Keyword kw.If) h = refl
is_true w.If _ h = absurd (false≢true h)
is_true w.Else (k.Keyword kw.Else) h = refl
is_true w.Else _ h = absurd (false≢true h)
is_true w.While (k.Keyword kw.While) h = refl
is_true w.While _ h = absurd (false≢true h)
is_true w.Do (k.Keyword kw.Do) h = refl
is_true w.Do _ h = absurd (false≢true h)
is_true w.For (k.Keyword kw.For) h = refl
is_true w.For _ h = absurd (false≢true h)
is_true w.Break (k.Keyword kw.Break) h = refl
is_true w.Break _ h = absurd (false≢true h)
is_true w.Continue (k.Keyword kw.Continue) h = refl
is_true w.Continue _ h = absurd (false≢true h)
is_true w.Return (k.Keyword kw.Return) h = refl
is_true w.Return _ h = absurd (false≢true h)
is_true w.Scanf (k.Keyword kw.Scanf) h = refl
is_true w.Scanf _ h = absurd (false≢true h)
is_true w.Printf (k.Keyword kw.Printf) h = refl
is_true w.Printf _ h = absurd (false≢true h)
is_true w.OpenRound (k.Mark m.OpenRound) h = refl
is_true w.OpenRound _ h = absurd (false≢true h)
is_true w.CloseRound (k.Mark m.CloseRound) h = refl
is_true w.CloseRound _ h = absurd (false≢true h)
is_true w.OpenSquare (k.Mark m.OpenSquare) h = refl
is_true w.OpenSquare _ h = absurd (false≢true h)
is_true w.CloseSquare (k.Mark m.CloseSquare) h = refl
is_true w.CloseSquare _ h = absurd (false≢true h)
is_true w.OpenCurly (k.Mark m.OpenCurly) h = refl
is_true w.OpenCurly _ h = absurd (false≢true h)
is_true w.CloseCurly (k.Mark m.CloseCurly) h = refl
is_true w.CloseCurly _ h = absurd (false≢true h)
is_true w.Semicolon (k.Mark m.Semicolon) h = refl
is_true w.Semicolon _ h = absurd (false≢true h)
is_true w.Comma (k.Mark m.Comma) h = refl
is_true w.Comma _ h = absurd (false≢true h)
is_true w.Dot (k.Mark m.Dot) h = refl
is_true w.Dot _ h = absurd (false≢true h)
is_true w.Arrow (k.Mark m.Arrow) h = refl
is_true w.Arrow _ h = absurd (false≢true h)
is_true w.Assign (k.Mark m.Assign) h = refl
is_true w.Assign _ h = absurd (false≢true h)
is_true w.Question (k.Mark m.Question) h = refl
is_true w.Question _ h = absurd (false≢true h)
is_true w.Colon (k.Mark m.Colon) h = refl
is_true w.Colon _ h = absurd (false≢true h)
is_true w.PlusPlus (k.Mark m.PlusPlus) h = refl
is_true w.PlusPlus _ h = absurd (false≢true h)
is_true w.MinusMinus (k.Mark m.MinusMinus) h = refl
is_true w.MinusMinus _ h = absurd (false≢true h)
is_true w.Star (k.Mark m.Star) h = refl
is_true w.Star _ h = absurd (false≢true h)
is_true w.Minus (k.Mark m.Minus) h = refl
is_true w.Minus _ h = absurd (false≢true h)
is_true w.Amp (k.Mark m.Amp) h = refl
is_true w.Amp _ h = absurd (false≢true h)
is_true w.Format (k.Format n) h = ap (λ (i : ℕ). k.Format i) (eqb-true n 0 h)
is_true w.Format _ h = absurd (false≢true h)

-- ---- the first token

pub after_is : (what : Terminal) (t : Token) (rest : List Token) → Is what t → after what (t ∷ rest) ≡ Some rest
after_is what t rest h =
    let e : is what t.kind ≡ true = ap (is what) h ∙ is_same what in
    rw e refl

-- a token that isn't the terminal
pub after_none : (what : Terminal) (t : Token) (rest : List Token) → is what t.kind ≡ false → after what (t ∷ rest) ≡ None
after_none what t rest off = rw off refl

-- another terminal
pub after_other : (what other : Terminal) (t : Token) (rest : List Token) → Is other t → is what (kind_of other) ≡ false → after what (t ∷ rest) ≡ None
after_other what other t rest h off = after_none what t rest (ap (is what) h ∙ off)

pub next_is : {A : Type 0} (f : Kind → Option A) (t : Token) (rest : List Token) (a : A) → f t.kind ≡ Some a → next f (t ∷ rest) ≡ Some (a, rest)
next_is f t rest a h = rw h refl

pub next_none : {A : Type 0} (f : Kind → Option A) (t : Token) (rest : List Token) → f t.kind ≡ None → next f (t ∷ rest) ≡ None
next_none f t rest h = rw h refl

pub past_is : (whats : List Terminal) (front rest : List Token) → Are whats front → past whats (front ++ rest) ≡ Some rest
past_is [] [] rest h = refl
past_is [] (t ∷ front) rest h = cc
past_is (what ∷ whats) [] rest h = cc
past_is (what ∷ whats) (t ∷ front) rest h =
    let head : t.kind ≡ kind_of what = cc in
    let tail : map (λ u. u.kind) front ≡ map kind_of whats = cc in
    rw (after_is what t (front ++ rest) head) (past_is whats front rest tail)

-- the first of these tokens
pub are_first : (what : Terminal) (whats : List Terminal) (front : List Token) → Are (what ∷ whats) front → (t : Token) × (us : List Token) × (front ≡ t ∷ us) × Is what t
are_first what whats [] h = cc
are_first what whats (t ∷ front) h = (t, front, refl, (let e : t.kind ≡ kind_of what = cc in e))

pub name_is : (t : Token) (x : List ℕ) (rest : List Token) → t.kind ≡ k.Name x → name (t ∷ rest) ≡ Some (named t x, rest)
name_is t x rest h = rw h refl

-- ---- spans

pub extent_to_is : (front rest : List Token) → extent_to (front ++ rest) rest ≡ extent front
extent_to_is front rest = ap extent (take_at front rest (length (front ++ rest) - length rest) (omega (arith, length-append front rest)))

end_of_take : (ts : List Token) (t d : Token) (j : ℕ) → j ≤ length ts → end_of t.span.to (take j ts) ≡ (get_or (t ∷ ts) j d).span.to
end_of_take ts t d zero le = refl
end_of_take [] t d (suc j) le = absurd (omega arith)
end_of_take (u ∷ ts) t d (suc j) le = end_of_take ts u d j (omega arith)

pub extent_at : (ts : List Token) (from to : ℕ) (d e : Token) → from < to → to ≤ length ts → record { from = (get_or ts from d).span.from; to = (get_or ts (to - 1) e).span.to } ≡ extent_to (drop from ts) (drop to ts)
extent_at ts from to d e lt le =
    let n = to - from - 1 in
    let t = get_or ts from d in
    let rest = drop (from + 1) ts in
    let start : drop from ts ≡ t ∷ rest = drop_more ts from d (omega arith) in
    let count : length (drop from ts) - length (drop to ts) ≡ suc n = omega (arith, length-drop from ts, length-drop to ts) in
    let cut : extent_to (drop from ts) (drop to ts) ≡ extent (take (suc n) (t ∷ rest)) = ap (λ (k : ℕ). extent (take k (drop from ts))) count ∙ ap (λ (l : List Token). extent (take (suc n) l)) start in
    let last : end_of t.span.to (take n rest) ≡ (get_or ts (to - 1) d).span.to = end_of_take rest t d n (omega (arith, length-drop (from + 1) ts)) ∙ ap (λ (l : List Token). (get_or l n d).span.to) (sym start) ∙ ap (λ (u : Token). u.span.to) (get_or-drop from ts n d) ∙ ap (λ (k : ℕ). (get_or ts k d).span.to) (let same : from + n ≡ to - 1 = omega arith in same) in
    let made : record { from = t.span.from; to = (get_or ts (to - 1) e).span.to } ≡ record { from = t.span.from; to = end_of t.span.to (take n rest) } = ap (λ (k : ℕ). let s : Span = record { from = t.span.from; to = k } in s) (ap (λ (u : Token). u.span.to) (get_or_default ts (to - 1) e d (omega arith)) ∙ sym last) in
    made ∙ sym cut

-- ---- what is settled

pub settle_0 : {A : Type 0} (g : ℕ → Option A) (p : Option A) → ((n : ℕ) → g (suc n) ≡ p) → Settles g p
settle_0 {A = A} g p s = (1, go)
  where
    go : (m : ℕ) → 1 ≤ m → g m ≡ p
    go zero le = absurd (omega arith)
    go (suc k) le = s k

pub settle_1 : {A B : Type 0} (f : ℕ → Option A) (o : Option A) (g : ℕ → Option B) (p : Option B) → Settles f o → ((n : ℕ) → f n ≡ o → g (suc n) ≡ p) → Settles g p
settle_1 {A = A} {B = B} f o g p a s = (suc a.0, go)
  where
    go : (m : ℕ) → suc a.0 ≤ m → g m ≡ p
    go zero le = absurd (omega arith)
    go (suc k) le = s k (a.1 k (omega arith))

pub settle_2 : {A B C : Type 0} (e : ℕ → Option A) (o : Option A) (f : ℕ → Option B) (q : Option B) (g : ℕ → Option C) (p : Option C) → Settles e o → Settles f q → ((n : ℕ) → e n ≡ o → f n ≡ q → g (suc n) ≡ p) → Settles g p
settle_2 {A = A} {B = B} {C = C} e o f q g p a b s = (suc (a.0 + b.0), go)
  where
    go : (m : ℕ) → suc (a.0 + b.0) ≤ m → g m ≡ p
    go zero le = absurd (omega arith)
    go (suc k) le = s k (a.1 k (omega arith)) (b.1 k (omega arith))

pub settle_3 : {A B C D : Type 0} (d : ℕ → Option A) (o : Option A) (e : ℕ → Option B) (q : Option B) (f : ℕ → Option C) (r : Option C) (g : ℕ → Option D) (p : Option D) → Settles d o → Settles e q → Settles f r → ((n : ℕ) → d n ≡ o → e n ≡ q → f n ≡ r → g (suc n) ≡ p) → Settles g p
settle_3 {A = A} {B = B} {C = C} {D = D} d o e q f r g p a b c s = (suc (a.0 + (b.0 + c.0)), go)
  where
    go : (m : ℕ) → suc (a.0 + (b.0 + c.0)) ≤ m → g m ≡ p
    go zero le = absurd (omega arith)
    go (suc k) le = s k (a.1 k (omega arith)) (b.1 k (omega arith)) (c.1 k (omega arith))

-- the same at each number, and so not deeper
pub also_1 : {A B : Type 0} (f : ℕ → Option A) (o : Option A) (g : ℕ → Option B) (p : Option B) → Settles f o → ((n : ℕ) → f n ≡ o → g n ≡ p) → Settles g p
also_1 f o g p a s = (a.0, λ m le. s m (a.1 m le))

pub also_2 : {A B C : Type 0} (e : ℕ → Option A) (o : Option A) (f : ℕ → Option B) (q : Option B) (g : ℕ → Option C) (p : Option C) → Settles e o → Settles f q → ((n : ℕ) → e n ≡ o → f n ≡ q → g n ≡ p) → Settles g p
also_2 e o f q g p a b s = (a.0 + b.0, λ m le. s m (a.1 m (omega arith)) (b.1 m (omega arith)))

pub also_3 : {A B C D : Type 0} (d : ℕ → Option A) (o : Option A) (e : ℕ → Option B) (q : Option B) (f : ℕ → Option C) (r : Option C) (g : ℕ → Option D) (p : Option D) → Settles d o → Settles e q → Settles f r → ((n : ℕ) → d n ≡ o → e n ≡ q → f n ≡ r → g n ≡ p) → Settles g p
also_3 d o e q f r g p a b c s = (a.0 + (b.0 + c.0), λ m le. s m (a.1 m (omega arith)) (b.1 m (omega arith)) (c.1 m (omega arith)))

-- only one answer is settled on
pub settles_one : {A : Type 0} (f : ℕ → Option A) (o p : Option A) → Settles f o → Settles f p → o ≡ p
settles_one f o p a b = sym (a.1 (a.0 + b.0) (omega arith)) ∙ b.1 (a.0 + b.0) (omega arith)

-- tokens by another name
pub settles_at : {A : Type 0} (f : ℕ → List Token → Option A) (ts us : List Token) (o : Option A) → ts ≡ us → Settles (λ n. f n ts) o → Settles (λ n. f n us) o
settles_at f ts us o same a = subst (λ (l : List Token). Settles (λ n. f n l) o) same a

-- ---- building blocks

-- the extent of a front
pub span_to : (ts front rest : List Token) → ts ≡ front ++ rest → extent_to ts rest ≡ extent front
span_to ts front rest h = ap (λ (w : List Token). extent_to w rest) h ∙ extent_to_is front rest

pub until_turn : {A : Type 0} (what : Terminal) (p : Parser A) (ts r rest : List Token) (x : A) → p ts ≡ Some (x, r) → after what r ≡ Some rest → until what p ts ≡ Some (x, rest)
until_turn what p ts r rest x one two = rw one (rw two refl)

pub maybe_none : {A : Type 0} (what : Terminal) (p : Parser A) (ts rest : List Token) → after what ts ≡ Some rest → maybe_until what p ts ≡ Some (None, rest)
maybe_none what p ts rest is = rw is refl

pub maybe_some : {A : Type 0} (what : Terminal) (p : Parser A) (ts rest : List Token) (x : A) → after what ts ≡ None → until what p ts ≡ Some (x, rest) → maybe_until what p ts ≡ Some (Some x, rest)
maybe_some what p ts rest x off is = rw off (rw is refl)

-- what may be left out, before its terminal
pub maybe_reads : {A : Type 0} (P : A → List Token → Type 0) (what : Terminal) (p : ℕ → Parser A)
    → ((x : A) (ts : List Token) → P x ts → (t : Token) (rest : List Token) → Is what t → Settles (λ n. p n (ts ++ t ∷ rest)) (Some (x, t ∷ rest)))
    → ((x : A) (ts : List Token) → P x ts → (rest : List Token) → after what (ts ++ rest) ≡ None)
    → (o : Option A) (ts : List Token) → SpellsMaybe P o ts → (t : Token) (rest : List Token) → Is what t → Settles (λ n. maybe_until what (p n) (ts ++ t ∷ rest)) (Some (o, rest))
maybe_reads {A = A} P what p reads off o ts SpellsMaybe.nothing t rest h = (0, λ m le. maybe_none what (p m) (t ∷ rest) rest (after_is what t rest h))
maybe_reads {A = A} P what p reads off o ts (SpellsMaybe.some {x = x} {ts = us} s) t rest h = also_1 (λ n. p n (us ++ t ∷ rest)) (Some (x, t ∷ rest)) (λ n. maybe_until what (p n) (us ++ t ∷ rest)) (Some (Some x, rest)) (reads x us s t rest h) (λ n one. maybe_some what (p n) (us ++ t ∷ rest) rest x (off x us s (t ∷ rest)) (until_turn what (p n) (us ++ t ∷ rest) (t ∷ rest) rest x one (after_is what t rest h)))

separated_one : {A : Type 0} (p : ℕ → Parser A) (ts rest : List Token) (x : A) → after w.Comma rest ≡ None → Settles (λ n. p n ts) (Some (x, rest)) → Settles (λ n. separated p n ts) (Some (x ∷ [], rest))
unfolding separated
separated_one p ts rest x off a = settle_1 (λ n. p n ts) (Some (x, rest)) (λ n. separated p n ts) (Some (x ∷ [], rest)) a (λ n one. rw one (rw off refl))

separated_more : {A : Type 0} (p : ℕ → Parser A) (ts r us rest : List Token) (x : A) (xs : List A) → after w.Comma r ≡ Some us → Settles (λ n. p n ts) (Some (x, r)) → Settles (λ n. separated p n us) (Some (xs, rest)) → Settles (λ n. separated p n ts) (Some (x ∷ xs, rest))
unfolding separated
separated_more p ts r us rest x xs is a b = settle_2 (λ n. p n ts) (Some (x, r)) (λ n. separated p n us) (Some (xs, rest)) (λ n. separated p n ts) (Some (x ∷ xs, rest)) a b (λ n one two. rw one (rw is (rw two refl)))

-- one or more with commas between them; Ends says what may follow one
pub separated_reads : {A : Type 0} (P : A → List Token → Type 0) (Ends : List Token → Type 0) (p : ℕ → Parser A)
    → ((x : A) (ts : List Token) → P x ts → (rest : List Token) → Ends rest → Settles (λ n. p n (ts ++ rest)) (Some (x, rest)))
    → ((t : Token) (rest : List Token) → Is w.Comma t → Ends (t ∷ rest))
    → (xs : List A) (us : List Token) → SpellSeparated P xs us → (rest : List Token) → Ends rest → after w.Comma rest ≡ None → Settles (λ n. separated p n (us ++ rest)) (Some (xs, rest))
separated_reads {A = A} P Ends p reads comma xs us (SpellSeparated.one {x = x} {ts = ts} s) rest ends off = separated_one p (ts ++ rest) rest x off (reads x ts s rest ends)
separated_reads {A = A} P Ends p reads comma xs us (SpellSeparated.more {x = x} {xs = ys} {ts = ts} {us = vs} c h s r) rest ends off =
    settles_at (λ n w. separated p n w) (ts ++ (c ∷ vs ++ rest)) ((ts ++ c ∷ vs) ++ rest) (Some (x ∷ ys, rest)) (sym (append_assoc ts (c ∷ vs) rest)) (separated_more p (ts ++ (c ∷ vs ++ rest)) (c ∷ vs ++ rest) (vs ++ rest) rest x ys (after_is w.Comma c (vs ++ rest) h) (reads x ts s (c ∷ vs ++ rest) (comma c (vs ++ rest) h)) (separated_reads P Ends p reads comma ys vs r rest ends off))

repeated_end : {A : Type 0} (ends : List Token → Bool) (p : ℕ → Parser A) (ts : List Token) → ends ts ≡ true → Settles (λ n. repeated ends p n ts) (Some ([], ts))
unfolding repeated
repeated_end ends p ts is = settle_0 (λ n. repeated ends p n ts) (Some ([], ts)) (λ n. rw is refl)

repeated_more : {A : Type 0} (ends : List Token → Bool) (p : ℕ → Parser A) (ts us rest : List Token) (x : A) (xs : List A) → ends ts ≡ false → Settles (λ n. p n ts) (Some (x, us)) → Settles (λ n. repeated ends p n us) (Some (xs, rest)) → Settles (λ n. repeated ends p n ts) (Some (x ∷ xs, rest))
unfolding repeated
repeated_more ends p ts us rest x xs off a b = settle_2 (λ n. p n ts) (Some (x, us)) (λ n. repeated ends p n us) (Some (xs, rest)) (λ n. repeated ends p n ts) (Some (x ∷ xs, rest)) a b (λ n one two. rw off (rw one (rw two refl)))

-- one after another up to an end
pub repeated_reads : {A : Type 0} (P : A → List Token → Type 0) (ends : List Token → Bool) (p : ℕ → Parser A)
    → ((x : A) (ts : List Token) → P x ts → (rest : List Token) → Settles (λ n. p n (ts ++ rest)) (Some (x, rest)))
    → ((x : A) (ts : List Token) → P x ts → (rest : List Token) → ends (ts ++ rest) ≡ false)
    → (xs : List A) (us : List Token) → SpellAll P xs us → (rest : List Token) → ends rest ≡ true → Settles (λ n. repeated ends p n (us ++ rest)) (Some (xs, rest))
repeated_reads {A = A} P ends p reads off xs us SpellAll.none rest is = repeated_end ends p rest is
repeated_reads {A = A} P ends p reads off xs us (SpellAll.more {x = x} {xs = ys} {ts = ts} {us = vs} s r) rest is =
    settles_at (λ n w. repeated ends p n w) (ts ++ (vs ++ rest)) ((ts ++ vs) ++ rest) (Some (x ∷ ys, rest)) (sym (append_assoc ts vs rest)) (repeated_more ends p (ts ++ (vs ++ rest)) (vs ++ rest) rest x ys (off x ts s (vs ++ rest)) (reads x ts s (vs ++ rest)) (repeated_reads P ends p reads off ys vs r rest is))
