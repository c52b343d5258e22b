-- What the parser of expressions reads is spelled.
use Rattle.std.proofs.Common.{◌≡◌, ℕ, zero, suc, ◌≤◌, ◌<◌, nat_le, Bool, true, false, cond, List, [], ◌∷◌, ◌++◌, Option, Some, None, refl, sym, ap, ◌∙◌, subst, arith, append_assoc, ⊎_elim}
use Rattle.std.proofs.lemmas.Bool.{false≢true, cases_lt, leb-true}
use Rattle.std.proofs.lemmas.Option.{none-some, same_Some}
use Rattle.ax_prog.specs.declared.Span.{Span}
use Rattle.ax_prog.specs.declared.Bin.{Bin}
use Rattle.ax_prog.specs.declared.tokens.Mark.TheVariants as m
use Rattle.ax_prog.specs.declared.tokens.Kind.{Kind}
use Rattle.ax_prog.specs.declared.tokens.Kind.TheVariants as k
use Rattle.ax_prog.specs.declared.tokens.Token.{Token}
use Rattle.ax_parse_grammar.specs.declared.operators.Post.{Post}
use Rattle.ax_parse_grammar.specs.declared.operators.Post.TheVariants as post
use Rattle.ax_parse_grammar.specs.declared.terminals.Terminal.TheVariants as w
use Rattle.ax_parse_grammar.specs.declared.tree.Name.{Name}
use Rattle.ax_parse_grammar.specs.declared.tree.Prefix.{Prefix}
use Rattle.ax_parse_grammar.specs.declared.tree.Expr.{Expr}
use Rattle.ax_parse_grammar.specs.declared.tree.Expr.TheVariants as e
use Rattle.ax_parse_grammar.specs.declared.tree.Simple.TheVariants as act
use Rattle.ax_parse_grammar.specs.Operators.{binary_of, prefix_of, post_of, level}
use Rattle.ax_parse_grammar.specs.Terminals.{kind_of, is, named, extent}
use Rattle.ax_parse_grammar.specs.Expressions.{Spells, SpellArgs, SpellMany}
use Rattle.ax_parse_grammar.specs.Statements.{SpellsSimple}
use Rattle.ax_parse_grammar.specs.Reading.{◌>>=◌, choose, extent_to, after, next, name, until}
use Rattle.ax_parse_grammar.specs.ReadExpressions.{Found, Chain, leaf_in, leaf, op_from, post_by, cond_by, expr, climb, more, unary, postfix, posts, primary, args, many}
use Rattle.ax_parse_grammar.proofs.Tools.{span_to}
use Rattle.ax_parse_grammar.proofs.ExpressionsRead.{level_within, op_from_is}
use Rattle.ax_parse.proofs.Tools.{bind_some, after_some, next_some, name_some, join, cons, Front, Closed, Sound, made, until_some}

-- ---- levels

-- an operand of a level is one of each lower level
pub lower : {l : ℕ} {x : Expr} {ts : List Token} (m : ℕ) → Spells l x ts → m ≤ l → Spells m x ts
lower m (Spells.name t h) le = Spells.name t h
lower m (Spells.number t h) le = Spells.number t h
lower m (Spells.parens a b h g x) le = Spells.parens a b h g x
lower m (Spells.index a b small h g x y) le = Spells.index a b (omega arith) h g x y
lower m (Spells.member a b small h g x) le = Spells.member a b (omega arith) h g x
lower m (Spells.arrow a b small h g x) le = Spells.arrow a b (omega arith) h g x
lower m (Spells.call a b small h g x y) le = Spells.call a b (omega arith) h g x y
lower m (Spells.unary t small h x) le = Spells.unary t (omega arith) h x
lower m (Spells.binary t small h x y) le = Spells.binary t (omega arith) h x y
lower m (Spells.cond {c = c} {a = a} {b = b} {test = test} {then = us} {else = vs} q r h g x y z) le =
    let is : m ≡ 0 = omega arith in
    subst (λ (j : ℕ). Spells j (e.Cond (extent (test ++ q ∷ (us ++ r ∷ vs))) c a b) (test ++ q ∷ (us ++ r ∷ vs))) (sym is) (Spells.cond q r h g x y z)

op_from_some : (min : ℕ) (kind : Kind) (op : Bin) → op_from min kind ≡ Some op → (binary_of kind ≡ Some op) × (min ≤ level op)
op_from_some min kind op h = go (binary_of kind) refl h
  where
    test : (o : Bin) (b : Bool) → nat_le min (level o) ≡ b → cond b (Some o) None ≡ Some op → (o ≡ op) × (min ≤ level op)
    test o false is g = absurd (none-some op g)
    test o true is g = let same : o ≡ op = same_Some o op g in (same, subst (λ (j : Bin). min ≤ level j) same (leb-true min (level o) is))

    go : (o : Option Bin) → binary_of kind ≡ o → choose o None (λ (i : Bin). cond (nat_le min (level i)) (Some i) None) ≡ Some op → (binary_of kind ≡ Some op) × (min ≤ level op)
    go None is g = absurd (none-some op g)
    go (Some i) is g = let p = test i (nat_le min (level i)) refl g in (is ∙ ap (λ (j : Bin). Some j) p.0, p.1)

-- where no operator so tight comes, one that comes is looser
looser : (m min : ℕ) (us : List Token) (r : Bin × List Token) → next (op_from m) us ≡ None → next (op_from min) us ≡ Some r → level r.0 < m
looser m min us r off on =
    let t = next_some (op_from min) us r on in
    let o = op_from_some min t.0.kind r.0 t.1 in
    ⊎_elim (λ (lt : level r.0 < m). lt) (λ (ge : m ≤ level r.0). absurd (clash t.0 t.2 (op_from_is m t.0.kind r.0 o.0 ge))) (cases_lt (level r.0) m)
  where
    clash : (t : Token) → us ≡ t ∷ r.1 → op_from m t.kind ≡ Some r.0 → ⊥
    clash t is some =
        let here : next (op_from m) (t ∷ r.1) ≡ Some r = rw some refl in
        none-some r (sym off ∙ ap (next (op_from m)) is ∙ here)

no_tighter : (us : List Token) → next (op_from 12) us ≡ None
no_tighter us = go (next (op_from 12) us) refl
  where
    go : (o : Option (Bin × List Token)) → next (op_from 12) us ≡ o → next (op_from 12) us ≡ None
    go None is = is
    go (Some r) is =
        let t = next_some (op_from 12) us r is in
        let o = op_from_some 12 t.0.kind r.0 t.1 in
        let l = level_within r.0 in
        absurd (omega (arith, o.1, l.1))

-- ---- leaves

leaf_in_sound : (t : Token) (kind : Kind) (ts : List Token) (r : Found) → t.kind ≡ kind → leaf_in t kind ts ≡ Some r → Front (Spells 12) (t ∷ ts) r
leaf_in_sound t (k.Name x) ts r is h = subst (λ (q : Found). Front (Spells 12) (t ∷ ts) q) (same_Some (e.Name t.span x, ts) r h) (record { front = t ∷ []; joined = refl; spelled = Spells.name t is })
leaf_in_sound t (k.Number n) ts r is h = subst (λ (q : Found). Front (Spells 12) (t ∷ ts) q) (same_Some (e.Number t.span n, ts) r h) (record { front = t ∷ []; joined = refl; spelled = Spells.number t is })
leaf_in_sound t _ ts r is h = absurd (none-some r h)

leaf_sound : Sound (Spells 12) leaf
leaf_sound [] r h = absurd (none-some r h)
leaf_sound (t ∷ ts) r h = leaf_in_sound t t.kind ts r refl h

-- ---- marks behind an operand

-- an operand; where the flag says that it is a call, it is one as a statement
pub record ChainFront (ts : List Token) (c : Chain) : Type 0 where
  pub front : List Token
  pub joined : ts ≡ front ++ c.1
  pub spelled : Spells 12 (c.0).0 front
  pub called : (c.0).1 ≡ true → SpellsSimple (act.Call (extent front) (c.0).0) front

no_call : {A : Type 0} → false ≡ true → A
no_call h = absurd (false≢true h)

-- an operand that is no call
chained : (g : Span → Expr) (ts front rest : List Token) → ts ≡ front ++ rest → Spells 12 (g (extent front)) front → (r : Chain) → ((g (extent_to ts rest), false), rest) ≡ r → ChainFront ts r
chained g ts front rest h is r same = subst (λ (f : Chain). ChainFront ts f) same (record {
  front = front;
  joined = h;
  spelled = subst (λ (x : Span). Spells 12 (g x) front) (sym (span_to ts front rest h)) is;
  called = no_call;
})

called_by : (f : Expr) (xs : List Expr) (ts front rest : List Token) → ts ≡ front ++ rest → Spells 12 (e.Call (extent front) f xs) front → SpellsSimple (act.Call (extent front) (e.Call (extent front) f xs)) front → (r : Chain) → ((e.Call (extent_to ts rest) f xs, true), rest) ≡ r → ChainFront ts r
called_by f xs ts front rest h is call r same = subst (λ (q : Chain). ChainFront ts q) same (record {
  front = front;
  joined = h;
  spelled = subst (λ (x : Span). Spells 12 (e.Call x f xs) front) (sym (span_to ts front rest h)) is;
  called = λ on. subst (λ (x : Span). SpellsSimple (act.Call (extent front) (e.Call x f xs)) front) (sym (span_to ts front rest h)) call;
})

-- the mark of each
post_index : (kind : Kind) → post_of kind ≡ Some post.Index → kind ≡ kind_of w.OpenSquare
post_index (k.Mark m.OpenSquare) h = refl
post_index (k.Mark m.Dot) h = cc
post_index (k.Mark m.Arrow) h = cc
post_index (k.Mark m.OpenRound) h = cc
post_index _ h = absurd (none-some post.Index h)

post_member : (kind : Kind) → post_of kind ≡ Some post.Member → kind ≡ kind_of w.Dot
post_member (k.Mark m.OpenSquare) h = cc
post_member (k.Mark m.Dot) h = refl
post_member (k.Mark m.Arrow) h = cc
post_member (k.Mark m.OpenRound) h = cc
post_member _ h = absurd (none-some post.Member h)

post_arrow : (kind : Kind) → post_of kind ≡ Some post.Arrow → kind ≡ kind_of w.Arrow
post_arrow (k.Mark m.OpenSquare) h = cc
post_arrow (k.Mark m.Dot) h = cc
post_arrow (k.Mark m.Arrow) h = refl
post_arrow (k.Mark m.OpenRound) h = cc
post_arrow _ h = absurd (none-some post.Arrow h)

post_call : (kind : Kind) → post_of kind ≡ Some post.Call → kind ≡ kind_of w.OpenRound
post_call (k.Mark m.OpenSquare) h = cc
post_call (k.Mark m.Dot) h = cc
post_call (k.Mark m.Arrow) h = cc
post_call (k.Mark m.OpenRound) h = refl
post_call _ h = absurd (none-some post.Call h)

-- the parsers of what stands inside
pub record Inside (n : ℕ) : Type 0 where
  pub whole : Sound (Spells 0) (expr n)
  pub list : (ts : List Token) (r : List Expr × List Token) → args n ts ≡ Some r → Closed SpellArgs w.CloseRound ts r

post_sound : (n : ℕ) → Inside n → (start us : List Token) (c r : Chain) (p : Post) → ChainFront start c → next post_of c.1 ≡ Some (p, us) → post_by (expr n) (args n) start (c.0).0 p us ≡ Some r → ChainFront start r
post_sound n inside start us c r post.Index f is h =
    let t = next_some post_of c.1 (post.Index, us) is in
    let a = bind_some {B = Chain} (until w.CloseSquare (expr n) us) (λ (i : Found). Some ((e.Index (extent_to start i.1) (c.0).0 i.0, false), i.1)) r h in
    let x = until_some (Spells 0) w.CloseSquare (expr n) inside.whole us a.0 a.1 in
    let back : List Token = t.0 ∷ (x.inner ++ x.last ∷ []) in
    let joined : start ≡ (f.front ++ back) ++ a.0.1 = join start f.front c.1 back a.0.1 f.joined (cons c.1 us (x.inner ++ x.last ∷ []) a.0.1 t.0 t.2 x.joined) in
    chained (λ (q : Span). e.Index q (c.0).0 a.0.0) start (f.front ++ back) a.0.1 joined (Spells.index t.0 x.last (omega arith) (post_index t.0.kind t.1) x.closes f.spelled x.spelled) r (same_Some ((e.Index (extent_to start a.0.1) (c.0).0 a.0.0, false), a.0.1) r a.2)
post_sound n inside start us c r post.Member f is h =
    let t = next_some post_of c.1 (post.Member, us) is in
    let a = bind_some {B = Chain} (name us) (λ (x : Name × List Token). Some ((e.Member (extent_to start x.1) (c.0).0 x.0, false), x.1)) r h in
    let x = name_some us a.0 a.1 in
    let back : List Token = t.0 ∷ x.0 ∷ [] in
    let joined : start ≡ (f.front ++ back) ++ a.0.1 = join start f.front c.1 back a.0.1 f.joined (cons c.1 us (x.0 ∷ []) a.0.1 t.0 t.2 x.4) in
    let same : ((e.Member (extent_to start a.0.1) (c.0).0 (named x.0 x.1), false), a.0.1) ≡ r = ap (λ (q : Name). ((e.Member (extent_to start a.0.1) (c.0).0 q, false), a.0.1)) x.3 ∙ same_Some ((e.Member (extent_to start a.0.1) (c.0).0 a.0.0, false), a.0.1) r a.2 in
    chained (λ (q : Span). e.Member q (c.0).0 (named x.0 x.1)) start (f.front ++ back) a.0.1 joined (Spells.member t.0 x.0 (omega arith) (post_member t.0.kind t.1) x.2 f.spelled) r same
post_sound n inside start us c r post.Arrow f is h =
    let t = next_some post_of c.1 (post.Arrow, us) is in
    let a = bind_some {B = Chain} (name us) (λ (x : Name × List Token). Some ((e.Arrow (extent_to start x.1) (c.0).0 x.0, false), x.1)) r h in
    let x = name_some us a.0 a.1 in
    let back : List Token = t.0 ∷ x.0 ∷ [] in
    let joined : start ≡ (f.front ++ back) ++ a.0.1 = join start f.front c.1 back a.0.1 f.joined (cons c.1 us (x.0 ∷ []) a.0.1 t.0 t.2 x.4) in
    let same : ((e.Arrow (extent_to start a.0.1) (c.0).0 (named x.0 x.1), false), a.0.1) ≡ r = ap (λ (q : Name). ((e.Arrow (extent_to start a.0.1) (c.0).0 q, false), a.0.1)) x.3 ∙ same_Some ((e.Arrow (extent_to start a.0.1) (c.0).0 a.0.0, false), a.0.1) r a.2 in
    chained (λ (q : Span). e.Arrow q (c.0).0 (named x.0 x.1)) start (f.front ++ back) a.0.1 joined (Spells.arrow t.0 x.0 (omega arith) (post_arrow t.0.kind t.1) x.2 f.spelled) r same
post_sound n inside start us c r post.Call f is h =
    let t = next_some post_of c.1 (post.Call, us) is in
    let a = bind_some {B = Chain} (args n us) (λ (xs : List Expr × List Token). Some ((e.Call (extent_to start xs.1) (c.0).0 xs.0, true), xs.1)) r h in
    let x = inside.list us a.0 a.1 in
    let back : List Token = t.0 ∷ (x.inner ++ x.last ∷ []) in
    let joined : start ≡ (f.front ++ back) ++ a.0.1 = join start f.front c.1 back a.0.1 f.joined (cons c.1 us (x.inner ++ x.last ∷ []) a.0.1 t.0 t.2 x.joined) in
    called_by (c.0).0 a.0.0 start (f.front ++ back) a.0.1 joined (Spells.call t.0 x.last (omega arith) (post_call t.0.kind t.1) x.closes f.spelled x.spelled) (SpellsSimple.call t.0 x.last (post_call t.0.kind t.1) x.closes f.spelled x.spelled) r (same_Some ((e.Call (extent_to start a.0.1) (c.0).0 a.0.0, true), a.0.1) r a.2)

-- ---- all together

-- an operand of a level, behind which no operator so tight comes
pub record Climbed (min : ℕ) (ts : List Token) (r : Found) : Type 0 where
  pub read : Front (Spells min) ts r
  pub quiet : next (op_from min) r.1 ≡ None

pub record Sounds (n : ℕ) : Type 0 where
  pub whole : Sound (Spells 0) (expr n)
  pub climbs : (min : ℕ) (ts : List Token) (r : Found) → min ≤ 11 → climb n min ts ≡ Some r → Climbed min ts r
  pub mores : (min l : ℕ) (start : List Token) (f r : Found) → min ≤ l → Front (Spells l) start f → next (op_from (suc l)) f.1 ≡ None → more n min start f ≡ Some r → Climbed min start r
  pub unaries : Sound (Spells 11) (unary n)
  pub postfixes : (ts : List Token) (r : Chain) → postfix n ts ≡ Some r → ChainFront ts r
  pub chains : (start : List Token) (c r : Chain) → ChainFront start c → posts n start c ≡ Some r → ChainFront start r
  pub primaries : Sound (Spells 12) (primary n)
  pub list : (ts : List Token) (r : List Expr × List Token) → args n ts ≡ Some r → Closed SpellArgs w.CloseRound ts r
  pub manies : Sound SpellMany (many n)

lowered : (l m : ℕ) (ts : List Token) (r : Found) → m ≤ l → Front (Spells l) ts r → Front (Spells m) ts r
lowered l m ts r le f = record { front = f.front; joined = f.joined; spelled = lower m f.spelled le }

-- an expression in parentheses, or a leaf
primary_step : (n : ℕ) → Sound (Spells 0) (expr n) → Sound (Spells 12) (primary (suc n))
unfolding primary
primary_step n whole ts r h = go (after w.OpenRound ts) refl h
  where
    go : (o : Option (List Token)) → after w.OpenRound ts ≡ o → choose o (leaf ts) (λ us. until w.CloseRound (expr n) us) ≡ Some r → Front (Spells 12) ts r
    go None is g = leaf_sound ts r g
    go (Some us) is g =
        let t = after_some w.OpenRound ts us is in
        let x = until_some (Spells 0) w.CloseRound (expr n) whole us r g in
        record { front = t.0 ∷ (x.inner ++ x.last ∷ []); joined = cons ts us (x.inner ++ x.last ∷ []) r.1 t.0 t.2 x.joined; spelled = Spells.parens t.0 x.last t.1 x.closes x.spelled }

posts_step : (n : ℕ) → Inside n → ((start : List Token) (c r : Chain) → ChainFront start c → posts n start c ≡ Some r → ChainFront start r) → (start : List Token) (c r : Chain) → ChainFront start c → posts (suc n) start c ≡ Some r → ChainFront start r
unfolding posts
posts_step n inside again start c r f h = go (next post_of c.1) refl h
  where
    go : (o : Option (Post × List Token)) → next post_of c.1 ≡ o → choose o (Some c) (λ p. post_by (expr n) (args n) start (c.0).0 p.0 p.1 >>= posts n start) ≡ Some r → ChainFront start r
    go None is g = subst (λ (q : Chain). ChainFront start q) (same_Some c r g) f
    go (Some p) is g =
        let a = bind_some {B = Chain} (post_by (expr n) (args n) start (c.0).0 p.0 p.1) (posts n start) r g in
        again start a.0 r (post_sound n inside start p.1 c a.0 p.0 f is a.1) a.2

postfix_step : (n : ℕ) → Sound (Spells 12) (primary n) → ((start : List Token) (c r : Chain) → ChainFront start c → posts n start c ≡ Some r → ChainFront start r) → (ts : List Token) (r : Chain) → postfix (suc n) ts ≡ Some r → ChainFront ts r
unfolding postfix
postfix_step n operand again ts r h =
    let a = bind_some {B = Chain} (primary n ts) (λ (x : Found). posts n ts ((x.0, false), x.1)) r h in
    let f = operand ts a.0 a.1 in
    again ts ((a.0.0, false), a.0.1) r (record { front = f.front; joined = f.joined; spelled = f.spelled; called = no_call }) a.2

unary_step : (n : ℕ) → ((ts : List Token) (r : Chain) → postfix n ts ≡ Some r → ChainFront ts r) → Sound (Spells 11) (unary n) → Sound (Spells 11) (unary (suc n))
unfolding unary
unary_step n chain part ts r h = go (next prefix_of ts) refl h
  where
    go : (o : Option (Prefix × List Token)) → next prefix_of ts ≡ o → choose {B = Option Found} o (postfix n ts >>= λ (c : Chain). Some ((c.0).0, c.1)) (λ p. unary n p.1 >>= λ (x : Found). Some (e.Unary (extent_to ts x.1) p.0 x.0, x.1)) ≡ Some r → Front (Spells 11) ts r
    go None is g =
        let a = bind_some {B = Found} (postfix n ts) (λ (c : Chain). Some ((c.0).0, c.1)) r g in
        let f = chain ts a.0 a.1 in
        subst (λ (q : Found). Front (Spells 11) ts q) (same_Some (((a.0).0).0, (a.0).1) r a.2) (record { front = f.front; joined = f.joined; spelled = lower 11 f.spelled (omega arith) })
    go (Some p) is g =
        let t = next_some prefix_of ts p is in
        let a = bind_some {B = Found} (unary n p.1) (λ (x : Found). Some (e.Unary (extent_to ts x.1) p.0 x.0, x.1)) r g in
        let f = part p.1 a.0 a.1 in
        made (Spells 11) (λ (q : Span). e.Unary q p.0 a.0.0) ts (t.0 ∷ f.front) a.0.1 (cons ts p.1 f.front a.0.1 t.0 t.2 f.joined) (Spells.unary t.0 (omega arith) t.1 f.spelled) r (same_Some (e.Unary (extent_to ts a.0.1) p.0 a.0.0, a.0.1) r a.2)

more_step : (n : ℕ) → ((min : ℕ) (ts : List Token) (r : Found) → min ≤ 11 → climb n min ts ≡ Some r → Climbed min ts r)
    → ((min l : ℕ) (start : List Token) (f r : Found) → min ≤ l → Front (Spells l) start f → next (op_from (suc l)) f.1 ≡ None → more n min start f ≡ Some r → Climbed min start r)
    → (min l : ℕ) (start : List Token) (f r : Found) → min ≤ l → Front (Spells l) start f → next (op_from (suc l)) f.1 ≡ None → more (suc n) min start f ≡ Some r → Climbed min start r
unfolding more
more_step n part again min l start f r le x off h = go (next (op_from min) f.1) refl h
  where
    go : (o : Option (Bin × List Token)) → next (op_from min) f.1 ≡ o → choose o (Some f) (λ o. climb n (suc (level o.0)) o.1 >>= λ (b : Found). more n min start (e.Binary (extent_to start b.1) o.0 f.0 b.0, b.1)) ≡ Some r → Climbed min start r
    go None is g = subst (λ (q : Found). Climbed min start q) (same_Some f r g) (record { read = lowered l min start f le x; quiet = is })
    go (Some o) is g =
        let t = next_some (op_from min) f.1 o is in
        let op = op_from_some min t.0.kind o.0 t.1 in
        let loose : level o.0 < suc l = looser (suc l) min f.1 o off is in
        let small = level_within o.0 in
        let b = bind_some {B = Found} (climb n (suc (level o.0)) o.1) (λ (b : Found). more n min start (e.Binary (extent_to start b.1) o.0 f.0 b.0, b.1)) r g in
        let y = part (suc (level o.0)) o.1 b.0 (omega (arith, small.1)) b.1 in
        let back : List Token = t.0 ∷ (y.read).front in
        let joined : start ≡ (x.front ++ back) ++ b.0.1 = join start x.front f.1 back b.0.1 x.joined (cons f.1 o.1 (y.read).front b.0.1 t.0 t.2 (y.read).joined) in
        let next_one : Found = (e.Binary (extent_to start b.0.1) o.0 f.0 b.0.0, b.0.1) in
        let z : Front (Spells (level o.0)) start next_one = made (Spells (level o.0)) (λ (q : Span). e.Binary q o.0 f.0 b.0.0) start (x.front ++ back) b.0.1 joined (Spells.binary t.0 (omega arith) op.0 (lower (level o.0) x.spelled (omega arith)) (y.read).spelled) next_one refl in
        again min (level o.0) start next_one r op.1 z y.quiet b.2

climb_step : (n : ℕ) → Sound (Spells 11) (unary n)
    → ((min l : ℕ) (start : List Token) (f r : Found) → min ≤ l → Front (Spells l) start f → next (op_from (suc l)) f.1 ≡ None → more n min start f ≡ Some r → Climbed min start r)
    → (min : ℕ) (ts : List Token) (r : Found) → min ≤ 11 → climb (suc n) min ts ≡ Some r → Climbed min ts r
unfolding climb
climb_step n operand again min ts r le h =
    let a = bind_some {B = Found} (unary n ts) (more n min ts) r h in
    again min 11 ts a.0 r le (operand ts a.0 a.1) (no_tighter a.0.1) a.2

expr_step : (n : ℕ) → ((min : ℕ) (ts : List Token) (r : Found) → min ≤ 11 → climb n min ts ≡ Some r → Climbed min ts r) → Sound (Spells 0) (expr n) → Sound (Spells 0) (expr (suc n))
unfolding expr
expr_step n part whole ts r h = let a = bind_some {B = Found} (climb n 1 ts) (cond_by (expr n) ts) r h in go a.0 ((part 1 ts a.0 (omega arith) a.1).read) (after w.Question a.0.1) refl a.2
  where
    go : (c : Found) → Front (Spells 1) ts c → (o : Option (List Token)) → after w.Question c.1 ≡ o → choose {B = Option Found} o (Some c) (λ us. until w.Colon (expr n) us >>= λ (a : Found). expr n a.1 >>= λ (b : Found). Some (e.Cond (extent_to ts b.1) c.0 a.0 b.0, b.1)) ≡ Some r → Front (Spells 0) ts r
    go c x None is g = subst (λ (q : Found). Front (Spells 0) ts q) (same_Some c r g) (lowered 1 0 ts c (omega arith) x)
    go c x (Some us) is g =
        let t = after_some w.Question c.1 us is in
        let a = bind_some {B = Found} (until w.Colon (expr n) us) (λ (a : Found). expr n a.1 >>= λ (b : Found). Some (e.Cond (extent_to ts b.1) c.0 a.0 b.0, b.1)) r g in
        let b = bind_some {B = Found} (expr n a.0.1) (λ (b : Found). Some (e.Cond (extent_to ts b.1) c.0 a.0.0 b.0, b.1)) r a.2 in
        let y = until_some (Spells 0) w.Colon (expr n) whole us a.0 a.1 in
        let z = whole a.0.1 b.0 b.1 in
        let back : List Token = t.0 ∷ (y.inner ++ y.last ∷ z.front) in
        let inner : us ≡ (y.inner ++ y.last ∷ z.front) ++ b.0.1 = join us (y.inner ++ y.last ∷ []) a.0.1 z.front b.0.1 y.joined z.joined ∙ ap (λ (l : List Token). l ++ b.0.1) (append_assoc y.inner (y.last ∷ []) z.front) in
        let joined : ts ≡ (x.front ++ back) ++ b.0.1 = join ts x.front c.1 back b.0.1 x.joined (cons c.1 us (y.inner ++ y.last ∷ z.front) b.0.1 t.0 t.2 inner) in
        made (Spells 0) (λ (q : Span). e.Cond q c.0 a.0.0 b.0.0) ts (x.front ++ back) b.0.1 joined (Spells.cond t.0 y.last t.1 y.closes x.spelled y.spelled z.spelled) r (same_Some (e.Cond (extent_to ts b.0.1) c.0 a.0.0 b.0.0, b.0.1) r b.2)

args_step : (n : ℕ) → Sound SpellMany (many n) → (ts : List Token) (r : List Expr × List Token) → args (suc n) ts ≡ Some r → Closed SpellArgs w.CloseRound ts r
unfolding args
args_step n list ts r h = go (after w.CloseRound ts) refl h
  where
    go : (o : Option (List Token)) → after w.CloseRound ts ≡ o → choose {B = Option (List Expr × List Token)} o (until w.CloseRound (many n) ts) (λ rest. Some ([], rest)) ≡ Some r → Closed SpellArgs w.CloseRound ts r
    go None is g = let x = until_some SpellMany w.CloseRound (many n) list ts r g in record { inner = x.inner; last = x.last; joined = x.joined; spelled = SpellArgs.some x.spelled; closes = x.closes }
    go (Some rest) is g =
        let t = after_some w.CloseRound ts rest is in
        subst (λ (q : List Expr × List Token). Closed SpellArgs w.CloseRound ts q) (same_Some ([], rest) r g) (record { inner = []; last = t.0; joined = t.2; spelled = SpellArgs.nothing; closes = t.1 })

many_step : (n : ℕ) → Sound (Spells 0) (expr n) → Sound SpellMany (many n) → Sound SpellMany (many (suc n))
unfolding many
many_step n whole again ts r h =
    let a = bind_some {B = List Expr × List Token} (expr n ts) (λ (x : Found). choose (after w.Comma x.1) (Some (x.0 ∷ [], x.1)) (λ (rest : List Token). many n rest >>= λ (xs : List Expr × List Token). Some (x.0 ∷ xs.0, xs.1))) r h in
    go a.0 (whole ts a.0 a.1) (after w.Comma a.0.1) refl a.2
  where
    go : (x : Found) → Front (Spells 0) ts x → (o : Option (List Token)) → after w.Comma x.1 ≡ o → choose {B = Option (List Expr × List Token)} o (Some (x.0 ∷ [], x.1)) (λ (rest : List Token). many n rest >>= λ (xs : List Expr × List Token). Some (x.0 ∷ xs.0, xs.1)) ≡ Some r → Front SpellMany ts r
    go x f None is g = subst (λ (q : List Expr × List Token). Front SpellMany ts q) (same_Some (x.0 ∷ [], x.1) r g) (record { front = f.front; joined = f.joined; spelled = SpellMany.one f.spelled })
    go x f (Some rest) is g =
        let t = after_some w.Comma x.1 rest is in
        let b = bind_some (many n rest) (λ (xs : List Expr × List Token). Some (x.0 ∷ xs.0, xs.1)) r g in
        let s = again rest b.0 b.1 in
        subst (λ (q : List Expr × List Token). Front SpellMany ts q) (same_Some (x.0 ∷ b.0.0, b.0.1) r b.2) (record {
          front = f.front ++ t.0 ∷ s.front;
          joined = join ts f.front x.1 (t.0 ∷ s.front) b.0.1 f.joined (cons x.1 rest s.front b.0.1 t.0 t.2 s.joined);
          spelled = SpellMany.more t.0 t.1 f.spelled s.spelled;
        })

sounds_zero : Sounds 0
unfolding expr climb more unary postfix posts primary args many
sounds_zero = record {
  whole = λ ts r h. absurd (none-some r h);
  climbs = λ min ts r le h. absurd (none-some r h);
  mores = λ min l start f r le x off h. absurd (none-some r h);
  unaries = λ ts r h. absurd (none-some r h);
  postfixes = λ ts r h. absurd (none-some r h);
  chains = λ start c r f h. absurd (none-some r h);
  primaries = λ ts r h. absurd (none-some r h);
  list = λ ts r h. absurd (none-some r h);
  manies = λ ts r h. absurd (none-some r h);
}

sounds_more : (n : ℕ) → Sounds n → Sounds (suc n)
sounds_more n s = record {
  whole = expr_step n s.climbs s.whole;
  climbs = climb_step n s.unaries s.mores;
  mores = more_step n s.climbs s.mores;
  unaries = unary_step n s.postfixes s.unaries;
  postfixes = postfix_step n s.primaries s.chains;
  chains = posts_step n (record { whole = s.whole; list = s.list }) s.chains;
  primaries = primary_step n s.whole;
  list = args_step n s.manies;
  manies = many_step n s.whole s.manies;
}

pub sounds : (n : ℕ) → Sounds n
sounds zero = sounds_zero
sounds (suc n) = sounds_more n (sounds n)
