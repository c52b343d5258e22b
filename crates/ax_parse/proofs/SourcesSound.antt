-- What the parser of sources reads is spelled.
use Rattle.std.proofs.Common.{◌≡◌, ℕ, Bool, true, false, List, [], ◌∷◌, ◌++◌, Option, Some, None, refl, sym, ap, ◌∙◌, subst, append-nil}
use Rattle.std.proofs.lemmas.Option.{none-some, same_Some}
use Rattle.ax_prog.specs.declared.Span.{Span}
use Rattle.ax_prog.specs.declared.tokens.Kind.TheVariants as k
use Rattle.ax_prog.specs.declared.tokens.Token.{Token}
use Rattle.ax_parse_grammar.specs.declared.terminals.Terminal.TheVariants as w
use Rattle.ax_parse_grammar.specs.declared.tree.Name.{Name}
use Rattle.ax_parse_grammar.specs.declared.tree.Base.{Base}
use Rattle.ax_parse_grammar.specs.declared.tree.Size.{Size}
use Rattle.ax_parse_grammar.specs.declared.tree.Declarator.{Declarator}
use Rattle.ax_parse_grammar.specs.declared.tree.Decl.{Decl}
use Rattle.ax_parse_grammar.specs.declared.tree.Returns.{Returns}
use Rattle.ax_parse_grammar.specs.declared.tree.Returns.TheVariants as returns
use Rattle.ax_parse_grammar.specs.declared.tree.Param.{Param}
use Rattle.ax_parse_grammar.specs.declared.tree.Head.{Head}
use Rattle.ax_parse_grammar.specs.declared.tree.Stmt.{Stmt}
use Rattle.ax_parse_grammar.specs.declared.tree.Members.{Members}
use Rattle.ax_parse_grammar.specs.declared.tree.Part.{Part}
use Rattle.ax_parse_grammar.specs.declared.tree.Part.TheVariants as part
use Rattle.ax_parse_grammar.specs.Terminals.{Is, named, extent}
use Rattle.ax_parse_grammar.specs.Declarations.{SpellSeparated, SpellsBase, SpellsDeclarator}
use Rattle.ax_parse_grammar.specs.Sources.{SpellsParam, SpellParams, SpellsReturns, SpellsHead, SpellsMembers, SpellsPart, SpellsTree}
use Rattle.ax_parse_grammar.specs.Reading.{◌>>=◌, choose, extent_to, after, past, name, until, separated, repeated}
use Rattle.ax_parse_grammar.specs.ReadDeclarations.{base, stars, sizes, declarator, decl}
use Rattle.ax_parse_grammar.specs.ReadStatements.{items}
use Rattle.ax_parse_grammar.specs.ReadSources.{param_of, head_of, members_of, tree_of, param_by, param, params, returned, head_by, head, members, ends_members, struct_ahead, struct_by, head_ahead, body_by, other_by, top, ends_source}
use Rattle.ax_parse.proofs.Tools.{bind_some, choose_some, after_some, past_some, name_some, join, cons, Front, Closed, Sound, made, until_some, separated_sound, repeated_sound}
use Rattle.ax_parse.proofs.DeclarationsSound.{one_span, base_sound, stars_sound, sizes_sound, declarator_sound, decl_sound}
use Rattle.ax_parse.proofs.StatementsSound.{items_sound}

-- ---- parameters

abbrev pub Parameter : Type 0
Parameter = Param × List Token

param_sound : (n : ℕ) → Sound SpellsParam (param n)
param_sound n ts r h = let b = bind_some {B = Parameter} (base ts) (λ (b : Base × List Token). param_by (sizes n true) ts b.0 (stars b.1)) r h in go b.0 (base_sound ts b.0 b.1) (name (stars b.0.1).1) refl b.2
  where
    go : (b : Base × List Token) → Front SpellsBase ts b → (o : Option (Name × List Token)) → name (stars b.1).1 ≡ o → choose {B = Option Parameter} o (sizes n true (stars b.1).1 >>= λ (xs : List Size × List Token). Some (param_of (extent_to ts xs.1) b.0 (stars b.1).0 None xs.0, xs.1)) (λ x. sizes n true x.1 >>= λ (xs : List Size × List Token). Some (param_of (extent_to ts xs.1) b.0 (stars b.1).0 (Some x.0) xs.0, xs.1)) ≡ Some r → Front SpellsParam ts r
    go b f None off g =
        let p = stars_sound b.1 in
        let y = bind_some {B = Parameter} (sizes n true (stars b.1).1) (λ (xs : List Size × List Token). Some (param_of (extent_to ts xs.1) b.0 (stars b.1).0 None xs.0, xs.1)) r g in
        let s = sizes_sound n true (stars b.1).1 y.0 y.1 in
        let front : List Token = f.front ++ (p.front ++ s.front) in
        let joined : ts ≡ front ++ y.0.1 = join ts f.front b.1 (p.front ++ s.front) y.0.1 f.joined (join b.1 p.front (stars b.1).1 s.front y.0.1 p.joined s.joined) in
        made SpellsParam (λ (q : Span). param_of q b.0 (stars b.1).0 None y.0.0) ts front y.0.1 joined (SpellsParam.nameless f.spelled p.spelled s.spelled) r (same_Some (param_of (extent_to ts y.0.1) b.0 (stars b.1).0 None y.0.0, y.0.1) r y.2)
    go b f (Some x) on g =
        let p = stars_sound b.1 in
        let t = name_some (stars b.1).1 x on in
        let y = bind_some {B = Parameter} (sizes n true x.1) (λ (xs : List Size × List Token). Some (param_of (extent_to ts xs.1) b.0 (stars b.1).0 (Some x.0) xs.0, xs.1)) r g in
        let s = sizes_sound n true x.1 y.0 y.1 in
        let back : List Token = t.0 ∷ s.front in
        let front : List Token = f.front ++ (p.front ++ back) in
        let joined : ts ≡ front ++ y.0.1 = join ts f.front b.1 (p.front ++ back) y.0.1 f.joined (join b.1 p.front (stars b.1).1 back y.0.1 p.joined (cons (stars b.1).1 x.1 s.front y.0.1 t.0 t.4 s.joined)) in
        let same : (param_of (extent_to ts y.0.1) b.0 (stars b.1).0 (Some (named t.0 t.1)) y.0.0, y.0.1) ≡ r = ap (λ (q : Name). let p : Parameter = (param_of (extent_to ts y.0.1) b.0 (stars b.1).0 (Some q) y.0.0, y.0.1) in p) t.3 ∙ same_Some (param_of (extent_to ts y.0.1) b.0 (stars b.1).0 (Some x.0) y.0.0, y.0.1) r y.2 in
        made SpellsParam (λ (q : Span). param_of q b.0 (stars b.1).0 (Some (named t.0 t.1)) y.0.0) ts front y.0.1 joined (SpellsParam.with_name t.0 t.2 f.spelled p.spelled s.spelled) r same

params_sound : (n : ℕ) (ts : List Token) (r : List Param × List Token) → params n ts ≡ Some r → Closed SpellParams w.CloseRound ts r
params_sound n ts r h = go (after w.CloseRound ts) (after w.Void ts) refl refl h
  where
    go : (o p : Option (List Token)) → after w.CloseRound ts ≡ o → after w.Void ts ≡ p → choose {B = Option (List Param × List Token)} o (choose p (until w.CloseRound (separated param n) ts) (λ us. choose (after w.CloseRound us) None (λ rest. Some ([], rest)))) (λ rest. Some ([], rest)) ≡ Some r → Closed SpellParams w.CloseRound ts r
    go (Some rest) p on void g =
        let t = after_some w.CloseRound ts rest on in
        subst (λ (q : List Param × List Token). Closed SpellParams w.CloseRound ts q) (same_Some ([], rest) r g) (record { inner = []; last = t.0; joined = t.2; spelled = SpellParams.nothing; closes = t.1 })
    go None None off void g =
        let x = until_some (SpellSeparated SpellsParam) w.CloseRound (separated param n) (separated_sound SpellsParam param param_sound n) ts r g in
        record { inner = x.inner; last = x.last; joined = x.joined; spelled = SpellParams.some x.spelled; closes = x.closes }
    go None (Some us) off void g =
        let v = after_some w.Void ts us void in
        let a = choose_some (after w.CloseRound us) (λ (rest : List Token). let p : Option (List Param × List Token) = Some ([], rest) in p) r g in
        let t = after_some w.CloseRound us a.0 a.1 in
        subst (λ (q : List Param × List Token). Closed SpellParams w.CloseRound ts q) (same_Some ([], a.0) r a.2) (record { inner = v.0 ∷ []; last = t.0; joined = cons ts us (t.0 ∷ []) a.0 v.0 v.2 t.2; spelled = SpellParams.void v.0 v.1; closes = t.1 })

-- ---- heads

returned_sound : Sound SpellsReturns returned
returned_sound ts r h = go (after w.Void ts) refl h
  where
    go : (o : Option (List Token)) → after w.Void ts ≡ o → choose {B = Option (Returns × List Token)} o (base ts >>= λ (b : Base × List Token). Some (returns.Of b.0, b.1)) (λ us. Some (returns.Void (extent_to ts us), us)) ≡ Some r → Front SpellsReturns ts r
    go None off g =
        let b = bind_some {B = Returns × List Token} (base ts) (λ (b : Base × List Token). Some (returns.Of b.0, b.1)) r g in
        let f = base_sound ts b.0 b.1 in
        subst (λ (q : Returns × List Token). Front SpellsReturns ts q) (same_Some (returns.Of b.0.0, b.0.1) r b.2) (record { front = f.front; joined = f.joined; spelled = SpellsReturns.base f.spelled })
    go (Some us) on g =
        let t = after_some w.Void ts us on in
        subst (λ (q : Returns × List Token). Front SpellsReturns ts q) (ap (λ (x : Span). let p : Returns × List Token = (returns.Void x, us) in p) (sym (one_span t.0 ts us t.2)) ∙ same_Some (returns.Void (extent_to ts us), us) r g) (record { front = t.0 ∷ []; joined = t.2; spelled = SpellsReturns.void t.0 t.1 })

head_sound : (n : ℕ) → Sound SpellsHead (head n)
head_sound n ts r h =
    let b = bind_some {B = Head × List Token} (returned ts) (λ (b : Returns × List Token). head_by (params n) ts b.0 (stars b.1)) r h in
    let x = bind_some {B = Head × List Token} (name (stars b.0.1).1) (λ (x : Name × List Token). choose (after w.OpenRound x.1) None (λ us. params n us >>= λ (xs : List Param × List Token). Some (head_of (extent_to ts xs.1) b.0.0 (stars b.0.1).0 x.0 xs.0, xs.1))) r b.2 in
    let a = choose_some (after w.OpenRound x.0.1) (λ (us : List Token). let p : Option (Head × List Token) = params n us >>= λ (xs : List Param × List Token). Some (head_of (extent_to ts xs.1) b.0.0 (stars b.0.1).0 x.0.0 xs.0, xs.1) in p) r x.2 in
    let c = bind_some {B = Head × List Token} (params n a.0) (λ (xs : List Param × List Token). Some (head_of (extent_to ts xs.1) b.0.0 (stars b.0.1).0 x.0.0 xs.0, xs.1)) r a.2 in
    let f = returned_sound ts b.0 b.1 in
    let p = stars_sound b.0.1 in
    let t = name_some (stars b.0.1).1 x.0 x.1 in
    let e = after_some w.OpenRound x.0.1 a.0 a.1 in
    let s = params_sound n a.0 c.0 c.1 in
    let back : List Token = t.0 ∷ e.0 ∷ (s.inner ++ s.last ∷ []) in
    let front : List Token = f.front ++ (p.front ++ back) in
    let inner : (stars b.0.1).1 ≡ back ++ c.0.1 = cons (stars b.0.1).1 x.0.1 (e.0 ∷ (s.inner ++ s.last ∷ [])) c.0.1 t.0 t.4 (cons x.0.1 a.0 (s.inner ++ s.last ∷ []) c.0.1 e.0 e.2 s.joined) in
    let joined : ts ≡ front ++ c.0.1 = join ts f.front b.0.1 (p.front ++ back) c.0.1 f.joined (join b.0.1 p.front (stars b.0.1).1 back c.0.1 p.joined inner) in
    let same : (head_of (extent_to ts c.0.1) b.0.0 (stars b.0.1).0 (named t.0 t.1) c.0.0, c.0.1) ≡ r = ap (λ (q : Name). let p : Head × List Token = (head_of (extent_to ts c.0.1) b.0.0 (stars b.0.1).0 q c.0.0, c.0.1) in p) t.3 ∙ same_Some (head_of (extent_to ts c.0.1) b.0.0 (stars b.0.1).0 x.0.0 c.0.0, c.0.1) r c.2 in
    made SpellsHead (λ (q : Span). head_of q b.0.0 (stars b.0.1).0 (named t.0 t.1) c.0.0) ts front c.0.1 joined (SpellsHead.head t.0 e.0 s.last t.2 e.1 s.closes f.spelled p.spelled s.spelled) r same

-- ---- structs

members_sound : (n : ℕ) → Sound SpellsMembers (members n)
members_sound n ts r h =
    let a = bind_some {B = Members × List Token} (base ts) (λ (b : Base × List Token). separated (declarator false) n b.1 >>= λ (xs : List Declarator × List Token). choose (after w.Semicolon xs.1) None (λ rest. Some (members_of (extent_to ts rest) b.0 xs.0, rest))) r h in
    let c = bind_some {B = Members × List Token} (separated (declarator false) n a.0.1) (λ (xs : List Declarator × List Token). choose (after w.Semicolon xs.1) None (λ rest. Some (members_of (extent_to ts rest) a.0.0 xs.0, rest))) r a.2 in
    let e = choose_some (after w.Semicolon c.0.1) (λ (rest : List Token). let p : Option (Members × List Token) = Some (members_of (extent_to ts rest) a.0.0 c.0.0, rest) in p) r c.2 in
    let t = after_some w.Semicolon c.0.1 e.0 e.1 in
    let x = base_sound ts a.0 a.1 in
    let y = separated_sound (SpellsDeclarator false) (declarator false) (declarator_sound false) n a.0.1 c.0 c.1 in
    let back : List Token = y.front ++ t.0 ∷ [] in
    let joined : ts ≡ (x.front ++ back) ++ e.0 = join ts x.front a.0.1 back e.0 x.joined (join a.0.1 y.front c.0.1 (t.0 ∷ []) e.0 y.joined t.2) in
    made SpellsMembers (λ (q : Span). members_of q a.0.0 c.0.0) ts (x.front ++ back) e.0 joined (SpellsMembers.members t.0 t.1 x.spelled y.spelled) r (same_Some (members_of (extent_to ts e.0) a.0.0 c.0.0, e.0) r e.2)

-- `struct NAME {`
record Ahead (ts : List Token) (r : Name × List Token) : Type 0 where
  struct : Token
  tag : Token
  first : Token
  text : List ℕ
  begins : Is w.Struct struct
  is : tag.kind ≡ k.Name text
  opens : Is w.OpenCurly first
  name : named tag text ≡ r.0
  joined : (inside rest : List Token) → r.1 ≡ inside ++ rest → ts ≡ (struct ∷ tag ∷ first ∷ inside) ++ rest

ahead_some : (ts : List Token) (r : Name × List Token) → struct_ahead ts ≡ Some r → Ahead ts r
ahead_some ts r h =
    let a = choose_some (after w.Struct ts) (λ (us : List Token). let p : Option (Name × List Token) = name us >>= λ (x : Name × List Token). choose (after w.OpenCurly x.1) None (λ vs. Some (x.0, vs)) in p) r h in
    let s = after_some w.Struct ts a.0 a.1 in
    let x = bind_some {B = Name × List Token} (name a.0) (λ (x : Name × List Token). choose (after w.OpenCurly x.1) None (λ vs. Some (x.0, vs))) r a.2 in
    let t = name_some a.0 x.0 x.1 in
    let b = choose_some (after w.OpenCurly x.0.1) (λ (vs : List Token). let p : Option (Name × List Token) = Some (x.0.0, vs) in p) r x.2 in
    let e = after_some w.OpenCurly x.0.1 b.0 b.1 in
    subst (λ (q : Name × List Token). Ahead ts q) (same_Some (x.0.0, b.0) r b.2) (record {
      struct = s.0;
      tag = t.0;
      first = e.0;
      text = t.1;
      begins = s.1;
      is = t.2;
      opens = e.1;
      name = t.3;
      joined = λ inside rest more. cons ts a.0 (t.0 ∷ e.0 ∷ inside) rest s.0 s.2 (cons a.0 x.0.1 (e.0 ∷ inside) rest t.0 t.4 (cons x.0.1 b.0 inside rest e.0 e.2 more));
    })

struct_sound : (n : ℕ) (ts : List Token) (x : Name × List Token) (r : Part × List Token) → Ahead ts x → struct_by (repeated ends_members members n) ts x ≡ Some r → Front SpellsPart ts r
struct_sound n ts x r p h =
    let a = bind_some {B = Part × List Token} (repeated ends_members members n x.1) (λ (xs : List Members × List Token). choose (past (w.CloseCurly ∷ w.Semicolon ∷ []) xs.1) None (λ rest. Some (part.Struct (extent_to ts rest) x.0 xs.0, rest))) r h in
    let b = choose_some (past (w.CloseCurly ∷ w.Semicolon ∷ []) a.0.1) (λ (rest : List Token). let p : Option (Part × List Token) = Some (part.Struct (extent_to ts rest) x.0 a.0.0, rest) in p) r a.2 in
    let y = repeated_sound SpellsMembers ends_members members members_sound n x.1 a.0 a.1 in
    let e = past_some (w.CloseCurly ∷ w.Semicolon ∷ []) a.0.1 b.0 b.1 in
    let inside : List Token = y.front ++ e.0 in
    let joined : ts ≡ (p.struct ∷ p.tag ∷ p.first ∷ inside) ++ b.0 = p.joined inside b.0 (join x.1 y.front a.0.1 e.0 b.0 y.joined e.2) in
    let same : (part.Struct (extent_to ts b.0) (named p.tag p.text) a.0.0, b.0) ≡ r = ap (λ (q : Name). let p : Part × List Token = (part.Struct (extent_to ts b.0) q a.0.0, b.0) in p) p.name ∙ same_Some (part.Struct (extent_to ts b.0) x.0 a.0.0, b.0) r b.2 in
    made SpellsPart (λ (q : Span). part.Struct q (named p.tag p.text) a.0.0) ts (p.struct ∷ p.tag ∷ p.first ∷ inside) b.0 joined (SpellsPart.struct p.struct p.tag p.first e.0 p.begins p.is p.opens e.1 y.spelled) r same

-- ---- parts

body_sound : (n : ℕ) (ts : List Token) (x : Head × List Token) (r : Part × List Token) → Front SpellsHead ts x → body_by n ts x ≡ Some r → Front SpellsPart ts r
body_sound n ts x r f h = go (after w.Semicolon x.1) (after w.OpenCurly x.1) refl refl h
  where
    go : (o p : Option (List Token)) → after w.Semicolon x.1 ≡ o → after w.OpenCurly x.1 ≡ p → choose {B = Option (Part × List Token)} o (choose p None (λ us. items n us >>= λ (xs : List Stmt × List Token). Some (part.Function (extent_to ts xs.1) x.0 xs.0, xs.1))) (λ rest. Some (part.Prototype (extent_to ts rest) x.0, rest)) ≡ Some r → Front SpellsPart ts r
    go (Some rest) p on curly g =
        let t = after_some w.Semicolon x.1 rest on in
        made SpellsPart (λ (q : Span). part.Prototype q x.0) ts (f.front ++ t.0 ∷ []) rest (join ts f.front x.1 (t.0 ∷ []) rest f.joined t.2) (SpellsPart.prototype t.0 t.1 f.spelled) r (same_Some (part.Prototype (extent_to ts rest) x.0, rest) r g)
    go None None off curly g = absurd (none-some r g)
    go None (Some us) off curly g =
        let e = after_some w.OpenCurly x.1 us curly in
        let a = bind_some {B = Part × List Token} (items n us) (λ (xs : List Stmt × List Token). Some (part.Function (extent_to ts xs.1) x.0 xs.0, xs.1)) r g in
        let y = items_sound n us a.0 a.1 in
        let back : List Token = e.0 ∷ (y.inner ++ y.last ∷ []) in
        let joined : ts ≡ (f.front ++ back) ++ a.0.1 = join ts f.front x.1 back a.0.1 f.joined (cons x.1 us (y.inner ++ y.last ∷ []) a.0.1 e.0 e.2 y.joined) in
        made SpellsPart (λ (q : Span). part.Function q x.0 a.0.0) ts (f.front ++ back) a.0.1 joined (SpellsPart.function e.0 y.last e.1 y.closes f.spelled y.spelled) r (same_Some (part.Function (extent_to ts a.0.1) x.0 a.0.0, a.0.1) r a.2)

other_sound : (n : ℕ) (b : Bool) (ts : List Token) (r : Part × List Token) → other_by n b ts ≡ Some r → Front SpellsPart ts r
other_sound n true ts r h =
    let a = bind_some {B = Part × List Token} (head n ts) (body_by n ts) r h in
    body_sound n ts a.0 r (head_sound n ts a.0 a.1) a.2
other_sound n false ts r h =
    let a = bind_some {B = Part × List Token} (decl n ts) (λ (d : Decl × List Token). Some (part.Decl d.0, d.1)) r h in
    let f = decl_sound n ts a.0 a.1 in
    subst (λ (q : Part × List Token). Front SpellsPart ts q) (same_Some (part.Decl a.0.0, a.0.1) r a.2) (record { front = f.front; joined = f.joined; spelled = SpellsPart.decl f.spelled })

top_sound : (n : ℕ) → Sound SpellsPart (top n)
top_sound n ts r h = go (struct_ahead ts) refl h
  where
    go : (o : Option (Name × List Token)) → struct_ahead ts ≡ o → choose o (other_by n (head_ahead ts) ts) (struct_by (repeated ends_members members n) ts) ≡ Some r → Front SpellsPart ts r
    go None off g = other_sound n (head_ahead ts) ts r g
    go (Some x) on g = struct_sound n ts x r (ahead_some ts x on) g

-- the tree of all tokens
pub source_sound : (n : ℕ) (ts : List Token) (xs : List Part) → repeated ends_source top n ts ≡ Some (xs, []) → SpellsTree (tree_of (extent ts) xs) ts
source_sound n ts xs h =
    let f = repeated_sound SpellsPart ends_source top top_sound n ts (xs, []) h in
    let all : ts ≡ f.front = f.joined ∙ append-nil f.front in
    subst (λ (l : List Token). SpellsTree (tree_of (extent l) xs) l) (sym all) (SpellsTree.tree f.spelled)
