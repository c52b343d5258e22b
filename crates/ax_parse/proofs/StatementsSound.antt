-- What the parser of statements reads is spelled.
use Rattle.std.proofs.Common.{◌≡◌, ℕ, zero, suc, arith, Bool, true, false, List, [], ◌∷◌, ◌++◌, Option, Some, None, refl, sym, ap, ◌∙◌, subst, append_assoc}
use Rattle.std.specs.Prelude.{if◌then◌else◌}
use Rattle.std.proofs.lemmas.Bool.{false≢true}
use Rattle.std.proofs.lemmas.Option.{none-some, same_Some}
use Rattle.ax_prog.specs.declared.Span.{Span}
use Rattle.ax_prog.specs.declared.Bin.{Bin}
use Rattle.ax_prog.specs.declared.tokens.Keyword.TheVariants as kw
use Rattle.ax_prog.specs.declared.tokens.Mark.TheVariants as m
use Rattle.ax_prog.specs.declared.tokens.Kind.{Kind}
use Rattle.ax_prog.specs.declared.tokens.Kind.TheVariants as k
use Rattle.ax_prog.specs.declared.tokens.Token.{Token}
use Rattle.ax_parse_grammar.specs.declared.starts.Start.{Start}
use Rattle.ax_parse_grammar.specs.declared.starts.Start.TheVariants as start
use Rattle.ax_parse_grammar.specs.declared.terminals.Terminal.{Terminal}
use Rattle.ax_parse_grammar.specs.declared.terminals.Terminal.TheVariants as w
use Rattle.ax_parse_grammar.specs.declared.tree.Prefix.{Prefix}
use Rattle.ax_parse_grammar.specs.declared.tree.Expr.{Expr}
use Rattle.ax_parse_grammar.specs.declared.tree.Decl.{Decl}
use Rattle.ax_parse_grammar.specs.declared.tree.Simple.{Simple}
use Rattle.ax_parse_grammar.specs.declared.tree.Simple.TheVariants as act
use Rattle.ax_parse_grammar.specs.declared.tree.Opening.{Opening}
use Rattle.ax_parse_grammar.specs.declared.tree.Opening.TheVariants as opening
use Rattle.ax_parse_grammar.specs.declared.tree.Stmt.{Stmt}
use Rattle.ax_parse_grammar.specs.declared.tree.Stmt.TheVariants as s
use Rattle.ax_parse_grammar.specs.Operators.{prefix_of, compound_of, step_of}
use Rattle.ax_parse_grammar.specs.Starts.{start_of}
use Rattle.ax_parse_grammar.specs.Terminals.{kind_of, Is, is, extent}
use Rattle.ax_parse_grammar.specs.Expressions.{Spells}
use Rattle.ax_parse_grammar.specs.Statements.{SpellsSimple, SpellsOpening, SpellsMaybe, SpellsStmt, SpellItems}
use Rattle.ax_parse_grammar.specs.Reading.{Parser, ◌>>=◌, choose, extent_to, after, past, next, until, maybe_until}
use Rattle.ax_parse_grammar.specs.ReadExpressions.{Found, Chain, expr, unary, postfix}
use Rattle.ax_parse_grammar.specs.ReadDeclarations.{decl}
use Rattle.ax_parse_grammar.specs.ReadStatements.{Stood, begins_decl, assign_by, call_by, chain_by, left_by, simple_stmt, test_by, opening_by, else_by, if_by, while_by, do_by, for_head_by, for_by, return_by, read_by, format_of, print_by, stmt_by, stmt, items}
use Rattle.ax_parse_grammar.proofs.Tools.{span_to}
use Rattle.ax_parse.proofs.Tools.{bind_some, choose_some, after_some, past_some, next_some, join, cons, closed_join, Front, Closed, Sound, made, until_some, maybe_sound}
use Rattle.ax_parse.proofs.ExpressionsSound.{lower, ChainFront, sounds}
use Rattle.ax_parse.proofs.DeclarationsSound.{decl_sound}

-- ---- simple statements

abbrev pub Acted : Type 0
Acted = Simple × List Token

abbrev pub MaybeActed : Type 0
MaybeActed = Option (Simple × List Token)

-- behind a left side, where d is sound
assign_sound : (n : ℕ) (ts front us : List Token) (x : Expr) (d : MaybeActed) (r : Acted) → ts ≡ front ++ us → Spells 11 x front → (d ≡ Some r → Front SpellsSimple ts r) → assign_by (expr n) ts (x, us) d ≡ Some r → Front SpellsSimple ts r
assign_sound n ts front us x d r joined spelled rest h = go (after w.Assign us) refl h
  where
    change : (o : Option (Bin × List Token)) → next compound_of us ≡ o → choose o d (λ o. expr n o.1 >>= λ (y : Found). Some (act.Change (extent_to ts y.1) x o.0 y.0, y.1)) ≡ Some r → Front SpellsSimple ts r
    change None off g = rest g
    change (Some o) on g =
        let t = next_some compound_of us o on in
        let a = bind_some {B = Acted} (expr n o.1) (λ (y : Found). Some (act.Change (extent_to ts y.1) x o.0 y.0, y.1)) r g in
        let y = (sounds n).whole o.1 a.0 a.1 in
        made SpellsSimple (λ (q : Span). act.Change q x o.0 a.0.0) ts (front ++ t.0 ∷ y.front) a.0.1 (join ts front us (t.0 ∷ y.front) a.0.1 joined (cons us o.1 y.front a.0.1 t.0 t.2 y.joined)) (SpellsSimple.change t.0 t.1 spelled y.spelled) r (same_Some (act.Change (extent_to ts a.0.1) x o.0 a.0.0, a.0.1) r a.2)

    go : (o : Option (List Token)) → after w.Assign us ≡ o → choose o (choose (next compound_of us) d (λ o. expr n o.1 >>= λ (y : Found). Some (act.Change (extent_to ts y.1) x o.0 y.0, y.1))) (λ vs. expr n vs >>= λ (y : Found). Some (act.Assign (extent_to ts y.1) x y.0, y.1)) ≡ Some r → Front SpellsSimple ts r
    go None off g = change (next compound_of us) refl g
    go (Some vs) on g =
        let t = after_some w.Assign us vs on in
        let a = bind_some {B = Acted} (expr n vs) (λ (y : Found). Some (act.Assign (extent_to ts y.1) x y.0, y.1)) r g in
        let y = (sounds n).whole vs a.0 a.1 in
        made SpellsSimple (λ (q : Span). act.Assign q x a.0.0) ts (front ++ t.0 ∷ y.front) a.0.1 (join ts front us (t.0 ∷ y.front) a.0.1 joined (cons us vs y.front a.0.1 t.0 t.2 y.joined)) (SpellsSimple.assign t.0 t.1 spelled y.spelled) r (same_Some (act.Assign (extent_to ts a.0.1) x a.0.0, a.0.1) r a.2)

call_sound : (ts : List Token) (c : Chain) (r : Acted) → ChainFront ts c → call_by ts c ≡ Some r → Front SpellsSimple ts r
call_sound ts c r f h = go (c.0).1 refl h
  where
    go : (called : Bool) → (c.0).1 ≡ called → (if called then Some (act.Call (extent_to ts c.1) (c.0).0, c.1) else None) ≡ Some r → Front SpellsSimple ts r
    go false off g = absurd (none-some r g)
    go true on g = made SpellsSimple (λ (q : Span). act.Call q (c.0).0) ts f.front c.1 f.joined (f.called on) r (same_Some (act.Call (extent_to ts c.1) (c.0).0, c.1) r g)

chain_sound : (n : ℕ) (ts : List Token) (c : Chain) (r : Acted) → ChainFront ts c → chain_by (expr n) ts c ≡ Some r → Front SpellsSimple ts r
chain_sound n ts c r f h = go (next step_of c.1) refl h
  where
    go : (o : Option (Bool × List Token)) → next step_of c.1 ≡ o → choose {B = MaybeActed} o (assign_by (expr n) ts ((c.0).0, c.1) (call_by ts c)) (λ p. Some (act.Step (extent_to ts p.1) (c.0).0 p.0, p.1)) ≡ Some r → Front SpellsSimple ts r
    go None off g = assign_sound n ts f.front c.1 (c.0).0 (call_by ts c) r f.joined (lower 11 f.spelled (omega arith)) (λ one. call_sound ts c r f one) g
    go (Some p) on g =
        let t = next_some step_of c.1 p on in
        made SpellsSimple (λ (q : Span). act.Step q (c.0).0 p.0) ts (f.front ++ t.0 ∷ []) p.1 (join ts f.front c.1 (t.0 ∷ []) p.1 f.joined t.2) (SpellsSimple.behind t.0 t.1 f.spelled) r (same_Some (act.Step (extent_to ts p.1) (c.0).0 p.0, p.1) r g)

left_sound : (n : ℕ) (ts : List Token) (r : Acted) → left_by (expr n) (unary n) (postfix n) ts ≡ Some r → Front SpellsSimple ts r
left_sound n ts r h = go (next prefix_of ts) refl h
  where
    go : (o : Option (Prefix × List Token)) → next prefix_of ts ≡ o → choose {B = MaybeActed} o (postfix n ts >>= chain_by (expr n) ts) (λ p. unary n ts >>= λ (x : Found). assign_by (expr n) ts x None) ≡ Some r → Front SpellsSimple ts r
    go None off g =
        let a = bind_some {B = Acted} (postfix n ts) (chain_by (expr n) ts) r g in
        chain_sound n ts a.0 r ((sounds n).postfixes ts a.0 a.1) a.2
    go (Some p) on g =
        let a = bind_some {B = Acted} (unary n ts) (λ (x : Found). assign_by (expr n) ts x None) r g in
        let f = (sounds n).unaries ts a.0 a.1 in
        assign_sound n ts f.front a.0.1 a.0.0 None r f.joined f.spelled (λ one. absurd (none-some r one)) a.2

pub simple_sound : (n : ℕ) → Sound SpellsSimple (simple_stmt n)
simple_sound n ts r h = go (next step_of ts) refl h
  where
    go : (o : Option (Bool × List Token)) → next step_of ts ≡ o → choose {B = MaybeActed} o (left_by (expr n) (unary n) (postfix n) ts) (λ p. unary n p.1 >>= λ (x : Found). Some (act.Step (extent_to ts x.1) x.0 p.0, x.1)) ≡ Some r → Front SpellsSimple ts r
    go None off g = left_sound n ts r g
    go (Some p) on g =
        let t = next_some step_of ts p on in
        let a = bind_some {B = Acted} (unary n p.1) (λ (x : Found). Some (act.Step (extent_to ts x.1) x.0 p.0, x.1)) r g in
        let f = (sounds n).unaries p.1 a.0 a.1 in
        made SpellsSimple (λ (q : Span). act.Step q a.0.0 p.0) ts (t.0 ∷ f.front) a.0.1 (cons ts p.1 f.front a.0.1 t.0 t.2 f.joined) (SpellsSimple.before t.0 t.1 f.spelled) r (same_Some (act.Step (extent_to ts a.0.1) a.0.0 p.0, a.0.1) r a.2)

-- ---- in parentheses

-- an expression in parentheses
pub data SpellsTest : Expr → List Token → Type 0 where
  test : {c : Expr} {ts : List Token} (first last : Token) → Is w.OpenRound first → Is w.CloseRound last → Spells 0 c ts → SpellsTest c (first ∷ (ts ++ last ∷ []))

test_sound : (n : ℕ) → Sound SpellsTest (test_by (expr n))
test_sound n ts r h =
    let a = choose_some (after w.OpenRound ts) (λ (us : List Token). until w.CloseRound (expr n) us) r h in
    let t = after_some w.OpenRound ts a.0 a.1 in
    let x = until_some (Spells 0) w.CloseRound (expr n) (sounds n).whole a.0 r a.2 in
    record { front = t.0 ∷ (x.inner ++ x.last ∷ []); joined = cons ts a.0 (x.inner ++ x.last ∷ []) r.1 t.0 t.2 x.joined; spelled = SpellsTest.test t.0 x.last t.1 x.closes x.spelled }

opening_sound : (n : ℕ) → Sound SpellsOpening (opening_by (decl n) (simple_stmt n))
opening_sound n ts r h = go (after w.Semicolon ts) (begins_decl ts) refl h
  where
    inner : (b : Bool) → (if b then (decl n ts >>= λ (d : Decl × List Token). Some (opening.Decl d.0, d.1)) else (until w.Semicolon (simple_stmt n) ts >>= λ (x : Acted). Some (opening.Simple x.0, x.1))) ≡ Some r → Front SpellsOpening ts r
    inner true g =
        let a = bind_some {B = Opening × List Token} (decl n ts) (λ (d : Decl × List Token). Some (opening.Decl d.0, d.1)) r g in
        let f = decl_sound n ts a.0 a.1 in
        subst (λ (q : Opening × List Token). Front SpellsOpening ts q) (same_Some (opening.Decl a.0.0, a.0.1) r a.2) (record { front = f.front; joined = f.joined; spelled = SpellsOpening.decl f.spelled })
    inner false g =
        let a = bind_some {B = Opening × List Token} (until w.Semicolon (simple_stmt n) ts) (λ (x : Acted). Some (opening.Simple x.0, x.1)) r g in
        let f = until_some SpellsSimple w.Semicolon (simple_stmt n) (simple_sound n) ts a.0 a.1 in
        subst (λ (q : Opening × List Token). Front SpellsOpening ts q) (same_Some (opening.Simple a.0.0, a.0.1) r a.2) (record { front = f.inner ++ f.last ∷ []; joined = f.joined; spelled = SpellsOpening.simple f.last f.closes f.spelled })

    go : (o : Option (List Token)) (b : Bool) → after w.Semicolon ts ≡ o → choose {B = Option (Opening × List Token)} o (if b then (decl n ts >>= λ (d : Decl × List Token). Some (opening.Decl d.0, d.1)) else (until w.Semicolon (simple_stmt n) ts >>= λ (x : Acted). Some (opening.Simple x.0, x.1))) (λ rest. Some (opening.Nothing, rest)) ≡ Some r → Front SpellsOpening ts r
    go None b off g = inner b g
    go (Some rest) b on g =
        let t = after_some w.Semicolon ts rest on in
        subst (λ (q : Opening × List Token). Front SpellsOpening ts q) (same_Some (opening.Nothing, rest) r g) (record { front = t.0 ∷ []; joined = t.2; spelled = SpellsOpening.nothing t.0 t.1 })

-- ---- statements

-- a statement's front; it ends in an `if` without `else` only where no `else` follows
pub record StmtFront (ts : List Token) (r : Stood) : Type 0 where
  pub front : List Token
  pub flag : Bool
  pub joined : ts ≡ front ++ r.1
  pub spelled : SpellsStmt flag r.0 front
  pub quiet : flag ≡ true → after w.Else r.1 ≡ None

abbrev pub StmtSound : Parser Stmt → Type 0
StmtSound p = (ts : List Token) (r : Stood) → p ts ≡ Some r → StmtFront ts r

-- a statement that is made so from its front
stood : (g : Span → Stmt) (ts front rest : List Token) (flag : Bool) → ts ≡ front ++ rest → SpellsStmt flag (g (extent front)) front → (flag ≡ true → after w.Else rest ≡ None) → (r : Stood) → (g (extent_to ts rest), rest) ≡ r → StmtFront ts r
stood g ts front rest flag h is quiet r same = subst (λ (f : Stood). StmtFront ts f) same (record {
  front = front;
  flag = flag;
  joined = h;
  spelled = subst (λ (x : Span). SpellsStmt flag (g x) front) (sym (span_to ts front rest h)) is;
  quiet = quiet;
})

no_flag : {A : Type 0} → false ≡ true → A
no_flag h = absurd (false≢true h)

not_lone : (flag : Bool) (x : Stmt) (front : List Token) → SpellsStmt flag x front → (flag ≡ true → ⊥) → SpellsStmt false x front
not_lone true x front is off = absurd (off refl)
not_lone false x front is off = is

module _ (n : ℕ) (ts us : List Token) (t : Token) (at : ts ≡ t ∷ us) (r : Stood) where
  alone_sound : (what : Terminal) (g : Span → Stmt) → ((last : Token) → Is w.Semicolon last → SpellsStmt false (g (extent (t ∷ last ∷ []))) (t ∷ last ∷ [])) → choose (after w.Semicolon us) None (λ rest. Some (g (extent_to ts rest), rest)) ≡ Some r → StmtFront ts r
  alone_sound what g spells h =
      let a = choose_some (after w.Semicolon us) (λ (rest : List Token). let p : Option Stood = Some (g (extent_to ts rest), rest) in p) r h in
      let e = after_some w.Semicolon us a.0 a.1 in
      stood g ts (t ∷ e.0 ∷ []) a.0 false (cons ts us (e.0 ∷ []) a.0 t at e.2) (spells e.0 e.1) no_flag r (same_Some (g (extent_to ts a.0), a.0) r a.2)

  return_sound : Is w.Return t → return_by (expr n) ts us ≡ Some r → StmtFront ts r
  return_sound is h =
      let a = bind_some {B = Stood} (maybe_until w.Semicolon (expr n) us) (λ (x : Option Expr × List Token). Some (s.Return (extent_to ts x.1) x.0, x.1)) r h in
      let x = maybe_sound (Spells 0) w.Semicolon (expr n) (sounds n).whole us a.0 a.1 in
      let back : List Token = x.inner ++ x.last ∷ [] in
      stood (λ (q : Span). s.Return q a.0.0) ts (t ∷ back) a.0.1 false (cons ts us back a.0.1 t at x.joined) (SpellsStmt.return t x.last is x.closes x.spelled) no_flag r (same_Some (s.Return (extent_to ts a.0.1) a.0.0, a.0.1) r a.2)

  read_sound : Is w.Scanf t → read_by (unary n) ts us ≡ Some r → StmtFront ts r
  read_sound is h =
      let a = choose_some (past (w.OpenRound ∷ w.Format ∷ w.Comma ∷ w.Amp ∷ []) us) (λ (vs : List Token). let p : Option Stood = unary n vs >>= λ (x : Found). choose (past (w.CloseRound ∷ w.Semicolon ∷ []) x.1) None (λ rest. Some (s.Read (extent_to ts rest) x.0, rest)) in p) r h in
      let start = past_some (w.OpenRound ∷ w.Format ∷ w.Comma ∷ w.Amp ∷ []) us a.0 a.1 in
      let x = bind_some {B = Stood} (unary n a.0) (λ (x : Found). choose (past (w.CloseRound ∷ w.Semicolon ∷ []) x.1) None (λ rest. Some (s.Read (extent_to ts rest) x.0, rest))) r a.2 in
      let f = (sounds n).unaries a.0 x.0 x.1 in
      let b = choose_some (past (w.CloseRound ∷ w.Semicolon ∷ []) x.0.1) (λ (rest : List Token). let p : Option Stood = Some (s.Read (extent_to ts rest) x.0.0, rest) in p) r x.2 in
      let end = past_some (w.CloseRound ∷ w.Semicolon ∷ []) x.0.1 b.0 b.1 in
      let back : List Token = start.0 ++ (f.front ++ end.0) in
      let joined : us ≡ back ++ b.0 = join us start.0 a.0 (f.front ++ end.0) b.0 start.2 (join a.0 f.front x.0.1 end.0 b.0 f.joined end.2) in
      stood (λ (q : Span). s.Read q x.0.0) ts (t ∷ back) b.0 false (cons ts us back b.0 t at joined) (SpellsStmt.read t start.0 end.0 is start.1 end.1 f.spelled) no_flag r (same_Some (s.Read (extent_to ts b.0) x.0.0, b.0) r b.2)

  simple_alone_sound : (until w.Semicolon (simple_stmt n) ts >>= λ (x : Acted). Some (s.Simple (extent_to ts x.1) x.0, x.1)) ≡ Some r → StmtFront ts r
  simple_alone_sound h =
      let a = bind_some {B = Stood} (until w.Semicolon (simple_stmt n) ts) (λ (x : Acted). Some (s.Simple (extent_to ts x.1) x.0, x.1)) r h in
      let x = until_some SpellsSimple w.Semicolon (simple_stmt n) (simple_sound n) ts a.0 a.1 in
      stood (λ (q : Span). s.Simple q a.0.0) ts (x.inner ++ x.last ∷ []) a.0.1 false x.joined (SpellsStmt.simple x.last x.closes x.spelled) no_flag r (same_Some (s.Simple (extent_to ts a.0.1) a.0.0, a.0.1) r a.2)

format_kind : (kind : Kind) (i : ℕ) → format_of kind ≡ Some i → kind ≡ k.Format i
format_kind (k.Format j) i h = ap (λ (l : ℕ). k.Format l) (same_Some j i h)
format_kind _ i h = absurd (none-some i h)

-- a format and a comma
record FormatFront (ts : List Token) (r : ℕ × List Token) : Type 0 where
  format : Token
  comma : Token
  is : format.kind ≡ k.Format r.0
  ends : Is w.Comma comma
  joined : ts ≡ format ∷ comma ∷ r.1

format_sound : (ts : List Token) (r : ℕ × List Token) → until w.Comma (next format_of) ts ≡ Some r → FormatFront ts r
format_sound ts r h =
    let a = bind_some {B = ℕ × List Token} (next format_of ts) (λ (x : ℕ × List Token). choose (after w.Comma x.1) None (λ rest. Some (x.0, rest))) r h in
    let t = next_some format_of ts a.0 a.1 in
    let b = choose_some (after w.Comma a.0.1) (λ (rest : List Token). let p : Option (ℕ × List Token) = Some (a.0.0, rest) in p) r a.2 in
    let e = after_some w.Comma a.0.1 b.0 b.1 in
    subst (λ (q : ℕ × List Token). FormatFront ts q) (same_Some (a.0.0, b.0) r b.2) (record { format = t.0; comma = e.0; is = format_kind t.0.kind a.0.0 t.1; ends = e.1; joined = t.2 ∙ ap (λ (l : List Token). t.0 ∷ l) e.2 })

print_sound : (n : ℕ) (ts us : List Token) (t : Token) → ts ≡ t ∷ us → (r : Stood) → Is w.Printf t → print_by (expr n) ts us ≡ Some r → StmtFront ts r
print_sound n ts us t at r is h =
    let a = choose_some (after w.OpenRound us) (λ (vs : List Token). let p : Option Stood = until w.Comma (next format_of) vs >>= λ (i : ℕ × List Token). expr n i.1 >>= λ (x : Found). choose (past (w.CloseRound ∷ w.Semicolon ∷ []) x.1) None (λ rest. Some (s.Print (extent_to ts rest) i.0 x.0, rest)) in p) r h in
    let first = after_some w.OpenRound us a.0 a.1 in
    let i = bind_some {B = Stood} (until w.Comma (next format_of) a.0) (λ (i : ℕ × List Token). expr n i.1 >>= λ (x : Found). choose (past (w.CloseRound ∷ w.Semicolon ∷ []) x.1) None (λ rest. Some (s.Print (extent_to ts rest) i.0 x.0, rest))) r a.2 in
    let f = format_sound a.0 i.0 i.1 in
    let x = bind_some {B = Stood} (expr n i.0.1) (λ (x : Found). choose (past (w.CloseRound ∷ w.Semicolon ∷ []) x.1) None (λ rest. Some (s.Print (extent_to ts rest) i.0.0 x.0, rest))) r i.2 in
    let y = (sounds n).whole i.0.1 x.0 x.1 in
    let b = choose_some (past (w.CloseRound ∷ w.Semicolon ∷ []) x.0.1) (λ (rest : List Token). let p : Option Stood = Some (s.Print (extent_to ts rest) i.0.0 x.0.0, rest) in p) r x.2 in
    let end = past_some (w.CloseRound ∷ w.Semicolon ∷ []) x.0.1 b.0 b.1 in
    let tail : List Token = y.front ++ end.0 in
    let inner : i.0.1 ≡ tail ++ b.0 = join i.0.1 y.front x.0.1 end.0 b.0 y.joined end.2 in
    let back : us ≡ (first.0 ∷ f.format ∷ f.comma ∷ tail) ++ b.0 = cons us a.0 (f.format ∷ f.comma ∷ tail) b.0 first.0 first.2 (f.joined ∙ ap (λ (l : List Token). f.format ∷ f.comma ∷ l) inner) in
    stood (λ (q : Span). s.Print q i.0.0 x.0.0) ts (t ∷ first.0 ∷ f.format ∷ f.comma ∷ tail) b.0 false (cons ts us (first.0 ∷ f.format ∷ f.comma ∷ tail) b.0 t at back) (SpellsStmt.print t first.0 f.format f.comma end.0 is first.1 f.is f.ends end.1 y.spelled) no_flag r (same_Some (s.Print (extent_to ts b.0) i.0.0 x.0.0, b.0) r b.2)

-- ---- statements in statements

lone_spelled : {f : Bool} {c : Expr} {x : Stmt} {test body : List Token} (t : Token) → Is w.If t → SpellsTest c test → SpellsStmt f x body → SpellsStmt true (s.If (extent (t ∷ (test ++ body))) c x) (t ∷ (test ++ body))
lone_spelled {c = c} {x = x} {body = body} t is (SpellsTest.test {ts = ts} a b h g q) p = subst (λ (l : List Token). SpellsStmt true (s.If (extent (t ∷ a ∷ l)) c x) (t ∷ a ∷ l)) (sym (append_assoc ts (b ∷ []) body)) (SpellsStmt.lone_if t a b is h g q p)

both_spelled : {f : Bool} {c : Expr} {x y : Stmt} {test body other : List Token} (t u : Token) → Is w.If t → Is w.Else u → SpellsTest c test → SpellsStmt false x body → SpellsStmt f y other → SpellsStmt f (s.IfElse (extent (t ∷ (test ++ (body ++ u ∷ other)))) c x y) (t ∷ (test ++ (body ++ u ∷ other)))
both_spelled {f = f} {c = c} {x = x} {y = y} {body = body} {other = other} t u is els (SpellsTest.test {ts = ts} a b h g q) p r = subst (λ (l : List Token). SpellsStmt f (s.IfElse (extent (t ∷ a ∷ l)) c x y) (t ∷ a ∷ l)) (sym (append_assoc ts (b ∷ []) (body ++ u ∷ other))) (SpellsStmt.if_else t a b u is h g els q p r)

while_spelled : {f : Bool} {c : Expr} {x : Stmt} {test body : List Token} (t : Token) → Is w.While t → SpellsTest c test → SpellsStmt f x body → SpellsStmt f (s.While (extent (t ∷ (test ++ body))) c x) (t ∷ (test ++ body))
while_spelled {f = f} {c = c} {x = x} {body = body} t is (SpellsTest.test {ts = ts} a b h g q) p = subst (λ (l : List Token). SpellsStmt f (s.While (extent (t ∷ a ∷ l)) c x) (t ∷ a ∷ l)) (sym (append_assoc ts (b ∷ []) body)) (SpellsStmt.while t a b is h g q p)

do_spelled : {f : Bool} {c : Expr} {x : Stmt} {test body : List Token} (t u end : Token) → Is w.Do t → Is w.While u → Is w.Semicolon end → SpellsStmt f x body → SpellsTest c test → SpellsStmt false (s.Do (extent (t ∷ (body ++ u ∷ (test ++ end ∷ [])))) x c) (t ∷ (body ++ u ∷ (test ++ end ∷ [])))
do_spelled {c = c} {x = x} {body = body} t u end is loop ends p (SpellsTest.test {ts = ts} a b h g q) = subst (λ (l : List Token). SpellsStmt false (s.Do (extent (t ∷ (body ++ u ∷ a ∷ l))) x c) (t ∷ (body ++ u ∷ a ∷ l))) (sym (append_assoc ts (b ∷ []) (end ∷ []))) (SpellsStmt.do_while t u a b end is loop h g ends p q)

-- a statement and a terminal behind it
record StmtClosed (what : Terminal) (ts : List Token) (r : Stood) : Type 0 where
  inner : List Token
  last : Token
  flag : Bool
  joined : ts ≡ (inner ++ last ∷ []) ++ r.1
  spelled : SpellsStmt flag r.0 inner
  closes : Is what last

until_stmt : (what : Terminal) (part : Parser Stmt) → StmtSound part → (ts : List Token) (r : Stood) → until what part ts ≡ Some r → StmtClosed what ts r
until_stmt what part sound ts r h =
    let a = bind_some (part ts) (λ (x : Stood). choose (after what x.1) None (λ (rest : List Token). Some (x.0, rest))) r h in
    let b = choose_some (after what a.0.1) (λ (rest : List Token). Some (a.0.0, rest)) r a.2 in
    let t = after_some what a.0.1 b.0 b.1 in
    let f = sound ts a.0 a.1 in
    subst (λ (q : Stood). StmtClosed what ts q) (same_Some (a.0.0, b.0) r b.2) (record {
      inner = f.front;
      last = t.0;
      flag = f.flag;
      joined = join ts f.front a.0.1 (t.0 ∷ []) b.0 f.joined t.2;
      spelled = f.spelled;
      closes = t.1;
    })

abbrev pub Header : Type 0
Header = (Opening × (Option Expr × Option Simple)) × List Token

-- the parts of a `for` in its parentheses
record HeaderFront (ts : List Token) (r : Header) : Type 0 where
  first : Token
  os : List Token
  cs : List Token
  middle : Token
  ss : List Token
  last : Token
  opens : Is w.OpenRound first
  ends : Is w.Semicolon middle
  closes : Is w.CloseRound last
  begins : SpellsOpening ((r.0).0) os
  asks : SpellsMaybe (Spells 0) (((r.0).1).0) cs
  steps : SpellsMaybe SpellsSimple (((r.0).1).1) ss
  joined : (body rest : List Token) → r.1 ≡ body ++ rest → ts ≡ (first ∷ (os ++ (cs ++ middle ∷ (ss ++ last ∷ body)))) ++ rest

header_sound : (n : ℕ) (ts us : List Token) (r : Header) (t : Token) → Is w.OpenRound t → ts ≡ t ∷ us → for_head_by (expr n) (decl n) (simple_stmt n) us ≡ Some r → HeaderFront ts r
header_sound n ts us r t is at h =
    let o = bind_some {B = Header} (opening_by (decl n) (simple_stmt n) us) (λ (o : Opening × List Token). maybe_until w.Semicolon (expr n) o.1 >>= λ (c : Option Expr × List Token). maybe_until w.CloseRound (simple_stmt n) c.1 >>= λ (x : Option Simple × List Token). Some ((o.0, (c.0, x.0)), x.1)) r h in
    let c = bind_some {B = Header} (maybe_until w.Semicolon (expr n) o.0.1) (λ (c : Option Expr × List Token). maybe_until w.CloseRound (simple_stmt n) c.1 >>= λ (x : Option Simple × List Token). Some ((o.0.0, (c.0, x.0)), x.1)) r o.2 in
    let x = bind_some {B = Header} (maybe_until w.CloseRound (simple_stmt n) c.0.1) (λ (x : Option Simple × List Token). Some ((o.0.0, (c.0.0, x.0)), x.1)) r c.2 in
    let a = opening_sound n us o.0 o.1 in
    let b = maybe_sound (Spells 0) w.Semicolon (expr n) (sounds n).whole o.0.1 c.0 c.1 in
    let d = maybe_sound SpellsSimple w.CloseRound (simple_stmt n) (simple_sound n) c.0.1 x.0 x.1 in
    subst (λ (q : Header). HeaderFront ts q) (same_Some ((o.0.0, (c.0.0, x.0.0)), x.0.1) r x.2) (record {
      first = t;
      os = a.front;
      cs = b.inner;
      middle = b.last;
      ss = d.inner;
      last = d.last;
      opens = is;
      ends = b.closes;
      closes = d.closes;
      begins = a.spelled;
      asks = b.spelled;
      steps = d.spelled;
      joined = λ body rest more. cons ts us (a.front ++ (b.inner ++ b.last ∷ (d.inner ++ d.last ∷ body))) rest t at (join us a.front o.0.1 (b.inner ++ b.last ∷ (d.inner ++ d.last ∷ body)) rest a.joined (closed_join o.0.1 b.inner b.last c.0.1 (d.inner ++ d.last ∷ body) rest b.joined (closed_join c.0.1 d.inner d.last x.0.1 body rest d.joined more)));
    })

module _ (n : ℕ) (part : Parser Stmt) (sound : StmtSound part) (ts us : List Token) (t : Token) (at : ts ≡ t ∷ us) (r : Stood) where
  -- behind the body of an `if`
  else_sound : Is w.If t → (c : Found) → Front SpellsTest us c → (x : Stood) → StmtFront c.1 x → else_by part ts c.0 x ≡ Some r → StmtFront ts r
  else_sound is c p x f h = go (after w.Else x.1) refl h
    where
      go : (o : Option (List Token)) → after w.Else x.1 ≡ o → choose {B = Option Stood} o (Some (s.If (extent_to ts x.1) c.0 x.0, x.1)) (λ rest. part rest >>= λ (b : Stood). Some (s.IfElse (extent_to ts b.1) c.0 x.0 b.0, b.1)) ≡ Some r → StmtFront ts r
      go None off g =
          let joined : ts ≡ (t ∷ (p.front ++ f.front)) ++ x.1 = cons ts us (p.front ++ f.front) x.1 t at (join us p.front c.1 f.front x.1 p.joined f.joined) in
          stood (λ (q : Span). s.If q c.0 x.0) ts (t ∷ (p.front ++ f.front)) x.1 true joined (lone_spelled t is p.spelled f.spelled) (λ on. off) r (same_Some (s.If (extent_to ts x.1) c.0 x.0, x.1) r g)
      go (Some vs) on g =
          let e = after_some w.Else x.1 vs on in
          let a = bind_some {B = Stood} (part vs) (λ (b : Stood). Some (s.IfElse (extent_to ts b.1) c.0 x.0 b.0, b.1)) r g in
          let y = sound vs a.0 a.1 in
          let back : List Token = f.front ++ e.0 ∷ y.front in
          let inner : c.1 ≡ back ++ a.0.1 = join c.1 f.front x.1 (e.0 ∷ y.front) a.0.1 f.joined (cons x.1 vs y.front a.0.1 e.0 e.2 y.joined) in
          let joined : ts ≡ (t ∷ (p.front ++ back)) ++ a.0.1 = cons ts us (p.front ++ back) a.0.1 t at (join us p.front c.1 back a.0.1 p.joined inner) in
          let body = not_lone f.flag x.0 f.front f.spelled (λ (lone : f.flag ≡ true). none-some vs (sym (f.quiet lone) ∙ on)) in
          stood (λ (q : Span). s.IfElse q c.0 x.0 a.0.0) ts (t ∷ (p.front ++ back)) a.0.1 y.flag joined (both_spelled t e.0 is e.1 p.spelled body y.spelled) y.quiet r (same_Some (s.IfElse (extent_to ts a.0.1) c.0 x.0 a.0.0, a.0.1) r a.2)

  if_sound : Is w.If t → if_by (expr n) part ts us ≡ Some r → StmtFront ts r
  if_sound is h =
      let c = bind_some {B = Stood} (test_by (expr n) us) (λ (c : Found). part c.1 >>= else_by part ts c.0) r h in
      let x = bind_some {B = Stood} (part c.0.1) (else_by part ts c.0.0) r c.2 in
      else_sound is c.0 (test_sound n us c.0 c.1) x.0 (sound c.0.1 x.0 x.1) x.2

  while_sound : Is w.While t → while_by (expr n) part ts us ≡ Some r → StmtFront ts r
  while_sound is h =
      let c = bind_some {B = Stood} (test_by (expr n) us) (λ (c : Found). part c.1 >>= λ (x : Stood). Some (s.While (extent_to ts x.1) c.0 x.0, x.1)) r h in
      let x = bind_some {B = Stood} (part c.0.1) (λ (x : Stood). Some (s.While (extent_to ts x.1) c.0.0 x.0, x.1)) r c.2 in
      let p = test_sound n us c.0 c.1 in
      let f = sound c.0.1 x.0 x.1 in
      let joined : ts ≡ (t ∷ (p.front ++ f.front)) ++ x.0.1 = cons ts us (p.front ++ f.front) x.0.1 t at (join us p.front c.0.1 f.front x.0.1 p.joined f.joined) in
      stood (λ (q : Span). s.While q c.0.0 x.0.0) ts (t ∷ (p.front ++ f.front)) x.0.1 f.flag joined (while_spelled t is p.spelled f.spelled) f.quiet r (same_Some (s.While (extent_to ts x.0.1) c.0.0 x.0.0, x.0.1) r x.2)

  do_sound : Is w.Do t → do_by (expr n) part ts us ≡ Some r → StmtFront ts r
  do_sound is h =
      let a = bind_some {B = Stood} (until w.While part us) (λ (x : Stood). until w.Semicolon (test_by (expr n)) x.1 >>= λ (c : Found). Some (s.Do (extent_to ts c.1) x.0 c.0, c.1)) r h in
      let c = bind_some {B = Stood} (until w.Semicolon (test_by (expr n)) a.0.1) (λ (c : Found). Some (s.Do (extent_to ts c.1) a.0.0 c.0, c.1)) r a.2 in
      let x = until_stmt w.While part sound us a.0 a.1 in
      let p = until_some SpellsTest w.Semicolon (test_by (expr n)) (test_sound n) a.0.1 c.0 c.1 in
      let back : List Token = x.inner ++ x.last ∷ (p.inner ++ p.last ∷ []) in
      let joined : ts ≡ (t ∷ back) ++ c.0.1 = cons ts us back c.0.1 t at (closed_join us x.inner x.last a.0.1 (p.inner ++ p.last ∷ []) c.0.1 x.joined p.joined) in
      stood (λ (q : Span). s.Do q a.0.0 c.0.0) ts (t ∷ back) c.0.1 false joined (do_spelled t x.last p.last is x.closes p.closes x.spelled p.spelled) no_flag r (same_Some (s.Do (extent_to ts c.0.1) a.0.0 c.0.0, c.0.1) r c.2)

  for_sound : Is w.For t → for_by (expr n) (decl n) (simple_stmt n) part ts us ≡ Some r → StmtFront ts r
  for_sound is h =
      let a = choose_some (after w.OpenRound us) (λ (vs : List Token). let p : Option Stood = for_head_by (expr n) (decl n) (simple_stmt n) vs >>= λ (h : Header). part h.1 >>= λ (x : Stood). Some (s.For (extent_to ts x.1) (h.0).0 ((h.0).1).0 ((h.0).1).1 x.0, x.1) in p) r h in
      let e = after_some w.OpenRound us a.0 a.1 in
      let b = bind_some {B = Stood} (for_head_by (expr n) (decl n) (simple_stmt n) a.0) (λ (h : Header). part h.1 >>= λ (x : Stood). Some (s.For (extent_to ts x.1) (h.0).0 ((h.0).1).0 ((h.0).1).1 x.0, x.1)) r a.2 in
      let x = bind_some {B = Stood} (part b.0.1) (λ (x : Stood). Some (s.For (extent_to ts x.1) ((b.0).0).0 (((b.0).0).1).0 (((b.0).0).1).1 x.0, x.1)) r b.2 in
      let p = header_sound n us a.0 b.0 e.0 e.1 e.2 b.1 in
      let f = sound b.0.1 x.0 x.1 in
      let back : List Token = p.first ∷ (p.os ++ (p.cs ++ p.middle ∷ (p.ss ++ p.last ∷ f.front))) in
      let joined : ts ≡ (t ∷ back) ++ x.0.1 = cons ts us back x.0.1 t at (p.joined f.front x.0.1 f.joined) in
      stood (λ (q : Span). s.For q ((b.0).0).0 (((b.0).0).1).0 (((b.0).0).1).1 x.0.0) ts (t ∷ back) x.0.1 f.flag joined (SpellsStmt.for t p.first p.middle p.last is p.opens p.ends p.closes p.begins p.asks p.steps f.spelled) f.quiet r (same_Some (s.For (extent_to ts x.0.1) ((b.0).0).0 (((b.0).0).1).0 (((b.0).0).1).1 x.0.0, x.0.1) r x.2)

-- ---- by the first token

-- the terminal that begins so
abbrev pub Kinds : Start → Kind → Type 0
Kinds start.Empty kind = kind ≡ kind_of w.Semicolon
Kinds start.Block kind = kind ≡ kind_of w.OpenCurly
Kinds start.If kind = kind ≡ kind_of w.If
Kinds start.While kind = kind ≡ kind_of w.While
Kinds start.Do kind = kind ≡ kind_of w.Do
Kinds start.For kind = kind ≡ kind_of w.For
Kinds start.Break kind = kind ≡ kind_of w.Break
Kinds start.Continue kind = kind ≡ kind_of w.Continue
Kinds start.Return kind = kind ≡ kind_of w.Return
Kinds start.Read kind = kind ≡ kind_of w.Scanf
Kinds start.Print kind = kind ≡ kind_of w.Printf
Kinds _ kind = Unit {0}

start_is : (kind : Kind) → Kinds (start_of kind) kind
start_is (k.Keyword kw.Int) = tt
start_is (k.Keyword kw.Struct) = tt
start_is (k.Keyword kw.If) = refl
start_is (k.Keyword kw.While) = refl
start_is (k.Keyword kw.Do) = refl
start_is (k.Keyword kw.For) = refl
start_is (k.Keyword kw.Break) = refl
start_is (k.Keyword kw.Continue) = refl
start_is (k.Keyword kw.Return) = refl
start_is (k.Keyword kw.Scanf) = refl
start_is (k.Keyword kw.Printf) = refl
start_is (k.Mark m.Semicolon) = refl
start_is (k.Mark m.OpenCurly) = refl
start_is _ = tt

-- the items of a block and `}`
abbrev pub ItemsSound : Parser (List Stmt) → Type 0
ItemsSound p = (ts : List Token) (r : List Stmt × List Token) → p ts ≡ Some r → Closed SpellItems w.CloseCurly ts r

block_sound : (n : ℕ) (ts us : List Token) (t : Token) → ts ≡ t ∷ us → ItemsSound (items n) → (r : Stood) → Is w.OpenCurly t → (items n us >>= λ (xs : List Stmt × List Token). Some (s.Block (extent_to ts xs.1) xs.0, xs.1)) ≡ Some r → StmtFront ts r
block_sound n ts us t at again r is h =
    let a = bind_some {B = Stood} (items n us) (λ (xs : List Stmt × List Token). Some (s.Block (extent_to ts xs.1) xs.0, xs.1)) r h in
    let x = again us a.0 a.1 in
    let back : List Token = x.inner ++ x.last ∷ [] in
    stood (λ (q : Span). s.Block q a.0.0) ts (t ∷ back) a.0.1 false (cons ts us back a.0.1 t at x.joined) (SpellsStmt.block t x.last is x.closes x.spelled) no_flag r (same_Some (s.Block (extent_to ts a.0.1) a.0.0, a.0.1) r a.2)

by_start_sound : (n : ℕ) → StmtSound (stmt n) → ItemsSound (items n) → (ts us : List Token) (t : Token) → ts ≡ t ∷ us → (what : Start) → Kinds what t.kind → (r : Stood) → stmt_by n (stmt n) (items n) ts us what ≡ Some r → StmtFront ts r
by_start_sound n part again ts us t at start.Empty is r h = stood (λ (q : Span). s.Empty q) ts (t ∷ []) us false at (SpellsStmt.empty t is) no_flag r (same_Some (s.Empty (extent_to ts us), us) r h)
by_start_sound n part again ts us t at start.Block is r h = block_sound n ts us t at again r is h
by_start_sound n part again ts us t at start.Decl is r h = absurd (none-some r h)
by_start_sound n part again ts us t at start.If is r h = if_sound n (stmt n) part ts us t at r is h
by_start_sound n part again ts us t at start.While is r h = while_sound n (stmt n) part ts us t at r is h
by_start_sound n part again ts us t at start.Do is r h = do_sound n (stmt n) part ts us t at r is h
by_start_sound n part again ts us t at start.For is r h = for_sound n (stmt n) part ts us t at r is h
by_start_sound n part again ts us t at start.Break is r h = alone_sound n ts us t at r w.Break (λ (q : Span). s.Break q) (λ last ends. SpellsStmt.break t last is ends) h
by_start_sound n part again ts us t at start.Continue is r h = alone_sound n ts us t at r w.Continue (λ (q : Span). s.Continue q) (λ last ends. SpellsStmt.continue t last is ends) h
by_start_sound n part again ts us t at start.Return is r h = return_sound n ts us t at r is h
by_start_sound n part again ts us t at start.Read is r h = read_sound n ts us t at r is h
by_start_sound n part again ts us t at start.Print is r h = print_sound n ts us t at r is h
by_start_sound n part again ts us t at start.Simple is r h = simple_alone_sound n ts us t at r h

stmt_step : (n : ℕ) → StmtSound (stmt n) → ItemsSound (items n) → StmtSound (stmt (suc n))
unfolding stmt
stmt_step n part again [] r h = absurd (none-some r h)
stmt_step n part again (t ∷ ts) r h = by_start_sound n part again (t ∷ ts) ts t refl (start_of t.kind) (start_is t.kind) r h

items_step : (n : ℕ) → StmtSound (stmt n) → ItemsSound (items n) → ItemsSound (items (suc n))
unfolding items
items_step n part again ts r h = go (after w.CloseCurly ts) (begins_decl ts) refl h
  where
    declared : (decl n ts >>= λ (d : Decl × List Token). Some (s.Decl d.0, d.1)) >>= (λ (x : Stood). items n x.1 >>= λ (xs : List Stmt × List Token). Some (x.0 ∷ xs.0, xs.1)) ≡ Some r → Closed SpellItems w.CloseCurly ts r
    declared g =
        let a = bind_some {B = List Stmt × List Token} (decl n ts >>= λ (d : Decl × List Token). Some (s.Decl d.0, d.1)) (λ (x : Stood). items n x.1 >>= λ (xs : List Stmt × List Token). Some (x.0 ∷ xs.0, xs.1)) r g in
        let d = bind_some {B = Stood} (decl n ts) (λ (d : Decl × List Token). Some (s.Decl d.0, d.1)) a.0 a.1 in
        let f = decl_sound n ts d.0 d.1 in
        let same : (s.Decl d.0.0, d.0.1) ≡ a.0 = same_Some (s.Decl d.0.0, d.0.1) a.0 d.2 in
        let b = bind_some {B = List Stmt × List Token} (items n a.0.1) (λ (xs : List Stmt × List Token). Some (a.0.0 ∷ xs.0, xs.1)) r a.2 in
        let y = again a.0.1 b.0 b.1 in
        let left : d.0.1 ≡ a.0.1 = ap (λ (q : Stood). q.1) same in
        let inner : ts ≡ f.front ++ a.0.1 = f.joined ∙ ap (λ (l : List Token). f.front ++ l) left in
        let joined : ts ≡ ((f.front ++ y.inner) ++ y.last ∷ []) ++ b.0.1 = join ts f.front a.0.1 (y.inner ++ y.last ∷ []) b.0.1 inner y.joined ∙ ap (λ (l : List Token). l ++ b.0.1) (sym (append_assoc f.front y.inner (y.last ∷ []))) in
        let spelled : SpellItems (a.0.0 ∷ b.0.0) (f.front ++ y.inner) = subst (λ (q : Stood). SpellItems (q.0 ∷ b.0.0) (f.front ++ y.inner)) same (SpellItems.decl_item f.spelled y.spelled) in
        subst (λ (q : List Stmt × List Token). Closed SpellItems w.CloseCurly ts q) (same_Some (a.0.0 ∷ b.0.0, b.0.1) r b.2) (record { inner = f.front ++ y.inner; last = y.last; joined = joined; spelled = spelled; closes = y.closes })

    stated : (stmt n ts >>= λ (x : Stood). items n x.1 >>= λ (xs : List Stmt × List Token). Some (x.0 ∷ xs.0, xs.1)) ≡ Some r → Closed SpellItems w.CloseCurly ts r
    stated g =
        let a = bind_some {B = List Stmt × List Token} (stmt n ts) (λ (x : Stood). items n x.1 >>= λ (xs : List Stmt × List Token). Some (x.0 ∷ xs.0, xs.1)) r g in
        let f = part ts a.0 a.1 in
        let b = bind_some {B = List Stmt × List Token} (items n a.0.1) (λ (xs : List Stmt × List Token). Some (a.0.0 ∷ xs.0, xs.1)) r a.2 in
        let y = again a.0.1 b.0 b.1 in
        let joined : ts ≡ ((f.front ++ y.inner) ++ y.last ∷ []) ++ b.0.1 = join ts f.front a.0.1 (y.inner ++ y.last ∷ []) b.0.1 f.joined y.joined ∙ ap (λ (l : List Token). l ++ b.0.1) (sym (append_assoc f.front y.inner (y.last ∷ []))) in
        subst (λ (q : List Stmt × List Token). Closed SpellItems w.CloseCurly ts q) (same_Some (a.0.0 ∷ b.0.0, b.0.1) r b.2) (record { inner = f.front ++ y.inner; last = y.last; joined = joined; spelled = SpellItems.stmt_item f.spelled y.spelled; closes = y.closes })

    go : (o : Option (List Token)) (b : Bool) → after w.CloseCurly ts ≡ o → choose {B = Option (List Stmt × List Token)} o ((if b then (decl n ts >>= λ (d : Decl × List Token). Some (s.Decl d.0, d.1)) else stmt n ts) >>= λ (x : Stood). items n x.1 >>= λ (xs : List Stmt × List Token). Some (x.0 ∷ xs.0, xs.1)) (λ rest. Some ([], rest)) ≡ Some r → Closed SpellItems w.CloseCurly ts r
    go None true off g = declared g
    go None false off g = stated g
    go (Some rest) b on g =
        let t = after_some w.CloseCurly ts rest on in
        subst (λ (q : List Stmt × List Token). Closed SpellItems w.CloseCurly ts q) (same_Some ([], rest) r g) (record { inner = []; last = t.0; joined = t.2; spelled = SpellItems.none; closes = t.1 })

record Stated (n : ℕ) : Type 0 where
  one : StmtSound (stmt n)
  list : ItemsSound (items n)

stated_zero : Stated 0
unfolding stmt items
stated_zero = record { one = λ ts r h. absurd (none-some r h); list = λ ts r h. absurd (none-some r h) }

stated_more : (n : ℕ) → Stated n → Stated (suc n)
stated_more n p = record { one = stmt_step n p.one p.list; list = items_step n p.one p.list }

stated : (n : ℕ) → Stated n
stated zero = stated_zero
stated (suc n) = stated_more n (stated n)

pub items_sound : (n : ℕ) → ItemsSound (items n)
items_sound n = (stated n).list
