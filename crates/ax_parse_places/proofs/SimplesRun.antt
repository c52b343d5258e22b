-- What a simple statement's parts go on with: each simple statement that is spelled.
use Rattle.std.proofs.Common.{◌≡◌, ℕ, ◌≤◌, Bool, true, false, List, [], ◌∷◌, ◌++◌, Option, Some, None, refl, sym, ap, ◌∙◌, arith}
use Rattle.std.proofs.lemmas.Option.{none-some}
use Rattle.ax_prog.specs.declared.Bin.{Bin}
use Rattle.ax_prog.specs.declared.tokens.Keyword.TheVariants as kw
use Rattle.ax_prog.specs.declared.tokens.Mark.TheVariants as m
use Rattle.ax_prog.specs.declared.tokens.Kind.{Kind}
use Rattle.ax_prog.specs.declared.tokens.Kind.TheVariants as k
use Rattle.ax_prog.specs.declared.tokens.Token.{Token}
use Rattle.ax_parse_grammar.specs.declared.starts.Start.TheVariants as start
use Rattle.ax_parse_grammar.specs.declared.terminals.Terminal.TheVariants as w
use Rattle.ax_parse_grammar.specs.declared.tree.Prefix.{Prefix}
use Rattle.ax_parse_grammar.specs.declared.tree.Expr.{Expr}
use Rattle.ax_parse_grammar.specs.declared.tree.Simple.{Simple}
use Rattle.ax_parse_grammar.specs.Operators.{prefix_of, post_of, compound_of, step_of}
use Rattle.ax_parse_grammar.specs.Starts.{start_of}
use Rattle.ax_parse_grammar.specs.Terminals.{Is}
use Rattle.ax_parse_grammar.specs.Expressions.{Spells}
use Rattle.ax_parse_grammar.specs.Statements.{SpellsSimple}
use Rattle.ax_parse_grammar.proofs.ExpressionsRead.{level_within}
use Rattle.ax_parse_places.specs.declared.symbols.Symbol.TheVariants as y
use Rattle.ax_parse_places.specs.Turns.{Stack, step, turn, plain, simple}
use Rattle.ax_parse_places.proofs.Runs.{Runs, go, re, expand, took, takes}
use Rattle.ax_parse_places.proofs.ExpressionsRun.{Room, eleven, expr, args}

-- ---- marks

compound_no_post : (kind : Kind) (op : Bin) → compound_of kind ≡ Some op → post_of kind ≡ None
compound_no_post (k.Mark m.OpenSquare) op h = absurd (none-some op h)
compound_no_post (k.Mark m.Dot) op h = absurd (none-some op h)
compound_no_post (k.Mark m.Arrow) op h = absurd (none-some op h)
compound_no_post (k.Mark m.OpenRound) op h = absurd (none-some op h)
compound_no_post _ op h = refl

compound_no_step : (kind : Kind) (op : Bin) → compound_of kind ≡ Some op → step_of kind ≡ None
compound_no_step (k.Mark m.PlusPlus) op h = absurd (none-some op h)
compound_no_step (k.Mark m.MinusMinus) op h = absurd (none-some op h)
compound_no_step _ op h = refl

step_no_post : (kind : Kind) (up : Bool) → step_of kind ≡ Some up → post_of kind ≡ None
step_no_post (k.Mark m.OpenSquare) up h = absurd (none-some up h)
step_no_post (k.Mark m.Dot) up h = absurd (none-some up h)
step_no_post (k.Mark m.Arrow) up h = absurd (none-some up h)
step_no_post (k.Mark m.OpenRound) up h = absurd (none-some up h)
step_no_post _ up h = refl

prefix_no_step : (kind : Kind) (op : Prefix) → prefix_of kind ≡ Some op → step_of kind ≡ None
prefix_no_step (k.Mark m.PlusPlus) op h = absurd (none-some op h)
prefix_no_step (k.Mark m.MinusMinus) op h = absurd (none-some op h)
prefix_no_step _ op h = refl

compound_plain : (kind : Kind) (op : Bin) (s : Stack) → compound_of kind ≡ Some op → step (y.Plain ∷ s) kind ≡ Some (y.Unary ∷ y.More ∷ s)
compound_plain kind op s h = rw (compound_no_post kind op h) (rw (compound_no_step kind op h) (rw h refl))

compound_assigned : (kind : Kind) (op : Bin) (s : Stack) → compound_of kind ≡ Some op → step (y.Posts ∷ y.Assigned ∷ s) kind ≡ Some (y.Unary ∷ y.More ∷ s)
compound_assigned kind op s h = rw (compound_no_post kind op h) (rw h refl)

step_plain : (kind : Kind) (up : Bool) (s : Stack) → step_of kind ≡ Some up → step (y.Plain ∷ s) kind ≡ Some s
step_plain kind up s h = rw (step_no_post kind up h) (rw h refl)

prefix_simple : (kind : Kind) (op : Prefix) (s : Stack) → prefix_of kind ≡ Some op → step (y.Simple ∷ s) kind ≡ Some (y.Unary ∷ y.Assigned ∷ s)
prefix_simple kind op s h = rw (prefix_no_step kind op h) (rw h refl)

-- how a simple statement begins
pub simple_start : (kind : Kind) (s r : Stack) → simple kind s ≡ Some r → start_of kind ≡ start.Simple
simple_start (k.Keyword kw.Int) s r h = absurd (none-some r h)
simple_start (k.Keyword kw.Struct) s r h = absurd (none-some r h)
simple_start (k.Keyword kw.If) s r h = absurd (none-some r h)
simple_start (k.Keyword kw.While) s r h = absurd (none-some r h)
simple_start (k.Keyword kw.Do) s r h = absurd (none-some r h)
simple_start (k.Keyword kw.For) s r h = absurd (none-some r h)
simple_start (k.Keyword kw.Break) s r h = absurd (none-some r h)
simple_start (k.Keyword kw.Continue) s r h = absurd (none-some r h)
simple_start (k.Keyword kw.Return) s r h = absurd (none-some r h)
simple_start (k.Keyword kw.Scanf) s r h = absurd (none-some r h)
simple_start (k.Keyword kw.Printf) s r h = absurd (none-some r h)
simple_start (k.Mark m.Semicolon) s r h = absurd (none-some r h)
simple_start (k.Mark m.OpenCurly) s r h = absurd (none-some r h)
simple_start _ s r h = refl

-- ---- the operand with which a simple statement begins

-- behind a call more may end
called : {s : Stack} {ts : List Token} → Runs (y.Plain ∷ s) ts → Runs (y.Called ∷ s) ts
called {s = s} q = expand (λ kind r e. takes (turn y.Called kind s) (step s kind) r (took (plain kind s) r e)) q

postfix : {l : ℕ} {x : Expr} {ts : List Token} → Spells l x ts → 12 ≤ l → (s : Stack) (rest : List Token) → Runs (y.Plain ∷ s) rest → Runs (y.Simple ∷ s) (ts ++ rest)
postfix (Spells.name t h) far s rest q = go t h refl q
postfix (Spells.number t h) far s rest q = go t h refl q
postfix (Spells.parens {ts = ts} t u h g x) far s rest q = go t h refl (re _ ts (u ∷ []) rest (expr x (y.More ∷ y.Take w.CloseRound ∷ y.Plain ∷ s) Room.wide (u ∷ rest) (go u g refl q)))
postfix (Spells.index {ts = ts} {us = us} t u le h g x z) far s rest q = re _ ts (t ∷ (us ++ u ∷ [])) rest (postfix x (omega arith) s (t ∷ ((us ++ u ∷ []) ++ rest)) (go t h refl (re _ us (u ∷ []) rest (expr z (y.More ∷ y.Take w.CloseSquare ∷ y.Plain ∷ s) Room.wide (u ∷ rest) (go u g refl q)))))
postfix (Spells.member {ts = ts} d t le h g x) far s rest q = re _ ts (d ∷ t ∷ []) rest (postfix x (omega arith) s (d ∷ t ∷ rest) (go d h refl (go t g refl q)))
postfix (Spells.arrow {ts = ts} d t le h g x) far s rest q = re _ ts (d ∷ t ∷ []) rest (postfix x (omega arith) s (d ∷ t ∷ rest) (go d h refl (go t g refl q)))
postfix (Spells.call {ts = ts} {us = us} t u le h g x xs) far s rest q = re _ ts (t ∷ (us ++ u ∷ [])) rest (postfix x (omega arith) s (t ∷ ((us ++ u ∷ []) ++ rest)) (go t h refl (re _ us (u ∷ []) rest (args xs (y.Called ∷ s) u g rest (called q)))))
postfix (Spells.unary t le h x) far s rest q = absurd (omega arith)
postfix (Spells.binary {op = op} t le h a b) far s rest q = absurd (omega (arith, level_within op))
postfix (Spells.cond t u h g c a b) far s rest q = absurd (omega arith)

-- the left side of an assignment
target : {l : ℕ} {x : Expr} {ts : List Token} → Spells l x ts → 11 ≤ l → (s : Stack) (rest : List Token) → Runs (y.Plain ∷ s) rest → Runs (y.Posts ∷ y.Assigned ∷ s) rest → Runs (y.Simple ∷ s) (ts ++ rest)
target (Spells.name t h) far s rest q r = postfix {l = 12} (Spells.name t h) (omega arith) s rest q
target (Spells.number t h) far s rest q r = postfix {l = 12} (Spells.number t h) (omega arith) s rest q
target (Spells.parens t u h g x) far s rest q r = postfix {l = 12} (Spells.parens t u h g x) (omega arith) s rest q
target (Spells.index t u le h g x z) far s rest q r = postfix {l = 12} (Spells.index t u (omega arith) h g x z) (omega arith) s rest q
target (Spells.member d t le h g x) far s rest q r = postfix {l = 12} (Spells.member d t (omega arith) h g x) (omega arith) s rest q
target (Spells.arrow d t le h g x) far s rest q r = postfix {l = 12} (Spells.arrow d t (omega arith) h g x) (omega arith) s rest q
target (Spells.call t u le h g x xs) far s rest q r = postfix {l = 12} (Spells.call t u (omega arith) h g x xs) (omega arith) s rest q
target (Spells.unary {op = op} t le h x) far s rest q r = Runs.reads t (prefix_simple t.kind op s h) (expr x (y.Assigned ∷ s) eleven rest r)
target (Spells.binary {op = op} t le h a b) far s rest q r = absurd (omega (arith, level_within op))
target (Spells.cond t u h g c a b) far s rest q r = absurd (omega arith)

-- ---- simple statements

-- tokens with which the stack goes on, and before which an expression, an operand or a call may end
pub record Quiet (s : Stack) (ts : List Token) : Type 0 where
  pub here : Runs s ts
  pub whole : Runs (y.Posts ∷ y.More ∷ s) ts
  pub unary : Runs (y.Posts ∷ s) ts
  pub call : Runs (y.Called ∷ s) ts

pub at_semicolon : {s : Stack} {ts : List Token} (t : Token) → Is w.Semicolon t → Runs s ts → Quiet (y.Take w.Semicolon ∷ s) (t ∷ ts)
at_semicolon t h q = record { here = go t h refl q; whole = go t h refl q; unary = go t h refl q; call = go t h refl q }

pub at_round : {s : Stack} {ts : List Token} (t : Token) → Is w.CloseRound t → Runs s ts → Quiet (y.Take w.CloseRound ∷ s) (t ∷ ts)
at_round t h q = record { here = go t h refl q; whole = go t h refl q; unary = go t h refl q; call = go t h refl q }

pub simples : {x : Simple} {ts : List Token} → SpellsSimple x ts → (s : Stack) (rest : List Token) → Quiet s rest → Runs (y.Simple ∷ s) (ts ++ rest)
simples (SpellsSimple.assign {ts = ts} {us = us} t h a x) s rest q =
    let right = expr x (y.More ∷ s) Room.wide rest q.whole in
    re _ ts (t ∷ us) rest (target a (omega arith) s (t ∷ (us ++ rest)) (go t h refl right) (go t h refl right))
simples (SpellsSimple.change {op = op} {ts = ts} {us = us} t h a x) s rest q =
    let right = expr x (y.More ∷ s) Room.wide rest q.whole in
    re _ ts (t ∷ us) rest (target a (omega arith) s (t ∷ (us ++ rest)) (Runs.reads t (compound_plain t.kind op s h) right) (Runs.reads t (compound_assigned t.kind op s h) right))
simples (SpellsSimple.behind {up = up} {ts = ts} t h a) s rest q = re _ ts (t ∷ []) rest (postfix a (omega arith) s (t ∷ rest) (Runs.reads t (step_plain t.kind up s h) q.here))
simples (SpellsSimple.before t h a) s rest q = Runs.reads t (rw h refl) (expr a s eleven rest q.unary)
simples (SpellsSimple.call {ts = ts} {us = us} t u h g f xs) s rest q = re _ ts (t ∷ (us ++ u ∷ [])) rest (postfix f (omega arith) s (t ∷ ((us ++ u ∷ []) ++ rest)) (go t h refl (re _ us (u ∷ []) rest (args xs (y.Called ∷ s) u g rest q.call))))
