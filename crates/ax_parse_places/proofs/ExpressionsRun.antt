-- What an expression's parts go on with: each expression that is spelled.
use Rattle.std.proofs.Common.{◌≡◌, ℕ, suc, ◌≤◌, Bool, true, false, List, [], ◌∷◌, ◌++◌, Option, Some, None, refl, sym, ap, ◌∙◌, arith}
use Rattle.std.proofs.lemmas.Option.{none-some, same_Some}
use Rattle.ax_prog.specs.declared.Bin.{Bin}
use Rattle.ax_prog.specs.declared.tokens.Mark.TheVariants as m
use Rattle.ax_prog.specs.declared.tokens.Kind.{Kind}
use Rattle.ax_prog.specs.declared.tokens.Kind.TheVariants as k
use Rattle.ax_prog.specs.declared.tokens.Token.{Token}
use Rattle.ax_parse_grammar.specs.declared.terminals.Terminal.TheVariants as w
use Rattle.ax_parse_grammar.specs.declared.tree.Expr.{Expr}
use Rattle.ax_parse_grammar.specs.Operators.{binary_of, prefix_of, post_of, level}
use Rattle.ax_parse_grammar.specs.Terminals.{Is, is}
use Rattle.ax_parse_grammar.specs.Expressions.{Spells, SpellArgs, SpellMany}
use Rattle.ax_parse_grammar.proofs.ExpressionsRead.{level_within}
use Rattle.ax_parse_places.specs.declared.symbols.Listing.TheVariants as of
use Rattle.ax_parse_places.specs.declared.symbols.Symbol.TheVariants as y
use Rattle.ax_parse_places.specs.Turns.{Stack, step, unary, turn}
use Rattle.ax_parse_places.proofs.Runs.{Runs, go, re, expand, took, takes, not_it, on_other}

binary_no_post : (kind : Kind) (op : Bin) → binary_of kind ≡ Some op → post_of kind ≡ None
binary_no_post (k.Mark m.OpenSquare) op h = absurd (none-some op h)
binary_no_post (k.Mark m.Dot) op h = absurd (none-some op h)
binary_no_post (k.Mark m.Arrow) op h = absurd (none-some op h)
binary_no_post (k.Mark m.OpenRound) op h = absurd (none-some op h)
binary_no_post _ op h = refl

binary_step : (kind : Kind) (op : Bin) (s : Stack) → binary_of kind ≡ Some op → step (y.Posts ∷ y.More ∷ s) kind ≡ Some (y.Unary ∷ y.More ∷ s)
binary_step kind op s h = rw (binary_no_post kind op h) (rw h refl)

-- an operand of this level goes with the stack: where it is no unary expression, the rest of an expression may follow
pub data Room : ℕ → Stack → Type 0 where
  tight : {l : ℕ} {s : Stack} → 11 ≤ l → Room l s
  wide : {l : ℕ} {s : Stack} → Room l (y.More ∷ s)

pub eleven : {s : Stack} → Room 11 s
eleven = Room.tight (omega arith)

pub twelve : {s : Stack} → Room 12 s
twelve = Room.tight (omega arith)

-- arguments don't begin with `)`
pub args_begin : {s : Stack} {ts : List Token} → Runs (y.Unary ∷ y.More ∷ y.End of.Args ∷ s) ts → Runs (y.Args ∷ s) ts
args_begin {s = s} q = expand (λ kind r e.
    let h : unary kind (y.More ∷ y.End of.Args ∷ s) ≡ Some r = took (unary kind (y.More ∷ y.End of.Args ∷ s)) r e in
    takes (turn y.Args kind s) None r (on_other w.CloseRound kind _ (unary kind (y.More ∷ y.End of.Args ∷ s)) (not_it w.CloseRound kind (λ i. unary i (y.More ∷ y.End of.Args ∷ s)) r refl h) ∙ h)) q

mutual
  -- a unary expression; with what goes on behind it, any expression
  pub expr : {l : ℕ} {x : Expr} {ts : List Token} → Spells l x ts → (s : Stack) → Room l s → (rest : List Token) → Runs (y.Posts ∷ s) rest → Runs (y.Unary ∷ s) (ts ++ rest)
  expr (Spells.name t h) s room rest q = go t h refl q
  expr (Spells.number t h) s room rest q = go t h refl q
  expr (Spells.parens {ts = ts} t u h g x) s room rest q = go t h refl (re _ ts (u ∷ []) rest (expr x (y.More ∷ y.Take w.CloseRound ∷ y.Posts ∷ s) Room.wide (u ∷ rest) (go u g refl q)))
  expr (Spells.index {ts = ts} {us = us} t u le h g x z) s room rest q = re _ ts (t ∷ (us ++ u ∷ [])) rest (expr x s twelve (t ∷ ((us ++ u ∷ []) ++ rest)) (go t h refl (re _ us (u ∷ []) rest (expr z (y.More ∷ y.Take w.CloseSquare ∷ y.Posts ∷ s) Room.wide (u ∷ rest) (go u g refl q)))))
  expr (Spells.member {ts = ts} d t le h g x) s room rest q = re _ ts (d ∷ t ∷ []) rest (expr x s twelve (d ∷ t ∷ rest) (go d h refl (go t g refl q)))
  expr (Spells.arrow {ts = ts} d t le h g x) s room rest q = re _ ts (d ∷ t ∷ []) rest (expr x s twelve (d ∷ t ∷ rest) (go d h refl (go t g refl q)))
  expr (Spells.call {ts = ts} {us = us} t u le h g x xs) s room rest q = re _ ts (t ∷ (us ++ u ∷ [])) rest (expr x s twelve (t ∷ ((us ++ u ∷ []) ++ rest)) (go t h refl (re _ us (u ∷ []) rest (args xs (y.Posts ∷ s) u g rest q))))
  expr (Spells.unary t le h x) s room rest q = Runs.reads t (rw h refl) (expr x s eleven rest q)
  expr (Spells.binary {op = op} {left = left} {right = right} t le h a b) s (Room.tight far) rest q = absurd (omega (arith, level_within op))
  expr (Spells.binary {op = op} {left = left} {right = right} t le h a b) (y.More ∷ s) Room.wide rest q = re _ left (t ∷ right) rest (expr a (y.More ∷ s) Room.wide (t ∷ (right ++ rest)) (Runs.reads t (binary_step t.kind op s h) (expr b (y.More ∷ s) Room.wide rest q)))
  expr (Spells.cond {test = test} {then = then} {else = else} t u h g c a b) s (Room.tight far) rest q = absurd (omega arith)
  expr (Spells.cond {test = test} {then = then} {else = else} t u h g c a b) (y.More ∷ s) Room.wide rest q = re _ test (t ∷ (then ++ u ∷ else)) rest (expr c (y.More ∷ s) Room.wide (t ∷ ((then ++ u ∷ else) ++ rest)) (go t h refl (re _ then (u ∷ else) rest (expr a (y.More ∷ y.Take w.Colon ∷ y.Unary ∷ y.More ∷ s) Room.wide (u ∷ (else ++ rest)) (go u g refl (expr b (y.More ∷ s) Room.wide rest q))))))

  pub args : {xs : List Expr} {us : List Token} → SpellArgs xs us → (s : Stack) (last : Token) → Is w.CloseRound last → (rest : List Token) → Runs s rest → Runs (y.Args ∷ s) (us ++ last ∷ rest)
  args SpellArgs.nothing s last h rest q = go last h refl q
  args (SpellArgs.some xs) s last h rest q = args_begin (many xs s last h rest q)

  pub many : {xs : List Expr} {us : List Token} → SpellMany xs us → (s : Stack) (last : Token) → Is w.CloseRound last → (rest : List Token) → Runs s rest → Runs (y.Unary ∷ y.More ∷ y.End of.Args ∷ s) (us ++ last ∷ rest)
  many (SpellMany.one x) s last h rest q = expr x (y.More ∷ y.End of.Args ∷ s) Room.wide (last ∷ rest) (go last h refl q)
  many (SpellMany.more {ts = ts} {us = us} comma g x xs) s last h rest q = re _ ts (comma ∷ us) (last ∷ rest) (expr x (y.More ∷ y.End of.Args ∷ s) Room.wide (comma ∷ (us ++ last ∷ rest)) (go comma g refl (many xs s last h rest q)))
