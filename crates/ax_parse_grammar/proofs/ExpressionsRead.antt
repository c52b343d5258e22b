-- What is spelled the parser of expressions reads, so that a token list spells at most one expression.
use Rattle.std.proofs.Common.{◌≡◌, ℕ, suc, ◌≤◌, ◌<◌, Bool, true, false, List, [], ◌∷◌, ◌++◌, Option, Some, None, refl, sym, ap, ◌∙◌, subst, arith, append_assoc}
use Rattle.std.proofs.lemmas.Bool.{le-leb, lt-leb, cases_lt, true≢false}
use Rattle.std.proofs.lemmas.Option.{none-some, same_Some}
use Rattle.std.proofs.Common.{⊎_elim}
use Rattle.ax_prog.specs.declared.Span.{Span}
use Rattle.ax_prog.specs.declared.Bin.{Bin}
use Rattle.ax_prog.specs.declared.Bin.TheVariants as bin
use Rattle.ax_prog.specs.declared.tokens.Mark.TheVariants as m
use Rattle.ax_prog.specs.declared.tokens.Kind.{Kind}
use Rattle.ax_prog.specs.declared.tokens.Kind.TheVariants as k
use Rattle.ax_prog.specs.declared.tokens.Token.{Token}
use Rattle.ax_parse_grammar.specs.declared.operators.Post.{Post}
use Rattle.ax_parse_grammar.specs.declared.operators.Post.TheVariants as post
use Rattle.ax_parse_grammar.specs.declared.terminals.Terminal.{Terminal}
use Rattle.ax_parse_grammar.specs.declared.terminals.Terminal.TheVariants as w
use Rattle.ax_parse_grammar.specs.declared.tree.Prefix.{Prefix}
use Rattle.ax_parse_grammar.specs.declared.tree.Expr.{Expr}
use Rattle.ax_parse_grammar.specs.declared.tree.Expr.TheVariants as e
use Rattle.ax_parse_grammar.specs.Operators.{binary_of, prefix_of, post_of, level}
use Rattle.ax_parse_grammar.specs.Terminals.{kind_of, Is, is, named, extent}
use Rattle.ax_parse_grammar.specs.Expressions.{Spells, SpellArgs, SpellMany}
use Rattle.ax_parse_grammar.specs.Reading.{choose, extent_to, after, next, name, Settles}
use Rattle.ax_parse_grammar.specs.ReadExpressions.{Found, Chain, leaf, op_from, post_by, expr, climb, more, unary, postfix, posts, primary, args, many}
use Rattle.ax_parse_grammar.proofs.Tools.{is_true, after_is, after_none, after_other, next_is, next_none, name_is, extent_to_is, settle_0, settle_1, settle_2, settle_3, also_1, settles_one, settles_at}

-- no expression goes on with these tokens
pub record Stops (rest : List Token) : Type 0 where
  pub post : next post_of rest ≡ None
  pub op : next (op_from 1) rest ≡ None
  pub question : after w.Question rest ≡ None

-- a mark that ends expressions
pub stops_at : (what : Terminal) (t : Token) (rest : List Token) → Is what t → post_of (kind_of what) ≡ None → binary_of (kind_of what) ≡ None → after w.Question (t ∷ rest) ≡ None → Stops (t ∷ rest)
stops_at what t rest h post op question =
    let none : op_from 1 t.kind ≡ None = ap (op_from 1) h ∙ rw op refl in
    record { post = next_none post_of t rest (ap post_of h ∙ post); op = next_none (op_from 1) t rest none; question = question }

pub stops_nil : Stops []
stops_nil = record { post = refl; op = refl; question = refl }

pub stops_close : (t : Token) (rest : List Token) → Is w.CloseRound t → Stops (t ∷ rest)
stops_close t rest h = stops_at w.CloseRound t rest h refl refl (after_other w.Question w.CloseRound t rest h refl)

pub stops_square : (t : Token) (rest : List Token) → Is w.CloseSquare t → Stops (t ∷ rest)
stops_square t rest h = stops_at w.CloseSquare t rest h refl refl (after_other w.Question w.CloseSquare t rest h refl)

pub stops_comma : (t : Token) (rest : List Token) → Is w.Comma t → Stops (t ∷ rest)
stops_comma t rest h = stops_at w.Comma t rest h refl refl (after_other w.Question w.Comma t rest h refl)

pub stops_colon : (t : Token) (rest : List Token) → Is w.Colon t → Stops (t ∷ rest)
stops_colon t rest h = stops_at w.Colon t rest h refl refl (after_other w.Question w.Colon t rest h refl)

pub stops_semicolon : (t : Token) (rest : List Token) → Is w.Semicolon t → Stops (t ∷ rest)
stops_semicolon t rest h = stops_at w.Semicolon t rest h refl refl (after_other w.Question w.Semicolon t rest h refl)

-- ---- operators

pub level_within : (op : Bin) → (1 ≤ level op) × (level op ≤ 10)
level_within bin.Or = omega arith
level_within _ = omega arith

pub op_from_is : (min : ℕ) (kind : Kind) (op : Bin) → binary_of kind ≡ Some op → min ≤ level op → op_from min kind ≡ Some op
op_from_is min kind op h le = rw h (rw (le-leb min (level op) le) refl)

pub op_from_none : (min : ℕ) (kind : Kind) (op : Bin) → binary_of kind ≡ Some op → level op < min → op_from min kind ≡ None
op_from_none min kind op h lt = rw h (rw (lt-leb min (level op) lt) refl)

op_from_tighter : (l m : ℕ) (kind : Kind) → l ≤ m → op_from l kind ≡ None → op_from m kind ≡ None
op_from_tighter l m kind le none = go (binary_of kind) refl
  where
    go : (o : Option Bin) → binary_of kind ≡ o → op_from m kind ≡ None
    go None h = rw h refl
    go (Some op) h = ⊎_elim (λ (lt : level op < l). op_from_none m kind op h (omega arith)) (λ (ge : l ≤ level op). absurd (none-some op (sym none ∙ op_from_is l kind op h ge))) (cases_lt (level op) l)

pub next_tighter : (l m : ℕ) (ts : List Token) → l ≤ m → next (op_from l) ts ≡ None → next (op_from m) ts ≡ None
next_tighter l m [] le none = refl
next_tighter l m (t ∷ ts) le none = next_none (op_from m) t ts (op_from_tighter l m t.kind le (quiet (op_from l t.kind) none))
  where
    quiet : (o : Option Bin) → choose {B = Option (Bin × List Token)} o None (λ a. Some (a, ts)) ≡ None → o ≡ None
    quiet None h = refl
    quiet (Some a) h = absurd (none-some (a, ts) (sym h))

binary_no_post : (kind : Kind) (op : Bin) → binary_of kind ≡ Some op → post_of kind ≡ None
binary_no_post (k.Mark m.OpenSquare) op h = absurd (none-some op h)
binary_no_post (k.Mark m.Dot) op h = absurd (none-some op h)
binary_no_post (k.Mark m.Arrow) op h = absurd (none-some op h)
binary_no_post (k.Mark m.OpenRound) op h = absurd (none-some op h)
binary_no_post _ op h = refl

-- ---- one turn each

pub postfix_turn : (ts : List Token) (x : Expr) (rest : List Token) (o : Option Chain) → Settles (λ n. primary n ts) (Some (x, rest)) → Settles (λ n. posts n ts ((x, false), rest)) o → Settles (λ n. postfix n ts) o
unfolding postfix
postfix_turn ts x rest o a b = settle_2 (λ n. primary n ts) (Some (x, rest)) (λ n. posts n ts ((x, false), rest)) o (λ n. postfix n ts) o a b (λ n one two. rw one two)

pub posts_end : (start : List Token) (c : Chain) → next post_of c.1 ≡ None → Settles (λ n. posts n start c) (Some c)
unfolding posts
posts_end start c none = settle_0 (λ n. posts n start c) (Some c) (λ n. rw none refl)

pub posts_turn : (start : List Token) (c d : Chain) (p : Post) (us : List Token) (o : Option Chain) → next post_of c.1 ≡ Some (p, us) → Settles (λ n. post_by (expr n) (args n) start c.0.0 p us) (Some d) → Settles (λ n. posts n start d) o → Settles (λ n. posts n start c) o
unfolding posts
posts_turn start c d p us o is a b = settle_2 (λ n. post_by (expr n) (args n) start c.0.0 p us) (Some d) (λ n. posts n start d) o (λ n. posts n start c) o a b (λ n one two. rw is (rw one two))

pub unary_postfix : (ts : List Token) (c : Chain) → next prefix_of ts ≡ None → Settles (λ n. postfix n ts) (Some c) → Settles (λ n. unary n ts) (Some (c.0.0, c.1))
unfolding unary
unary_postfix ts c none a = settle_1 (λ n. postfix n ts) (Some c) (λ n. unary n ts) (Some (c.0.0, c.1)) a (λ n one. rw none (rw one refl))

pub unary_prefix : (ts us : List Token) (op : Prefix) (x : Expr) (rest : List Token) → next prefix_of ts ≡ Some (op, us) → Settles (λ n. unary n us) (Some (x, rest)) → Settles (λ n. unary n ts) (Some (e.Unary (extent_to ts rest) op x, rest))
unfolding unary
unary_prefix ts us op x rest is a = settle_1 (λ n. unary n us) (Some (x, rest)) (λ n. unary n ts) (Some (e.Unary (extent_to ts rest) op x, rest)) a (λ n one. rw is (rw one refl))

pub climb_turn : (min : ℕ) (ts : List Token) (f : Found) (o : Option Found) → Settles (λ n. unary n ts) (Some f) → Settles (λ n. more n min ts f) o → Settles (λ n. climb n min ts) o
unfolding climb
climb_turn min ts f o a b = settle_2 (λ n. unary n ts) (Some f) (λ n. more n min ts f) o (λ n. climb n min ts) o a b (λ n one two. rw one two)

pub more_end : (min : ℕ) (start : List Token) (f : Found) → next (op_from min) f.1 ≡ None → Settles (λ n. more n min start f) (Some f)
unfolding more
more_end min start f none = settle_0 (λ n. more n min start f) (Some f) (λ n. rw none refl)

pub more_turn : (min : ℕ) (start : List Token) (f r : Found) (op : Bin) (us : List Token) (o : Option Found) → next (op_from min) f.1 ≡ Some (op, us) → Settles (λ n. climb n (suc (level op)) us) (Some r) → Settles (λ n. more n min start (e.Binary (extent_to start r.1) op f.0 r.0, r.1)) o → Settles (λ n. more n min start f) o
unfolding more
more_turn min start f r op us o is a b = settle_2 (λ n. climb n (suc (level op)) us) (Some r) (λ n. more n min start (e.Binary (extent_to start r.1) op f.0 r.0, r.1)) o (λ n. more n min start f) o a b (λ n one two. rw is (rw one two))

pub expr_climb : (ts : List Token) (f : Found) → after w.Question f.1 ≡ None → Settles (λ n. climb n 1 ts) (Some f) → Settles (λ n. expr n ts) (Some f)
unfolding expr
expr_climb ts f none a = settle_1 (λ n. climb n 1 ts) (Some f) (λ n. expr n ts) (Some f) a (λ n one. rw one (rw none refl))

expr_cond : (ts us vs : List Token) (c a b : Expr) (r s rest : List Token) → after w.Question r ≡ Some us → after w.Colon s ≡ Some vs → Settles (λ n. climb n 1 ts) (Some (c, r)) → Settles (λ n. expr n us) (Some (a, s)) → Settles (λ n. expr n vs) (Some (b, rest)) → Settles (λ n. expr n ts) (Some (e.Cond (extent_to ts rest) c a b, rest))
unfolding expr
expr_cond ts us vs c a b r s rest asks splits x y z = settle_3 (λ n. climb n 1 ts) (Some (c, r)) (λ n. expr n us) (Some (a, s)) (λ n. expr n vs) (Some (b, rest)) (λ n. expr n ts) (Some (e.Cond (extent_to ts rest) c a b, rest)) x y z (λ n one two three. rw one (rw asks (rw two (rw splits (rw three refl)))))

pub primary_leaf : (ts : List Token) (x : Expr) (rest : List Token) → after w.OpenRound ts ≡ None → leaf ts ≡ Some (x, rest) → Settles (λ n. primary n ts) (Some (x, rest))
unfolding primary
primary_leaf ts x rest none is = settle_0 (λ n. primary n ts) (Some (x, rest)) (λ n. rw none is)

pub primary_parens : (ts us r rest : List Token) (x : Expr) → after w.OpenRound ts ≡ Some us → Settles (λ n. expr n us) (Some (x, r)) → after w.CloseRound r ≡ Some rest → Settles (λ n. primary n ts) (Some (x, rest))
unfolding primary
primary_parens ts us r rest x is a closes = settle_1 (λ n. expr n us) (Some (x, r)) (λ n. primary n ts) (Some (x, rest)) a (λ n one. rw is (rw one (rw closes refl)))

pub args_end : (ts rest : List Token) → after w.CloseRound ts ≡ Some rest → Settles (λ n. args n ts) (Some ([], rest))
unfolding args
args_end ts rest is = settle_0 (λ n. args n ts) (Some ([], rest)) (λ n. rw is refl)

pub args_many : (ts r rest : List Token) (xs : List Expr) → after w.CloseRound ts ≡ None → Settles (λ n. many n ts) (Some (xs, r)) → after w.CloseRound r ≡ Some rest → Settles (λ n. args n ts) (Some (xs, rest))
unfolding args
args_many ts r rest xs none a closes = settle_1 (λ n. many n ts) (Some (xs, r)) (λ n. args n ts) (Some (xs, rest)) a (λ n one. rw none (rw one (rw closes refl)))

pub many_one : (ts r : List Token) (x : Expr) → Settles (λ n. expr n ts) (Some (x, r)) → after w.Comma r ≡ None → Settles (λ n. many n ts) (Some (x ∷ [], r))
unfolding many
many_one ts r x a none = settle_1 (λ n. expr n ts) (Some (x, r)) (λ n. many n ts) (Some (x ∷ [], r)) a (λ n one. rw one (rw none refl))

pub many_more : (ts r us rest : List Token) (x : Expr) (xs : List Expr) → Settles (λ n. expr n ts) (Some (x, r)) → after w.Comma r ≡ Some us → Settles (λ n. many n us) (Some (xs, rest)) → Settles (λ n. many n ts) (Some (x ∷ xs, rest))
unfolding many
many_more ts r us rest x xs a is b = settle_2 (λ n. expr n ts) (Some (x, r)) (λ n. many n us) (Some (xs, rest)) (λ n. many n ts) (Some (x ∷ xs, rest)) a b (λ n one two. rw one (rw is (rw two refl)))

-- ---- what is spelled is read

-- the loops go on with what was read so far; level 13 stands for an operand that no mark follows yet
pub record Read (l : ℕ) (x : Expr) (ts : List Token) : Type 0 where
  pub called : Bool
  pub plain : 12 ≤ l → (rest : List Token) → next prefix_of (ts ++ rest) ≡ None
  pub postfix : 12 ≤ l → (rest : List Token) (o : Option Chain) → Settles (λ n. posts n (ts ++ rest) ((x, called), rest)) o → Settles (λ n. postfix n (ts ++ rest)) o
  pub unary : 11 ≤ l → (rest : List Token) → next post_of rest ≡ None → Settles (λ n. unary n (ts ++ rest)) (Some (x, rest))
  pub climb : 1 ≤ l → (min : ℕ) (rest : List Token) → min ≤ l → next post_of rest ≡ None → next (op_from (suc l)) rest ≡ None → (o : Option Found) → Settles (λ n. more n min (ts ++ rest) (x, rest)) o → Settles (λ n. climb n min (ts ++ rest)) o
  pub expr : (rest : List Token) → Stops rest → Settles (λ n. expr n (ts ++ rest)) (Some (x, rest))

abbrev ReadsUnary : Expr → List Token → Type 0
ReadsUnary x ts = (rest : List Token) → next post_of rest ≡ None → Settles (λ n. unary n (ts ++ rest)) (Some (x, rest))

abbrev ReadsPostfix : Expr → Bool → List Token → Type 0
ReadsPostfix x called ts = (rest : List Token) (o : Option Chain) → Settles (λ n. posts n (ts ++ rest) ((x, called), rest)) o → Settles (λ n. postfix n (ts ++ rest)) o

expr_unary : (x : Expr) (ts : List Token) → ReadsUnary x ts → (rest : List Token) → Stops rest → Settles (λ n. expr n (ts ++ rest)) (Some (x, rest))
expr_unary x ts a rest stop = expr_climb (ts ++ rest) (x, rest) stop.question (climb_turn 1 (ts ++ rest) (x, rest) (Some (x, rest)) (a rest stop.post) (more_end 1 (ts ++ rest) (x, rest) stop.op))

-- what is read as a unary expression
from_unary : (l : ℕ) (x : Expr) (ts : List Token) → l ≤ 11 → ReadsUnary x ts → Read l x ts
from_unary l x ts le a = record {
  called = false;
  plain = λ far rest. absurd (omega arith);
  postfix = λ far rest o go. absurd (omega arith);
  unary = λ far rest post. a rest post;
  climb = λ far min rest small post none o go. climb_turn min (ts ++ rest) (x, rest) o (a rest post) go;
  expr = λ rest stop. expr_unary x ts a rest stop;
}

postfix_unary : (x : Expr) (called : Bool) (ts : List Token) → ((rest : List Token) → next prefix_of (ts ++ rest) ≡ None) → ReadsPostfix x called ts → ReadsUnary x ts
postfix_unary x called ts plain a rest post = unary_postfix (ts ++ rest) ((x, called), rest) (plain rest) (a rest (Some ((x, called), rest)) (posts_end (ts ++ rest) ((x, called), rest) post))

-- what is read as a postfix expression
from_postfix : (l : ℕ) (x : Expr) (called : Bool) (ts : List Token) → ((rest : List Token) → next prefix_of (ts ++ rest) ≡ None) → ReadsPostfix x called ts → Read l x ts
from_postfix l x called ts plain a =
    let b = postfix_unary x called ts plain a in
    record {
      called = called;
      plain = λ far. plain;
      postfix = λ far. a;
      unary = λ far rest post. b rest post;
      climb = λ far min rest small post none o go. climb_turn min (ts ++ rest) (x, rest) o (b rest post) go;
      expr = λ rest stop. expr_unary x ts b rest stop;
    }

from_leaf : (l : ℕ) (x : Expr) (t : Token) → ((rest : List Token) → next prefix_of (t ∷ rest) ≡ None) → ((rest : List Token) → after w.OpenRound (t ∷ rest) ≡ None) → ((rest : List Token) → leaf (t ∷ rest) ≡ Some (x, rest)) → Read l x (t ∷ [])
from_leaf l x t plain off is = from_postfix l x false (t ∷ []) plain (λ rest o go. postfix_turn (t ∷ rest) x rest o (primary_leaf (t ∷ rest) x rest (off rest) (is rest)) go)

from_parens : (l : ℕ) (x : Expr) (ts : List Token) (first last : Token) → Is w.OpenRound first → Is w.CloseRound last → Read 0 x ts → Read l x (first ∷ (ts ++ last ∷ []))
from_parens l x ts first last opens closes r = from_postfix l x false (first ∷ (ts ++ last ∷ [])) (λ rest. next_none prefix_of first ((ts ++ last ∷ []) ++ rest) (ap prefix_of opens)) (λ rest o go.
    let same : ts ++ (last ∷ rest) ≡ (ts ++ last ∷ []) ++ rest = sym (append_assoc ts (last ∷ []) rest) in
    let inner = settles_at expr (ts ++ (last ∷ rest)) ((ts ++ last ∷ []) ++ rest) (Some (x, last ∷ rest)) same (r.expr (last ∷ rest) (stops_close last rest closes)) in
    let start : List Token = first ∷ ((ts ++ last ∷ []) ++ rest) in
    postfix_turn start x rest o (primary_parens start ((ts ++ last ∷ []) ++ rest) (last ∷ rest) rest x (after_is w.OpenRound first ((ts ++ last ∷ []) ++ rest) opens) inner (after_is w.CloseRound last rest closes)) go)

-- a mark behind an operand, and what belongs to it
from_post : (l : ℕ) (a : Expr) (made : Span → Expr) (called : Bool) (ts vs : List Token) (mark : Token) (p : Post) → l ≤ 12 → post_of mark.kind ≡ Some p → Read 12 a ts
    → ((start rest : List Token) → Settles (λ n. post_by (expr n) (args n) start a p (vs ++ rest)) (Some ((made (extent_to start rest), called), rest)))
    → Read l (made (extent (ts ++ mark ∷ vs))) (ts ++ mark ∷ vs)
from_post l a made called ts vs mark p le is r reads = from_postfix l (made (extent (ts ++ mark ∷ vs))) called (ts ++ mark ∷ vs)
    (λ rest. ap (next prefix_of) (append_assoc ts (mark ∷ vs) rest) ∙ r.plain (omega arith) (mark ∷ (vs ++ rest)))
    (λ rest o go.
    let same : ts ++ (mark ∷ (vs ++ rest)) ≡ (ts ++ mark ∷ vs) ++ rest = sym (append_assoc ts (mark ∷ vs) rest) in
    let start : List Token = (ts ++ mark ∷ vs) ++ rest in
    let there : Settles (λ n. post_by (expr n) (args n) start a p (vs ++ rest)) (Some ((made (extent (ts ++ mark ∷ vs)), called), rest)) = subst (λ (at : Span). Settles (λ n. post_by (expr n) (args n) start a p (vs ++ rest)) (Some ((made at, called), rest))) (extent_to_is (ts ++ mark ∷ vs) rest) (reads start rest) in
    let turn : Settles (λ n. posts n start ((a, r.called), mark ∷ (vs ++ rest))) o = posts_turn start ((a, r.called), mark ∷ (vs ++ rest)) ((made (extent (ts ++ mark ∷ vs)), called), rest) p (vs ++ rest) o (next_is post_of mark (vs ++ rest) p is) there go in
    settles_at postfix (ts ++ (mark ∷ (vs ++ rest))) start o same (r.postfix (omega arith) (mark ∷ (vs ++ rest)) o (subst (λ (w : List Token). Settles (λ n. posts n w ((a, r.called), mark ∷ (vs ++ rest))) o) (sym same) turn)))

index_reads : (a i : Expr) (us : List Token) (last : Token) → Is w.CloseSquare last → Read 0 i us → (start rest : List Token) → Settles (λ n. post_by (expr n) (args n) start a post.Index ((us ++ last ∷ []) ++ rest)) (Some ((e.Index (extent_to start rest) a i, false), rest))
index_reads a i us last closes r start rest =
    let same : us ++ (last ∷ rest) ≡ (us ++ last ∷ []) ++ rest = sym (append_assoc us (last ∷ []) rest) in
    let inner = settles_at expr (us ++ (last ∷ rest)) ((us ++ last ∷ []) ++ rest) (Some (i, last ∷ rest)) same (r.expr (last ∷ rest) (stops_square last rest closes)) in
    also_1 (λ n. expr n ((us ++ last ∷ []) ++ rest)) (Some (i, last ∷ rest)) (λ n. post_by (expr n) (args n) start a post.Index ((us ++ last ∷ []) ++ rest)) (Some ((e.Index (extent_to start rest) a i, false), rest)) inner (λ n one. turn ((us ++ last ∷ []) ++ rest) (last ∷ rest) n one (after_is w.CloseSquare last rest closes))
  where
    turn : (vs r : List Token) (n : ℕ) → expr n vs ≡ Some (i, r) → after w.CloseSquare r ≡ Some rest → post_by (expr n) (args n) start a post.Index vs ≡ Some ((e.Index (extent_to start rest) a i, false), rest)
    turn vs r n one two = rw one (rw two refl)

member_reads : (a : Expr) (x : List ℕ) (t : Token) → t.kind ≡ k.Name x → (start rest : List Token) → Settles (λ n. post_by (expr n) (args n) start a post.Member (t ∷ rest)) (Some ((e.Member (extent_to start rest) a (named t x), false), rest))
member_reads a x t is start rest = (0, λ m le. turn (t ∷ rest) m (name_is t x rest is))
  where
    turn : (vs : List Token) (n : ℕ) → name vs ≡ Some (named t x, rest) → post_by (expr n) (args n) start a post.Member vs ≡ Some ((e.Member (extent_to start rest) a (named t x), false), rest)
    turn vs n one = rw one refl

arrow_reads : (a : Expr) (x : List ℕ) (t : Token) → t.kind ≡ k.Name x → (start rest : List Token) → Settles (λ n. post_by (expr n) (args n) start a post.Arrow (t ∷ rest)) (Some ((e.Arrow (extent_to start rest) a (named t x), false), rest))
arrow_reads a x t is start rest = (0, λ m le. turn (t ∷ rest) m (name_is t x rest is))
  where
    turn : (vs : List Token) (n : ℕ) → name vs ≡ Some (named t x, rest) → post_by (expr n) (args n) start a post.Arrow vs ≡ Some ((e.Arrow (extent_to start rest) a (named t x), false), rest)
    turn vs n one = rw one refl

-- arguments are read up to and with `)`
abbrev pub ReadsArgs : List Expr → List Token → Type 0
ReadsArgs xs us = (last : Token) (rest : List Token) → Is w.CloseRound last → Settles (λ n. args n (us ++ last ∷ rest)) (Some (xs, rest))

-- many are read up to what is no comma and ends expressions, and `)` doesn't begin them
pub record ReadMany (xs : List Expr) (us : List Token) : Type 0 where
  pub begins : (rest : List Token) → after w.CloseRound (us ++ rest) ≡ None
  pub reads : (rest : List Token) → Stops rest → after w.Comma rest ≡ None → Settles (λ n. many n (us ++ rest)) (Some (xs, rest))

pub call_reads : (f : Expr) (xs : List Expr) (us : List Token) (last : Token) → Is w.CloseRound last → ReadsArgs xs us → (start rest : List Token) → Settles (λ n. post_by (expr n) (args n) start f post.Call ((us ++ last ∷ []) ++ rest)) (Some ((e.Call (extent_to start rest) f xs, true), rest))
call_reads f xs us last closes r start rest =
    let same : us ++ (last ∷ rest) ≡ (us ++ last ∷ []) ++ rest = sym (append_assoc us (last ∷ []) rest) in
    let inner = settles_at args (us ++ (last ∷ rest)) ((us ++ last ∷ []) ++ rest) (Some (xs, rest)) same (r last rest closes) in
    also_1 (λ n. args n ((us ++ last ∷ []) ++ rest)) (Some (xs, rest)) (λ n. post_by (expr n) (args n) start f post.Call ((us ++ last ∷ []) ++ rest)) (Some ((e.Call (extent_to start rest) f xs, true), rest)) inner (λ n one. turn ((us ++ last ∷ []) ++ rest) n one)
  where
    turn : (vs : List Token) (n : ℕ) → args n vs ≡ Some (xs, rest) → post_by (expr n) (args n) start f post.Call vs ≡ Some ((e.Call (extent_to start rest) f xs, true), rest)
    turn vs n one = rw one refl

from_prefix : (l : ℕ) (op : Prefix) (a : Expr) (ts : List Token) (t : Token) → l ≤ 11 → prefix_of t.kind ≡ Some op → Read 11 a ts → Read l (e.Unary (extent (t ∷ ts)) op a) (t ∷ ts)
from_prefix l op a ts t le is r = from_unary l (e.Unary (extent (t ∷ ts)) op a) (t ∷ ts) le (λ rest post.
    subst (λ (at : Span). Settles (λ n. unary n (t ∷ ts ++ rest)) (Some (e.Unary at op a, rest))) (extent_to_is (t ∷ ts) rest) (unary_prefix (t ∷ ts ++ rest) (ts ++ rest) op a rest (next_is prefix_of t (ts ++ rest) op is) (r.unary (omega arith) rest post)))

climb_binary : (op : Bin) (a b : Expr) (left right : List Token) (t : Token) → binary_of t.kind ≡ Some op → Read (level op) a left → Read (suc (level op)) b right → (min : ℕ) (rest : List Token) → min ≤ level op → next post_of rest ≡ None → next (op_from (suc (level op))) rest ≡ None → (o : Option Found) → Settles (λ n. more n min ((left ++ t ∷ right) ++ rest) (e.Binary (extent (left ++ t ∷ right)) op a b, rest)) o → Settles (λ n. climb n min ((left ++ t ∷ right) ++ rest)) o
climb_binary op a b left right t is p q min rest le post none o go =
    let start : List Token = (left ++ t ∷ right) ++ rest in
    let within = level_within op in
    let same : left ++ (t ∷ right ++ rest) ≡ start = sym (append_assoc left (t ∷ right) rest) in
    let second = q.climb (omega arith) (suc (level op)) rest (omega arith) post (next_tighter (suc (level op)) (suc (suc (level op))) rest (omega arith) none) (Some (b, rest)) (more_end (suc (level op)) (right ++ rest) (b, rest) none) in
    let go_on : Settles (λ n. more n min start (e.Binary (extent_to start rest) op a b, rest)) o = subst (λ (at : Span). Settles (λ n. more n min start (e.Binary at op a b, rest)) o) (sym (extent_to_is (left ++ t ∷ right) rest)) go in
    let turn : Settles (λ n. more n min start (a, t ∷ right ++ rest)) o = more_turn min start (a, t ∷ right ++ rest) (b, rest) op (right ++ rest) o (next_is (op_from min) t (right ++ rest) op (op_from_is min t.kind op is le)) second go_on in
    let turned : Settles (λ n. more n min (left ++ (t ∷ right ++ rest)) (a, t ∷ right ++ rest)) o = subst (λ (w : List Token). Settles (λ n. more n min w (a, t ∷ right ++ rest)) o) (sym same) turn in
    let off : next (op_from (suc (level op))) (t ∷ right ++ rest) ≡ None = next_none (op_from (suc (level op))) t (right ++ rest) (op_from_none (suc (level op)) t.kind op is (omega arith)) in
    let quiet : next post_of (t ∷ right ++ rest) ≡ None = next_none post_of t (right ++ rest) (binary_no_post t.kind op is) in
    subst (λ (w : List Token). Settles (λ n. climb n min w) o) same (p.climb (omega arith) min (t ∷ right ++ rest) le quiet off o turned)

from_binary : (l : ℕ) (op : Bin) (a b : Expr) (left right : List Token) (t : Token) → l ≤ level op → binary_of t.kind ≡ Some op → Read (level op) a left → Read (suc (level op)) b right → Read l (e.Binary (extent (left ++ t ∷ right)) op a b) (left ++ t ∷ right)
from_binary l op a b left right t le is p q =
    let within = level_within op in
    let x = e.Binary (extent (left ++ t ∷ right)) op a b in
    let ts = left ++ t ∷ right in
    record {
      called = false;
      plain = λ far rest. absurd (omega arith);
      postfix = λ far rest o go. absurd (omega arith);
      unary = λ far rest post. absurd (omega arith);
      climb = λ one min rest small post none o go. climb_binary op a b left right t is p q min rest (omega arith) post (next_tighter (suc l) (suc (level op)) rest (omega arith) none) o go;
      expr = λ rest stop. expr_climb (ts ++ rest) (x, rest) stop.question (climb_binary op a b left right t is p q 1 rest within.0 stop.post (next_tighter 1 (suc (level op)) rest (omega arith) stop.op) (Some (x, rest)) (more_end 1 (ts ++ rest) (x, rest) stop.op));
    }

from_cond : (c a b : Expr) (test then else : List Token) (q u : Token) → Is w.Question q → Is w.Colon u → Read 1 c test → Read 0 a then → Read 0 b else → Read 0 (e.Cond (extent (test ++ q ∷ (then ++ u ∷ else))) c a b) (test ++ q ∷ (then ++ u ∷ else))
from_cond c a b test then else q u is to x y z = record {
  called = false;
  plain = λ far rest. absurd (omega arith);
  postfix = λ far rest o go. absurd (omega arith);
  unary = λ far rest post. absurd (omega arith);
  climb = λ far min rest small post none o go. absurd (omega arith);
  expr = λ rest stop.
      let front : List Token = test ++ q ∷ (then ++ u ∷ else) in
      let start : List Token = front ++ rest in
      let after_then : List Token = u ∷ (else ++ rest) in
      let inner : (then ++ u ∷ else) ++ rest ≡ then ++ after_then = append_assoc then (u ∷ else) rest in
      let after_test : List Token = q ∷ (then ++ after_then) in
      let same : test ++ after_test ≡ start = sym (append_assoc test (q ∷ (then ++ u ∷ else)) rest ∙ ap (λ (w : List Token). test ++ q ∷ w) inner) in
      let no_post : next post_of after_test ≡ None = next_none post_of q (then ++ after_then) (ap post_of is) in
      let no_op : next (op_from 1) after_test ≡ None = next_none (op_from 1) q (then ++ after_then) (ap (op_from 1) is) in
      let first = x.climb (omega arith) 1 after_test (omega arith) no_post (next_tighter 1 2 after_test (omega arith) no_op) (Some (c, after_test)) (more_end 1 (test ++ after_test) (c, after_test) no_op) in
      let one : Settles (λ n. climb n 1 start) (Some (c, after_test)) = subst (λ (w : List Token). Settles (λ n. climb n 1 w) (Some (c, after_test))) same first in
      let two = y.expr after_then (stops_colon u (else ++ rest) to) in
      let three = z.expr rest stop in
      subst (λ (at : Span). Settles (λ n. expr n start) (Some (e.Cond at c a b, rest))) (extent_to_is front rest) (expr_cond start (then ++ after_then) (else ++ rest) c a b after_test after_then rest (after_is w.Question q (then ++ after_then) is) (after_is w.Colon u (else ++ rest) to) one two three);
}

-- the terminals with which an expression begins
abbrev pub leads : Kind → Bool
leads (k.Name x) = true
leads (k.Number n) = true
leads (k.Mark m.OpenRound) = true
leads (k.Mark m.Minus) = true
leads (k.Mark m.Bang) = true
leads (k.Mark m.Tilde) = true
leads (k.Mark m.Star) = true
leads (k.Mark m.Amp) = true
leads _ = false

pub record First (p : Kind → Bool) (ts : List Token) : Type 0 where
  pub t : Token
  pub rest : List Token
  pub is : ts ≡ t ∷ rest
  pub holds : p t.kind ≡ true

prefix_leads : (kind : Kind) (op : Prefix) → prefix_of kind ≡ Some op → leads kind ≡ true
prefix_leads (k.Mark m.Minus) op h = refl
prefix_leads (k.Mark m.Bang) op h = refl
prefix_leads (k.Mark m.Tilde) op h = refl
prefix_leads (k.Mark m.Star) op h = refl
prefix_leads (k.Mark m.Amp) op h = refl
prefix_leads _ op h = absurd (none-some op h)

pub first_then : (p : Kind → Bool) (ts us : List Token) → First p ts → First p (ts ++ us)
first_then p ts us f = record { t = f.t; rest = f.rest ++ us; is = ap (λ (w : List Token). w ++ us) f.is; holds = f.holds }

pub expr_first : {l : ℕ} {x : Expr} {ts : List Token} → Spells l x ts → First leads ts
expr_first (Spells.name t h) = record { t = t; rest = []; is = refl; holds = ap leads h }
expr_first (Spells.number t h) = record { t = t; rest = []; is = refl; holds = ap leads h }
expr_first (Spells.parens {ts = ts} t u h g x) = record { t = t; rest = ts ++ u ∷ []; is = refl; holds = ap leads h }
expr_first (Spells.index {ts = ts} {us = us} t u le h g x y) = first_then leads ts (t ∷ (us ++ u ∷ [])) (expr_first x)
expr_first (Spells.member {ts = ts} d t le h g x) = first_then leads ts (d ∷ t ∷ []) (expr_first x)
expr_first (Spells.arrow {ts = ts} d t le h g x) = first_then leads ts (d ∷ t ∷ []) (expr_first x)
expr_first (Spells.call {ts = ts} {us = us} t u le h g x y) = first_then leads ts (t ∷ (us ++ u ∷ [])) (expr_first x)
expr_first (Spells.unary {op = op} {ts = ts} t le h x) = record { t = t; rest = ts; is = refl; holds = prefix_leads t.kind op h }
expr_first (Spells.binary {left = left} {right = right} t le h x y) = first_then leads left (t ∷ right) (expr_first x)
expr_first (Spells.cond {test = test} {then = then} {else = else} q u h g x y z) = first_then leads test (q ∷ (then ++ u ∷ else)) (expr_first x)

-- tokens whose first is one of these don't begin with a terminal that isn't
pub after_first : (p : Kind → Bool) (what : Terminal) (ts rest : List Token) → First p ts → p (kind_of what) ≡ false → after what (ts ++ rest) ≡ None
after_first p what ts rest f off = ap (λ (w : List Token). after what (w ++ rest)) f.is ∙ after_none what f.t (f.rest ++ rest) (not_is (is what f.t.kind) refl)
  where
    not_is : (b : Bool) → is what f.t.kind ≡ b → is what f.t.kind ≡ false
    not_is false h = h
    not_is true h = absurd (true≢false (sym f.holds ∙ ap p (is_true what f.t.kind h) ∙ off))

pub after_leads : (what : Terminal) (ts rest : List Token) → First leads ts → leads (kind_of what) ≡ false → after what (ts ++ rest) ≡ None
after_leads what ts rest f off = after_first leads what ts rest f off

mutual
  pub read : {l : ℕ} {x : Expr} {ts : List Token} → Spells l x ts → Read l x ts
  read (Spells.name {l = l} {x = x} t h) = from_leaf l (e.Name t.span x) t (λ rest. next_none prefix_of t rest (ap prefix_of h)) (λ rest. after_none w.OpenRound t rest (ap (is w.OpenRound) h)) (λ rest. rw h refl)
  read (Spells.number {l = l} {n = n} t h) = from_leaf l (e.Number t.span n) t (λ rest. next_none prefix_of t rest (ap prefix_of h)) (λ rest. after_none w.OpenRound t rest (ap (is w.OpenRound) h)) (λ rest. rw h refl)
  read (Spells.parens {l = l} {x = x} {ts = ts} t u h g s) = from_parens l x ts t u h g (read s)
  read (Spells.index {l = l} {a = a} {i = i} {ts = ts} {us = us} t u le h g s r) = from_post l a (λ at. e.Index at a i) false ts (us ++ u ∷ []) t post.Index le (ap post_of h) (read s) (index_reads a i us u g (read r))
  read (Spells.member {l = l} {a = a} {x = x} {ts = ts} d t le h g s) = from_post l a (λ at. e.Member at a (named t x)) false ts (t ∷ []) d post.Member le (ap post_of h) (read s) (member_reads a x t g)
  read (Spells.arrow {l = l} {a = a} {x = x} {ts = ts} d t le h g s) = from_post l a (λ at. e.Arrow at a (named t x)) false ts (t ∷ []) d post.Arrow le (ap post_of h) (read s) (arrow_reads a x t g)
  read (Spells.call {l = l} {f = f} {xs = xs} {ts = ts} {us = us} t u le h g s r) = from_post l f (λ at. e.Call at f xs) true ts (us ++ u ∷ []) t post.Call le (ap post_of h) (read s) (call_reads f xs us u g (read_args r))
  read (Spells.unary {l = l} {op = op} {a = a} {ts = ts} t le h s) = from_prefix l op a ts t le h (read s)
  read (Spells.binary {l = l} {op = op} {a = a} {b = b} {left = left} {right = right} t le h s r) = from_binary l op a b left right t le h (read s) (read r)
  read (Spells.cond {c = c} {a = a} {b = b} {test = test} {then = then} {else = else} q u h g x y z) = from_cond c a b test then else q u h g (read x) (read y) (read z)

  pub read_args : {xs : List Expr} {us : List Token} → SpellArgs xs us → ReadsArgs xs us
  read_args SpellArgs.nothing = λ last rest closes. args_end (last ∷ rest) rest (after_is w.CloseRound last rest closes)
  read_args (SpellArgs.some {xs = xs} {ts = us} s) = λ last rest closes.
      let r = read_many s in
      args_many (us ++ last ∷ rest) (last ∷ rest) rest xs (r.begins (last ∷ rest)) (r.reads (last ∷ rest) (stops_close last rest closes) (after_other w.Comma w.CloseRound last rest closes refl)) (after_is w.CloseRound last rest closes)

  pub read_many : {xs : List Expr} {us : List Token} → SpellMany xs us → ReadMany xs us
  read_many (SpellMany.one {x = x} {ts = ts} s) = record {
    begins = λ rest. after_leads w.CloseRound ts rest (expr_first s) refl;
    reads = λ rest stop none. many_one (ts ++ rest) rest x ((read s).expr rest stop) none;
  }
  read_many (SpellMany.more {x = x} {xs = xs} {ts = ts} {us = us} c h s r) = record {
    begins = λ rest. ap (after w.CloseRound) (append_assoc ts (c ∷ us) rest) ∙ after_leads w.CloseRound ts (c ∷ us ++ rest) (expr_first s) refl;
    reads = λ rest stop none. settles_at many (ts ++ (c ∷ us ++ rest)) ((ts ++ c ∷ us) ++ rest) (Some (x ∷ xs, rest)) (sym (append_assoc ts (c ∷ us) rest)) (many_more (ts ++ (c ∷ us ++ rest)) (c ∷ us ++ rest) (us ++ rest) rest x xs ((read s).expr (c ∷ us ++ rest) (stops_comma c (us ++ rest) h)) (after_is w.Comma c (us ++ rest) h) ((read_many r).reads rest stop none));
  }

-- a token list spells at most one expression
pub one_expr : (x y : Expr) (ts : List Token) → Spells 0 x ts → Spells 0 y ts → x ≡ y
one_expr x y ts a b =
    let one = (read a).expr [] stops_nil in
    let two = (read b).expr [] stops_nil in
    ap (λ (f : Found). f.0) (same_Some (x, []) (y, []) (settles_one (λ n. expr n (ts ++ [])) (Some (x, [])) (Some (y, [])) one two))
