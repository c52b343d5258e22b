-- What each exit and each turn of the readers gives.
use Rattle.std.proofs.Common.{◌≡◌, ℕ, suc, ◌+◌, ◌≤◌, ◌<◌, Bool, true, false, List, [], ◌∷◌, ◌++◌, length, drop, Option, Some, None, Result, Ok, Err, refl, sym, ap, ◌∙◌, subst, arith, append_assoc, append-nil}
use Rattle.std.specs.Prelude.{option_map}
use Rattle.ax_prog.specs.declared.Bin.{Bin}
use Rattle.ax_prog.specs.declared.tokens.Token.{Token}
use Rattle.ax_parse_grammar.specs.declared.operators.Post.{Post}
use Rattle.ax_parse_grammar.specs.declared.operators.Post.TheVariants as post
use Rattle.ax_parse_grammar.specs.declared.terminals.Terminal.{Terminal}
use Rattle.ax_parse_grammar.specs.declared.terminals.Terminal.TheVariants as w
use Rattle.ax_parse_grammar.specs.declared.tree.Prefix.{Prefix}
use Rattle.ax_parse_grammar.specs.declared.tree.Expr.{Expr}
use Rattle.ax_parse_grammar.specs.declared.tree.Expr.TheVariants as e
use Rattle.ax_parse_grammar.specs.Operators.{prefix_of, post_of, level}
use Rattle.ax_parse_grammar.specs.Reading.{Parser, ◌>>=◌, choose, extent_to, after, next, until, Settles}
use Rattle.ax_parse_grammar.specs.ReadExpressions.{Found, Chain, leaf, op_from, post_by, expr, climb, more, unary, postfix, posts, primary, args, many}
use Rattle.ax_parse_grammar.proofs.Tools.{settle_0, settle_1, settle_2, also_1, also_2}
use Rattle.ax_parse_grammar.proofs.ExpressionsRead.{postfix_turn, posts_end, posts_turn, climb_turn, more_end, more_turn, unary_prefix}
use Rattle.ax_parse_expressions.specs.declared.faults.ReadFault.{ReadFault}
use Rattle.ax_parse_expressions.specs.declared.faults.ReadFault.TheVariants.{Memory, Syntax}
use Rattle.ax_parse_expressions.specs.Answers.{Gives, branches_by}

-- ---- answers that are passed on

-- a fault
pub passed : {A B : Type 0} (tokens : List Token) (d : ReadFault) (f : ℕ → Option (A × List Token)) (g : ℕ → Option (B × List Token)) → Gives {A = A} tokens (Err d) f → (Settles f None → Settles g None) → Gives {A = B} tokens (Err d) g
passed tokens Memory f g h go = tt
passed tokens (Syntax at) f g h go = go h

-- any answer
pub handed : {A : Type 0} (tokens : List Token) (r : Result (A × ℕ) ReadFault) (f g : ℕ → Option (A × List Token)) → Gives {A = A} tokens r f → ((o : Option (A × List Token)) → Settles f o → Settles g o) → Gives {A = A} tokens r g
handed tokens (Ok r) f g h go = go (Some (r.0, drop r.1 tokens)) h
handed tokens (Err d) f g h go = passed tokens d f g h (go None)

-- what a test of tokens found
pub mapped : {A B : Type 0} (f : A → B) (p : Option B) (o : Option A) (x : A) → p ≡ option_map f o → o ≡ Some x → p ≡ Some (f x)
mapped f p o x h is = h ∙ ap (option_map f) is

pub unmapped : {A B : Type 0} (f : A → B) (p : Option B) (o : Option A) → p ≡ option_map f o → o ≡ None → p ≡ None
unmapped f p o h is = h ∙ ap (option_map f) is

-- ---- an expression and a terminal

pub until_fault : (what : Terminal) (ts : List Token) → Settles (λ n. expr n ts) None → Settles (λ n. until what (expr n) ts) None
until_fault what ts a = also_1 (λ n. expr n ts) None (λ n. until what (expr n) ts) None a (λ n one. rw one refl)

pub until_open : (what : Terminal) (ts r : List Token) (x : Expr) → Settles (λ n. expr n ts) (Some (x, r)) → after what r ≡ None → Settles (λ n. until what (expr n) ts) None
until_open what ts r x a off = also_1 (λ n. expr n ts) (Some (x, r)) (λ n. until what (expr n) ts) None a (λ n one. rw one (rw off refl))

pub until_reads : (what : Terminal) (ts r rest : List Token) (x : Expr) → Settles (λ n. expr n ts) (Some (x, r)) → after what r ≡ Some rest → Settles (λ n. until what (expr n) ts) (Some (x, rest))
until_reads what ts r rest x a on = also_1 (λ n. expr n ts) (Some (x, r)) (λ n. until what (expr n) ts) (Some (x, rest)) a (λ n one. rw one (rw on refl))

-- ---- `? :`

pub expr_fault : (ts : List Token) → Settles (λ n. climb n 1 ts) None → Settles (λ n. expr n ts) None
unfolding expr
expr_fault ts a = settle_1 (λ n. climb n 1 ts) None (λ n. expr n ts) None a (λ n one. rw one refl)

pub expr_asks : (ts r us : List Token) (c : Expr) (o : Option Found) → Settles (λ n. climb n 1 ts) (Some (c, r)) → after w.Question r ≡ Some us → Settles (λ n. branches_by (expr n) ts c us) o → Settles (λ n. expr n ts) o
unfolding expr
expr_asks ts r us c o a on b = settle_2 (λ n. climb n 1 ts) (Some (c, r)) (λ n. branches_by (expr n) ts c us) o (λ n. expr n ts) o a b (λ n one two. rw one (rw on two))

pub branches_fault : (ts us : List Token) (c : Expr) → Settles (λ n. until w.Colon (expr n) us) None → Settles (λ n. branches_by (expr n) ts c us) None
branches_fault ts us c a = also_1 (λ n. until w.Colon (expr n) us) None (λ n. branches_by (expr n) ts c us) None a (λ n one. rw one refl)

pub branches_open : (ts us vs : List Token) (c a : Expr) → Settles (λ n. until w.Colon (expr n) us) (Some (a, vs)) → Settles (λ n. expr n vs) None → Settles (λ n. branches_by (expr n) ts c us) None
branches_open ts us vs c a x y = also_2 (λ n. until w.Colon (expr n) us) (Some (a, vs)) (λ n. expr n vs) None (λ n. branches_by (expr n) ts c us) None x y (λ n one two. rw one (rw two refl))

pub branches_read : (ts us vs rest : List Token) (c a b made : Expr) → Settles (λ n. until w.Colon (expr n) us) (Some (a, vs)) → Settles (λ n. expr n vs) (Some (b, rest)) → made ≡ e.Cond (extent_to ts rest) c a b → Settles (λ n. branches_by (expr n) ts c us) (Some (made, rest))
branches_read ts us vs rest c a b made x y is = also_2 (λ n. until w.Colon (expr n) us) (Some (a, vs)) (λ n. expr n vs) (Some (b, rest)) (λ n. branches_by (expr n) ts c us) (Some (made, rest)) x y (λ n one two. rw one (rw two (ap (λ (z : Expr). Some (z, rest)) (sym is))))

-- ---- unary operators

pub unary_fault : (ts : List Token) → next prefix_of ts ≡ None → Settles (λ n. postfix n ts) None → Settles (λ n. unary n ts) None
unfolding unary
unary_fault ts none a = settle_1 (λ n. postfix n ts) None (λ n. unary n ts) None a (λ n one. rw none (rw one refl))

pub unary_open : (ts us : List Token) (op : Prefix) → next prefix_of ts ≡ Some (op, us) → Settles (λ n. unary n us) None → Settles (λ n. unary n ts) None
unfolding unary
unary_open ts us op is a = settle_1 (λ n. unary n us) None (λ n. unary n ts) None a (λ n one. rw is (rw one refl))

pub unary_reads : (ts us rest : List Token) (op : Prefix) (x made : Expr) → next prefix_of ts ≡ Some (op, us) → Settles (λ n. unary n us) (Some (x, rest)) → made ≡ e.Unary (extent_to ts rest) op x → Settles (λ n. unary n ts) (Some (made, rest))
unary_reads ts us rest op x made is a same = subst (λ (z : Expr). Settles (λ n. unary n ts) (Some (z, rest))) (sym same) (unary_prefix ts us op x rest is a)

-- ---- operands, and operators between them

pub climb_fault : (min : ℕ) (ts : List Token) → Settles (λ n. unary n ts) None → Settles (λ n. climb n min ts) None
unfolding climb
climb_fault min ts a = settle_1 (λ n. unary n ts) None (λ n. climb n min ts) None a (λ n one. rw one refl)

more_open : (min : ℕ) (start us : List Token) (f : Found) (op : Bin) → next (op_from min) f.1 ≡ Some (op, us) → Settles (λ n. climb n (suc (level op)) us) None → Settles (λ n. more n min start f) None
unfolding more
more_open min start us f op is a = settle_1 (λ n. climb n (suc (level op)) us) None (λ n. more n min start f) None a (λ n one. rw is (rw one refl))

-- The tokens before `next` spell `left`: what is made of it there is what is read at the start.
pub record Climbed (tokens : List Token) (at min : ℕ) (left : Expr) (next : ℕ) : Type 0 where
  pub order : at < next
  pub within : next ≤ length tokens
  pub goes : (o : Option Found) → Settles (λ n. more n min (drop at tokens) (left, drop next tokens)) o → Settles (λ n. climb n min (drop at tokens)) o

-- ---- marks behind an operand

pub postfix_fault : (ts : List Token) → Settles (λ n. primary n ts) None → Settles (λ n. postfix n ts) None
unfolding postfix
postfix_fault ts a = settle_1 (λ n. primary n ts) None (λ n. postfix n ts) None a (λ n one. rw one refl)

posts_open : (start us : List Token) (c : Chain) (p : Post) → next post_of c.1 ≡ Some (p, us) → Settles (λ n. post_by (expr n) (args n) start c.0.0 p us) None → Settles (λ n. posts n start c) None
unfolding posts
posts_open start us c p is a = settle_1 (λ n. post_by (expr n) (args n) start c.0.0 p us) None (λ n. posts n start c) None a (λ n one. rw is (rw one refl))

-- The tokens before `next` spell `found`: what the marks there make of it is what is read at the start.
pub record Linked (tokens : List Token) (at : ℕ) (found : Expr) (called : Bool) (next : ℕ) : Type 0 where
  pub order : at < next
  pub within : next ≤ length tokens
  pub goes : (o : Option Chain) → Settles (λ n. posts n (drop at tokens) ((found, called), drop next tokens)) o → Settles (λ n. postfix n (drop at tokens)) o

pub index_fault : (start us : List Token) (x : Expr) → Settles (λ n. until w.CloseSquare (expr n) us) None → Settles (λ n. post_by (expr n) (args n) start x post.Index us) None
index_fault start us x a = also_1 (λ n. until w.CloseSquare (expr n) us) None (λ n. post_by (expr n) (args n) start x post.Index us) None a (λ n one. rw one refl)

pub index_reads : (start us rest : List Token) (x i made : Expr) → Settles (λ n. until w.CloseSquare (expr n) us) (Some (i, rest)) → made ≡ e.Index (extent_to start rest) x i → Settles (λ n. post_by (expr n) (args n) start x post.Index us) (Some ((made, false), rest))
index_reads start us rest x i made a is = also_1 (λ n. until w.CloseSquare (expr n) us) (Some (i, rest)) (λ n. post_by (expr n) (args n) start x post.Index us) (Some ((made, false), rest)) a (λ n one. rw one (ap (λ (z : Expr). Some ((z, false), rest)) (sym is)))

pub call_fault : (start us : List Token) (x : Expr) → Settles (λ n. args n us) None → Settles (λ n. post_by (expr n) (args n) start x post.Call us) None
call_fault start us x a = also_1 (λ n. args n us) None (λ n. post_by (expr n) (args n) start x post.Call us) None a (λ n one. rw one refl)

pub call_reads : (start us rest : List Token) (x made : Expr) (xs : List Expr) → Settles (λ n. args n us) (Some (xs, rest)) → made ≡ e.Call (extent_to start rest) x xs → Settles (λ n. post_by (expr n) (args n) start x post.Call us) (Some ((made, true), rest))
call_reads start us rest x made xs a is = also_1 (λ n. args n us) (Some (xs, rest)) (λ n. post_by (expr n) (args n) start x post.Call us) (Some ((made, true), rest)) a (λ n one. rw one (ap (λ (z : Expr). Some ((z, true), rest)) (sym is)))

pub primary_parens : (ts us : List Token) (o : Option Found) → after w.OpenRound ts ≡ Some us → Settles (λ n. until w.CloseRound (expr n) us) o → Settles (λ n. primary n ts) o
unfolding primary
primary_parens ts us o is a = settle_1 (λ n. until w.CloseRound (expr n) us) o (λ n. primary n ts) o a (λ n one. rw is one)

pub primary_leaf : (ts : List Token) (o : Option Found) → after w.OpenRound ts ≡ None → Settles (λ n. leaf ts) o → Settles (λ n. primary n ts) o
unfolding primary
primary_leaf ts o off a = settle_1 (λ n. leaf ts) o (λ n. primary n ts) o a (λ n one. rw off one)

-- ---- arguments

pub args_fault : (ts : List Token) → after w.CloseRound ts ≡ None → Settles (λ n. many n ts) None → Settles (λ n. args n ts) None
unfolding args
args_fault ts off a = settle_1 (λ n. many n ts) None (λ n. args n ts) None a (λ n one. rw off (rw one refl))

pub args_open : (ts r : List Token) (xs : List Expr) → after w.CloseRound ts ≡ None → Settles (λ n. many n ts) (Some (xs, r)) → after w.CloseRound r ≡ None → Settles (λ n. args n ts) None
unfolding args
args_open ts r xs off a none = settle_1 (λ n. many n ts) (Some (xs, r)) (λ n. args n ts) None a (λ n one. rw off (rw one (rw none refl)))

abbrev Several : Type 0
Several = List Expr × List Token

-- what follows an argument
abbrev others : ℕ → Parser (List Expr)
others n ts = choose (after w.Comma ts) (Some ([], ts)) (λ us. many n us)

-- what follows xs is put behind them
abbrev behind : List Expr → Option Several → Option Several
behind xs o = o >>= λ r. Some (xs ++ r.0, r.1)

many_fault : (ts : List Token) → Settles (λ n. expr n ts) None → Settles (λ n. many n ts) None
unfolding many
many_fault ts a = settle_1 (λ n. expr n ts) None (λ n. many n ts) None a (λ n one. rw one refl)

many_more : (x : Expr) (r : List Token) (n : ℕ) (o : Option (List Token)) (p : Option Several) → choose {B = Option Several} o (Some ([], r)) (λ us. many n us) ≡ p → choose {B = Option Several} o (Some (x ∷ [], r)) (λ us. many n us >>= λ xs. Some (x ∷ xs.0, xs.1)) ≡ behind (x ∷ []) p
many_more x r n None p h = ap (behind (x ∷ [])) h
many_more x r n (Some us) p h = ap (behind (x ∷ [])) h

many_first : (ts r : List Token) (x : Expr) (o : Option Several) → Settles (λ n. expr n ts) (Some (x, r)) → Settles (λ n. others n r) o → Settles (λ n. many n ts) (behind (x ∷ []) o)
unfolding many
many_first ts r x o a b = settle_2 (λ n. expr n ts) (Some (x, r)) (λ n. others n r) o (λ n. many n ts) (behind (x ∷ []) o) a b (λ n one two. rw one (many_more x r n (after w.Comma r) o two))

others_end : (ts : List Token) → after w.Comma ts ≡ None → Settles (λ n. others n ts) (Some ([], ts))
others_end ts off = settle_0 (λ n. others n ts) (Some ([], ts)) (λ n. rw off refl)

others_go : (ts us : List Token) (o : Option Several) → after w.Comma ts ≡ Some us → Settles (λ n. many n us) o → Settles (λ n. others n ts) o
others_go ts us o is a = also_1 (λ n. many n us) o (λ n. others n ts) o a (λ n one. rw is one)

behind_two : (xs : List Expr) (x : Expr) (o : Option Several) → behind xs (behind (x ∷ []) o) ≡ behind (xs ++ x ∷ []) o
behind_two xs x None = refl
behind_two xs x (Some r) = ap (λ (ys : List Expr). Some (ys, r.1)) (sym (append_assoc xs (x ∷ []) r.0))

-- The tokens before `next` spell `found`, with commas: what follows there, behind them, is what is read at the start.
pub record Listed (tokens : List Token) (at : ℕ) (found : List Expr) (next : ℕ) : Type 0 where
  pub order : at < next
  pub within : next ≤ length tokens
  pub goes : (o : Option Several) → Settles (λ n. others n (drop next tokens)) o → Settles (λ n. many n (drop at tokens)) (behind found o)

-- ---- turns of the loops

module _ (tokens : List Token) (at : ℕ) where
  abbrev ReadsAt : {A : Type 0} → (ℕ → List Token → Option (A × List Token)) → ℕ → A → ℕ → Type 0
  ReadsAt f from x to = Settles (λ n. f n (drop from tokens)) (Some (x, drop to tokens))

  pub climb_starts : (min : ℕ) (left : Expr) (to : ℕ) → (at < to) × (to ≤ length tokens) → ReadsAt unary at left to → Climbed tokens at min left to
  climb_starts min left to far a = record {
    order = far.0;
    within = far.1;
    goes = λ o go. climb_turn min (drop at tokens) (left, drop to tokens) o a go;
  }

  pub climb_ends : (min : ℕ) (left : Expr) (to : ℕ) (o : Option Bin) → Climbed tokens at min left to → next (op_from min) (drop to tokens) ≡ option_map (λ op. (op, drop (to + 1) tokens)) o → o ≡ None → ReadsAt (λ n. climb n min) at left to
  climb_ends min left to o s found is = s.goes (Some (left, drop to tokens)) (more_end min (drop at tokens) (left, drop to tokens) (unmapped (λ op. (op, drop (to + 1) tokens)) (next (op_from min) (drop to tokens)) o found is))

  right_level : (l m : ℕ) (us : List Token) (r : Option Found) → l ≡ m → Settles (λ n. climb n (l + 1) us) r → Settles (λ n. climb n (suc m) us) r
  right_level l m us r same a = let e : l + 1 ≡ suc m = omega (arith, same) in subst (λ (i : ℕ). Settles (λ n. climb n i us) r) e a

  pub climb_stuck : (min : ℕ) (left : Expr) (to : ℕ) (op : Bin) (o : Option Bin) (l : ℕ) → Climbed tokens at min left to → next (op_from min) (drop to tokens) ≡ option_map (λ op. (op, drop (to + 1) tokens)) o → o ≡ Some op → l ≡ level op → Settles (λ n. climb n (l + 1) (drop (to + 1) tokens)) None → Settles (λ n. climb n min (drop at tokens)) None
  climb_stuck min left to op o l s found is same a =
      let on = mapped (λ op. (op, drop (to + 1) tokens)) (next (op_from min) (drop to tokens)) o op found is in
      s.goes None (more_open min (drop at tokens) (drop (to + 1) tokens) (left, drop to tokens) op on (right_level l (level op) (drop (to + 1) tokens) None same a))

  pub climb_goes : (min : ℕ) (left right made : Expr) (to end : ℕ) (op : Bin) (o : Option Bin) (l : ℕ) → Climbed tokens at min left to → next (op_from min) (drop to tokens) ≡ option_map (λ op. (op, drop (to + 1) tokens)) o → o ≡ Some op → l ≡ level op → Settles (λ n. climb n (l + 1) (drop (to + 1) tokens)) (Some (right, drop end tokens)) → (to + 1 < end) × (end ≤ length tokens) → made ≡ e.Binary (extent_to (drop at tokens) (drop end tokens)) op left right → Climbed tokens at min made end
  climb_goes min left right made to end op o l s found is same a far built =
      let on = mapped (λ op. (op, drop (to + 1) tokens)) (next (op_from min) (drop to tokens)) o op found is in
      let before = s.order in
      let first = far.0 in
      record {
        order = omega (arith, before, first);
        within = far.1;
        goes = λ r go. s.goes r (more_turn min (drop at tokens) (left, drop to tokens) (right, drop end tokens) op (drop (to + 1) tokens) r on (right_level l (level op) (drop (to + 1) tokens) (Some (right, drop end tokens)) same a) (subst (λ (x : Expr). Settles (λ n. more n min (drop at tokens) (x, drop end tokens)) r) built go));
      }

  pub links_start : (found : Expr) (to : ℕ) → (at < to) × (to ≤ length tokens) → ReadsAt primary at found to → Linked tokens at found false to
  links_start found to far a = record {
    order = far.0;
    within = far.1;
    goes = λ o go. postfix_turn (drop at tokens) found (drop to tokens) o a go;
  }

  pub links_end : (found : Expr) (called : Bool) (to : ℕ) (o : Option Post) → Linked tokens at found called to → next post_of (drop to tokens) ≡ option_map (λ p. (p, drop (to + 1) tokens)) o → o ≡ None → ReadsAt {A = Expr × Bool} postfix at (found, called) to
  links_end found called to o s seen is = s.goes (Some ((found, called), drop to tokens)) (posts_end (drop at tokens) ((found, called), drop to tokens) (unmapped (λ p. (p, drop (to + 1) tokens)) (next post_of (drop to tokens)) o seen is))

  pub links_stuck : (found : Expr) (called : Bool) (to : ℕ) (p : Post) (o : Option Post) → Linked tokens at found called to → next post_of (drop to tokens) ≡ option_map (λ p. (p, drop (to + 1) tokens)) o → o ≡ Some p → Settles (λ n. post_by (expr n) (args n) (drop at tokens) found p (drop (to + 1) tokens)) None → Settles (λ n. postfix n (drop at tokens)) None
  links_stuck found called to p o s seen is a =
      let on = mapped (λ p. (p, drop (to + 1) tokens)) (next post_of (drop to tokens)) o p seen is in
      s.goes None (posts_open (drop at tokens) (drop (to + 1) tokens) ((found, called), drop to tokens) p on a)

  pub links_go : (found : Expr) (called : Bool) (to end : ℕ) (made : Expr × Bool) (p : Post) (o : Option Post) → Linked tokens at found called to → next post_of (drop to tokens) ≡ option_map (λ p. (p, drop (to + 1) tokens)) o → o ≡ Some p → Settles (λ n. post_by (expr n) (args n) (drop at tokens) found p (drop (to + 1) tokens)) (Some (made, drop end tokens)) → (to + 1 < end) × (end ≤ length tokens) → Linked tokens at made.0 made.1 end
  links_go found called to end made p o s seen is a far =
      let on = mapped (λ p. (p, drop (to + 1) tokens)) (next post_of (drop to tokens)) o p seen is in
      let before = s.order in
      let first = far.0 in
      record {
        order = omega (arith, before, first);
        within = far.1;
        goes = λ r go. s.goes r (posts_turn (drop at tokens) ((found, called), drop to tokens) (made, drop end tokens) p (drop (to + 1) tokens) r on a go);
      }

  pub list_starts : (x : Expr) (to : ℕ) → (at < to) × (to ≤ length tokens) → ReadsAt expr at x to → Listed tokens at (x ∷ []) to
  list_starts x to far a = record {
    order = far.0;
    within = far.1;
    goes = λ o go. many_first (drop at tokens) (drop to tokens) x o a go;
  }

  pub list_ends : (found : List Expr) (to : ℕ) → Listed tokens at found to → after w.Comma (drop to tokens) ≡ None → ReadsAt many at found to
  list_ends found to s off =
      let a : Settles (λ n. many n (drop at tokens)) (Some (found ++ [], drop to tokens)) = s.goes (Some ([], drop to tokens)) (others_end (drop to tokens) off) in
      subst (λ (xs : List Expr). Settles (λ n. many n (drop at tokens)) (Some (xs, drop to tokens))) (append-nil found) a

  pub list_no_first : Settles (λ n. expr n (drop at tokens)) None → Settles (λ n. many n (drop at tokens)) None
  list_no_first a = many_fault (drop at tokens) a

  pub list_stuck : (found : List Expr) (to : ℕ) → Listed tokens at found to → after w.Comma (drop to tokens) ≡ Some (drop (to + 1) tokens) → Settles (λ n. expr n (drop (to + 1) tokens)) None → Settles (λ n. many n (drop at tokens)) None
  list_stuck found to s on a = s.goes None (others_go (drop to tokens) (drop (to + 1) tokens) None on (many_fault (drop (to + 1) tokens) a))

  pub list_goes : (found made : List Expr) (x : Expr) (to end : ℕ) → Listed tokens at found to → after w.Comma (drop to tokens) ≡ Some (drop (to + 1) tokens) → ReadsAt expr (to + 1) x end → (to + 1 < end) × (end ≤ length tokens) → made ≡ found ++ x ∷ [] → Listed tokens at made end
  list_goes found made x to end s on a far built =
      let before = s.order in
      let first = far.0 in
      record {
        order = omega (arith, before, first);
        within = far.1;
        goes = λ o go.
            let b = s.goes (behind (x ∷ []) o) (others_go (drop to tokens) (drop (to + 1) tokens) (behind (x ∷ []) o) on (many_first (drop (to + 1) tokens) (drop end tokens) x o a go)) in
            subst (λ (p : Option Several). Settles (λ n. many n (drop at tokens)) p) (behind_two found x o ∙ ap (λ (xs : List Expr). behind xs o) (sym built)) b;
      }
