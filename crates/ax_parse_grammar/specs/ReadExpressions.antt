-- The descending parser of expressions as functions on lists; private contracts alone cite this.
use Rattle.std.specs.Prelude.{ℕ, zero, suc, nat_le, Bool, true, false, if◌then◌else◌, List, [], ◌∷◌, Option, Some, None}
use Rattle.ax_prog.specs.declared.Bin.{Bin}
use Rattle.ax_prog.specs.declared.tokens.Kind.{Kind}
use Rattle.ax_prog.specs.declared.tokens.Kind.TheVariants as k
use Rattle.ax_prog.specs.declared.tokens.Token.{Token}
use Rattle.ax_parse_grammar.specs.declared.operators.Post.{Post}
use Rattle.ax_parse_grammar.specs.declared.operators.Post.TheVariants as post
use Rattle.ax_parse_grammar.specs.declared.terminals.Terminal.TheVariants as w
use Rattle.ax_parse_grammar.specs.declared.tree.Expr.{Expr}
use Rattle.ax_parse_grammar.specs.declared.tree.Expr.TheVariants as e
use Rattle.ax_parse_grammar.specs.Operators.{binary_of, prefix_of, post_of, level}
use Rattle.ax_parse_grammar.specs.Reading.{Parser, ◌>>=◌, choose, extent_to, after, next, name, until, many_by}

abbrev pub Found : Type 0
Found = Expr × List Token

-- an expression, whether it is a call without parentheses around it, and the tokens after it
abbrev pub Chain : Type 0
Chain = (Expr × Bool) × List Token

abbrev pub leaf_in : Token → Kind → Parser Expr
leaf_in t (k.Name x) ts = Some (e.Name t.span x, ts)
leaf_in t (k.Number n) ts = Some (e.Number t.span n, ts)
leaf_in t _ ts = None

-- a name or number that comes first
abbrev pub leaf : Parser Expr
leaf [] = None
leaf (t ∷ ts) = leaf_in t t.kind ts

-- a binary operator that binds as tightly as min
abbrev pub op_from : ℕ → Kind → Option Bin
op_from min kind = choose (binary_of kind) None (λ op. if nat_le min (level op) then Some op else None)

abbrev pub primary_by : Parser Expr → Parser Expr
primary_by whole ts = choose (after w.OpenRound ts) (leaf ts) (λ us. until w.CloseRound whole us)

-- what a mark behind x makes of it
abbrev pub post_by : Parser Expr → Parser (List Expr) → List Token → Expr → Post → List Token → Option Chain
post_by whole args start x post.Index ts = until w.CloseSquare whole ts >>= λ i. Some ((e.Index (extent_to start i.1) x i.0, false), i.1)
post_by whole args start x post.Member ts = name ts >>= λ n. Some ((e.Member (extent_to start n.1) x n.0, false), n.1)
post_by whole args start x post.Arrow ts = name ts >>= λ n. Some ((e.Arrow (extent_to start n.1) x n.0, false), n.1)
post_by whole args start x post.Call ts = args ts >>= λ xs. Some ((e.Call (extent_to start xs.1) x xs.0, true), xs.1)

abbrev pub posts_by : (Expr → Post → List Token → Option Chain) → (Chain → Option Chain) → Chain → Option Chain
posts_by one again c = choose (next post_of c.1) (Some c) (λ p. one (c.0).0 p.0 p.1 >>= again)

abbrev pub unary_by : (List Token → Option Chain) → Parser Expr → Parser Expr
unary_by postfix part ts = choose (next prefix_of ts) (postfix ts >>= λ c. Some ((c.0).0, c.1)) (λ p. part p.1 >>= λ x. Some (e.Unary (extent_to ts x.1) p.0 x.0, x.1))

abbrev pub more_by : (ℕ → Parser Expr) → (Found → Option Found) → ℕ → List Token → Found → Option Found
more_by part again min start f = choose (next (op_from min) f.1) (Some f) (λ o. part (suc (level o.0)) o.1 >>= λ r. again (e.Binary (extent_to start r.1) o.0 f.0 r.0, r.1))

abbrev pub cond_by : Parser Expr → List Token → Found → Option Found
cond_by whole ts c = choose (after w.Question c.1) (Some c) (λ us. until w.Colon whole us >>= λ a. whole a.1 >>= λ b. Some (e.Cond (extent_to ts b.1) c.0 a.0 b.0, b.1))

abbrev pub args_by : Parser (List Expr) → Parser (List Expr)
args_by many ts = choose (after w.CloseRound ts) (until w.CloseRound many ts) (λ rest. Some ([], rest))

unfoldable mutual
  pub expr : ℕ → Parser Expr
  expr zero ts = None
  expr (suc n) ts = climb n 1 ts >>= cond_by (expr n) ts

  pub climb : ℕ → ℕ → Parser Expr
  climb zero min ts = None
  climb (suc n) min ts = unary n ts >>= more n min ts

  -- operators and operands go on
  pub more : ℕ → ℕ → List Token → Found → Option Found
  more zero min start f = None
  more (suc n) min start f = more_by (climb n) (more n min start) min start f

  pub unary : ℕ → Parser Expr
  unary zero ts = None
  unary (suc n) ts = unary_by (postfix n) (unary n) ts

  pub postfix : ℕ → List Token → Option Chain
  postfix zero ts = None
  postfix (suc n) ts = primary n ts >>= λ x. posts n ts ((x.0, false), x.1)

  -- marks behind an operand go on
  pub posts : ℕ → List Token → Chain → Option Chain
  posts zero start c = None
  posts (suc n) start c = posts_by (post_by (expr n) (args n) start) (posts n start) c

  pub primary : ℕ → Parser Expr
  primary zero ts = None
  primary (suc n) ts = primary_by (expr n) ts

  -- arguments and `)`
  pub args : ℕ → Parser (List Expr)
  args zero ts = None
  args (suc n) ts = args_by (many n) ts

  pub many : ℕ → Parser (List Expr)
  many zero ts = None
  many (suc n) ts = many_by (expr n) (many n) ts
