-- Token lists and trees that stand elsewhere: f says where each place of the text goes. All else stays.
use Rattle.std.specs.Prelude.{ℕ, List, [], ◌∷◌, map}
use Rattle.std.specs.Option.{option_map}
use Rattle.ax_prog.specs.declared.Span.{Span}
use Rattle.ax_prog.specs.declared.tokens.Token.{Token}
use Rattle.ax_parse_grammar.specs.declared.tree.Name as word
use Rattle.ax_parse_grammar.specs.declared.tree.Expr.{Expr, Name, Number, Unary', Binary', Cond', Index', Member', Arrow', Call'}
use Rattle.ax_parse_grammar.specs.declared.tree.Expr.TheVariants as e
use Rattle.ax_parse_grammar.specs.declared.tree.Expr.TheBlock.{Row_of-Expr, more_of-Expr, end_of-Expr}
use Rattle.ax_parse_grammar.specs.declared.tree.Base.{Base}
use Rattle.ax_parse_grammar.specs.declared.tree.Base.TheVariants as b
use Rattle.ax_parse_grammar.specs.declared.tree.Returns.{Returns}
use Rattle.ax_parse_grammar.specs.declared.tree.Returns.TheVariants as returns
use Rattle.ax_parse_grammar.specs.declared.tree.Size.{Size}
use Rattle.ax_parse_grammar.specs.declared.tree.Signed.{Signed}
use Rattle.ax_parse_grammar.specs.declared.tree.Declarator.{Declarator}
use Rattle.ax_parse_grammar.specs.declared.tree.Initialiser.{Initialiser}
use Rattle.ax_parse_grammar.specs.declared.tree.Initialiser.TheVariants as by
use Rattle.ax_parse_grammar.specs.declared.tree.Declared.{Declared}
use Rattle.ax_parse_grammar.specs.declared.tree.Decl as decls
use Rattle.ax_parse_grammar.specs.declared.tree.Param.{Param}
use Rattle.ax_parse_grammar.specs.declared.tree.Head.{Head}
use Rattle.ax_parse_grammar.specs.declared.tree.Simple as deed
use Rattle.ax_parse_grammar.specs.declared.tree.Simple.TheVariants as act
use Rattle.ax_parse_grammar.specs.declared.tree.Opening.{Opening}
use Rattle.ax_parse_grammar.specs.declared.tree.Opening.TheVariants as opening
use Rattle.ax_parse_grammar.specs.declared.tree.Stmt.{Stmt, Empty, Block', Decl, Simple, If', IfElse', While', Do', For', Break, Continue, Return, Read, Print}
use Rattle.ax_parse_grammar.specs.declared.tree.Stmt.TheVariants as s
use Rattle.ax_parse_grammar.specs.declared.tree.Stmt.TheBlock.{Row_of-Stmt, more_of-Stmt, end_of-Stmt}
use Rattle.ax_parse_grammar.specs.declared.tree.Members.{Members}
use Rattle.ax_parse_grammar.specs.declared.tree.Part.{Part}
use Rattle.ax_parse_grammar.specs.declared.tree.Part.TheVariants as part
use Rattle.ax_parse_grammar.specs.declared.tree.Tree.{Tree}

abbrev pub moved_span : (ℕ → ℕ) → Span → Span
moved_span f at = record { from = f at.from; to = f at.to }

abbrev pub moved_token : (ℕ → ℕ) → Token → Token
moved_token f t = record { kind = t.kind; span = moved_span f t.span }

abbrev pub moved_tokens : (ℕ → ℕ) → List Token → List Token
moved_tokens f ts = map (moved_token f) ts

-- ---- expressions

abbrev pub moved_name : (ℕ → ℕ) → word.Name → word.Name
moved_name f x = record { span = moved_span f x.span; text = x.text }

abbrev mutual
  pub moved_expr : (ℕ → ℕ) → Expr → Expr
  moved_expr f (Name at x) = e.Name (moved_span f at) x
  moved_expr f (Number at n) = e.Number (moved_span f at) n
  moved_expr f (Unary' at op s (more_of-Expr a end_of-Expr)) = e.Unary (moved_span f at) op (moved_expr f a)
  moved_expr f (Binary' at op s (more_of-Expr a end_of-Expr) t (more_of-Expr b end_of-Expr)) = e.Binary (moved_span f at) op (moved_expr f a) (moved_expr f b)
  moved_expr f (Cond' at s (more_of-Expr c end_of-Expr) t (more_of-Expr a end_of-Expr) u (more_of-Expr b end_of-Expr)) = e.Cond (moved_span f at) (moved_expr f c) (moved_expr f a) (moved_expr f b)
  moved_expr f (Index' at s (more_of-Expr a end_of-Expr) t (more_of-Expr i end_of-Expr)) = e.Index (moved_span f at) (moved_expr f a) (moved_expr f i)
  moved_expr f (Member' at s (more_of-Expr a end_of-Expr) x) = e.Member (moved_span f at) (moved_expr f a) (moved_name f x)
  moved_expr f (Arrow' at s (more_of-Expr a end_of-Expr) x) = e.Arrow (moved_span f at) (moved_expr f a) (moved_name f x)
  moved_expr f (Call' at s (more_of-Expr a end_of-Expr) t row) = e.Call (moved_span f at) (moved_expr f a) (moved_args f row)

  pub moved_args : (ℕ → ℕ) → {n : _} → Row_of-Expr n → List Expr
  moved_args f end_of-Expr = []
  moved_args f (more_of-Expr a rest) = moved_expr f a ∷ moved_args f rest

-- ---- declarations

abbrev pub moved_base : (ℕ → ℕ) → Base → Base
moved_base f (b.Int at) = b.Int (moved_span f at)
moved_base f (b.Struct at x) = b.Struct (moved_span f at) (moved_name f x)

abbrev pub moved_size : (ℕ → ℕ) → Size → Size
moved_size f x = record x { span = moved_span f x.span }

abbrev pub moved_declarator : (ℕ → ℕ) → Declarator → Declarator
moved_declarator f d = record { span = moved_span f d.span; stars = d.stars; name = moved_name f d.name; sizes = map (moved_size f) d.sizes }

abbrev pub moved_signed : (ℕ → ℕ) → Signed → Signed
moved_signed f x = record x { span = moved_span f x.span }

abbrev pub moved_initialiser : (ℕ → ℕ) → Initialiser → Initialiser
moved_initialiser f by.Nothing = by.Nothing
moved_initialiser f (by.Value a) = by.Value (moved_expr f a)
moved_initialiser f (by.List at xs) = by.List (moved_span f at) (map (moved_signed f) xs)

abbrev pub moved_declared : (ℕ → ℕ) → Declared → Declared
moved_declared f d = record { span = moved_span f d.span; declarator = moved_declarator f d.declarator; initialiser = moved_initialiser f d.initialiser }

abbrev pub moved_decl : (ℕ → ℕ) → decls.Decl → decls.Decl
moved_decl f d = record { span = moved_span f d.span; base = moved_base f d.base; items = map (moved_declared f) d.items }

-- ---- statements

abbrev pub moved_simple : (ℕ → ℕ) → deed.Simple → deed.Simple
moved_simple f (act.Assign at a x) = act.Assign (moved_span f at) (moved_expr f a) (moved_expr f x)
moved_simple f (act.Change at a op x) = act.Change (moved_span f at) (moved_expr f a) op (moved_expr f x)
moved_simple f (act.Step at a up) = act.Step (moved_span f at) (moved_expr f a) up
moved_simple f (act.Call at a) = act.Call (moved_span f at) (moved_expr f a)

abbrev pub moved_opening : (ℕ → ℕ) → Opening → Opening
moved_opening f opening.Nothing = opening.Nothing
moved_opening f (opening.Simple x) = opening.Simple (moved_simple f x)
moved_opening f (opening.Decl d) = opening.Decl (moved_decl f d)

abbrev mutual
  pub moved_stmt : (ℕ → ℕ) → Stmt → Stmt
  moved_stmt f (Empty at) = s.Empty (moved_span f at)
  moved_stmt f (Block' at sh row) = s.Block (moved_span f at) (moved_row f row)
  moved_stmt f (Decl d) = s.Decl (moved_decl f d)
  moved_stmt f (Simple at x) = s.Simple (moved_span f at) (moved_simple f x)
  moved_stmt f (If' at c sh (more_of-Stmt a end_of-Stmt)) = s.If (moved_span f at) (moved_expr f c) (moved_stmt f a)
  moved_stmt f (IfElse' at c sh (more_of-Stmt a end_of-Stmt) sh2 (more_of-Stmt b end_of-Stmt)) = s.IfElse (moved_span f at) (moved_expr f c) (moved_stmt f a) (moved_stmt f b)
  moved_stmt f (While' at c sh (more_of-Stmt a end_of-Stmt)) = s.While (moved_span f at) (moved_expr f c) (moved_stmt f a)
  moved_stmt f (Do' at sh (more_of-Stmt a end_of-Stmt) c) = s.Do (moved_span f at) (moved_stmt f a) (moved_expr f c)
  moved_stmt f (For' at o c x sh (more_of-Stmt a end_of-Stmt)) = s.For (moved_span f at) (moved_opening f o) (option_map (moved_expr f) c) (option_map (moved_simple f) x) (moved_stmt f a)
  moved_stmt f (Break at) = s.Break (moved_span f at)
  moved_stmt f (Continue at) = s.Continue (moved_span f at)
  moved_stmt f (Return at a) = s.Return (moved_span f at) (option_map (moved_expr f) a)
  moved_stmt f (Read at a) = s.Read (moved_span f at) (moved_expr f a)
  moved_stmt f (Print at format a) = s.Print (moved_span f at) format (moved_expr f a)

  pub moved_row : (ℕ → ℕ) → {n : _} → Row_of-Stmt n → List Stmt
  moved_row f end_of-Stmt = []
  moved_row f (more_of-Stmt a rest) = moved_stmt f a ∷ moved_row f rest

-- ---- sources

abbrev pub moved_returns : (ℕ → ℕ) → Returns → Returns
moved_returns f (returns.Void at) = returns.Void (moved_span f at)
moved_returns f (returns.Of base) = returns.Of (moved_base f base)

abbrev pub moved_param : (ℕ → ℕ) → Param → Param
moved_param f p = record { span = moved_span f p.span; base = moved_base f p.base; stars = p.stars; name = option_map (moved_name f) p.name; sizes = map (moved_size f) p.sizes }

abbrev pub moved_head : (ℕ → ℕ) → Head → Head
moved_head f h = record { span = moved_span f h.span; returns = moved_returns f h.returns; stars = h.stars; name = moved_name f h.name; params = map (moved_param f) h.params }

abbrev pub moved_members : (ℕ → ℕ) → Members → Members
moved_members f m = record { span = moved_span f m.span; base = moved_base f m.base; items = map (moved_declarator f) m.items }

abbrev pub moved_part : (ℕ → ℕ) → Part → Part
moved_part f (part.Struct at x ms) = part.Struct (moved_span f at) (moved_name f x) (map (moved_members f) ms)
moved_part f (part.Decl d) = part.Decl (moved_decl f d)
moved_part f (part.Function at h items) = part.Function (moved_span f at) (moved_head f h) (map (moved_stmt f) items)
moved_part f (part.Prototype at h) = part.Prototype (moved_span f at) (moved_head f h)

abbrev pub moved_tree : (ℕ → ℕ) → Tree → Tree
moved_tree f tree = record { span = moved_span f tree.span; parts = map (moved_part f) tree.parts }
