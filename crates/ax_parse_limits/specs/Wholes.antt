-- The parts of a source that the rule `expr` spells, each with its tokens, in source order; and the first that is too large.
use Rattle.std.specs.Prelude.{ℕ, nat_lt, Bool, if◌then◌else◌, List, [], ◌∷◌, ◌++◌, Option, Some, None}
use Rattle.ax_prog.specs.declared.tokens.Token.{Token}
use Rattle.ax_parse_grammar.specs.declared.tree.Expr.{Expr}
use Rattle.ax_parse_grammar.specs.declared.tree.Declared.{Declared}
use Rattle.ax_parse_grammar.specs.declared.tree.Decl.{Decl}
use Rattle.ax_parse_grammar.specs.declared.tree.Simple.{Simple}
use Rattle.ax_parse_grammar.specs.declared.tree.Opening.{Opening}
use Rattle.ax_parse_grammar.specs.declared.tree.Stmt.{Stmt}
use Rattle.ax_parse_grammar.specs.declared.tree.Part.{Part}
use Rattle.ax_parse_grammar.specs.declared.tree.Tree.{Tree}
use Rattle.ax_parse_grammar.specs.Expressions.{Spells, SpellArgs, SpellMany}
use Rattle.ax_parse_grammar.specs.Declarations.{SpellAll, SpellSeparated, SpellsDeclared, SpellsDecl}
use Rattle.ax_parse_grammar.specs.Statements.{SpellsSimple, SpellsOpening, SpellsMaybe, SpellsStmt, SpellItems}
use Rattle.ax_parse_grammar.specs.Sources.{SpellsPart, SpellsTree}
use Rattle.ax_parse_limits.specs.Nodes.{nodes}

-- a part that the rule `expr` spells
abbrev pub Whole : Type 0
Whole = Expr × List Token

-- ---- by the rules of the grammar

abbrev mutual
  pub in_expr : {l : ℕ} {x : Expr} {ts : List Token} → Spells l x ts → List Whole
  in_expr (Spells.name t h) = []
  in_expr (Spells.number t h) = []
  in_expr (Spells.parens {x = x} {ts = ts} a b g h s) = (x, ts) ∷ in_expr s
  in_expr (Spells.index {i = i} {us = us} a b le g h s r) = in_expr s ++ (i, us) ∷ in_expr r
  in_expr (Spells.member dot t le g h s) = in_expr s
  in_expr (Spells.arrow mark t le g h s) = in_expr s
  in_expr (Spells.call a b le g h s r) = in_expr s ++ in_args r
  in_expr (Spells.unary t le h s) = in_expr s
  in_expr (Spells.binary t le h s r) = in_expr s ++ in_expr r
  in_expr (Spells.cond {a = a} {b = b} {then = ts} {else = us} q c g h s r p) = in_expr s ++ (a, ts) ∷ (in_expr r ++ (b, us) ∷ in_expr p)

  pub in_args : {xs : List Expr} {ts : List Token} → SpellArgs xs ts → List Whole
  in_args SpellArgs.nothing = []
  in_args (SpellArgs.some s) = in_many s

  pub in_many : {xs : List Expr} {ts : List Token} → SpellMany xs ts → List Whole
  in_many (SpellMany.one {x = x} {ts = ts} s) = (x, ts) ∷ in_expr s
  in_many (SpellMany.more {x = x} {ts = ts} comma g s r) = (x, ts) ∷ (in_expr s ++ in_many r)

-- an expression with its own parts
abbrev pub whole : {x : Expr} {ts : List Token} → Spells 0 x ts → List Whole
whole {x = x} {ts = ts} s = (x, ts) ∷ in_expr s

abbrev pub in_all : {A : Type 0} {P : A → List Token → Type 0} → ((x : A) (ts : List Token) → P x ts → List Whole) → {xs : List A} {ts : List Token} → SpellAll P xs ts → List Whole
in_all f SpellAll.none = []
in_all f (SpellAll.more {x = x} {ts = ts} s r) = f x ts s ++ in_all f r

abbrev pub in_separated : {A : Type 0} {P : A → List Token → Type 0} → ((x : A) (ts : List Token) → P x ts → List Whole) → {xs : List A} {ts : List Token} → SpellSeparated P xs ts → List Whole
in_separated f (SpellSeparated.one {x = x} {ts = ts} s) = f x ts s
in_separated f (SpellSeparated.more {x = x} {ts = ts} comma g s r) = f x ts s ++ in_separated f r

abbrev pub in_maybe : {A : Type 0} {P : A → List Token → Type 0} → ((x : A) (ts : List Token) → P x ts → List Whole) → {x : Option A} {ts : List Token} → SpellsMaybe P x ts → List Whole
in_maybe f SpellsMaybe.nothing = []
in_maybe f (SpellsMaybe.some {x = x} {ts = ts} s) = f x ts s

abbrev pub in_declared : {d : Declared} {ts : List Token} → SpellsDeclared d ts → List Whole
in_declared (SpellsDeclared.plain s) = []
in_declared (SpellsDeclared.value mark g s r) = whole r
in_declared (SpellsDeclared.list mark a b g h l s r) = []

abbrev pub in_decl : {d : Decl} {ts : List Token} → SpellsDecl d ts → List Whole
in_decl (SpellsDecl.decl last g b s) = in_separated (λ d ts s. in_declared s) s

abbrev pub in_simple : {x : Simple} {ts : List Token} → SpellsSimple x ts → List Whole
in_simple (SpellsSimple.assign mark g s r) = in_expr s ++ whole r
in_simple (SpellsSimple.change mark g s r) = in_expr s ++ whole r
in_simple (SpellsSimple.behind mark g s) = in_expr s
in_simple (SpellsSimple.before mark g s) = in_expr s
in_simple (SpellsSimple.call a b g h s r) = in_expr s ++ in_args r

abbrev pub in_opening : {o : Opening} {ts : List Token} → SpellsOpening o ts → List Whole
in_opening (SpellsOpening.nothing last g) = []
in_opening (SpellsOpening.simple last g s) = in_simple s
in_opening (SpellsOpening.decl s) = in_decl s

abbrev mutual
  pub in_stmt : {f : Bool} {x : Stmt} {ts : List Token} → SpellsStmt f x ts → List Whole
  in_stmt (SpellsStmt.empty t g) = []
  in_stmt (SpellsStmt.block a b g h s) = in_items s
  in_stmt (SpellsStmt.simple last g s) = in_simple s
  in_stmt (SpellsStmt.lone_if t a b f g h s r) = whole s ++ in_stmt r
  in_stmt (SpellsStmt.if_else t a b u f g h l s r p) = whole s ++ (in_stmt r ++ in_stmt p)
  in_stmt (SpellsStmt.while t a b f g h s r) = whole s ++ in_stmt r
  in_stmt (SpellsStmt.do_while t u a b end f g h l q r s) = in_stmt r ++ whole s
  in_stmt (SpellsStmt.for t a b c f g h l o s p r) = in_opening o ++ (in_maybe (λ x ts s. whole s) s ++ (in_maybe (λ x ts s. in_simple s) p ++ in_stmt r))
  in_stmt (SpellsStmt.break t last g h) = []
  in_stmt (SpellsStmt.continue t last g h) = []
  in_stmt (SpellsStmt.return t last g h s) = in_maybe (λ x ts s. whole s) s
  in_stmt (SpellsStmt.read t start end g h l s) = in_expr s
  in_stmt (SpellsStmt.print t a format comma end f g h l q s) = whole s

  pub in_items : {xs : List Stmt} {ts : List Token} → SpellItems xs ts → List Whole
  in_items SpellItems.none = []
  in_items (SpellItems.decl_item s r) = in_decl s ++ in_items r
  in_items (SpellItems.stmt_item s r) = in_stmt s ++ in_items r

abbrev pub in_part : {x : Part} {ts : List Token} → SpellsPart x ts → List Whole
in_part (SpellsPart.struct s t a end f g h l r) = []
in_part (SpellsPart.decl s) = in_decl s
in_part (SpellsPart.function a b g h s r) = in_items r
in_part (SpellsPart.prototype last g s) = []

-- the parts of a source that the rule `expr` spells
abbrev pub wholes : {t : Tree} {ts : List Token} → SpellsTree t ts → List Whole
wholes (SpellsTree.tree s) = in_all (λ x ts s. in_part s) s

-- ---- the first that is too large

abbrev pub start_of : List Token → ℕ
start_of [] = 0
start_of (t ∷ ts) = t.span.from

-- the start of the first part with more than 400 nodes
abbrev pub first_large : List Whole → Option ℕ
first_large [] = None
first_large (w ∷ ws) = if nat_lt 400 (nodes w.0) then Some (start_of w.1) else first_large ws
