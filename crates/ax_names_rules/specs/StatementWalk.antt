-- What declarations and statements become, or their first fault, as functions; the laws say what these have to do with the rules.
use Rattle.std.specs.Prelude.{ℕ, nat_le, ℤ, neg_ℤ, Bool, true, false, if◌then◌else◌, is_some, List, [], ◌∷◌, ◌++◌, length, map, drop, Option, Some, None, Ok, Err}
use Rattle.ax_prog.specs.declared.Span.{Span}
use Rattle.ax_prog.specs.declared.Ty.{Ty, Ptr', Array', more_of-Ty, end_of-Ty}
use Rattle.ax_prog.specs.declared.Ty.TheVariants as ty
use Rattle.ax_prog.specs.declared.Bin.{Bin}
use Rattle.ax_prog.specs.declared.Bin.TheVariants as bin
use Rattle.ax_prog.specs.declared.SlotId.{SlotId}
use Rattle.ax_prog.specs.declared.Lval.{Lval}
use Rattle.ax_prog.specs.declared.Pexpr.TheVariants as p
use Rattle.ax_prog.specs.declared.Value.{Value}
use Rattle.ax_prog.specs.declared.Value.TheVariants as value
use Rattle.ax_prog.specs.declared.Init.{Init}
use Rattle.ax_prog.specs.declared.Init.TheVariants as init
use Rattle.ax_prog.specs.declared.Stmt as ps
use Rattle.ax_prog.specs.declared.Stmt.TheVariants as to
use Rattle.ax_parse_grammar.specs.declared.tree.Name as word
use Rattle.ax_parse_grammar.specs.declared.tree.Prefix.TheVariants as pre
use Rattle.ax_parse_grammar.specs.declared.tree.Expr.{Expr, Number, Unary'}
use Rattle.ax_parse_grammar.specs.declared.tree.Expr.TheBlock.{more_of-Expr, end_of-Expr}
use Rattle.ax_parse_grammar.specs.declared.tree.Base.{Base}
use Rattle.ax_parse_grammar.specs.declared.tree.Signed.{Signed}
use Rattle.ax_parse_grammar.specs.declared.tree.Initialiser.{Initialiser}
use Rattle.ax_parse_grammar.specs.declared.tree.Initialiser.TheVariants as by
use Rattle.ax_parse_grammar.specs.declared.tree.Declared.{Declared}
use Rattle.ax_parse_grammar.specs.declared.tree.Simple as deed
use Rattle.ax_parse_grammar.specs.declared.tree.Simple.TheVariants as act
use Rattle.ax_parse_grammar.specs.declared.tree.Opening.{Opening}
use Rattle.ax_parse_grammar.specs.declared.tree.Opening.TheVariants as opening
use Rattle.ax_parse_grammar.specs.declared.tree.Stmt.{Stmt, Empty, Block', Decl, Simple, If', IfElse', While', Do', For', Break, Continue, Return, Read, Print}
use Rattle.ax_parse_grammar.specs.declared.tree.Stmt.TheBlock.{Row_of-Stmt, more_of-Stmt, end_of-Stmt}
use Rattle.ax_parse_grammar.specs.Trees.{span_of}
use Rattle.ax_names_types.specs.declared.TypeKind.TheVariants.{Redeclared, WrongType, WrongCount, Misplaced}
use Rattle.ax_names_types.specs.Faults.{fault, Verdict}
use Rattle.ax_names_types.specs.Scopes.{innermost}
use Rattle.ax_names_types.specs.Types.{is_zero}
use Rattle.ax_names_types.specs.Verdicts.{both}
use Rattle.ax_names_declared.specs.Cells.{measured}
use Rattle.ax_names_declared.specs.Verdicts.{object}
use Rattle.ax_names_rules.specs.declared.State.{State}
use Rattle.ax_names_rules.specs.States.{next_var, with_var, depth, leaving}
use Rattle.ax_names_rules.specs.Declarations.{signed_value, sizes_of, with_global}
use Rattle.ax_names_rules.specs.ValueWalk.{Made, ◌>>=◌, slot_of, call_of, given_for, target_of}

-- ---- declarations

-- the name is new in the scope that begins behind so many names
abbrev pub new_name : ℕ → State → word.Name → Verdict (List ℕ)
new_name floor st x = if is_some (innermost x.text (drop floor st.names)) then Err (fault Redeclared x.span) else Ok x.text

abbrev pub fits_list : Span → ℕ → List Signed → Verdict Init
fits_list at n xs = if nat_le (length xs) n then Ok (init.List (map signed_value xs)) else Err (fault WrongCount at)

abbrev pub list_for : Ty → Span → List Signed → Verdict Init
list_for (Array' s (more_of-Ty ty.Int end_of-Ty) n) at xs = fits_list at n xs
list_for _ at xs = Err (fault WrongType at)

abbrev pub initial_of : List (List ℕ) → Ty → Span → Initialiser → State → Made Init
initial_of defs u at by.Nothing st = Ok (init.Nothing, st)
initial_of defs u at (by.Value a) st = given_for defs u at st a >>= λ r. Ok (init.Value r.0, r.1)
initial_of defs u at (by.List at2 xs) st = list_for u at xs >>= λ v. Ok (v, st)

-- the type of what is declared
abbrev pub type_of : State → Base → Declared → Verdict Ty
type_of st base d = object st.structs (measured st.structs) base (d.declarator).stars (sizes_of d) (d.declarator).span

abbrev pub begun : List (List ℕ) → State → Declared → Ty → Made Init
begun defs st d u = initial_of defs u (d.declarator).span d.initialiser (with_var st (d.declarator).name.text u)

-- the name is judged beside the type and what the variable begins with
abbrev pub var_of : List (List ℕ) → ℕ → Base → Declared → State → Made ps.Stmt
var_of defs floor base d st = both (λ x r. Ok (to.Decl (next_var st) r.0, r.1)) (new_name floor st (d.declarator).name) (type_of st base d >>= begun defs st d)

abbrev pub vars_of : List (List ℕ) → ℕ → Base → List Declared → State → Made (List ps.Stmt)
vars_of defs floor base [] st = Ok ([], st)
vars_of defs floor base (d ∷ rest) st = var_of defs floor base d st >>= λ r. vars_of defs floor base rest r.1 >>= λ q. Ok (r.0 ∷ q.0, q.1)

-- ---- globals

abbrev pub literal_of : Expr → Option ℤ
literal_of (Number at n) = Some n
literal_of (Unary' at pre.Neg s (more_of-Expr (Number at2 n) end_of-Expr)) = Some (neg_ℤ n)
literal_of _ = None

abbrev pub number_from : Span → Option ℤ → Verdict Init
number_from at None = Err (fault WrongType at)
number_from at (Some n) = Ok (init.List (n ∷ []))

abbrev pub literal_for : Ty → Span → Expr → Verdict Init
literal_for ty.Int at a = number_from at (literal_of a)
literal_for (Ptr' s row) at a = if is_zero a then Ok (init.Value (value.Ptr p.Null)) else Err (fault WrongType at)
literal_for (Array' s row n) at a = Err (fault WrongType at)
literal_for (ty.Struct k) at a = Err (fault WrongType at)

abbrev pub global_initial : Ty → Span → Initialiser → Verdict Init
global_initial u at by.Nothing = Ok init.Nothing
global_initial u at (by.Value a) = literal_for u at a
global_initial u at (by.List at2 xs) = list_for u at xs

abbrev pub global_of : Base → Declared → State → Verdict State
global_of base d st = both (λ (x : List ℕ) (g : Ty × Init). Ok (with_global st x g.0 g.1)) (new_name 0 st (d.declarator).name) (type_of st base d >>= λ u. global_initial u (d.declarator).span d.initialiser >>= λ v. Ok (u, v))

abbrev pub globals_of : Base → List Declared → State → Verdict State
globals_of base [] st = Ok st
globals_of base (d ∷ rest) st = global_of base d st >>= globals_of base rest

-- ---- simple statements

abbrev pub is_changed_by : Bin → Ty → Bool
is_changed_by op ty.Int = true
is_changed_by bin.Add (Ptr' s row) = true
is_changed_by bin.Sub (Ptr' s row) = true
is_changed_by op _ = false

abbrev pub changed_by : Bin → Span → Ty × Lval → Verdict Lval
changed_by op at l = if is_changed_by op l.0 then Ok l.1 else Err (fault WrongType at)

abbrev pub simple_of : List (List ℕ) → deed.Simple → State → Made ps.Stmt
simple_of defs (act.Assign at a b) st = target_of st a >>= λ l. given_for defs l.0 at st b >>= λ r. Ok (to.Assign l.1 r.0, r.1)
simple_of defs (act.Change at a op b) st = target_of st a >>= changed_by op (span_of a) >>= λ l. slot_of st b >>= λ r. Ok (to.Change l op r.0, r.1)
simple_of defs (act.Step at a up) st = target_of st a >>= changed_by bin.Add (span_of a) >>= λ l. Ok (to.Bump l up, st)
simple_of defs (act.Call at a) st = call_of defs st a >>= λ r. Ok (to.Call ((r.0).1).0 ((r.0).1).1, r.1)

abbrev pub opening_of : List (List ℕ) → Opening → State → Made (List ps.Stmt)
opening_of defs opening.Nothing st = Ok ([], st)
opening_of defs (opening.Simple x) st = simple_of defs x st >>= λ r. Ok (r.0 ∷ [], r.1)
opening_of defs (opening.Decl d) st = vars_of defs (depth st) d.base d.items st

abbrev pub test_of : Option Expr → State → Made (Option SlotId)
test_of None st = Ok (None, st)
test_of (Some a) st = slot_of st a >>= λ r. Ok (Some r.0, r.1)

abbrev pub step_of : List (List ℕ) → Option deed.Simple → State → Made (Option ps.Stmt)
step_of defs None st = Ok (None, st)
step_of defs (Some x) st = simple_of defs x st >>= λ r. Ok (Some r.0, r.1)

abbrev pub return_of : List (List ℕ) → Option Ty → Span → Option Expr → State → Made (Option Value)
return_of defs None at None st = Ok (None, st)
return_of defs None at (Some a) st = Err (fault WrongType at)
return_of defs (Some u) at None st = Err (fault WrongType at)
return_of defs (Some u) at (Some a) st = given_for defs u at st a >>= λ r. Ok (Some r.0, r.1)

abbrev pub read_for : Span → Ty × Lval → State → Made ps.Stmt
read_for at (ty.Int, l) st = Ok (to.Read l, st)
read_for at _ st = Err (fault WrongType at)

-- ---- statements

abbrev pub Making : Type 0 → Type 0
Making A = State → Made A

abbrev pub if_of : Expr → Making ps.Stmt → Making ps.Stmt
if_of c a st = slot_of st c >>= λ i. a i.1 >>= λ r. Ok (to.If i.0 r.0 None, r.1)

abbrev pub if_else_of : Expr → Making ps.Stmt → Making ps.Stmt → Making ps.Stmt
if_else_of c a b st = slot_of st c >>= λ i. a i.1 >>= λ r. b r.1 >>= λ q. Ok (to.If i.0 r.0 (Some q.0), q.1)

abbrev pub while_of : Expr → Making ps.Stmt → Making ps.Stmt
while_of c a st = slot_of st c >>= λ i. a i.1 >>= λ r. Ok (to.While i.0 r.0, r.1)

abbrev pub do_of : Expr → Making ps.Stmt → Making ps.Stmt
do_of c a st = a st >>= λ r. slot_of r.1 c >>= λ i. Ok (to.Do r.0 i.0, i.1)

abbrev pub for_of : List (List ℕ) → Opening → Option Expr → Option deed.Simple → Making ps.Stmt → Making ps.Stmt
for_of defs o c x a st = opening_of defs o st >>= λ b. test_of c b.1 >>= λ i. step_of defs x i.1 >>= λ y. a y.1 >>= λ r. Ok (to.For b.0 i.0 y.0 r.0, leaving (depth st) r.1)

abbrev pub block_of : Making (List ps.Stmt) → Making ps.Stmt
block_of all st = all st >>= λ r. Ok (to.Block r.0, leaving (depth st) r.1)

abbrev pub in_loop : Bool → Span → ps.Stmt → Making ps.Stmt
in_loop inside at b st = if inside then Ok (b, st) else Err (fault Misplaced at)

abbrev pub followed_by : Made (List ps.Stmt) → Making (List ps.Stmt) → Made (List ps.Stmt)
followed_by a rest = a >>= λ r. rest r.1 >>= λ q. Ok (r.0 ++ q.0, q.1)

abbrev pub alone : Made ps.Stmt → Made (List ps.Stmt)
alone a = a >>= λ r. Ok (r.0 ∷ [], r.1)

-- a declaration makes a statement for each of its declarators
abbrev pub item_by : List (List ℕ) → ℕ → Stmt → Making ps.Stmt → Making (List ps.Stmt)
item_by defs floor (Decl d) make st = vars_of defs floor d.base d.items st
item_by defs floor x make st = alone (make st)

abbrev mutual
  pub stmt_of : List (List ℕ) → Option Ty → Bool → Stmt → State → Made ps.Stmt
  stmt_of defs result f (Empty at) st = Ok (to.Empty, st)
  stmt_of defs result f (Block' at s row) st = block_of (row_of defs result f (depth st) row) st
  stmt_of defs result f (Decl d) st = Err (fault Misplaced d.span)
  stmt_of defs result f (Simple at x) st = simple_of defs x st
  stmt_of defs result f (If' at c s (more_of-Stmt a end_of-Stmt)) st = if_of c (stmt_of defs result f a) st
  stmt_of defs result f (IfElse' at c s (more_of-Stmt a end_of-Stmt) s2 (more_of-Stmt b end_of-Stmt)) st = if_else_of c (stmt_of defs result f a) (stmt_of defs result f b) st
  stmt_of defs result f (While' at c s (more_of-Stmt a end_of-Stmt)) st = while_of c (stmt_of defs result true a) st
  stmt_of defs result f (Do' at s (more_of-Stmt a end_of-Stmt) c) st = do_of c (stmt_of defs result true a) st
  stmt_of defs result f (For' at o c x s (more_of-Stmt a end_of-Stmt)) st = for_of defs o c x (stmt_of defs result true a) st
  stmt_of defs result f (Break at) st = in_loop f at to.Break st
  stmt_of defs result f (Continue at) st = in_loop f at to.Continue st
  stmt_of defs result f (Return at a) st = return_of defs result at a st >>= λ r. Ok (to.Return r.0, r.1)
  stmt_of defs result f (Read at a) st = target_of st a >>= λ l. read_for (span_of a) l st
  stmt_of defs result f (Print at format a) st = slot_of st a >>= λ r. Ok (to.Print r.0, r.1)

  pub row_of : List (List ℕ) → Option Ty → Bool → ℕ → {n : _} → Row_of-Stmt n → State → Made (List ps.Stmt)
  row_of defs result f floor end_of-Stmt st = Ok ([], st)
  row_of defs result f floor (more_of-Stmt a rest) st = followed_by (item_by defs floor a (stmt_of defs result f a) st) (row_of defs result f floor rest)

-- the items of a list
abbrev pub items_of : List (List ℕ) → Option Ty → Bool → ℕ → List Stmt → Making (List ps.Stmt)
items_of defs result f floor [] st = Ok ([], st)
items_of defs result f floor (a ∷ rest) st = followed_by (item_by defs floor a (stmt_of defs result f a) st) (items_of defs result f floor rest)
