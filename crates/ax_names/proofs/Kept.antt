-- The structs stay as they are along values, declarations and statements.
use Rattle.std.proofs.Common.{◌≡◌, ℕ, Bool, true, false, if◌then◌else◌, List, [], ◌∷◌, length, nat_eq, Option, Some, None, Result, Ok, Err, refl, sym, ◌∙◌, ap, subst}
use Rattle.std.specs.Prelude.{OnOk}
use Rattle.ax_prog.specs.declared.Span.{Span}
use Rattle.ax_prog.specs.declared.Ty.{Ty, Ptr', Array', more_of-Ty, end_of-Ty}
use Rattle.ax_prog.specs.declared.Ty.TheVariants as ty
use Rattle.ax_prog.specs.declared.Bin.TheVariants as bin
use Rattle.ax_prog.specs.declared.FunId.{FunId}
use Rattle.ax_prog.specs.declared.Expr as ex
use Rattle.ax_prog.specs.declared.Atom.{Atom}
use Rattle.ax_prog.specs.declared.Pexpr.{Pexpr}
use Rattle.ax_prog.specs.declared.Value.{Value}
use Rattle.ax_prog.specs.declared.Value.TheVariants as value
use Rattle.ax_prog.specs.declared.Init.{Init}
use Rattle.ax_prog.specs.declared.Stmt as ps
use Rattle.ax_prog.specs.declared.Stmt.TheVariants as to
use Rattle.ax_parse_grammar.specs.declared.tree.Expr.{Expr, Name, Number, Unary', Binary', Cond', Index', Member', Arrow', Call'}
use Rattle.ax_parse_grammar.specs.declared.tree.Expr.TheBlock.{more_of-Expr, end_of-Expr, shown-the_row-Expr-1}
use Rattle.ax_parse_grammar.specs.declared.tree.Base.{Base}
use Rattle.ax_parse_grammar.specs.declared.tree.Declared.{Declared}
use Rattle.ax_parse_grammar.specs.declared.tree.Initialiser.{Initialiser}
use Rattle.ax_parse_grammar.specs.declared.tree.Initialiser.TheVariants as by
use Rattle.ax_parse_grammar.specs.declared.tree.Simple as deed
use Rattle.ax_parse_grammar.specs.declared.tree.Simple.TheVariants as act
use Rattle.ax_parse_grammar.specs.declared.tree.Opening.{Opening}
use Rattle.ax_parse_grammar.specs.declared.tree.Opening.TheVariants as opening
use Rattle.ax_parse_grammar.specs.declared.tree.Stmt.{Stmt, Empty, Block', Decl, Simple, If', IfElse', While', Do', For', Break, Continue, Return, Read, Print}
use Rattle.ax_parse_grammar.specs.declared.tree.Stmt.TheBlock.{Row_of-Stmt, more_of-Stmt, end_of-Stmt}
use Rattle.ax_parse_grammar.specs.Trees.{span_of}
use Rattle.ax_names_types.specs.declared.Typed.{Typed}
use Rattle.ax_names_types.specs.declared.Typed.TheVariants as t
use Rattle.ax_names_types.specs.declared.TypeKind.TheVariants.{WrongType, WrongCount, Misplaced}
use Rattle.ax_names_types.specs.Faults.{fault, Verdict}
use Rattle.ax_names_types.specs.Scopes.{innermost}
use Rattle.ax_names_types.specs.Types.{value_of, is_zero, is_call}
use Rattle.ax_names_types.specs.Verdicts.{both, same_ty, verdict_of}
use Rattle.ax_names_declared.specs.Cells.{measured}
use Rattle.ax_names_rules.specs.declared.Signature.{Signature}
use Rattle.ax_names_rules.specs.declared.State.{State}
use Rattle.ax_names_rules.specs.States.{here, with_var}
use Rattle.ax_names_rules.specs.Declarations.{with_global}
use Rattle.ax_names_rules.specs.Values.{function_at}
use Rattle.ax_names_rules.specs.ValueWalk.{Made, Called, ◌>>=◌, number_of, slot_of, number_for, pointer_for, suited, value_for, args_of, entity_of, head_of, defined_at, with_args, called, no_callee, callee_of, call_of, gives, given_by, given_for, target_of}
use Rattle.ax_names_given.specs.declared.stops.Stop.{Stop}
use Rattle.ax_names_given.specs.Made.{IsMade}
use Rattle.ax_names.specs.Answers.{prefixed, typed_global, header_of}
use Rattle.ax_names_rules.specs.StatementWalk.{new_name, list_for, initial_of, type_of, begun, var_of, vars_of, global_of, globals_of, changed_by, simple_of, opening_of, test_of, step_of, return_of, read_for, Making, if_of, if_else_of, while_of, do_of, for_of, followed_by, alone, item_by, stmt_of, row_of, items_of}

-- the state behind what is made has the structs of this one
abbrev pub Keeps : {A : Type 0} → State → Made A → Type 0
Keeps st (Ok r) = (r.1).structs ≡ st.structs
Keeps st (Err f) = Unit {0}

pub kept : {A : Type 0} (st st2 : State) (w : Made A) (v : A) → Keeps st w → w ≡ Ok (v, st2) → st2.structs ≡ st.structs
kept {A} st st2 w v h e = subst (λ (w : Made A). Keeps st w) e h

-- so the numbers of their cells stay
pub still : {A : Type 0} (cells : List ℕ) (st st2 : State) (w : Made A) (v : A) → Keeps st w → w ≡ Ok (v, st2) → cells ≡ measured st.structs → cells ≡ measured st2.structs
still cells st st2 w v h e m = m ∙ ap measured (sym (kept st st2 w v h e))

-- the same of what the code made
pub made_kept : {A : Type 0} (w : Made A) (r : Result A Stop) (st st2 : State) → Keeps st w → IsMade w r st2 → OnOk r (st2.structs ≡ st.structs)
made_kept w (Ok v) st st2 h e = kept st st2 w v h e
made_kept w (Err stop) st st2 h e = tt

bind_keeps : {A B : Type 0} (st : State) (v : Made A) (k : A × State → Made B) → Keeps st v → ((r : A × State) → (r.1).structs ≡ st.structs → Keeps st (k r)) → Keeps st (v >>= k)
bind_keeps st (Ok r) k h g = g r h
bind_keeps st (Err f) k h g = tt

found_keeps : {A B : Type 0} (st : State) (v : Verdict A) (k : A → Made B) → ((a : A) → Keeps st (k a)) → Keeps st (v >>= k)
found_keeps st (Ok a) k g = g a
found_keeps st (Err f) k g = tt

both_keeps : {X A B : Type 0} (st : State) (k : X → A × State → Made B) (n : Verdict X) (w : Made A) → Keeps st w → ((x : X) (r : A × State) → (r.1).structs ≡ st.structs → Keeps st (k x r)) → Keeps st (both k n w)
both_keeps st k (Ok x) (Ok r) h g = g x r h
both_keeps st k (Ok x) (Err f) h g = tt
both_keeps st k (Err f) (Ok r) h g = tt
both_keeps st k (Err f) (Err e) h g = tt

if_keeps : {A : Type 0} (st : State) (b : Bool) (v w : Made A) → Keeps st v → Keeps st w → Keeps st (if b then v else w)
if_keeps st true v w h k = h
if_keeps st false v w h k = k

-- from a state with the same structs
moved : {A : Type 0} (st st2 : State) (w : Made A) → st2.structs ≡ st.structs → Keeps st2 w → Keeps st w
moved st st2 (Ok r) e h = h ∙ e
moved st st2 (Err f) e h = tt

-- ---- values

pub slot_keeps : (st : State) (a : Expr) → Keeps st (slot_of st a)
slot_keeps st a = found_keeps st (number_of st a) _ (λ n. refl)

number_keeps : (u : Ty) (at : Span) (zero : Bool) (st : State) (a : Expr) (x : ex.Expr) (atoms : List (Atom × Span)) → Keeps st (number_for u at zero st a x atoms)
number_keeps ty.Int at zero st a x atoms = refl
number_keeps (Ptr' s row) at zero st a x atoms = if_keeps st zero _ _ refl tt
number_keeps (Array' s row n) at zero st a x atoms = tt
number_keeps (ty.Struct k) at zero st a x atoms = tt

pointer_keeps : (u : Ty) (at : Span) (st : State) (v : Ty) (q : Pexpr) → Keeps st (pointer_for u at st v q)
pointer_keeps (Ptr' s (more_of-Ty u end_of-Ty)) at st v q = if_keeps st (same_ty u v) _ _ refl tt
pointer_keeps ty.Int at st v q = tt
pointer_keeps (Array' s row n) at st v q = tt
pointer_keeps (ty.Struct k) at st v q = tt

suited_keeps : (u : Ty) (at : Span) (st : State) (a : Expr) (m : Typed) → Keeps st (suited u at st a m)
suited_keeps u at st a (t.Int x atoms) = number_keeps u at (is_zero a) st a x atoms
suited_keeps u at st a (t.Ptr v q) = pointer_keeps u at st v q
suited_keeps u at st a (t.Place v l) = tt

value_keeps : (u : Ty) (at : Span) (st : State) (a : Expr) → Keeps st (value_for u at st a)
value_keeps u at st a = found_keeps st (verdict_of (here st) a) _ (λ m. suited_keeps u at st a (value_of (span_of a) m))

args_keep : (us : List Ty) (xs : List Expr) (st : State) → Keeps st (args_of us xs st)
args_keep [] xs st = refl
args_keep (u ∷ us) [] st = refl
args_keep (u ∷ us) (a ∷ rest) st =
    bind_keeps st (value_for u (span_of a) st a) _ (value_keeps u (span_of a) st a)
    (λ v e. moved st v.1 _ e (bind_keeps v.1 (args_of us rest v.1) _ (args_keep us rest v.1) (λ r e. e)))

with_args_keeps : (at : Span) (head : Signature) (j : FunId) (xs : List Expr) (st : State) → Keeps st (with_args at head j xs st)
with_args_keeps at head j xs st =
    if_keeps {A = Called} st (nat_eq (length xs) (length head.params)) (args_of head.params xs st >>= λ r. Ok ((head.result, (j, r.0)), r.1)) (Err (fault WrongCount at))
    (bind_keeps st (args_of head.params xs st) _ (args_keep head.params xs st) (λ r e. e)) tt

called_keeps : (defs : List (List ℕ)) (st : State) (at at2 : Span) (x : List ℕ) (xs : List Expr) → Keeps st (called defs st at at2 x xs)
called_keeps defs st at at2 x xs =
    found_keeps st (head_of st.heads at2 (entity_of (innermost x st.names))) _
    (λ head. found_keeps st (defined_at (function_at defs x) at2) _ (λ j. with_args_keeps at head j xs st))

nothing_called : (st : State) (a : Expr) → Keeps st (no_callee st a)
nothing_called st a = found_keeps st (verdict_of (here st) a) _ (λ m. tt)

callee_keeps : (defs : List (List ℕ)) (st : State) (at : Span) (a : Expr) (xs : List Expr) → Keeps st (callee_of defs st at a xs)
callee_keeps defs st at (Name at2 x) xs = called_keeps defs st at at2 x xs
callee_keeps defs st at (Number at2 n) xs = nothing_called st (Number at2 n)
callee_keeps defs st at (Unary' at2 op s r) xs = nothing_called st (Unary' at2 op s r)
callee_keeps defs st at (Binary' at2 op s r s2 r2) xs = nothing_called st (Binary' at2 op s r s2 r2)
callee_keeps defs st at (Cond' at2 s r s2 r2 s3 r3) xs = nothing_called st (Cond' at2 s r s2 r2 s3 r3)
callee_keeps defs st at (Index' at2 s r s2 r2) xs = nothing_called st (Index' at2 s r s2 r2)
callee_keeps defs st at (Member' at2 s r x) xs = nothing_called st (Member' at2 s r x)
callee_keeps defs st at (Arrow' at2 s r x) xs = nothing_called st (Arrow' at2 s r x)
callee_keeps defs st at (Call' at2 s r s2 r2) xs = nothing_called st (Call' at2 s r s2 r2)

call_keeps : (defs : List (List ℕ)) (st : State) (a : Expr) → Keeps st (call_of defs st a)
call_keeps defs st (Call' at s (more_of-Expr a end_of-Expr) s2 row) = callee_keeps defs st at a (shown-the_row-Expr-1 s2 row)
call_keeps defs st (Name at x) = tt
call_keeps defs st (Number at n) = tt
call_keeps defs st (Unary' at op s r) = tt
call_keeps defs st (Binary' at op s r s2 r2) = tt
call_keeps defs st (Cond' at s r s2 r2 s3 r3) = tt
call_keeps defs st (Index' at s r s2 r2) = tt
call_keeps defs st (Member' at s r x) = tt
call_keeps defs st (Arrow' at s r x) = tt

given_keeps : (defs : List (List ℕ)) (u : Ty) (at : Span) (st : State) (a : Expr) → Keeps st (given_for defs u at st a)
given_keeps defs u at st a =
    if_keeps {A = Value} st (is_call a) (given_by u at (call_of defs st a)) (value_for u at st a)
    (bind_keeps st (call_of defs st a) _ (call_keeps defs st a) (λ r e. if_keeps {A = Value} st (gives u (r.0).0) (Ok (value.Call ((r.0).1).0 ((r.0).1).1, r.1)) (Err (fault WrongType at)) e tt))
    (value_keeps u at st a)

-- ---- declarations

initial_keeps : (defs : List (List ℕ)) (u : Ty) (at : Span) (i : Initialiser) (st : State) → Keeps st (initial_of defs u at i st)
initial_keeps defs u at by.Nothing st = refl
initial_keeps defs u at (by.Value a) st = bind_keeps st (given_for defs u at st a) _ (given_keeps defs u at st a) (λ r e. e)
initial_keeps defs u at (by.List at2 xs) st = found_keeps st (list_for u at xs) _ (λ v. refl)

begun_keeps : (defs : List (List ℕ)) (st : State) (d : Declared) (u : Ty) → Keeps st (begun defs st d u)
begun_keeps defs st d u = initial_keeps defs u (d.declarator).span d.initialiser (with_var st (d.declarator).name.text u)

pub var_keeps : (defs : List (List ℕ)) (floor : ℕ) (base : Base) (d : Declared) (st : State) → Keeps st (var_of defs floor base d st)
var_keeps defs floor base d st =
    both_keeps st _ (new_name floor st (d.declarator).name) (type_of st base d >>= begun defs st d) (found_keeps st (type_of st base d) _ (begun_keeps defs st d)) (λ x r e. e)

pub vars_keep : (defs : List (List ℕ)) (floor : ℕ) (base : Base) (ds : List Declared) (st : State) → Keeps st (vars_of defs floor base ds st)
vars_keep defs floor base [] st = refl
vars_keep defs floor base (d ∷ rest) st =
    bind_keeps st (var_of defs floor base d st) _ (var_keeps defs floor base d st)
    (λ r e. moved st r.1 _ e (bind_keeps r.1 (vars_of defs floor base rest r.1) _ (vars_keep defs floor base rest r.1) (λ q e. e)))

-- ---- simple statements, and heads of `for`

simple_keeps : (defs : List (List ℕ)) (x : deed.Simple) (st : State) → Keeps st (simple_of defs x st)
simple_keeps defs (act.Assign at a b) st = found_keeps st (target_of st a) _ (λ l. bind_keeps st (given_for defs l.0 at st b) _ (given_keeps defs l.0 at st b) (λ r e. e))
simple_keeps defs (act.Change at a op b) st = found_keeps st (target_of st a >>= changed_by op (span_of a)) _ (λ l. bind_keeps st (slot_of st b) _ (slot_keeps st b) (λ r e. e))
simple_keeps defs (act.Step at a up) st = found_keeps st (target_of st a >>= changed_by bin.Add (span_of a)) _ (λ l. refl)
simple_keeps defs (act.Call at a) st = bind_keeps st (call_of defs st a) _ (call_keeps defs st a) (λ r e. e)

opening_keeps : (defs : List (List ℕ)) (o : Opening) (st : State) → Keeps st (opening_of defs o st)
opening_keeps defs opening.Nothing st = refl
opening_keeps defs (opening.Simple x) st = bind_keeps st (simple_of defs x st) _ (simple_keeps defs x st) (λ r e. e)
opening_keeps defs (opening.Decl d) st = vars_keep defs _ d.base d.items st

test_keeps : (c : Option Expr) (st : State) → Keeps st (test_of c st)
test_keeps None st = refl
test_keeps (Some a) st = bind_keeps st (slot_of st a) _ (slot_keeps st a) (λ r e. e)

step_keeps : (defs : List (List ℕ)) (x : Option deed.Simple) (st : State) → Keeps st (step_of defs x st)
step_keeps defs None st = refl
step_keeps defs (Some x) st = bind_keeps st (simple_of defs x st) _ (simple_keeps defs x st) (λ r e. e)

pub header_keeps : (defs : List (List ℕ)) (o : Opening) (c : Option Expr) (x : Option deed.Simple) (st : State) → Keeps st (header_of defs o c x st)
header_keeps defs o c x st =
    bind_keeps st (opening_of defs o st) _ (opening_keeps defs o st)
    (λ b e. moved st b.1 _ e (bind_keeps b.1 (test_of c b.1) _ (test_keeps c b.1)
    (λ i e. moved b.1 i.1 _ e (bind_keeps i.1 (step_of defs x i.1) _ (step_keeps defs x i.1) (λ y e. e)))))

return_keeps : (defs : List (List ℕ)) (result : Option Ty) (at : Span) (a : Option Expr) (st : State) → Keeps st (return_of defs result at a st)
return_keeps defs None at None st = refl
return_keeps defs None at (Some a) st = tt
return_keeps defs (Some u) at None st = tt
return_keeps defs (Some u) at (Some a) st = bind_keeps st (given_for defs u at st a) _ (given_keeps defs u at st a) (λ r e. e)

-- ---- statements

plain_item : (a : Made ps.Stmt) (st : State) → Keeps st a → Keeps st (alone a)
plain_item a st h = bind_keeps st a _ h (λ r e. e)

item_keeps : (defs : List (List ℕ)) (floor : ℕ) (x : Stmt) (make : Making ps.Stmt) (st : State) → Keeps st (make st) → Keeps st (item_by defs floor x make st)
item_keeps defs floor (Decl d) make st h = vars_keep defs floor d.base d.items st
item_keeps defs floor (Empty at) make st h = plain_item (make st) st h
item_keeps defs floor (Block' at sh row) make st h = plain_item (make st) st h
item_keeps defs floor (Simple at x) make st h = plain_item (make st) st h
item_keeps defs floor (If' at c sh row) make st h = plain_item (make st) st h
item_keeps defs floor (IfElse' at c sh row sh2 row2) make st h = plain_item (make st) st h
item_keeps defs floor (While' at c sh row) make st h = plain_item (make st) st h
item_keeps defs floor (Do' at sh row c) make st h = plain_item (make st) st h
item_keeps defs floor (For' at o c x sh row) make st h = plain_item (make st) st h
item_keeps defs floor (Break at) make st h = plain_item (make st) st h
item_keeps defs floor (Continue at) make st h = plain_item (make st) st h
item_keeps defs floor (Return at a) make st h = plain_item (make st) st h
item_keeps defs floor (Read at a) make st h = plain_item (make st) st h
item_keeps defs floor (Print at format a) make st h = plain_item (make st) st h

follow_keeps : (st : State) (a : Made (List ps.Stmt)) (rest : Making (List ps.Stmt)) → Keeps st a → ((st : State) → Keeps st (rest st)) → Keeps st (followed_by a rest)
follow_keeps st a rest h k = bind_keeps st a _ h (λ r e. moved st r.1 _ e (bind_keeps r.1 (rest r.1) _ (k r.1) (λ q e. e)))

read_keeps : (at : Span) (l : Ty) (p : _) (st : State) → Keeps st (read_for at (l, p) st)
read_keeps at ty.Int p st = refl
read_keeps at (Ptr' s row) p st = tt
read_keeps at (Array' s row n) p st = tt
read_keeps at (ty.Struct k) p st = tt

module _ (defs : List (List ℕ)) (result : Option Ty) where
  if_of_keeps : (c : Expr) (make : Making ps.Stmt) (st : State) → ((st : State) → Keeps st (make st)) → Keeps st (if_of c make st)
  if_of_keeps c make st h = bind_keeps st (slot_of st c) _ (slot_keeps st c) (λ i e. moved st i.1 _ e (bind_keeps i.1 (make i.1) _ (h i.1) (λ r e. e)))

  if_else_keeps : (c : Expr) (make other : Making ps.Stmt) (st : State) → ((st : State) → Keeps st (make st)) → ((st : State) → Keeps st (other st)) → Keeps st (if_else_of c make other st)
  if_else_keeps c make other st h k =
      bind_keeps st (slot_of st c) _ (slot_keeps st c)
      (λ i e. moved st i.1 _ e (bind_keeps i.1 (make i.1) _ (h i.1) (λ r e. moved i.1 r.1 _ e (bind_keeps r.1 (other r.1) _ (k r.1) (λ q e. e)))))

  while_keeps : (c : Expr) (make : Making ps.Stmt) (st : State) → ((st : State) → Keeps st (make st)) → Keeps st (while_of c make st)
  while_keeps c make st h = bind_keeps st (slot_of st c) _ (slot_keeps st c) (λ i e. moved st i.1 _ e (bind_keeps i.1 (make i.1) _ (h i.1) (λ r e. e)))

  do_keeps : (c : Expr) (make : Making ps.Stmt) (st : State) → ((st : State) → Keeps st (make st)) → Keeps st (do_of c make st)
  do_keeps c make st h = bind_keeps st (make st) _ (h st) (λ r e. moved st r.1 _ e (bind_keeps r.1 (slot_of r.1 c) _ (slot_keeps r.1 c) (λ i e. e)))

  for_keeps : (o : Opening) (c : Option Expr) (x : Option deed.Simple) (make : Making ps.Stmt) (st : State) → ((st : State) → Keeps st (make st)) → Keeps st (for_of defs o c x make st)
  for_keeps o c x make st h =
      bind_keeps st (opening_of defs o st) _ (opening_keeps defs o st)
      (λ b e. moved st b.1 _ e (bind_keeps b.1 (test_of c b.1) _ (test_keeps c b.1)
      (λ i e. moved b.1 i.1 _ e (bind_keeps i.1 (step_of defs x i.1) _ (step_keeps defs x i.1)
      (λ y e. moved i.1 y.1 _ e (bind_keeps y.1 (make y.1) _ (h y.1) (λ r e. e)))))))

  mutual
    pub stmt_keeps : (f : Bool) (x : Stmt) (st : State) → Keeps st (stmt_of defs result f x st)
    stmt_keeps f (Empty at) st = refl
    stmt_keeps f (Block' at s row) st = bind_keeps st (row_of defs result f _ row st) _ (row_keeps f _ row st) (λ r e. e)
    stmt_keeps f (Decl d) st = tt
    stmt_keeps f (Simple at x) st = simple_keeps defs x st
    stmt_keeps f (If' at c s (more_of-Stmt a end_of-Stmt)) st = if_of_keeps c (stmt_of defs result f a) st (λ st. stmt_keeps f a st)
    stmt_keeps f (IfElse' at c s (more_of-Stmt a end_of-Stmt) s2 (more_of-Stmt b end_of-Stmt)) st = if_else_keeps c (stmt_of defs result f a) (stmt_of defs result f b) st (λ st. stmt_keeps f a st) (λ st. stmt_keeps f b st)
    stmt_keeps f (While' at c s (more_of-Stmt a end_of-Stmt)) st = while_keeps c (stmt_of defs result true a) st (λ st. stmt_keeps true a st)
    stmt_keeps f (Do' at s (more_of-Stmt a end_of-Stmt) c) st = do_keeps c (stmt_of defs result true a) st (λ st. stmt_keeps true a st)
    stmt_keeps f (For' at o c x s (more_of-Stmt a end_of-Stmt)) st = for_keeps o c x (stmt_of defs result true a) st (λ st. stmt_keeps true a st)
    stmt_keeps f (Break at) st = if_keeps {A = ps.Stmt} st f (Ok (to.Break, st)) (Err (fault Misplaced at)) refl tt
    stmt_keeps f (Continue at) st = if_keeps {A = ps.Stmt} st f (Ok (to.Continue, st)) (Err (fault Misplaced at)) refl tt
    stmt_keeps f (Return at a) st = bind_keeps st (return_of defs result at a st) _ (return_keeps defs result at a st) (λ r e. e)
    stmt_keeps f (Read at a) st = found_keeps st (target_of st a) _ (λ l. read_keeps (span_of a) l.0 l.1 st)
    stmt_keeps f (Print at format a) st = bind_keeps st (slot_of st a) _ (slot_keeps st a) (λ r e. e)

    row_keeps : (f : Bool) (floor : ℕ) {n : _} (row : Row_of-Stmt n) (st : State) → Keeps st (row_of defs result f floor row st)
    row_keeps f floor end_of-Stmt st = refl
    row_keeps f floor (more_of-Stmt a rest) st = follow_keeps st _ (row_of defs result f floor rest) (item_keeps defs floor a (stmt_of defs result f a) st (stmt_keeps f a st)) (λ st. row_keeps f floor rest st)

  pub items_keep : (f : Bool) (floor : ℕ) (xs : List Stmt) (st : State) → Keeps st (items_of defs result f floor xs st)
  items_keep f floor [] st = refl
  items_keep f floor (a ∷ rest) st = follow_keeps st _ (items_of defs result f floor rest) (item_keeps defs floor a (stmt_of defs result f a) st (stmt_keeps f a st)) (λ st. items_keep f floor rest st)

-- what was made so far doesn't count
pub grown_keeps : (defs : List (List ℕ)) (result : Option Ty) (f : Bool) (floor : ℕ) (x : Stmt) (all : List ps.Stmt) (st : State) → Keeps st (prefixed all (item_by defs floor x (stmt_of defs result f x) st))
grown_keeps defs result f floor x all st = bind_keeps st (item_by defs floor x (stmt_of defs result f x) st) _ (item_keeps defs floor x (stmt_of defs result f x) st (stmt_keeps defs result f x st)) (λ r e. e)

-- ---- globals

-- the state has the structs of this one
abbrev pub KeepsAll : State → Verdict State → Type 0
KeepsAll st (Ok st2) = st2.structs ≡ st.structs
KeepsAll st (Err f) = Unit {0}

both_all : {X A : Type 0} (st : State) (k : X → A → Verdict State) (n : Verdict X) (w : Verdict A) → ((x : X) (a : A) → KeepsAll st (k x a)) → KeepsAll st (both k n w)
both_all st k (Ok x) (Ok a) g = g x a
both_all st k (Ok x) (Err f) g = tt
both_all st k (Err f) (Ok a) g = tt
both_all st k (Err f) (Err e) g = tt

pub global_keeps : (base : Base) (d : Declared) (st : State) → KeepsAll st (global_of base d st)
global_keeps base d st = both_all {X = List ℕ} {A = Ty × Init} st (λ x g. Ok (with_global st x g.0 g.1)) (new_name 0 st (d.declarator).name) (typed_global base d st) (λ x g. refl)

then_all : (st : State) (v : Verdict State) (k : State → Verdict State) → KeepsAll st v → ((st2 : State) → KeepsAll st2 (k st2)) → KeepsAll st (v >>= k)
then_all st (Ok st2) k h g = elim (k st2) as (λ (w : Verdict State). KeepsAll st2 w → KeepsAll st w) [ Ok st3 ↦ λ e. e ∙ h | Err f ↦ λ e. tt ] (g st2)
then_all st (Err f) k h g = tt

pub globals_keep : (base : Base) (ds : List Declared) (st : State) → KeepsAll st (globals_of base ds st)
globals_keep base [] st = refl
globals_keep base (d ∷ rest) st = then_all st (global_of base d st) (globals_of base rest) (global_keeps base d st) (globals_keep base rest)

pub all_still : (cells : List ℕ) (st st2 : State) (w : Verdict State) → KeepsAll st w → w ≡ Ok st2 → cells ≡ measured st.structs → cells ≡ measured st2.structs
all_still cells st st2 w h e m = let k : st2.structs ≡ st.structs = subst (λ (w : Verdict State). KeepsAll st w) e h in m ∙ ap measured (sym k)

pub all_kept : (st st2 : State) (w : Verdict State) → KeepsAll st w → w ≡ Ok st2 → st2.structs ≡ st.structs
all_kept st st2 w h e = subst (λ (w : Verdict State). KeepsAll st w) e h
