-- Steps of the walk.
use Rattle.std.proofs.Common.{◌≡◌, ℕ, ℤ, ◌+◌, ◌<◌, ◌≤◌, List, [], ◌∷◌, ◌++◌, Result, Ok, Err, refl, ap, sym, arith}
use Rattle.std.specs.Prelude.{IfOk}
use Rattle.ax_prog.specs.declared.Span.{Span}
use Rattle.ax_prog.specs.declared.Struct.{Struct}
use Rattle.ax_prog.specs.declared.Bin.{Bin}
use Rattle.ax_prog.specs.declared.Expr.TheVariants as e
use Rattle.ax_parse_grammar.specs.declared.tree.Name as word
use Rattle.ax_parse_grammar.specs.declared.tree.Prefix.{Prefix}
use Rattle.ax_parse_grammar.specs.declared.tree.Expr.{Expr, Name, Number, Unary', Binary', Cond', Index', Member', Arrow', Call'}
use Rattle.ax_parse_grammar.specs.declared.tree.Expr.TheVariants as s
use Rattle.ax_parse_grammar.specs.declared.tree.Expr.TheBlock.{more_of-Expr, end_of-Expr, shape-the_row-Expr-0, hidden-the_row-Expr-0}
use Rattle.ax_parse_grammar.specs.Trees.{span_of}
use Rattle.ax_names_types.specs.declared.Typed.{Typed}
use Rattle.ax_names_types.specs.declared.Typed.TheVariants as t
use Rattle.ax_names_types.specs.declared.TypeKind.TheVariants.{WrongType}
use Rattle.ax_names_types.specs.declared.TypeFault.{TypeFault}
use Rattle.ax_names_types.specs.Faults.{Verdict, fault}
use Rattle.ax_names_types.specs.Scopes.{Env, innermost, is_function}
use Rattle.ax_names_types.specs.Types.{is_zero}
use Rattle.ax_names_types.specs.Verdicts.{named, verdict_of}
use Rattle.ax_names_types.proofs.Layers.{verdict_of-Unary, verdict_of-Binary, verdict_of-Cond, verdict_of-Index, verdict_of-Member, verdict_of-Arrow}
use Rattle.ax_names_values.specs.declared.operands.Operand.{Operand}
use Rattle.ax_names_values.specs.declared.walk.Step.{Step}
use Rattle.ax_names_values.specs.declared.walk.Step.TheVariants as step
use Rattle.ax_names_values.specs.Steps.{operand_of, conditional_of, after, finished}
use denote.Hole.Carrier

-- ---- the measure

abbrev pub nodes : Expr → ℕ
nodes (Name at x) = 1
nodes (Number at n) = 1
nodes (Unary' at op s (more_of-Expr a end_of-Expr)) = nodes a + 1
nodes (Binary' at op s (more_of-Expr a end_of-Expr) s2 (more_of-Expr b end_of-Expr)) = nodes a + nodes b + 1
nodes (Cond' at s (more_of-Expr c end_of-Expr) s2 (more_of-Expr a end_of-Expr) s3 (more_of-Expr b end_of-Expr)) = nodes c + nodes a + nodes b + 1
nodes (Index' at s (more_of-Expr a end_of-Expr) s2 (more_of-Expr b end_of-Expr)) = nodes a + nodes b + 1
nodes (Member' at s (more_of-Expr a end_of-Expr) x) = nodes a + 1
nodes (Arrow' at s (more_of-Expr a end_of-Expr) x) = nodes a + 1
nodes (Call' at s r s2 r2) = 1

nodes_some : (a : Expr) → 0 < nodes a
nodes_some (Name at x) = omega arith
nodes_some (Number at n) = omega arith
nodes_some (Unary' at op s (more_of-Expr a end_of-Expr)) = omega arith
nodes_some (Binary' at op s (more_of-Expr a end_of-Expr) s2 (more_of-Expr b end_of-Expr)) = omega arith
nodes_some (Cond' at s (more_of-Expr c end_of-Expr) s2 (more_of-Expr a end_of-Expr) s3 (more_of-Expr b end_of-Expr)) = omega arith
nodes_some (Index' at s (more_of-Expr a end_of-Expr) s2 (more_of-Expr b end_of-Expr)) = omega arith
nodes_some (Member' at s (more_of-Expr a end_of-Expr) x) = omega arith
nodes_some (Arrow' at s (more_of-Expr a end_of-Expr) x) = omega arith
nodes_some (Call' at s r s2 r2) = omega arith

pub nodes-Unary : (at : Span) (op : Prefix) (a : Expr) → nodes (s.Unary at op a) ≡ nodes a + 1
unfolding shape-the_row-Expr-0 hidden-the_row-Expr-0 Carrier.hidden
nodes-Unary at op a = refl

pub nodes-Binary : (at : Span) (op : Bin) (a b : Expr) → nodes (s.Binary at op a b) ≡ nodes a + nodes b + 1
unfolding shape-the_row-Expr-0 hidden-the_row-Expr-0 Carrier.hidden
nodes-Binary at op a b = refl

pub nodes-Cond : (at : Span) (c a b : Expr) → nodes (s.Cond at c a b) ≡ nodes c + nodes a + nodes b + 1
unfolding shape-the_row-Expr-0 hidden-the_row-Expr-0 Carrier.hidden
nodes-Cond at c a b = refl

pub nodes-Index : (at : Span) (a b : Expr) → nodes (s.Index at a b) ≡ nodes a + nodes b + 1
unfolding shape-the_row-Expr-0 hidden-the_row-Expr-0 Carrier.hidden
nodes-Index at a b = refl

pub nodes-Member : (at : Span) (a : Expr) (x : word.Name) → nodes (s.Member at a x) ≡ nodes a + 1
unfolding shape-the_row-Expr-0 hidden-the_row-Expr-0 Carrier.hidden
nodes-Member at a x = refl

pub nodes-Arrow : (at : Span) (a : Expr) (x : word.Name) → nodes (s.Arrow at a x) ≡ nodes a + 1
unfolding shape-the_row-Expr-0 hidden-the_row-Expr-0 Carrier.hidden
nodes-Arrow at a x = refl

-- ---- steps

finished-append : (structs : List Struct) (steps xs : List Step) (v : Verdict Typed) → finished structs (steps ++ xs) v ≡ finished structs steps (finished structs xs v)
finished-append structs [] xs v = refl
finished-append structs (s ∷ steps) xs v = ap (after structs s) (finished-append structs steps xs v)

-- the last step is taken
pub step_taken : (structs : List Struct) (steps all : List Step) (s : Step) (v w : Verdict Typed) → all ≡ steps ++ s ∷ [] → w ≡ after structs s v → finished structs steps w ≡ finished structs all v
step_taken structs steps all s v w p q = rw (p, q) (sym (finished-append structs steps (s ∷ []) v))

-- the part is below the tree, and the steps lead up from it
pub record Walking (env : Env) (tree : Expr) (steps : List Step) (part : Expr) : Type 0 where
  pub leads : finished env.structs steps (verdict_of env part) ≡ verdict_of env tree
  pub below : nodes part ≤ nodes tree

down : (env : Env) (tree part a : Expr) (steps all : List Step) (s : Step) → Walking env tree steps part → verdict_of env part ≡ after env.structs s (verdict_of env a) → nodes a < nodes part → all ≡ steps ++ s ∷ [] → Walking env tree all a × (nodes a < nodes part)
down env tree part a steps all s w e n p = (record { leads = rw (p, finished-append env.structs steps (s ∷ []) (verdict_of env a), ← e) w.leads; below = omega arith }, n)

pub unary_down : {env : Env} {tree part : Expr} {steps : List Step} (all : List Step) (at : Span) (op : Prefix) (a b : Expr) (st : Step) → Walking env tree steps part → part ≡ s.Unary at op a → b ≡ a → st ≡ step.Unary op (is_function env.names a) (span_of a) → all ≡ steps ++ st ∷ [] → Walking env tree all b × (nodes b < nodes part)
unary_down {env} {tree} {part} {steps} all at op a b st w is q e p =
    rw q (down env tree part a steps all st w (rw (is, e) (verdict_of-Unary env at op a)) (rw is (omega (arith, nodes-Unary at op a))) p)

pub binary_down : {env : Env} {tree part : Expr} {steps : List Step} (all : List Step) (at : Span) (op : Bin) (a b c : Expr) (st : Step) (right : Operand) → Walking env tree steps part → part ≡ s.Binary at op a b → c ≡ a → right ≡ operand_of env b → st ≡ step.Binary op at (is_zero a) (span_of a) right → all ≡ steps ++ st ∷ [] → Walking env tree all c × (nodes c < nodes part)
binary_down {env} {tree} {part} {steps} all at op a b c st right w is q r e p =
    rw q (down env tree part a steps all st w (rw (is, e, r) (verdict_of-Binary env at op a b)) (rw is (omega (arith, nodes-Binary at op a b))) p)

pub index_down : {env : Env} {tree part : Expr} {steps : List Step} (all : List Step) (at : Span) (a b c : Expr) (sp : Span) (right : Operand) → Walking env tree steps part → part ≡ s.Index at a b → c ≡ a → sp ≡ span_of a → right ≡ operand_of env b → all ≡ steps ++ step.Index sp right ∷ [] → Walking env tree all c × (nodes c < nodes part)
index_down {env} {tree} {part} {steps} all at a b c sp right w is q e r p =
    rw q (down env tree part a steps all (step.Index sp right) w (rw (is, e, r) (verdict_of-Index env at a b)) (rw is (omega (arith, nodes-Index at a b))) p)

pub member_down : {env : Env} {tree part : Expr} {steps : List Step} (all : List Step) (at : Span) (a c : Expr) (x y : word.Name) (sp : Span) → Walking env tree steps part → part ≡ s.Member at a x → c ≡ a → sp ≡ span_of a → y ≡ x → all ≡ steps ++ step.Member y sp ∷ [] → Walking env tree all c × (nodes c < nodes part)
member_down {env} {tree} {part} {steps} all at a c x y sp w is q e r p =
    rw q (down env tree part a steps all (step.Member y sp) w (rw (is, e, r) (verdict_of-Member env at a x)) (rw is (omega (arith, nodes-Member at a x))) p)

pub arrow_down : {env : Env} {tree part : Expr} {steps : List Step} (all : List Step) (at : Span) (a c : Expr) (x y : word.Name) (sp : Span) → Walking env tree steps part → part ≡ s.Arrow at a x → c ≡ a → sp ≡ span_of a → y ≡ x → all ≡ steps ++ step.Arrow y sp ∷ [] → Walking env tree all c × (nodes c < nodes part)
arrow_down {env} {tree} {part} {steps} all at a c x y sp w is q e r p =
    rw q (down env tree part a steps all (step.Arrow y sp) w (rw (is, e, r) (verdict_of-Arrow env at a x)) (rw is (omega (arith, nodes-Arrow at a x))) p)

-- what is judged by recursion is smaller
pub cond_below : {part : Expr} (at : Span) (c a b c2 a2 b2 : Expr) → part ≡ s.Cond at c a b → c2 ≡ c → a2 ≡ a → b2 ≡ b → nodes c2 + nodes a2 + nodes b2 < nodes part
cond_below at c a b c2 a2 b2 is p q r = rw (is, p, q, r) (omega (arith, nodes-Cond at c a b))

pub right_below : {part : Expr} (at : Span) (op : Bin) (a b c : Expr) → part ≡ s.Binary at op a b → c ≡ b → nodes c + 1 < nodes part
right_below at op a b c is p = let h = nodes_some a in rw (is, p) (omega (arith, nodes-Binary at op a b))

pub index_below : {part : Expr} (at : Span) (a b c : Expr) → part ≡ s.Index at a b → c ≡ b → nodes c + 1 < nodes part
index_below at a b c is p = let h = nodes_some a in rw (is, p) (omega (arith, nodes-Index at a b))

-- at the leaf the steps make the verdict of the whole
pub leaf_ends : {E : Type 0} {env : Env} {tree part : Expr} {steps : List Step} (v : Verdict Typed) (r : Result (Verdict Typed) E) → Walking env tree steps part → v ≡ verdict_of env part → IfOk r (λ w. w ≡ finished env.structs steps v) → IfOk r (λ w. w ≡ verdict_of env tree)
leaf_ends {E} {env} {tree} {part} {steps} v (Ok w) h p q = rw (q, p) h.leads
leaf_ends {E} {env} {tree} {part} {steps} v (Err e) h p q = tt

-- a leaf of each kind
pub name_leaf : (env : Env) {part : Expr} (at : Span) (x y : List ℕ) (v : Verdict Typed) → part ≡ s.Name at x → y ≡ x → v ≡ named at (innermost y env.names) → v ≡ verdict_of env part
name_leaf env at x y v is p q = rw (is, q, p) refl

pub number_leaf : (env : Env) {part : Expr} (at : Span) (n : ℤ) (v : Verdict Typed) → part ≡ s.Number at n → v ≡ Ok (t.Int (e.Num n) []) → v ≡ verdict_of env part
number_leaf env at n v is p = rw (is, p) refl

pub cond_leaf : (env : Env) {part : Expr} (at : Span) (c a b c2 a2 b2 : Expr) (v : Verdict Typed) → part ≡ s.Cond at c a b → c2 ≡ c → a2 ≡ a → b2 ≡ b → v ≡ conditional_of env c2 a2 b2 → v ≡ verdict_of env part
cond_leaf env at c a b c2 a2 b2 v is p q r h = rw (is, h, p, q, r) (sym (verdict_of-Cond env at c a b))

call_verdict : (env : Env) (at : Span) (f : Expr) (xs : List Expr) → verdict_of env (s.Call at f xs) ≡ Err (fault WrongType at)
call_verdict env at f xs = refl

pub call_leaf : (env : Env) {part : Expr} (at : Span) (f : Expr) (xs : List Expr) (g : TypeFault) (v : Verdict Typed) → part ≡ s.Call at f xs → g ≡ fault WrongType at → v ≡ Err g → v ≡ verdict_of env part
call_leaf env at f xs g v is p q = rw (is, q, p) (sym (call_verdict env at f xs))
