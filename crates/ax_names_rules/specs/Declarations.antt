-- What declarations in blocks and of globals become (C11 6.7, 6.7.9).
use Rattle.std.specs.Prelude.{◌≡◌, ℕ, ◌≤◌, ℤ, neg_ℤ, true, if◌then◌else◌, List, [], ◌∷◌, ◌++◌, length, map}
use Rattle.ax_prog.specs.declared.Span.{Span}
use Rattle.ax_prog.specs.declared.Ty.{Ty}
use Rattle.ax_prog.specs.declared.Ty.TheVariants as ty
use Rattle.ax_prog.specs.declared.Pexpr.TheVariants as p
use Rattle.ax_prog.specs.declared.Value.{Value}
use Rattle.ax_prog.specs.declared.Value.TheVariants as value
use Rattle.ax_prog.specs.declared.Init.{Init}
use Rattle.ax_prog.specs.declared.Init.TheVariants as init
use Rattle.ax_prog.specs.declared.Stmt as ps
use Rattle.ax_prog.specs.declared.Stmt.TheVariants as to
use Rattle.ax_parse_grammar.specs.declared.tree.Prefix.TheVariants as pre
use Rattle.ax_parse_grammar.specs.declared.tree.Expr.{Expr}
use Rattle.ax_parse_grammar.specs.declared.tree.Expr.TheVariants as s
use Rattle.ax_parse_grammar.specs.declared.tree.Base.{Base}
use Rattle.ax_parse_grammar.specs.declared.tree.Size.{Size}
use Rattle.ax_parse_grammar.specs.declared.tree.Signed.{Signed}
use Rattle.ax_parse_grammar.specs.declared.tree.Initialiser.{Initialiser}
use Rattle.ax_parse_grammar.specs.declared.tree.Initialiser.TheVariants as by
use Rattle.ax_parse_grammar.specs.declared.tree.Declared.{Declared}
use Rattle.ax_names_types.specs.Types.{is_zero}
use Rattle.ax_names_declared.specs.Denotations.{filled}
use Rattle.ax_names_declared.specs.Breaks.{DeclaresObject}
use Rattle.ax_names_rules.specs.declared.State.{State}
use Rattle.ax_names_rules.specs.States.{next_var, with_var, IsNew}
use Rattle.ax_names_rules.specs.Values.{Given}

abbrev pub signed_value : Signed → ℤ
signed_value x = if x.negative then neg_ℤ x.value else x.value

-- 6.7.9p22: a brace list gives an empty first size
abbrev pub sizes_by : Initialiser → List Size → List Size
sizes_by by.Nothing sizes = sizes
sizes_by (by.Value a) sizes = sizes
sizes_by (by.List at xs) sizes = filled (length xs) sizes

-- the sizes of what is declared
abbrev pub sizes_of : Declared → List Size
sizes_of d = sizes_by d.initialiser (d.declarator).sizes

-- The declarator declares a variable of this type, in the scope that begins behind so many names.
pub data DeclaresVar (floor : ℕ) (st : State) (base : Base) (d : Declared) : Ty → Type 0 where
  variable : {u : Ty} → IsNew floor st (d.declarator).name.text → DeclaresObject st.structs base (d.declarator).stars (sizes_of d) u → DeclaresVar floor st base d u

-- where a variable of this type begins with a brace list, it is an array of `int` that is no shorter
pub data TakesList (xs : List Signed) : Ty → Type 0 where
  array : {n : ℕ} → length xs ≤ n → TakesList xs (ty.Array ty.Int n)

-- What a variable in a block begins with. It is in scope in its own initialiser (6.2.1p7).
pub data Begins (defs : List (List ℕ)) (st : State) (u : Ty) : Initialiser → Init → State → Type 0 where
  nothing : Begins defs st u by.Nothing init.Nothing st
  single : {a : Expr} {v : Value} {st2 : State} → Given defs st u a v st2 → Begins defs st u (by.Value a) (init.Value v) st2
  list : {at : Span} {xs : List Signed} → TakesList xs u → Begins defs st u (by.List at xs) (init.List (map signed_value xs)) st

-- the declarators of a declaration in turn
pub data BecomeVars (defs : List (List ℕ)) (floor : ℕ) (base : Base) : State → List Declared → List ps.Stmt → State → Type 0 where
  none : {st : State} → BecomeVars defs floor base st [] [] st
  more : {st st2 st3 : State} {d : Declared} {rest : List Declared} {bs : List ps.Stmt} (u : Ty) (v : Init) → DeclaresVar floor st base d u → Begins defs (with_var st (d.declarator).name.text u) u d.initialiser v st2 → BecomeVars defs floor base st2 rest bs st3 → BecomeVars defs floor base st (d ∷ rest) (to.Decl (next_var st) v ∷ bs) st3

-- ---- globals

-- 6.7.9p4: a literal, with or without `-`
pub data IsLiteral : Expr → ℤ → Type 0 where
  plain : {at : Span} {n : ℤ} → IsLiteral (s.Number at n) n
  negative : {at : Span} (at2 : Span) (n : ℤ) → IsLiteral (s.Unary at pre.Neg (s.Number at2 n)) (neg_ℤ n)

-- What a global begins with. One without an initialiser begins with 0 (6.7.9p10), as the run's definition has it.
pub data BeginsGlobal (u : Ty) : Initialiser → Init → Type 0 where
  nothing : BeginsGlobal u by.Nothing init.Nothing
  number : {a : Expr} {n : ℤ} → u ≡ ty.Int → IsLiteral a n → BeginsGlobal u (by.Value a) (init.List (n ∷ []))
  null : {a : Expr} (v : Ty) → u ≡ ty.Ptr v → is_zero a ≡ true → BeginsGlobal u (by.Value a) (init.Value (value.Ptr p.Null))
  list : {at : Span} {xs : List Signed} → TakesList xs u → BeginsGlobal u (by.List at xs) (init.List (map signed_value xs))

abbrev pub with_global : State → List ℕ → Ty → Init → State
with_global st x u v = record (with_var st x u) { globals = st.globals ++ (next_var st, v) ∷ [] }

pub data BecomeGlobals (base : Base) : State → List Declared → State → Type 0 where
  none : {st : State} → BecomeGlobals base st [] st
  more : {st st2 : State} {d : Declared} {rest : List Declared} (u : Ty) (v : Init) → DeclaresVar 0 st base d u → BeginsGlobal u d.initialiser v → BecomeGlobals base (with_global st (d.declarator).name.text u v) rest st2 → BecomeGlobals base st (d ∷ rest) st2
