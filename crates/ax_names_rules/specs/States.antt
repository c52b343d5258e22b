-- What a source has said up to some place, and what is found there next (C11 6.2.1).
use Rattle.std.specs.Prelude.{◌≡◌, ℕ, Bool, true, false, if◌then◌else◌, is_some, List, [], ◌∷◌, ◌++◌, length, take, drop, Option, Some, None}
use Rattle.ax_prog.specs.declared.Span.{Span}
use Rattle.ax_prog.specs.declared.Ty.{Ty, Ptr', Array'}
use Rattle.ax_prog.specs.declared.Ty.TheVariants as ty
use Rattle.ax_prog.specs.declared.VarId.{VarId}
use Rattle.ax_prog.specs.declared.SlotId.{SlotId}
use Rattle.ax_prog.specs.declared.Expr as ex
use Rattle.ax_prog.specs.declared.Atom.{Atom}
use Rattle.ax_parse_grammar.specs.declared.tree.Expr.{Expr}
use Rattle.ax_parse_grammar.specs.Trees.{span_of}
use Rattle.ax_names_types.specs.declared.Entry.{Entry}
use Rattle.ax_names_types.specs.declared.Entity.{Entity}
use Rattle.ax_names_types.specs.declared.Entity.TheVariants as entity
use Rattle.ax_names_types.specs.Scopes.{Env, env_of, innermost}
use Rattle.ax_names_rules.specs.declared.Signature.{Signature}
use Rattle.ax_names_rules.specs.declared.State.{State}

-- what an expression finds here
abbrev pub here : State → Env
here st = env_of st.names st.structs

-- variables and slots are numbered from 0, in source order
abbrev pub next_var : State → VarId
next_var st = record { 0 = length st.vars }

abbrev pub next_slot : State → SlotId
next_slot st = record { 0 = length st.slots }

abbrev pub entry_of : List ℕ → Entity → Entry
entry_of x what = record { name = x; entity = what }

-- 6.2.1p7: a variable is in scope from the end of its declarator on
abbrev pub with_var : State → List ℕ → Ty → State
with_var st x u = record st { vars = st.vars ++ record { name = x; ty = u } ∷ []; names = st.names ++ entry_of x (entity.Variable (next_var st) u) ∷ [] }

-- ---- the scope of a slot

abbrev pub is_int : Ty → Bool
is_int ty.Int = true
is_int (Ptr' s row) = false
is_int (Array' s row n) = false
is_int (ty.Struct k) = false

abbrev pub int_var : Entity → Option VarId
int_var (entity.Variable id u) = if is_int u then Some id else None
int_var (entity.Function k) = None

abbrev pub unless_hidden : Bool → Option VarId → List VarId → List VarId
unless_hidden true o ids = ids
unless_hidden false None ids = ids
unless_hidden false (Some id) ids = id ∷ ids

-- 6.2.1p4: the variables of type `int` that no inner name hides, in order of declaration
abbrev pub visible : List Entry → List VarId
visible [] = []
visible (e ∷ es) = unless_hidden (is_some (innermost e.name es)) (int_var e.entity) (visible es)

-- the number that an expression means is the next slot
abbrev pub with_slot : State → Expr → ex.Expr → List (Atom × Span) → State
with_slot st a x atoms = record st { slots = st.slots ++ record { span = span_of a; expr = x; scope = visible st.names; atoms = atoms } ∷ [] }

-- ---- scopes

-- 6.7p3: the name isn't declared in the scope that begins behind so many names
abbrev pub IsNew : ℕ → State → List ℕ → Type 0
IsNew floor st x = innermost x (drop floor st.names) ≡ None

-- how many names are in scope
abbrev pub depth : State → ℕ
depth st = length st.names

-- 6.2.1p4: the scope of what is declared behind the first ends
abbrev pub leaving : ℕ → State → State
leaving n st = record st { names = take n st.names }

-- ---- functions

abbrev pub with_head : State → Signature → State
with_head st head = record st { heads = st.heads ++ head ∷ []; names = st.names ++ entry_of head.name (entity.Function (length st.heads)) ∷ [] }
