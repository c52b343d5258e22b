-- The flat code of a program, by cases on statements (C11 6.8). Places are counted from 0 over all code; what stands from a place
-- to the next place is the code between them.
use Rattle.std.specs.Prelude.{◌≡◌, ℕ, zero, suc, ◌+◌, length, List, [], ◌∷◌, ◌++◌, Option, Some, None, slice_get}
use Rattle.ax_prog.specs.declared.SlotId.{SlotId}
use Rattle.ax_prog.specs.declared.VarId.{VarId}
use Rattle.ax_prog.specs.declared.FunId.{FunId}
use Rattle.ax_prog.specs.declared.Lval.{Lval}
use Rattle.ax_prog.specs.declared.Fun.{Fun}
use Rattle.ax_prog.specs.declared.Value.{Value}
use Rattle.ax_prog.specs.declared.Value.TheVariants as value
use Rattle.ax_prog.specs.declared.Init.{Init}
use Rattle.ax_prog.specs.declared.Init.TheVariants as init
use Rattle.ax_prog.specs.declared.Program.{Program}
use Rattle.ax_prog.specs.declared.Stmt.{Stmt, Block', If', While', Do', For', Row_of-Stmt, end_of-Stmt, more_of-Stmt, Held-Stmt-If-2, None', Some'}
use Rattle.ax_prog.specs.declared.Stmt.TheVariants as s
use Rattle.ax_meaning.specs.Execution.{declared_by}
use Rattle.ax_flow.specs.declared.Rhs.{Rhs}
use Rattle.ax_flow.specs.declared.Rhs.TheVariants as rhs
use Rattle.ax_flow.specs.declared.Op.{Op}
use Rattle.ax_flow.specs.declared.Op.TheVariants as op

-- the loop around a statement: where `break` and `continue` go, and the variables in scope that its body declared, latest first
pub record Around : Type 0 where
  pub broke : ℕ
  pub continued : ℕ
  pub opened : List VarId

abbrev pub within : List VarId → Around → Around
within vs a = record a { opened = vs ++ a.opened }

-- this op stands at this place
abbrev pub At : List Op → ℕ → Op → Type 0
At code at o = slice_get code at ≡ Some o

-- these ops are all that stands from a place to the next
abbrev pub Are : List Op → ℕ → List Op → ℕ → Type 0
Are code at [] to = at ≡ to
Are code at (o ∷ os) to = At code at o × Are code (at + 1) os to

-- the ends of these variables
abbrev pub ends_of : List VarId → List Op
ends_of [] = []
ends_of (v ∷ vs) = op.End v ∷ ends_of vs

-- the ends of these variables, and a jump
abbrev pub jump_of : List VarId → ℕ → List Op
jump_of [] t = op.Jump t ∷ []
jump_of (v ∷ vs) t = op.End v ∷ jump_of vs t

-- `lv = f(a)` is the call and the assignment of its value
abbrev pub assign_code : Lval → Value → List Op
assign_code l (value.Int id) = op.Assign l (rhs.Int id) ∷ []
assign_code l (value.Ptr q) = op.Assign l (rhs.Ptr q) ∷ []
assign_code l (value.Call f args) = op.Call f args ∷ op.Assign l rhs.Last ∷ []

-- `int x = f(a)` is the declaration, the call, and the keeping of its value
abbrev pub decl_code : VarId → Init → List Op
decl_code v init.Nothing = op.Decl v init.Nothing ∷ []
decl_code v (init.List ns) = op.Decl v (init.List ns) ∷ []
decl_code v (init.Value (value.Int id)) = op.Decl v (init.Value (value.Int id)) ∷ []
decl_code v (init.Value (value.Ptr q)) = op.Decl v (init.Value (value.Ptr q)) ∷ []
decl_code v (init.Value (value.Call f args)) = op.Decl v init.Nothing ∷ op.Call f args ∷ op.Keep v ∷ []

-- `return f(a)` is the call and the `return` of its value
abbrev pub return_code : Option Value → List Op
return_code None = op.Return None ∷ []
return_code (Some (value.Int id)) = op.Return (Some (rhs.Int id)) ∷ []
return_code (Some (value.Ptr q)) = op.Return (Some (rhs.Ptr q)) ∷ []
return_code (Some (value.Call f args)) = op.Call f args ∷ op.Return (Some rhs.Last) ∷ []

-- the condition of a `for`
abbrev pub test_op : Option SlotId → ℕ → Op
test_op None t = op.Always
test_op (Some id) t = op.Test id t

-- the variables that the statements of a row declared after these
abbrev pub row_declared : {n : _} → Row_of-Stmt n → List VarId → List VarId
row_declared end_of-Stmt vs = vs
row_declared (more_of-Stmt a rest) vs = row_declared rest (declared_by a vs)

abbrev mutual
  -- the code from a place to the next is the flat code of the statement
  pub Flat : List Op → Stmt → Around → ℕ → ℕ → Type 0
  Flat code s.Empty a at to = at ≡ to
  Flat code (Block' sh row) a at to = (end : ℕ) × FlatRow code row [] a at end × Are code end (ends_of (row_declared row [])) to
  Flat code (s.Decl v i) a at to = Are code at (decl_code v i) to
  Flat code (s.Assign l v) a at to = Are code at (assign_code l v) to
  Flat code (s.Change l o id) a at to = Are code at (op.Change l o id ∷ []) to
  Flat code (s.Bump l up) a at to = Are code at (op.Bump l up ∷ []) to
  Flat code (s.Call f args) a at to = Are code at (op.Call f args ∷ []) to
  -- the test goes to the `else` part, or to the end
  Flat code (If' id sh (more_of-Stmt b end_of-Stmt) c) a at to =
      (other end : ℕ) × At code at (op.Test id other) × Flat code b a (at + 1) end × FlatElse code c a end other to
  -- the body goes back to the test
  Flat code (While' id sh (more_of-Stmt b end_of-Stmt)) a at to =
      (end : ℕ) × At code at (op.Test id to) × Flat code b (record { broke = to; continued = at; opened = [] }) (at + 1) end ×
      Are code end (op.Jump at ∷ []) to
  -- `continue` goes to the test behind the body
  Flat code (Do' sh (more_of-Stmt b end_of-Stmt) id) a at to =
      (end : ℕ) × Flat code b (record { broke = to; continued = end; opened = [] }) at end ×
      Are code end (op.Test id to ∷ op.Jump at ∷ []) to
  -- `continue` goes to the last part, and `break` to the ends of the header's variables
  Flat code (For' sh row id next sh2 (more_of-Stmt b end_of-Stmt)) a at to =
      (test end last close : ℕ) × FlatRow code row [] a at test × At code test (test_op id close) ×
      Flat code b (record { broke = close; continued = end; opened = [] }) (test + 1) end ×
      FlatHeld code next (within (row_declared row []) a) end last × Are code last (op.Jump test ∷ []) close ×
      Are code close (ends_of (row_declared row [])) to
  Flat code s.Break a at to = Are code at (jump_of a.opened a.broke) to
  Flat code s.Continue a at to = Are code at (jump_of a.opened a.continued) to
  Flat code (s.Return v) a at to = Are code at (return_code v) to
  Flat code (s.Read l) a at to = Are code at (op.Read l ∷ []) to
  Flat code (s.Print id) a at to = Are code at (op.Print id ∷ []) to

  -- of the statements of a block, in which these variables were declared
  pub FlatRow : List Op → {n : _} → Row_of-Stmt n → List VarId → Around → ℕ → ℕ → Type 0
  FlatRow code end_of-Stmt vs a at to = at ≡ to
  FlatRow code (more_of-Stmt b rest) vs a at to =
      (end : ℕ) × Flat code b (within vs a) at end × FlatRow code rest (declared_by b vs) a end to

  -- of a statement that may be absent
  pub FlatHeld : List Op → Held-Stmt-If-2 → Around → ℕ → ℕ → Type 0
  FlatHeld code None' a at to = at ≡ to
  FlatHeld code (Some' sh (more_of-Stmt b end_of-Stmt)) a at to = Flat code b a at to

  -- of the `else` part, after the end of the first part
  pub FlatElse : List Op → Held-Stmt-If-2 → Around → ℕ → ℕ → ℕ → Type 0
  FlatElse code None' a end other to = (end ≡ to) × (other ≡ to)
  FlatElse code (Some' sh (more_of-Stmt c end_of-Stmt)) a end other to = Are code end (op.Jump to ∷ []) other × Flat code c a other to

-- of a function's statements
abbrev pub FlatList : List Op → List Stmt → Around → ℕ → ℕ → Type 0
FlatList code [] a at to = at ≡ to
FlatList code (b ∷ rest) a at to = (end : ℕ) × Flat code b a at end × FlatList code rest a end to

-- a function's code; a `break` outside a loop goes to its end
abbrev pub FlatFun : List Op → Fun → ℕ → ℕ → Type 0
FlatFun code f at to =
    (end : ℕ) × FlatList code f.body (record { broke = end; continued = end; opened = [] }) at end × Are code end (op.Fall ∷ []) to

-- the codes of the functions, in their order, each with the place where it starts
abbrev pub FlatFuns : List Op → List Fun → List ℕ → ℕ → ℕ → Type 0
FlatFuns code [] [] at to = at ≡ to
FlatFuns code [] (start ∷ starts) at to = ⊥
FlatFuns code (f ∷ funs) [] at to = ⊥
FlatFuns code (f ∷ funs) (start ∷ starts) at to = (end : ℕ) × (start ≡ at) × FlatFun code f at end × FlatFuns code funs starts end to

-- this code, with these places where functions start, is the flat code of the program
abbrev pub IsFlat : Program → List Op → List ℕ → Type 0
IsFlat p code starts = FlatFuns code p.funs starts 0 (length code)
