-- The code of each program, as a function. While a loop is in the making, the jumps of `break` and `continue` are open.
use Rattle.std.specs.Prelude.{◌≡◌, ℕ, zero, suc, ◌+◌, length, map, List, [], ◌∷◌, ◌++◌, Option, Some, None}
use Rattle.ax_prog.specs.declared.SlotId.{SlotId}
use Rattle.ax_prog.specs.declared.VarId.{VarId}
use Rattle.ax_prog.specs.declared.Fun.{Fun}
use Rattle.ax_prog.specs.declared.Program.{Program}
use Rattle.ax_prog.specs.declared.Stmt.{Stmt, Block', If', While', Do', For', Row_of-Stmt, end_of-Stmt, more_of-Stmt, Held-Stmt-If-2, None', Some'}
use Rattle.ax_prog.specs.declared.Stmt.TheVariants as s
use Rattle.ax_meaning.specs.Execution.{declared_by}
use Rattle.ax_flow.specs.Flat.{assign_code, decl_code, return_code, test_op, row_declared}
use Rattle.ax_flow.specs.declared.Op.{Op}
use Rattle.ax_flow.specs.declared.Op.TheVariants as op
use Rattle.ax_flow.specs.declared.Draft.{Draft}
use Rattle.ax_flow.specs.declared.Draft.TheVariants.{Made, Breaks, Continues}

-- an open jump goes to its place
abbrev pub filled : ℕ → ℕ → Draft → Draft
filled broke continued (Made o) = Made o
filled broke continued Breaks = Made (op.Jump broke)
filled broke continued Continues = Made (op.Jump continued)

abbrev pub made : List Op → List Draft
made [] = []
made (o ∷ os) = Made o ∷ made os

abbrev pub end_draft : VarId → Draft
end_draft v = Made (op.End v)

abbrev pub ends_draft : List VarId → List Draft
ends_draft vs = map end_draft vs

-- an `if` at a place, with its parts
abbrev pub if_draft : SlotId → ℕ → List Draft → List Draft
if_draft id at first = Made (op.Test id (at + 1 + length first)) ∷ first

abbrev pub else_draft : SlotId → ℕ → List Draft → List Draft → List Draft
else_draft id at first second =
    let other = at + 1 + length first + 1 in Made (op.Test id other) ∷ (first ++ (Made (op.Jump (other + length second)) ∷ second))

-- loops at a place, with their bodies
abbrev pub while_draft : SlotId → ℕ → List Draft → List Draft
while_draft id at body =
    let turn = body ++ Made (op.Jump at) ∷ [] in
    let end = at + 1 + length turn in
    Made (op.Test id end) ∷ map (filled end at) turn

abbrev pub do_draft : SlotId → ℕ → List Draft → List Draft
do_draft id at body =
    let test = at + length body in
    let end = test + 2 in
    map (filled end test) body ++ (Made (op.Test id end) ∷ Made (op.Jump at) ∷ [])

-- a `for` whose condition stands at a place: its body, last part, and the variables of its header
abbrev pub for_draft : Option SlotId → ℕ → List Draft → List Draft → List VarId → List Draft
for_draft id test body last vs =
    let next = test + 1 + length body in
    let close = next + length last + 1 in
    Made (test_op id close) ∷ (map (filled close next) body ++ (last ++ (Made (op.Jump test) ∷ ends_draft vs)))

abbrev mutual
  -- the code of a statement in a loop whose body declared these variables, latest first, from a place on
  pub draft_of : Stmt → List VarId → ℕ → List Draft
  draft_of s.Empty vs at = []
  draft_of (Block' sh row) vs at = row_draft row vs at ++ ends_draft (row_declared row [])
  draft_of (s.Decl v i) vs at = made (decl_code v i)
  draft_of (s.Assign l v) vs at = made (assign_code l v)
  draft_of (s.Change l o id) vs at = Made (op.Change l o id) ∷ []
  draft_of (s.Bump l up) vs at = Made (op.Bump l up) ∷ []
  draft_of (s.Call f args) vs at = Made (op.Call f args) ∷ []
  draft_of (If' id sh (more_of-Stmt b end_of-Stmt) c) vs at = choice_draft c id at (draft_of b vs (at + 1)) vs
  draft_of (While' id sh (more_of-Stmt b end_of-Stmt)) vs at = while_draft id at (draft_of b [] (at + 1))
  draft_of (Do' sh (more_of-Stmt b end_of-Stmt) id) vs at = do_draft id at (draft_of b [] at)
  draft_of (For' sh row id next sh2 (more_of-Stmt b end_of-Stmt)) vs at =
      let head = row_draft row vs at in
      let test = at + length head in
      let body = draft_of b [] (test + 1) in
      let last = held_draft next (row_declared row vs) (test + 1 + length body) in
      head ++ for_draft id test body last (row_declared row [])
  draft_of s.Break vs at = ends_draft vs ++ Breaks ∷ []
  draft_of s.Continue vs at = ends_draft vs ++ Continues ∷ []
  draft_of (s.Return v) vs at = made (return_code v)
  draft_of (s.Read l) vs at = Made (op.Read l) ∷ []
  draft_of (s.Print id) vs at = Made (op.Print id) ∷ []

  -- of the statements of a block
  pub row_draft : {n : _} → Row_of-Stmt n → List VarId → ℕ → List Draft
  row_draft end_of-Stmt vs at = []
  row_draft (more_of-Stmt b rest) vs at =
      let first = draft_of b vs at in first ++ row_draft rest (declared_by b vs) (at + length first)

  -- of a statement that may be absent
  pub held_draft : Held-Stmt-If-2 → List VarId → ℕ → List Draft
  held_draft None' vs at = []
  held_draft (Some' sh (more_of-Stmt b end_of-Stmt)) vs at = draft_of b vs at

  -- of an `if` with this first part
  pub choice_draft : Held-Stmt-If-2 → SlotId → ℕ → List Draft → List VarId → List Draft
  choice_draft None' id at first vs = if_draft id at first
  choice_draft (Some' sh (more_of-Stmt c end_of-Stmt)) id at first vs =
      else_draft id at first (draft_of c vs (at + 1 + length first + 1))

-- the statements of a block, as a list
abbrev pub block_draft : List Stmt → List VarId → ℕ → List Draft
block_draft [] vs at = []
block_draft (b ∷ rest) vs at = let first = draft_of b vs at in first ++ block_draft rest (declared_by b vs) (at + length first)

-- the variables that these statements declare, latest first, before those declared already
abbrev pub block_declared : List Stmt → List VarId → List VarId
block_declared [] vs = vs
block_declared (a ∷ rest) vs = block_declared rest (declared_by a vs)

abbrev pub optional_draft : Option Stmt → List VarId → ℕ → List Draft
optional_draft None vs at = []
optional_draft (Some b) vs at = draft_of b vs at

-- a `for` with these parts
abbrev pub for_code : List Stmt → Option SlotId → Option Stmt → Stmt → List VarId → ℕ → List Draft
for_code first id next b vs at =
    let head = block_draft first vs at in
    let test = at + length head in
    let body = draft_of b [] (test + 1) in
    let last = optional_draft next (block_declared first vs) (test + 1 + length body) in
    head ++ for_draft id test body last (block_declared first [])

-- ---- a program's code

abbrev pub body_draft : List Stmt → ℕ → List Draft
body_draft [] at = []
body_draft (b ∷ rest) at = let first = draft_of b [] at in first ++ body_draft rest (at + length first)

-- outside a loop, `break` and `continue` go to the end of the function
abbrev pub closed : ℕ → Draft → Op
closed end (Made o) = o
closed end Breaks = op.Jump end
closed end Continues = op.Jump end

abbrev pub fun_code : List Stmt → ℕ → List Op
fun_code body at = let drafts = body_draft body at in map (closed (at + length drafts)) drafts ++ op.Fall ∷ []

abbrev pub funs_code : List Fun → ℕ → List Op
funs_code [] at = []
funs_code (f ∷ rest) at = let first = fun_code f.body at in first ++ funs_code rest (at + length first)

abbrev pub funs_starts : List Fun → ℕ → List ℕ
funs_starts [] at = []
funs_starts (f ∷ rest) at = at ∷ funs_starts rest (at + length (fun_code f.body at))

abbrev pub flat_code : Program → List Op
flat_code p = funs_code p.funs 0

abbrev pub flat_starts : Program → List ℕ
flat_starts p = funs_starts p.funs 0
