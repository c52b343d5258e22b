-- The code of a statement, one equation for each constructor that has children.
use Rattle.std.proofs.Common.{◌≡◌, ℕ, ◌+◌, List, [], ◌∷◌, ◌++◌, length, Option, Some, None, refl, ap, ◌∙◌}
use Rattle.ax_prog.specs.declared.SlotId.{SlotId}
use Rattle.ax_prog.specs.declared.VarId.{VarId}
use Rattle.ax_prog.specs.declared.Stmt.{Stmt}
use Rattle.ax_prog.specs.declared.Stmt.TheVariants as s
use Rattle.ax_prog.specs.declared.Stmt.TheBlock.{shape-the_row-Stmt-0, hidden-the_row-Stmt-0, shape-the_row-Stmt-1, hidden-the_row-Stmt-1}
use Rattle.ax_meaning.specs.Execution.{declared_by}
use Rattle.ax_flow.specs.Flat.{row_declared}
use Rattle.ax_flow.specs.Drafts.{draft_of, row_draft, held_draft, ends_draft, if_draft, else_draft, while_draft, do_draft, for_draft, block_draft, block_declared, optional_draft, for_code}
use Rattle.ax_flow.specs.declared.Draft.{Draft}
use denote.Hole.Carrier

row_draft-list : (items : List Stmt) (vs : List VarId) (at : ℕ) → row_draft (hidden-the_row-Stmt-0 items) vs at ≡ block_draft items vs at
unfolding shape-the_row-Stmt-1 hidden-the_row-Stmt-1 shape-the_row-Stmt-0 hidden-the_row-Stmt-0 Carrier.hidden
row_draft-list [] vs at = refl
row_draft-list (a ∷ items) vs at =
    ap (λ rest. draft_of a vs at ++ rest) (row_draft-list items (declared_by a vs) (at + length (draft_of a vs at)))

row_declared-list : (items : List Stmt) (vs : List VarId) → row_declared (hidden-the_row-Stmt-0 items) vs ≡ block_declared items vs
unfolding shape-the_row-Stmt-1 hidden-the_row-Stmt-1 shape-the_row-Stmt-0 hidden-the_row-Stmt-0 Carrier.hidden
row_declared-list [] vs = refl
row_declared-list (a ∷ items) vs = row_declared-list items (declared_by a vs)

pub draft_of-Block : (items : List Stmt) (vs : List VarId) (at : ℕ) → draft_of (s.Block items) vs at ≡ block_draft items vs at ++ ends_draft (block_declared items [])
unfolding shape-the_row-Stmt-1 hidden-the_row-Stmt-1 shape-the_row-Stmt-0 hidden-the_row-Stmt-0 Carrier.hidden
draft_of-Block items vs at =
    ap (λ ds. ds ++ ends_draft (row_declared (hidden-the_row-Stmt-0 items) [])) (row_draft-list items vs at)
    ∙ ap (λ ws. block_draft items vs at ++ ends_draft ws) (row_declared-list items [])

pub draft_of-If : (id : SlotId) (a : Stmt) (vs : List VarId) (at : ℕ) → draft_of (s.If id a None) vs at ≡ if_draft id at (draft_of a vs (at + 1))
unfolding shape-the_row-Stmt-1 hidden-the_row-Stmt-1 shape-the_row-Stmt-0 hidden-the_row-Stmt-0 Carrier.hidden
draft_of-If id a vs at = refl

pub draft_of-If_else : (id : SlotId) (a b : Stmt) (vs : List VarId) (at : ℕ) → draft_of (s.If id a (Some b)) vs at ≡ else_draft id at (draft_of a vs (at + 1)) (draft_of b vs (at + 1 + length (draft_of a vs (at + 1)) + 1))
unfolding shape-the_row-Stmt-1 hidden-the_row-Stmt-1 shape-the_row-Stmt-0 hidden-the_row-Stmt-0 Carrier.hidden
draft_of-If_else id a b vs at = refl

pub draft_of-While : (id : SlotId) (a : Stmt) (vs : List VarId) (at : ℕ) → draft_of (s.While id a) vs at ≡ while_draft id at (draft_of a [] (at + 1))
unfolding shape-the_row-Stmt-1 hidden-the_row-Stmt-1 shape-the_row-Stmt-0 hidden-the_row-Stmt-0 Carrier.hidden
draft_of-While id a vs at = refl

pub draft_of-Do : (a : Stmt) (id : SlotId) (vs : List VarId) (at : ℕ) → draft_of (s.Do a id) vs at ≡ do_draft id at (draft_of a [] at)
unfolding shape-the_row-Stmt-1 hidden-the_row-Stmt-1 shape-the_row-Stmt-0 hidden-the_row-Stmt-0 Carrier.hidden
draft_of-Do a id vs at = refl

-- a `for` whose header has this code and these variables
abbrev with_head : List Stmt → Option SlotId → Option Stmt → Stmt → List VarId → ℕ → List Draft → List VarId → List VarId → List Draft
with_head first id next a vs at head opened own =
    let test = at + length head in
    let body = draft_of a [] (test + 1) in
    head ++ for_draft id test body (optional_draft next opened (test + 1 + length body)) own

pub draft_of-For : (first : List Stmt) (id : Option SlotId) (next : Option Stmt) (a : Stmt) (vs : List VarId) (at : ℕ) → draft_of (s.For first id next a) vs at ≡ for_code first id next a vs at
unfolding shape-the_row-Stmt-1 hidden-the_row-Stmt-1 shape-the_row-Stmt-0 hidden-the_row-Stmt-0 Carrier.hidden
draft_of-For first id None a vs at =
    ap (λ head. with_head first id None a vs at head (row_declared (hidden-the_row-Stmt-0 first) vs) (row_declared (hidden-the_row-Stmt-0 first) [])) (row_draft-list first vs at)
    ∙ ap (λ opened. with_head first id None a vs at (block_draft first vs at) opened (row_declared (hidden-the_row-Stmt-0 first) [])) (row_declared-list first vs)
    ∙ ap (λ own. with_head first id None a vs at (block_draft first vs at) (block_declared first vs) own) (row_declared-list first [])
draft_of-For first id (Some next) a vs at =
    ap (λ head. with_head first id (Some next) a vs at head (row_declared (hidden-the_row-Stmt-0 first) vs) (row_declared (hidden-the_row-Stmt-0 first) [])) (row_draft-list first vs at)
    ∙ ap (λ opened. with_head first id (Some next) a vs at (block_draft first vs at) opened (row_declared (hidden-the_row-Stmt-0 first) [])) (row_declared-list first vs)
    ∙ ap (λ own. with_head first id (Some next) a vs at (block_draft first vs at) (block_declared first vs) own) (row_declared-list first [])

pub ruleset drafts = (draft_of-Block, draft_of-If, draft_of-If_else, draft_of-While, draft_of-Do, draft_of-For)
