-- A `for` from the codes of its parts.
use Rattle.std.proofs.Common.{◌≡◌, ℕ, ◌+◌, List, [], ◌++◌, length, Option, Result, IfOk}
use Rattle.ax_prog.specs.declared.SlotId.{SlotId}
use Rattle.ax_prog.specs.declared.VarId.{VarId}
use Rattle.ax_prog.specs.declared.Stmt.{Stmt}
use Rattle.ax_flow.specs.Drafts.{draft_of, block_draft, block_declared, optional_draft, for_draft, for_code}
use Rattle.ax_flow.specs.declared.Draft.{Draft}

pub for_done : {E : Type 0} (r : Result (List Draft) E) (first : List Stmt) (id : Option SlotId) (next : Option Stmt) (body : Stmt) (vs : List VarId) (at : ℕ) (head turn last : List Draft) (own : List VarId) →
    head ≡ block_draft first vs at → turn ≡ draft_of body [] (at + length head + 1) → last ≡ optional_draft next (block_declared first vs) (at + length head + 1 + length turn) → own ≡ block_declared first [] →
    IfOk r (λ it. it ≡ head ++ for_draft id (at + length head) turn last own) → IfOk r (λ it. it ≡ for_code first id next body vs at)
for_done r first id next body vs at head turn last own eh et el eo h = rw (← eh, ← et, ← el, ← eo) h
