use Rattle.std.proofs.Common.{◌≡◌, sym, ap, subst, ◌∙◌, ◌+◌, ◌-◌, List, [], ◌∷◌, ◌++◌, take, get_or, arith}
use Rattle.std.proofs.lemmas.List.{take_more}
use Rattle.ax_prog.specs.declared.Stmt.{Stmt}
use Rattle.ax_prog.specs.declared.VarId.{VarId}
use Rattle.ax_meaning.specs.Execution.{declared_by, end_all}
use Rattle.ax_interp_plain.specs.Completions.{declared_after}
use Rattle.ax_interp_plain.proofs.BlockEnds.{declared_after-append, end_all-declared_by}
use Rattle.ax_interp_plain.proofs.blocks.end_declared.Goals as goal

pub back-preserved : goal.back-preserved
back-preserved c =
    let items : List Stmt = c.args.items.now in
    let left = c.back.left in
    let item : Stmt = c.index-items-left.result in
    let some = c.back-test.true in
    let inside = c.back.invariant.within in
    let one : left - 1 + 1 ≡ left = omega arith in
    let before : List VarId = declared_after (take (left - 1) items) [] in
    let split : take left items ≡ take (left - 1) items ++ get_or items (left - 1) item ∷ [] =
    subst (λ n. take n items ≡ take (left - 1) items ++ get_or items (left - 1) item ∷ []) one (take_more items (left - 1) item (omega arith)) in
    let vars : declared_after (take left items) [] ≡ declared_by item before =
    ap (λ xs. declared_after xs []) split ∙ declared_after-append (take (left - 1) items) (get_or items (left - 1) item) []
    ∙ ap (λ x. declared_by x before) (sym c.index-items-left.is) in
    record {
      within = omega arith;
      still = ap (end_all before) c.end_if_declared.ensures ∙ sym (end_all-declared_by item before c.back.state)
          ∙ ap (λ vs. end_all vs c.back.state) (sym vars) ∙ c.back.invariant.still;
    }
