use Rattle.std.proofs.Common.{sym, subst}
use Rattle.std.proofs.lemmas.Result.{err_from_is_err_and, IfOk-weaker, IfErr-weaker}
use Rattle.ax_front.specs.Texts.{SpellsFew}
use Rattle.ax_front.proofs.Refusals.{lex_refuses, tree_fault, tree_refuses, limits, program_fault, program_refuses}
use Rattle.ax_front.proofs.read_source.Goals as goal

pub returns-in_err-tokens-clause-none : goal.returns-in_err-tokens-clause-none
returns-in_err-tokens-clause-none c =
    let p = err_from_is_err_and c.from_residual.result c.from_residual.ensures.1 in
    rw (p.1, p.2) (lex_refuses c.args.bytes.now c.in_err-tokens.field-0.0 c.in_err-tokens.ensures.unspelled)

pub returns-in_err-tree-clause-fault : goal.returns-in_err-tree-clause-fault
returns-in_err-tree-clause-fault c =
    let p = err_from_is_err_and c.from_residual-in_err-tree.result c.from_residual-in_err-tree.ensures.1 in
    let few = subst (SpellsFew c.args.bytes.now) (sym c.as_slice.ensures) (c.in_ok-tokens.ensures.spelled, c.in_ok-tokens.ensures.few) in
    rw (p.1, p.2) (tree_fault c.args.bytes.now _ few c.in_err-tree.field-0.0 c.in_err-tree.ensures.refused)

pub returns-in_err-tree-clause-none : goal.returns-in_err-tree-clause-none
returns-in_err-tree-clause-none c =
    let p = err_from_is_err_and c.from_residual-in_err-tree.result c.from_residual-in_err-tree.ensures.1 in
    let few = subst (SpellsFew c.args.bytes.now) (sym c.as_slice.ensures) (c.in_ok-tokens.ensures.spelled, c.in_ok-tokens.ensures.few) in
    rw (p.1, p.2) (tree_refuses c.args.bytes.now _ few c.in_err-tree.field-0.0 c.in_err-tree.ensures.refused)

pub returns-clause-limits : goal.returns-clause-limits
returns-clause-limits c =
    let read = c.in_ok-tree.ensures in
    let few = subst (SpellsFew c.args.bytes.now) (sym c.as_slice.ensures) (c.in_ok-tokens.ensures.spelled, c.in_ok-tokens.ensures.few) in
    IfOk-weaker c.program_of.result _ _ (λ p m. limits c.args.bytes.now _ few read.shallow c.in_ok-tree.tree read.spelled read.small) c.program_of.ensures.meant

pub returns-clause-fault : goal.returns-clause-fault
returns-clause-fault c =
    let read = c.in_ok-tree.ensures in
    let few = subst (SpellsFew c.args.bytes.now) (sym c.as_slice.ensures) (c.in_ok-tokens.ensures.spelled, c.in_ok-tokens.ensures.few) in
    IfErr-weaker c.program_of.result _ _ (program_fault c.args.bytes.now _ few read.shallow c.in_ok-tree.tree read.spelled read.outside read.small) c.program_of.ensures.refused

pub returns-clause-none : goal.returns-clause-none
returns-clause-none c =
    let read = c.in_ok-tree.ensures in
    let few = subst (SpellsFew c.args.bytes.now) (sym c.as_slice.ensures) (c.in_ok-tokens.ensures.spelled, c.in_ok-tokens.ensures.few) in
    IfErr-weaker c.program_of.result _ _ (program_refuses c.args.bytes.now _ few read.shallow c.in_ok-tree.tree read.spelled) c.program_of.ensures.refused
