use Rattle.std.proofs.Common.{ap, ◌∙◌, FitsSigned, rules, w32}
use Rattle.std.proofs.lemmas.Int.{to_z-of_z}
use Rattle.ax_term.specs.Values.{value_under}
use Rattle.ax_term.specs.Valuation.{interpretation_of}
use Rattle.ax_term.proofs.ValuationLemmas.{children_valued, tree-node}
use Rattle.ax_term.proofs.valuation.value_at.Goals as goal

pub evaluate-requires : goal.evaluate-requires
evaluate-requires c =
    let b = rw c.bank.view_is at c.bank.invariant.bank in
    rw c.requires.known (children_valued (interpretation_of c.args.valuation.now) c.args.bank.now c.args.term.now c.node.result.now b c.requires.among c.node.ensures)

pub returns : goal.returns
returns c =
    let f : FitsSigned w32 c.evaluate.result = search rules in
    to_z-of_z w32 c.evaluate.result f ∙ c.evaluate.ensures ∙ ap (value_under (interpretation_of c.args.valuation.now)) (tree-node c.args.term.now c.node.result.now c.node.ensures)
