use Rattle.std.proofs.Common.{◌≡◌, refl, ap}
use Rattle.std.proofs.lemmas.Result.{err_from_is_err_and}
use Rattle.ax_prog.specs.declared.Span.{Span}
use Rattle.ax_parse_grammar.specs.declared.tree.Tree.{Tree}
use Rattle.ax_parse_grammar.specs.ReadSources.{tree_of}
use Rattle.ax_parse.proofs.Ends.{spelled, unspelled}
use Rattle.ax_parse.proofs.trees.read_tree.Goals as goal

pub returns-in_err-found-clause-none : goal.returns-in_err-found-clause-none
returns-in_err-found-clause-none c =
    let p = err_from_is_err_and c.from_residual.result c.from_residual.ensures.1 in
    rw (p.1, p.2) (unspelled c.args.tokens.now c.in_err-found.field-0.0 c.in_err-found.ensures)

pub returns-clause-spelled : goal.returns-clause-spelled
returns-clause-spelled c = spelled c.args.tokens.now c.in_ok-found.found (tree_of c.whole_extent.result c.in_ok-found.found) c.in_ok-found.ensures (ap (λ (at : Span). tree_of at c.in_ok-found.found) c.whole_extent.ensures)
