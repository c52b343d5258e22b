use Rattle.ax_parse_grammar.proofs.SourcesRead.{one_source}
use Rattle.ax_parse_grammar.proofs.one_tree.Goals as goal

pub returns : goal.returns
returns c = λ x y tokens a b. one_source x y tokens a b
