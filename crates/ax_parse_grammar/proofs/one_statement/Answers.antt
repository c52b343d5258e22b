use Rattle.ax_parse_grammar.proofs.StatementsRead.{one_stmt}
use Rattle.ax_parse_grammar.proofs.one_statement.Goals as goal

pub returns : goal.returns
returns c = λ f g x y tokens a b. one_stmt f g x y tokens a b
