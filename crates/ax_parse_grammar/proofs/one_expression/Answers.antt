use Rattle.ax_parse_grammar.proofs.ExpressionsRead.{one_expr}
use Rattle.ax_parse_grammar.proofs.one_expression.Goals as goal

pub returns : goal.returns
returns c = λ x y tokens a b. one_expr x y tokens a b
