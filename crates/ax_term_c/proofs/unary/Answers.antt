use Rattle.ax_term_c.specs.Terms.{trees}
use Rattle.ax_term_c.proofs.Laws.{unary_law}
use Rattle.ax_term_c.proofs.unary.Goals as goal

pub returns-in_err-at-clause-means : goal.returns-in_err-at-clause-means
returns-in_err-at-clause-means c = λ i. unary_law i c.args.op (trees c.args.a.now)

pub returns-clause-means : goal.returns-clause-means
returns-clause-means c = λ i. unary_law i c.args.op (trees c.args.a.now)
