use Rattle.ax_term_c.specs.Terms.{trees}
use Rattle.ax_term_c.proofs.Laws.{choice_law}
use Rattle.ax_term_c.proofs.choose.Goals as goal

pub returns-in_err-yes-clause-means : goal.returns-in_err-yes-clause-means
returns-in_err-yes-clause-means c = λ i. choice_law i (trees c.args.f.now) (trees c.args.a.now) (trees c.args.b.now)

pub returns-in_err-value-clause-means : goal.returns-in_err-value-clause-means
returns-in_err-value-clause-means c = λ i. choice_law i (trees c.args.f.now) (trees c.args.a.now) (trees c.args.b.now)

pub returns-in_err-asked_first-clause-means : goal.returns-in_err-asked_first-clause-means
returns-in_err-asked_first-clause-means c = λ i. choice_law i (trees c.args.f.now) (trees c.args.a.now) (trees c.args.b.now)

pub returns-in_err-no-clause-means : goal.returns-in_err-no-clause-means
returns-in_err-no-clause-means c = λ i. choice_law i (trees c.args.f.now) (trees c.args.a.now) (trees c.args.b.now)

pub returns-in_err-asked_second-clause-means : goal.returns-in_err-asked_second-clause-means
returns-in_err-asked_second-clause-means c = λ i. choice_law i (trees c.args.f.now) (trees c.args.a.now) (trees c.args.b.now)

pub returns-in_err-asked-clause-means : goal.returns-in_err-asked-clause-means
returns-in_err-asked-clause-means c = λ i. choice_law i (trees c.args.f.now) (trees c.args.a.now) (trees c.args.b.now)
