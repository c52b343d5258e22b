use Rattle.ax_parse_grammar.proofs.Rows.{and_below_equal, minus_from_the_left, cond_from_the_right, else_is_the_nearest}
use Rattle.ax_parse_grammar.proofs.short_lists.Goals as goal

pub returns-clause-and : goal.returns-clause-and
returns-clause-and c = and_below_equal

pub returns-clause-minus : goal.returns-clause-minus
returns-clause-minus c = minus_from_the_left

pub returns-clause-cond : goal.returns-clause-cond
returns-clause-cond c = cond_from_the_right

pub returns-clause-nearest : goal.returns-clause-nearest
returns-clause-nearest c = else_is_the_nearest
