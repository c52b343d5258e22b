use Rattle.ax_term.specs.Order.{trees}
use Rattle.ax_term.proofs.Orders.{order_after, order_once, order_asserted, order_named}
use Rattle.ax_term.proofs.walk.order.Goals as goal

pub returns-clause-after_children : goal.returns-clause-after_children
returns-clause-after_children c = order_after (trees c.args.asserted.now) (trees c.args.named.now)

pub returns-clause-none_twice : goal.returns-clause-none_twice
returns-clause-none_twice c = order_once (trees c.args.asserted.now) (trees c.args.named.now)

pub returns-clause-asserted : goal.returns-clause-asserted
returns-clause-asserted c = order_asserted (trees c.args.asserted.now) (trees c.args.named.now)

pub returns-clause-named : goal.returns-clause-named
returns-clause-named c = order_named (trees c.args.asserted.now) (trees c.args.named.now)
