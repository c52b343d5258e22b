use Rattle.std.proofs.Common.{ℕ, List, true, slice_set, sym, subst}
use Rattle.ax_term.specs.Walk.{IsSeen}
use Rattle.ax_term.proofs.Walks.{seen_more}
use Rattle.ax_term.proofs.walk.leave.Goals as goal

pub returns-clause-seen : goal.returns-clause-seen
returns-clause-seen c =
    subst (λ (order : List ℕ). IsSeen c.args.bank.now (slice_set c.args.seen.now.marks.items c.args.number true) order) (sym c.in_ok-push.ensures.items)
    (seen_more c.args.bank.now c.args.seen.now.marks.items c.args.seen.now.order.items c.args.number c.len-size.ensures.sound c.requires.number c.requires.seen)
