use Rattle.std.proofs.Common.{sym, arith}
use Rattle.ax_space.proofs.Costs.{costed-is-patch}
use Rattle.ax_tests_space.proofs.spaces.first_applied.Goals as goal

pub apply-requires-clause-patch : goal.apply-requires-clause-patch
apply-requires-clause-patch c =
    let is = rw c.as_slice.ensures at c.patch-item.is in
    let long = rw c.as_slice.ensures at c.in-len1-up.len_at_least in
    costed-is-patch c.in_ok-space.space c.patch-item.result c.args.cost ((c.in_ok-found.ensures.sound c.patch-item.result (0, omega (arith, long), sym is)).0)

pub apply-requires-clause-fit : goal.apply-requires-clause-fit
apply-requires-clause-fit c =
    c.slots_fit.ensures c.args.source.now c.requires.tokens c.requires.tree c.args.program.now c.requires.spelled c.requires.parsed c.requires.meant
