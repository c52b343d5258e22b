use Rattle.std.proofs.Common.{refl}
use Rattle.ax_tests_search.proofs.watching.add.Goals as goal

pub add-requires-clause-over : goal.add-requires-clause-over
add-requires-clause-over c = c.if-not-covers.ensures.0 refl
