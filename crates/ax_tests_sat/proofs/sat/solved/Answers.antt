use Rattle.ax_tests_sat.proofs.sat.solved.Goals as goal

pub solve-requires-clause-over : goal.solve-requires-clause-over
solve-requires-clause-over c = rw c.as_slice.ensures.value at (c.are_over.ensures.0 c.if-not-are_over.false)

pub solve-requires-clause-assumptions : goal.solve-requires-clause-assumptions
solve-requires-clause-assumptions c = c.is_over.ensures.0 c.if-not-is_over.false
