use Rattle.ax_tests_sat.proofs.sat.grown.Goals as goal

pub new-requires-clause-over : goal.new-requires-clause-over
new-requires-clause-over c = rw c.as_slice.ensures.value at (c.are_over.ensures.0 c.if-not-are_over.false)

pub add-requires-clause-over : goal.add-requires-clause-over
add-requires-clause-over c = c.are_over-2.ensures.0 c.if-not-are_over-2.false
