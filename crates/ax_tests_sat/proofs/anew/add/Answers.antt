use Rattle.ax_tests_sat.proofs.anew.add.Goals as goal

pub put-requires : goal.put-requires
put-requires c = c.covers.ensures.0 c.if-not-covers.false
