use Rattle.ax_watch.proofs.reach.lower.Goals as goal

pub returns-in_err-from-in-Some-clause-marks : goal.returns-in_err-from-in-Some-clause-marks
returns-in_err-from-in-Some-clause-marks c = λ len h. let q = c.cut.ensures len h in (q.0, c.in-Some.bound, c.in-Some.is, q.1)

pub returns-in_ok-from-in-Some-clause-marks : goal.returns-in_ok-from-in-Some-clause-marks
returns-in_ok-from-in-Some-clause-marks c = λ len h. let q = c.cut.ensures len h in (q.0, c.in-Some.bound, c.in-Some.is, q.1)
