use Rattle.std.proofs.Common.{◌≡◌}
use Rattle.ax_sat_policy.proofs.Choosing.{Fills}
use Rattle.ax_sat_policy.proofs.anew.fill.Given as goal

abbrev pub invariant-loop-place : goal.invariant-loop-place
invariant-loop-place l = record {
  fills : Fills l.watch.clauses l.kept l.made.clauses l.place;
  vars : l.made.vars ≡ l.initial.made.vars;
  trail : l.made.trail ≡ l.initial.made.trail;
}
