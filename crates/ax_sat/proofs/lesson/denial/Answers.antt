use Rattle.std.proofs.Common.{◌≡◌, ◌∙◌, ap, arith, List, ℕ}
use Rattle.std.proofs.lemmas.List.{take_all}
use Rattle.ax_proof.specs.Literal.{Literal}
use Rattle.ax_sat.specs.Levels.{denials}
use Rattle.ax_sat.proofs.Denying.{denials_apart}
use Rattle.ax_sat.proofs.lesson.denial.Goals as goal

pub line_of-requires : goal.line_of-requires
line_of-requires c =
    let f : List ℕ → List Literal = λ z. denials c.args.watch.now.trail z in
    let all : c.loop-start.denied.items ≡ denials c.args.watch.now.trail c.args.starts.now = c.loop-start.invariant ∙ ap f (take_all c.loop-start.start-index c.args.starts.now (omega arith)) in
    rw (c.as_slice.ensures.value, all) (denials_apart c.args.watch.now.clauses c.args.watch.now.trail c.args.watch.now.reasons c.args.starts.now c.requires.stands c.trail-trail.ensures.sound.consistent)
