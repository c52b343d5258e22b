use Rattle.ax_sat.proofs.Decisions.{decided_free}
use Rattle.ax_sat.proofs.descent.step.Goals as goal

pub returns-in_ok-decide-in-Some-clause-says : goal.returns-in_ok-decide-in-Some-clause-says
returns-in_ok-decide-in-Some-clause-says c =
    let said = rw c.in-Stand.is at c.in_ok-ask.ensures.says in
    let made = rw said.0 at c.in_ok-decide-in-Some.ensures.watch in
    let put = rw said.0 at c.in_ok-decide-in-Some.ensures.starts in
    let paired = rw said.0 at c.trail-known.ensures.sound.trail.paired in
    let stands = rw said.0 at said.1 in
    let asks = rw said.0 at said.2 in
    let all = rw said.0 at said.3 in
    decided_free c.args.watch.now _ c.args.assumptions.now c.in-Some.lit _ _ _ _ _ _ made put stands asks paired c.requires.settled c.decide.ensures.roots c.decide.ensures.asked all
