use Rattle.std.proofs.Common.{◌≡◌, ◌+◌, ◌≤◌, ◌<◌, Bool, true, false, List, Some, None, sym, ap, ◌∙◌, arith, length, get_or, reverse}
use Rattle.ax_parse_places.specs.Turns.{Stack, step, moved}
use Rattle.ax_parse_places.proofs.SourcesRun.{still_more, begins_none}
use Rattle.ax_parse_places.proofs.place.Goals as goal

pub returns-then-not-branch-clause-stops : goal.returns-then-not-branch-clause-stops
returns-then-not-branch-clause-stops c =
    let tokens = c.args.tokens.now in
    let t = c.index-tokens-at.result in
    let s : Stack = reverse c.loop-at.stack in
    let none : step s (get_or tokens c.loop-at.at t).kind ≡ None = sym c.in_ok-step.ensures ∙ ap (λ (b : Bool). moved b c.step.new.stack) c.if-not-branch.true in
    λ below. begins_none tokens c.loop-at.at t below s c.loop-at.invariant.1 none

pub loop-at-preserved : goal.loop-at-preserved
loop-at-preserved c =
    let tokens = c.args.tokens.now in
    let t = c.index-tokens-at.result in
    let s : Stack = reverse c.loop-at.stack in
    let r : Stack = reverse c.step.new.stack in
    let below : c.loop-at.at < length tokens = omega (arith, c.loop-at-test.true) in
    let some : step s (get_or tokens c.loop-at.at t).kind ≡ Some r = sym c.in_ok-step.ensures ∙ ap (λ (b : Bool). moved b c.step.new.stack) c.if-not-branch.false in
    (omega (arith, below), still_more tokens c.loop-at.at t below s r c.loop-at.invariant.1 some)
