use Rattle.std.proofs.Common.{◌∙◌, sym}
use Rattle.ax_proof.specs.Literal.{negation}
use Rattle.ax_proof.proofs.Codes.{coded, not_coded}
use Rattle.ax_proof.proofs.known.Known.truth.Goals as goal

pub returns-then-contains : goal.returns-then-contains
returns-then-contains c =
    let hit = rw c.code.ensures.value at (sym c.contains.ensures ∙ c.if-contains.true) in
    let stands = coded c.self.inside.codes.keys c.args.lit hit in
    rw (← c.self.view_is) (stands, λ h. c.self.invariant c.args.lit stands h)

pub returns-then-contains-2 : goal.returns-then-contains-2
returns-then-contains-2 c =
    let hit = rw (c.code-2.ensures.value, c.negate.ensures) at (sym c.contains-2.ensures ∙ c.if-contains-2.true) in
    let stands = coded c.self.inside.codes.keys (negation c.args.lit) hit in
    rw (← c.self.view_is) (stands, λ h. c.self.invariant c.args.lit h stands)

pub returns : goal.returns
returns c =
    let one = rw c.code.ensures.value at (sym c.contains.ensures ∙ c.if-contains.false) in
    let other = rw (c.code-2.ensures.value, c.negate.ensures) at (sym c.contains-2.ensures ∙ c.if-contains-2.false) in
    rw (← c.self.view_is) (not_coded c.self.inside.codes.keys c.args.lit one, not_coded c.self.inside.codes.keys (negation c.args.lit) other)
