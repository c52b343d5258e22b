use Rattle.std.proofs.Common.{◌≡◌, ◌<◌, sym, subst, ap, arith, length}
use Rattle.ax_prog.specs.declared.Span.{Span}
use Rattle.ax_parse_places.specs.Fronts.{StopsAt}
use Rattle.ax_parse.proofs.Ends.{stops_before}
use Rattle.ax_parse.proofs.stop.Goals as goal

pub returns-then-count-tokens : goal.returns-then-count-tokens
returns-then-count-tokens c =
    let below : c.in_ok-count.count < length c.args.tokens.now = omega (arith, c.if-count-tokens.true) in
    stops_before c.args.tokens.now c.in_ok-count.count c.index-tokens-count.result below (c.in_ok-count.ensures.stops below)

pub returns : goal.returns
returns c = subst (λ (at : Span). StopsAt c.args.tokens.now at.to) (sym c.whole_extent.ensures) StopsAt.end
