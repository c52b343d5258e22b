use Rattle.std.proofs.Common.{rules, ◌≡◌, ◌∷◌, ◌+◌, ◌-◌, suc, drop, append_assoc, add-one, arith}
use Rattle.std.specs.Prelude.{slice_get}
use Rattle.std.proofs.lemmas.List.{append-nil}
use Rattle.std.proofs.lemmas.Int.{to_z-of_z}
use mir.Syntax.{w32}
use mir.Val.{SFits}
use Rattle.ax_meaning.specs.declared.Cell.TheVariants.{Int}
use Rattle.ax_meaning.specs.Acts.{listed}
use Rattle.ax_interp_acts.specs.Sources.{int_or_zero}
use Rattle.ax_interp_acts.proofs.Listed.{listed-drop, listed-zero}
use Rattle.ax_interp_acts.proofs.declaring.listed_cells.Goals as goal

pub loop-at-preserved : goal.loop-at-preserved
loop-at-preserved c =
    let at = c.loop-at.at in
    let count = c.args.count in
    let zs = c.args.numbers.now in
    let below = c.loop-at-test.true in
    let f : SFits w32 c.number_at.result = search rules in
    let one : count - at ≡ suc (count - (at + 1)) = omega arith in
    let step : listed (count - at) (drop at zs) ≡ Int (int_or_zero (slice_get zs at)) ∷ listed (count - (at + 1)) (drop (at + 1) zs) =
    rw (one, add-one) (listed-drop (count - suc at) at zs) in
    rw (c.in_ok-push.ensures.ok, append_assoc, to_z-of_z w32 c.number_at.result f, c.number_at.ensures) (rw step at c.loop-at.invariant)

pub returns : goal.returns
returns c =
    let past = c.loop-at-test.false in
    let none : c.args.count - c.loop-at.at ≡ 0 = omega arith in
    rw (none, listed-zero, append-nil) at c.loop-at.invariant
