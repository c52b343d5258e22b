use Rattle.std.proofs.Common.{◌≡◌, ◌∙◌, ap, sym, Some, slice_get, add-one, ℤ, [], ◌∷◌, ◌++◌, FitsSigned, rules, w32}
use Rattle.std.specs.Option.{option_copied}
use Rattle.std.proofs.lemmas.Int.{to_z-of_z}
use Rattle.ax_term.specs.Valuation.{interpretation_of}
use Rattle.ax_term.proofs.ValuationLemmas.{values_of-push}
use Rattle.ax_term.proofs.valuation.value.Goals as goal

pub loop-number-preserved : goal.loop-number-preserved
loop-number-preserved c =
    let i = interpretation_of c.args.valuation.now in
    let g : slice_get c.args.bank.now c.loop-number.number ≡ Some c.unwrap-earlier.result.now = sym c.get.ensures ∙ ap option_copied c.unwrap-earlier.ensures in
    let f : FitsSigned w32 c.value_at-value.result = search rules in
    rw (add-one, values_of-push i c.args.bank.now c.loop-number.number c.unwrap-earlier.result.now g, ← c.loop-number.invariant, ← c.value_at-value.ensures)
    (c.in_ok-push.ensures.items ∙ ap (λ (z : ℤ). c.loop-number.values.items ++ z ∷ []) (to_z-of_z w32 c.value_at-value.result f))
