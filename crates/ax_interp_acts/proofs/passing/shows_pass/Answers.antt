use Rattle.std.proofs.Common.{rules, ◌≡◌, sym, ap, ◌∙◌}
use Rattle.std.proofs.lemmas.Int.{to_z-of_z}
use mir.Syntax.{w32}
use mir.Val.{SFits, to_z}
use Rattle.ax_interp_acts.proofs.Shown.{shows_is, shows_out}
use Rattle.ax_interp_acts.proofs.passing.shows_pass.Goals as goal

pub returns-then-ret-test : goal.returns-then-ret-test
returns-then-ret-test c =
    let run = c.args.run.now in
    let test = c.args.test.now in
    let ret_fits : SFits w32 c.in-Returned.ret = search rules in
    let test_fits : SFits w32 c.args.test.now.ret = search rules in
    let same_ret : c.in-Returned.ret ≡ c.args.test.now.ret =
    sym (to_z-of_z w32 c.in-Returned.ret ret_fits) ∙ ap (to_z w32) c.if-ret-test.true ∙ to_z-of_z w32 c.args.test.now.ret test_fits in (
      λ h.
          shows_is run test c.in-Returned.out c.in-Returned.ret c.in-Returned.is same_ret
          (sym c.as_slice.ensures ∙ c.same_numbers.ensures.0 h ∙ c.as_slice-then-ret-test.ensures),
      λ shows.
          c.same_numbers.ensures.1
          (c.as_slice.ensures ∙ shows_out run test c.in-Returned.out c.in-Returned.ret c.in-Returned.is shows ∙ sym c.as_slice-then-ret-test.ensures),
    )
