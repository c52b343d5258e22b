use Rattle.std.proofs.Common.{◌≡◌, subst, sym, Some}
use Rattle.ax_meaning.specs.declared.Cell.TheVariants.{Int}
use Rattle.ax_meaning.specs.Execution.{Returned}
use Rattle.ax_interp_acts.proofs.passing.passes.Goals as goal

pub returns-clause-passes : goal.returns-clause-passes
returns-clause-passes c = λ program steps same. (
  λ true.
      let shows = c.shows_pass.ensures.0 true in
      record {
        returned = subst (λ x. x.ending ≡ Returned (Some (Int c.args.test.now.ret))) same shows.returned;
        printed = subst (λ x. x.output ≡ c.args.test.now.outputs) same shows.printed;
      },
  λ passed.
      c.shows_pass.ensures.1
      (record {
        returned = subst (λ x. x.ending ≡ Returned (Some (Int c.args.test.now.ret))) (sym same) passed.returned;
        printed = subst (λ x. x.output ≡ c.args.test.now.outputs) (sym same) passed.printed;
      }),
)
