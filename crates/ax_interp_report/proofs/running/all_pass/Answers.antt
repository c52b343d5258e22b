use Rattle.std.proofs.Common.{rules, ◌≡◌, true, List, get_or, refl, subst, take_all}
use Rattle.std.specs.List.{All}
use Rattle.std.proofs.lemmas.List.Elements.{All-more}
use Rattle.ax_interp_report.specs.declared.verdict.Verdict.{Verdict}
use Rattle.ax_interp_report.specs.declared.verdict.Verdict.TheVariants.{Passes}
use Rattle.ax_interp_report.specs.Texts.{passes}
use Rattle.ax_interp_report.proofs.running.all_pass.Goals as goal

pub loop-verdict-preserved : goal.loop-verdict-preserved
loop-verdict-preserved c =
    let here : passes (get_or c.args.verdicts.now c.loop-verdict.verdict-index Passes) ≡ true = search rules in
    All-more (λ (v : Verdict). passes v ≡ true) c.args.verdicts.now c.loop-verdict.verdict-index Passes c.loop-verdict-test.true c.loop-verdict.invariant here

pub returns : goal.returns
returns c =
    let whole = take_all c.loop-verdict.verdict-index c.args.verdicts.now c.loop-verdict-test.false in
    ((λ t. subst (λ (l : List Verdict). All (λ (v : Verdict). passes v ≡ true) l) whole c.loop-verdict.invariant), (λ all. refl))
