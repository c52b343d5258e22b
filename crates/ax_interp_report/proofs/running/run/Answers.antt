use Rattle.std.proofs.Common.{◌≡◌, ◌⊎◌, inl, inr, true, false}
use Rattle.ax_interp_report.proofs.Judged.{outcome}
use Rattle.ax_interp_report.proofs.running.run.Goals.{then-all_pass, else-all_pass}
use Rattle.ax_interp_report.proofs.running.run.Goals as goal

pub returns : goal.returns
returns c =
    let ends : ((c.all_pass.result ≡ true) × (c.if-all_pass.status ≡ 0)) ⊎ ((c.all_pass.result ≡ false) × (c.if-all_pass.status ≡ 1)) =
    elim c.if-all_pass.branch [
      | then-all_pass w ↦ inl (w.if-all_pass.true, w.status-is)
      | else-all_pass w ↦ inr (w.if-all_pass.false, w.status-is)
    ] in
    outcome c.args.program.now c.args.steps c.as_slice.result.now c.args.suite.now.tests c.in_ok-verdicts.verdicts.items c.as_slice-2.result.now
    c.as_slice-3.result.now c.in_ok-report.report.items c.all_pass.result c.if-all_pass.status c.as_slice.ensures c.in_ok-verdicts.ensures
    c.as_slice-2.ensures.value c.in_ok-report.ensures c.as_slice-3.ensures.value c.all_pass.ensures ends
