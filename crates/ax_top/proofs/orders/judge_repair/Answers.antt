use Rattle.std.proofs.Common.{◌≡◌, rules}
use Rattle.std.specs.Prelude.{Err}
use Rattle.ax_top.specs.Orders.{at_picks}
use Rattle.ax_top.proofs.Judged.{fine_under}
use Rattle.ax_top.proofs.orders.judge_repair.Goals as goal

pub returns-in_err-judge_picks-clause-judged : goal.returns-in_err-judge_picks-clause-judged
returns-in_err-judge_picks-clause-judged g c =
    let is : c.from_residual-in_err-judge_picks.result ≡ Err c.in_err-judge_picks.field-0.0 = search rules in
    rw is (at_picks c.in_ok-judge_choice.ensures _ _ _ (fine_under _ _ _ _ _ _ _ _ c.as_str.ensures.value c.as_str-2.ensures.value c.in_ok-judged.ensures.judged) c.in_err-judge_picks.ensures)
