use Rattle.ax_top.proofs.Chosen.{mended, picked-chosen}
use Rattle.ax_top.proofs.answer.answer_to.Goals as goal

pub repair-requires-clause-chosen : goal.repair-requires-clause-chosen
repair-requires-clause-chosen c = picked-chosen c.args.program.now (c.args.order.now).sets c.args.picked c.requires.picked

pub returns-in_ok-report-in-Repaired : goal.returns-in_ok-report-in-Repaired
returns-in_ok-report-in-Repaired c =
    let found = rw c.in-Repaired.is at c.in_ok-repair.ensures in
    mended c.patches_are_writable.ensures c.repaired_passes.ensures c.stays_at_cost_0.ensures c.args.source.now c.args.program.now c.args.suite.now.tests c.args.order.now c.args.picked
    c.in-Repaired.it c.in_ok-report-in-Repaired.report c.requires.read c.requires.picked found c.in_ok-report-in-Repaired.ensures
