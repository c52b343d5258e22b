use Rattle.std.proofs.Common.{IsTrue}
use Rattle.ax_flow.specs.Machine.{Final, Go, Comes}
use Rattle.ax_interp.specs.Moves.{setting_of, here_of}
use Rattle.ax_interp.specs.Gaps.{AllEnded}
use Rattle.ax_interp.proofs.Ops.{stops_within, ops_left, ops_of_run}
use Rattle.ax_interp.proofs.running.run_ops.Given as goal

abbrev pub invariant-ops : goal.invariant-ops
invariant-ops l = record {
  stops : IsTrue (stops_within (setting_of l.context) l.context.flow.now.code l.context.flow.now.starts (ops_of_run l.context.layout.program.now l.fn.machine.state.inputs l.context.steps) (Go (here_of l.now)));
  back : (f : Final) → Comes (setting_of l.context) l.context.flow.now.code l.context.flow.now.starts f (Go (here_of l.now)) → Comes (setting_of l.context) l.context.flow.now.code l.context.flow.now.starts f (Go (here_of l.fn.machine));
  ended : AllEnded l.gaps ((l.now.state).store).objects;
}

abbrev pub decreases-ops : goal.decreases-ops
decreases-ops l = ops_left (setting_of l.context) l.context.flow.now.code l.context.flow.now.starts (ops_of_run l.context.layout.program.now l.fn.machine.state.inputs l.context.steps) (Go (here_of l.now))
