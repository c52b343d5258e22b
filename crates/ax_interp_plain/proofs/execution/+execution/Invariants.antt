use Rattle.std.proofs.Common.{◌≡◌, ◌+◌, ◌≤◌, [], suc, take, drop}
use Rattle.ax_meaning.specs.Acts.{condition_or_true}
use Rattle.ax_meaning.specs.Execution.{execution_of, block_execution, body_execution, calls, turns}
use Rattle.ax_interp_plain.specs.Completions.{setting_of, execution_of_optional, declared_after, stay}
use Rattle.ax_interp_plain.specs.Weights.{weight, weights, optional_weight, room}
use Rattle.ax_interp_plain.proofs.execution.+execution.Given as goal

abbrev pub decreases-statement : goal.decreases-statement
decreases-statement l = room l.plain.now.layout.program.now l.calls + weight l.tree.now

abbrev pub decreases-block : goal.decreases-block
decreases-block l = room l.plain.now.layout.program.now l.calls + weights l.items.now + 1

abbrev pub decreases-for_loop : goal.decreases-for_loop
decreases-for_loop l = room l.plain.now.layout.program.now l.calls + weights l.first.now + optional_weight l.next.now + weight l.body.now + 3

abbrev pub decreases-repeat : goal.decreases-repeat
decreases-repeat l = room l.plain.now.layout.program.now l.calls + weight l.body.now + optional_weight l.next.now + 2

abbrev pub decreases-turn : goal.decreases-turn
decreases-turn l = room l.plain.now.layout.program.now l.calls + weight l.body.now + optional_weight l.next.now + 1

abbrev pub decreases-assigned : goal.decreases-assigned
decreases-assigned l = room l.plain.now.layout.program.now l.calls + 3

abbrev pub decreases-declared : goal.decreases-declared
decreases-declared l = room l.plain.now.layout.program.now l.calls + 3

abbrev pub decreases-given : goal.decreases-given
decreases-given l = room l.plain.now.layout.program.now l.calls + 3

abbrev pub decreases-called : goal.decreases-called
decreases-called l = room l.plain.now.layout.program.now l.calls + 2

abbrev pub decreases-call : goal.decreases-call
decreases-call l = room l.plain.now.layout.program.now l.calls

abbrev pub decreases-body : goal.decreases-body
decreases-body l = room l.plain.now.layout.program.now l.calls + weights l.items.now + 1

abbrev pub invariant-block-loop-at : goal.invariant-block-loop-at
invariant-block-loop-at l =
    block_execution (setting_of l.plain) (calls (setting_of l.plain) l.calls) (drop l.at l.items) (declared_after (take l.at l.items) []) stay l.state
    ≡ block_execution (setting_of l.plain) (calls (setting_of l.plain) l.calls) l.items [] stay l.fn.state

abbrev pub invariant-body-loop-at : goal.invariant-body-loop-at
invariant-body-loop-at l =
    body_execution (setting_of l.plain) (calls (setting_of l.plain) l.calls) (drop l.at l.items) l.state
    ≡ body_execution (setting_of l.plain) (calls (setting_of l.plain) l.calls) l.items l.fn.state

abbrev pub invariant-repeat-turns : goal.invariant-repeat-turns
invariant-repeat-turns l = record {
  within : l.left ≤ suc l.plain.steps;
  still :
      turns l.left (condition_or_true (setting_of l.plain) l.test) (execution_of (setting_of l.plain) (calls (setting_of l.plain) l.calls) l.body)
      (execution_of_optional (setting_of l.plain) (calls (setting_of l.plain) l.calls) l.next) l.state
      ≡ turns (suc l.plain.steps) (condition_or_true (setting_of l.plain) l.test) (execution_of (setting_of l.plain) (calls (setting_of l.plain) l.calls) l.body)
      (execution_of_optional (setting_of l.plain) (calls (setting_of l.plain) l.calls) l.next) l.fn.state;
}

abbrev pub decreases-repeat-turns : goal.decreases-repeat-turns
decreases-repeat-turns l = l.left
