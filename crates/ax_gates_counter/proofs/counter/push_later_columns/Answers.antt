use Rattle.std.proofs.Common.{◌++◌, List, ap, ◌∙◌}
use Rattle.ax_gates.specs.Gates.{as_clauses}
use Rattle.ax_gates_counter.specs.Counter.{later_column, later_columns}
use Rattle.ax_proof.specs.Literal.{Literal}
use Rattle.ax_gates.specs.Words.{fresh}
use Rattle.ax_proof.proofs.Runs.{begins_along}
use Rattle.ax_gates_counter.proofs.Laws.{column_step, vars_step}
use Rattle.ax_gates_counter.proofs.counter.push_later_columns.Goals as goal

pub loop-preserved : goal.loop-preserved
loop-preserved c = record {
  vars = vars_step c.push_later_column.new.cnf.vars c.loop.cnf.vars c.args.cnf.now.vars _ c.loop.counter c.in_ok-column.ensures.vars c.loop.invariant.vars;
  width = c.in_ok-column.ensures.width;
  clauses = column_step (c.args.cnf.now.clauses.items ++ as_clauses (later_columns c.args.cnf.now.vars c.args.inputs.now c.args.more c.args.first.items)) c.loop.cnf.clauses.items c.push_later_column.new.cnf.clauses.items c.loop.cnf.vars c.push_later_column.new.cnf.vars c.args.inputs.now c.args.more c.loop.counter c.loop.column.items c.in_ok-column.column.items
      c.loop-test.true c.loop.invariant.clauses
      (c.in_ok-column.ensures.appends ∙ ap (λ (ps : List Literal). c.loop.cnf.clauses.items ++ as_clauses (later_column c.args.inputs.now ps (fresh c.loop.cnf.vars c.args.inputs.now))) c.deref.ensures.value)
      c.in_ok-column.ensures.outs c.in_ok-column.ensures.vars;
  begins = begins_along c.args.cnf.now.clauses.items c.loop.cnf.clauses.items c.push_later_column.new.cnf.clauses.items c.loop.invariant.begins c.push_later_column.ensures.begins;
}
