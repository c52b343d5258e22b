use Rattle.ax_flow.proofs.Follow.{flat_runs, comes_to_one}
use Rattle.ax_flow.proofs.flat_code_runs.Goals as goal

pub returns-clause-runs : goal.returns-clause-runs
returns-clause-runs c = flat_runs

pub returns-clause-one : goal.returns-clause-one
returns-clause-one c = comes_to_one
