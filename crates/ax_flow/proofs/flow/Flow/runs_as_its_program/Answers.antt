use Rattle.std.proofs.Common.{◌≡◌, subst, sym}
use Rattle.ax_flow.specs.Drafts.{flat_code, flat_starts}
use Rattle.ax_flow.specs.Flat.{IsFlat}
use Rattle.ax_flow.proofs.Drawn.{has_flat_code}
use Rattle.ax_flow.proofs.Follow.{flat_runs}
use Rattle.ax_flow.specs.declared.flow.Flow.{Flow}
use Rattle.ax_flow.proofs.flow.Flow.runs_as_its_program.Goals as goal

code_is_flat : (flow : Flow) → IsFlat flow.program flow.code flow.starts
code_is_flat flow =
    subst (λ code. IsFlat flow.program code flow.starts) (sym flow.code_is)
    (subst (λ starts. IsFlat flow.program (flat_code flow.program) starts) (sym flow.starts_are) (has_flat_code flow.program))

pub returns-clause-flat : goal.returns-clause-flat
returns-clause-flat c = code_is_flat c.args.self.now

pub returns-clause-runs : goal.returns-clause-runs
returns-clause-runs c = λ how inputs same.
    flat_runs how c.args.self.now.code c.args.self.now.starts inputs
    (subst (λ p. IsFlat p c.args.self.now.code c.args.self.now.starts) (sym same) (code_is_flat c.args.self.now))
