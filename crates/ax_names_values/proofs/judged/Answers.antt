use Rattle.ax_names_types.specs.Scopes.{env_of}
use Rattle.ax_names_types.proofs.Exact.{exact_if}
use Rattle.ax_names_values.proofs.judged.Goals as goal

pub returns : goal.returns
returns c = record { exact = exact_if (env_of c.args.names.now c.args.structs.now) c.args.tree.now c.typed.result c.typed.ensures; verdict = c.typed.ensures }
