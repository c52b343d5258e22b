-- What stands behind a definition of a struct, by the walk over parts.
use Rattle.std.specs.Prelude.{List, Ok}
use Rattle.ax_parse_grammar.specs.declared.tree.Name.{Name}
use Rattle.ax_parse_grammar.specs.declared.tree.Members.{Members}
use Rattle.ax_names_types.specs.Faults.{Verdict}
use Rattle.ax_names_declared.specs.Members.{definition}
use Rattle.ax_names_rules.specs.declared.State.{State}
use Rattle.ax_names_rules.specs.Programs.{with_struct}
use Rattle.ax_names_rules.specs.ValueWalk.{◌>>=◌}

abbrev pub struct_in : Name → List Members → State → Verdict State
struct_in x ms st = definition st.structs x ms >>= λ s. Ok (with_struct st s)
