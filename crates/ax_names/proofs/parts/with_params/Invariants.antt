use Rattle.std.proofs.Common.{◌≡◌, ◌++◌, drop}
use Rattle.ax_names_rules.specs.Functions.{with_params, ids_of}
use Rattle.ax_names.proofs.parts.with_params.Given as goal

abbrev pub invariant-loop-i : goal.invariant-loop-i
invariant-loop-i l = record {
  ids : l.ids ++ ids_of l.st (drop l.i l.params) (drop l.i l.types) ≡ ids_of l.initial.st l.params l.types;
  state : with_params l.st (drop l.i l.params) (drop l.i l.types) ≡ with_params l.initial.st l.params l.types;
  structs : l.st.structs ≡ l.initial.st.structs;
}
