use Rattle.std.proofs.Common.{◌≡◌, ◌++◌, drop}
use Rattle.ax_blast.specs.Table.{table_of, AllFlagRows, row_flags}
use Rattle.ax_blast.proofs.blasted.flags_of.Given as goal

abbrev pub invariant-loop-flag : goal.invariant-loop-flag
invariant-loop-flag l = record {
  flags : AllFlagRows (table_of l.places) (drop l.flag-index l.flags);
  lits : l.lits.items ++ row_flags (table_of l.places) (drop l.flag-index l.flags) ≡ row_flags (table_of l.places) l.flags;
}
