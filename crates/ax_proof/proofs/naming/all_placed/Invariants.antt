use Rattle.std.proofs.Common.{◌≡◌, length, take}
use Rattle.std.specs.List.{All}
use Rattle.ax_proof.specs.Literal.{IsBelow}
use Rattle.ax_proof.specs.Naming.{all_renamed, name_at}
use Rattle.ax_proof.proofs.naming.all_placed.Given as goal

abbrev pub invariant-loop-clause : goal.invariant-loop-clause
invariant-loop-clause l = record {
  same : take l.clause-index l.clauses ≡ all_renamed (name_at l.names) l.all.items;
  below : All (IsBelow (length l.names)) l.all.items;
}
