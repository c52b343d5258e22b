use Rattle.std.proofs.Common.{◌≡◌, ◌++◌, take, length}
use Rattle.std.specs.List.{All, flat_map}
use Rattle.ax_proof.specs.Clause.{IsClause}
use Rattle.ax_dimacs.specs.Written.{clause_text, head_text}
use Rattle.ax_dimacs.proofs.write.write_cnf.Given as goal

abbrev pub invariant-loop-clause : goal.invariant-loop-clause
invariant-loop-clause l = record {
  text : l.text.items ≡ head_text l.cnf.vars (length l.cnf.clauses.items) ++ flat_map clause_text (take l.clause-index l.cnf.clauses.items);
  rising : All IsClause (take l.clause-index l.cnf.clauses.items);
}
