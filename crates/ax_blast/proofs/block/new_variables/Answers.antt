use Rattle.std.proofs.Common.{ℕ, List, ap, ◌∙◌, arith}
use Rattle.ax_proof.specs.declared.clause.Cnf.{Cnf}
use Rattle.ax_blast.specs.Blasting.{new_bits}
use Rattle.ax_blast.proofs.Bits.{new_more}
use Rattle.ax_blast.proofs.block.new_variables.Goals as goal

pub loop-preserved : goal.loop-preserved
loop-preserved c = record {
  clauses = ap (λ cs. cs.items) c.new_variable.ensures.clauses ∙ c.loop.invariant.clauses;
  vars = let v = c.new_variable.ensures.vars in let h = c.loop.invariant.vars in omega arith;
  bits =
      new_more c.push.new.self.items c.loop.bits.items (new_bits c.args.cnf.now.vars c.args.count) c.new_variable.result c.args.count c.loop.counter c.loop.cnf.vars c.new_variable.new.cnf.vars c.in_ok-push.ensures.items c.new_variable.ensures.lit c.new_variable.ensures.vars c.loop-test.true c.loop.invariant.bits;
}
