use Rattle.std.proofs.Common.{arith, rules}
use Rattle.ax_suite.proofs.Turns.{begins, ends, stops, turn}
use Rattle.ax_suite.proofs.suite.read_tests.Goals as goal

pub loop-rest-init : goal.loop-rest-init
loop-rest-init c = record {
  read = begins _ _ c.new-tests.ensures;
  few = omega arith;
}

pub loop-rest-preserved : goal.loop-rest-preserved
loop-rest-preserved c = record {
  read = turn _ c.loop-rest.tests _ c.loop-rest.number _ c.loop-rest.rest.now _ c.in-len1-up.len_at_least c.first-item.is c.in-Ok.ensures c.in_ok-push-in-Ok.ensures.ok c.loop-rest.invariant.read;
  few = search (rules, c.loop-rest.invariant.few, c.in-len1-up.len_at_least);
}

pub returns-in-Err : goal.returns-in-Err
returns-in-Err c = rw c.stop_at.ensures (stops _ c.loop-rest.tests c.loop-rest.number _ c.loop-rest.rest.now _ c.in-len1-up.len_at_least c.first-item.is c.in-Err.ensures c.loop-rest.invariant.read)

pub returns : goal.returns
returns c = ends _ c.loop-rest.tests c.loop-rest.number c.loop-rest.rest.now c.in_default.len_below c.loop-rest.invariant.read
