use Rattle.std.proofs.Common.{arith, refl, rules}
use Rattle.ax_proof.proofs.Clauses.{none_above, same_more, clash_found, same_when_all, clause_of_clash, clause_of_same, clause_does_not_clash, clash_of_same}
use Rattle.ax_proof.proofs.clause.Clause.from_lits.Goals as goal

pub append-requires : goal.append-requires
append-requires c =
    let sorted = rw (← c.as_slice-lit-items.ensures) at c.in_ok-all.ensures.rising in
    none_above c.args.lits.now _ _ c.loop-lit.lit-index c.lit-item.result c.loop-lit-test.true c.lit-item.is c.loop-lit.invariant.same sorted

pub returns-then-not-branch-clause-none : goal.returns-then-not-branch-clause-none
returns-then-not-branch-clause-none c =
    let moved = rw (← c.as_slice-lit-items.ensures) at c.in_ok-all.ensures.moved in
    let h = rw c.if-not-branch.true at c.in_ok-append.ensures.added in
    ((λ _. clash_found c.args.lits.now _ _ c.loop-lit.lit-index c.lit-item.result c.loop-lit-test.true c.lit-item.is c.loop-lit.invariant.same moved h), λ _. refl)

pub returns-then-not-branch-clause-value : goal.returns-then-not-branch-clause-value
returns-then-not-branch-clause-value c =
    let moved = rw (← c.as_slice-lit-items.ensures) at c.in_ok-all.ensures.moved in
    let h = rw c.if-not-branch.true at c.in_ok-append.ensures.added in
    clause_of_clash c.args.lits.now (clash_found c.args.lits.now _ _ c.loop-lit.lit-index c.lit-item.result c.loop-lit-test.true c.lit-item.is c.loop-lit.invariant.same moved h)

pub loop-lit-preserved : goal.loop-lit-preserved
loop-lit-preserved c =
    let h = rw c.if-not-branch.false at c.in_ok-append.ensures.added in
    record {
      rising = c.in_ok-append.ensures.rising;
      same = same_more c.args.lits.now _ _ c.loop-lit.lit-index c.lit-item.result c.loop-lit-test.true c.lit-item.is c.loop-lit.invariant.same _ h;
    }

pub returns-clause-same : goal.returns-clause-same
returns-clause-same c =
    let moved = rw (← c.as_slice-lit-items.ensures) at c.in_ok-all.ensures.moved in
    same_when_all c.args.lits.now _ c.loop-lit.clause c.loop-lit.lit-index (omega arith) moved c.loop-lit.invariant.same

pub returns-clause-none : goal.returns-clause-none
returns-clause-none c =
    let moved = rw (← c.as_slice-lit-items.ensures) at c.in_ok-all.ensures.moved in
    let same = same_when_all c.args.lits.now _ c.loop-lit.clause c.loop-lit.lit-index (omega arith) moved c.loop-lit.invariant.same in
    (λ e. cc, λ clash. absurd (clause_does_not_clash c.loop-lit.clause c.loop-lit.invariant.rising (clash_of_same c.args.lits.now c.loop-lit.clause same clash)))

pub returns-clause-value : goal.returns-clause-value
returns-clause-value c =
    let moved = rw (← c.as_slice-lit-items.ensures) at c.in_ok-all.ensures.moved in
    let same = same_when_all c.args.lits.now _ c.loop-lit.clause c.loop-lit.lit-index (omega arith) moved c.loop-lit.invariant.same in
    clause_of_same c.args.lits.now c.loop-lit.clause c.loop-lit.invariant.rising same
