use Rattle.std.proofs.Common.{◌≡◌, length, rules}
use Rattle.ax_proof.proofs.Names.{has_zero, clauses_named, lines_named, stand_for}
use Rattle.ax_proof.proofs.naming.over_few.Goals as goal

pub all_placed-requires-clause-zero : goal.all_placed-requires-clause-zero
all_placed-requires-clause-zero c =
    rw c.as_slice.ensures.value (has_zero _ c.args.clauses.now c.args.lines.now (λ x. (c.in_ok-names.ensures.exact x).1))

pub all_placed-requires-clause-named : goal.all_placed-requires-clause-named
all_placed-requires-clause-named c =
    rw c.as_slice.ensures.value (clauses_named _ c.args.clauses.now c.args.lines.now (λ x. (c.in_ok-names.ensures.exact x).1))

pub all_placed-requires-2-clause-zero : goal.all_placed-requires-2-clause-zero
all_placed-requires-2-clause-zero c =
    rw c.as_slice-2.ensures.value (has_zero _ c.args.clauses.now c.args.lines.now (λ x. (c.in_ok-names.ensures.exact x).1))

pub all_placed-requires-2-clause-named : goal.all_placed-requires-2-clause-named
all_placed-requires-2-clause-named c =
    rw c.as_slice-2.ensures.value (lines_named _ c.args.clauses.now c.args.lines.now (λ x. (c.in_ok-names.ensures.exact x).1))

pub returns : goal.returns
returns c =
    let size : c.len.result ≡ length c.in_ok-names.names.items = search rules in
    let first = rw c.as_slice.ensures.value at c.in_ok-all_placed.ensures in
    let second = rw c.as_slice-2.ensures.value at c.in_ok-all_placed-2.ensures in
    stand_for c.in_ok-names.names.items c.in_ok-names.ensures.rising _ _ _ _ _ size first.below second.below first.same second.same
