use Rattle.std.proofs.Common.{◌≡◌, ◌+◌, arith, ap, refl}
use Rattle.ax_prog.specs.Nodes.{nodes}
use Rattle.ax_prog.proofs.Trees.{nodes-Un, nodes-Bin, nodes-Cond}
use Rattle.ax_space_trees.proofs.Regions.{changed-Un, changed-Bin, changed-Cond}
use Rattle.ax_space_trees.proofs.changes.+changed.Goals as goal

pub changed-requires : goal.changed-requires
changed-requires t c = let n : nodes c.args.new.now ≡ nodes c.in-Un.a + 1 = rw (c.in-Un.is, nodes-Un) refl in let g0 = ap nodes c.get.ensures in (omega arith, omega arith)

pub changed-left-requires : goal.changed-left-requires
changed-left-requires t c = let n : nodes c.args.new.now ≡ nodes c.in-Bin.a + nodes c.in-Bin.b + 1 = rw (c.in-Bin.is, nodes-Bin) refl in let g0 = ap nodes c.get-in-Bin.ensures in (omega arith, omega arith)

pub changed-right-requires : goal.changed-right-requires
changed-right-requires t c = let n : nodes c.args.new.now ≡ nodes c.in-Bin.a + nodes c.in-Bin.b + 1 = rw (c.in-Bin.is, nodes-Bin) refl in let g0 = ap nodes c.get-in-Bin.ensures in let g1 = ap nodes c.get-in-Bin-2.ensures in (omega arith, omega arith)

pub changed-test-requires : goal.changed-test-requires
changed-test-requires t c = let n : nodes c.args.new.now ≡ nodes c.in-Cond.f + nodes c.in-Cond.a + nodes c.in-Cond.b + 1 = rw (c.in-Cond.is, nodes-Cond) refl in let g0 = ap nodes c.get-in-Cond.ensures in (omega arith, omega arith)

pub changed-left-requires-in-Cond : goal.changed-left-requires-in-Cond
changed-left-requires-in-Cond t c = let n : nodes c.args.new.now ≡ nodes c.in-Cond.f + nodes c.in-Cond.a + nodes c.in-Cond.b + 1 = rw (c.in-Cond.is, nodes-Cond) refl in let g0 = ap nodes c.get-in-Cond.ensures in let g1 = ap nodes c.get-in-Cond-2.ensures in (omega arith, omega arith)

pub changed-right-requires-in-Cond : goal.changed-right-requires-in-Cond
changed-right-requires-in-Cond t c = let n : nodes c.args.new.now ≡ nodes c.in-Cond.f + nodes c.in-Cond.a + nodes c.in-Cond.b + 1 = rw (c.in-Cond.is, nodes-Cond) refl in let g0 = ap nodes c.get-in-Cond.ensures in let g1 = ap nodes c.get-in-Cond-2.ensures in let g2 = ap nodes c.get-in-Cond-3.ensures in (omega arith, omega arith)

pub overflow_add-result : goal.overflow_add-result
overflow_add-result t c = let n : nodes c.args.new.now ≡ nodes c.in-Un.a + 1 = rw (c.in-Un.is, nodes-Un) refl in let g0 = ap nodes c.get.ensures in omega arith

pub overflow_add-result-in-Bin : goal.overflow_add-result-in-Bin
overflow_add-result-in-Bin t c = let n : nodes c.args.new.now ≡ nodes c.in-Bin.a + nodes c.in-Bin.b + 1 = rw (c.in-Bin.is, nodes-Bin) refl in let g0 = ap nodes c.get-in-Bin.ensures in let g1 = ap nodes c.get-in-Bin-2.ensures in omega arith

pub overflow_add-result-in-Bin-2 : goal.overflow_add-result-in-Bin-2
overflow_add-result-in-Bin-2 t c = let n : nodes c.args.new.now ≡ nodes c.in-Bin.a + nodes c.in-Bin.b + 1 = rw (c.in-Bin.is, nodes-Bin) refl in let g0 = ap nodes c.get-in-Bin.ensures in let g1 = ap nodes c.get-in-Bin-2.ensures in omega arith

pub overflow_add-result-in-Cond : goal.overflow_add-result-in-Cond
overflow_add-result-in-Cond t c = let n : nodes c.args.new.now ≡ nodes c.in-Cond.f + nodes c.in-Cond.a + nodes c.in-Cond.b + 1 = rw (c.in-Cond.is, nodes-Cond) refl in let g0 = ap nodes c.get-in-Cond.ensures in let g1 = ap nodes c.get-in-Cond-2.ensures in let g2 = ap nodes c.get-in-Cond-3.ensures in omega arith

pub overflow_add-result-in-Cond-2 : goal.overflow_add-result-in-Cond-2
overflow_add-result-in-Cond-2 t c = let n : nodes c.args.new.now ≡ nodes c.in-Cond.f + nodes c.in-Cond.a + nodes c.in-Cond.b + 1 = rw (c.in-Cond.is, nodes-Cond) refl in let g0 = ap nodes c.get-in-Cond.ensures in let g1 = ap nodes c.get-in-Cond-2.ensures in let g2 = ap nodes c.get-in-Cond-3.ensures in omega arith

pub overflow_add-result-in-Cond-3 : goal.overflow_add-result-in-Cond-3
overflow_add-result-in-Cond-3 t c = let n : nodes c.args.new.now ≡ nodes c.in-Cond.f + nodes c.in-Cond.a + nodes c.in-Cond.b + 1 = rw (c.in-Cond.is, nodes-Cond) refl in let g0 = ap nodes c.get-in-Cond.ensures in let g1 = ap nodes c.get-in-Cond-2.ensures in let g2 = ap nodes c.get-in-Cond-3.ensures in omega arith

pub returns-in-Un-clause-small : goal.returns-in-Un-clause-small
returns-in-Un-clause-small t c = let n : nodes c.args.new.now ≡ nodes c.in-Un.a + 1 = rw (c.in-Un.is, nodes-Un) refl in let g0 = ap nodes c.get.ensures in omega arith

pub returns-in-Bin-clause-small : goal.returns-in-Bin-clause-small
returns-in-Bin-clause-small t c = let n : nodes c.args.new.now ≡ nodes c.in-Bin.a + nodes c.in-Bin.b + 1 = rw (c.in-Bin.is, nodes-Bin) refl in let g0 = ap nodes c.get-in-Bin.ensures in let g1 = ap nodes c.get-in-Bin-2.ensures in omega arith

pub returns-in-Cond-clause-small : goal.returns-in-Cond-clause-small
returns-in-Cond-clause-small t c = let n : nodes c.args.new.now ≡ nodes c.in-Cond.f + nodes c.in-Cond.a + nodes c.in-Cond.b + 1 = rw (c.in-Cond.is, nodes-Cond) refl in let g0 = ap nodes c.get-in-Cond.ensures in let g1 = ap nodes c.get-in-Cond-2.ensures in let g2 = ap nodes c.get-in-Cond-3.ensures in omega arith

pub returns-in-Un-clause-count : goal.returns-in-Un-clause-count
returns-in-Un-clause-count t c =
    let own = rw c.in-Un.is at c.changed_root-here.ensures.count in
    let d0 = rw (c.first_of.ensures, c.get.ensures) at c.changed.ensures.count in
    rw c.in-Un.is (changed-Un _ _ own d0)

pub returns-in-Bin-clause-count : goal.returns-in-Bin-clause-count
returns-in-Bin-clause-count t c =
    let own = rw c.in-Bin.is at c.changed_root-here.ensures.count in
    let d0 = rw (c.first_of-in-Bin.ensures, c.get-in-Bin.ensures) at c.changed-left.ensures.count in
    let d1 = rw (c.second_of.ensures, c.get-in-Bin-2.ensures) at c.changed-right.ensures.count in
    rw c.in-Bin.is (changed-Bin _ _ _ own d0 d1)

pub returns-in-Cond-clause-count : goal.returns-in-Cond-clause-count
returns-in-Cond-clause-count t c =
    let own = rw c.in-Cond.is at c.changed_root-here.ensures.count in
    let d0 = rw (c.first_of-in-Cond.ensures, c.get-in-Cond.ensures) at c.changed-test.ensures.count in
    let d1 = rw (c.second_of-in-Cond.ensures, c.get-in-Cond-2.ensures) at c.changed-left-in-Cond.ensures.count in
    let d2 = rw (c.third_of.ensures, c.get-in-Cond-3.ensures) at c.changed-right-in-Cond.ensures.count in
    rw c.in-Cond.is (changed-Cond _ _ _ own d0 d1 d2)
