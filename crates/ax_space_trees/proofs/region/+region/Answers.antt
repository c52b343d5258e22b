use Rattle.ax_space_trees.proofs.RegionSteps.{OneEach-At, region-Num, region-Atom, region-Un, region-Bin, region-Cond}
use Rattle.ax_space_trees.proofs.region.+region.Goals as goal

pub returns-in_ok-place-in-Num-clause-region : goal.returns-in_ok-place-in-Num-clause-region
returns-in_ok-place-in-Num-clause-region t c =
    let own = rw c.in-Num.is at c.in_ok-choices.ensures in
    rw (c.in_ok-place-in-Num.ensures, c.in-Num.is) (region-Num _ _ _ _ _ _ own c.in_ok-first-in-Num.ensures.region c.in_ok-second-in-Num.ensures.region)

pub returns-in_ok-place-in-Num-clause-one : goal.returns-in_ok-place-in-Num-clause-one
returns-in_ok-place-in-Num-clause-one t c =
    rw c.in_ok-place-in-Num.ensures (OneEach-At _ _ _ _ c.in_ok-choices.ensures.once c.in_ok-first-in-Num.ensures.one c.in_ok-second-in-Num.ensures.one tt)

pub returns-in_ok-place-in-Atom-clause-region : goal.returns-in_ok-place-in-Atom-clause-region
returns-in_ok-place-in-Atom-clause-region t c =
    let own = rw c.in-Atom.is at c.in_ok-choices.ensures in
    rw (c.in_ok-place-in-Atom.ensures, c.in-Atom.is) (region-Atom _ _ _ _ _ _ own c.in_ok-first-in-Atom.ensures.region c.in_ok-second-in-Atom.ensures.region)

pub returns-in_ok-place-in-Atom-clause-one : goal.returns-in_ok-place-in-Atom-clause-one
returns-in_ok-place-in-Atom-clause-one t c =
    rw c.in_ok-place-in-Atom.ensures (OneEach-At _ _ _ _ c.in_ok-choices.ensures.once c.in_ok-first-in-Atom.ensures.one c.in_ok-second-in-Atom.ensures.one tt)

pub returns-in_ok-place-in-Un-clause-region : goal.returns-in_ok-place-in-Un-clause-region
returns-in_ok-place-in-Un-clause-region t c =
    let own = rw c.in-Un.is at c.in_ok-choices.ensures in
    let first = rw c.get.ensures at c.in_ok-first-in-Un.ensures.region in
    rw (c.in_ok-place-in-Un.ensures, c.in-Un.is) (region-Un _ _ _ _ _ _ _ own first c.in_ok-second-in-Un.ensures.region)

pub returns-in_ok-place-in-Un-clause-one : goal.returns-in_ok-place-in-Un-clause-one
returns-in_ok-place-in-Un-clause-one t c =
    rw c.in_ok-place-in-Un.ensures (OneEach-At _ _ _ _ c.in_ok-choices.ensures.once c.in_ok-first-in-Un.ensures.one c.in_ok-second-in-Un.ensures.one tt)

pub returns-in_ok-place-in-Bin-clause-region : goal.returns-in_ok-place-in-Bin-clause-region
returns-in_ok-place-in-Bin-clause-region t c =
    let own = rw c.in-Bin.is at c.in_ok-choices.ensures in
    let first = rw c.get-in-Bin.ensures at c.in_ok-first-in-Bin.ensures.region in
    let second = rw c.get-in-Bin-2.ensures at c.in_ok-second-in-Bin.ensures.region in
    rw (c.in_ok-place-in-Bin.ensures, c.in-Bin.is) (region-Bin _ _ _ _ _ _ _ _ own first second)

pub returns-in_ok-place-in-Bin-clause-one : goal.returns-in_ok-place-in-Bin-clause-one
returns-in_ok-place-in-Bin-clause-one t c =
    rw c.in_ok-place-in-Bin.ensures (OneEach-At _ _ _ _ c.in_ok-choices.ensures.once c.in_ok-first-in-Bin.ensures.one c.in_ok-second-in-Bin.ensures.one tt)

pub returns-in_ok-place-in-Cond-clause-region : goal.returns-in_ok-place-in-Cond-clause-region
returns-in_ok-place-in-Cond-clause-region t c =
    let own = rw c.in-Cond.is at c.in_ok-choices.ensures in
    let first = rw c.get-in-Cond.ensures at c.in_ok-first-in-Cond.ensures.region in
    let second = rw c.get-in-Cond-2.ensures at c.in_ok-second-in-Cond.ensures.region in
    let third = rw c.get-in-Cond-3.ensures at c.in_ok-third-in-Cond.ensures.region in
    rw (c.in_ok-place-in-Cond.ensures, c.in-Cond.is) (region-Cond _ _ _ _ _ _ _ _ _ own first second third)

pub returns-in_ok-place-in-Cond-clause-one : goal.returns-in_ok-place-in-Cond-clause-one
returns-in_ok-place-in-Cond-clause-one t c =
    rw c.in_ok-place-in-Cond.ensures (OneEach-At _ _ _ _ c.in_ok-choices.ensures.once c.in_ok-first-in-Cond.ensures.one c.in_ok-second-in-Cond.ensures.one c.in_ok-third-in-Cond.ensures.one)
