use Rattle.std.proofs.Common.{◌≢◌, refl, true, arith}
use Rattle.ax_proof.specs.Literal.{code_of}
use Rattle.ax_proof.proofs.Runs.{below_along}
use Rattle.ax_watch.proofs.Walks.{due_fits, walk_start, walk_end, walks_none, walks_false, next_cell, step_base, step_walking, step_fewer}
use Rattle.ax_watch.proofs.watched.walk.Goals as goal

pub move_all-requires-clause-from : goal.move_all-requires-clause-from
move_all-requires-clause-from c =
    let here = rw c.lits.ensures.value at c.index-lits-head.is in
    rw c.code.ensures.value (due_fits _ _ c.args.head _ c.index-lits-head.result c.negate-lit.result c.lits.ensures.below c.requires.head here c.negate-lit.ensures c.requires.watching.listed.enough)

pub cells-init : goal.cells-init
cells-init c =
    let here = rw c.lits.ensures.value at c.index-lits-head.is in
    let low = rw c.code.ensures.value at c.code.ensures.low in
    let moves = rw c.code.ensures.value at c.move_all.ensures in
    walk_start _ _ c.args.trail.now c.args.watched.now c.args.lists.now c.move_all.new.self c.args.head c.index-lits-head.result c.negate-lit.result c.requires.watching c.requires.reached c.requires.head here c.negate-lit.ensures low moves

pub returns-in-None-clause-walks : goal.returns-in-None-clause-walks
returns-in-None-clause-walks c = walks_none _ _ c.args.trail.now _ _ _ _ _ c.negate-lit.result refl c.cells.invariant.base c.pop.new.self c.in-None.ensures.none c.in-None.ensures.kept

pub returns-in-None-clause-reached : goal.returns-in-None-clause-reached
returns-in-None-clause-reached c = walk_end _ _ c.args.trail.now _ _ _ _ _ c.negate-lit.result c.args.head c.cells.invariant c.in-None.ensures.none

pub visit-requires-clause-cell : goal.visit-requires-clause-cell
visit-requires-clause-cell c = next_cell _ _ _ _ c.pop.new.self c.negate-lit.result c.in-Some.cell c.cells.invariant.base.two c.cells.invariant.base.listed c.in-Some.ensures.some

pub visit-requires-clause-below : goal.visit-requires-clause-below
visit-requires-clause-below c = below_along _ c.args.trail.now c.cells.trail c.cells.invariant.base.goes_on c.requires.below

pub pour-requires-clause-to : goal.pour-requires-clause-to
pour-requires-clause-to c =
    let here = rw c.lits.ensures.value at c.index-lits-head.is in
    let base = step_base _ _ c.args.trail.now _ _ _ _ _ c.negate-lit.result c.requires.paired c.cells.invariant.base c.in-Some.cell c.pop.new.self c.visit.new.lists c.visit.new.trail c.visit.new.watched _ c.in-Some.ensures.some c.visit.ensures.visits c.visit.ensures.puts in
    rw c.code-then-not-visit.ensures.value (due_fits _ _ c.args.head _ c.index-lits-head.result c.negate-lit.result c.lits.ensures.below c.requires.head here c.negate-lit.ensures base.listed.enough)

pub returns-then-not-visit-clause-walks : goal.returns-then-not-visit-clause-walks
returns-then-not-visit-clause-walks c =
    let low = rw c.code-then-not-visit.ensures.value at c.code-then-not-visit.ensures.low in
    let differs : code_of c.negate-lit.result ≢ 0 = λ e. absurd (omega arith) in
    let pours = rw c.code-then-not-visit.ensures.value at c.pour.ensures in
    let base = step_base _ _ c.args.trail.now _ _ _ _ _ c.negate-lit.result c.requires.paired c.cells.invariant.base c.in-Some.cell c.pop.new.self c.visit.new.lists c.visit.new.trail c.visit.new.watched _ c.in-Some.ensures.some c.visit.ensures.visits c.visit.ensures.puts in
    walks_false _ _ c.args.trail.now _ _ _ _ _ c.negate-lit.result refl base c.pour.new.self differs pours

pub cells-smaller : goal.cells-smaller
cells-smaller c =
    let is_cell = next_cell _ _ _ _ c.pop.new.self c.negate-lit.result c.in-Some.cell c.cells.invariant.base.two c.cells.invariant.base.listed c.in-Some.ensures.some in
    step_fewer _ c.in-Some.cell c.visit.new.watched _ c.pop.new.self _ c.visit.ensures.visits.two is_cell c.in-Some.ensures.some c.visit.ensures.puts

pub cells-preserved : goal.cells-preserved
cells-preserved c =
    step_walking _ _ c.args.trail.now _ _ _ _ _ c.negate-lit.result c.requires.paired c.cells.invariant.base c.in-Some.cell c.pop.new.self c.visit.new.lists c.visit.new.trail c.visit.new.watched true
    c.in-Some.ensures.some c.if-not-visit.ensures.visits c.visit.ensures.puts refl c.args.head c.requires.head c.cells.invariant.reached c.cells.invariant.done
