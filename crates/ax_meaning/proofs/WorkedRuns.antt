-- The worked examples, computed by the definitions.
use Rattle.std.proofs.Common.{◌≡◌, List, [], ◌∷◌, true, refl}
use Rattle.std.specs.Prelude.{ℤ, pos}
use Rattle.ax_prog.specs.declared.Atom.TheBlock as trees
use Rattle.ax_prog.specs.declared.Stmt.TheBlock as stmts
use Rattle.ax_prog.specs.declared.Ty.TheBlock as types
use Rattle.ax_prog.specs.declared.Test.{Test}
use Rattle.ax_meaning.specs.declared.Why.TheVariants.{NullAccess, OutOfBounds}
use Rattle.ax_meaning.specs.Acts.{Undefined, OutOfSteps}
use Rattle.ax_meaning.specs.Execution.{Stopped}
use Rattle.ax_meaning.specs.Runs.{run_of, Passes}
use Rattle.ax_meaning.specs.OpenRuns.{trace_of, IsUncut}
use Rattle.ax_meaning.proofs.Programs.{slot, p1, p2, p2_repaired, p3, p4, p4_turned, calls_program}
use denote.Hole.Carrier

abbrev test : List ℤ → List ℤ → Test
test inputs outputs = record { inputs = inputs; outputs = outputs; ret = pos 0 }

-- 1 is below 2
pub p1-passes : Passes p1 100 (test (pos 1 ∷ pos 2 ∷ []) (pos 1 ∷ []))
unfolding trees.shape-the_row-Atom-0 trees.hidden-the_row-Atom-0 trees.shape-the_row-Expr-1 trees.hidden-the_row-Expr-1 stmts.shape-the_row-Stmt-0 stmts.hidden-the_row-Stmt-0 stmts.shape-the_row-Stmt-1 stmts.hidden-the_row-Stmt-1 Carrier.hidden
p1-passes = record { returned = refl; printed = refl }

-- 2 isn't below 2: `x < y` is evaluated once, and so is the number that is printed
pub p1-prints_0 : (run_of p1 (pos 2 ∷ pos 2 ∷ []) 100).output ≡ pos 0 ∷ []
unfolding trees.shape-the_row-Atom-0 trees.hidden-the_row-Atom-0 trees.shape-the_row-Expr-1 trees.hidden-the_row-Expr-1 stmts.shape-the_row-Stmt-0 stmts.hidden-the_row-Stmt-0 stmts.shape-the_row-Stmt-1 stmts.hidden-the_row-Stmt-1 Carrier.hidden
p1-prints_0 = refl

pub p1-counts : (run_of p1 (pos 2 ∷ pos 2 ∷ []) 100).counts ≡ 1 ∷ 0 ∷ 1 ∷ 1 ∷ []
unfolding trees.shape-the_row-Atom-0 trees.hidden-the_row-Atom-0 trees.shape-the_row-Expr-1 trees.hidden-the_row-Expr-1 stmts.shape-the_row-Stmt-0 stmts.hidden-the_row-Stmt-0 stmts.shape-the_row-Stmt-1 stmts.hidden-the_row-Stmt-1 Carrier.hidden
p1-counts = refl

-- the repaired loop takes 3 declarations, 1 read, 2 + 8 assignments, 5 conditions, 1 print and 1 return: 21 steps
pub p2_repaired-passes : Passes p2_repaired 21 (test (pos 3 ∷ []) (pos 6 ∷ []))
unfolding trees.shape-the_row-Atom-0 trees.hidden-the_row-Atom-0 trees.shape-the_row-Expr-1 trees.hidden-the_row-Expr-1 stmts.shape-the_row-Stmt-0 stmts.hidden-the_row-Stmt-0 stmts.shape-the_row-Stmt-1 stmts.hidden-the_row-Stmt-1 Carrier.hidden
p2_repaired-passes = record { returned = refl; printed = refl }

pub p2_repaired-used : (run_of p2_repaired (pos 3 ∷ []) 21).used ≡ 21
unfolding trees.shape-the_row-Atom-0 trees.hidden-the_row-Atom-0 trees.shape-the_row-Expr-1 trees.hidden-the_row-Expr-1 stmts.shape-the_row-Stmt-0 stmts.hidden-the_row-Stmt-0 stmts.shape-the_row-Stmt-1 stmts.hidden-the_row-Stmt-1 Carrier.hidden
p2_repaired-used = refl

-- one step fewer is too few
pub p2_repaired-stops : (run_of p2_repaired (pos 3 ∷ []) 20).ending ≡ Stopped OutOfSteps
unfolding trees.shape-the_row-Atom-0 trees.hidden-the_row-Atom-0 trees.shape-the_row-Expr-1 trees.hidden-the_row-Expr-1 stmts.shape-the_row-Stmt-0 stmts.hidden-the_row-Stmt-0 stmts.shape-the_row-Stmt-1 stmts.hidden-the_row-Stmt-1 Carrier.hidden
p2_repaired-stops = refl

-- the given loop prints 3, and evaluates its condition 4 times
pub p2-output : (run_of p2 (pos 3 ∷ []) 10000).output ≡ pos 3 ∷ []
unfolding trees.shape-the_row-Atom-0 trees.hidden-the_row-Atom-0 trees.shape-the_row-Expr-1 trees.hidden-the_row-Expr-1 stmts.shape-the_row-Stmt-0 stmts.hidden-the_row-Stmt-0 stmts.shape-the_row-Stmt-1 stmts.hidden-the_row-Stmt-1 Carrier.hidden
p2-output = refl

pub p2-counts : (run_of p2 (pos 3 ∷ []) 10000).counts ≡ 1 ∷ 1 ∷ 4 ∷ 3 ∷ 3 ∷ 1 ∷ 1 ∷ []
unfolding trees.shape-the_row-Atom-0 trees.hidden-the_row-Atom-0 trees.shape-the_row-Expr-1 trees.hidden-the_row-Expr-1 stmts.shape-the_row-Stmt-0 stmts.hidden-the_row-Stmt-0 stmts.shape-the_row-Stmt-1 stmts.hidden-the_row-Stmt-1 Carrier.hidden
p2-counts = refl

-- index 3 of an array of 3 elements
pub p3-fails : (run_of p3 (pos 2 ∷ []) 100).ending ≡ Stopped (Undefined OutOfBounds)
unfolding trees.shape-the_row-Atom-0 trees.hidden-the_row-Atom-0 trees.shape-the_row-Expr-1 trees.hidden-the_row-Expr-1 trees.shape-the_row-Pexpr-2 trees.hidden-the_row-Pexpr-2 trees.shape-the_row-Lval-3 trees.hidden-the_row-Lval-3 stmts.shape-the_row-Stmt-0 stmts.hidden-the_row-Stmt-0 stmts.shape-the_row-Stmt-1 stmts.hidden-the_row-Stmt-1 types.shape-the_row-Ty-0 types.hidden-the_row-Ty-0 Carrier.hidden
p3-fails = refl

pub p3-passes : Passes p3 100 (test (pos 1 ∷ []) (pos 7 ∷ []))
unfolding trees.shape-the_row-Atom-0 trees.hidden-the_row-Atom-0 trees.shape-the_row-Expr-1 trees.hidden-the_row-Expr-1 trees.shape-the_row-Pexpr-2 trees.hidden-the_row-Pexpr-2 trees.shape-the_row-Lval-3 trees.hidden-the_row-Lval-3 stmts.shape-the_row-Stmt-0 stmts.hidden-the_row-Stmt-0 stmts.shape-the_row-Stmt-1 stmts.hidden-the_row-Stmt-1 types.shape-the_row-Ty-0 types.hidden-the_row-Ty-0 Carrier.hidden
p3-passes = record { returned = refl; printed = refl }

-- `&&` keeps a null pointer from being followed
pub p4-passes : Passes p4 100 (test (pos 5 ∷ pos 0 ∷ []) (pos 0 ∷ []))
unfolding trees.shape-the_row-Atom-0 trees.hidden-the_row-Atom-0 trees.shape-the_row-Expr-1 trees.hidden-the_row-Expr-1 trees.shape-the_row-Pexpr-2 trees.hidden-the_row-Pexpr-2 trees.shape-the_row-Lval-3 trees.hidden-the_row-Lval-3 stmts.shape-the_row-Stmt-0 stmts.hidden-the_row-Stmt-0 stmts.shape-the_row-Stmt-1 stmts.hidden-the_row-Stmt-1 types.shape-the_row-Ty-0 types.hidden-the_row-Ty-0 Carrier.hidden
p4-passes = record { returned = refl; printed = refl }

pub p4-passes_too : Passes p4 100 (test (pos 5 ∷ pos 1 ∷ []) (pos 1 ∷ []))
unfolding trees.shape-the_row-Atom-0 trees.hidden-the_row-Atom-0 trees.shape-the_row-Expr-1 trees.hidden-the_row-Expr-1 trees.shape-the_row-Pexpr-2 trees.hidden-the_row-Pexpr-2 trees.shape-the_row-Lval-3 trees.hidden-the_row-Lval-3 stmts.shape-the_row-Stmt-0 stmts.hidden-the_row-Stmt-0 stmts.shape-the_row-Stmt-1 stmts.hidden-the_row-Stmt-1 types.shape-the_row-Ty-0 types.hidden-the_row-Ty-0 Carrier.hidden
p4-passes_too = record { returned = refl; printed = refl }

pub p4_turned-fails : (run_of p4_turned (pos 5 ∷ pos 0 ∷ []) 100).ending ≡ Stopped (Undefined NullAccess)
unfolding trees.shape-the_row-Atom-0 trees.hidden-the_row-Atom-0 trees.shape-the_row-Expr-1 trees.hidden-the_row-Expr-1 trees.shape-the_row-Pexpr-2 trees.hidden-the_row-Pexpr-2 trees.shape-the_row-Lval-3 trees.hidden-the_row-Lval-3 stmts.shape-the_row-Stmt-0 stmts.hidden-the_row-Stmt-0 stmts.shape-the_row-Stmt-1 stmts.hidden-the_row-Stmt-1 types.shape-the_row-Ty-0 types.hidden-the_row-Ty-0 Carrier.hidden
p4_turned-fails = refl

-- calls, blocks and jumps; the end of `main` returns 0
pub calls-pass : Passes calls_program 10000 (test [] (pos 6 ∷ []))
unfolding trees.shape-the_row-Atom-0 trees.hidden-the_row-Atom-0 trees.shape-the_row-Expr-1 trees.hidden-the_row-Expr-1 trees.shape-the_row-Pexpr-2 trees.hidden-the_row-Pexpr-2 trees.shape-the_row-Lval-3 trees.hidden-the_row-Lval-3 stmts.shape-the_row-Stmt-0 stmts.hidden-the_row-Stmt-0 stmts.shape-the_row-Stmt-1 stmts.hidden-the_row-Stmt-1 types.shape-the_row-Ty-0 types.hidden-the_row-Ty-0 Carrier.hidden
calls-pass = record { returned = refl; printed = refl }

pub calls-used : (run_of calls_program [] 10000).used ≡ 22
unfolding trees.shape-the_row-Atom-0 trees.hidden-the_row-Atom-0 trees.shape-the_row-Expr-1 trees.hidden-the_row-Expr-1 trees.shape-the_row-Pexpr-2 trees.hidden-the_row-Pexpr-2 trees.shape-the_row-Lval-3 trees.hidden-the_row-Lval-3 stmts.shape-the_row-Stmt-0 stmts.hidden-the_row-Stmt-0 stmts.shape-the_row-Stmt-1 stmts.hidden-the_row-Stmt-1 types.shape-the_row-Ty-0 types.hidden-the_row-Ty-0 Carrier.hidden
calls-used = refl

-- with the condition of the loop open: five given numbers of which the last is 0 make the sum 6
pub p2-open : IsUncut p2 100 (slot 2 ∷ []) (test (pos 3 ∷ []) (pos 6 ∷ [])) (pos 1 ∷ pos 1 ∷ pos 1 ∷ pos 1 ∷ pos 0 ∷ [])
unfolding trees.shape-the_row-Atom-0 trees.hidden-the_row-Atom-0 trees.shape-the_row-Expr-1 trees.hidden-the_row-Expr-1 stmts.shape-the_row-Stmt-0 stmts.hidden-the_row-Stmt-0 stmts.shape-the_row-Stmt-1 stmts.hidden-the_row-Stmt-1 Carrier.hidden
p2-open = record { returned = refl; printed = refl }

-- four given numbers are too few: the run is cut at the fifth evaluation, after four conditions
pub p2-trace : trace_of p2 100 (slot 2 ∷ []) (test (pos 3 ∷ []) (pos 6 ∷ [])) (pos 1 ∷ pos 1 ∷ pos 1 ∷ pos 1 ∷ []) ≡ true ∷ true ∷ true ∷ true ∷ []
unfolding trees.shape-the_row-Atom-0 trees.hidden-the_row-Atom-0 trees.shape-the_row-Expr-1 trees.hidden-the_row-Expr-1 stmts.shape-the_row-Stmt-0 stmts.hidden-the_row-Stmt-0 stmts.shape-the_row-Stmt-1 stmts.hidden-the_row-Stmt-1 Carrier.hidden
p2-trace = refl
