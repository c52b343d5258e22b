-- The weight of a statement, one equation for each constructor that has children; and what a call leaves.
use Rattle.std.proofs.Common.{◌≡◌, refl, ap, ℕ, zero, suc, ◌+◌, ◌-◌, ◌<◌, ◌≤◌, List, [], ◌∷◌, length, get_or, Option, Some, None, arith}
use Rattle.std.specs.Prelude.{slice_get}
use Rattle.ax_prog.specs.declared.SlotId.{SlotId}
use Rattle.ax_prog.specs.declared.Fun.{Fun}
use Rattle.ax_prog.specs.declared.Program.{Program}
use Rattle.ax_prog.specs.declared.Stmt.{Stmt, Block', If', While', Do', For', end_of-Stmt, more_of-Stmt}
use Rattle.ax_prog.specs.declared.Stmt.TheVariants as s
use Rattle.ax_prog.specs.declared.Stmt.TheBlock.{shape-the_row-Stmt-0, hidden-the_row-Stmt-0, shape-the_row-Stmt-1, hidden-the_row-Stmt-1}
use Rattle.ax_interp_plain.specs.Weights.{weight, row_weight, held_weight, optional_weight, weights, weight_of_bodies, widest, room}
use denote.Hole.Carrier

row_weight-list : (items : List Stmt) → row_weight (hidden-the_row-Stmt-0 items) ≡ weights items
unfolding weight row_weight held_weight shape-the_row-Stmt-1 hidden-the_row-Stmt-1 shape-the_row-Stmt-0 hidden-the_row-Stmt-0 Carrier.hidden
row_weight-list [] = refl
row_weight-list (a ∷ items) = ap (λ n. weight a + n) (row_weight-list items)

pub weight-Block : (items : List Stmt) → weight (s.Block items) ≡ weights items + 4
unfolding weight row_weight held_weight shape-the_row-Stmt-1 hidden-the_row-Stmt-1 shape-the_row-Stmt-0 hidden-the_row-Stmt-0 Carrier.hidden
weight-Block items = ap (λ n. n + 4) (row_weight-list items)

pub weight-If : (id : SlotId) (a : Stmt) (b : Option Stmt) → weight (s.If id a b) ≡ weight a + optional_weight b + 4
unfolding weight row_weight held_weight shape-the_row-Stmt-1 hidden-the_row-Stmt-1 shape-the_row-Stmt-0 hidden-the_row-Stmt-0 Carrier.hidden
weight-If id a None = refl
weight-If id a (Some b) = refl

pub weight-While : (id : SlotId) (a : Stmt) → weight (s.While id a) ≡ weight a + 4
unfolding weight row_weight held_weight shape-the_row-Stmt-1 hidden-the_row-Stmt-1 shape-the_row-Stmt-0 hidden-the_row-Stmt-0 Carrier.hidden
weight-While id a = refl

pub weight-Do : (a : Stmt) (id : SlotId) → weight (s.Do a id) ≡ weight a + 4
unfolding weight row_weight held_weight shape-the_row-Stmt-1 hidden-the_row-Stmt-1 shape-the_row-Stmt-0 hidden-the_row-Stmt-0 Carrier.hidden
weight-Do a id = refl

pub weight-For : (items : List Stmt) (id : Option SlotId) (next : Option Stmt) (a : Stmt) → weight (s.For items id next a) ≡ weights items + optional_weight next + weight a + 4
unfolding weight row_weight held_weight shape-the_row-Stmt-1 hidden-the_row-Stmt-1 shape-the_row-Stmt-0 hidden-the_row-Stmt-0 Carrier.hidden
weight-For items id None a = ap (λ n. n + 0 + weight a + 4) (row_weight-list items)
weight-For items id (Some next) a = ap (λ n. n + weight next + weight a + 4) (row_weight-list items)

pub weight_least : (t : Stmt) → 4 ≤ weight t
unfolding weight row_weight held_weight
weight_least s.Empty = omega arith
weight_least (Block' sh row) = omega arith
weight_least (s.Decl v i) = omega arith
weight_least (s.Assign l v) = omega arith
weight_least (s.Change l op id) = omega arith
weight_least (s.Bump l up) = omega arith
weight_least (s.Call f args) = omega arith
weight_least (If' id sh (more_of-Stmt a end_of-Stmt) b) = omega arith
weight_least (While' id sh (more_of-Stmt a end_of-Stmt)) = omega arith
weight_least (Do' sh (more_of-Stmt a end_of-Stmt) id) = omega arith
weight_least (For' sh row id next sh2 (more_of-Stmt a end_of-Stmt)) = omega arith
weight_least s.Break = omega arith
weight_least s.Continue = omega arith
weight_least (s.Return v) = omega arith
weight_least (s.Read l) = omega arith
weight_least (s.Print id) = omega arith

-- an item weighs no more than its list
pub weight_within : (items : List Stmt) (at : ℕ) (d : Stmt) → at < length items → weight (get_or items at d) ≤ weights items
weight_within [] at d h = absurd (omega arith)
weight_within (a ∷ items) zero d h = omega arith
weight_within (a ∷ items) (suc at) d h = let more : weight (get_or items at d) ≤ weights items = weight_within items at d (omega arith) in omega arith

body_within : (funs : List Fun) (at : ℕ) (fun : Fun) → slice_get funs at ≡ Some fun → weights fun.body ≤ weight_of_bodies funs
body_within [] at fun h = absurd cc
body_within (f ∷ funs) zero fun h = let same : weights f.body ≡ weights fun.body = ap (λ o. weights (body_of f o)) h in omega arith
  where
    body_of : Fun → Option Fun → List Stmt
    body_of d None = d.body
    body_of d (Some x) = x.body
body_within (f ∷ funs) (suc at) fun h = let more : weights fun.body ≤ weight_of_bodies funs = body_within funs at fun h in omega arith

pub body_within_widest : (program : Program) (at : ℕ) (fun : Fun) → slice_get program.funs at ≡ Some fun → weights fun.body ≤ widest program
unfolding widest
body_within_widest program at fun h = body_within program.funs at fun h

-- one call fewer leaves so much less
pub room_falls : (program : Program) (calls : ℕ) → 0 < calls → room program calls ≡ room program (calls - 1) + (widest program + 3)
unfolding room
room_falls program zero h = absurd (omega arith)
room_falls program (suc n) h = let e : suc n - 1 ≡ n = omega arith in rw e refl
