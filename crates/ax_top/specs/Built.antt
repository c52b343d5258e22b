-- Which orders to repair are built, and the expressions that they choose.
use Rattle.std.specs.Prelude.{◌≡◌, ℕ, ◌+◌, ◌-◌, nat_le, Bool, false, true, ◌&&◌, not, if◌then◌else◌, List, [], ◌∷◌, Option, None, Some, option_map, option_and_then, slice_get}
use Rattle.ax_prog.specs.declared.Expr.{Expr, Num, Atom', Un', Bin', Cond'}
use Rattle.ax_prog.specs.declared.Atom.TheBlock.{more_of-Expr, end_of-Expr}
use Rattle.ax_prog.specs.declared.Sets.{Sets}
use Rattle.ax_prog.specs.declared.SlotId.{SlotId}
use Rattle.ax_prog.specs.declared.Program.{Program}
use Rattle.ax_prog.specs.Candidates.{candidates_of, tree_at}
use Rattle.ax_words.specs.declared.order.RepairOrder.{RepairOrder}
use Rattle.ax_space.specs.Chosen.{Chosen, space_of}
use Rattle.ax_top.specs.declared.built.Picked.{Picked}

-- how many binary operators a tree has
abbrev pub binaries : Expr → ℕ
binaries (Num n) = 0
binaries (Atom' s row) = 0
binaries (Un' op s (more_of-Expr a end_of-Expr)) = binaries a
binaries (Bin' op s (more_of-Expr a end_of-Expr) t (more_of-Expr b end_of-Expr)) = binaries a + binaries b + 1
binaries (Cond' s (more_of-Expr f end_of-Expr) t (more_of-Expr a end_of-Expr) u (more_of-Expr b end_of-Expr)) = binaries f + binaries a + binaries b

-- no node of the tree is a unary operator or a `?:`
abbrev pub is_plain : Expr → Bool
is_plain (Num n) = true
is_plain (Atom' s row) = true
is_plain (Un' op s row) = false
is_plain (Bin' op s (more_of-Expr a end_of-Expr) t (more_of-Expr b end_of-Expr)) = is_plain a && is_plain b
is_plain (Cond' s f t a u b) = false

-- the nodes of a small tree are atoms, numbers and at most three binary operators
abbrev pub is_small : Option Expr → Bool
is_small None = false
is_small (Some tree) = is_plain tree && nat_le (binaries tree) 3

-- the slot, where its tree is small
abbrev pub small_slot : Program → SlotId → Option SlotId
small_slot program id = if is_small (tree_at program id) then Some id else None

-- the slot of the candidate of that number, from 1
abbrev pub candidate_at : Program → ℕ → Option SlotId
candidate_at program number = slice_get (candidates_of program) (number - 1)

-- the only one of the numbers
abbrev pub only : List ℕ → Option ℕ
only [] = None
only (number ∷ []) = Some number
only (number ∷ other ∷ rest) = None

-- the comparisons, and no other set
abbrev pub are_comparisons : Sets → Bool
are_comparisons s =
    s.cmp && (not s.logic && (not s.arith && (not s.mul && (not s.bits && (not s.vars && (not s.consts && not s.guard))))))

-- The slot that is to be changed, where an order is built that takes these sets and chooses these numbers: it takes the
-- comparisons alone and chooses one number, that of a candidate whose tree is small. Of any other order there is none.
abbrev pub built_slot : Program → Sets → List ℕ → Option SlotId
built_slot program sets numbers =
    if are_comparisons sets
    then option_and_then (λ number. option_and_then (small_slot program) (candidate_at program number)) (only numbers)
    else None

-- the chosen expressions of an order that is built
abbrev pub chosen_of : Program → Sets → List ℕ → Option (List SlotId)
chosen_of program sets numbers = option_map (λ id. id ∷ []) (built_slot program sets numbers)

-- an order that is built: its one number, and the slot that this chooses
abbrev pub IsPicked : Program → Sets → Picked → Type 0
IsPicked program sets picked = built_slot program sets (picked.number ∷ []) ≡ Some picked.slot

-- the patches among which a repair is sought
abbrev pub space_for : Program → RepairOrder → List SlotId → Chosen
space_for program o chosen = space_of program chosen o.sets o.bounds.grow
