-- A walk over the terms of a bank, by number.
use Rattle.std.specs.Prelude.{◌≡◌, ℕ, ◌+◌, ◌*◌, ◌<◌, Bool, List, [], ◌∷◌, ◌++◌, length, slice_get, Some}
use Rattle.ax_term.specs.Tree.{Tree, word, word_sym, flag, flag_sym, make, compare, no, all, pick}
use Rattle.ax_term.specs.Numbered.{Numbered, word_at, word_sym_at, flag_at, flag_sym_at, make_at, compare_at, no_at, all_at, pick_at, number_of}
use Rattle.ax_term.specs.Order.{among, visit, tree_at, trees_at, AllBelow}
use Rattle.ax_term.specs.declared.walk.Task.{Task}
use Rattle.ax_term.specs.declared.walk.Task.TheVariants.{Enter, Leave}

-- what a task adds to the trees that were seen
abbrev pub act : List Numbered → Task → List Tree → List Tree
act ts (Enter n) seen = visit seen (tree_at ts n)
act ts (Leave n) seen = seen ++ tree_at ts n ∷ []

-- what tasks add, the last of them first
abbrev pub finish : List Numbered → List Task → List Tree → List Tree
finish ts [] seen = seen
finish ts (s ∷ st) seen = act ts s (finish ts st seen)

-- a term is left after its children were entered, from left to right
abbrev pub tasks_of : Numbered → List Task
tasks_of (word_at n z) = Leave n ∷ []
tasks_of (word_sym_at n k) = Leave n ∷ []
tasks_of (flag_at n b) = Leave n ∷ []
tasks_of (flag_sym_at n k) = Leave n ∷ []
tasks_of (make_at n op a b) = Leave n ∷ Enter (number_of b) ∷ Enter (number_of a) ∷ []
tasks_of (compare_at n op a b) = Leave n ∷ Enter (number_of b) ∷ Enter (number_of a) ∷ []
tasks_of (no_at n f) = Leave n ∷ Enter (number_of f) ∷ []
tasks_of (all_at n f g) = Leave n ∷ Enter (number_of g) ∷ Enter (number_of f) ∷ []
tasks_of (pick_at n f a b) = Leave n ∷ Enter (number_of b) ∷ Enter (number_of a) ∷ Enter (number_of f) ∷ []

-- the tasks are at terms of the bank
abbrev pub IsTask : ℕ → Task → Type 0
IsTask size (Enter n) = n < size
IsTask size (Leave n) = n < size

abbrev pub AllTasks : ℕ → List Task → Type 0
AllTasks size [] = Unit {0}
AllTasks size (s ∷ st) = IsTask size s × AllTasks size st

-- how much there is left to do: twice the nodes of each tree that is to be entered
abbrev pub node_count : Tree → ℕ
node_count (word z) = 1
node_count (word_sym k) = 1
node_count (flag b) = 1
node_count (flag_sym k) = 1
node_count (make op a b) = node_count a + node_count b + 1
node_count (compare op a b) = node_count a + node_count b + 1
node_count (no f) = node_count f + 1
node_count (all f g) = node_count f + node_count g + 1
node_count (pick f a b) = node_count f + node_count a + node_count b + 1

abbrev pub weight : List Numbered → Task → ℕ
weight ts (Enter n) = 2 * node_count (tree_at ts n)
weight ts (Leave n) = 1

abbrev pub load : List Numbered → List Task → ℕ
load ts [] = 0
load ts (s ∷ st) = weight ts s + load ts st

-- a mark at each number says whether its tree is among those of the order
pub record IsSeen (ts : List Numbered) (marks : List Bool) (order : List ℕ) : Type 0 where
  pub size : length marks ≡ length ts
  pub marked : (n : ℕ) → n < length ts → slice_get marks n ≡ Some (among (trees_at ts order) (tree_at ts n))
  pub below : AllBelow (length ts) order
