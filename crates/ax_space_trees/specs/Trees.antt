-- The trees of a place, with the number of their nodes whose labels are new.
use Rattle.std.specs.Prelude.{◌≢◌, ℕ, ◌+◌, ◌≤◌, ℤ, List, Contains, AllPairs, ⊤}
use Rattle.ax_prog.specs.declared.Un.{Un}
use Rattle.ax_prog.specs.declared.Bin.{Bin}
use Rattle.ax_prog.specs.declared.Atom.{Atom}
use Rattle.ax_prog.specs.declared.Expr.{Expr}
use Rattle.ax_prog.specs.declared.Expr.TheVariants as e
use Rattle.ax_space_trees.specs.declared.Costed.{Costed}
use Rattle.ax_space_trees.specs.declared.Choice.{Choice}
use Rattle.ax_space_trees.specs.declared.Label.{Label}
use Rattle.ax_space_trees.specs.declared.Label.TheVariants as label
use Rattle.ax_space_trees.specs.declared.Place.{Place, Gone, At', more_of-Place, end_of-Place}

abbrev pub costed : Expr → ℕ → Costed
costed tree cost = record { tree = tree; cost = cost }

abbrev pub choice : Label → ℕ → Choice
choice label cost = record { label = label; cost = cost }

-- a tree whose root has one of these labels, and whose operands are trees of A, B and C
pub data NodeFits (choices : List Choice) (A B C : Expr → ℕ → Type 0) : Expr → ℕ → Type 0 where
  num : {n : ℤ} {k : ℕ} → Contains choices (choice (label.Num n) k) → NodeFits choices A B C (e.Num n) k
  atom : {a : Atom} {k : ℕ} → Contains choices (choice (label.Atom a) k) → NodeFits choices A B C (e.Atom a) k
  un : {op : Un} {k : ℕ} {x : Expr} {i : ℕ} → Contains choices (choice (label.Un op) k) → A x i → NodeFits choices A B C (e.Un op x) (k + i)
  bin : {op : Bin} {k : ℕ} {x y : Expr} {i j : ℕ} → Contains choices (choice (label.Bin op) k) → A x i → B y j → NodeFits choices A B C (e.Bin op x y) (k + i + j)
  cond : {k : ℕ} {x y z : Expr} {h i j : ℕ} → Contains choices (choice label.Cond k) → A x h → B y i → C z j → NodeFits choices A B C (e.Cond x y z) (k + h + i + j)

-- a tree of the place with so many new labels
abbrev pub FitsPlace : Place → Expr → ℕ → Type 0
FitsPlace Gone tree n = ⊥
FitsPlace (At' choices s (more_of-Place a end_of-Place) u (more_of-Place b end_of-Place) v (more_of-Place c end_of-Place)) tree n =
    NodeFits choices (FitsPlace a) (FitsPlace b) (FitsPlace c) tree n

-- no label stands twice at a position
abbrev pub OneEach : Place → Type 0
OneEach Gone = ⊤
OneEach (At' choices s (more_of-Place a end_of-Place) u (more_of-Place b end_of-Place) v (more_of-Place c end_of-Place)) =
    AllPairs (λ x y. x.label ≢ y.label) choices × OneEach a × OneEach b × OneEach c

-- exactly the trees of the place of at most so many new labels, each once
pub record Lists (budget : ℕ) (place : Place) (found : List Costed) : Type 0 where
  pub sound : (c : Costed) → Contains found c → FitsPlace place c.tree c.cost × (c.cost ≤ budget)
  pub complete : (tree : Expr) (n : ℕ) → FitsPlace place tree n → n ≤ budget → Contains found (costed tree n)
  pub once : AllPairs (λ x y. x.tree ≢ y.tree) found
