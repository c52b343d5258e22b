-- Positions in a tree, and what stands there. A position is a word over the numbers of operands, from 1; the root's
-- is the empty word.
use Rattle.std.specs.Prelude.{ℕ, zero, suc, List, [], ◌∷◌, ◌++◌, map, Option, Some, None}
use Rattle.ax_prog.specs.declared.Expr.{Expr, Num, Atom', Un', Bin', Cond'}
use Rattle.ax_prog.specs.declared.Atom.TheBlock.{more_of-Expr, end_of-Expr, more_of-Atom, end_of-Atom}
use Rattle.ax_prog.specs.Nodes.{operands}
use Rattle.ax_space_trees.specs.declared.Label.{Label}
use Rattle.ax_space_trees.specs.declared.Label.TheVariants as label

-- the label at the root
abbrev pub top : Expr → Label
top (Num n) = label.Num n
top (Atom' s (more_of-Atom a end_of-Atom)) = label.Atom a
top (Un' op s row) = label.Un op
top (Bin' op s row t row2) = label.Bin op
top (Cond' s row t row2 u row3) = label.Cond

-- the tree of this number, from 1
abbrev pub nth : List Expr → ℕ → Option Expr
nth trees zero = None
nth [] (suc k) = None
nth (tree ∷ trees) (suc zero) = Some tree
nth (tree ∷ trees) (suc (suc k)) = nth trees (suc k)

abbrev pub operand : Option Expr → ℕ → Option Expr
operand None k = None
operand (Some tree) k = nth (operands tree) k

-- the part of a tree at a position
abbrev pub at_position : List ℕ → Option Expr → Option Expr
at_position [] tree = tree
at_position (k ∷ w) tree = at_position w (operand tree k)

abbrev pub labelled : Option Expr → Option Label
labelled None = None
labelled (Some tree) = Some (top tree)

abbrev pub label_at : List ℕ → Option Expr → Option Label
label_at w tree = labelled (at_position w tree)

abbrev pub below : ℕ → List (List ℕ) → List (List ℕ)
below k words = map (λ w. k ∷ w) words

-- all positions of a tree
abbrev pub positions : Expr → List (List ℕ)
positions (Num n) = [] ∷ []
positions (Atom' s row) = [] ∷ []
positions (Un' op s (more_of-Expr a end_of-Expr)) = [] ∷ below 1 (positions a)
positions (Bin' op s (more_of-Expr a end_of-Expr) t (more_of-Expr b end_of-Expr)) = [] ∷ (below 1 (positions a) ++ below 2 (positions b))
positions (Cond' s (more_of-Expr f end_of-Expr) t (more_of-Expr a end_of-Expr) u (more_of-Expr b end_of-Expr)) =
    [] ∷ (below 1 (positions f) ++ (below 2 (positions a) ++ below 3 (positions b)))
