-- The nodes of a tree. A number, an atom, an operator and `?:` are one node each, an atom whatever it is made of.
use Rattle.std.specs.Prelude.{ℕ, ◌+◌, List, [], ◌∷◌}
use Rattle.ax_prog.specs.declared.Expr.{Expr, Num, Atom', Un', Bin', Cond'}
use Rattle.ax_prog.specs.declared.Atom.TheBlock.{more_of-Expr, end_of-Expr}

-- the operands of the root, in source order
abbrev pub operands : Expr → List Expr
operands (Num n) = []
operands (Atom' s row) = []
operands (Un' op s (more_of-Expr a end_of-Expr)) = a ∷ []
operands (Bin' op s (more_of-Expr a end_of-Expr) t (more_of-Expr b end_of-Expr)) = a ∷ b ∷ []
operands (Cond' s (more_of-Expr f end_of-Expr) t (more_of-Expr a end_of-Expr) u (more_of-Expr b end_of-Expr)) = f ∷ a ∷ b ∷ []

abbrev pub nodes : Expr → ℕ
nodes (Num n) = 1
nodes (Atom' s row) = 1
nodes (Un' op s (more_of-Expr a end_of-Expr)) = nodes a + 1
nodes (Bin' op s (more_of-Expr a end_of-Expr) t (more_of-Expr b end_of-Expr)) = nodes a + nodes b + 1
nodes (Cond' s (more_of-Expr f end_of-Expr) t (more_of-Expr a end_of-Expr) u (more_of-Expr b end_of-Expr)) = nodes f + nodes a + nodes b + 1
