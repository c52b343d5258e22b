-- Which trees can be written: those each of whose numbers a token has.
use Rattle.std.specs.Prelude.{◌≡◌, ℕ, ◌≤◌, ℤ, pos}
use Rattle.ax_prog.specs.declared.Expr.{Expr, Num, Atom', Un', Bin', Cond'}
use Rattle.ax_prog.specs.declared.Atom.TheBlock.{more_of-Expr, end_of-Expr}

-- a number token has this value (6.4.4.1)
abbrev pub IsNumber : ℤ → Type 0
IsNumber n = (value : ℕ) × (n ≡ pos value) × (value ≤ 2147483647)

abbrev pub IsWritable : Expr → Type 0
IsWritable (Num n) = IsNumber n
IsWritable (Atom' s row) = Unit {0}
IsWritable (Un' op s (more_of-Expr a end_of-Expr)) = IsWritable a
IsWritable (Bin' op s (more_of-Expr a end_of-Expr) t (more_of-Expr b end_of-Expr)) = IsWritable a × IsWritable b
IsWritable (Cond' s (more_of-Expr f end_of-Expr) t (more_of-Expr a end_of-Expr) u (more_of-Expr b end_of-Expr)) = IsWritable f × IsWritable a × IsWritable b
