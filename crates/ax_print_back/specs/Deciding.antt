-- Whether a tree can be written, as tests that compute; private contracts alone cite this.
use Rattle.std.specs.Prelude.{ℤ, pos, negsuc, nat_le, Bool, true, false, ◌&&◌}
use Rattle.ax_prog.specs.declared.Expr.{Expr, Num, Atom', Un', Bin', Cond'}
use Rattle.ax_prog.specs.declared.Atom.TheBlock.{more_of-Expr, end_of-Expr}

abbrev pub number_test : ℤ → Bool
number_test (pos n) = nat_le n 2147483647
number_test (negsuc n) = false

abbrev pub writable_test : Expr → Bool
writable_test (Num n) = number_test n
writable_test (Atom' s row) = true
writable_test (Un' op s (more_of-Expr a end_of-Expr)) = writable_test a
writable_test (Bin' op s (more_of-Expr a end_of-Expr) t (more_of-Expr b end_of-Expr)) = writable_test a && writable_test b
writable_test (Cond' s (more_of-Expr f end_of-Expr) t (more_of-Expr a end_of-Expr) u (more_of-Expr b end_of-Expr)) = writable_test f && (writable_test a && writable_test b)
