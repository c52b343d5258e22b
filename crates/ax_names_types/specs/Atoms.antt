-- The atoms of an expression, in source order.
use Rattle.std.specs.Prelude.{◌≡◌, List, [], ◌∷◌, ◌++◌, map}
use Rattle.ax_prog.specs.declared.Span.{Span}
use Rattle.ax_prog.specs.declared.Expr.{Expr, Num, Atom', Un', Bin', Cond'}
use Rattle.ax_prog.specs.declared.Atom.{Atom}
use Rattle.ax_prog.specs.declared.Atom.TheBlock.{more_of-Expr, end_of-Expr, more_of-Atom, end_of-Atom}
use Rattle.ax_names_types.specs.declared.Typed.{Typed}
use Rattle.ax_names_types.specs.declared.Typed.TheVariants as t

abbrev pub atoms_of : Expr → List Atom
atoms_of (Num n) = []
atoms_of (Atom' s (more_of-Atom a end_of-Atom)) = a ∷ []
atoms_of (Un' op s (more_of-Expr a end_of-Expr)) = atoms_of a
atoms_of (Bin' op s (more_of-Expr a end_of-Expr) t (more_of-Expr b end_of-Expr)) = atoms_of a ++ atoms_of b
atoms_of (Cond' s (more_of-Expr c end_of-Expr) t (more_of-Expr a end_of-Expr) u (more_of-Expr b end_of-Expr)) = (atoms_of c ++ atoms_of a) ++ atoms_of b

-- the atoms without where they stand
abbrev pub atoms_in : List (Atom × Span) → List Atom
atoms_in xs = map (λ x. x.0) xs

-- where this is a number, the atoms that come with it are those of its expression
abbrev pub CarriesItsAtoms : Typed → Type 0
CarriesItsAtoms m = (x : Expr) (xs : List (Atom × Span)) → m ≡ t.Int x xs → atoms_in xs ≡ atoms_of x
