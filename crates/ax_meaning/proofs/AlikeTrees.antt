-- Values, places and pointers don't ask for the slots of a program.
use Rattle.std.proofs.Common.{◌≡◌, List, refl}
use Rattle.ax_prog.specs.declared.Slot.{Slot}
use Rattle.ax_prog.specs.declared.Program.{Program}
use Rattle.ax_prog.specs.declared.Expr.{Expr, Num, Atom', Un', Bin', Cond'}
use Rattle.ax_prog.specs.declared.Atom.TheBlock.{more_of-Expr, end_of-Expr, more_of-Atom, end_of-Atom, more_of-Lval, end_of-Lval, more_of-Pexpr, end_of-Pexpr}
use Rattle.ax_prog.specs.declared.Atom.{Atom}
use Rattle.ax_prog.specs.declared.Atom.TheVariants as atom
use Rattle.ax_prog.specs.declared.Lval.{Lval, Deref', Field'}
use Rattle.ax_prog.specs.declared.Lval.TheVariants as lval
use Rattle.ax_prog.specs.declared.Pexpr.{Pexpr}
use Rattle.ax_prog.specs.declared.Pexpr.TheVariants as p
use Rattle.ax_meaning.specs.declared.Store.{Store}
use Rattle.ax_meaning.specs.Answer.{with_value, with_values}
use Rattle.ax_meaning.specs.Operators.{unary_value, binary_value, choice_value}
use Rattle.ax_meaning.specs.Types.{cells_of, sizes_of, pointee_of, element_of, elements_of, field_of, offset_of, type_of, target_of}
use Rattle.ax_meaning.specs.Store.{int_at, pointer_at}
use Rattle.ax_meaning.specs.Values.{moved, moved_back, deref, further, first_of_array, same_value, differ_value, value_of, atom_of, place_of, pointer_of, address_of}

module _ (base : Program) (s t : List Slot) where
  -- the program with these slots
  abbrev pub one : Program
  one = record base { slots = s }

  abbrev pub two : Program
  two = record base { slots = t }

  mutual
    types : (l : Lval) → type_of one l ≡ type_of two l
    types (lval.Var v) = refl
    types (Deref' sh (more_of-Pexpr q end_of-Pexpr)) = targets q
    types (Field' sh (more_of-Lval l end_of-Lval) at) = λ i. field_of base.structs (types l i) at

    targets : (q : Pexpr) → target_of one q ≡ target_of two q
    targets p.Null = refl
    targets (p.Read' sh (more_of-Lval l end_of-Lval)) = λ i. pointee_of (types l i)
    targets (p.Decay' sh (more_of-Lval l end_of-Lval)) = λ i. element_of (types l i)
    targets (p.Address' sh (more_of-Lval l end_of-Lval)) = types l
    targets (p.Plus' sh (more_of-Pexpr q end_of-Pexpr) sh2 n) = targets q
    targets (p.Minus' sh (more_of-Pexpr q end_of-Pexpr) sh2 n) = targets q

  mutual
    pub values : (m : Store) (x : Expr) → value_of one m x ≡ value_of two m x
    values m (Num n) = refl
    values m (Atom' sh (more_of-Atom a end_of-Atom)) = atoms m a
    values m (Un' op sh (more_of-Expr a end_of-Expr)) = λ i. with_value (unary_value op) (values m a i)
    values m (Bin' op sh (more_of-Expr a end_of-Expr) sh2 (more_of-Expr b end_of-Expr)) = λ i. binary_value op (values m a i) (values m b i)
    values m (Cond' sh (more_of-Expr f end_of-Expr) sh2 (more_of-Expr a end_of-Expr) sh3 (more_of-Expr b end_of-Expr)) =
        λ i. choice_value (values m f i) (values m a i) (values m b i)

    atoms : (m : Store) (a : Atom) → atom_of one m a ≡ atom_of two m a
    atoms m (atom.Read l) = λ i. with_value (int_at m) (places m l i)
    atoms m (atom.Same q r) = λ i. with_values same_value (pointers m q i) (pointers m r i)
    atoms m (atom.Differ q r) = λ i. with_values differ_value (pointers m q i) (pointers m r i)

    pub places : (m : Store) (l : Lval) → place_of one m l ≡ place_of two m l
    places m (lval.Var v) = refl
    places m (Deref' sh (more_of-Pexpr q end_of-Pexpr)) = λ i. with_value deref (pointers m q i)
    places m (Field' sh (more_of-Lval l end_of-Lval) at) =
        λ i. with_value (further (offset_of (sizes_of one) base.structs (types l i) at)) (places m l i)

    pub pointers : (m : Store) (q : Pexpr) → pointer_of one m q ≡ pointer_of two m q
    pointers m p.Null = refl
    pointers m (p.Read' sh (more_of-Lval l end_of-Lval)) = λ i. with_value (pointer_at m) (places m l i)
    pointers m (p.Decay' sh (more_of-Lval l end_of-Lval)) =
        λ i. with_value (first_of_array (cells_of (sizes_of one) (element_of (types l i))) (elements_of (types l i))) (places m l i)
    pointers m (p.Address' sh (more_of-Lval l end_of-Lval)) = addresses m l
    pointers m (p.Plus' sh (more_of-Pexpr q end_of-Pexpr) sh2 (more_of-Expr n end_of-Expr)) =
        λ i. with_values moved (pointers m q i) (values m n i)
    pointers m (p.Minus' sh (more_of-Pexpr q end_of-Pexpr) sh2 (more_of-Expr n end_of-Expr)) =
        λ i. with_values moved_back (pointers m q i) (values m n i)

    addresses : (m : Store) (l : Lval) → address_of one m l ≡ address_of two m l
    addresses m (lval.Var v) = refl
    addresses m (Deref' sh (more_of-Pexpr q end_of-Pexpr)) = pointers m q
    addresses m (Field' sh (more_of-Lval l end_of-Lval) at) =
        λ i. with_value (first_of_array (cells_of (sizes_of one) (field_of base.structs (types l i) at)) 1)
        (with_value (further (offset_of (sizes_of one) base.structs (types l i) at)) (places m l i))
