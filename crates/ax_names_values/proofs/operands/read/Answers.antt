use Rattle.std.proofs.Common.{refl}
use Rattle.ax_names_types.proofs.Layers.{value_of_place-Ptr, value_of_place-Array}
use Rattle.ax_names_values.proofs.operands.read.Goals as goal

pub returns-in_ok-place-in-Ptr : goal.returns-in_ok-place-in-Ptr
returns-in_ok-place-in-Ptr c = rw (c.in-Ptr.is, value_of_place-Ptr, c.into_inner.ensures, c.in_ok-place-in-Ptr.ensures) refl

pub returns-in_ok-place-in-Array : goal.returns-in_ok-place-in-Array
returns-in_ok-place-in-Array c = rw (c.in-Array.is, value_of_place-Array, c.into_inner-in-Array.ensures, c.in_ok-place-in-Array.ensures) refl
