-- The first of a list of atoms that equals one.
use Rattle.std.proofs.Common.{◌≡◌, ℕ, ◌+◌, ◌<◌, List, ◌∷◌, Option, Some, true, false, length, get_or, drop, refl, add-one, drop-cons}
use Rattle.ax_prog.specs.declared.Atom.{Atom}
use Rattle.ax_prog.specs.declared.Span.{Span}
use Rattle.ax_prog.specs.Equality.{atom_eq}
use Rattle.ax_print.specs.Text.{first_span}

pub first_span-found : (a : Atom) (parts : List (Atom × Span)) (i : ℕ) (part : Atom × Span) → i < length parts → part ≡ get_or parts i part → atom_eq part.0 a ≡ true → first_span a (drop i parts) ≡ Some part.1
first_span-found a parts i part below is h = rw (drop-cons parts i part, ← is, h) refl

pub first_span-passed : (a : Atom) (parts : List (Atom × Span)) (i : ℕ) (part : Atom × Span) → i < length parts → part ≡ get_or parts i part → atom_eq part.0 a ≡ false → first_span a (drop i parts) ≡ first_span a (drop (i + 1) parts)
first_span-passed a parts i part below is h = rw (add-one, drop-cons parts i part, ← is, h) refl
