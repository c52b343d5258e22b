-- A source in which parts are replaced by texts.
use Rattle.std.specs.Prelude.{ℕ, ◌≤◌, ◌-◌, List, [], ◌∷◌, ◌++◌, take, drop, length}
use Rattle.ax_prog.specs.declared.Span.{Span}

-- the source from a place on, with the bytes of each part's span replaced by the part's text
abbrev pub spliced_from : ℕ → List ℕ → List (Span × List ℕ) → List ℕ
spliced_from at source [] = drop at source
spliced_from at source (part ∷ rest) =
    take (part.0.from - at) (drop at source) ++ (part.1 ++ spliced_from part.0.to source rest)

abbrev pub spliced : List ℕ → List (Span × List ℕ) → List ℕ
spliced source parts = spliced_from 0 source parts

-- from a place on, the parts' spans rise, don't overlap, and lie below the given length
abbrev pub AreParts : ℕ → ℕ → List (Span × List ℕ) → Type 0
AreParts at len [] = at ≤ len
AreParts at len (part ∷ rest) = (at ≤ part.0.from) × (part.0.from ≤ part.0.to) × AreParts part.0.to len rest
