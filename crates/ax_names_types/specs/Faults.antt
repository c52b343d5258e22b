-- Faults, and which of two comes first.
use Rattle.std.specs.Prelude.{◌≡◌, ℕ, ◌+◌, ◌*◌, Result}
use Rattle.ax_prog.specs.declared.Span.{Span}
use Rattle.ax_names_types.specs.declared.TypeKind.{TypeKind}
use Rattle.ax_names_types.specs.declared.TypeKind.TheVariants as kind
use Rattle.ax_names_types.specs.declared.TypeFault.{TypeFault}

abbrev pub fault : TypeKind → Span → TypeFault
fault k at = record { kind = k; span = at }

-- the place of a kind in the list of kinds
abbrev pub rank : TypeKind → ℕ
rank kind.UnknownName = 0
rank kind.Redeclared = 1
rank kind.WrongType = 2
rank kind.NotLvalue = 3
rank kind.WrongCount = 4
rank kind.NoMain = 5
rank kind.MissingField = 6
rank kind.RecursiveStruct = 7
rank kind.TooLarge = 8
rank kind.Misplaced = 9

-- faults go by their start, and at one start by the list of kinds
abbrev pub turn : TypeFault → ℕ
turn f = f.span.from * 16 + rank f.kind

-- an answer, or a fault
abbrev pub Verdict : Type 0 → Type 0
Verdict A = Result A TypeFault
