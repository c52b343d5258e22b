-- Where the slots of a program stand in its text, and what they hold.
use Rattle.std.specs.Prelude.{◌≡◌, ℕ, ◌≤◌, List, Some, AllPairs}
use Rattle.std.specs.List.{All}
use Rattle.ax_prog.specs.declared.Span.{Span}
use Rattle.ax_prog.specs.declared.Program.{Program}
use Rattle.ax_prog.specs.declared.tokens.Kind.TheVariants as k
use Rattle.ax_prog.specs.Substitution.{FitsSlot}
use Rattle.ax_lex.specs.Tokens.{kind_of}
use Rattle.ax_front_facts.specs.Writable.{IsWritable}

-- a stretch of a text of so many bytes
abbrev pub LiesIn : ℕ → Span → Type 0
LiesIn len span = (span.from ≤ span.to) × (span.to ≤ len)

-- each slot stands in a text of so many bytes
abbrev pub SlotsLie : ℕ → Program → Type 0
SlotsLie len program = All (λ slot. LiesIn len slot.span) program.slots

-- each slot's own tree fits it
abbrev pub SlotsFit : Program → Type 0
SlotsFit program = All (λ slot. FitsSlot slot slot.expr) program.slots

-- each slot ends before the next one begins
abbrev pub SlotsRise : Program → Type 0
SlotsRise program = AllPairs (λ a b. a.span.to ≤ b.span.from) program.slots

-- each slot's own tree can be written
abbrev pub SlotsWritable : Program → Type 0
SlotsWritable program = All (λ slot. IsWritable slot.expr) program.slots

-- the text of a token that is this name (6.4.2.1)
abbrev pub IsWord : List ℕ → Type 0
IsWord x = kind_of x ≡ Some (k.Name x)

-- each variable's name is a token
abbrev pub NamesAreWords : Program → Type 0
NamesAreWords program = All (λ v. IsWord v.name) program.vars
