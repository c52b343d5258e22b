-- The files that an order reads.
use Rattle.std.specs.Prelude.{◌≡◌, ◌<◌, ℕ, List, length, Result, Ok, Err}
use Rattle.std.specs.Global.{Vec}
use Rattle.ax_outside.specs.Seen.{IsWhole, OnKept, Rose, Seen, Told}
use Rattle.ax_top.specs.declared.files.File.{File}
use Rattle.ax_top.specs.declared.files.File.TheVariants.{Cert, Source, Tests}
use Rattle.ax_top.specs.declared.files.Stop.{Stop}
use Rattle.ax_top.specs.declared.files.Stop.TheVariants.{Memory, ReadFailed, TooLong}

-- how many bytes a file has at most
abbrev pub limit_of : File → ℕ
limit_of Source = 1048576
limit_of Tests = 1048576
limit_of Cert = 268435456

abbrev pub IsLong : Told → File → Type 0
IsLong told file = OnKept told (λ bytes. limit_of file < length bytes)

-- the bytes of a file as a read gives them
abbrev pub WasRead : Told → File → List ℕ → Type 0
WasRead told file bytes = OnKept told (λ kept. IsWhole kept bytes (limit_of file))

-- the file's bytes, or that it is too long, or that a read of it failed
abbrev pub FileRead : Seen → Seen → List ℕ → File → Result (Vec ℕ) Stop → Type 0
FileRead old new name file (Ok v) = WasRead (old.kept name) file v.items
FileRead old new name file (Err Memory) = Unit {0}
FileRead old new name file (Err (TooLong which)) = (which ≡ file) × IsLong (old.kept name) file
FileRead old new name file (Err (ReadFailed which)) = (which ≡ file) × Rose (old.reads name) (new.reads name)
FileRead old new name file (Err other) = ⊥
