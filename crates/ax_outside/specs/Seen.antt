-- What a shelf shows: the bytes under each name and those printed, where told, and how often it failed.
use Rattle.std.specs.Prelude.{◌≡◌, ◌≢◌, ◌<◌, ◌≤◌, ◌+◌, ◌-◌, ◌^◌, ◌++◌, ◌⊎◌, ℕ, min, List, length, take, drop, Option, None, Some, Result, IfOk, OnOk, OnErr}
use Rattle.ax_outside.specs.declared.shelf.Failed.{Failed}

-- what is told of a name: nothing, that no bytes are kept under it, or the bytes
abbrev pub Told : Type 0
Told = Option (Option (List ℕ))

pub record Seen : Type 0 where
  pub kept : List ℕ → Told
  pub printed : Option (List ℕ)
  pub reads : List ℕ → ℕ
  pub puts : List ℕ → ℕ
  pub prints : ℕ

-- what a shelf shows that tells no bytes and has one count for all its faults
abbrev pub untold : ℕ → Seen
untold faults = record {
  kept = λ _. None;
  printed = None;
  reads = λ _. faults;
  puts = λ _. faults;
  prints = faults;
}

-- the count has risen, or stands at the end of its type
abbrev pub Rose : ℕ → ℕ → Type 0
Rose before now = min (before + 1) (2 ^ 64 - 1) ≤ now

-- no count of faults has fallen
pub record NoLess (old new : Seen) : Type 0 where
  pub reads : (f : List ℕ) → old.reads f ≤ new.reads f
  pub puts : (f : List ℕ) → old.puts f ≤ new.puts f
  pub prints : old.prints ≤ new.prints

-- what is kept and printed stays
pub record Same (old new : Seen) : Type 0 where
  pub kept : (f : List ℕ) → new.kept f ≡ old.kept f
  pub printed : new.printed ≡ old.printed

-- n of the file's bytes from a place on: 0 only at the end, or where there is no room for one
pub record Gives (file : List ℕ) (from : ℕ) (into : List ℕ) (n : ℕ) : Type 0 where
  pub bytes : take n into ≡ take n (drop from file)
  pub most : n ≤ length file - from
  pub some : n ≡ 0 → 0 < length into → length file ≤ from

-- of a name under which nothing is kept, no bytes are given
abbrev pub Reads : Told → ℕ → List ℕ → ℕ → Type 0
Reads None from into n = Unit {0}
Reads (Some None) from into n = ⊥
Reads (Some (Some file)) from into n = Gives file from into n

abbrev pub IsPrefix : List ℕ → List ℕ → Type 0
IsPrefix part whole = (k : ℕ) × (part ≡ take k whole)

-- where the shelf tells what it keeps, the name holds these bytes
abbrev pub Holds : Told → List ℕ → Told → Type 0
Holds None bytes new = Unit {0}
Holds (Some old) bytes new = new ≡ Some (Some bytes)

-- the name holds what it held, or a prefix of these bytes
abbrev pub HoldsPart : Told → List ℕ → Told → Type 0
HoldsPart None bytes new = Unit {0}
HoldsPart (Some old) bytes new =
    (new ≡ Some old) ⊎ ((part : List ℕ) × (new ≡ Some (Some part)) × IsPrefix part bytes)

-- where the shelf tells what was printed, these bytes were added to it
abbrev pub Adds : Option (List ℕ) → List ℕ → Option (List ℕ) → Type 0
Adds None bytes new = Unit {0}
Adds (Some old) bytes new = new ≡ Some (old ++ bytes)

-- a prefix of these bytes was added
abbrev pub AddsPart : Option (List ℕ) → List ℕ → Option (List ℕ) → Type 0
AddsPart None bytes new = Unit {0}
AddsPart (Some old) bytes new = (part : List ℕ) × (new ≡ Some (old ++ part)) × IsPrefix part bytes

-- what a read gives and leaves
pub record Read (old new : Seen) (name : List ℕ) (from : ℕ) (into : List ℕ) (result : Result ℕ Failed) : Type 0 where
  pub bytes : IfOk result (Reads (old.kept name) from into)
  pub cause : OnErr result (Rose (old.reads name) (new.reads name))
  pub same : Same old new
  pub counts : NoLess old new

-- what a put leaves
pub record Put (old new : Seen) (name bytes : List ℕ) (result : Result (Unit {0}) Failed) : Type 0 where
  pub whole : OnOk result (Holds (old.kept name) bytes (new.kept name))
  pub part : OnErr result (HoldsPart (old.kept name) bytes (new.kept name))
  pub cause : OnErr result (Rose (old.puts name) (new.puts name))
  pub others : (f : List ℕ) → f ≢ name → new.kept f ≡ old.kept f
  pub printed : new.printed ≡ old.printed
  pub counts : NoLess old new

-- what a print leaves
pub record Print (old new : Seen) (bytes : List ℕ) (result : Result (Unit {0}) Failed) : Type 0 where
  pub whole : OnOk result (Adds old.printed bytes new.printed)
  pub part : OnErr result (AddsPart old.printed bytes new.printed)
  pub cause : OnErr result (Rose old.prints new.prints)
  pub kept : (f : List ℕ) → new.kept f ≡ old.kept f
  pub counts : NoLess old new

-- a fact of the bytes under a name, where the shelf tells them; of a name under which nothing is kept it doesn't hold
abbrev pub OnKept : Told → (List ℕ → Type 0) → Type 0
OnKept None P = Unit {0}
OnKept (Some None) P = ⊥
OnKept (Some (Some file)) P = P file

-- these bytes are the whole file, and no more than the limit
pub record IsWhole (file bytes : List ℕ) (limit : ℕ) : Type 0 where
  pub same : bytes ≡ file
  pub short : length file ≤ limit
