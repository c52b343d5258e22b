-- A shelf in memory: what it keeps, the calls that are to fail, and the room that is left for what is put and printed.
use Rattle.std.specs.Prelude.{◌≡◌, ◌+◌, ◌-◌, ◌^◌, ◌++◌, ◌==◌, ℕ, min, Bool, ◌&&◌, ◌||◌, not, nat_lt, nat_le, if◌then◌else◌, List, [], ◌∷◌, length, take, drop, Option, None, Some, is_some, is_none, Result, is_err, IfOk, IfSome, OnOk, OnErr}
use Rattle.std.specs.List.{list_any}
use Rattle.std.specs.Str.{bytes_eq}
use Rattle.ax_outside.specs.Seen.{Seen}
use Rattle.ax_outside.specs.declared.memory.Tear.{Tear}
use Rattle.ax_outside.specs.declared.shelf.Failed.{Failed}

pub record File : Type 0 where
  pub name : List ℕ
  pub bytes : List ℕ

-- `files` and `tears` have the newest first; `fails` and `tears` name calls by their numbers, from 1
pub record Shelved : Type 0 where
  pub files : List File
  pub printed : List ℕ
  pub fails : List ℕ
  pub tears : List Tear
  pub calls : ℕ
  pub faults : ℕ
  pub calls_left : ℕ
  pub bytes_left : ℕ

-- the bytes of the newest file of that name
abbrev pub kept_in : List File → List ℕ → Option (List ℕ)
kept_in [] name = None
kept_in (f ∷ fs) name = if bytes_eq f.name name then Some f.bytes else kept_in fs name

-- all is told, and one count of faults stands for every read, put and print
abbrev pub seen_of : Shelved → Seen
seen_of s = record {
  kept = λ name. Some (kept_in s.files name);
  printed = Some s.printed;
  reads = λ _. s.faults;
  puts = λ _. s.faults;
  prints = s.faults;
}

-- counts stand still at the end of their type
abbrev pub one_more : ℕ → ℕ
one_more n = min (n + 1) (2 ^ 64 - 1)

-- how many bytes that call leaves, as the last tear that names it says
abbrev pub torn_at : List Tear → ℕ → Option ℕ
torn_at [] call = None
torn_at (t ∷ ts) call = if t.call == call then Some t.kept else torn_at ts call

-- the next call is named by a tear or among those that are to fail
abbrev pub is_due : Shelved → Bool
is_due s = is_some (torn_at s.tears (one_more s.calls)) || list_any (λ n. n == one_more s.calls) s.fails

-- room for one call that leaves that many bytes
abbrev pub has_room : Shelved → ℕ → Bool
has_room s bytes = nat_lt 0 s.calls_left && nat_le bytes s.bytes_left

abbrev pub with_file : Shelved → List ℕ → List ℕ → Shelved
with_file s name bytes = record s {
  files = record { name = name; bytes = bytes } ∷ s.files;
  calls_left = s.calls_left - 1;
  bytes_left = s.bytes_left - (length name + length bytes);
}

abbrev pub with_text : Shelved → List ℕ → Shelved
with_text s bytes = record s {
  printed = s.printed ++ bytes;
  calls_left = s.calls_left - 1;
  bytes_left = s.bytes_left - length bytes;
}

-- one more call
abbrev pub counted : Shelved → Shelved
counted s = record s { calls = one_more s.calls }

-- one more call, and one more fault
abbrev pub failed : Shelved → Shelved
failed s = record s { calls = one_more s.calls; faults = one_more s.faults }

-- what a torn put leaves: the first bytes, where there is room for them
abbrev pub torn_put : Shelved → List ℕ → List ℕ → Option ℕ → Shelved
torn_put s name bytes None = s
torn_put s name bytes (Some kept) =
    if has_room s (length name + length (take kept bytes)) then with_file s name (take kept bytes) else s

abbrev pub torn_print : Shelved → List ℕ → Option ℕ → Shelved
torn_print s bytes None = s
torn_print s bytes (Some kept) = if has_room s (length (take kept bytes)) then with_text s (take kept bytes) else s

-- what the next call leaves where it is a put that fails, and where it is a print that fails
abbrev pub put_part : Shelved → List ℕ → List ℕ → Shelved
put_part s name bytes = torn_put s name bytes (torn_at s.tears (one_more s.calls))

abbrev pub print_part : Shelved → List ℕ → Shelved
print_part s bytes = torn_print s bytes (torn_at s.tears (one_more s.calls))

-- as many of the file's bytes from a place on as there are and fit
pub record GivesAll (file : List ℕ) (from : ℕ) (into : List ℕ) (n : ℕ) : Type 0 where
  pub count : n ≡ min (length file - from) (length into)
  pub bytes : take n into ≡ take n (drop from file)

-- what a read of a shelf in memory answers and leaves: it fails exactly where it is due or nothing is kept under the name
pub record ReadsKept (old new : Shelved) (name : List ℕ) (from : ℕ) (into : List ℕ) (result : Result ℕ Failed) : Type 0 where
  pub fails : is_err result ≡ (is_due old || is_none (kept_in old.files name))
  pub gives : IfOk result (λ n. IfSome (kept_in old.files name) (λ file. GivesAll file from into n))
  pub ok : OnOk result (new ≡ counted old)
  pub err : OnErr result (new ≡ failed old)

-- a put fails exactly where it is due or there is no room for the name and the bytes
pub record PutsFile (old new : Shelved) (name bytes : List ℕ) (result : Result (Unit {0}) Failed) : Type 0 where
  pub fails : is_err result ≡ (is_due old || not (has_room old (length name + length bytes)))
  pub ok : OnOk result (new ≡ counted (with_file old name bytes))
  pub err : OnErr result (new ≡ failed (put_part old name bytes))

-- a print fails exactly where it is due or there is no room for the bytes
pub record PrintsText (old new : Shelved) (bytes : List ℕ) (result : Result (Unit {0}) Failed) : Type 0 where
  pub fails : is_err result ≡ (is_due old || not (has_room old (length bytes)))
  pub ok : OnOk result (new ≡ counted (with_text old bytes))
  pub err : OnErr result (new ≡ failed (print_part old bytes))
