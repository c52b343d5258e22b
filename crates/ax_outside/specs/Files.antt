-- Files one after another in a log of bytes, each with its name before its content.
use Rattle.std.specs.Prelude.{◌≤◌, ◌+◌, ℕ, List, [], ◌∷◌, length, slice_range}
use Rattle.std.specs.Vec.{vec_len, vec_capacity}
use Rattle.std.specs.Global.{Vec}
use Rattle.ax_outside.specs.Memory.{File}
use Rattle.ax_outside.specs.declared.files.Entry.{Entry}

abbrev pub file_at : List ℕ → Entry → File
file_at log e = record { name = slice_range log e.name e.bytes; bytes = slice_range log e.bytes e.end }

abbrev pub files_of : List ℕ → List Entry → List File
files_of log [] = []
files_of log (e ∷ es) = file_at log e ∷ files_of log es

pub record LiesIn (len : ℕ) (e : Entry) : Type 0 where
  pub name : e.name ≤ e.bytes
  pub bytes : e.bytes ≤ e.end
  pub end : e.end ≤ len

abbrev pub AllLieIn : ℕ → List Entry → Type 0
AllLieIn len [] = Unit {0}
AllLieIn len (e ∷ es) = LiesIn len e × AllLieIn len es

-- every file lies in the log, and there is memory for the room that is left
pub record IsStored (log : Vec ℕ) (files : Vec Entry) (printed : Vec ℕ) (calls_left bytes_left : ℕ) : Type 0 where
  pub lie_in : AllLieIn (length log.items) files.items
  pub log_room : vec_len log + bytes_left ≤ vec_capacity log
  pub files_room : vec_len files + calls_left ≤ vec_capacity files
  pub printed_room : vec_len printed + bytes_left ≤ vec_capacity printed
