-- The reports, and how an order ends with one.
use Rattle.std.specs.Prelude.{◌≡◌, ◌⊎◌, ◌++◌, ℕ, List, [], codes, string_bytes}
use Rattle.std.specs.Fmt.{decimal}
use Rattle.ax_outside.specs.Seen.{Adds, AddsPart, NoLess, Rose, Seen}
use Rattle.ax_top_texts.specs.Texts.{source_report, suite_report}
use Rattle.ax_words.specs.declared.order.Order.{Order}
use Rattle.ax_words.specs.declared.order.Order.TheVariants.{Check, Gen, Prove, Rank, Repair, Run}
use Rattle.ax_top.specs.declared.files.File.{File}
use Rattle.ax_top.specs.declared.files.File.TheVariants.{Cert, Source, Tests}
use Rattle.ax_top.specs.declared.files.Stop.{Stop}
use Rattle.ax_top.specs.declared.files.Stop.TheVariants as stop

-- of three names that of a file
abbrev pub one_of : File → List ℕ → List ℕ → List ℕ → List ℕ
one_of Source source tests cert = source
one_of Tests source tests cert = tests
one_of Cert source tests cert = cert

-- an order that has no such file has no name for it
abbrev pub name_of : Order → File → List ℕ
name_of (Repair o) file = one_of file (string_bytes o.source) (string_bytes o.tests) (string_bytes o.cert)
name_of (Check source tests patched cert) file = one_of file (string_bytes source) (string_bytes tests) (string_bytes cert)
name_of (Run source tests steps) file = one_of file (string_bytes source) (string_bytes tests) []
name_of (Rank source tests formula steps) file = one_of file (string_bytes source) (string_bytes tests) []
name_of (Gen n) file = []
name_of (Prove cnf proof budget) file = []

abbrev pub file_report : List ℕ → List ℕ → List ℕ
file_report what name = what ++ (name ++ codes "\n")

-- a picked number, and how many candidates there are
abbrev pub candidate_report : ℕ → ℕ → List ℕ
candidate_report picked count = codes "no candidate " ++ (decimal picked ++ (codes " of " ++ (decimal count ++ codes "\n")))

abbrev pub stop_report : Order → Stop → List ℕ
stop_report order stop.Memory = []
stop_report order stop.NoRanker = codes "no ranker\n"
stop_report order (stop.ReadFailed file) = file_report (codes "read failed: ") (name_of order file)
stop_report order (stop.TooLong file) = file_report (codes "file too long: ") (name_of order file)
stop_report order (stop.Source fault) = source_report fault
stop_report order (stop.Suite fault) = suite_report fault
stop_report order (stop.NoCandidate picked count) = candidate_report picked count
stop_report order stop.NotBuilt = codes "not built\n"

abbrev pub stop_status : Stop → ℕ
stop_status stop.NoRanker = 2
stop_status (stop.NoCandidate picked count) = 2
stop_status (stop.Source fault) = 3
stop_status (stop.Suite fault) = 4
stop_status (stop.TooLong file) = 5
stop_status (stop.ReadFailed file) = 6
stop_status stop.Memory = 10
stop_status stop.NotBuilt = 11

-- a report was printed whole, or a print failed after a part of it; no name changes
pub record Finishes (old new : Seen) (report : List ℕ) : Type 0 where
  pub printed : Adds old.printed report new.printed ⊎ (AddsPart old.printed report new.printed × Rose old.prints new.prints)
  pub kept : (f : List ℕ) → new.kept f ≡ old.kept f
  pub counts : NoLess old new
