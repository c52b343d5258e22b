-- What is put and printed for an answer.
use Rattle.std.specs.Prelude.{◌≡◌, ◌≢◌, ◌⊎◌, ℕ, nat_eq, if◌then◌else◌, List, [], string_bytes}
use Rattle.ax_outside.specs.Seen.{Adds, AddsPart, Holds, HoldsPart, NoLess, Rose, Seen}
use Rattle.ax_words.specs.declared.order.Order.{Order}
use Rattle.ax_words.specs.declared.order.Order.TheVariants.{Repair}
use Rattle.ax_top.specs.declared.answer.Answer.{Answer}
use Rattle.ax_top.specs.declared.answer.Answer.TheVariants as answer
use Rattle.ax_top.specs.Repairs.{no_repair_report}

-- an order that has no such file has no name for it
abbrev pub out_of : Order → List ℕ
out_of (Repair o) = string_bytes o.out
out_of other = []

-- a report was printed, and the status is its own; or the print failed after a part of it, and the status is this other one
pub record Prints (old new : Seen) (report : List ℕ) (own failed status : ℕ) : Type 0 where
  pub ended : ((status ≡ own) × Adds old.printed report new.printed)
      ⊎ ((status ≡ failed) × AddsPart old.printed report new.printed × Rose old.prints new.prints)
  pub kept : (f : List ℕ) → new.kept f ≡ old.kept f
  pub counts : NoLess old new

-- the status of a report alone is 7 where its print failed
abbrev pub Reports : Seen → Seen → List ℕ → ℕ → ℕ → Type 0
Reports old new report own status = Prints old new report own 7 status

-- the status of a text that was put, where the print of its report failed: 9 stays, as the name holds the lines
abbrev pub unprinted : ℕ → ℕ
unprinted own = if nat_eq own 9 then 9 else 7

-- a name holds the text and the report was printed, and the status is its own; or the put failed, the status is 7, and nothing was printed; or the name
-- holds the text and the print failed
pub data Delivery (old new : Seen) (out text report : List ℕ) (own status : ℕ) : Type 0 where
  whole : status ≡ own → Holds (old.kept out) text (new.kept out) → Adds old.printed report new.printed
      → Delivery old new out text report own status
  put_failed : status ≡ 7 → HoldsPart (old.kept out) text (new.kept out) → new.printed ≡ old.printed → Rose (old.puts out) (new.puts out)
      → Delivery old new out text report own status
  print_failed : status ≡ unprinted own → Holds (old.kept out) text (new.kept out) → AddsPart old.printed report new.printed → Rose old.prints new.prints
      → Delivery old new out text report own status

pub record Delivers (old new : Seen) (out text report : List ℕ) (own status : ℕ) : Type 0 where
  pub ended : Delivery old new out text report own status
  pub others : (f : List ℕ) → f ≢ out → new.kept f ≡ old.kept f
  pub counts : NoLess old new

-- a repaired source is put before its report is printed; without a repair only the report is, and so it is of other orders
abbrev pub Gives : Seen → Seen → List ℕ → Answer → ℕ → Type 0
Gives old new out (answer.Repaired text report) status = Delivers old new out text report 0 status
Gives old new out answer.NoRepair status = Reports old new no_repair_report 1 status
Gives old new out (answer.Reported told) status = Reports old new told.report told.status status
