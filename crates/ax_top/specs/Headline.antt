-- What `repair` promises.
use Rattle.std.specs.Prelude.{◌≡◌, ◌⊎◌, ℕ, List, Ok, string_bytes}
use Rattle.ax_prog.specs.declared.Program.{Program}
use Rattle.ax_prog.specs.declared.SlotId.{SlotId}
use Rattle.ax_prog.specs.declared.Suite.{Suite}
use Rattle.ax_space.specs.declared.Patch.{Patch}
use Rattle.ax_least.specs.Least.{IsLeastRepair, NoRepair}
use Rattle.ax_repair.specs.Written.{written}
use Rattle.ax_repair_laws.specs.Reading.{PassesBack}
use Rattle.ax_rank_coverage.specs.Handed.{Handed}
use Rattle.ax_outside.specs.Seen.{Adds, Holds, Rose, Seen}
use Rattle.ax_words.specs.declared.order.Order.{Order}
use Rattle.ax_words.specs.declared.order.Order.TheVariants.{Repair}
use Rattle.ax_words.specs.declared.order.RepairOrder.{RepairOrder}
use Rattle.ax_words.specs.Words.{Says}
use Rattle.ax_top.specs.Built.{space_for}
use Rattle.ax_top.specs.Proving.{FoundModel, GaveLessOfProof, WroteProof}
use Rattle.ax_top.specs.Repairs.{IsSought, no_repair_report, repaired_report}
use Rattle.ax_top.specs.Telling.{OnlyReports, Tells}

-- The words are an order to repair with which nothing is wrong. A patch of its space has the least cost of those with
-- whose programs every test passes within the bounds. OUT holds the source with the text of that patch. Read back, it is the
-- patched program, spans aside, and passes every test within the bounds. The report names the cost and the changed
-- expressions. At cost 0 that text is the source, byte for byte.
pub record WroteLeast (old new : Seen) (rankers : List Handed) (words : List (List ℕ)) : Type 0 where
  pub order : RepairOrder
  pub source : List ℕ
  pub program : Program
  pub suite : Suite
  pub numbers : List ℕ
  pub chosen : List SlotId
  pub patch : Patch
  pub cost : ℕ
  pub says : Says words (Ok (Repair order))
  pub sought : IsSought old rankers order source program suite numbers chosen
  pub least : IsLeastRepair program suite.tests order.bounds (space_for program order chosen) patch cost
  pub holds : Holds (old.kept (string_bytes order.out)) (written source program chosen patch.trees) (new.kept (string_bytes order.out))
  pub back : PassesBack source program suite.tests order.bounds chosen patch
  pub unchanged : cost ≡ 0 → written source program chosen patch.trees ≡ source
  pub reports : Adds old.printed (repaired_report source program numbers chosen patch.trees cost) new.printed

-- The words are such an order, and there is no repair.
pub record FoundNone (old new : Seen) (rankers : List Handed) (words : List (List ℕ)) : Type 0 where
  pub order : RepairOrder
  pub source : List ℕ
  pub program : Program
  pub suite : Suite
  pub numbers : List ℕ
  pub chosen : List SlotId
  pub says : Says words (Ok (Repair order))
  pub sought : IsSought old rankers order source program suite numbers chosen
  pub none : NoRepair program suite.tests order.bounds (space_for program order chosen)
  pub reports : Adds old.printed no_repair_report new.printed

-- The words are an order to repair, and a put of its OUT or a print failed.
pub record GaveLess (old new : Seen) (words : List (List ℕ)) : Type 0 where
  pub order : RepairOrder
  pub says : Says words (Ok (Repair order))
  pub rose : Rose (old.puts (string_bytes order.out)) (new.puts (string_bytes order.out)) ⊎ Rose old.prints new.prints

-- The words are an order to run or to rank with which nothing is wrong. Its report was printed, and this is its own status.
pub record Reported (old new : Seen) (rankers : List Handed) (words : List (List ℕ)) (own : ℕ) : Type 0 where
  pub order : Order
  pub report : List ℕ
  pub says : Says words (Ok order)
  pub tells : Tells old rankers order report own
  pub reports : Adds old.printed report new.printed

-- The words are such an order, and a print failed.
pub record ReportedLess (old new : Seen) (words : List (List ℕ)) : Type 0 where
  pub order : Order
  pub says : Says words (Ok order)
  pub only : OnlyReports order
  pub rose : Rose old.prints new.prints

-- The headline: 0 only where a least repair was written, or clauses have no model and a proof of that was, or every test passes,
-- or the candidates were ranked; 1 only where there is no repair, or a model was printed, or a test doesn't pass; 7 only where a
-- put or a print failed.
pub record Headline (old new : Seen) (rankers : List Handed) (words : List (List ℕ)) (status : ℕ) : Type 0 where
  pub zero : status ≡ 0 → WroteLeast old new rankers words ⊎ (WroteProof old new words ⊎ Reported old new rankers words 0)
  pub one : status ≡ 1 → FoundNone old new rankers words ⊎ (FoundModel old new words ⊎ Reported old new rankers words 1)
  pub seven : status ≡ 7 → GaveLess old new words ⊎ (GaveLessOfProof old new words ⊎ ReportedLess old new words)
