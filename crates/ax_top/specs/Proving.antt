-- What an order to prove comes to.
use Rattle.std.specs.Prelude.{◌≡◌, ◌<◌, ◌≤◌, ◌++◌, ◌⊎◌, ℕ, Bool, List, [], length, codes, string_bytes, String, Option, None, Some, Result, Ok, Err}
use Rattle.std.specs.Fmt.{decimal}
use Rattle.std.specs.Global.{Global}
use Rattle.ax_proof.specs.Literal.{Literal}
use Rattle.ax_proof.specs.Lines.{IsProof}
use Rattle.ax_sat.specs.Answer.{IsModel}
use Rattle.ax_dimacs.specs.Clauses.{Formula, formula_of}
use Rattle.ax_prove.specs.declared.outcome.Outcome.{Outcome}
use Rattle.ax_prove.specs.Outcomes.{Decides, HasModel, Shows, ShowsLines, lines_of, report_of, status_of}
use Rattle.ax_prove.specs.Texts.{budget_report, model_report, proof_text, refuted_report}
use Rattle.ax_outside.specs.Seen.{Adds, AddsPart, Holds, IsWhole, NoLess, OnKept, Rose, Same, Seen, Told}
use Rattle.ax_words.specs.declared.order.Order.TheVariants.{Prove}
use Rattle.ax_words.specs.Words.{Says}
use Rattle.ax_top.specs.declared.proving.Halt.{Halt}
use Rattle.ax_top.specs.declared.proving.Halt.TheVariants as halt
use Rattle.ax_top.specs.Delivery.{Delivers, Reports}
use Rattle.ax_top.specs.Reports.{Finishes, file_report}

-- how many bytes a clause file has at most
abbrev pub cnf_limit : ℕ
cnf_limit = 268435456

-- the bytes of the clause file as a read gives them
abbrev pub CnfRead : Told → List ℕ → Type 0
CnfRead told bytes = OnKept told (λ kept. IsWhole kept bytes cnf_limit)

abbrev pub IsCnfLong : Told → Type 0
IsCnfLong told = OnKept told (λ bytes. cnf_limit < length bytes)

-- the outcome of the formula that CNF says, or why there is none
abbrev pub CnfEnds : Seen → Seen → List ℕ → ℕ → Result Outcome Halt → Type 0
CnfEnds old new cnf budget (Ok outcome) =
    (bytes : List ℕ) × (f : Formula) × CnfRead (old.kept cnf) bytes × (formula_of bytes ≡ Ok f) × Shows f budget outcome × Decides f outcome
CnfEnds old new cnf budget (Err halt.Memory) = Unit {0}
CnfEnds old new cnf budget (Err halt.ReadFailed) = Rose (old.reads cnf) (new.reads cnf)
CnfEnds old new cnf budget (Err halt.TooLong) = IsCnfLong (old.kept cnf)
CnfEnds old new cnf budget (Err (halt.Refused at)) = (bytes : List ℕ) × CnfRead (old.kept cnf) bytes × (formula_of bytes ≡ Err at)

abbrev pub halt_report : List ℕ → Halt → List ℕ
halt_report cnf halt.Memory = []
halt_report cnf halt.ReadFailed = file_report (codes "read failed: ") cnf
halt_report cnf halt.TooLong = file_report (codes "file too long: ") cnf
halt_report cnf (halt.Refused at) = codes "cnf refused at " ++ (decimal at ++ codes "\n")

abbrev pub halt_status : Halt → ℕ
halt_status halt.TooLong = 5
halt_status halt.ReadFailed = 6
halt_status halt.Memory = 10
halt_status (halt.Refused at) = 13

-- memory is wanting, and nothing is printed; or the report says why
abbrev pub Refuses : Seen → Seen → List ℕ → Halt → ℕ → Type 0
Refuses old new cnf why status =
    ((status ≡ 10) × Same old new × NoLess old new) ⊎ ((status ≡ halt_status why) × Finishes old new (halt_report cnf why))

-- lines are put under PROOF before the report is printed; without lines only the report is
abbrev pub GivesLines : Seen → Seen → List ℕ → List ℕ → ℕ → Option (List ℕ) → ℕ → Type 0
GivesLines old new proof report own None status = Reports old new report own status
GivesLines old new proof report own (Some lines) status = Delivers old new proof lines report own status

abbrev pub GivesOutcome : Seen → Seen → List ℕ → Outcome → ℕ → Type 0
GivesOutcome old new proof outcome status = GivesLines old new proof (report_of outcome) (status_of outcome) (lines_of outcome) status

-- memory is wanting, and nothing is put or printed; or something stops the order, and the report says what; or the outcome is given
pub data DoesProve (old new : Seen) (cnf proof : List ℕ) (budget status : ℕ) : Type 0 where
  memory : status ≡ 10 → Same old new → NoLess old new → DoesProve old new cnf proof budget status
  halted : (why : Halt) (mid : Seen) → CnfEnds old mid cnf budget (Err why) → Same old mid → NoLess old mid → status ≡ halt_status why
      → Finishes mid new (halt_report cnf why) → DoesProve old new cnf proof budget status
  given : (outcome : Outcome) (mid : Seen) → CnfEnds old mid cnf budget (Ok outcome) → Same old mid → NoLess old mid
      → GivesOutcome mid new proof outcome status → DoesProve old new cnf proof budget status

-- ---- what the statuses say

-- The words are an order to prove, and CNF, read within its limit, says this formula.
pub record IsSaid (old : Seen) (words : List (List ℕ)) : Type 0 where
  pub cnf : String Global
  pub proof : String Global
  pub budget : ℕ
  pub bytes : List ℕ
  pub formula : Formula
  pub says : Says words (Ok (Prove cnf proof budget))
  pub read : CnfRead (old.kept (string_bytes cnf)) bytes
  pub said : formula_of bytes ≡ Ok formula

-- The clauses have no model. PROOF holds a proof, whose last line, and no other, is empty.
pub record WroteProof (old new : Seen) (words : List (List ℕ)) : Type 0 where
  pub order : IsSaid old words
  pub none : HasModel order.formula.clauses → ⊥
  pub lines : List (List Literal)
  pub proof : IsProof order.formula.clauses lines
  pub holds : Holds (old.kept (string_bytes order.proof)) (proof_text lines) (new.kept (string_bytes order.proof))
  pub reports : Adds old.printed refuted_report new.printed

-- The printed literals are those of truth values of all variables which satisfy the clauses.
pub record FoundModel (old new : Seen) (words : List (List ℕ)) : Type 0 where
  pub order : IsSaid old words
  pub bits : List Bool
  pub model : IsModel order.formula.clauses order.formula.vars bits
  pub reports : Adds old.printed (model_report bits) new.printed

-- PROOF holds as many lines as the budget, each lawful and new. The report was printed, or its print failed after a part of it.
pub record RanOut (old new : Seen) (words : List (List ℕ)) : Type 0 where
  pub order : IsSaid old words
  pub text : List ℕ
  pub lines : ShowsLines order.formula order.budget text
  pub holds : Holds (old.kept (string_bytes order.proof)) text (new.kept (string_bytes order.proof))
  pub reports : Adds old.printed budget_report new.printed ⊎ (AddsPart old.printed budget_report new.printed × Rose old.prints new.prints)

-- The words are an order to prove, and CNF, read within its limit, is no clause file: this is its first fault.
pub record RefusedCnf (old new : Seen) (words : List (List ℕ)) : Type 0 where
  pub cnf : String Global
  pub proof : String Global
  pub budget : ℕ
  pub bytes : List ℕ
  pub at : ℕ
  pub says : Says words (Ok (Prove cnf proof budget))
  pub read : CnfRead (old.kept (string_bytes cnf)) bytes
  pub fault : formula_of bytes ≡ Err at
  pub reports : Finishes old new (halt_report (string_bytes cnf) (halt.Refused at))

-- The words are an order to prove, and a put of its PROOF or a print failed.
pub record GaveLessOfProof (old new : Seen) (words : List (List ℕ)) : Type 0 where
  pub cnf : String Global
  pub proof : String Global
  pub budget : ℕ
  pub says : Says words (Ok (Prove cnf proof budget))
  pub rose : Rose (old.puts (string_bytes proof)) (new.puts (string_bytes proof)) ⊎ Rose old.prints new.prints

-- the status is one of 6, 7, 9 and 10, each with its cause
pub data IsUndecided (old new : Seen) (cnf proof : String Global) (status : ℕ) : Type 0 where
  wants_memory : status ≡ 10 → IsUndecided old new cnf proof status
  fails_to_read : status ≡ 6 → Rose (old.reads (string_bytes cnf)) (new.reads (string_bytes cnf)) → IsUndecided old new cnf proof status
  fails_to_give : status ≡ 7 → Rose (old.puts (string_bytes proof)) (new.puts (string_bytes proof)) ⊎ Rose old.prints new.prints
      → IsUndecided old new cnf proof status
  spends_budget : status ≡ 9 → IsUndecided old new cnf proof status

-- the words are this order to prove, and the shelf tells the bytes of CNF, which are within the limit
pub record AsksToProve (old : Seen) (words : List (List ℕ)) (cnf proof : String Global) (budget : ℕ) (bytes : List ℕ) : Type 0 where
  pub says : Says words (Ok (Prove cnf proof budget))
  pub told : old.kept (string_bytes cnf) ≡ Some (Some bytes)
  pub short : length bytes ≤ cnf_limit

-- 9 only with the lines put, also where their report couldn't be printed, 13 only where the file is refused. Where the clauses have no model the status is 0, and where
-- they have one it is 1, unless one of 6, 7, 9 and 10 came; where the file is refused it is 13, unless 6 or 10 came.
pub record Proving (old new : Seen) (words : List (List ℕ)) (status : ℕ) : Type 0 where
  pub nine : status ≡ 9 → RanOut old new words
  pub thirteen : status ≡ 13 → RefusedCnf old new words
  pub none : (cnf proof : String Global) (budget : ℕ) (bytes : List ℕ) (f : Formula) → AsksToProve old words cnf proof budget bytes
      → formula_of bytes ≡ Ok f → (HasModel f.clauses → ⊥) → (status ≡ 0) ⊎ IsUndecided old new cnf proof status
  pub some : (cnf proof : String Global) (budget : ℕ) (bytes : List ℕ) (f : Formula) → AsksToProve old words cnf proof budget bytes
      → formula_of bytes ≡ Ok f → HasModel f.clauses → (status ≡ 1) ⊎ IsUndecided old new cnf proof status
  pub refused : (cnf proof : String Global) (budget : ℕ) (bytes : List ℕ) (at : ℕ) → AsksToProve old words cnf proof budget bytes
      → formula_of bytes ≡ Err at → (status ≡ 13) ⊎ IsUndecided old new cnf proof status
