-- What comes of the clauses of a file.
use Rattle.std.specs.Prelude.{◌≡◌, ℕ, Bool, true, List, [], Option, Some, None, Result, Ok, Err}
use Rattle.std.specs.List.{All}
use Rattle.ax_proof.specs.Literal.{Literal, IsOver}
use Rattle.ax_proof.specs.Assignment.{satisfies}
use Rattle.ax_proof.specs.Lines.{IsLawful, IsProof}
use Rattle.ax_proof.specs.declared.denied.Denied.{Denied}
use Rattle.ax_proof.specs.declared.denied.Denied.TheVariants.{Fault, Memory}
use Rattle.ax_sat.specs.Answer.{IsModel, SpendsBudget}
use Rattle.ax_dimacs.specs.declared.read.CnfFault.{CnfFault}
use Rattle.ax_dimacs.specs.Clauses.{Formula, formula_of}
use Rattle.ax_prove.specs.declared.outcome.Outcome.{Outcome}
use Rattle.ax_prove.specs.declared.outcome.Outcome.TheVariants.{Model, Refuted, Budget}
use Rattle.ax_prove.specs.Texts.{budget_report, model_report, proof_text, refuted_report}

-- some truth values satisfy the clauses
abbrev pub HasModel : List (List Literal) → Type 0
HasModel clauses = (v : ℕ → Bool) × (satisfies v clauses ≡ true)

-- truth values of the variables satisfy the clauses, and the report says which
pub record ShowsModel (f : Formula) (report : List ℕ) : Type 0 where
  pub bits : List Bool
  pub model : IsModel f.clauses f.vars bits
  pub text : report ≡ model_report bits

-- each line follows by unit propagation, and the last one, and no other, is empty
pub record ShowsProof (f : Formula) (text : List ℕ) : Type 0 where
  pub lines : List (List Literal)
  pub proof : IsProof f.clauses lines
  pub is_text : text ≡ proof_text lines

-- each line follows by unit propagation and is new; they are as many as the budget
pub record ShowsLines (f : Formula) (budget : ℕ) (text : List ℕ) : Type 0 where
  pub lines : List (List Literal)
  pub lawful : IsLawful f.clauses lines
  pub over : All (IsOver f.vars) lines
  pub spent : SpendsBudget f.clauses f.vars [] lines budget
  pub is_text : text ≡ proof_text lines

-- a model, or a proof that there is none, or as many lines as the budget
abbrev pub Shows : Formula → ℕ → Outcome → Type 0
Shows f budget (Model report) = ShowsModel f report.items
Shows f budget (Refuted proof) = ShowsProof f proof.items
Shows f budget (Budget lines) = ShowsLines f budget lines.items

-- whether the clauses have a model
abbrev pub Decides : Formula → Outcome → Type 0
Decides f (Model report) = HasModel f.clauses
Decides f (Refuted proof) = HasModel f.clauses → ⊥
Decides f (Budget lines) = Unit {0}

-- the file says a formula of which the outcome shows and decides this; or the place of its first fault
abbrev pub Proves : List ℕ → ℕ → Result Outcome (Denied CnfFault) → Type 0
Proves bytes budget (Ok outcome) = (f : Formula) × (formula_of bytes ≡ Ok f) × Shows f budget outcome × Decides f outcome
Proves bytes budget (Err (Fault fault)) = formula_of bytes ≡ Err fault.at
Proves bytes budget (Err Memory) = Unit {0}

-- what is printed
abbrev pub report_of : Outcome → List ℕ
report_of (Model report) = report.items
report_of (Refuted proof) = refuted_report
report_of (Budget lines) = budget_report

-- what is put under PROOF, where something is
abbrev pub lines_of : Outcome → Option (List ℕ)
lines_of (Model report) = None
lines_of (Refuted proof) = Some proof.items
lines_of (Budget lines) = Some lines.items

-- 0 where there is no model, 1 where there is one, and 9 where the budget is used up
abbrev pub status_of : Outcome → ℕ
status_of (Model report) = 1
status_of (Refuted proof) = 0
status_of (Budget lines) = 9
