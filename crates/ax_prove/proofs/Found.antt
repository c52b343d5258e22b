-- What an answer of a search without assumptions shows and decides.
use Rattle.std.proofs.Common.{◌≡◌, ◌++◌, ℕ, Bool, true, List, [], subst, append-nil}
use Rattle.ax_proof.specs.Literal.{Literal}
use Rattle.ax_proof.specs.Assignment.{assigned, satisfies}
use Rattle.ax_proof.specs.Laws.{ProofRefutes}
use Rattle.ax_proof.specs.Lines.{IsLawful, IsProof}
use Rattle.ax_sat.specs.Answer.{IsModel, LogGoesOn, SpendsBudget, units}
use Rattle.ax_prove.specs.Outcomes.{HasModel, ShowsLines, ShowsModel, ShowsProof}
use Rattle.ax_prove.specs.Texts.{model_report, proof_text}

module _ (vars : ℕ) (clauses : List (List Literal)) where
  alone : (P : List (List Literal) → Type 0) → P (clauses ++ units []) → P clauses
  alone P h = subst P (append-nil clauses) h

  pub model-shown : (bits : List Bool) (report : List ℕ) → IsModel (clauses ++ units []) vars bits → report ≡ model_report bits
      → ShowsModel (record { vars = vars; clauses = clauses }) report
  model-shown bits report is text = record {
    bits = bits;
    model = alone (λ cs. IsModel cs vars bits) is;
    text = text;
  }

  pub model-there : (bits : List Bool) → IsModel (clauses ++ units []) vars bits → HasModel clauses
  model-there bits is = (assigned bits, alone (λ cs. satisfies (assigned bits) cs ≡ true) is.1)

  pub proof-shown : (lines : List (List Literal)) (text : List ℕ) → IsProof (clauses ++ units []) lines → text ≡ proof_text lines
      → ShowsProof (record { vars = vars; clauses = clauses }) text
  proof-shown lines text is same = record {
    lines = lines;
    proof = alone (λ cs. IsProof cs lines) is;
    is_text = same;
  }

  pub model-refuted : ProofRefutes → (lines : List (List Literal)) → IsProof (clauses ++ units []) lines → HasModel clauses → ⊥
  model-refuted refutes lines is model = refutes model.0 clauses lines (alone (λ cs. IsProof cs lines) is) model.1

  pub lines-shown : (budget : ℕ) (lines : List (List Literal)) (text : List ℕ) → SpendsBudget (clauses ++ units []) vars [] lines budget
      → LogGoesOn clauses [] vars [] lines → text ≡ proof_text lines → ShowsLines (record { vars = vars; clauses = clauses }) budget text
  lines-shown budget lines text spent log same = record {
    lines = lines;
    lawful = alone (λ cs. IsLawful cs lines) log.lawful;
    over = log.over;
    spent = alone (λ cs. SpendsBudget cs vars [] lines budget) spent;
    is_text = same;
  }
