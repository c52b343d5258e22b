-- The texts of models and of proofs.
use Rattle.std.specs.Prelude.{ℕ, ◌+◌, ◌++◌, Bool, List, [], ◌∷◌, codes}
use Rattle.std.specs.List.{flat_map}
use Rattle.ax_proof.specs.Literal.{Literal, literal}
use Rattle.ax_dimacs.specs.Written.{clause_text}

-- the literals that truth values of the variables from this one on make true
abbrev pub literals_from : ℕ → List Bool → List Literal
literals_from x [] = []
literals_from x (b ∷ bits) = literal x b ∷ literals_from (x + 1) bits

-- that there is a model, and a line of the literals that it makes true
abbrev pub model_report : List Bool → List ℕ
model_report bits = codes "s SATISFIABLE\nv " ++ clause_text (literals_from 1 bits)

abbrev pub refuted_report : List ℕ
refuted_report = codes "s UNSATISFIABLE\n"

abbrev pub budget_report : List ℕ
budget_report = codes "budget used up\n"

-- a line for each line of a proof
abbrev pub proof_text : List (List Literal) → List ℕ
proof_text lines = flat_map clause_text lines
