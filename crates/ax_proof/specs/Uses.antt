-- Lines of proofs that name the clauses they use.
use Rattle.std.specs.Prelude.{Bool, true, false, Option, Some, None, ◌≡◌, ℕ, ◌+◌, ◌<◌, ◌≤◌, ◌++◌, List, [], ◌∷◌, length, map, take, slice_index_or}
use Rattle.std.specs.List.{sum_by}
use Rattle.std.specs.Global.{Vec}
use Rattle.ax_proof.specs.Literal.{Literal, negation}
use Rattle.ax_proof.specs.Propagation.{HasRup}
use Rattle.ax_proof.specs.Trail.{IsFalsified, IsUnit}
use Rattle.ax_proof.specs.Lines.{line_at}

-- Clauses are numbered from 1. No clause has the number 0.
abbrev pub numbered : List (List Literal) → ℕ → List Literal
numbered clauses number = slice_index_or ([] ∷ clauses) number []

abbrev pub IsNumber : List (List Literal) → ℕ → Type 0
IsNumber clauses number = (1 ≤ number) × (number ≤ length clauses)

-- The clauses of these numbers in turn, from these true literals: each but the last has one open literal and all others
-- false, whereupon the open one becomes true; the last has all literals false.
pub data Refutes (clauses : List (List Literal)) : List Literal → List ℕ → Type 0 where
  final : {trail : List Literal} {number : ℕ} → IsNumber clauses number → IsFalsified trail (numbered clauses number) → Refutes clauses trail (number ∷ [])
  then : {trail : List Literal} {number : ℕ} {rest : List ℕ} (u : Literal) → IsNumber clauses number → IsUnit trail (numbered clauses number) u → Refutes clauses (trail ++ u ∷ []) rest → Refutes clauses trail (number ∷ rest)

-- the line with these uses, where its literals are false at first
abbrev pub IsRight : List (List Literal) → List Literal → List ℕ → Type 0
IsRight clauses line uses = Refutes clauses (map negation line) uses

abbrev pub uses_at : List (List ℕ) → ℕ → List ℕ
uses_at uses at = slice_index_or uses at []

-- each line with its uses, which are numbers of clauses and of earlier lines; the lines go on from the clauses
abbrev pub AreRight : List (List Literal) → List (List Literal) → List (List ℕ) → Type 0
AreRight clauses lines uses = (at : ℕ) → at < length lines → IsRight (clauses ++ take at lines) (line_at lines at) (uses_at uses at)

-- this line is the first that is not right
abbrev pub IsFirstWrong : List (List Literal) → List (List Literal) → List (List ℕ) → ℕ → Type 0
IsFirstWrong clauses lines uses at =
    (at < length lines)
    × AreRight clauses (take at lines) uses
    × (IsRight (clauses ++ take at lines) (line_at lines at) (uses_at uses at) → ⊥)

-- what each vector holds
abbrev pub lists : List (Vec ℕ) → List (List ℕ)
lists uses = map (λ u. u.items) uses

-- uses with which the line is right, or none where it has no reverse unit propagation
abbrev pub FindsUses : List (List Literal) → List Literal → Option (Vec ℕ) → Type 0
FindsUses clauses line (Some uses) = IsRight clauses line uses.items
FindsUses clauses line None = HasRup clauses line → ⊥

-- how many literals the clauses of these numbers have, each clause counted once for each time that it is named
abbrev pub named_literals : List (List Literal) → List ℕ → ℕ
named_literals clauses uses = sum_by (λ number. length (numbered clauses number)) uses

-- how many literals the lines, which begin at this number, and the clauses that their uses name have
abbrev pub all_named_literals : List (List Literal) → ℕ → List (List ℕ) → ℕ
all_named_literals clauses from [] = 0
all_named_literals clauses from (uses ∷ rest) =
    length (numbered clauses from) + named_literals clauses uses + all_named_literals clauses (from + 1) rest

-- what the clause of a number made of the true literals: the one that it forces came behind them, or there is none
abbrev pub Forces : List (List Literal) → ℕ → List Literal → List Literal → Bool → Type 0
Forces clauses number old new true = IsNumber clauses number × ((u : Literal) × IsUnit old (numbered clauses number) u × (new ≡ old ++ u ∷ []))
Forces clauses number old new false = IsNumber clauses number → (u : Literal) → IsUnit old (numbered clauses number) u → ⊥
