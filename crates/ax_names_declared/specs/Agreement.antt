-- Heads of one name in a source (C11 6.7p3, 6.7p4, 6.9p3).
use Rattle.std.specs.Prelude.{◌≡◌, ℕ, Bool, true, List}
use Rattle.std.specs.List.{All}
use Rattle.ax_names_declared.specs.declared.heads.Signature.{Signature}
use Rattle.ax_names_declared.specs.declared.agreement.Known.{Known}

-- a head agrees with one of its name before it: they have one signature, and not both begin a definition
abbrev pub AgreesWith : Known → List ℕ → Signature → Bool → Type 0
AgreesWith known x s defined = known.name ≡ x → (known.signature ≡ s) × (known.defined ≡ true → defined ≡ true → ⊥)

abbrev pub Agrees : List Known → List ℕ → Signature → Bool → Type 0
Agrees heads x s defined = All (λ (known : Known). AgreesWith known x s defined) heads
