-- Cells repeated.
use Rattle.std.proofs.Common.{◌≡◌, refl, sym, ap, ◌∙◌, ℕ, zero, suc, List, [], ◌++◌, append_assoc}
use Rattle.std.proofs.lemmas.List.{append-nil}
use Rattle.ax_meaning.specs.declared.Cell.{Cell}
use Rattle.ax_meaning.specs.Runs.{repeated}

pub repeated-nil : (n : ℕ) → repeated n [] ≡ []
repeated-nil zero = refl
repeated-nil (suc n) = repeated-nil n

pub repeated-last : (n : ℕ) (cells : List Cell) → repeated (suc n) cells ≡ repeated n cells ++ cells
repeated-last zero cells = append-nil cells
repeated-last (suc n) cells = ap (λ xs. cells ++ xs) (repeated-last n cells) ∙ sym (append_assoc cells (repeated n cells) cells)
