-- Tests for equal signatures and for heads that agree.
use Rattle.std.specs.Prelude.{ℕ, Bool, true, false, not, ◌&&◌, if◌then◌else◌, List, Option, Some, None}
use Rattle.std.specs.List.{list_all}
use Rattle.std.specs.Cmp.Lexicographic.{pointwise}
use Rattle.ax_prog.specs.declared.Ty.{Ty}
use Rattle.ax_names_types.specs.Scopes.{same_text}
use Rattle.ax_names_types.specs.Verdicts.{same_ty}
use Rattle.ax_names_declared.specs.declared.heads.Signature.{Signature}
use Rattle.ax_names_declared.specs.declared.agreement.Known.{Known}

abbrev pub same_types : List Ty → List Ty → Bool
same_types a b = pointwise same_ty a b

abbrev pub same_result : Option Ty → Option Ty → Bool
same_result None None = true
same_result (Some a) (Some b) = same_ty a b
same_result None (Some b) = false
same_result (Some a) None = false

abbrev pub same_signature : Signature → Signature → Bool
same_signature a b = same_result a.result b.result && same_types a.params b.params

abbrev pub agrees_with : Known → List ℕ → Signature → Bool → Bool
agrees_with known x s defined = if same_text known.name x then same_signature known.signature s && not (known.defined && defined) else true

abbrev pub agrees : List ℕ → Signature → Bool → List Known → Bool
agrees x s defined heads = list_all (λ known. agrees_with known x s defined) heads
