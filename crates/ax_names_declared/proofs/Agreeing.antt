-- The tests for equal signatures and for heads that agree.
use Rattle.std.proofs.Common.{◌≡◌, ℕ, ◌+◌, ◌<◌, Bool, true, false, ◌&&◌, List, length, drop, get_or, Option, Some, None, refl, ap, ◌∙◌, drop-cons, add-one, if◌then◌else◌}
use Rattle.std.specs.Bool.{Decides}
use Rattle.std.proofs.lemmas.Bool.Decides.{Decides-eqb, Decides-like, Decides-and, Decides-not, Decides-by_and}
use Rattle.std.proofs.lemmas.Slice.Eq.{slice_eq-Decides}
use Rattle.ax_prog.specs.declared.Ty.{Ty}
use Rattle.ax_names_types.specs.Scopes.{same_text}
use Rattle.ax_names_types.specs.Verdicts.{same_ty}
use Rattle.ax_names_types.proofs.Equality.{Decides-same_ty}
use Rattle.ax_names_declared.specs.declared.heads.Signature.{Signature}
use Rattle.ax_names_declared.specs.declared.agreement.Known.{Known}
use Rattle.ax_names_declared.specs.Agreement.{AgreesWith, Agrees}
use Rattle.ax_names_declared.specs.Alike.{same_types, same_result, same_signature, agrees_with, agrees}

pub types_step : (a b : List Ty) (at : ℕ) (d e : Ty) → at < length a → at < length b → same_types (drop at a) (drop at b) ≡ (same_ty (get_or a at d) (get_or b at e) && same_types (drop (at + 1) a) (drop (at + 1) b))
types_step a b at d e h k = rw (add-one, drop-cons a at d h, drop-cons b at e k) refl

Decides-text : (a b : List ℕ) → Decides (same_text a b) (a ≡ b)
Decides-text a b = slice_eq-Decides Decides-eqb a b (same_text a b) refl

Decides-types : (a b : List Ty) → Decides (same_types a b) (a ≡ b)
Decides-types a b = slice_eq-Decides Decides-same_ty a b (same_types a b) refl

abbrev some_or : Ty → Option Ty → Ty
some_or d None = d
some_or d (Some u) = u

Decides-result : (a b : Option Ty) → Decides (same_result a b) (a ≡ b)
Decides-result None None = ((λ h. refl), (λ h. refl))
Decides-result (Some a) (Some b) = Decides-like _ (ap Some) (ap (some_or a)) (Decides-same_ty a b)
Decides-result None (Some b) = ((λ h. absurd (cc)), (λ h. cc))
Decides-result (Some a) None = ((λ h. absurd (cc)), (λ h. cc))

abbrev made : Option Ty → List Ty → Signature
made r us = record { result = r; params = us }

both_parts : (a b : Signature) → (a.result ≡ b.result) × (a.params ≡ b.params) → a ≡ b
both_parts a b h = ap (λ r. made r a.params) h.0 ∙ ap (λ us. made b.result us) h.1

Decides-signature : (a b : Signature) → Decides (same_signature a b) (a ≡ b)
Decides-signature a b = Decides-like _ (both_parts a b) (λ e. (ap (λ (s : Signature). s.result) e, ap (λ (s : Signature). s.params) e)) (Decides-and _ _ (Decides-result a.result b.result) (Decides-types a.params b.params))

Decides-itself : (b : Bool) → Decides b (b ≡ true)
Decides-itself b = ((λ h. h), (λ h. h))

Decides-if : {P Q : Type 0} (b c : Bool) → Decides b P → Decides c Q → Decides (if b then c else true) (P → Q)
Decides-if true c d e = ((λ h p. e.0 h), (λ f. e.1 (f (d.0 refl))))
Decides-if false c d e = ((λ h p. absurd (let k = d.1 p in cc)), (λ f. refl))

Decides-one : (x : List ℕ) (s : Signature) (defined : Bool) (known : Known) → Decides (agrees_with known x s defined) (AgreesWith known x s defined)
Decides-one x s defined known =
    Decides-if (same_text known.name x) _ (Decides-text known.name x)
    (Decides-and _ _ (Decides-signature known.signature s) (Decides-like _ (λ f p q. f (p, q)) (λ f h. f h.0 h.1) (Decides-not _ (Decides-and known.defined defined (Decides-itself known.defined) (Decides-itself defined)))))

pub Decides-agrees : (x : List ℕ) (s : Signature) (defined : Bool) (heads : List Known) → Decides (agrees x s defined heads) (Agrees heads x s defined)
Decides-agrees x s defined heads = Decides-by_and (λ (k : Known). agrees_with k x s defined) (λ (k : Known). AgreesWith k x s defined) (agrees x s defined) (Decides-one x s defined) refl (λ k ks. refl) heads
