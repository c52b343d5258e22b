-- `same_ty` is true exactly of equal types, and `struct_of` names the struct.
use Rattle.std.proofs.Common.{◌≡◌, refl, sym, ap, ◌∙◌, ℕ, ◌==◌, Bool, true, false, Option, Some, None, arith, if◌then◌else◌}
use Rattle.std.specs.Bool.{Decides}
use Rattle.std.proofs.lemmas.Bool.Decides.{Decides-eqb, Decides-like}
use Rattle.ax_prog.specs.declared.StructId.{StructId}
use Rattle.ax_prog.specs.declared.Ty.{Ty, Ptr', Array', more_of-Ty, end_of-Ty}
use Rattle.ax_prog.specs.declared.Ty.TheVariants as ty
use Rattle.ax_prog.specs.declared.Ty.TheBlock.{shape-the_row-Ty-0, hidden-the_row-Ty-0}
use Rattle.ax_names_types.specs.Types.{struct_of}
use Rattle.ax_names_types.specs.Verdicts.{same_ty}
use denote.Hole.Carrier

-- a type's kind, and what a type of a kind is made of, or else what is given
abbrev kind_of : Ty → ℕ
kind_of ty.Int = 0
kind_of (Ptr' s r) = 1
kind_of (Array' s r n) = 2
kind_of (ty.Struct k) = 3

abbrev pointee_or : Ty → Ty → Ty
pointee_or d (Ptr' s (more_of-Ty a end_of-Ty)) = a
pointee_or d t = d

abbrev element_or : Ty → Ty → Ty
element_or d (Array' s (more_of-Ty a end_of-Ty) n) = a
element_or d t = d

abbrev count_or : ℕ → Ty → ℕ
count_or d (Array' s r n) = n
count_or d t = d

abbrev number_or : ℕ → Ty → ℕ
number_or d (ty.Struct k) = k.0
number_or d t = d

apart : (a b : Ty) → (kind_of a ≡ kind_of b → ⊥) → Decides false (a ≡ b)
apart a b h = ((λ e. absurd (cc)), (λ e. absurd (h (ap kind_of e))))

Decides-first : {P Q : Type 0} (b c : Bool) → Decides b P → Decides c Q → Decides (if b then c else false) (P × Q)
Decides-first true c d e = ((λ h. (d.0 refl, e.0 h)), (λ h. e.1 h.1))
Decides-first false c d e = ((λ h. absurd (cc)), (λ h. d.1 h.0))

pub Decides-same_ty : (a b : Ty) → Decides (same_ty a b) (a ≡ b)
unfolding shape-the_row-Ty-0 hidden-the_row-Ty-0 Carrier.hidden
Decides-same_ty ty.Int ty.Int = ((λ h. refl), (λ h. refl))
Decides-same_ty (Ptr' s (more_of-Ty a end_of-Ty)) (Ptr' s2 (more_of-Ty b end_of-Ty)) = Decides-like _ (ap ty.Ptr) (ap (pointee_or a)) (Decides-same_ty a b)
Decides-same_ty (Array' s (more_of-Ty a end_of-Ty) m) (Array' s2 (more_of-Ty b end_of-Ty) n) =
    Decides-like _ (λ h i. ty.Array (h.1 i) (h.0 i)) (λ h. ((ap (count_or m) h), (ap (element_or a) h))) (Decides-first _ _ (Decides-eqb m n) (Decides-same_ty a b))
Decides-same_ty (ty.Struct j) (ty.Struct k) = Decides-like _ (λ h i. ty.Struct (record { 0 = h i })) (ap (number_or j.0)) (Decides-eqb j.0 k.0)
Decides-same_ty a b = apart a b (λ h. omega arith)

pub same_is : (a b : Ty) → same_ty a b ≡ true → a ≡ b
same_is a b h = (Decides-same_ty a b).0 h

pub isnt_same : (a b : Ty) → same_ty a b ≡ false → a ≡ b → ⊥
isnt_same a b h e = let k = (Decides-same_ty a b).1 e in cc

false_or_true : (b : Bool) → (b ≡ true → ⊥) → b ≡ false
false_or_true true h = absurd (h refl)
false_or_true false h = refl

pub differs : (a b : Ty) → (a ≡ b → ⊥) → same_ty a b ≡ false
differs a b h = false_or_true (same_ty a b) (λ k. h (same_is a b k))

pub same_itself : (a : Ty) → same_ty a a ≡ true
same_itself a = (Decides-same_ty a a).1 refl

abbrev id_or : StructId → Option StructId → StructId
id_or d None = d
id_or d (Some k) = k

pub struct_is : (a : Ty) (k : StructId) → struct_of a ≡ Some k → a ≡ ty.Struct k
struct_is (ty.Struct j) k h = ap (λ o. ty.Struct (id_or k o)) h
struct_is ty.Int k h = cc
struct_is (Ptr' s r) k h = cc
struct_is (Array' s r n) k h = cc
