-- The tests on sizes and on complete types.
use Rattle.std.proofs.Common.{◌≡◌, ℕ, zero, suc, ◌<◌, true, List, Option, Some, None, refl, sym, ap, ◌∙◌, subst}
use Rattle.std.specs.Prelude.{nat_lt}
use Rattle.std.specs.Bool.{Decides}
use Rattle.std.proofs.lemmas.Bool.Decides.{Decides-by_and, Decides-ltb}
use Rattle.ax_prog.specs.declared.StructId.{StructId}
use Rattle.ax_prog.specs.declared.Ty.{Ty, Ptr', Array'}
use Rattle.ax_prog.specs.declared.Ty.TheVariants as ty
use Rattle.ax_prog.specs.declared.Ty.TheBlock.{shape-the_row-Ty-0, hidden-the_row-Ty-0}
use Rattle.ax_parse_grammar.specs.declared.tree.Size.{Size}
use Rattle.ax_names_types.specs.Types.{struct_of}
use Rattle.ax_names_declared.specs.Denotations.{count_of, pointers_to, AreSized, IsComplete}
use Rattle.ax_names_declared.specs.Verdicts.{are_sized, is_below, is_complete}
use denote.Hole.Carrier

pub Decides-are_sized : (sizes : List Size) → Decides (are_sized sizes) (AreSized sizes)
Decides-are_sized sizes = Decides-by_and (λ (s : Size). nat_lt 0 (count_of s.count)) (λ (s : Size). 0 < count_of s.count) are_sized (λ s. Decides-ltb 0 (count_of s.count)) refl (λ x xs. refl) sizes

abbrev id_or : StructId → Option StructId → StructId
id_or d None = d
id_or d (Some k) = k

pub struct_is : (a : Ty) (k : StructId) → struct_of a ≡ Some k → a ≡ ty.Struct k
struct_is (ty.Struct j) k h = ap (λ o. ty.Struct (id_or k o)) h
struct_is ty.Int k h = cc
struct_is (Ptr' s r) k h = cc
struct_is (Array' s r n) k h = cc

below : (n : ℕ) (u : Ty) (o : Option StructId) → struct_of u ≡ o → is_below n o ≡ true → IsComplete n u
below n u None e h = λ k i. absurd (let f : None ≡ Some k = sym e ∙ ap struct_of i in cc)
below n u (Some j) e h = λ k i.
    let f : Some j ≡ Some k = sym e ∙ ap struct_of i in
    subst (λ (l : StructId). l.0 < n) (ap (id_or j) f) ((Decides-ltb j.0 n).0 h)

pub complete_from : (n stars : ℕ) (u : Ty) → is_complete n stars u ≡ true → IsComplete n (pointers_to stars u)
unfolding shape-the_row-Ty-0 hidden-the_row-Ty-0 Carrier.hidden
complete_from n zero u h = below n u (struct_of u) refl h
complete_from n (suc stars) u h = λ k e. absurd (cc)

from_below : (n : ℕ) (u : Ty) (o : Option StructId) → struct_of u ≡ o → IsComplete n u → is_below n o ≡ true
from_below n u None e h = refl
from_below n u (Some j) e h = (Decides-ltb j.0 n).1 (h j (struct_is u j e))

pub is_complete_from : (n stars : ℕ) (u : Ty) → IsComplete n (pointers_to stars u) → is_complete n stars u ≡ true
is_complete_from n zero u h = from_below n u (struct_of u) refl h
is_complete_from n (suc stars) u h = refl
