-- The verdict on a declarator.
use Rattle.std.proofs.Common.{◌≡◌, ℕ, Bool, true, false, List, Option, Some, None, Ok, Err, refl, arith, if◌then◌else◌}
use Rattle.std.proofs.lemmas.Bool.Decides.{not_from_Decides}
use Rattle.ax_prog.specs.declared.Span.{Span}
use Rattle.ax_prog.specs.declared.Ty.{Ty}
use Rattle.ax_parse_grammar.specs.declared.tree.Name.{Name}
use Rattle.ax_parse_grammar.specs.declared.tree.Base.{Base}
use Rattle.ax_parse_grammar.specs.declared.tree.Base.TheVariants as b
use Rattle.ax_parse_grammar.specs.declared.tree.Size.{Size}
use Rattle.ax_names_types.specs.declared.TypeKind.TheVariants.{WrongType, RecursiveStruct}
use Rattle.ax_names_types.specs.declared.TypeFault.{TypeFault}
use Rattle.ax_names_types.specs.Faults.{fault, Verdict}
use Rattle.ax_names_types.specs.Verdicts.{sooner}
use Rattle.ax_names_declared.specs.Firsts.{Exact, earlier, unless, closed}
use Rattle.ax_names_declared.specs.Denotations.{name_at, Denotes, pointers_to, arrays_of, AreSized, IsComplete, Declares}
use Rattle.ax_names_declared.specs.Breaks.{Unknown, Misdeclares}
use Rattle.ax_names_declared.specs.Verdicts.{tagged, base_of, are_sized, is_complete, with_base, declared}
use Rattle.ax_names_declared.proofs.Exactness.{Judged, Faulty, one_of, sooner_left, sooner_right, exact_from}
use Rattle.ax_names_declared.proofs.Sized.{Decides-are_sized, complete_from, is_complete_from}

-- ---- bases

tag_judged : (tags : List (List ℕ)) (at : Span) (x : Name) (o : Option ℕ) → name_at tags x.text ≡ o → Judged (Denotes tags (b.Struct at x)) (Unknown tags (b.Struct at x)) (tagged x.span o)
tag_judged tags at x None e = Unknown.tag e
tag_judged tags at x (Some k) e = Denotes.struct k e

pub base_judged : (tags : List (List ℕ)) (base : Base) → Judged (Denotes tags base) (Unknown tags base) (base_of tags base)
base_judged tags (b.Int at) = Denotes.int
base_judged tags (b.Struct at x) = tag_judged tags at x (name_at tags x.text) refl

pub denotes_is : (tags : List (List ℕ)) (base : Base) (u : Ty) → Denotes tags base u → base_of tags base ≡ Ok u
denotes_is tags _ _ (Denotes.int {at = at}) = refl
denotes_is tags _ _ (Denotes.struct {at = at} {x = x} k e) = rw e refl

pub unknown_is : (tags : List (List ℕ)) (base : Base) (f : TypeFault) → Unknown tags base f → base_of tags base ≡ Err f
unknown_is tags _ _ (Unknown.tag {at = at} {x = x} e) = rw e refl

-- ---- declarators

module _ (tags : List (List ℕ)) (complete : ℕ) (base : Base) (stars : ℕ) (sizes : List Size) (at : Span) where
  abbrev Is : Ty → Type 0
  Is u = Declares tags complete base stars sizes u

  abbrev Isnt : TypeFault → Type 0
  Isnt f = Misdeclares tags complete base stars sizes at f

  abbrev verdict_at : Bool → Bool → Ty → Verdict Ty
  verdict_at s c u = closed (earlier (unless s WrongType at) (unless c RecursiveStruct at)) (arrays_of sizes (pointers_to stars u))

  missized : are_sized sizes ≡ false → AreSized sizes → ⊥
  missized e = not_from_Decides (are_sized sizes) (Decides-are_sized sizes) e

  incomplete : (u : Ty) → is_complete complete stars u ≡ false → IsComplete complete (pointers_to stars u) → ⊥
  incomplete u e h = let k = is_complete_from complete stars u h in cc

  both_tests : (u : Ty) → Denotes tags base u → (s c : Bool) → are_sized sizes ≡ s → is_complete complete stars u ≡ c → Judged Is Isnt (verdict_at s c u)
  both_tests u d true true e h = Declares.object u d (complete_from complete stars u h) ((Decides-are_sized sizes).0 e)
  both_tests u d true false e h = Misdeclares.incomplete u d (incomplete u h)
  both_tests u d false true e h = Misdeclares.size (missized e)
  both_tests u d false false e h = one_of Isnt (fault WrongType at) (fault RecursiveStruct at) (Misdeclares.size (missized e)) (Misdeclares.incomplete u d (incomplete u h))

  base_fault : (f : TypeFault) → Unknown tags base f → (s : Bool) → are_sized sizes ≡ s → Isnt (if s then f else sooner f (fault WrongType at))
  base_fault f d true e = Misdeclares.unknown d
  base_fault f d false e = one_of Isnt f (fault WrongType at) (Misdeclares.unknown d) (Misdeclares.size (missized e))

  with_base_judged : (v : Verdict Ty) → Judged (Denotes tags base) (Unknown tags base) v → Judged Is Isnt (with_base complete stars sizes at v)
  with_base_judged (Ok u) d = both_tests u d (are_sized sizes) (is_complete complete stars u) refl refl
  with_base_judged (Err f) d = base_fault f d (are_sized sizes) refl

  pub declared_judged : Judged Is Isnt (declared tags complete base stars sizes at)
  declared_judged = with_base_judged (base_of tags base) (base_judged tags base)

  with_tests : (u : Ty) (s c : Bool) → base_of tags base ≡ Ok u → are_sized sizes ≡ s → is_complete complete stars u ≡ c → declared tags complete base stars sizes at ≡ verdict_at s c u
  with_tests u s c e h k = rw (e, h, k) refl

  pub declares_is : (u : Ty) → Is u → declared tags complete base stars sizes at ≡ Ok u
  declares_is _ (Declares.object u d c s) = with_tests u true true (denotes_is tags base u d) ((Decides-are_sized sizes).1 s) (is_complete_from complete stars u c)

  with_fault : (f : TypeFault) (s : Bool) → base_of tags base ≡ Err f → are_sized sizes ≡ s → declared tags complete base stars sizes at ≡ Err (if s then f else sooner f (fault WrongType at))
  with_fault f s e h = rw (e, h) refl

  unknown_faulty : (f : TypeFault) (s : Bool) → base_of tags base ≡ Err f → are_sized sizes ≡ s → Faulty (declared tags complete base stars sizes at) f
  unknown_faulty f true e h = (f, with_fault f true e h, omega arith)
  unknown_faulty f false e h = (sooner f (fault WrongType at), with_fault f false e h, sooner_left f (fault WrongType at))

  size_with : are_sized sizes ≡ false → (u : Ty) → base_of tags base ≡ Ok u → (c : Bool) → is_complete complete stars u ≡ c → Faulty (declared tags complete base stars sizes at) (fault WrongType at)
  size_with h u e true k = (fault WrongType at, with_tests u false true e h k, omega arith)
  size_with h u e false k = (sooner (fault WrongType at) (fault RecursiveStruct at), with_tests u false false e h k, sooner_left (fault WrongType at) (fault RecursiveStruct at))

  size_faulty : are_sized sizes ≡ false → (v : Verdict Ty) → base_of tags base ≡ v → Faulty (declared tags complete base stars sizes at) (fault WrongType at)
  size_faulty h (Err f) e = (sooner f (fault WrongType at), with_fault f false e h, sooner_right f (fault WrongType at))
  size_faulty h (Ok u) e = size_with h u e (is_complete complete stars u) refl

  incomplete_faulty : (u : Ty) (s : Bool) → base_of tags base ≡ Ok u → are_sized sizes ≡ s → is_complete complete stars u ≡ false → Faulty (declared tags complete base stars sizes at) (fault RecursiveStruct at)
  incomplete_faulty u true e h k = (fault RecursiveStruct at, with_tests u true false e h k, omega arith)
  incomplete_faulty u false e h k = (sooner (fault WrongType at) (fault RecursiveStruct at), with_tests u false false e h k, sooner_right (fault WrongType at) (fault RecursiveStruct at))

  false_from : (b : Bool) → (b ≡ true → ⊥) → b ≡ false
  false_from true h = absurd (h refl)
  false_from false h = refl

  pub misdeclares_faulty : (g : TypeFault) → Isnt g → Faulty (declared tags complete base stars sizes at) g
  misdeclares_faulty g (Misdeclares.unknown d) = unknown_faulty g (are_sized sizes) (unknown_is tags base g d) refl
  misdeclares_faulty _ (Misdeclares.size h) = size_faulty (false_from (are_sized sizes) (λ e. h ((Decides-are_sized sizes).0 e))) (base_of tags base) refl
  misdeclares_faulty _ (Misdeclares.incomplete u d h) = incomplete_faulty u (are_sized sizes) (denotes_is tags base u d) refl (false_from (is_complete complete stars u) (λ e. h (complete_from complete stars u e)))

  pub declared_exact : Exact Is Isnt (declared tags complete base stars sizes at)
  declared_exact = exact_from Is Isnt (declared tags complete base stars sizes at) declared_judged declares_is misdeclares_faulty
