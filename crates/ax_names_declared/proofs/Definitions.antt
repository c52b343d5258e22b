-- The verdict on a definition of a struct is exact.
use Rattle.std.proofs.Common.{◌≡◌, ℕ, List, [], ◌∷◌, ◌++◌, length, Option, Some, None, Ok, Err, refl, sym, subst}
use Rattle.ax_prog.specs.declared.Ty.{Ty}
use Rattle.ax_prog.specs.declared.Struct.{Struct}
use Rattle.ax_parse_grammar.specs.declared.tree.Name.{Name}
use Rattle.ax_parse_grammar.specs.declared.tree.Base.{Base}
use Rattle.ax_parse_grammar.specs.declared.tree.Declarator.{Declarator}
use Rattle.ax_parse_grammar.specs.declared.tree.Members.{Members}
use Rattle.ax_names_types.specs.declared.TypeFault.{TypeFault}
use Rattle.ax_names_types.specs.Faults.{Verdict}
use Rattle.ax_names_declared.specs.Firsts.{Exact}
use Rattle.ax_names_declared.specs.Denotations.{tags_of, name_at, Declares}
use Rattle.ax_names_declared.specs.Breaks.{Misdeclares}
use Rattle.ax_names_declared.specs.Verdicts.{declared}
use Rattle.ax_names_declared.specs.Structs.{declarators_of, IsNew, Again, IsMember, BreaksMember, AreMembers, BreakMembers, Defines, Misdefines}
use Rattle.ax_names_declared.specs.Members.{named, member, members, struct_with, definition}
use Rattle.ax_names_declared.proofs.Exactness.{Judged, Faulty, both_judged, both_ok, both_left, both_right, exact_from, faulty_itself}
use Rattle.ax_names_declared.proofs.Declared.{declared_judged, declares_is, misdeclares_faulty}

-- ---- a name that is to be new

abbrev pub NewAs : List (List ℕ) → Name → List ℕ → Type 0
NewAs names x t = IsNew names x.text × (t ≡ x.text)

named_at : (names : List (List ℕ)) (x : Name) (o : Option ℕ) → name_at names x.text ≡ o → Judged (NewAs names x) (Again names x) (named x o)
named_at names x None e = (e, refl)
named_at names x (Some k) e = Again.again k e

pub named_judged : (names : List (List ℕ)) (x : Name) → Judged (NewAs names x) (Again names x) (named x (name_at names x.text))
named_judged names x = named_at names x (name_at names x.text) refl

pub new_is : (names : List (List ℕ)) (x : Name) → IsNew names x.text → named x (name_at names x.text) ≡ Ok x.text
new_is names x e = rw e refl

again_is : (names : List (List ℕ)) (x : Name) (f : TypeFault) → Again names x f → named x (name_at names x.text) ≡ Err f
again_is names x _ (Again.again k e) = rw e refl

pub again_faulty : (names : List (List ℕ)) (x : Name) (f : TypeFault) → Again names x f → Faulty (named x (name_at names x.text)) f
again_faulty names x f d = faulty_itself (named x (name_at names x.text)) f (again_is names x f d)

-- ---- members

module _ (tags : List (List ℕ)) (n : ℕ) where
  abbrev pair_of : List ℕ → Ty → Verdict (List ℕ × Ty)
  pair_of a b = Ok (a, b)

  abbrev more_of : List ℕ × Ty → List (List ℕ × Ty) → Verdict (List (List ℕ × Ty))
  more_of a rest = Ok (a ∷ rest)

  abbrev type_at : Base → Declarator → Verdict Ty
  type_at base d = declared tags n base d.stars d.sizes d.span

  member_judged : (names : List (List ℕ)) (base : Base) (d : Declarator) → Judged (IsMember tags n names (base, d)) (BreaksMember tags n names (base, d)) (member tags n names (base, d))
  member_judged names base d =
      both_judged pair_of (NewAs names d.name) (Declares tags n base d.stars d.sizes) (IsMember tags n names (base, d)) (Again names d.name) (Misdeclares tags n base d.stars d.sizes d.span) (BreaksMember tags n names (base, d)) (named d.name (name_at names d.name.text)) (type_at base d)
      (named_judged names d.name) (declared_judged tags n base d.stars d.sizes d.span)
      (λ t u p q. subst (λ (t : List ℕ). IsMember tags n names (base, d) (t, u)) (sym p.1) (IsMember.member p.0 q))
      (λ f p. BreaksMember.name p)
      (λ f p. BreaksMember.declarator p)

  member_is : (names : List (List ℕ)) (c : Base × Declarator) (m : List ℕ × Ty) → IsMember tags n names c m → member tags n names c ≡ Ok m
  member_is names _ _ (IsMember.member {base = base} {d = d} {u = u} e h) = both_ok pair_of (named d.name (name_at names d.name.text)) (type_at base d) d.name.text u (new_is names d.name e) (declares_is tags n base d.stars d.sizes d.span u h)

  member_faulty : (names : List (List ℕ)) (c : Base × Declarator) (g : TypeFault) → BreaksMember tags n names c g → Faulty (member tags n names c) g
  member_faulty names _ g (BreaksMember.name {base = base} {d = d} p) = both_left pair_of (named d.name (name_at names d.name.text)) (type_at base d) g (again_faulty names d.name g p)
  member_faulty names _ g (BreaksMember.declarator {base = base} {d = d} p) = both_right pair_of (named d.name (name_at names d.name.text)) (type_at base d) g (misdeclares_faulty tags n base d.stars d.sizes d.span g p)

  members_judged : (names : List (List ℕ)) (list : List (Base × Declarator)) → Judged (AreMembers tags n names list) (BreakMembers tags n names list) (members tags n names list)
  members_judged names [] = AreMembers.none
  members_judged names (c ∷ rest) =
      both_judged more_of (IsMember tags n names c) (AreMembers tags n (names ++ c.1.name.text ∷ []) rest) (AreMembers tags n names (c ∷ rest)) (BreaksMember tags n names c) (BreakMembers tags n (names ++ c.1.name.text ∷ []) rest) (BreakMembers tags n names (c ∷ rest)) (member tags n names c) (members tags n (names ++ c.1.name.text ∷ []) rest)
      (member_judged names c.0 c.1) (members_judged (names ++ c.1.name.text ∷ []) rest)
      (λ m ms p q. AreMembers.more p q)
      (λ f p. BreakMembers.here p)
      (λ f p. BreakMembers.later p)

  members_are : (names : List (List ℕ)) (list : List (Base × Declarator)) (ms : List (List ℕ × Ty)) → AreMembers tags n names list ms → members tags n names list ≡ Ok ms
  members_are names _ _ AreMembers.none = refl
  members_are names _ _ (AreMembers.more {d = c} {m = m} {rest = rest} {ms = ms} p q) = both_ok more_of (member tags n names c) (members tags n (names ++ c.1.name.text ∷ []) rest) m ms (member_is names c m p) (members_are (names ++ c.1.name.text ∷ []) rest ms q)

  members_faulty : (names : List (List ℕ)) (list : List (Base × Declarator)) (g : TypeFault) → BreakMembers tags n names list g → Faulty (members tags n names list) g
  members_faulty names _ g (BreakMembers.here {d = c} {rest = rest} p) = both_left more_of (member tags n names c) (members tags n (names ++ c.1.name.text ∷ []) rest) g (member_faulty names c g p)
  members_faulty names _ g (BreakMembers.later {d = c} {rest = rest} p) = both_right more_of (member tags n names c) (members tags n (names ++ c.1.name.text ∷ []) rest) g (members_faulty (names ++ c.1.name.text ∷ []) rest g p)

-- ---- the whole

module _ (structs : List Struct) (x : Name) (list : List Members) where
  abbrev name_verdict : Verdict (List ℕ)
  name_verdict = named x (name_at (tags_of structs) x.text)

  abbrev within : List (List ℕ)
  within = tags_of structs ++ x.text ∷ []

  abbrev all : Verdict (List (List ℕ × Ty))
  all = members within (length structs) [] (declarators_of list)

  pub definition_judged : Judged (Defines structs x list) (Misdefines structs x list) (definition structs x list)
  definition_judged =
      both_judged struct_with (NewAs (tags_of structs) x) (AreMembers within (length structs) [] (declarators_of list)) (Defines structs x list) (Again (tags_of structs) x) (BreakMembers within (length structs) [] (declarators_of list)) (Misdefines structs x list) name_verdict all
      (named_judged (tags_of structs) x) (members_judged within (length structs) [] (declarators_of list))
      (λ t ms p q. subst (λ (t : List ℕ). Defines structs x list (record { name = t; fields = ms })) (sym p.1) (Defines.struct p.0 q))
      (λ f p. Misdefines.name p)
      (λ f p. Misdefines.member p)

  pub defines_is : (s : Struct) → Defines structs x list s → definition structs x list ≡ Ok s
  defines_is _ (Defines.struct {ms = ms} e p) = both_ok struct_with name_verdict all x.text ms (new_is (tags_of structs) x e) (members_are within (length structs) [] (declarators_of list) ms p)

  pub misdefines_faulty : (g : TypeFault) → Misdefines structs x list g → Faulty (definition structs x list) g
  misdefines_faulty g (Misdefines.name p) = both_left struct_with name_verdict all g (again_faulty (tags_of structs) x g p)
  misdefines_faulty g (Misdefines.member p) = both_right struct_with name_verdict all g (members_faulty within (length structs) [] (declarators_of list) g p)

  pub definition_exact : Exact (Defines structs x list) (Misdefines structs x list) (definition structs x list)
  definition_exact = exact_from (Defines structs x list) (Misdefines structs x list) (definition structs x list) definition_judged defines_is misdefines_faulty
