-- What moved declarators, heads and definitions of structs declare.
use Rattle.std.proofs.Common.{◌≡◌, ℕ, Bool, List, [], ◌∷◌, ◌++◌, length, map, Option, Some, None, refl, sym, ap, ◌∙◌, subst}
use Rattle.std.specs.Prelude.{◌<◌}
use Rattle.std.specs.Option.{option_map}
use Rattle.std.proofs.lemmas.List.{map-append}
use Rattle.std.proofs.lemmas.List.Elements.{All-map}
use Rattle.ax_prog.specs.declared.Ty.{Ty}
use Rattle.ax_prog.specs.declared.Ty.TheVariants as ty
use Rattle.ax_prog.specs.declared.Struct.{Struct}
use Rattle.ax_parse_grammar.specs.declared.tree.Name.{Name}
use Rattle.ax_parse_grammar.specs.declared.tree.Base.{Base}
use Rattle.ax_parse_grammar.specs.declared.tree.Size.{Size}
use Rattle.ax_parse_grammar.specs.declared.tree.Declarator.{Declarator}
use Rattle.ax_parse_grammar.specs.declared.tree.Members.{Members}
use Rattle.ax_parse_grammar.specs.declared.tree.Returns.{Returns}
use Rattle.ax_parse_grammar.specs.declared.tree.Param.{Param}
use Rattle.ax_parse_grammar.specs.declared.tree.Head.{Head}
use Rattle.ax_names_declared.specs.declared.heads.Signature as said
use Rattle.ax_names_declared.specs.Denotations.{tags_of, Denotes, arrays_of, pointers_to, count_of, AreSized, Declares, filled}
use Rattle.ax_names_declared.specs.Breaks.{DeclaresObject}
use Rattle.ax_names_declared.specs.Structs.{declarators_of, IsMember, AreMembers, Defines}
use Rattle.ax_names_declared.specs.Heads.{DeclaresParam, IsNamed, and_name, AreParams, IsResult, DeclaresFunction}
use Rattle.ax_print_holes.specs.Moved.{moved_name, moved_base, moved_size, moved_declarator, moved_members, moved_returns, moved_param, moved_head}

module _ (f : ℕ → ℕ) where
  denotes_moved : (tags : List (List ℕ)) (base : Base) (u : Ty) → Denotes tags base u → Denotes tags (moved_base f base) u
  denotes_moved tags _ _ Denotes.int = Denotes.int
  denotes_moved tags _ _ (Denotes.struct k h) = Denotes.struct k h

  arrays_moved : (sizes : List Size) (u : Ty) → arrays_of (map (moved_size f) sizes) u ≡ arrays_of sizes u
  arrays_moved [] u = refl
  arrays_moved (s ∷ rest) u = ap (λ (v : Ty). ty.Array v (count_of s.count)) (arrays_moved rest u)

  sized_moved : (sizes : List Size) → AreSized sizes → AreSized (map (moved_size f) sizes)
  sized_moved sizes h = All-map (λ (s : Size). 0 < count_of s.count) (moved_size f) sizes h

  pub declares_moved : (tags : List (List ℕ)) (complete : ℕ) (base : Base) (stars : ℕ) (sizes : List Size) (u : Ty) → Declares tags complete base stars sizes u → Declares tags complete (moved_base f base) stars (map (moved_size f) sizes) u
  declares_moved tags complete base stars sizes _ (Declares.object u d c z) =
      subst (λ (v : Ty). Declares tags complete (moved_base f base) stars (map (moved_size f) sizes) v) (arrays_moved sizes (pointers_to stars u)) (Declares.object u (denotes_moved tags base u d) c (sized_moved sizes z))

  pub object_moved : (structs : List Struct) (base : Base) (stars : ℕ) (sizes : List Size) (u : Ty) → DeclaresObject structs base stars sizes u → DeclaresObject structs (moved_base f base) stars (map (moved_size f) sizes) u
  object_moved structs base stars sizes u (DeclaresObject.object d c) = DeclaresObject.object (declares_moved (tags_of structs) (length structs) base stars sizes u d) c

  pub filled_moved : (n : ℕ) (sizes : List Size) → filled n (map (moved_size f) sizes) ≡ map (moved_size f) (filled n sizes)
  filled_moved n [] = refl
  filled_moved n (s ∷ rest) = refl

  -- ---- heads

  param_moved : (structs : List Struct) (q : Param) (u : Ty) → DeclaresParam structs q u → DeclaresParam structs (moved_param f q) u
  param_moved structs q _ (DeclaresParam.param {u = u} d s) =
      DeclaresParam.param (subst (λ (z : List Size). Declares (tags_of structs) (length structs) (moved_base f q.base) q.stars z u) (sym (filled_moved 1 q.sizes)) (declares_moved (tags_of structs) (length structs) q.base q.stars (filled 1 q.sizes) u d)) s

  named_moved : (defined : Bool) (names : List (List ℕ)) (o : Option Name) → IsNamed defined names o → IsNamed defined names (option_map (moved_name f) o)
  named_moved defined names _ (IsNamed.named h) = IsNamed.named h
  named_moved defined names _ (IsNamed.nameless h) = IsNamed.nameless h

  and_moved : (names : List (List ℕ)) (o : Option Name) → and_name names (option_map (moved_name f) o) ≡ and_name names o
  and_moved names None = refl
  and_moved names (Some x) = refl

  params_moved : (structs : List Struct) (defined : Bool) (names : List (List ℕ)) (qs : List Param) (us : List Ty) → AreParams structs defined names qs us → AreParams structs defined names (map (moved_param f) qs) us
  params_moved structs defined names _ _ AreParams.none = AreParams.none
  params_moved structs defined names _ _ (AreParams.more {p = q} {u = u} {rest = rest} {us = us} n d b) =
      AreParams.more (named_moved defined names q.name n) (param_moved structs q u d)
      (subst (λ (l : List (List ℕ)). AreParams structs defined l (map (moved_param f) rest) us) (sym (and_moved names q.name)) (params_moved structs defined (and_name names q.name) rest us b))

  result_moved : (structs : List Struct) (r : Returns) (stars : ℕ) (u : Option Ty) → IsResult structs r stars u → IsResult structs (moved_returns f r) stars u
  result_moved structs _ _ _ IsResult.nothing = IsResult.nothing
  result_moved structs _ _ _ (IsResult.value {base = base} {stars = stars} {u = u} d s) = IsResult.value (declares_moved (tags_of structs) (length structs) base stars [] u d) s

  pub function_moved : (structs : List Struct) (defined : Bool) (h : Head) (s : said.Signature) → DeclaresFunction structs defined h s → DeclaresFunction structs defined (moved_head f h) s
  function_moved structs defined h _ (DeclaresFunction.function {r = r} {us = us} d b) =
      DeclaresFunction.function (result_moved structs h.returns h.stars r d) (params_moved structs defined [] h.params us b)

  -- ---- structs

  abbrev moved_member : Base × Declarator → Base × Declarator
  moved_member d = (moved_base f d.0, moved_declarator f d.1)

  items_moved : (base : Base) (ds : List Declarator) → map (λ d. (moved_base f base, d)) (map (moved_declarator f) ds) ≡ map moved_member (map (λ d. (base, d)) ds)
  items_moved base [] = refl
  items_moved base (d ∷ ds) = ap (λ l. (moved_base f base, moved_declarator f d) ∷ l) (items_moved base ds)

  declarators_moved : (ms : List Members) → declarators_of (map (moved_members f) ms) ≡ map moved_member (declarators_of ms)
  declarators_moved [] = refl
  declarators_moved (m ∷ rest) =
      ap (λ l. l ++ declarators_of (map (moved_members f) rest)) (items_moved m.base m.items) ∙
      (ap (λ l. map moved_member (map (λ d. (m.base, d)) m.items) ++ l) (declarators_moved rest) ∙ sym (map-append moved_member (map (λ d. (m.base, d)) m.items) (declarators_of rest)))

  member_moved : (tags : List (List ℕ)) (complete : ℕ) (names : List (List ℕ)) (d : Base × Declarator) (m : List ℕ × Ty) → IsMember tags complete names d m → IsMember tags complete names (moved_member d) m
  member_moved tags complete names _ _ (IsMember.member {base = base} {d = d} {u = u} n k) = IsMember.member n (declares_moved tags complete base d.stars d.sizes u k)

  members_moved : (tags : List (List ℕ)) (complete : ℕ) (names : List (List ℕ)) (ds : List (Base × Declarator)) (ms : List (List ℕ × Ty)) → AreMembers tags complete names ds ms → AreMembers tags complete names (map moved_member ds) ms
  members_moved tags complete names _ _ AreMembers.none = AreMembers.none
  members_moved tags complete names _ _ (AreMembers.more {d = d} {m = m} {rest = rest} {ms = ms} k b) =
      AreMembers.more (member_moved tags complete names d m k) (members_moved tags complete (names ++ d.1.name.text ∷ []) rest ms b)

  pub struct_moved : (structs : List Struct) (x : Name) (members : List Members) (s : Struct) → Defines structs x members s → Defines structs (moved_name f x) (map (moved_members f) members) s
  struct_moved structs x members _ (Defines.struct {ms = ms} n b) =
      Defines.struct n (subst (λ l. AreMembers (tags_of structs ++ x.text ∷ []) (length structs) [] l ms) (sym (declarators_moved members)) (members_moved (tags_of structs ++ x.text ∷ []) (length structs) [] (declarators_of members) ms b))
