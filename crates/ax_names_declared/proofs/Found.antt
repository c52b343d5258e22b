-- What a walk over members has found is the verdict on them.
use Rattle.std.proofs.Common.{◌≡◌, ℕ, List, [], ◌∷◌, ◌++◌, length, map, Option, Some, None, Ok, Err, refl, sym, ap, ◌∙◌, append_assoc}
use Rattle.ax_prog.specs.declared.Ty.{Ty}
use Rattle.ax_prog.specs.declared.Struct.{Struct}
use Rattle.ax_parse_grammar.specs.declared.tree.Name.{Name}
use Rattle.ax_parse_grammar.specs.declared.tree.Base.{Base}
use Rattle.ax_parse_grammar.specs.declared.tree.Declarator.{Declarator}
use Rattle.ax_parse_grammar.specs.declared.tree.Members.{Members}
use Rattle.ax_names_types.specs.declared.TypeKind.TheVariants.{Redeclared}
use Rattle.ax_names_types.specs.declared.TypeFault.{TypeFault}
use Rattle.ax_names_types.specs.Faults.{fault, Verdict}
use Rattle.ax_names_types.specs.Verdicts.{sooner, both}
use Rattle.ax_names_declared.specs.declared.structs.Found.{Found}
use Rattle.ax_names_declared.specs.Firsts.{closed}
use Rattle.ax_names_declared.specs.Denotations.{tags_of, name_at}
use Rattle.ax_names_declared.specs.Verdicts.{declared}
use Rattle.ax_names_declared.specs.Structs.{declarators_of}
use Rattle.ax_names_declared.specs.Members.{named, joined, members, struct_with, definition, names_of, type_or_int, with_member, after_one, after_items, after_members, nothing_found, defined}
use Rattle.ax_names_declared.proofs.Exactness.{sooner_assoc}

abbrev Fields : Type 0
Fields = List (List ℕ × Ty)

abbrev appended : Fields → Fields → Verdict Fields
appended a b = Ok (a ++ b)

-- one member more in what was found, or in front of the verdict on those to come
step : (o : Option TypeFault) (fs : Fields) (x : Name) (k : Option ℕ) (v : Verdict Ty) (w : Verdict Fields)
    → both appended (closed (with_member x k v (record { fields = fs; fault = o })).fault (with_member x k v (record { fields = fs; fault = o })).fields) w ≡ both appended (closed o fs) (joined (both (λ a b. Ok (a, b)) (named x k) v) w)
step None fs x None (Ok u) (Ok ms) = ap Ok (append_assoc fs ((x.text, u) ∷ []) ms)
step None fs x None (Ok u) (Err g) = refl
step None fs x None (Err f) (Ok ms) = refl
step None fs x None (Err f) (Err g) = refl
step None fs x (Some k) (Ok u) (Ok ms) = refl
step None fs x (Some k) (Ok u) (Err g) = refl
step None fs x (Some k) (Err f) (Ok ms) = refl
step None fs x (Some k) (Err f) (Err g) = refl
step (Some h) fs x None (Ok u) (Ok ms) = refl
step (Some h) fs x None (Ok u) (Err g) = refl
step (Some h) fs x None (Err f) (Ok ms) = refl
step (Some h) fs x None (Err f) (Err g) = ap Err (sooner_assoc h f g)
step (Some h) fs x (Some k) (Ok u) (Ok ms) = refl
step (Some h) fs x (Some k) (Ok u) (Err g) = ap Err (sooner_assoc h (fault Redeclared x.span) g)
step (Some h) fs x (Some k) (Err f) (Ok ms) = refl
step (Some h) fs x (Some k) (Err f) (Err g) = ap Err (sooner_assoc h (sooner (fault Redeclared x.span) f) g)

map_append : {X Y : Type 0} (f : X → Y) (xs ys : List X) → map f (xs ++ ys) ≡ map f xs ++ map f ys
map_append f [] ys = refl
map_append f (x ∷ xs) ys = ap (λ l. f x ∷ l) (map_append f xs ys)

append_none : {X : Type 0} (xs : List X) → xs ++ [] ≡ xs
append_none [] = refl
append_none (x ∷ xs) = ap (λ l. x ∷ l) (append_none xs)

module _ (tags : List (List ℕ)) (n : ℕ) where
  abbrev after : List (Base × Declarator) → Found → Found
  after [] st = st
  after (c ∷ rest) st = after rest (after_one tags n c.0 c.1 st)

  ends : (o : Option TypeFault) (fs : Fields) → closed o fs ≡ both appended (closed o fs) (Ok [])
  ends None fs = ap Ok (sym (append_none fs))
  ends (Some f) fs = refl

  found : (list : List (Base × Declarator)) (st : Found) → closed (after list st).fault (after list st).fields ≡ both appended (closed st.fault st.fields) (members tags n (names_of st.fields) list)
  found [] st = ends st.fault st.fields
  found (c ∷ rest) st =
      let v : Verdict Ty = declared tags n c.0 c.1.stars c.1.sizes c.1.span in
      let k : Option ℕ = name_at (names_of st.fields) c.1.name.text in
      found rest (after_one tags n c.0 c.1 st)
      ∙ ap (λ names. both appended (closed (after_one tags n c.0 c.1 st).fault (after_one tags n c.0 c.1 st).fields) (members tags n names rest)) (map_append (λ (f : List ℕ × Ty). f.0) st.fields ((c.1.name.text, type_or_int v) ∷ []))
      ∙ step st.fault st.fields c.1.name k v (members tags n (names_of st.fields ++ c.1.name.text ∷ []) rest)

  items_after : (base : Base) (items : List Declarator) (st : Found) → after_items tags n base items st ≡ after (map (λ d. (base, d)) items) st
  items_after base [] st = refl
  items_after base (d ∷ rest) st = items_after base rest (after_one tags n base d st)

  both_after : (xs ys : List (Base × Declarator)) (st : Found) → after (xs ++ ys) st ≡ after ys (after xs st)
  both_after [] ys st = refl
  both_after (c ∷ xs) ys st = both_after xs ys (after_one tags n c.0 c.1 st)

  members_after : (list : List Members) (st : Found) → after_members tags n list st ≡ after (declarators_of list) st
  members_after [] st = refl
  members_after (m ∷ rest) st =
      members_after rest (after_items tags n m.base m.items st)
      ∙ ap (after (declarators_of rest)) (items_after m.base m.items st)
      ∙ sym (both_after (map (λ d. (m.base, d)) m.items) (declarators_of rest) st)

  starts : (w : Verdict Fields) → both appended (Ok []) w ≡ w
  starts (Ok ms) = refl
  starts (Err f) = refl

  pub walked : (list : List Members) → closed (after_members tags n list nothing_found).fault (after_members tags n list nothing_found).fields ≡ members tags n [] (declarators_of list)
  walked list =
      ap (λ (st : Found). closed st.fault st.fields) (members_after list nothing_found)
      ∙ found (declarators_of list) nothing_found
      ∙ starts (members tags n [] (declarators_of list))

pub defined_is : (structs : List Struct) (x : Name) (list : List Members) → defined x (name_at (tags_of structs) x.text) (after_members (tags_of structs ++ x.text ∷ []) (length structs) list nothing_found) ≡ definition structs x list
defined_is structs x list = ap (both struct_with (named x (name_at (tags_of structs) x.text))) (walked (tags_of structs ++ x.text ∷ []) (length structs) list)
