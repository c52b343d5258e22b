-- Heads of functions, and functions: what the functions give is what the rules say.
use Rattle.std.proofs.Common.{◌≡◌, ℕ, Bool, true, false, not, List, Option, Some, None, Ok, Err, refl, sym, ap, ◌∙◌, subst, inl, inr, ◌⊎◌}
use Rattle.std.specs.Prelude.{slice_get}
use Rattle.std.specs.List.{list_all}
use Rattle.std.specs.Cmp.Lexicographic.{pointwise}
use Rattle.std.specs.Bool.{Decides}
use Rattle.std.proofs.lemmas.Bool.Decides.{Decides-eqb, Decides-like, Decides-and, Decides-not, Decides-by_and}
use Rattle.std.proofs.lemmas.Slice.Eq.{slice_eq-Decides}
use Rattle.ax_prog.specs.declared.Ty.{Ty}
use Rattle.ax_prog.specs.declared.Fun.{Fun}
use Rattle.ax_parse_grammar.specs.declared.tree.Name.{Name}
use Rattle.ax_parse_grammar.specs.declared.tree.Head.{Head}
use Rattle.ax_parse_grammar.specs.declared.tree.Stmt.{Stmt}
use Rattle.ax_names_types.specs.declared.Entry.{Entry}
use Rattle.ax_names_types.specs.declared.Entity.{Entity}
use Rattle.ax_names_types.specs.declared.Entity.TheVariants as entity
use Rattle.ax_names_types.specs.declared.TypeKind.TheVariants.{Redeclared}
use Rattle.ax_names_types.specs.declared.TypeFault.{TypeFault}
use Rattle.ax_names_types.specs.Faults.{fault, Verdict}
use Rattle.ax_names_types.specs.Scopes.{same_text, innermost}
use Rattle.ax_names_types.specs.Verdicts.{same_ty}
use Rattle.ax_names_types.proofs.Equality.{Decides-same_ty}
use Rattle.ax_names_types.proofs.Sound.{clash}
use Rattle.ax_names_types.proofs.Broken.{Faulty}
use Rattle.ax_names_declared.specs.declared.heads.Signature as said
use Rattle.ax_names_declared.specs.Heads.{DeclaresFunction, MisdeclaresFunction}
use Rattle.ax_names_declared.specs.Signatures.{signature}
use Rattle.ax_names_declared.proofs.Exactness.{Judged}
use Rattle.ax_names_declared.proofs.Functions.{function_judged, declares_function, function_faulty}
use Rattle.ax_names_rules.specs.declared.Signature.{Signature}
use Rattle.ax_names_rules.specs.declared.State.{State}
use Rattle.ax_names_rules.specs.States.{depth}
use Rattle.ax_names_rules.specs.Functions.{named, Signs, Introduces, IsUndefined, IsHead, with_params, DefinesFunction}
use Rattle.ax_names_rules.specs.FileFaults.{BreaksHead, BreaksFunction}
use Rattle.ax_names_rules.specs.ValueWalk.{Made, entity_of}
use Rattle.ax_names_rules.specs.StatementWalk.{items_of}
use Rattle.ax_names_rules.specs.FileWalk.{same_result, same_head, says_the_same, introduced_by, is_undefined, once, name_for, named_by, signature_at, head_in, function_in}
use Rattle.ax_names_rules.proofs.Steps.{choose, false_or_true, bind_judged, bind_is, bind_faulty, bind_behind, both_judged, both_are, both_left, both_right, fault_is}
use Rattle.ax_names_rules.proofs.Bodies.{JudgedAll, items_judged}
use Rattle.ax_names_rules.proofs.Outcomes.{items_are, items_break}

-- ---- equal signatures

Decides-text : (a b : List ℕ) → Decides (same_text a b) (a ≡ b)
Decides-text a b = slice_eq-Decides Decides-eqb a b (same_text a b) refl

Decides-types : (a b : List Ty) → Decides (pointwise same_ty a b) (a ≡ b)
Decides-types a b = slice_eq-Decides Decides-same_ty a b (pointwise same_ty a b) refl

abbrev type_or : Ty → Option Ty → Ty
type_or d None = d
type_or d (Some u) = u

Decides-result : (a b : Option Ty) → Decides (same_result a b) (a ≡ b)
Decides-result None None = ((λ h. refl), (λ h. refl))
Decides-result (Some a) (Some b) = Decides-like _ (ap Some) (ap (type_or a)) (Decides-same_ty a b)
Decides-result None (Some b) = ((λ h. absurd (cc)), (λ h. cc))
Decides-result (Some a) None = ((λ h. absurd (cc)), (λ h. cc))

abbrev made : List ℕ → Option Ty → List Ty → Signature
made x r us = record { name = x; result = r; params = us }

all_parts : (a b : Signature) → (a.name ≡ b.name) × ((a.result ≡ b.result) × (a.params ≡ b.params)) → a ≡ b
all_parts a b h = ap (λ x. made x a.result a.params) h.0 ∙ ap (λ r. made b.name r a.params) (h.1).0 ∙ ap (λ us. made b.name b.result us) (h.1).1

Decides-head : (a b : Signature) → Decides (same_head a b) (a ≡ b)
Decides-head a b =
    Decides-like _ (all_parts a b) (λ e. (ap (λ (s : Signature). s.name) e, (ap (λ (s : Signature). s.result) e, ap (λ (s : Signature). s.params) e)))
    (Decides-and _ _ (Decides-text a.name b.name) (Decides-and _ _ (Decides-result a.result b.result) (Decides-types a.params b.params)))

it_is : (o : Option Signature) (g : Signature) → says_the_same o g ≡ true → o ≡ Some g
it_is None g h = cc
it_is (Some e) g h = ap Some ((Decides-head e g).0 h)

it_says : (o : Option Signature) (g : Signature) → o ≡ Some g → says_the_same o g ≡ true
it_says o g h = ap (λ o. says_the_same o g) h ∙ (Decides-head g g).1 refl

Decides-undefined : (st : State) (x : List ℕ) → Decides (is_undefined st x) (IsUndefined st x)
Decides-undefined st x = Decides-by_and (λ (f : Fun). not (same_text f.name x)) (λ (f : Fun). f.name ≡ x → ⊥) (list_all (λ (f : Fun). not (same_text f.name x))) (λ f. Decides-not _ (Decides-text f.name x)) refl (λ f fs. refl) st.funs

-- ---- what a name denotes

abbrev entity_or : Entity → Option Entity → Entity
entity_or d None = d
entity_or d (Some w) = w

entry_from : (o : Option Entry) (w : Entity) → entity_of o ≡ Some w → (d : Entry) × (o ≡ Some d) × (d.entity ≡ w)
entry_from None w h = cc
entry_from (Some d) w h = (d, refl, ap (entity_or d.entity) h)

none_from : (o : Option Entry) → entity_of o ≡ None → o ≡ None
none_from None h = refl
none_from (Some d) h = cc

-- ---- the name of a function

abbrev JudgedName : State → Bool → Head → Verdict (List ℕ) → Type 0
JudgedName st defined h (Ok y) = (y ≡ h.name.text) × (defined ≡ true → IsUndefined st h.name.text)
JudgedName st defined h (Err f) = BreaksHead st defined h f

once_judged : (st : State) (defined : Bool) (h : Head) → JudgedName st defined h (once defined st h.name)
once_judged st false h = (refl, λ z. cc)
once_judged st true h =
    choose (JudgedName st true h) (is_undefined st h.name.text) (Ok h.name.text) (Err (fault Redeclared (h.name).span))
    (λ z. (refl, λ y. (Decides-undefined st h.name.text).0 z)) (λ z. BreaksHead.twice refl (λ k. clash (is_undefined st h.name.text) ((Decides-undefined st h.name.text).1 k) z))

name_judged : (st : State) (defined : Bool) (h : Head) (o : Option Entity) → entity_of (innermost h.name.text st.names) ≡ o → JudgedName st defined h (name_for o defined st h.name)
name_judged st defined h None e = once_judged st defined h
name_judged st defined h (Some (entity.Function k)) e = once_judged st defined h
name_judged st defined h (Some (entity.Variable id u)) e = let p = entry_from (innermost h.name.text st.names) (entity.Variable id u) e in BreaksHead.variable p.0 id u p.1 p.2

once_is : (st : State) (defined : Bool) (x : Name) → (defined ≡ true → IsUndefined st x.text) → once defined st x ≡ Ok x.text
once_is st false x u = refl
once_is st true x u = rw ((Decides-undefined st x.text).1 (u refl)) refl

twice_is : (st : State) (x : Name) → (IsUndefined st x.text → ⊥) → once true st x ≡ Err (fault Redeclared x.span)
twice_is st x k = rw (false_or_true (is_undefined st x.text) (λ z. k ((Decides-undefined st x.text).0 z))) refl

twice_for : (st : State) (x : Name) (o : Option Entity) → (IsUndefined st x.text → ⊥) → name_for o true st x ≡ Err (fault Redeclared x.span)
twice_for st x None k = twice_is st x k
twice_for st x (Some (entity.Function j)) k = twice_is st x k
twice_for st x (Some (entity.Variable id u)) k = refl

abbrev NameOr : State → Name → Verdict (List ℕ) → Type 0
NameOr st x v = (v ≡ Ok x.text) ⊎ (v ≡ Err (fault Redeclared x.span))

once_either : (st : State) (defined : Bool) (x : Name) → NameOr st x (once defined st x)
once_either st false x = inl refl
once_either st true x = choose (NameOr st x) (is_undefined st x.text) (Ok x.text) (Err (fault Redeclared x.span)) (λ z. inl refl) (λ z. inr refl)

name_either : (st : State) (defined : Bool) (x : Name) (o : Option Entity) → NameOr st x (name_for o defined st x)
name_either st defined x None = once_either st defined x
name_either st defined x (Some (entity.Function k)) = once_either st defined x
name_either st defined x (Some (entity.Variable id u)) = inr refl

-- ---- its signature

module _ (st : State) (defined : Bool) (h : Head) where
  abbrev JudgedSignature : Verdict Signature → Type 0
  JudgedSignature (Ok g) = Signs st.structs defined h g × (defined ≡ true → IsUndefined st h.name.text)
  JudgedSignature (Err f) = BreaksHead st defined h f

  abbrev known : Option Entity
  known = entity_of (innermost h.name.text st.names)

  signature_judged : JudgedSignature (signature_at st defined h)
  signature_judged =
      both_judged (JudgedName st defined h) (Judged (DeclaresFunction st.structs defined h) (MisdeclaresFunction st.structs defined h)) JudgedSignature named_by (name_for known defined st h.name) (signature st.structs defined h)
      (name_judged st defined h known refl) (function_judged st.structs defined h)
      (λ y s n d. (subst (λ (x : List ℕ). Signs st.structs defined h (named x s)) (sym n.0) (Signs.head s d), n.1)) (λ f n. n) (λ f d. BreaksHead.head d)

  signs_from : (g : Signature) → Signs st.structs defined h g → (s : said.Signature) × (signature st.structs defined h ≡ Ok s) × (g ≡ named h.name.text s)
  signs_from _ (Signs.head s d) = (s, declares_function st.structs defined h s d, refl)

  name_is : (g : Signature) → Signs st.structs defined h g → g.name ≡ h.name.text
  name_is _ (Signs.head s d) = refl

  signature_by : (g : Signature) → Signs st.structs defined h g → name_for known defined st h.name ≡ Ok h.name.text → signature_at st defined h ≡ Ok g
  signature_by g d e = let p = signs_from g d in both_are named_by _ _ h.name.text p.0 (Ok g) e p.1 (ap Ok (sym p.2))

  -- ---- what stands behind it

  abbrev JudgedIntroduced : Signature → Verdict State → Type 0
  JudgedIntroduced g (Ok st2) = Introduces st g st2
  JudgedIntroduced g (Err f) = BreaksHead st defined h f

  there : (g : Signature) → Signs st.structs defined h g → (o : Option Entry) → innermost h.name.text st.names ≡ o → innermost g.name st.names ≡ o
  there g d o e = ap (λ x. innermost x st.names) (name_is g d) ∙ e

  introduced_judged : (g : Signature) → Signs st.structs defined h g → (o : Option Entity) → known ≡ o → JudgedIntroduced g (introduced_by o (h.name).span st g)
  introduced_judged g d None e = Introduces.first (there g d None (none_from (innermost h.name.text st.names) e))
  introduced_judged g d (Some (entity.Variable id u)) e = let p = entry_from (innermost h.name.text st.names) (entity.Variable id u) e in BreaksHead.variable p.0 id u p.1 p.2
  introduced_judged g d (Some (entity.Function k)) e =
      let p = entry_from (innermost h.name.text st.names) (entity.Function k) e in
      choose (JudgedIntroduced g) (says_the_same (slice_get st.heads k) g) (Ok st) (Err (fault Redeclared (h.name).span))
      (λ z. Introduces.again p.0 k (there g d (Some p.0) p.1) p.2 (it_is (slice_get st.heads k) g z))
      (λ z. BreaksHead.differs g p.0 k d p.1 p.2 (λ q. clash (says_the_same (slice_get st.heads k) g) (it_says (slice_get st.heads k) g q) z))

  abbrev pub JudgedHead : Made Signature → Type 0
  JudgedHead (Ok r) = IsHead st defined h r.0 r.1
  JudgedHead (Err f) = BreaksHead st defined h f

  pub head_judged : JudgedHead (head_in st defined h)
  head_judged =
      bind_judged JudgedSignature JudgedHead _ (signature_at st defined h) signature_judged
      (λ g s. bind_judged (JudgedIntroduced g) JudgedHead _ (introduced_by known (h.name).span st g) (introduced_judged g s.0 known refl) (λ st2 i. IsHead.head s.0 i s.1) (λ f b. b))
      (λ f b. b)

  introduced_from : (g : Signature) (st2 : State) → Introduces st g st2 → (o : Option Entity) × (entity_of (innermost g.name st.names) ≡ o) × (name_for o defined st h.name ≡ once defined st h.name) × (introduced_by o (h.name).span st g ≡ Ok st2)
  introduced_from g _ (Introduces.first e) = (None, ap entity_of e, refl, refl)
  introduced_from g _ (Introduces.again d k e w s) = (Some (entity.Function k), ap entity_of e ∙ ap Some w, refl, rw (it_says (slice_get st.heads k) g s) refl)

  pub head_is : (g : Signature) (st2 : State) → IsHead st defined h g st2 → head_in st defined h ≡ Ok (g, st2)
  head_is g st2 (IsHead.head d i u) =
      let o = introduced_from g st2 i in
      let e : known ≡ o.0 = ap (λ x. entity_of (innermost x st.names)) (sym (name_is g d)) ∙ o.1 in
      bind_is _ _ g _ (signature_by g d (ap (λ o. name_for o defined st h.name) e ∙ o.2 ∙ once_is st defined h.name u))
      (bind_is _ _ st2 _ (ap (λ o. introduced_by o (h.name).span st g) e ∙ o.3) refl)

  name_breaks : (f : TypeFault) → Faulty (name_for known defined st h.name) f → Faulty (head_in st defined h) f
  name_breaks f b = bind_faulty _ (signature_at st defined h) f (both_left named_by (name_for known defined st h.name) (signature st.structs defined h) f b)

  differs_breaks : (g : Signature) (d : Entry) (k : ℕ) → Signs st.structs defined h g → innermost h.name.text st.names ≡ Some d → d.entity ≡ entity.Function k → (slice_get st.heads k ≡ Some g → ⊥) → NameOr st h.name (name_for known defined st h.name) → Faulty (head_in st defined h) (fault Redeclared (h.name).span)
  differs_breaks g d k s hd he n (inr e) = name_breaks (fault Redeclared (h.name).span) (fault_is (name_for known defined st h.name) (fault Redeclared (h.name).span) e)
  differs_breaks g d k s hd he n (inl e) =
      bind_behind _ (signature_at st defined h) g (fault Redeclared (h.name).span) (signature_by g s e)
      (bind_faulty _ (introduced_by known (h.name).span st g) (fault Redeclared (h.name).span)
      (fault_is (introduced_by known (h.name).span st g) (fault Redeclared (h.name).span)
      (ap (λ o. introduced_by (entity_of o) (h.name).span st g) hd ∙ ap (λ (w : Entity). introduced_by (Some w) (h.name).span st g) he ∙ rw (false_or_true (says_the_same (slice_get st.heads k) g) (λ z. n (it_is (slice_get st.heads k) g z))) refl)))

  pub head_breaks : (f : TypeFault) → BreaksHead st defined h f → Faulty (head_in st defined h) f
  head_breaks f (BreaksHead.head d) = bind_faulty _ (signature_at st defined h) f (both_right named_by (name_for known defined st h.name) (signature st.structs defined h) f (function_faulty st.structs defined h f d))
  head_breaks _ (BreaksHead.variable d id u hd he) =
      name_breaks (fault Redeclared (h.name).span) (fault_is (name_for known defined st h.name) (fault Redeclared (h.name).span) (ap (λ o. name_for (entity_of o) defined st h.name) hd ∙ ap (λ (w : Entity). name_for (Some w) defined st h.name) he))
  head_breaks _ (BreaksHead.twice z k) =
      name_breaks (fault Redeclared (h.name).span) (fault_is (name_for known defined st h.name) (fault Redeclared (h.name).span) (ap (λ b. name_for known b st h.name) z ∙ twice_for st h.name known k))
  head_breaks _ (BreaksHead.differs g d k s hd he n) = differs_breaks g d k s hd he n (name_either st defined h.name known)

-- ---- functions

module _ (defs : List (List ℕ)) (st : State) (h : Head) (items : List Stmt) where
  abbrev pub JudgedFunction : Verdict State → Type 0
  JudgedFunction (Ok s) = DefinesFunction defs st h items s
  JudgedFunction (Err f) = BreaksFunction defs st h items f

  pub function_judged_in : JudgedFunction (function_in defs h items st)
  function_judged_in =
      bind_judged (JudgedHead st true h) JudgedFunction _ (head_in st true h) (head_judged st true h)
      (λ g d. bind_judged (JudgedAll defs (g.0).result false (depth g.1) (with_params g.1 h.params (g.0).params) items) JudgedFunction _ (items_of defs (g.0).result false (depth g.1) items (with_params g.1 h.params (g.0).params)) (items_judged defs (g.0).result false (depth g.1) items (with_params g.1 h.params (g.0).params))
      (λ r b. DefinesFunction.function d b) (λ f b. BreaksFunction.body g.0 g.1 d b))
      (λ f d. BreaksFunction.head d)

  pub function_is : (s : State) → DefinesFunction defs st h items s → function_in defs h items st ≡ Ok s
  function_is _ (DefinesFunction.function {g = g} {st2 = st2} {st3 = st3} {body = body} d b) =
      bind_is _ _ (g, st2) _ (head_is st true h g st2 d) (bind_is _ _ (body, st3) _ (items_are defs g.result false (depth st2) items (with_params st2 h.params g.params) body st3 b) refl)

  pub function_breaks : (f : TypeFault) → BreaksFunction defs st h items f → Faulty (function_in defs h items st) f
  function_breaks f (BreaksFunction.head d) = bind_faulty _ (head_in st true h) f (head_breaks st true h f d)
  function_breaks f (BreaksFunction.body g st2 d b) =
      bind_behind _ (head_in st true h) (g, st2) f (head_is st true h g st2 d) (bind_faulty _ (items_of defs g.result false (depth st2) items (with_params st2 h.params g.params)) f (items_break defs g.result false (depth st2) items (with_params st2 h.params g.params) f b))
