-- Parts of files, and sources: what the functions give is what the rules say.
use Rattle.std.proofs.Common.{◌≡◌, ℕ, true, false, List, [], ◌∷◌, Option, Some, None, Ok, Err, refl, sym, ap, ◌∙◌, subst, arith, ◌⊎◌}
use Rattle.std.specs.Prelude.{codes, slice_get}
use Rattle.std.specs.Bool.{Decides}
use Rattle.std.proofs.lemmas.Bool.Decides.{Decides-and}
use Rattle.ax_prog.specs.declared.Span.{Span}
use Rattle.ax_prog.specs.declared.Ty.{Ty, Ptr', Array'}
use Rattle.ax_prog.specs.declared.Ty.TheVariants as ty
use Rattle.ax_prog.specs.declared.VarId.{VarId}
use Rattle.ax_prog.specs.declared.FunId.{FunId}
use Rattle.ax_prog.specs.declared.Fun.{Fun}
use Rattle.ax_prog.specs.declared.Program.{Program}
use Rattle.ax_parse_grammar.specs.declared.tree.Decl.{Decl}
use Rattle.ax_parse_grammar.specs.declared.tree.Head.{Head}
use Rattle.ax_parse_grammar.specs.declared.tree.Stmt.{Stmt}
use Rattle.ax_parse_grammar.specs.declared.tree.Part.{Part}
use Rattle.ax_parse_grammar.specs.declared.tree.Part.TheVariants as part
use Rattle.ax_parse_grammar.specs.declared.tree.Tree.{Tree}
use Rattle.ax_names_types.specs.declared.TypeKind.TheVariants.{UnknownName, NoMain}
use Rattle.ax_names_types.specs.declared.TypeFault.{TypeFault}
use Rattle.ax_names_types.specs.Faults.{fault, Verdict}
use Rattle.ax_names_types.proofs.Sound.{clash}
use Rattle.ax_names_types.proofs.Broken.{Faulty}
use Rattle.ax_names_declared.specs.Firsts.{Exact}
use Rattle.ax_names_declared.specs.Structs.{Defines, Misdefines}
use Rattle.ax_names_declared.specs.Members.{definition}
use Rattle.ax_names_declared.proofs.Exactness.{Judged}
use Rattle.ax_names_declared.proofs.Definitions.{definition_judged, defines_is, misdefines_faulty}
use Rattle.ax_names_rules.specs.declared.Signature.{Signature}
use Rattle.ax_names_rules.specs.declared.State.{State}
use Rattle.ax_names_rules.specs.States.{is_int}
use Rattle.ax_names_rules.specs.Values.{function_at, fun_id}
use Rattle.ax_names_rules.specs.Functions.{IsHead}
use Rattle.ax_names_rules.specs.Programs.{definitions_of, BecomesPart, BecomeParts, start, IsMain, program_with, HasMain, IsProgramOf}
use Rattle.ax_names_rules.specs.FileFaults.{BreaksPrototype, BreaksPart, BreaksParts, end_of, BreaksSource}
use Rattle.ax_names_rules.specs.ValueWalk.{defined_at}
use Rattle.ax_names_rules.specs.StatementWalk.{globals_of}
use Rattle.ax_names_rules.specs.FileWalk.{head_in, function_in, prototype_in, part_of, parts_of, none_there, is_number, is_main, main_at, program_of}
use Rattle.ax_names_rules.proofs.Steps.{choose, bind_judged, bind_is, bind_faulty, bind_behind, both_judged, both_are, both_left, both_right, fault_is, exact_by, either, never, ok_same}
use Rattle.ax_names_rules.proofs.Variables.{JudgedGlobals, globals_judged, globals_are, globals_break}
use Rattle.ax_names_rules.proofs.Heads.{JudgedHead, head_judged, head_is, head_breaks, JudgedFunction, function_judged_in, function_is, function_breaks}

-- ---- prototypes

module _ (defs : List (List ℕ)) (st : State) (h : Head) where
  abbrev JudgedDefined : Verdict FunId → Type 0
  JudgedDefined (Ok j) = (i : ℕ) × (function_at defs h.name.text ≡ Some i)
  JudgedDefined (Err f) = (f ≡ fault UnknownName (h.name).span) × (function_at defs h.name.text ≡ None)

  defined_by : (o : Option ℕ) → function_at defs h.name.text ≡ o → JudgedDefined (defined_at o (h.name).span)
  defined_by None e = (refl, e)
  defined_by (Some i) e = (i, e)

  abbrev JudgedPrototype : Verdict State → Type 0
  JudgedPrototype (Ok s) = (g : Signature) × (j : ℕ) × IsHead st false h g s × (function_at defs h.name.text ≡ Some j)
  JudgedPrototype (Err f) = BreaksPrototype defs st h f

  abbrev behind_head : FunId → Signature × State → Verdict State
  behind_head j g = Ok g.1

  prototype_judged : JudgedPrototype (prototype_in defs h st)
  prototype_judged =
      both_judged JudgedDefined (JudgedHead st false h) JudgedPrototype behind_head (defined_at (function_at defs h.name.text) (h.name).span) (head_in st false h) (defined_by (function_at defs h.name.text) refl) (head_judged st false h)
      (λ j g i d. (g.0, i.0, d, i.1)) (λ f i. subst (λ (f : TypeFault). BreaksPrototype defs st h f) (sym i.0) (BreaksPrototype.undefined i.1)) (λ f d. BreaksPrototype.head d)

  prototype_is : (g : Signature) (s : State) (j : ℕ) → IsHead st false h g s → function_at defs h.name.text ≡ Some j → prototype_in defs h st ≡ Ok s
  prototype_is g s j d e = both_are behind_head (defined_at (function_at defs h.name.text) (h.name).span) (head_in st false h) (fun_id j) (g, s) (Ok s) (ap (λ o. defined_at o (h.name).span) e) (head_is st false h g s d) refl

  prototype_breaks : (f : TypeFault) → BreaksPrototype defs st h f → Faulty (prototype_in defs h st) f
  prototype_breaks f (BreaksPrototype.head d) = both_right behind_head (defined_at (function_at defs h.name.text) (h.name).span) (head_in st false h) f (head_breaks st false h f d)
  prototype_breaks _ (BreaksPrototype.undefined e) =
      both_left behind_head (defined_at (function_at defs h.name.text) (h.name).span) (head_in st false h) (fault UnknownName (h.name).span) (fault_is (defined_at (function_at defs h.name.text) (h.name).span) (fault UnknownName (h.name).span) (ap (λ o. defined_at o (h.name).span) e))

-- ---- parts

abbrev JudgedPart : List (List ℕ) → State → Part → Verdict State → Type 0
JudgedPart defs st p (Ok s) = BecomesPart defs st p s
JudgedPart defs st p (Err f) = BreaksPart defs st p f

declared_part : (defs : List (List ℕ)) (st : State) (d : Decl) (v : Verdict State) → JudgedGlobals d.base d.items st v → JudgedPart defs st (part.Decl d) v
declared_part defs st d (Ok s) b = BecomesPart.decl b
declared_part defs st d (Err f) b = BreaksPart.decl b

function_part : (defs : List (List ℕ)) (st : State) (at : Span) (h : Head) (items : List Stmt) (v : Verdict State) → JudgedFunction defs st h items v → JudgedPart defs st (part.Function at h items) v
function_part defs st at h items (Ok s) d = BecomesPart.function d
function_part defs st at h items (Err f) d = BreaksPart.function d

prototype_part : (defs : List (List ℕ)) (st : State) (at : Span) (h : Head) (v : Verdict State) → JudgedPrototype defs st h v → JudgedPart defs st (part.Prototype at h) v
prototype_part defs st at h (Ok s) d = BecomesPart.prototype d.1 d.2 d.3
prototype_part defs st at h (Err f) d = BreaksPart.prototype d

part_judged : (defs : List (List ℕ)) (p : Part) (st : State) → JudgedPart defs st p (part_of defs p st)
part_judged defs (part.Struct at x ms) st =
    bind_judged (Judged (Defines st.structs x ms) (Misdefines st.structs x ms)) (JudgedPart defs st (part.Struct at x ms)) _ (definition st.structs x ms) (definition_judged st.structs x ms) (λ s d. BecomesPart.struct s d) (λ f d. BreaksPart.struct d)
part_judged defs (part.Decl d) st = declared_part defs st d (globals_of d.base d.items st) (globals_judged d.base d.items st)
part_judged defs (part.Function at h items) st = function_part defs st at h items (function_in defs h items st) (function_judged_in defs st h items)
part_judged defs (part.Prototype at h) st = prototype_part defs st at h (prototype_in defs h st) (prototype_judged defs st h)

part_is : (defs : List (List ℕ)) (p : Part) (st s : State) → BecomesPart defs st p s → part_of defs p st ≡ Ok s
part_is defs _ st _ (BecomesPart.struct {x = x} {ms = ms} s d) = bind_is _ _ s _ (defines_is st.structs x ms s d) refl
part_is defs _ st s (BecomesPart.decl {d = d} b) = globals_are d.base d.items st s b
part_is defs _ st s (BecomesPart.function {h = h} {items = items} d) = function_is defs st h items s d
part_is defs _ st s (BecomesPart.prototype {h = h} {g = g} j d e) = prototype_is defs st h g s j d e

part_breaks : (defs : List (List ℕ)) (p : Part) (st : State) (f : TypeFault) → BreaksPart defs st p f → Faulty (part_of defs p st) f
part_breaks defs _ st f (BreaksPart.struct {x = x} {ms = ms} d) = bind_faulty _ (definition st.structs x ms) f (misdefines_faulty st.structs x ms f d)
part_breaks defs _ st f (BreaksPart.decl {d = d} b) = globals_break d.base d.items st f b
part_breaks defs _ st f (BreaksPart.function {h = h} {items = items} d) = function_breaks defs st h items f d
part_breaks defs _ st f (BreaksPart.prototype {h = h} d) = prototype_breaks defs st h f d

abbrev JudgedParts : List (List ℕ) → List Part → State → Verdict State → Type 0
JudgedParts defs list st (Ok s) = BecomeParts defs st list s
JudgedParts defs list st (Err f) = BreaksParts defs st list f

module _ (defs : List (List ℕ)) where
  more_parts : (p : Part) (rest : List Part) (st s : State) → BecomesPart defs st p s → (v : Verdict State) → JudgedParts defs rest s v → JudgedParts defs (p ∷ rest) st v
  more_parts p rest st s d (Ok s2) b = BecomeParts.more d b
  more_parts p rest st s d (Err f) b = BreaksParts.behind d b

  parts_judged : (list : List Part) (st : State) → JudgedParts defs list st (parts_of defs list st)
  parts_judged [] st = BecomeParts.none
  parts_judged (p ∷ rest) st = bind_judged (JudgedPart defs st p) (JudgedParts defs (p ∷ rest) st) (parts_of defs rest) (part_of defs p st) (part_judged defs p st) (λ s d. more_parts p rest st s d (parts_of defs rest s) (parts_judged rest s)) (λ f d. BreaksParts.this d)

  parts_are : (list : List Part) (st s : State) → BecomeParts defs st list s → parts_of defs list st ≡ Ok s
  parts_are _ st _ BecomeParts.none = refl
  parts_are _ st s3 (BecomeParts.more {st2 = st2} {p = p} {rest = rest} d e) = bind_is _ _ st2 _ (part_is defs p st st2 d) (parts_are rest st2 s3 e)

  parts_break : (list : List Part) (st : State) (f : TypeFault) → BreaksParts defs st list f → Faulty (parts_of defs list st) f
  parts_break _ st f (BreaksParts.this {p = p} {rest = rest} d) = bind_faulty (parts_of defs rest) (part_of defs p st) f (part_breaks defs p st f d)
  parts_break _ st f (BreaksParts.behind {st2 = st2} {p = p} {rest = rest} d e) = bind_behind (parts_of defs rest) (part_of defs p st) st2 f (part_is defs p st st2 d) (parts_break rest st2 f e)

-- ---- `main`

Decides-none : (xs : List VarId) → Decides (none_there xs) (xs ≡ [])
Decides-none [] = ((λ h. refl), (λ h. refl))
Decides-none (x ∷ rest) = ((λ h. absurd (cc)), (λ h. cc))

int_is : (u : Ty) → is_int u ≡ true → u ≡ ty.Int
int_is ty.Int h = refl
int_is (Ptr' s row) h = cc
int_is (Array' s row n) h = cc
int_is (ty.Struct k) h = cc

Decides-number : (r : Option Ty) → Decides (is_number r) (r ≡ Some ty.Int)
Decides-number None = ((λ h. absurd (cc)), (λ h. cc))
Decides-number (Some u) = ((λ h. ap Some (int_is u h)), (λ h. ap is_number h))

Decides-parts : (f : Fun) → Decides (is_main (Some f)) ((f.params ≡ []) × (f.result ≡ Some ty.Int))
Decides-parts f = Decides-and _ _ (Decides-none f.params) (Decides-number f.result)

main_from : (o : Option Fun) → is_main o ≡ true → IsMain o
main_from None h = cc
main_from (Some f) h = let p = (Decides-parts f).0 h in IsMain.main p.0 p.1

it_is_main : (o : Option Fun) → IsMain o → is_main o ≡ true
it_is_main _ (IsMain.main {f = f} p r) = (Decides-parts f).1 (p, r)

abbrev JudgedMain : List (List ℕ) → Span → State → Verdict Program → Type 0
JudgedMain defs at st (Ok p) = (j : ℕ) × HasMain defs st j × (p ≡ program_with st j)
JudgedMain defs at st (Err f) = (f ≡ fault NoMain at) × ((j : ℕ) → HasMain defs st j → ⊥)

main_parts : (defs : List (List ℕ)) (st : State) (j : ℕ) → HasMain defs st j → (function_at defs (codes "main") ≡ Some j) × (is_main (slice_get st.funs j) ≡ true)
main_parts defs st j (HasMain.main e m) = (e, it_is_main (slice_get st.funs j) m)

abbrev place_or : ℕ → Option ℕ → ℕ
place_or d None = d
place_or d (Some j) = j

not_main : (defs : List (List ℕ)) (st : State) (i : ℕ) → function_at defs (codes "main") ≡ Some i → is_main (slice_get st.funs i) ≡ false → (j : ℕ) → HasMain defs st j → ⊥
not_main defs st i e z j m =
    let q = main_parts defs st j m in
    let same : j ≡ i = ap (place_or j) (sym q.0 ∙ e) in
    clash (is_main (slice_get st.funs i)) (subst (λ (n : ℕ). is_main (slice_get st.funs n) ≡ true) same q.1) z

main_judged : (defs : List (List ℕ)) (at : Span) (st : State) (o : Option ℕ) → function_at defs (codes "main") ≡ o → JudgedMain defs at st (main_at o at st)
main_judged defs at st None e = (refl, λ j m. let q = (main_parts defs st j m).0 in cc)
main_judged defs at st (Some i) e =
    choose (JudgedMain defs at st) (is_main (slice_get st.funs i)) (Ok (program_with st i)) (Err (fault NoMain at))
    (λ z. (i, HasMain.main e (main_from (slice_get st.funs i) z), refl)) (λ z. (refl, not_main defs st i e z))

main_is : (defs : List (List ℕ)) (at : Span) (st : State) (j : ℕ) → HasMain defs st j → main_at (function_at defs (codes "main")) at st ≡ Ok (program_with st j)
main_is defs at st j m = let q = main_parts defs st j m in ap (λ o. main_at o at st) q.0 ∙ rw q.1 refl

no_main_is : (defs : List (List ℕ)) (at : Span) (st : State) (v : Verdict Program) → JudgedMain defs at st v → ((j : ℕ) → HasMain defs st j → ⊥) → Faulty v (fault NoMain at)
no_main_is defs at st (Ok p) d k = absurd (k d.0 d.1)
no_main_is defs at st (Err f) d k = (f, refl, rw d.0 (omega arith))

-- ---- sources

module _ (tree : Tree) where
  abbrev JudgedProgram : Verdict Program → Type 0
  JudgedProgram (Ok p) = IsProgramOf tree p
  JudgedProgram (Err f) = BreaksSource tree f

  by_main : (st : State) → BecomeParts (definitions_of tree.parts) start tree.parts st → (v : Verdict Program) → JudgedMain (definitions_of tree.parts) (end_of tree) st v → JudgedProgram v
  by_main st d (Ok p) m = subst (λ (p : Program). IsProgramOf tree p) (sym m.2) (IsProgramOf.file d m.1)
  by_main st d (Err f) m = subst (λ (f : TypeFault). BreaksSource tree f) (sym m.0) (BreaksSource.no_main st d m.1)

  program_judged : JudgedProgram (program_of tree)
  program_judged =
      bind_judged (JudgedParts (definitions_of tree.parts) tree.parts start) JudgedProgram (main_at (function_at (definitions_of tree.parts) (codes "main")) (end_of tree)) (parts_of (definitions_of tree.parts) tree.parts start) (parts_judged (definitions_of tree.parts) tree.parts start)
      (λ st d. by_main st d (main_at (function_at (definitions_of tree.parts) (codes "main")) (end_of tree) st) (main_judged (definitions_of tree.parts) (end_of tree) st (function_at (definitions_of tree.parts) (codes "main")) refl))
      (λ f d. BreaksSource.within d)

  program_is : (p : Program) → IsProgramOf tree p → program_of tree ≡ Ok p
  program_is _ (IsProgramOf.file {st = st} {j = j} d m) = bind_is _ _ st _ (parts_are (definitions_of tree.parts) tree.parts start st d) (main_is (definitions_of tree.parts) (end_of tree) st j m)

  program_breaks : (f : TypeFault) → BreaksSource tree f → Faulty (program_of tree) f
  program_breaks f (BreaksSource.within d) =
      bind_faulty (main_at (function_at (definitions_of tree.parts) (codes "main")) (end_of tree)) (parts_of (definitions_of tree.parts) tree.parts start) f (parts_break (definitions_of tree.parts) tree.parts start f d)
  program_breaks _ (BreaksSource.no_main st d k) =
      bind_behind (main_at (function_at (definitions_of tree.parts) (codes "main")) (end_of tree)) (parts_of (definitions_of tree.parts) tree.parts start) st (fault NoMain (end_of tree)) (parts_are (definitions_of tree.parts) tree.parts start st d)
      (no_main_is (definitions_of tree.parts) (end_of tree) st (main_at (function_at (definitions_of tree.parts) (codes "main")) (end_of tree) st) (main_judged (definitions_of tree.parts) (end_of tree) st (function_at (definitions_of tree.parts) (codes "main")) refl) k)

  pub program_exact : Exact (IsProgramOf tree) (BreaksSource tree) (program_of tree)
  program_exact = exact_by JudgedProgram (IsProgramOf tree) (BreaksSource tree) (program_of tree) program_judged (λ p d. d) (λ f d. d) program_is program_breaks

  pub one : (p q : Program) → IsProgramOf tree p → IsProgramOf tree q → p ≡ q
  one p q d e = ok_same p q (program_of tree) (program_is p d) (program_is q e)

  pub program_or_fault : ((p : Program) × IsProgramOf tree p) ⊎ ((f : TypeFault) × BreaksSource tree f)
  program_or_fault = either JudgedProgram (IsProgramOf tree) (BreaksSource tree) (program_of tree) program_judged (λ p d. d) (λ f d. d)

  pub never_both : (p : Program) (f : TypeFault) → IsProgramOf tree p → BreaksSource tree f → ⊥
  never_both p f d b = never (program_of tree) p f (program_is p d) (program_breaks f b)
