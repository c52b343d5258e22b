-- Declarators of variables and globals: what the functions give is what the rules say.
use Rattle.std.proofs.Common.{◌≡◌, ℕ, List, [], ◌∷◌, Option, Some, None, Ok, Err, refl, sym, ap, subst, arith, if◌then◌else◌}
use Rattle.std.specs.Prelude.{is_some, drop}
use Rattle.ax_prog.specs.declared.Ty.{Ty}
use Rattle.ax_prog.specs.declared.Init.{Init}
use Rattle.ax_prog.specs.declared.Stmt as ps
use Rattle.ax_prog.specs.declared.Stmt.TheVariants as to
use Rattle.ax_parse_grammar.specs.declared.tree.Name.{Name}
use Rattle.ax_parse_grammar.specs.declared.tree.Base.{Base}
use Rattle.ax_parse_grammar.specs.declared.tree.Declared.{Declared}
use Rattle.ax_names_types.specs.declared.Entry.{Entry}
use Rattle.ax_names_types.specs.declared.TypeKind.TheVariants.{Redeclared}
use Rattle.ax_names_types.specs.declared.TypeFault.{TypeFault}
use Rattle.ax_names_types.specs.Faults.{fault, Verdict}
use Rattle.ax_names_types.specs.Scopes.{innermost}
use Rattle.ax_names_types.proofs.Broken.{Faulty}
use Rattle.ax_names_declared.specs.Breaks.{DeclaresObject}
use Rattle.ax_names_rules.specs.declared.State.{State}
use Rattle.ax_names_rules.specs.States.{next_var, with_var, IsNew}
use Rattle.ax_names_rules.specs.Declarations.{sizes_of, DeclaresVar, Begins, BecomeVars, BeginsGlobal, with_global, BecomeGlobals}
use Rattle.ax_names_rules.specs.StatementFaults.{declarator_of, BreaksVar, BreaksDeclared, BreaksVars, BreaksGlobal, BreaksGlobals}
use Rattle.ax_names_rules.specs.ValueWalk.{◌>>=◌, Made}
use Rattle.ax_names_rules.specs.StatementWalk.{new_name, type_of, begun, var_of, vars_of, global_initial, global_of, globals_of}
use Rattle.ax_names_rules.proofs.Steps.{bind_judged, bind_is, bind_faulty, bind_behind, both_judged, both_are, both_left, both_right}
use Rattle.ax_names_rules.proofs.Objects.{JudgedObject, object_judged, object_is, object_breaks}
use Rattle.ax_names_rules.proofs.Initials.{JudgedInitial, initial_judged, initial_is, initial_breaks, JudgedGlobalInitial, global_initial_judged, global_initial_is, global_initial_breaks}

-- ---- names

abbrev JudgedName : ℕ → State → Name → Verdict (List ℕ) → Type 0
JudgedName floor st x (Ok y) = (y ≡ x.text) × IsNew floor st x.text
JudgedName floor st x (Err f) = (f ≡ fault Redeclared x.span) × (IsNew floor st x.text → ⊥)

name_by : (floor : ℕ) (st : State) (x : Name) (o : Option Entry) → innermost x.text (drop floor st.names) ≡ o → JudgedName floor st x (if is_some o then Err (fault Redeclared x.span) else Ok x.text)
name_by floor st x None h = (refl, h)
name_by floor st x (Some d) h = (refl, λ k. cc)

name_judged : (floor : ℕ) (st : State) (x : Name) → JudgedName floor st x (new_name floor st x)
name_judged floor st x = name_by floor st x (innermost x.text (drop floor st.names)) refl

name_is : (floor : ℕ) (st : State) (x : Name) → IsNew floor st x.text → new_name floor st x ≡ Ok x.text
name_is floor st x h = rw h refl

taken_by : (floor : ℕ) (st : State) (x : Name) (v : Verdict (List ℕ)) → JudgedName floor st x v → (IsNew floor st x.text → ⊥) → Faulty v (fault Redeclared x.span)
taken_by floor st x (Ok y) d k = absurd (k d.1)
taken_by floor st x (Err f) d k = (f, refl, rw d.0 (omega arith))

-- ---- a declarator of a variable

module _ (defs : List (List ℕ)) (floor : ℕ) (base : Base) (d : Declared) (st : State) where
  abbrev Object : Verdict Ty → Type 0
  Object v = JudgedObject st.structs base (declarator_of d).stars (sizes_of d) (declarator_of d).span v

  type_judged : Object (type_of st base d)
  type_judged = object_judged st.structs base (declarator_of d).stars (sizes_of d) (declarator_of d).span

  abbrev JudgedBegun : Made Init → Type 0
  JudgedBegun (Ok r) = (u : Ty) × DeclaresObject st.structs base (declarator_of d).stars (sizes_of d) u × Begins defs (with_var st (declarator_of d).name.text u) u d.initialiser r.0 r.1
  JudgedBegun (Err f) = BreaksDeclared defs floor st base d f

  begun_by : (u : Ty) → Object (Ok u) → (v : Made Init) → JudgedInitial defs u (declarator_of d).span d.initialiser (with_var st (declarator_of d).name.text u) v → JudgedBegun v
  begun_by u o (Ok r) b = (u, o, b)
  begun_by u o (Err f) b = BreaksDeclared.initial u o b

  begun_judged : JudgedBegun (type_of st base d >>= begun defs st d)
  begun_judged =
      bind_judged Object JudgedBegun (begun defs st d) (type_of st base d) type_judged
      (λ u o. begun_by u o (begun defs st d u) (initial_judged defs u (declarator_of d).span d.initialiser (with_var st (declarator_of d).name.text u)))
      (λ f o. BreaksDeclared.declarator (BreaksVar.type o))

  abbrev pub JudgedVar : Made ps.Stmt → Type 0
  JudgedVar (Ok r) = (u : Ty) × (v : Init) × DeclaresVar floor st base d u × Begins defs (with_var st (declarator_of d).name.text u) u d.initialiser v r.1 × (r.0 ≡ to.Decl (next_var st) v)
  JudgedVar (Err f) = BreaksDeclared defs floor st base d f

  taken_breaks : (f : TypeFault) → JudgedName floor st (declarator_of d).name (Err f) → BreaksDeclared defs floor st base d f
  taken_breaks f h = subst (λ (f : TypeFault). BreaksDeclared defs floor st base d f) (sym h.0) (BreaksDeclared.declarator (BreaksVar.taken h.1))

  var_judged : JudgedVar (var_of defs floor base d st)
  var_judged =
      both_judged (JudgedName floor st (declarator_of d).name) JudgedBegun JudgedVar _ (new_name floor st (declarator_of d).name) (type_of st base d >>= begun defs st d)
      (name_judged floor st (declarator_of d).name) begun_judged
      (λ x r h b. (b.0, r.0, DeclaresVar.variable h.1 b.1, b.2, refl)) (λ f h. taken_breaks f h) (λ f b. b)

  begun_is : (u : Ty) (v : Init) (st2 : State) → DeclaresObject st.structs base (declarator_of d).stars (sizes_of d) u → Begins defs (with_var st (declarator_of d).name.text u) u d.initialiser v st2 → (type_of st base d >>= begun defs st d) ≡ Ok (v, st2)
  begun_is u v st2 o b = bind_is _ _ u _ (object_is st.structs base (declarator_of d).stars (sizes_of d) (declarator_of d).span u o) (initial_is defs u (declarator_of d).span d.initialiser (with_var st (declarator_of d).name.text u) v st2 b)

  var_is : (u : Ty) (v : Init) (st2 : State) → DeclaresVar floor st base d u → Begins defs (with_var st (declarator_of d).name.text u) u d.initialiser v st2 → var_of defs floor base d st ≡ Ok (to.Decl (next_var st) v, st2)
  var_is u v st2 (DeclaresVar.variable h o) b = both_are _ _ _ (declarator_of d).name.text (v, st2) _ (name_is floor st (declarator_of d).name h) (begun_is u v st2 o b) refl

  begun_faulty : (g : TypeFault) → Faulty (type_of st base d >>= begun defs st d) g → Faulty (var_of defs floor base d st) g
  begun_faulty g h = both_right _ _ _ g h

  var_breaks : (g : TypeFault) → BreaksDeclared defs floor st base d g → Faulty (var_of defs floor base d st) g
  var_breaks g (BreaksDeclared.declarator (BreaksVar.type o)) = begun_faulty g (bind_faulty _ _ g (object_breaks st.structs base (declarator_of d).stars (sizes_of d) (declarator_of d).span g o))
  var_breaks _ (BreaksDeclared.declarator (BreaksVar.taken k)) = both_left _ _ _ (fault Redeclared ((declarator_of d).name).span) (taken_by floor st (declarator_of d).name (new_name floor st (declarator_of d).name) (name_judged floor st (declarator_of d).name) k)
  var_breaks g (BreaksDeclared.initial u o b) =
      begun_faulty g (bind_behind _ _ u g (object_is st.structs base (declarator_of d).stars (sizes_of d) (declarator_of d).span u o) (initial_breaks defs u (declarator_of d).span d.initialiser (with_var st (declarator_of d).name.text u) g b))

-- ---- the declarators of a declaration

abbrev pub JudgedVars : List (List ℕ) → ℕ → Base → List Declared → State → Made (List ps.Stmt) → Type 0
JudgedVars defs floor base ds st (Ok r) = BecomeVars defs floor base st ds r.0 r.1
JudgedVars defs floor base ds st (Err f) = BreaksVars defs floor base st ds f

module _ (defs : List (List ℕ)) (floor : ℕ) (base : Base) where
  pub vars_judged : (ds : List Declared) (st : State) → JudgedVars defs floor base ds st (vars_of defs floor base ds st)
  vars_judged [] st = BecomeVars.none
  vars_judged (d ∷ rest) st =
      bind_judged (JudgedVar defs floor base d st) (JudgedVars defs floor base (d ∷ rest) st) _ (var_of defs floor base d st) (var_judged defs floor base d st)
      (λ r e. bind_judged (JudgedVars defs floor base rest r.1) (JudgedVars defs floor base (d ∷ rest) st) _ (vars_of defs floor base rest r.1) (vars_judged rest r.1)
      (λ q b. subst (λ (s : ps.Stmt). BecomeVars defs floor base st (d ∷ rest) (s ∷ q.0) q.1) (sym e.4) (BecomeVars.more e.0 e.1 e.2 e.3 b)) (λ f b. BreaksVars.behind e.0 e.1 e.2 e.3 b))
      (λ f e. BreaksVars.this e)

  pub vars_are : (ds : List Declared) (st : State) (bs : List ps.Stmt) (st2 : State) → BecomeVars defs floor base st ds bs st2 → vars_of defs floor base ds st ≡ Ok (bs, st2)
  vars_are _ st _ _ BecomeVars.none = refl
  vars_are _ st _ st3 (BecomeVars.more {st2 = st2} {d = d} {rest = rest} {bs = bs} u v dv b e) =
      bind_is _ _ (to.Decl (next_var st) v, st2) _ (var_is defs floor base d st u v st2 dv b) (bind_is _ _ (bs, st3) _ (vars_are rest st2 bs st3 e) refl)

  pub vars_break : (ds : List Declared) (st : State) (g : TypeFault) → BreaksVars defs floor base st ds g → Faulty (vars_of defs floor base ds st) g
  vars_break _ st g (BreaksVars.this {d = d} b) = bind_faulty _ _ g (var_breaks defs floor base d st g b)
  vars_break _ st g (BreaksVars.behind {st2 = st2} {d = d} {rest = rest} u v dv b e) =
      bind_behind _ _ (to.Decl (next_var st) v, st2) g (var_is defs floor base d st u v st2 dv b) (bind_faulty _ _ g (vars_break rest st2 g e))

-- ---- globals

module _ (base : Base) (d : Declared) (st : State) where
  abbrev JudgedGlobalBegun : Verdict (Ty × Init) → Type 0
  JudgedGlobalBegun (Ok r) = DeclaresObject st.structs base (declarator_of d).stars (sizes_of d) r.0 × BeginsGlobal r.0 d.initialiser r.1
  JudgedGlobalBegun (Err f) = BreaksGlobal st base d f

  abbrev global_begun : Verdict (Ty × Init)
  global_begun = type_of st base d >>= λ u. global_initial u (declarator_of d).span d.initialiser >>= λ v. Ok (u, v)

  global_begun_judged : JudgedGlobalBegun global_begun
  global_begun_judged =
      bind_judged (Object [] 0 base d st) JudgedGlobalBegun _ (type_of st base d) (type_judged [] 0 base d st)
      (λ u o. bind_judged (JudgedGlobalInitial u (declarator_of d).span d.initialiser) JudgedGlobalBegun _ (global_initial u (declarator_of d).span d.initialiser) (global_initial_judged u (declarator_of d).span d.initialiser) (λ v b. (o, b)) (λ f b. BreaksGlobal.initial u o b))
      (λ f o. BreaksGlobal.declarator (BreaksVar.type o))

  abbrev JudgedGlobal : Verdict State → Type 0
  JudgedGlobal (Ok s) = (u : Ty) × (v : Init) × DeclaresVar 0 st base d u × BeginsGlobal u d.initialiser v × (s ≡ with_global st (declarator_of d).name.text u v)
  JudgedGlobal (Err f) = BreaksGlobal st base d f

  global_judged : JudgedGlobal (global_of base d st)
  global_judged =
      both_judged (JudgedName 0 st (declarator_of d).name) JudgedGlobalBegun JudgedGlobal _ (new_name 0 st (declarator_of d).name) global_begun (name_judged 0 st (declarator_of d).name) global_begun_judged
      (λ x r h b. (r.0, r.1, DeclaresVar.variable h.1 b.0, b.1, ap (λ x. with_global st x r.0 r.1) h.0))
      (λ f h. subst (λ (f : TypeFault). BreaksGlobal st base d f) (sym h.0) (BreaksGlobal.declarator (BreaksVar.taken h.1))) (λ f b. b)

  global_is : (u : Ty) (v : Init) → DeclaresVar 0 st base d u → BeginsGlobal u d.initialiser v → global_of base d st ≡ Ok (with_global st (declarator_of d).name.text u v)
  global_is u v (DeclaresVar.variable h o) b =
      both_are _ _ _ (declarator_of d).name.text (u, v) _ (name_is 0 st (declarator_of d).name h)
      (bind_is _ _ u _ (object_is st.structs base (declarator_of d).stars (sizes_of d) (declarator_of d).span u o) (bind_is _ _ v _ (global_initial_is u (declarator_of d).span d.initialiser v b) refl)) refl

  global_breaks : (g : TypeFault) → BreaksGlobal st base d g → Faulty (global_of base d st) g
  global_breaks g (BreaksGlobal.declarator (BreaksVar.type o)) = both_right _ _ _ g (bind_faulty _ _ g (object_breaks st.structs base (declarator_of d).stars (sizes_of d) (declarator_of d).span g o))
  global_breaks _ (BreaksGlobal.declarator (BreaksVar.taken k)) = both_left _ _ _ (fault Redeclared ((declarator_of d).name).span) (taken_by 0 st (declarator_of d).name (new_name 0 st (declarator_of d).name) (name_judged 0 st (declarator_of d).name) k)
  global_breaks g (BreaksGlobal.initial u o b) =
      both_right _ _ _ g (bind_behind _ _ u g (object_is st.structs base (declarator_of d).stars (sizes_of d) (declarator_of d).span u o) (bind_faulty _ _ g (global_initial_breaks u (declarator_of d).span d.initialiser g b)))

abbrev pub JudgedGlobals : Base → List Declared → State → Verdict State → Type 0
JudgedGlobals base ds st (Ok s) = BecomeGlobals base st ds s
JudgedGlobals base ds st (Err f) = BreaksGlobals base st ds f

module _ (base : Base) where
  globals_by : (d : Declared) (rest : List Declared) (st s : State) → JudgedGlobal base d st (Ok s) → (v : Verdict State) → JudgedGlobals base rest s v → JudgedGlobals base (d ∷ rest) st v
  globals_by d rest st s e (Ok s2) b = BecomeGlobals.more e.0 e.1 e.2 e.3 (subst (λ (s : State). BecomeGlobals base s rest s2) e.4 b)
  globals_by d rest st s e (Err f) b = BreaksGlobals.behind e.0 e.1 e.2 e.3 (subst (λ (s : State). BreaksGlobals base s rest f) e.4 b)

  pub globals_judged : (ds : List Declared) (st : State) → JudgedGlobals base ds st (globals_of base ds st)
  globals_judged [] st = BecomeGlobals.none
  globals_judged (d ∷ rest) st =
      bind_judged (JudgedGlobal base d st) (JudgedGlobals base (d ∷ rest) st) (globals_of base rest) (global_of base d st) (global_judged base d st)
      (λ s e. globals_by d rest st s e (globals_of base rest s) (globals_judged rest s)) (λ f e. BreaksGlobals.this e)

  pub globals_are : (ds : List Declared) (st st2 : State) → BecomeGlobals base st ds st2 → globals_of base ds st ≡ Ok st2
  globals_are _ st _ BecomeGlobals.none = refl
  globals_are _ st st2 (BecomeGlobals.more {d = d} {rest = rest} u v dv b e) =
      bind_is _ _ (with_global st (declarator_of d).name.text u v) _ (global_is base d st u v dv b) (globals_are rest (with_global st (declarator_of d).name.text u v) st2 e)

  pub globals_break : (ds : List Declared) (st : State) (g : TypeFault) → BreaksGlobals base st ds g → Faulty (globals_of base ds st) g
  globals_break _ st g (BreaksGlobals.this {d = d} b) = bind_faulty _ _ g (global_breaks base d st g b)
  globals_break _ st g (BreaksGlobals.behind {d = d} {rest = rest} u v dv b e) =
      bind_behind _ _ (with_global st (declarator_of d).name.text u v) g (global_is base d st u v dv b) (globals_break rest (with_global st (declarator_of d).name.text u v) g e)
