-- Heads, globals and parts of files: what they add.
use Rattle.std.proofs.Common.{◌≡◌, ℕ, ℤ, Bool, true, false, List, [], ◌∷◌, map, Option, Some, None, refl, sym, ap, ◌∙◌, subst}
use Rattle.std.specs.Prelude.{neg_ℤ}
use Rattle.std.specs.Option.{option_map}
use Rattle.ax_prog.specs.declared.Span.{Span}
use Rattle.ax_prog.specs.declared.Ty.{Ty}
use Rattle.ax_prog.specs.declared.VarId.{VarId}
use Rattle.ax_prog.specs.declared.Init.{Init}
use Rattle.ax_prog.specs.declared.Init.TheVariants as init
use Rattle.ax_prog.specs.declared.Slot.{Slot}
use Rattle.ax_prog.specs.declared.Stmt as ps
use Rattle.ax_parse_grammar.specs.declared.tree.Name.{Name}
use Rattle.ax_parse_grammar.specs.declared.tree.Prefix.TheVariants as pre
use Rattle.ax_parse_grammar.specs.declared.tree.Expr.{Expr}
use Rattle.ax_parse_grammar.specs.declared.tree.Expr.TheVariants as form
use Rattle.ax_parse_grammar.specs.declared.tree.Base.{Base}
use Rattle.ax_parse_grammar.specs.declared.tree.Initialiser.{Initialiser}
use Rattle.ax_parse_grammar.specs.declared.tree.Initialiser.TheVariants as by
use Rattle.ax_parse_grammar.specs.declared.tree.Declared.{Declared}
use Rattle.ax_parse_grammar.specs.declared.tree.Param.{Param}
use Rattle.ax_parse_grammar.specs.declared.tree.Head.{Head}
use Rattle.ax_parse_grammar.specs.declared.tree.Stmt.{Stmt}
use Rattle.ax_parse_grammar.specs.declared.tree.Part.{Part}
use Rattle.ax_parse_grammar.specs.declared.tree.Part.TheVariants as part
use Rattle.ax_names_rules.specs.declared.Signature.{Signature}
use Rattle.ax_names_rules.specs.declared.State.{State}
use Rattle.ax_names_rules.specs.States.{next_var, with_var, depth, leaving}
use Rattle.ax_names_rules.specs.Statements.{BecomeAll}
use Rattle.ax_names_rules.specs.Declarations.{IsLiteral, BeginsGlobal, with_global, BecomeGlobals}
use Rattle.ax_names_rules.specs.Functions.{Signs, Introduces, IsHead, text_of, with_params, ids_of, fun_of, with_fun, DefinesFunction}
use Rattle.ax_names_rules.specs.Programs.{with_struct, BecomesPart, BecomeParts}
use Rattle.ax_print_holes.specs.Moved.{moved_span, moved_name, moved_base, moved_expr, moved_initialiser, moved_declared, moved_stmt, moved_param, moved_head, moved_part}
use Rattle.ax_print_holes.specs.Holes.{HoldsPart, Among, put_item, put_part, put_among_parts}
use Rattle.ax_print_holes.proofs.Layers.{moved-Unary}
use Rattle.ax_print_fills.proofs.Words.{zero_moved}
use Rattle.ax_print_fills.proofs.Types.{function_moved, struct_moved}
use Rattle.ax_print_fills.proofs.Grown.{Grown, grown_same, grown_then, grown_by, grown_var, grown_leaving, grown_head}
use Rattle.ax_print_fills.proofs.Added.{over, Moving, Putting, Adds, nothing_added, added_as, added_then}
use Rattle.ax_print_fills.proofs.Declared.{variable_moved, signed_moved, takes_moved}
use Rattle.ax_print_fills.proofs.Statements.{InItems, ItemsMoved, ItemsPut}
use Rattle.ax_print_fills.proofs.Bodies.{items_add}

-- ---- heads

module _ (f : ℕ → ℕ) where
  text_moved : (o : Option Name) → text_of (option_map (moved_name f) o) ≡ text_of o
  text_moved None = refl
  text_moved (Some x) = refl

  params_moved : (st : State) (s : List Slot) (qs : List Param) (us : List Ty) → with_params (over st s) (map (moved_param f) qs) us ≡ over (with_params st qs us) s
  params_moved st s [] us = refl
  params_moved st s (q ∷ rest) [] = refl
  params_moved st s (q ∷ rest) (u ∷ us) = ap (λ (x : List ℕ). with_params (with_var (over st s) x u) (map (moved_param f) rest) us) (text_moved q.name) ∙ params_moved (with_var st (text_of q.name) u) s rest us

  ids_moved : (st : State) (s : List Slot) (qs : List Param) (us : List Ty) → ids_of (over st s) (map (moved_param f) qs) us ≡ ids_of st qs us
  ids_moved st s [] us = refl
  ids_moved st s (q ∷ rest) [] = refl
  ids_moved st s (q ∷ rest) (u ∷ us) =
      ap (λ (ids : List VarId). next_var st ∷ ids) (ap (λ (x : List ℕ). ids_of (with_var (over st s) x u) (map (moved_param f) rest) us) (text_moved q.name) ∙ ids_moved (with_var st (text_of q.name) u) s rest us)

introduced_over : (st : State) (g : Signature) (st2 : State) (s : List Slot) → Introduces st g st2 → Introduces (over st s) g (over st2 s)
introduced_over st g _ s (Introduces.first h) = Introduces.first h
introduced_over st g _ s (Introduces.again d k h e i) = Introduces.again d k h e i

introduced_grown : (st : State) (g : Signature) (st2 : State) → Introduces st g st2 → Grown st st2
introduced_grown st g _ (Introduces.first h) = grown_head st g
introduced_grown st g _ (Introduces.again d k h e i) = grown_same st

introduced_slots : (st : State) (g : Signature) (st2 : State) → Introduces st g st2 → st2.slots ≡ st.slots
introduced_slots st g _ (Introduces.first h) = refl
introduced_slots st g _ (Introduces.again d k h e i) = refl

head_grown : (st : State) (defined : Bool) (h : Head) (g : Signature) (st2 : State) → IsHead st defined h g st2 → Grown st st2
head_grown st defined h g st2 (IsHead.head d i u) = introduced_grown st g st2 i

head_slots : (st : State) (defined : Bool) (h : Head) (g : Signature) (st2 : State) → IsHead st defined h g st2 → st2.slots ≡ st.slots
head_slots st defined h g st2 (IsHead.head d i u) = introduced_slots st g st2 i

signs_moved : (f : ℕ → ℕ) (st : State) (defined : Bool) (h : Head) (g : Signature) → Signs st.structs defined h g → Signs st.structs defined (moved_head f h) g
signs_moved f st defined h _ (Signs.head s d) = Signs.head s (function_moved f st.structs defined h s d)

head_moved : (f : ℕ → ℕ) (st : State) (s : List Slot) (defined : Bool) (h : Head) (g : Signature) (st2 : State) → IsHead st defined h g st2 → IsHead (over st s) defined (moved_head f h) g (over st2 s)
head_moved f st s defined h g st2 (IsHead.head d i u) = IsHead.head (signs_moved f st defined h g d) (introduced_over st g st2 s i) u

params_grown : (st : State) (qs : List Param) (us : List Ty) → Grown st (with_params st qs us)
params_grown st [] us = grown_same st
params_grown st (q ∷ rest) [] = grown_same st
params_grown st (q ∷ rest) (u ∷ us) = grown_then st (with_var st (text_of q.name) u) (with_params (with_var st (text_of q.name) u) rest us) (grown_var st (text_of q.name) u) (params_grown (with_var st (text_of q.name) u) rest us)

params_slots : (st : State) (qs : List Param) (us : List Ty) → (with_params st qs us).slots ≡ st.slots
params_slots st [] us = refl
params_slots st (q ∷ rest) [] = refl
params_slots st (q ∷ rest) (u ∷ us) = params_slots (with_var st (text_of q.name) u) rest us

-- ---- globals

module _ (f : ℕ → ℕ) where
  literal_moved : (a : Expr) (n : ℤ) → IsLiteral a n → IsLiteral (moved_expr f a) n
  literal_moved _ _ IsLiteral.plain = IsLiteral.plain
  literal_moved _ _ (IsLiteral.negative {at = at} at2 n) =
      subst (λ (a : Expr). IsLiteral a (neg_ℤ n)) (sym (moved-Unary f at pre.Neg (form.Number at2 n))) (IsLiteral.negative (moved_span f at2) n)

  begins_moved : (u : Ty) (i : Initialiser) (v : Init) → BeginsGlobal u i v → BeginsGlobal u (moved_initialiser f i) v
  begins_moved u _ _ BeginsGlobal.nothing = BeginsGlobal.nothing
  begins_moved u _ _ (BeginsGlobal.number {a = a} {n = n} h d) = BeginsGlobal.number h (literal_moved a n d)
  begins_moved u _ _ (BeginsGlobal.null {a = a} v h z) = BeginsGlobal.null v h (zero_moved f a ∙ z)
  begins_moved u _ _ (BeginsGlobal.list {at = at} {xs = xs} t) =
      subst (λ (l : List ℤ). BeginsGlobal u (moved_initialiser f (by.List at xs)) (init.List l)) (signed_moved f xs) (BeginsGlobal.list (takes_moved f xs u t))

  globals_moved : (base : Base) (st : State) (ds : List Declared) (st2 : State) (s : List Slot) → BecomeGlobals base st ds st2 → BecomeGlobals (moved_base f base) (over st s) (map (moved_declared f) ds) (over st2 s)
  globals_moved base st _ _ s BecomeGlobals.none = BecomeGlobals.none
  globals_moved base st _ st2 s (BecomeGlobals.more {d = d} {rest = rest} u v dv b e) =
      BecomeGlobals.more u v (variable_moved f 0 st s base d u dv) (begins_moved u d.initialiser v b) (globals_moved base (with_global st (d.declarator).name.text u v) rest st2 s e)

global_grown : (st : State) (x : List ℕ) (u : Ty) (v : Init) → Grown st (with_global st x u v)
global_grown st x u v = grown_var st x u

globals_grown : (base : Base) (st : State) (ds : List Declared) (st2 : State) → BecomeGlobals base st ds st2 → Grown st st2
globals_grown base st _ _ BecomeGlobals.none = grown_same st
globals_grown base st _ st2 (BecomeGlobals.more {d = d} {rest = rest} u v dv b e) =
    grown_then st (with_global st (d.declarator).name.text u v) st2 (global_grown st (d.declarator).name.text u v) (globals_grown base (with_global st (d.declarator).name.text u v) rest st2 e)

globals_slots : (base : Base) (st : State) (ds : List Declared) (st2 : State) → BecomeGlobals base st ds st2 → st2.slots ≡ st.slots
globals_slots base st _ _ BecomeGlobals.none = refl
globals_slots base st _ st2 (BecomeGlobals.more {d = d} {rest = rest} u v dv b e) = globals_slots base (with_global st (d.declarator).name.text u v) rest st2 e

-- ---- parts

abbrev pub InPart : Part → Expr → Type 0
InPart x old = HoldsPart old x

abbrev pub InParts : List Part → Expr → Type 0
InParts xs old = Among (HoldsPart old) xs

module _ (defs : List (List ℕ)) where
  -- a function, from its body
  module _ (st : State) (h : Head) (g : Signature) (st2 st3 : State) (body : List ps.Stmt) (d : IsHead st true h g st2) where
    abbrev inner : State
    inner = with_params st2 h.params g.params

    abbrev outer : State
    outer = with_fun (leaving (depth st2) st3) (fun_of g (ids_of st2 h.params g.params) body)

    function_by : (f : ℕ → ℕ) (items : List Stmt) (s t : List Slot) → BecomeAll defs g.result false (depth st2) (over inner s) items body (over st3 t) → DefinesFunction defs (over st s) (moved_head f h) items (over outer t)
    function_by f items s t b =
        subst (λ (ids : List VarId). DefinesFunction defs (over st s) (moved_head f h) items (with_fun (leaving (depth st2) (over st3 t)) (fun_of g ids body))) (ids_moved f st2 s h.params g.params)
        (DefinesFunction.function (head_moved f st s true h g st2 d) (subst (λ (z : State). BecomeAll defs g.result false (depth st2) z items body (over st3 t)) (sym (params_moved f st2 s h.params g.params)) b))

    abbrev FunctionMoved : List Stmt → Moving
    FunctionMoved items f s t = DefinesFunction defs (over st s) (moved_head f h) (map (moved_stmt f) items) (over outer t)

    abbrev FunctionPut : (items : List Stmt) → Putting (InItems items)
    FunctionPut items f old k new s t = DefinesFunction defs (over st s) (moved_head f h) (put_item f new k) (over outer t)

    body_adds : (items : List Stmt) → BecomeAll defs g.result false (depth st2) inner items body st3 → Adds st outer (FunctionMoved items) (InItems items) (FunctionPut items)
    body_adds items b =
        added_as inner st3 st outer (ItemsMoved defs g.result false (depth st2) inner items body st3) (FunctionMoved items) (InItems items) (InItems items) (ItemsPut defs g.result false (depth st2) inner items body st3) (FunctionPut items)
        (items_add defs g.result false (depth st2) inner items body st3 b) (sym (params_slots st2 h.params g.params ∙ head_slots st true h g st2 d)) refl
        (grown_then st st2 inner (head_grown st true h g st2 d) (params_grown st2 h.params g.params)) (grown_leaving (depth st2) st3)
        (λ f s t e m. function_by f (map (moved_stmt f) items) s t m) (λ old k. k) (λ f old k new s t e m. function_by f (put_item f new k) s t m)

  abbrev pub PartMoved : State → Part → State → Moving
  PartMoved st x st2 f s t = BecomesPart defs (over st s) (moved_part f x) (over st2 t)

  abbrev pub PartPut : State → (x : Part) → State → Putting (InPart x)
  PartPut st x st2 f old h new s t = BecomesPart defs (over st s) (put_part f new h) (over st2 t)

  abbrev pub AddsPart : State → Part → State → Type 0
  AddsPart st x st2 = Adds st st2 (PartMoved st x st2) (InPart x) (PartPut st x st2)

  part_alone : (st : State) (x : Part) (st2 : State) → st2.slots ≡ st.slots → Grown st st2 → ((f : ℕ → ℕ) (s : List Slot) → BecomesPart defs (over st s) (moved_part f x) (over st2 s)) → AddsPart st x st2
  part_alone st x st2 e g h =
      added_as st st st st2 (λ f s t. s ≡ t) (PartMoved st x st2) (InPart x) (InPart x) (PartPut st x st2) (PartPut st x st2) (nothing_added st (λ f s t. s ≡ t) (InPart x) (PartPut st x st2) (λ f s e. refl)) refl e (grown_same st) g
      (λ f s t l m. subst (λ (t : List Slot). PartMoved st x st2 f s t) m (h f s)) (λ old h. h) (λ f old h new s t l m. m)

  function_adds : (st : State) (at : Span) (h : Head) (items : List Stmt) (st2 : State) → DefinesFunction defs st h items st2 → AddsPart st (part.Function at h items) st2
  function_adds st at h items _ (DefinesFunction.function {g = g} {st2 = st2} {st3 = st3} {body = body} d b) =
      let x : Part = part.Function at h items in
      let st4 : State = outer st h g st2 st3 body d in
      added_as st st4 st st4 (FunctionMoved st h g st2 st3 body d items) (PartMoved st x st4) (InItems items) (InPart x) (FunctionPut st h g st2 st3 body d items) (PartPut st x st4) (body_adds st h g st2 st3 body d items b) refl refl (grown_same st) (grown_same st4)
      (λ f s t e m. BecomesPart.function m) (λ old k. HoldsPart.function k) (λ f old k new s t e m. BecomesPart.function m)

  part_adds : (st : State) (x : Part) (st2 : State) → BecomesPart defs st x st2 → AddsPart st x st2
  part_adds st _ _ (BecomesPart.struct {at = at} {x = x} {ms = ms} s d) =
      part_alone st (part.Struct at x ms) (with_struct st s) refl (grown_by st (with_struct st s) refl (λ h. h)) (λ f l. BecomesPart.struct s (struct_moved f st.structs x ms s d))
  part_adds st _ st2 (BecomesPart.decl {d = d} b) = part_alone st (part.Decl d) st2 (globals_slots d.base st d.items st2 b) (globals_grown d.base st d.items st2 b) (λ f s. BecomesPart.decl (globals_moved f d.base st d.items st2 s b))
  part_adds st _ st2 (BecomesPart.function {at = at} {h = h} {items = items} d) = function_adds st at h items st2 d
  part_adds st _ st2 (BecomesPart.prototype {at = at} {h = h} {g = g} j d e) =
      part_alone st (part.Prototype at h) st2 (head_slots st false h g st2 d) (head_grown st false h g st2 d) (λ f s. BecomesPart.prototype j (head_moved f st s false h g st2 d) e)

  abbrev pub PartsMoved : State → List Part → State → Moving
  PartsMoved st xs st2 f s t = BecomeParts defs (over st s) (map (moved_part f) xs) (over st2 t)

  abbrev pub PartsPut : State → (xs : List Part) → State → Putting (InParts xs)
  PartsPut st xs st2 f old h new s t = BecomeParts defs (over st s) (put_among_parts f new h) (over st2 t)

  pub parts_add : (st : State) (xs : List Part) (st2 : State) → BecomeParts defs st xs st2 → Adds st st2 (PartsMoved st xs st2) (InParts xs) (PartsPut st xs st2)
  parts_add st _ _ BecomeParts.none = nothing_added st (PartsMoved st [] st) (InParts []) (PartsPut st [] st) (λ f s e. BecomeParts.none)
  parts_add st _ st3 (BecomeParts.more {st2 = st2} {p = x} {rest = rest} d e) =
      added_then st st2 st3 (PartMoved st x st2) (PartsMoved st2 rest st3) (PartsMoved st (x ∷ rest) st3) (InPart x) (InParts rest) (InParts (x ∷ rest)) (PartPut st x st2) (PartsPut st2 rest st3) (PartsPut st (x ∷ rest) st3)
      (λ f s t w l m n. BecomeParts.more m n) (λ old h. Among.this h) (λ f old h new s t w l m n. BecomeParts.more m n) (λ old h. Among.later h) (λ f old h new s t w l m n. BecomeParts.more m n) (part_adds st x st2 d) (parts_add st2 rest st3 e)
