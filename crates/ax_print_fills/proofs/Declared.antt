-- Declarations: what they add.
use Rattle.std.proofs.Common.{◌≡◌, ℕ, ℤ, List, [], ◌∷◌, length, map, refl, sym, ap, ◌∙◌, subst}
use Rattle.std.specs.Prelude.{◌≤◌}
use Rattle.std.proofs.lemmas.List.{length-map}
use Rattle.ax_prog.specs.declared.Span.{Span}
use Rattle.ax_prog.specs.declared.Ty.{Ty}
use Rattle.ax_prog.specs.declared.Init.{Init}
use Rattle.ax_prog.specs.declared.Init.TheVariants as init
use Rattle.ax_prog.specs.declared.Slot.{Slot}
use Rattle.ax_prog.specs.declared.Stmt as ps
use Rattle.ax_prog.specs.declared.Stmt.TheVariants as to
use Rattle.ax_parse_grammar.specs.declared.tree.Expr.{Expr}
use Rattle.ax_parse_grammar.specs.declared.tree.Base.{Base}
use Rattle.ax_parse_grammar.specs.declared.tree.Size.{Size}
use Rattle.ax_parse_grammar.specs.declared.tree.Signed.{Signed}
use Rattle.ax_parse_grammar.specs.declared.tree.Declarator.{Declarator}
use Rattle.ax_parse_grammar.specs.declared.tree.Initialiser.{Initialiser}
use Rattle.ax_parse_grammar.specs.declared.tree.Initialiser.TheVariants as by
use Rattle.ax_parse_grammar.specs.declared.tree.Declared.{Declared}
use Rattle.ax_names_declared.specs.Denotations.{filled}
use Rattle.ax_names_declared.specs.Breaks.{DeclaresObject}
use Rattle.ax_names_rules.specs.declared.State.{State}
use Rattle.ax_names_rules.specs.States.{next_var, with_var, IsNew}
use Rattle.ax_names_rules.specs.Declarations.{signed_value, sizes_of, DeclaresVar, TakesList, Begins, BecomeVars}
use Rattle.ax_print_holes.specs.Moved.{moved_base, moved_size, moved_signed, moved_initialiser, moved_declarator, moved_declared}
use Rattle.ax_print_holes.specs.Holes.{HoldsDeclared, Among, put_declared, put_among_declared}
use Rattle.ax_print_fills.proofs.Types.{object_moved, filled_moved}
use Rattle.ax_print_fills.proofs.Grown.{grown_same, grown_var}
use Rattle.ax_print_fills.proofs.Added.{over, Moving, Putting, Adds, nothing_added, added_as, added_then}
use Rattle.ax_print_fills.proofs.Values.{InValue, GivenMoved, GivenPut, given_adds}

-- ---- the variable

module _ (f : ℕ → ℕ) where
  sizes_moved : (d : Declarator) (i : Initialiser) (at : Span) → sizes_of (moved_declared f (record { span = at; declarator = d; initialiser = i })) ≡ map (moved_size f) (sizes_of (record { span = at; declarator = d; initialiser = i }))
  sizes_moved d by.Nothing at = refl
  sizes_moved d (by.Value a) at = refl
  sizes_moved d (by.List at2 xs) at = ap (λ n. filled n (map (moved_size f) d.sizes)) (length-map xs (moved_signed f)) ∙ filled_moved f (length xs) d.sizes

  pub signed_moved : (xs : List Signed) → map signed_value (map (moved_signed f) xs) ≡ map signed_value xs
  signed_moved [] = refl
  signed_moved (x ∷ xs) = ap (λ l. signed_value x ∷ l) (signed_moved xs)

  pub takes_moved : (xs : List Signed) (u : Ty) → TakesList xs u → TakesList (map (moved_signed f) xs) u
  takes_moved xs _ (TakesList.array {n = n} h) = TakesList.array (subst (λ m. m ≤ n) (sym (length-map xs (moved_signed f))) h)

  -- a declarator that is another's, moved, declares the same variable
  pub variable_by : (floor : ℕ) (st : State) (s : List Slot) (base : Base) (d e : Declared) (u : Ty) → e.declarator ≡ moved_declarator f d.declarator → sizes_of e ≡ map (moved_size f) (sizes_of d) → DeclaresVar floor st base d u → DeclaresVar floor (over st s) (moved_base f base) e u
  variable_by floor st s base d e u h k (DeclaresVar.variable n o) =
      DeclaresVar.variable (subst (λ (x : List ℕ). IsNew floor (over st s) x) (sym (ap (λ (q : Declarator). q.name.text) h)) n)
      (subst (λ (z : List Size). DeclaresObject st.structs (moved_base f base) (e.declarator).stars z u) (sym k)
      (subst (λ (n : ℕ). DeclaresObject st.structs (moved_base f base) n (map (moved_size f) (sizes_of d)) u) (sym (ap (λ (q : Declarator). q.stars) h)) (object_moved f st.structs base (d.declarator).stars (sizes_of d) u o)))

  pub variable_moved : (floor : ℕ) (st : State) (s : List Slot) (base : Base) (d : Declared) (u : Ty) → DeclaresVar floor st base d u → DeclaresVar floor (over st s) (moved_base f base) (moved_declared f d) u
  variable_moved floor st s base d u v = variable_by floor st s base d (moved_declared f d) u refl (sizes_moved d.declarator d.initialiser d.span) v

-- ---- what it begins with

abbrev pub InDeclared : Declared → Expr → Type 0
InDeclared d old = HoldsDeclared old d

abbrev pub InVars : List Declared → Expr → Type 0
InVars ds old = Among (HoldsDeclared old) ds

module _ (defs : List (List ℕ)) where
  abbrev InitialMoved : State → Ty → Declared → Init → State → Moving
  InitialMoved st1 u d v st2 f s t = Begins defs (over st1 s) u (moved_initialiser f d.initialiser) v (over st2 t)

  abbrev InitialPut : State → Ty → (d : Declared) → Init → State → Putting (InDeclared d)
  InitialPut st1 u d v st2 f old h new s t = Begins defs (over st1 s) u (put_declared f new h).initialiser v (over st2 t)

  module _ (st : State) (u : Ty) (at : Span) (d : Declarator) where
    abbrev by_it : Initialiser → Declared
    by_it i = record { span = at; declarator = d; initialiser = i }

    initial_adds : (i : Initialiser) (v : Init) (st2 : State) → Begins defs st u i v st2 → Adds st st2 (InitialMoved st u (by_it i) v st2) (InDeclared (by_it i)) (InitialPut st u (by_it i) v st2)
    initial_adds _ _ _ Begins.nothing = nothing_added st (InitialMoved st u (by_it by.Nothing) init.Nothing st) (InDeclared (by_it by.Nothing)) (InitialPut st u (by_it by.Nothing) init.Nothing st) (λ f s e. Begins.nothing)
    initial_adds _ _ st2 (Begins.single {a = a} {v = v} g) =
        added_as st st2 st st2 (GivenMoved defs st u a v st2) (InitialMoved st u (by_it (by.Value a)) (init.Value v) st2) (InValue a) (InDeclared (by_it (by.Value a))) (GivenPut defs st u a v st2) (InitialPut st u (by_it (by.Value a)) (init.Value v) st2)
        (given_adds defs st u a v st2 g) refl refl (grown_same st) (grown_same st2) (λ f s t e m. Begins.single m) (λ old h. HoldsDeclared.value h) (λ f old h new s t e m. Begins.single m)
    initial_adds _ _ _ (Begins.list {at = at2} {xs = xs} t) =
        nothing_added st (InitialMoved st u (by_it (by.List at2 xs)) (init.List (map signed_value xs)) st) (InDeclared (by_it (by.List at2 xs))) (InitialPut st u (by_it (by.List at2 xs)) (init.List (map signed_value xs)) st)
        (λ f s e. subst (λ (l : List ℤ). Begins defs (over st s) u (moved_initialiser f (by.List at2 xs)) (init.List l) (over st s)) (signed_moved f xs) (Begins.list (takes_moved f xs u t)))

  -- the same behind the declarator, which declares a variable
  begun_adds : (st : State) (u : Ty) (d : Declared) (v : Init) (st2 : State) → Begins defs (with_var st (d.declarator).name.text u) u d.initialiser v st2 → Adds st st2 (InitialMoved (with_var st (d.declarator).name.text u) u d v st2) (InDeclared d) (InitialPut (with_var st (d.declarator).name.text u) u d v st2)
  begun_adds st u d v st2 b =
      let st1 : State = with_var st (d.declarator).name.text u in
      added_as st1 st2 st st2 (InitialMoved st1 u d v st2) (InitialMoved st1 u d v st2) (InDeclared d) (InDeclared d) (InitialPut st1 u d v st2) (InitialPut st1 u d v st2)
      (initial_adds st1 u d.span d.declarator d.initialiser v st2 b) refl refl (grown_var st (d.declarator).name.text u) (grown_same st2) (λ f s t l m. m) (λ old h. h) (λ f old h new s t l m. m)

  -- ---- the declarators of a declaration

  module _ (floor : ℕ) (base : Base) where
    abbrev pub VarsMoved : State → List Declared → List ps.Stmt → State → Moving
    VarsMoved st ds bs st2 f s t = BecomeVars defs floor (moved_base f base) (over st s) (map (moved_declared f) ds) bs (over st2 t)

    abbrev pub VarsPut : State → (ds : List Declared) → List ps.Stmt → State → Putting (InVars ds)
    VarsPut st ds bs st2 f old h new s t = BecomeVars defs floor (moved_base f base) (over st s) (put_among_declared f new h) bs (over st2 t)

    put_first : (f : ℕ → ℕ) (old new : Expr) (st st2 st3 : State) (d : Declared) (rest : List Declared) (bs : List ps.Stmt) (u : Ty) (v : Init) (h : HoldsDeclared old d) (s t w : List Slot) → DeclaresVar floor st base d u → InitialPut (with_var st (d.declarator).name.text u) u d v st2 f old h new s t → VarsMoved st2 rest bs st3 f t w → BecomeVars defs floor (moved_base f base) (over st s) (put_declared f new h ∷ map (moved_declared f) rest) (to.Decl (next_var st) v ∷ bs) (over st3 w)
    put_first f old new st st2 st3 _ rest bs u v (HoldsDeclared.value {at = at} {d = d} {a = a} h) s t w dv b e =
        BecomeVars.more u v (variable_by f floor st s base (record { span = at; declarator = d; initialiser = by.Value a }) (put_declared f new (HoldsDeclared.value {at = at} {d = d} h)) u refl refl dv) b e

    pub vars_add : (st : State) (ds : List Declared) (bs : List ps.Stmt) (st2 : State) → BecomeVars defs floor base st ds bs st2 → Adds st st2 (VarsMoved st ds bs st2) (InVars ds) (VarsPut st ds bs st2)
    vars_add st _ _ _ BecomeVars.none = nothing_added st (VarsMoved st [] [] st) (InVars []) (VarsPut st [] [] st) (λ f s e. BecomeVars.none)
    vars_add st _ _ st3 (BecomeVars.more {st2 = st2} {d = d} {rest = rest} {bs = bs} u v dv b e) =
        let st1 : State = with_var st (d.declarator).name.text u in
        let made : ps.Stmt = to.Decl (next_var st) v in
        added_then st st2 st3 (InitialMoved st1 u d v st2) (VarsMoved st2 rest bs st3) (VarsMoved st (d ∷ rest) (made ∷ bs) st3) (InDeclared d) (InVars rest) (InVars (d ∷ rest)) (InitialPut st1 u d v st2) (VarsPut st2 rest bs st3) (VarsPut st (d ∷ rest) (made ∷ bs) st3)
        (λ f s t w l m n. BecomeVars.more u v (variable_moved f floor st s base d u dv) m n) (λ old h. Among.this h) (λ f old h new s t w l m n. put_first f old new st st2 st3 d rest bs u v h s t w dv m n)
        (λ old h. Among.later h) (λ f old h new s t w l m n. BecomeVars.more u v (variable_moved f floor st s base d u dv) m n) (begun_adds st u d v st2 b) (vars_add st2 rest bs st3 e)
