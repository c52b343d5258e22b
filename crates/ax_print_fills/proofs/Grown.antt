-- What stands behind a part has the variables of what stands before it, and names that agree with them.
use Rattle.std.proofs.Common.{◌≡◌, ℕ, zero, suc, List, [], ◌∷◌, ◌++◌, length, Some, refl, sym, ap, ◌∙◌}
use Rattle.std.specs.Prelude.{slice_get}
use Rattle.std.proofs.lemmas.List.{append_assoc, append-nil}
use Rattle.std.proofs.lemmas.List.Elements.{All-nil, All-cons, All-append, All-take, All-weaker}
use Rattle.ax_prog.specs.declared.Ty.{Ty}
use Rattle.ax_prog.specs.declared.Var.{Var}
use Rattle.ax_names_types.specs.declared.Entry.{Entry}
use Rattle.ax_names_types.specs.declared.Entity.{Entity}
use Rattle.ax_names_types.specs.declared.Entity.TheVariants as entity
use Rattle.ax_names_rules.specs.declared.Signature.{Signature}
use Rattle.ax_names_rules.specs.declared.State.{State}
use Rattle.ax_names_rules.specs.States.{entry_of, next_var, with_var, with_head, leaving}
use Rattle.ax_print_fills.specs.Replaced.{AgreesWith, AgreeWith}

-- the names of a state agree with its variables
abbrev pub Named : State → Type 0
Named st = AgreeWith st.vars st.names

abbrev pub Grown : State → State → Type 0
Grown st st2 = (more : List Var) × (st2.vars ≡ st.vars ++ more) × (Named st → Named st2)

-- ---- variables that stay

got_before : (xs ys : List Var) (i : ℕ) (v : Var) → slice_get xs i ≡ Some v → slice_get (xs ++ ys) i ≡ Some v
got_before [] ys i v h = cc
got_before (x ∷ xs) ys zero v h = h
got_before (x ∷ xs) ys (suc i) v h = got_before xs ys i v h

got_behind : (xs : List Var) (v : Var) → slice_get (xs ++ v ∷ []) (length xs) ≡ Some v
got_behind [] v = refl
got_behind (x ∷ xs) v = got_behind xs v

agrees_before : (vars more : List Var) (x : List ℕ) (e : Entity) → AgreesWith vars x e → AgreesWith (vars ++ more) x e
agrees_before vars more x (entity.Variable id u) h = got_before vars more id.0 (record { name = x; ty = u }) h
agrees_before vars more x (entity.Function k) h = h

pub agree_before : (vars more : List Var) (names : List Entry) → AgreeWith vars names → AgreeWith (vars ++ more) names
agree_before vars more names h = All-weaker (λ (e : Entry). AgreesWith vars e.name e.entity) (λ (e : Entry). AgreesWith (vars ++ more) e.name e.entity) (λ e h. agrees_before vars more e.name e.entity h) names h

-- ---- steps

pub grown_same : (st : State) → Grown st st
grown_same st = ([], sym (append-nil st.vars), λ h. h)

pub grown_then : (a b c : State) → Grown a b → Grown b c → Grown a c
grown_then a b c g h = (g.0 ++ h.0, h.1 ∙ (ap (λ v. v ++ h.0) g.1 ∙ append_assoc a.vars g.0 h.0), λ n. h.2 (g.2 n))

pub grown_by : (st st2 : State) → st2.vars ≡ st.vars → (Named st → Named st2) → Grown st st2
grown_by st st2 e h = ([], e ∙ sym (append-nil st.vars), h)

pub grown_var : (st : State) (x : List ℕ) (u : Ty) → Grown st (with_var st x u)
grown_var st x u =
    let v : Var = record { name = x; ty = u } in
    let new : Entry = entry_of x (entity.Variable (next_var st) u) in
    (v ∷ [], refl, λ h. All-append (λ (e : Entry). AgreesWith (st.vars ++ v ∷ []) e.name e.entity) st.names (new ∷ []) (agree_before st.vars (v ∷ []) st.names h) (All-cons (λ (e : Entry). AgreesWith (st.vars ++ v ∷ []) e.name e.entity) new [] (got_behind st.vars v) (All-nil (λ (e : Entry). AgreesWith (st.vars ++ v ∷ []) e.name e.entity))))

pub grown_leaving : (n : ℕ) (st : State) → Grown st (leaving n st)
grown_leaving n st = grown_by st (leaving n st) refl (λ h. All-take (λ (e : Entry). AgreesWith st.vars e.name e.entity) n st.names h)

pub grown_head : (st : State) (g : Signature) → Grown st (with_head st g)
grown_head st g =
    let new : Entry = entry_of g.name (entity.Function (length st.heads)) in
    grown_by st (with_head st g) refl (λ h. All-append (λ (e : Entry). AgreesWith st.vars e.name e.entity) st.names (new ∷ []) h (All-cons (λ (e : Entry). AgreesWith st.vars e.name e.entity) new [] tt (All-nil (λ (e : Entry). AgreesWith st.vars e.name e.entity))))
