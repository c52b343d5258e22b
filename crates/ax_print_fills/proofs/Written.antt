-- A tree that is written out is that number, in each scope that has its variables.
use Rattle.std.proofs.Common.{◌≡◌, ℕ, Bool, true, false, List, [], ◌∷◌, ◌++◌, Option, Some, None, refl, sym, ap, ◌∙◌, subst, if◌then◌else◌}
use Rattle.std.specs.Prelude.{All, Contains, slice_get, is_some}
use Rattle.std.specs.Cmp.Lexicographic.{bytes_decides}
use Rattle.std.proofs.lemmas.Option.{none-some, same_Some}
use Rattle.std.proofs.lemmas.List.Elements.{All-nil, All-cons, All-weaker, All-drop, All-contains, Contains-append_left, Contains-push}
use Rattle.ax_prog.specs.declared.Span.{Span}
use Rattle.ax_prog.specs.declared.Ty.{Ty, Ptr', Array'}
use Rattle.ax_prog.specs.declared.Ty.TheVariants as ty
use Rattle.ax_prog.specs.declared.VarId.{VarId}
use Rattle.ax_prog.specs.declared.Var.{Var}
use Rattle.ax_prog.specs.declared.Expr as ex
use Rattle.ax_prog.specs.declared.Expr.TheVariants as e
use Rattle.ax_prog.specs.declared.Atom.{Atom}
use Rattle.ax_prog.specs.declared.Atom.TheVariants as atom
use Rattle.ax_prog.specs.declared.Lval.TheVariants as lval
use Rattle.ax_parse_grammar.specs.declared.tree.Expr.{Expr}
use Rattle.ax_parse_grammar.specs.declared.tree.Expr.TheVariants as form
use Rattle.ax_names_types.specs.declared.Entry.{Entry}
use Rattle.ax_names_types.specs.declared.Entity.{Entity}
use Rattle.ax_names_types.specs.declared.Entity.TheVariants as entity
use Rattle.ax_names_types.specs.declared.Typed.TheVariants as t
use Rattle.ax_names_types.specs.Scopes.{Env, same_text, or_else, innermost}
use Rattle.ax_names_types.specs.Types.{un_of}
use Rattle.ax_names_types.specs.Meaning.{Means}
use Rattle.ax_names_rules.specs.States.{int_var, unless_hidden, visible}
use Rattle.ax_print_holes.specs.Moved.{moved_expr}
use Rattle.ax_print_fills.specs.Replaced.{moved_atoms, AgreesWith, AgreeWith, IsNumberIn}
use Rattle.ax_print_fills.specs.Written.{IsWritten}
use Rattle.ax_print_fills.proofs.Meanings.{moved_typed, is_moved, means_moved}

-- ---- names

-- a name leads to the variable, which is a number
abbrev Leads : List Entry → VarId → Type 0
Leads names id = (d : Entry) × (innermost d.name names ≡ Some d) × (d.entity ≡ entity.Variable id ty.Int)

led_behind : (e : Entry) (es : List Entry) (id : VarId) → Leads es id → Leads (e ∷ es) id
led_behind e es id h = (h.0, ap (λ (o : Option Entry). or_else o (if same_text e.name (h.0).name then Some e else None)) h.1, h.2)

int_variable : (id : VarId) (u : Ty) (v : VarId) → int_var (entity.Variable id u) ≡ Some v → entity.Variable id u ≡ entity.Variable v ty.Int
int_variable id ty.Int v h = ap (λ (i : VarId). entity.Variable i ty.Int) (same_Some id v h)
int_variable id (Ptr' s row) v h = absurd (none-some v h)
int_variable id (Array' s row n) v h = absurd (none-some v h)
int_variable id (ty.Struct k) v h = absurd (none-some v h)

int_entity : (w : Entity) (v : VarId) → int_var w ≡ Some v → w ≡ entity.Variable v ty.Int
int_entity (entity.Variable id u) v h = int_variable id u v h
int_entity (entity.Function k) v h = absurd (none-some v h)

found_here : (e : Entry) (es : List Entry) → innermost e.name es ≡ None → innermost e.name (e ∷ es) ≡ Some e
found_here e es h =
    ap (λ (o : Option Entry). or_else o (if same_text e.name e.name then Some e else None)) h ∙ ap (λ (b : Bool). let o : Option Entry = if b then Some e else None in o) ((bytes_decides e.name e.name).1 refl)

visible_by : (e : Entry) (es : List Entry) (o : Option Entry) (w : Option VarId) → innermost e.name es ≡ o → int_var e.entity ≡ w → All (Leads (e ∷ es)) (visible es) → All (Leads (e ∷ es)) (unless_hidden (is_some o) w (visible es))
visible_by e es (Some d) w h k all = all
visible_by e es None None h k all = all
visible_by e es None (Some id) h k all = All-cons (Leads (e ∷ es)) id (visible es) (e, found_here e es h, int_entity e.entity id k) all

visible_leads : (names : List Entry) → All (Leads names) (visible names)
visible_leads [] = All-nil (Leads [])
visible_leads (e ∷ es) = visible_by e es (innermost e.name es) (int_var e.entity) refl refl (All-weaker (Leads es) (Leads (e ∷ es)) (λ id h. led_behind e es id h) (visible es) (visible_leads es))

-- what is true of each name is true of the one that is found
found_by : (P : Entry → Type 0) (x : List ℕ) (b : Bool) (e : Entry) (o : Option Entry) (d : Entry) → P e → (o ≡ Some d → P d) → or_else o (if b then Some e else None) ≡ Some d → P d
found_by P x b e (Some f) d p q h = q h
found_by P x true e None d p q h = subst P (same_Some e d h) p
found_by P x false e None d p q h = absurd (none-some d h)

agrees_found : (vars : List Var) (x : List ℕ) (names : List Entry) (d : Entry) → AgreeWith vars names → innermost x names ≡ Some d → AgreesWith vars d.name d.entity
agrees_found vars x [] d h k = absurd (none-some d k)
agrees_found vars x (e ∷ es) d h k =
    let P : Entry → Type 0 = λ y. AgreesWith vars y.name y.entity in
    found_by P x (same_text e.name x) e (innermost x es) d (All-contains P (e ∷ es) e h (Contains-append_left (e ∷ []) es e (Contains-push [] e))) (λ q. agrees_found vars x es d (All-drop P 1 (e ∷ es) h) q) k

-- ---- numbers

module _ (there : Env) where
  written_name : (vars : List Var) (at : Span) (id : VarId) (v : Var) → AgreeWith vars there.names → Contains (visible there.names) id → slice_get vars id.0 ≡ Some v → Means there (form.Name at v.name) (t.Place ty.Int (lval.Var id))
  written_name vars at id v h c k =
      let q : Leads there.names id = All-contains (Leads there.names) (visible there.names) id (visible_leads there.names) c in
      let a : slice_get vars id.0 ≡ Some (record { name = (q.0).name; ty = ty.Int }) = subst (λ (w : Entity). AgreesWith vars (q.0).name w) q.2 (agrees_found vars (q.0).name there.names q.0 h q.1) in
      let same : v.name ≡ (q.0).name = ap (λ (w : Var). w.name) (same_Some v (record { name = (q.0).name; ty = ty.Int }) (sym k ∙ a)) in
      Means.name q.0 id ty.Int (subst (λ (x : List ℕ). innermost x there.names ≡ Some q.0) (sym same) q.1) q.2

  moved_number : (f : ℕ → ℕ) (a : Expr) (x : ex.Expr) (atoms : List (Atom × Span)) → IsNumberIn there a x atoms → IsNumberIn there (moved_expr f a) x (moved_atoms f atoms)
  moved_number f a x atoms n = (moved_typed f n.0, means_moved f there a n.0 n.1, is_moved f a n.0 (t.Int x atoms) n.2)

  pub written : (vars : List Var) (x : ex.Expr) (a : Expr) → AgreeWith vars there.names → IsWritten vars there x a → (atoms : List (Atom × Span)) × IsNumberIn there a x atoms
  written vars _ _ h (IsWritten.number {at = at} {n = n}) = ([], (t.Int (e.Num n) [], Means.number, refl))
  written vars _ _ h (IsWritten.variable {at = at} id v c g) = ((atom.Read (lval.Var id), at) ∷ [], (t.Place ty.Int (lval.Var id), written_name vars at id v h c g, refl))
  written vars _ _ h (IsWritten.kept y f b atoms n) = (moved_atoms f atoms, moved_number f b (e.Atom y) atoms n)
  written vars _ _ h (IsWritten.unary {at = at} {op = op} {x = x} {a = a} z d) =
      let q = written vars x a h d in
      (q.0, (t.Int (e.Un (un_of op) x) q.0, Means.unary x q.0 z (q.1).1 (q.1).2, refl))
  written vars _ _ h (IsWritten.binary {at = at} {op = op} {x = x} {y = y} {a = a} {b = b} d g) =
      let q = written vars x a h d in
      let r = written vars y b h g in
      (q.0 ++ r.0, (t.Int (e.Bin op x y) (q.0 ++ r.0), Means.binary x y q.0 r.0 (q.1).1 (r.1).1 (q.1).2 (r.1).2, refl))
  written vars _ _ h (IsWritten.cond {at = at} {x = x} {y = y} {z = z} {c = c} {a = a} {b = b} d g o) =
      let q = written vars x c h d in
      let r = written vars y a h g in
      let w = written vars z b h o in
      ((q.0 ++ r.0) ++ w.0, (t.Int (e.Cond x y z) ((q.0 ++ r.0) ++ w.0), Means.cond x y z q.0 r.0 w.0 (q.1).1 (r.1).1 (w.1).1 (q.1).2 (r.1).2 (w.1).2, refl))
