-- Names of variables: those in scope, and those of atoms.
use Rattle.std.proofs.Common.{◌≡◌, ℕ, Bool, true, false, List, [], ◌∷◌, Option, Some, None, refl, subst, if◌then◌else◌}
use Rattle.std.specs.Prelude.{All, Contains, slice_get, is_some}
use Rattle.std.specs.Cmp.Lexicographic.{bytes_decides}
use Rattle.std.proofs.lemmas.Option.{none-some, same_Some}
use Rattle.std.proofs.lemmas.List.Elements.{All-nil, All-cons, All-head, All-tail, All-contains}
use Rattle.ax_prog.specs.declared.Ty.{Ptr', Array'}
use Rattle.ax_prog.specs.declared.Ty.TheVariants as ty
use Rattle.ax_prog.specs.declared.VarId.{VarId}
use Rattle.ax_prog.specs.declared.Var.{Var}
use Rattle.ax_names_types.specs.declared.Entry.{Entry}
use Rattle.ax_names_types.specs.declared.Entity.{Entity}
use Rattle.ax_names_types.specs.declared.Entity.TheVariants as entity
use Rattle.ax_names_types.specs.Scopes.{same_text, or_else, innermost}
use Rattle.ax_names_rules.specs.States.{int_var, unless_hidden, visible}
use Rattle.ax_print_fills.specs.Replaced.{AgreesWith, AgreeWith}

module _ (vars : List Var) where
  -- the program has this variable
  abbrev pub Known : VarId → Type 0
  Known id = (v : Var) × (slice_get vars id.0 ≡ Some v)

  known_by : (x : List ℕ) (w : Entity) (id : VarId) → AgreesWith vars x w → int_var w ≡ Some id → Known id
  known_by x (entity.Function k) id h g = absurd (none-some id g)
  known_by x (entity.Variable v ty.Int) id h g = subst Known (same_Some v id g) (record { name = x; ty = ty.Int }, h)
  known_by x (entity.Variable v (Ptr' s row)) id h g = absurd (none-some id g)
  known_by x (entity.Variable v (Array' s row n)) id h g = absurd (none-some id g)
  known_by x (entity.Variable v (ty.Struct k)) id h g = absurd (none-some id g)

  known_on : (hidden : Bool) (o : Option VarId) (ids : List VarId) → ((id : VarId) → o ≡ Some id → Known id) → All Known ids → All Known (unless_hidden hidden o ids)
  known_on true o ids h all = all
  known_on false None ids h all = all
  known_on false (Some id) ids h all = All-cons Known id ids (h id refl) all

  all_known : (names : List Entry) → AgreeWith vars names → All Known (visible names)
  all_known [] h = All-nil Known
  all_known (x ∷ xs) h =
      let P : Entry → Type 0 = λ y. AgreesWith vars y.name y.entity in
      known_on (is_some (innermost x.name xs)) (int_var x.entity) (visible xs) (λ id g. known_by x.name x.entity id (All-head P x xs h) g) (all_known xs (All-tail P x xs h))

  -- each visible variable is one of the program's
  pub visible_known : (names : List Entry) (id : VarId) → AgreeWith vars names → Contains (visible names) id → Known id
  visible_known names id h c = All-contains Known (visible names) id (all_known names h) c

  -- ---- the variable that a name is

  found_by : (P : Entry → Type 0) (x : List ℕ) (e : Entry) (o : Option Entry) (d : Entry) (b : Bool) → same_text e.name x ≡ b → P e → (o ≡ Some d → P d) → (o ≡ Some d → d.name ≡ x) → or_else o (if b then Some e else None) ≡ Some d → P d × (d.name ≡ x)
  found_by P x e (Some f) d b is p q r h = (q h, r h)
  found_by P x e None d true is p q r h =
      let same = same_Some e d h in
      let name : e.name ≡ x = (bytes_decides e.name x).0 is in
      (subst P same p, subst (λ (y : Entry). y.name ≡ x) same name)
  found_by P x e None d false is p q r h = absurd (none-some d h)

  pub innermost_named : (x : List ℕ) (names : List Entry) (d : Entry) → AgreeWith vars names → innermost x names ≡ Some d → AgreesWith vars d.name d.entity × (d.name ≡ x)
  innermost_named x [] d h g = absurd (none-some d g)
  innermost_named x (e ∷ es) d h g =
      let P : Entry → Type 0 = λ y. AgreesWith vars y.name y.entity in
      let more = λ (k : innermost x es ≡ Some d). innermost_named x es d (All-tail P e es h) k in
      found_by P x e (innermost x es) d (same_text e.name x) refl (All-head P e es h) (λ k. (more k).0) (λ k. (more k).1) g
