-- Variables by their names.
use Rattle.std.proofs.Common.{◌≡◌, ℕ, List, [], ◌∷◌, Option, Some, None, refl, sym, ap, ◌∙◌, subst}
use Rattle.std.specs.Prelude.{Contains, slice_get}
use Rattle.std.proofs.lemmas.Option.{none-some, same_Some}
use Rattle.ax_prog.specs.declared.Span.{Span}
use Rattle.ax_prog.specs.declared.Ty.{Ty, Ptr', Array', more_of-Ty, end_of-Ty}
use Rattle.ax_prog.specs.declared.Ty.TheVariants as ty
use Rattle.ax_prog.specs.declared.VarId.{VarId}
use Rattle.ax_prog.specs.declared.Var as var
use Rattle.ax_prog.specs.declared.Bin.{Bin}
use Rattle.ax_prog.specs.declared.Bin.TheVariants as bin
use Rattle.ax_prog.specs.declared.Expr as ex
use Rattle.ax_prog.specs.declared.Expr.TheVariants as e
use Rattle.ax_prog.specs.declared.Atom.{Atom}
use Rattle.ax_prog.specs.declared.Atom.TheVariants as atom
use Rattle.ax_prog.specs.declared.Atom.TheBlock.{more_of-Atom, end_of-Atom, shape-the_row-Atom-0, hidden-the_row-Atom-0, shape-the_row-Expr-1, hidden-the_row-Expr-1, shape-the_row-Pexpr-2, hidden-the_row-Pexpr-2, shape-the_row-Lval-3, hidden-the_row-Lval-3}
use Rattle.ax_prog.specs.declared.Lval.{Lval, Var, Deref', Field'}
use Rattle.ax_prog.specs.declared.Lval.TheVariants as lval
use Rattle.ax_prog.specs.declared.Pexpr.{Pexpr}
use Rattle.ax_prog.specs.declared.Pexpr.TheVariants as p
use Rattle.ax_prog.specs.declared.tokens.Kind.TheVariants as k
use Rattle.ax_parse_grammar.specs.declared.tree.Expr as tree_of
use Rattle.ax_parse_grammar.specs.declared.tree.Expr.TheVariants as form
use Rattle.ax_parse_grammar.specs.Expressions.{Spells}
use Rattle.ax_parse_grammar.specs.Trees.{span_of}
use Rattle.ax_names_types.specs.declared.Entry.{Entry}
use Rattle.ax_names_types.specs.declared.Entity.{Entity}
use Rattle.ax_names_types.specs.declared.Entity.TheVariants as entity
use Rattle.ax_names_types.specs.declared.Typed.{Typed}
use Rattle.ax_names_types.specs.declared.Typed.TheVariants as t
use Rattle.ax_names_types.specs.Scopes.{Env, innermost}
use Rattle.ax_names_types.specs.Types.{value_of_place, value_of, compared}
use Rattle.ax_names_types.specs.Meaning.{Means}
use Rattle.ax_names_rules.specs.States.{visible}
use Rattle.ax_print_fills.specs.Replaced.{AgreesWith, AgreeWith, IsNumberIn}
use Rattle.ax_print_fills.specs.Written.{IsWritten}
use Rattle.ax_front_facts.specs.Spans.{IsWord}
use Rattle.ax_print_back.proofs.Quiet.{kind_quiet}
use Rattle.ax_print_back.proofs.Operands.{Operand, token_shows}
use Rattle.ax_print_back.proofs.Names.{innermost_named}
use denote.Hole.Carrier

-- ---- the variable that a number reads

abbrev variable_at : Lval → Option VarId
variable_at (Var id) = Some id
variable_at (Deref' s row) = None
variable_at (Field' s row n) = None

abbrev variable_in : ex.Expr → Option VarId
variable_in (e.Atom' s (more_of-Atom (atom.Read l) end_of-Atom)) = variable_at l
variable_in _ = None

abbrev variable_of : Typed → Option VarId
variable_of (t.Int x atoms) = variable_in x
variable_of _ = None

read_place : (at : Span) (u : Ty) (l : Lval) (id : VarId) → variable_of (value_of_place at u l) ≡ Some id → (u ≡ ty.Int) × (variable_at l ≡ Some id)
unfolding shape-the_row-Atom-0 hidden-the_row-Atom-0 shape-the_row-Expr-1 hidden-the_row-Expr-1 Carrier.hidden
read_place at ty.Int l id h = (refl, h)
read_place at (Ptr' s (more_of-Ty a end_of-Ty)) l id h = absurd (none-some id h)
read_place at (Array' s (more_of-Ty a end_of-Ty) n) l id h = absurd (none-some id h)
read_place at (ty.Struct k) l id h = absurd (none-some id h)

compared_none : (op : Bin) (at : Span) (q r : Pexpr) → variable_of (value_of at (compared op at q r)) ≡ None
unfolding shape-the_row-Atom-0 hidden-the_row-Atom-0 shape-the_row-Expr-1 hidden-the_row-Expr-1 Carrier.hidden
compared_none bin.Ne at q r = refl
compared_none _ at q r = refl

-- a name leads to the variable
abbrev Leads : Env → VarId → Type 0
Leads there id = (x : List ℕ) × (d : Entry) × (innermost x there.names ≡ Some d) × (d.entity ≡ entity.Variable id ty.Int)

named_by : (there : Env) (at : Span) (x : List ℕ) (d : Entry) (id v : VarId) (u : Ty) → innermost x there.names ≡ Some d → d.entity ≡ entity.Variable v u → variable_of (value_of_place at u (lval.Var v)) ≡ Some id → Leads there id
named_by there at x d id v u h g r =
    let q = read_place at u (lval.Var v) id r in
    let same = same_Some v id q.1 in
    (x, d, h, g ∙ (λ i. entity.Variable (same i) (q.0 i)))

variable_leads : (there : Env) {a : tree_of.Expr} {m : Typed} (id : VarId) → Means there a m → variable_of (value_of (span_of a) m) ≡ Some id → Leads there id
unfolding shape-the_row-Atom-0 hidden-the_row-Atom-0 shape-the_row-Expr-1 hidden-the_row-Expr-1 shape-the_row-Pexpr-2 hidden-the_row-Pexpr-2 shape-the_row-Lval-3 hidden-the_row-Lval-3 Carrier.hidden
variable_leads there id (Means.name {at = at} {x = x} d v u h g) r = named_by there at x d id v u h g r
variable_leads there id Means.number r = absurd (none-some id r)
variable_leads there id (Means.unary x xs h d g) r = absurd (none-some id r)
variable_leads there id (Means.deref {at = at} u q d g) r = absurd (none-some id (read_place at u (lval.Deref q) id r).1)
variable_leads there id (Means.address u l d) r = absurd (none-some id r)
variable_leads there id (Means.binary x y xs ys d g h o) r = absurd (none-some id r)
variable_leads there id (Means.plus u q y ys d g h o) r = absurd (none-some id r)
variable_leads there id (Means.minus u q y ys d g h o) r = absurd (none-some id r)
variable_leads there id (Means.pointers {at = at} {op = op} u q s h d g o w) r = absurd (none-some id (sym (compared_none op at q s) ∙ r))
variable_leads there id (Means.left_null {at = at} {op = op} a u s h z g o) r = absurd (none-some id (sym (compared_none op at p.Null s) ∙ r))
variable_leads there id (Means.right_null {at = at} {op = op} b u q h z g o) r = absurd (none-some id (sym (compared_none op at q p.Null) ∙ r))
variable_leads there id (Means.cond x y z xs ys zs d g h o w v) r = absurd (none-some id r)
variable_leads there id (Means.index {at = at} u q i is d g h o) r = absurd (none-some id (read_place at u (lval.Deref (p.Plus q i)) id r).1)
variable_leads there id (Means.member {at = at} k l i u d g h) r = absurd (none-some id (read_place at u (lval.Field l i) id r).1)
variable_leads there id (Means.arrow {at = at} k q i u d g h) r = absurd (none-some id (read_place at u (lval.Field (lval.Deref q) i) id r).1)

read_variable : (id : VarId) (atoms : List (Atom × Span)) → variable_of (t.Int (e.Atom (atom.Read (lval.Var id))) atoms) ≡ Some id
unfolding shape-the_row-Atom-0 hidden-the_row-Atom-0 shape-the_row-Expr-1 hidden-the_row-Expr-1 Carrier.hidden
read_variable id atoms = refl

-- ---- its name

module _ (vars : List var.Var) (there : Env) (words : (id : VarId) (v : var.Var) → slice_get vars id.0 ≡ Some v → IsWord v.name) (named : AgreeWith vars there.names) where
  -- the name spells it where it is written
  name_shows : (id : VarId) (v : var.Var) → slice_get vars id.0 ≡ Some v → ((s : Span) → IsWritten vars there (e.Atom (atom.Read (lval.Var id))) (form.Name s v.name)) → Operand vars there (e.Atom (atom.Read (lval.Var id))) v.name
  name_shows id v h w =
      let word = words id v h in
      record {
        shows = token_shows vars there (e.Atom (atom.Read (lval.Var id))) v.name (k.Name v.name) word (λ s. (form.Name s v.name, Spells.name (record { kind = k.Name v.name; span = s }) refl, w s));
        first = kind_quiet v.name (k.Name v.name) word refl;
      }

  -- The variable has a name, and that spells it.
  pub record VariableShows (id : VarId) : Type 0 where
    pub variable : var.Var
    pub found : slice_get vars id.0 ≡ Some variable
    pub operand : Operand vars there (e.Atom (atom.Read (lval.Var id))) variable.name

  pub visible_shows : (id : VarId) (v : var.Var) → Contains (visible there.names) id → slice_get vars id.0 ≡ Some v → VariableShows id
  visible_shows id v c h = record { variable = v; found = h; operand = name_shows id v h (λ s. IsWritten.variable id v c h) }

  -- an atom of the source that reads it
  pub read_shows : (id : VarId) (b : tree_of.Expr) (atoms : List (Atom × Span)) → IsNumberIn there b (e.Atom (atom.Read (lval.Var id))) atoms → VariableShows id
  read_shows id b atoms n =
      let y = atom.Read (lval.Var id) in
      let leads = variable_leads there id n.1 (ap variable_of n.2 ∙ read_variable id atoms) in
      let d = leads.1 in
      let q = innermost_named vars leads.0 there.names d named leads.2 in
      let v : var.Var = record { name = d.name; ty = ty.Int } in
      let found : slice_get vars id.0 ≡ Some v = subst (λ (w : Entity). AgreesWith vars d.name w) leads.3 q.0 in
      let inner : innermost d.name there.names ≡ Some d = subst (λ (x : List ℕ). innermost x there.names ≡ Some d) (sym q.1) leads.2 in
      record {
        variable = v;
        found = found;
        operand = name_shows id v found (λ s. IsWritten.kept y (λ p. p) (form.Name s d.name) ((y, s) ∷ []) (t.Place ty.Int (lval.Var id), Means.name d id ty.Int inner leads.3, refl));
      }
