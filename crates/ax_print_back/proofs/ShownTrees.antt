-- Printed trees spell themselves wherever they stand.
use Rattle.std.proofs.Common.{◌≡◌, ℕ, Bool, true, false, List, [], ◌∷◌, ◌++◌, Option, Some, refl, sym, ap, ◌∙◌, subst, arith}
use Rattle.std.specs.Prelude.{All, Contains, slice_get, if◌then◌else◌}
use Rattle.std.proofs.lemmas.List.Elements.{All-contains, All-get_or}
use Rattle.std.proofs.lemmas.Option.{slice_get_within, get_or_from_slice_get}
use Rattle.ax_prog.specs.declared.Span.{Span}
use Rattle.ax_prog.specs.declared.Var as var
use Rattle.ax_prog.specs.declared.VarId.{VarId}
use Rattle.ax_prog.specs.declared.Expr.{Expr, Num, Atom', Un', Bin', Cond'}
use Rattle.ax_prog.specs.declared.Expr.TheVariants as e
use Rattle.ax_prog.specs.declared.Atom.{Atom}
use Rattle.ax_prog.specs.declared.Atom.TheVariants as atom
use Rattle.ax_prog.specs.declared.Atom.TheBlock.{more_of-Expr, end_of-Expr, more_of-Atom, end_of-Atom, shape-the_row-Atom-0, hidden-the_row-Atom-0, shape-the_row-Expr-1, hidden-the_row-Expr-1}
use Rattle.ax_prog.specs.declared.Lval.{Var, Deref', Field'}
use Rattle.ax_prog.specs.declared.Lval.TheVariants as lval
use Rattle.ax_prog.specs.declared.Slot.{Slot}
use Rattle.ax_prog.specs.declared.Program.{Program}
use Rattle.ax_prog.specs.declared.tokens.Token.{Token}
use Rattle.ax_prog.specs.Substitution.{IsAtomOf, FitsSlot}
use Rattle.ax_lex.specs.Bytes.{Text}
use Rattle.ax_lex.specs.Pieces.{tokens_of, SpellsTokens}
use Rattle.ax_lex.specs.Splices.{kinds_of}
use Rattle.ax_parse_grammar.specs.declared.tree.Tree.{Tree}
use Rattle.ax_names_types.specs.Scopes.{Env}
use Rattle.ax_names_rules.specs.States.{visible}
use Rattle.ax_print_holes.specs.Places.{IsRespelled}
use Rattle.ax_print_fills.specs.Replaced.{IsFilledIn}
use Rattle.ax_print_fills.specs.Written.{HasAtom}
use Rattle.ax_print.specs.Text.{is_read, in_parens, tree_text, operand_text, atoms_in, leaf_text, name_in, first_span, bytes_at}
use Rattle.ax_print_back.specs.Swaps.{IsCopied}
use Rattle.ax_front_facts.specs.Writable.{IsWritable}
use Rattle.ax_front_facts.specs.Spans.{IsWord, NamesAreWords}
use Rattle.ax_print_back.specs.Shown.{IsShown}
use Rattle.ax_print_back.proofs.Operands.{Shows, Operand, shows_lower, number_shows, parens_shows, unary_shows, binary_shows, cond_shows}
use Rattle.ax_print_back.proofs.Own.{AtomShows, own_shows}
use Rattle.ax_print_back.proofs.Names.{visible_known}
use Rattle.ax_print_back.proofs.Variables.{VariableShows, visible_shows, read_shows}
use denote.Hole.Carrier

module _ (vars : List var.Var) (there : Env) (leaf : Atom → Text) where
  -- as a whole, and as an operand
  pub record Both (x : Expr) : Type 0 where
    pub whole : Shows vars there 0 x (tree_text leaf x)
    pub operand : Operand vars there x (operand_text leaf x)

  as_leaf : (a : Atom) (r : Bool) → is_read a ≡ r → AtomShows vars there a (leaf a) → Operand vars there (e.Atom a) (if r then leaf a else in_parens (leaf a))
  as_leaf a true is s = s.operand is
  as_leaf a false is s = parens_shows vars there (e.Atom a) (leaf a) s.whole

  atom_both : (a : Atom) → AtomShows vars there a (leaf a) → Both (e.Atom a)
  unfolding shape-the_row-Atom-0 hidden-the_row-Atom-0 shape-the_row-Expr-1 hidden-the_row-Expr-1 Carrier.hidden
  atom_both a s = record { whole = s.whole; operand = as_leaf a (is_read a) refl s }

  -- a tree that isn't a leaf
  around : (x : Expr) → operand_text leaf x ≡ in_parens (tree_text leaf x) → Shows vars there 0 x (tree_text leaf x) → Both x
  around x h s = record { whole = s; operand = subst (Operand vars there x) (sym h) (parens_shows vars there x (tree_text leaf x) s) }

  module _ (slot : Slot) (atoms : (a : Atom) → IsAtomOf slot a → AtomShows vars there a (leaf a)) where
    pub both : (x : Expr) → FitsSlot slot x → IsWritable x → Both x
    unfolding shape-the_row-Atom-0 hidden-the_row-Atom-0 shape-the_row-Expr-1 hidden-the_row-Expr-1 Carrier.hidden
    both (Num n) f w = let s = number_shows vars there n w in record { whole = shows_lower vars there 0 11 (e.Num n) (tree_text leaf (e.Num n)) (omega arith) s.shows; operand = s }
    both (Atom' s (more_of-Atom a end_of-Atom)) f w = atom_both a (atoms a f)
    both (Un' op s (more_of-Expr a end_of-Expr)) f w = around (e.Un op a) refl (unary_shows vars there op a (operand_text leaf a) (both a f w).operand)
    both (Bin' op s (more_of-Expr a end_of-Expr) t (more_of-Expr b end_of-Expr)) f w =
        around (e.Bin op a b) refl (binary_shows vars there op a b (operand_text leaf a) (operand_text leaf b) (both a f.0 w.0).operand (both b f.1 w.1).operand)
    both (Cond' s (more_of-Expr c end_of-Expr) t (more_of-Expr a end_of-Expr) u (more_of-Expr b end_of-Expr)) f w =
        around (e.Cond c a b) refl (cond_shows vars there c a b (operand_text leaf c) (operand_text leaf a) (operand_text leaf b) (both c f.0 w.0).operand (both a f.1 w.1).operand (both b f.2 w.2).operand)

-- ---- the atoms of a slot

module _ (bytes : Text) (tokens : List Token) (copied : (bytes : Text) (front : List Token) (t : Token) (ts back : List Token) → SpellsTokens bytes (front ++ ((t ∷ ts) ++ back)) → IsCopied bytes (t ∷ ts)) (spelled : SpellsTokens bytes tokens) (tree : Tree) (p : Program) (k : ℕ) (slot : Slot) (at : slice_get p.slots k ≡ Some slot) (h : IsFilledIn tree p k slot) (holes : IsRespelled tree h.path tokens) (parts : All (HasAtom h.there h.old) slot.atoms) (words : NamesAreWords p) where
  word_of : (id : VarId) (v : var.Var) → slice_get p.vars id.0 ≡ Some v → IsWord v.name
  word_of id v g = subst (λ (w : var.Var). IsWord w.name) (get_or_from_slice_get p.vars id.0 v v g) (All-get_or (λ w. IsWord w.name) p.vars id.0 v (slice_get_within p.vars id.0 v g) words)

  abbrev leaf : Atom → Text
  leaf = leaf_text bytes p (record { 0 = k })

  by_name : (id : VarId) → VariableShows p.vars h.there word_of h.named id → AtomShows p.vars h.there (atom.Read (lval.Var id)) (leaf (atom.Read (lval.Var id)))
  by_name id s =
      let text : leaf (atom.Read (lval.Var id)) ≡ s.variable.name = ap name_in s.found in
      let x = e.Atom (atom.Read (lval.Var id)) in
      subst (AtomShows p.vars h.there (atom.Read (lval.Var id))) (sym text) (record { whole = shows_lower p.vars h.there 0 11 x s.variable.name (omega arith) s.operand.shows; operand = λ is. s.operand })

  visible_atom : (id : VarId) → Contains slot.scope id → AtomShows p.vars h.there (atom.Read (lval.Var id)) (leaf (atom.Read (lval.Var id)))
  visible_atom id c =
      let seen : Contains (visible h.there.names) id = subst (λ (l : List VarId). Contains l id) (sym h.scope) c in
      let v = visible_known p.vars h.there.names id h.named seen in
      by_name id (visible_shows p.vars h.there word_of h.named id v.0 seen v.1)

  own_bytes : (a : Atom) (span : Span) → Contains slot.atoms (a, span) → leaf a ≡ bytes_at bytes (first_span a (atoms_in (slice_get p.slots k))) → AtomShows p.vars h.there a (leaf a)
  own_bytes a span c text =
      let same : leaf a ≡ bytes_at bytes (first_span a slot.atoms) = text ∙ ap (λ (o : Option Slot). bytes_at bytes (first_span a (atoms_in o))) at in
      subst (AtomShows p.vars h.there a) (sym same) (own_shows bytes tokens copied spelled p.vars h.there holes.front holes.hole holes.back h.old slot.atoms a span holes.joined holes.spelled parts c)

  own_atom : (a : Atom) (span : Span) → Contains slot.atoms (a, span) → AtomShows p.vars h.there a (leaf a)
  own_atom (atom.Read (Var id)) span c =
      let q = All-contains (HasAtom h.there h.old) slot.atoms (atom.Read (lval.Var id), span) parts c in
      by_name id (read_shows p.vars h.there word_of h.named id q.0 ((atom.Read (lval.Var id), span) ∷ []) q.3)
  own_atom (atom.Read (Deref' s row)) span c = own_bytes (atom.Read (Deref' s row)) span c refl
  own_atom (atom.Read (Field' s row n)) span c = own_bytes (atom.Read (Field' s row n)) span c refl
  own_atom (atom.Same a b) span c = own_bytes (atom.Same a b) span c refl
  own_atom (atom.Differ a b) span c = own_bytes (atom.Differ a b) span c refl

  slot_atoms : (a : Atom) → IsAtomOf slot a → AtomShows p.vars h.there a (leaf a)
  slot_atoms _ (IsAtomOf.variable {v = id} c) = visible_atom id c
  slot_atoms a (IsAtomOf.own span c) = own_atom a span c

  pub trees_show : (x : Expr) → FitsSlot slot x → IsWritable x → IsShown p.vars h.there x (tree_text leaf x)
  trees_show x f w =
      let s = (both p.vars h.there leaf slot slot_atoms x f w).whole in
      record {
        kinds = kinds_of (tokens_of 0 s.pieces);
        inside = record { pieces = s.pieces; joined = s.inside.joined; proper = s.inside.proper; found = refl };
        spelled = s.spelled;
      }
