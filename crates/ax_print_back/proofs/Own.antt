-- Atoms that the source has: the bytes of a part of the slot's expression.
use Rattle.std.proofs.Common.{◌≡◌, true, false, List, [], ◌∷◌, ◌++◌, Option, Some, refl, sym, ap, ◌∙◌, subst, arith, append_assoc, ⊎_elim}
use Rattle.std.specs.Prelude.{All, Contains}
use Rattle.std.proofs.lemmas.Bool.{cases_Bool, false≢true}
use Rattle.std.proofs.lemmas.List.Elements.{All-nil, All-cons, All-head, All-tail, All-weaker, All-contains}
use Rattle.ax_prog.specs.declared.Span.{Span}
use Rattle.ax_prog.specs.declared.Var.{Var}
use Rattle.ax_prog.specs.declared.Expr.TheVariants as e
use Rattle.ax_prog.specs.declared.Atom.{Atom}
use Rattle.ax_prog.specs.declared.Atom.TheBlock.{shape-the_row-Atom-0, hidden-the_row-Atom-0, shape-the_row-Expr-1, hidden-the_row-Expr-1}
use Rattle.ax_prog.specs.declared.tokens.Token.{Token}
use Rattle.ax_prog.specs.Equality.{atom_eq}
use Rattle.ax_prog.proofs.Equality.{Decides-atom_eq}
use Rattle.ax_lex.specs.Bytes.{Text}
use Rattle.ax_lex.specs.Pieces.{SpellsTokens}
use Rattle.ax_parse_grammar.specs.declared.tree.Expr.{Expr}
use Rattle.ax_parse_grammar.specs.Terminals.{extent}
use Rattle.ax_parse_grammar.specs.Trees.{span_of}
use Rattle.ax_parse_grammar.specs.Expressions.{Spells}
use Rattle.ax_names_types.specs.declared.Typed.TheVariants as t
use Rattle.ax_names_types.specs.Scopes.{Env}
use Rattle.ax_print_holes.specs.Moved.{moved_token, moved_tokens, moved_expr}
use Rattle.ax_print_fills.specs.Replaced.{IsNumberIn}
use Rattle.ax_print_fills.specs.Written.{HasAtom, IsWritten}
use Rattle.ax_print.specs.Text.{is_read, first_span, bytes_at}
use Rattle.ax_print_back.specs.Swaps.{bytes_of, carried, IsCopied}
use Rattle.ax_print_back.proofs.Levels.{top}
use Rattle.ax_print_back.proofs.Bare.{Bare, part}
use Rattle.ax_print_back.proofs.Carried.{carried_spells}
use Rattle.ax_print_back.proofs.Firsts.{reads, place_of, top_place, first_place}
use Rattle.ax_print_back.proofs.Quiet.{Quiet, pieces_quiet}
use Rattle.ax_print_back.proofs.Operands.{Shows, Operand, shows_lower}
use denote.Hole.Carrier

-- ---- the atom's place

-- the first of the atoms that equals it, as P says
abbrev FirstIs : (Atom × Span → Type 0) → Atom → List (Atom × Span) → Type 0
FirstIs P y atoms = (s : Span) × (first_span y atoms ≡ Some s) × P (y, s)

first_behind : (P : Atom × Span → Type 0) (y : Atom) (x : Atom × Span) (xs : List (Atom × Span)) → P x → (atom_eq x.0 y ≡ false → FirstIs P y xs) → FirstIs P y (x ∷ xs)
first_behind P y x xs h more = ⊎_elim
    (λ (is : atom_eq x.0 y ≡ true). let same = (Decides-atom_eq x.0 y).0 is in (x.1, rw is refl, subst (λ (z : Atom). P (z, x.1)) same h))
    (λ (isnt : atom_eq x.0 y ≡ false). let r = more isnt in (r.0, rw isnt r.1, r.2))
    (cases_Bool (atom_eq x.0 y))

firsts : (P : Atom × Span → Type 0) (atoms : List (Atom × Span)) → All P atoms → All (λ z. FirstIs P z.0 atoms) atoms
firsts P [] all = All-nil (λ z. FirstIs P z.0 [])
firsts P (x ∷ xs) all =
    let Q : Atom × Span → Type 0 = λ z. FirstIs P z.0 (x ∷ xs) in
    let h = All-head P x xs all in
    All-cons Q x xs
    (first_behind P x.0 x xs h (λ (isnt : atom_eq x.0 x.0 ≡ false). absurd (false≢true (sym isnt ∙ (Decides-atom_eq x.0 x.0).1 refl))))
    (All-weaker (λ z. FirstIs P z.0 xs) Q (λ z r. first_behind P z.0 x xs h (λ isnt. r)) xs (firsts P xs (All-tail P x xs all)))

pub first_is : (P : Atom × Span → Type 0) (y : Atom) (span : Span) (atoms : List (Atom × Span)) → All P atoms → Contains atoms (y, span) → FirstIs P y atoms
first_is P y span atoms all c = All-contains (λ z. FirstIs P z.0 atoms) atoms (y, span) (firsts P atoms all) c

-- ---- its text

reads_atom : (y : Atom) (atoms : List (Atom × Span)) → reads (t.Int (e.Atom y) atoms) ≡ is_read y
unfolding shape-the_row-Atom-0 hidden-the_row-Atom-0 shape-the_row-Expr-1 hidden-the_row-Expr-1 Carrier.hidden
reads_atom y atoms = refl

-- The text spells the atom, and as an operand where it reads a place.
pub record AtomShows (vars : List Var) (there : Env) (y : Atom) (text : Text) : Type 0 where
  pub whole : Shows vars there 0 (e.Atom y) text
  pub operand : is_read y ≡ true → Operand vars there (e.Atom y) text

module _ (bytes : Text) (tokens : List Token) (copied : (bytes : Text) (front : List Token) (t : Token) (ts back : List Token) → SpellsTokens bytes (front ++ ((t ∷ ts) ++ back)) → IsCopied bytes (t ∷ ts)) (spelled : SpellsTokens bytes tokens) (vars : List Var) (there : Env) where
  -- the bytes of an expression that is the atom do, wherever they stand
  bytes_show : (front ts back : List Token) (b : Expr) (y : Atom) (atoms : List (Atom × Span)) → tokens ≡ front ++ (ts ++ back) → Bare b ts → IsNumberIn there b (e.Atom y) atoms → AtomShows vars there y (bytes_of bytes (span_of b))
  bytes_show front ts back b y atoms h r n =
      let stretch = r.first ∷ r.more in
      let joined : tokens ≡ (front ++ r.front) ++ (stretch ++ (r.back ++ back)) = h ∙ ap (λ (l : List Token). front ++ (l ++ back)) r.joined ∙ simp append_assoc in
      let c = copied bytes (front ++ r.front) r.first r.more (r.back ++ back) (subst (SpellsTokens bytes) joined spelled) in
      let from = (extent stretch).from in
      let shows : Shows vars there (top b) (e.Atom y) (bytes_of bytes (extent stretch)) = record {
        pieces = c.inside.pieces;
        inside = record { joined = c.inside.joined; proper = c.inside.proper };
        spelled = λ at. let f = carried from at in (moved_expr f b, subst (Spells (top b) (moved_expr f b)) (sym (c.tokens at)) (carried_spells f r.spelled), IsWritten.kept y f b atoms n);
      } in
      let start : carried from 0 from ≡ 0 = omega arith in
      subst (λ (s : Span). AtomShows vars there y (bytes_of bytes s)) r.stands (record {
        whole = shows_lower vars there 0 (top b) (e.Atom y) (bytes_of bytes (extent stretch)) (omega arith) shows;
        operand = λ is.
            let place = place_of there n.1 (ap reads n.2 ∙ reads_atom y atoms ∙ is) in
            record {
              shows = shows_lower vars there 11 (top b) (e.Atom y) (bytes_of bytes (extent stretch)) (top_place b place) shows;
              first = subst Quiet (sym c.inside.joined) (pieces_quiet c.inside.pieces (32 ∷ []) (moved_token (carried from 0) r.first) (moved_tokens (carried from 0) r.more) (c.inside.proper 32 [] refl) (c.tokens 0) start (first_place place r.spelled));
            };
      })

  -- so do those of the first of a slot's atoms that equals it
  pub own_shows : (front hole back : List Token) (old : Expr) (atoms : List (Atom × Span)) (y : Atom) (span : Span) → tokens ≡ front ++ (hole ++ back) → Spells 0 old hole → All (HasAtom there old) atoms → Contains atoms (y, span) → AtomShows vars there y (bytes_at bytes (first_span y atoms))
  own_shows front hole back old atoms y span h p parts c =
      let f = first_is (HasAtom there old) y span atoms parts c in
      let q = f.2 in
      let shows = bytes_show front hole back q.0 y ((y, f.0) ∷ []) h (part q.0 p q.1) q.3 in
      subst (λ (o : Option Span). AtomShows vars there y (bytes_at bytes o)) (sym f.1) (subst (λ (s : Span). AtomShows vars there y (bytes_of bytes s)) q.2 shows)
