-- The slots of a program that a text spells: their own trees can be written and fit them.
use Rattle.std.proofs.Common.{◌≡◌, ℕ, zero, suc, ℤ, List, [], ◌∷◌, ◌++◌, Some, refl, sym, subst}
use Rattle.std.specs.Prelude.{slice_get, Contains}
use Rattle.std.specs.List.{All}
use Rattle.std.proofs.lemmas.List.Elements.{All-nil, All-cons, All-head, All-tail, All-weaker, All-map, All-contains_itself}
use Rattle.ax_prog.specs.declared.Span.{Span}
use Rattle.ax_prog.specs.declared.Un.{Un}
use Rattle.ax_prog.specs.declared.Bin.{Bin}
use Rattle.ax_prog.specs.declared.Expr.{Expr}
use Rattle.ax_prog.specs.declared.Expr.TheVariants as e
use Rattle.ax_prog.specs.declared.Atom.{Atom}
use Rattle.ax_prog.specs.declared.Atom.TheBlock.{shape-the_row-Atom-0, hidden-the_row-Atom-0, shape-the_row-Expr-1, hidden-the_row-Expr-1}
use Rattle.ax_prog.specs.declared.Slot.{Slot}
use Rattle.ax_prog.specs.declared.Program.{Program}
use Rattle.ax_prog.specs.declared.tokens.Token.{Token}
use Rattle.ax_prog.specs.Substitution.{IsLiteral, IsAtomOf, FitsSlot}
use Rattle.ax_prog.proofs.Trees.{expr-induction, FitsSlot-Atom, FitsSlot-Un, FitsSlot-Bin, FitsSlot-Cond}
use Rattle.ax_lex.specs.Bytes.{Text}
use Rattle.ax_lex.specs.Pieces.{SpellsTokens}
use Rattle.ax_parse_grammar.specs.declared.tree.Tree.{Tree}
use Rattle.ax_parse_grammar.specs.Sources.{SpellsTree}
use Rattle.ax_names_types.specs.Atoms.{atoms_of, atoms_in}
use Rattle.ax_names_rules.specs.Programs.{IsProgramOf}
use Rattle.ax_names_rules.proofs.Carried.{program_carries}
use Rattle.ax_print_holes.proofs.Bodies.{respelled}
use Rattle.ax_print_fills.proofs.Sources.{filled}
use Rattle.ax_front_facts.specs.Writable.{IsNumber, IsWritable}
use Rattle.ax_front_facts.specs.Spans.{SlotsFit, SlotsWritable}
use Rattle.ax_front_facts.proofs.Tokens.{Lexed, lexed_parts, lexed}
use Rattle.ax_front_facts.proofs.Numbers.{IsWritable-Un, IsWritable-Bin, IsWritable-Cond, number_writes}
use denote.Hole.Carrier

-- ---- lists

all_got : {A : Type 0} (P : A → Type 0) (xs : List A) → ((i : ℕ) (x : A) → slice_get xs i ≡ Some x → P x) → All P xs
all_got P [] h = All-nil P
all_got P (x ∷ xs) h = All-cons P x xs (h zero x refl) (all_got P xs (λ i y is. h (suc i) y is))

all_parts : {A : Type 0} (P : A → Type 0) (xs ys : List A) → All P (xs ++ ys) → All P xs × All P ys
all_parts P [] ys h = (All-nil P, h)
all_parts P (x ∷ xs) ys h =
    let r = all_parts P xs ys (All-tail P x (xs ++ ys) h) in
    (All-cons P x xs (All-head P x (xs ++ ys) h) r.0, r.1)

all_both : {A : Type 0} (P Q R : A → Type 0) → ((x : A) → P x → Q x → R x) → (xs : List A) → All P xs → All Q xs → All R xs
all_both P Q R go [] h k = All-nil R
all_both P Q R go (x ∷ xs) h k = All-cons R x xs (go x (All-head P x xs h) (All-head Q x xs k)) (all_both P Q R go xs (All-tail P x xs h) (All-tail Q x xs k))

-- ---- the atoms of each kind of node

atoms_of-Atom : (a : Atom) → atoms_of (e.Atom a) ≡ a ∷ []
unfolding shape-the_row-Atom-0 hidden-the_row-Atom-0 shape-the_row-Expr-1 hidden-the_row-Expr-1 Carrier.hidden
atoms_of-Atom a = refl

atoms_of-Un : (op : Un) (x : Expr) → atoms_of (e.Un op x) ≡ atoms_of x
unfolding shape-the_row-Atom-0 hidden-the_row-Atom-0 shape-the_row-Expr-1 hidden-the_row-Expr-1 Carrier.hidden
atoms_of-Un op x = refl

atoms_of-Bin : (op : Bin) (x y : Expr) → atoms_of (e.Bin op x y) ≡ atoms_of x ++ atoms_of y
unfolding shape-the_row-Atom-0 hidden-the_row-Atom-0 shape-the_row-Expr-1 hidden-the_row-Expr-1 Carrier.hidden
atoms_of-Bin op x y = refl

atoms_of-Cond : (x y z : Expr) → atoms_of (e.Cond x y z) ≡ (atoms_of x ++ atoms_of y) ++ atoms_of z
unfolding shape-the_row-Atom-0 hidden-the_row-Atom-0 shape-the_row-Expr-1 hidden-the_row-Expr-1 Carrier.hidden
atoms_of-Cond x y z = refl

-- ---- trees that can be written

pub slots_writable : (bytes : Text) (tokens : List Token) (tree : Tree) (program : Program) → SpellsTokens bytes tokens → SpellsTree tree tokens → IsProgramOf tree program → SlotsWritable program
slots_writable bytes tokens tree program s p d = all_got (λ (slot : Slot). IsWritable slot.expr) program.slots (λ i slot at.
    let f = filled tree program i slot d at in
    let r = respelled f.old tree tokens f.path p in
    let all : Lexed (r.front ++ (r.hole ++ r.back)) = subst Lexed r.joined (lexed bytes tokens s) in
    let hole = (lexed_parts r.hole r.back (lexed_parts r.front (r.hole ++ r.back) all).1).0 in
    number_writes f.there f.old f.means.0 slot.expr slot.atoms f.means.1 f.means.2 r.spelled hole)

-- ---- trees that fit

literal_by : (n : ℤ) → IsNumber n → IsLiteral n
literal_by n h = subst IsLiteral (sym h.1) tt

-- a tree fits a slot that has its atoms
abbrev FitsBy : Slot → Expr → Type 0
FitsBy slot x = IsWritable x → All (IsAtomOf slot) (atoms_of x) → FitsSlot slot x

fits_by : (slot : Slot) (x : Expr) → FitsBy slot x
fits_by slot =
    expr-induction (FitsBy slot)
    (λ n w h. literal_by n w)
    (λ a w h. rw (FitsSlot-Atom slot a) (All-head (IsAtomOf slot) a [] (rw (atoms_of-Atom a) at h)))
    (λ op a fit w h. rw (FitsSlot-Un slot op a) (fit (rw (IsWritable-Un op a) at w) (rw (atoms_of-Un op a) at h)))
    (λ op a b fit_a fit_b w h.
    let v = rw (IsWritable-Bin op a b) at w in
    let r = all_parts (IsAtomOf slot) (atoms_of a) (atoms_of b) (rw (atoms_of-Bin op a b) at h) in
    rw (FitsSlot-Bin slot op a b) (fit_a v.0 r.0, fit_b v.1 r.1))
    (λ c a b fit_c fit_a fit_b w h.
    let v = rw (IsWritable-Cond c a b) at w in
    let r = all_parts (IsAtomOf slot) (atoms_of c ++ atoms_of a) (atoms_of b) (rw (atoms_of-Cond c a b) at h) in
    let q = all_parts (IsAtomOf slot) (atoms_of c) (atoms_of a) r.0 in
    rw (FitsSlot-Cond slot c a b) (fit_c v.0 q.0, fit_a v.1 q.1, fit_b v.2 r.1))

-- a slot's own atoms may stand there
own_atoms : (slot : Slot) → All (IsAtomOf slot) (atoms_in slot.atoms)
own_atoms slot =
    All-map (IsAtomOf slot) (λ (x : Atom × Span). x.0) slot.atoms
    (All-weaker (λ (x : Atom × Span). Contains slot.atoms x) (λ (x : Atom × Span). IsAtomOf slot x.0) (λ x h. IsAtomOf.own x.1 h) slot.atoms (All-contains_itself slot.atoms))

pub slots_fit : (bytes : Text) (tokens : List Token) (tree : Tree) (program : Program) → SpellsTokens bytes tokens → SpellsTree tree tokens → IsProgramOf tree program → SlotsFit program
slots_fit bytes tokens tree program s p d =
    all_both (λ (slot : Slot). IsWritable slot.expr) (λ (slot : Slot). atoms_in slot.atoms ≡ atoms_of slot.expr) (λ (slot : Slot). FitsSlot slot slot.expr)
    (λ slot w c. fits_by slot slot.expr w (subst (λ (l : List Atom). All (IsAtomOf slot) l) c (own_atoms slot))) program.slots (slots_writable bytes tokens tree program s p d) (program_carries tree program d)
