-- Slots that end before the place of a change stay where they are, and so do the bytes of their atoms.
use Rattle.std.proofs.Common.{◌≡◌, ◌≤◌, ℕ, ◌+◌, ◌-◌, Bool, true, false, List, [], ◌∷◌, take, drop, slice_get, Option, Some, refl, sym, ap, ◌∙◌, arith, if◌then◌else◌}
use Rattle.std.specs.List.{All}
use Rattle.std.proofs.lemmas.List.{drop-take, take-take}
use Rattle.std.proofs.lemmas.List.Elements.{All-head, All-tail}
use Rattle.std.proofs.lemmas.Bool.{le-leb}
use Rattle.ax_prog.specs.declared.Span.{Span}
use Rattle.ax_prog.specs.declared.Var.{Var}
use Rattle.ax_prog.specs.declared.Expr.{Expr}
use Rattle.ax_prog.specs.declared.Atom.{Atom}
use Rattle.ax_prog.specs.declared.Atom.TheVariants as atom
use Rattle.ax_prog.specs.declared.Lval.{Deref', Field'}
use Rattle.ax_prog.specs.declared.Lval.TheVariants as lval
use Rattle.ax_prog.specs.declared.Slot.{Slot}
use Rattle.ax_prog.specs.declared.SlotId.{SlotId}
use Rattle.ax_prog.specs.declared.Program.{Program}
use Rattle.ax_prog.specs.Candidates.{slot_at}
use Rattle.ax_prog.specs.Equality.{atom_eq}
use Rattle.ax_print.specs.Text.{first_span, bytes_at, name_in, atom_text, atoms_in, leaf_text, tree_text}
use Rattle.ax_print_holes.specs.Moved.{moved_span}
use Rattle.ax_print_fills.specs.Replaced.{moved_atoms, moved_slot}
use Rattle.ax_print_back.specs.Swaps.{shifted}
use Rattle.ax_print_back.proofs.Standing.{Between}

-- ---- places

pub place_stays : (s : Span) (n p : ℕ) → p ≤ s.from → shifted s n p ≡ p
place_stays s n p le = ap (λ (b : Bool). if b then p else ((s.from + n) + (p - s.to))) (le-leb p s.from le)

span_stays : (s : Span) (n : ℕ) (t : Span) → t.from ≤ t.to → t.to ≤ s.from → moved_span (shifted s n) t ≡ t
span_stays s n t p q = λ i. record { from = place_stays s n t.from (omega arith) i; to = place_stays s n t.to q i }

-- each of the atoms stands between these places
abbrev pub AtomsBetween : ℕ → ℕ → List (Atom × Span) → Type 0
AtomsBetween a b atoms = All (λ (y : Atom × Span). Between a b y.1) atoms

atoms_stay : (s : Span) (n a b : ℕ) (atoms : List (Atom × Span)) → b ≤ s.from → AtomsBetween a b atoms → moved_atoms (shifted s n) atoms ≡ atoms
atoms_stay s n a b [] le all = refl
atoms_stay s n a b (y ∷ ys) le all =
    let here : Between a b y.1 = All-head (λ (y : Atom × Span). Between a b y.1) y ys all in
    let at : moved_span (shifted s n) y.1 ≡ y.1 = span_stays s n y.1 here.1 (omega (arith, here.2, le)) in
    let rest = atoms_stay s n a b ys le (All-tail (λ (y : Atom × Span). Between a b y.1) y ys all) in
    λ i. (y.0, at i) ∷ rest i

pub slot_stays : (s : Span) (n : ℕ) (slot : Slot) → (slot.span).from ≤ (slot.span).to → (slot.span).to ≤ s.from → AtomsBetween (slot.span).from (slot.span).to slot.atoms → moved_slot (shifted s n) slot ≡ slot
slot_stays s n slot p q all =
    let at = span_stays s n slot.span p q in
    let atoms = atoms_stay s n (slot.span).from (slot.span).to slot.atoms q all in
    λ i. record slot { span = at i; atoms = atoms i }

-- ---- bytes

stretch : (source : List ℕ) (from to : ℕ) → from ≤ to → take (to - from) (drop from source) ≡ drop from (take to source)
stretch source from to le =
    let whole : from + (to - from) ≡ to = omega arith in
    sym (drop-take from (to - from) source) ∙ ap (λ n. drop from (take n source)) whole

bytes_stay : (old new : List ℕ) (b : ℕ) (s : Span) → s.from ≤ s.to → s.to ≤ b → take b new ≡ take b old → bytes_at new (Some s) ≡ bytes_at old (Some s)
bytes_stay old new b s p q h =
    let same : take s.to new ≡ take s.to old = sym (take-take s.to b new q) ∙ ap (take s.to) h ∙ take-take s.to b old q in
    stretch new s.from s.to p ∙ ap (drop s.from) same ∙ sym (stretch old s.from s.to p)

module _ (old new : List ℕ) (b : ℕ) (same : take b new ≡ take b old) where
  found : (a : Atom) (test : Bool) (s : Span) (o : Option Span) → s.from ≤ s.to → s.to ≤ b → bytes_at new o ≡ bytes_at old o → bytes_at new (if test then Some s else o) ≡ bytes_at old (if test then Some s else o)
  found a true s o p q h = bytes_stay old new b s p q same
  found a false s o p q h = h

  first_stays : (from : ℕ) (a : Atom) (atoms : List (Atom × Span)) → AtomsBetween from b atoms → bytes_at new (first_span a atoms) ≡ bytes_at old (first_span a atoms)
  first_stays from a [] all = refl
  first_stays from a (y ∷ ys) all =
      let P = λ (y : Atom × Span). Between from b y.1 in
      let here : Between from b y.1 = All-head P y ys all in
      found a (atom_eq y.0 a) y.1 (first_span a ys) here.1 here.2 (first_stays from a ys (All-tail P y ys all))

  module _ (p q : Program) (vars : q.vars ≡ p.vars) (from : ℕ) where
    atom_stays : (atoms : List (Atom × Span)) → AtomsBetween from b atoms → (a : Atom) → atom_text new q atoms a ≡ atom_text old p atoms a
    atom_stays atoms all (atom.Read (lval.Var id)) = ap (λ (vs : List Var). name_in (slice_get vs id.0)) vars
    atom_stays atoms all (atom.Read (Deref' s row)) = first_stays from (atom.Read (Deref' s row)) atoms all
    atom_stays atoms all (atom.Read (Field' s row n)) = first_stays from (atom.Read (Field' s row n)) atoms all
    atom_stays atoms all (atom.Same x y) = first_stays from (atom.Same x y) atoms all
    atom_stays atoms all (atom.Differ x y) = first_stays from (atom.Differ x y) atoms all

    -- the text of a tree is the same in both
    pub text_stays : (id : SlotId) (slot : Slot) (x : Expr) → slot_at p id ≡ Some slot → slot_at q id ≡ Some slot → AtomsBetween from b slot.atoms → tree_text (leaf_text new q id) x ≡ tree_text (leaf_text old p id) x
    text_stays id slot x e d all =
        let there = λ (a : Atom). ap (λ (o : Option Slot). atom_text new q (atoms_in o) a) d ∙ atom_stays slot.atoms all a ∙ sym (ap (λ (o : Option Slot). atom_text old p (atoms_in o) a) e) in
        ap (λ (w : Atom → List ℕ). tree_text w x) (λ i a. there a i)
