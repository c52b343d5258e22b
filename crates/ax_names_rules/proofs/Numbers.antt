-- Numbers: what the functions give is what the rules say.
use Rattle.std.proofs.Common.{◌≡◌, false, List, Ok, Err, refl, arith}
use Rattle.ax_prog.specs.declared.Span.{Span}
use Rattle.ax_prog.specs.declared.Expr as ex
use Rattle.ax_prog.specs.declared.Atom.{Atom}
use Rattle.ax_parse_grammar.specs.declared.tree.Expr.{Expr}
use Rattle.ax_parse_grammar.specs.Trees.{span_of}
use Rattle.ax_names_types.specs.declared.Typed.{Typed}
use Rattle.ax_names_types.specs.declared.Typed.TheVariants as t
use Rattle.ax_names_types.specs.declared.Need.TheVariants as need
use Rattle.ax_names_types.specs.declared.TypeKind.TheVariants.{WrongType}
use Rattle.ax_names_types.specs.declared.TypeFault.{TypeFault}
use Rattle.ax_names_types.specs.Faults.{fault, Verdict}
use Rattle.ax_names_types.specs.Types.{value_of, meets}
use Rattle.ax_names_types.specs.Meaning.{Means}
use Rattle.ax_names_types.specs.Verdicts.{verdict_of}
use Rattle.ax_names_types.proofs.Sound.{Judged, judged}
use Rattle.ax_names_types.proofs.Meant.{means_verdict}
use Rattle.ax_names_types.proofs.Broken.{Faulty, breaks_verdict}
use Rattle.ax_names_rules.specs.declared.State.{State}
use Rattle.ax_names_rules.specs.States.{here}
use Rattle.ax_names_rules.specs.Values.{IsNumber}
use Rattle.ax_names_rules.specs.ValueFaults.{BreaksNumber}
use Rattle.ax_names_rules.specs.ValueWalk.{◌>>=◌, Numbered, as_number, number_of, slot_of}
use Rattle.ax_names_rules.proofs.Steps.{bind_is, bind_faulty}
use Rattle.ax_prog.specs.declared.SlotId.{SlotId}
use Rattle.ax_names_rules.specs.States.{next_slot, with_slot}

-- ---- numbers

abbrev pub JudgedNumber : State → Expr → Verdict Numbered → Type 0
JudgedNumber st a (Ok n) = IsNumber st a n.0 n.1
JudgedNumber st a (Err f) = BreaksNumber st a f

number_from : (st : State) (a : Expr) (m w : Typed) → Means (here st) a m → value_of (span_of a) m ≡ w → JudgedNumber st a (as_number (span_of a) w)
number_from st a m (t.Int x atoms) d h = IsNumber.number x atoms d h
number_from st a m (t.Ptr u q) d h = BreaksNumber.kind d (rw h refl)
number_from st a m (t.Place u l) d h = BreaksNumber.kind d (rw h refl)

number_by : (st : State) (a : Expr) (v : Verdict Typed) → Judged (here st) a v → JudgedNumber st a (v >>= λ m. as_number (span_of a) (value_of (span_of a) m))
number_by st a (Ok m) d = number_from st a m (value_of (span_of a) m) d refl
number_by st a (Err f) d = BreaksNumber.within d

pub number_judged : (st : State) (a : Expr) → JudgedNumber st a (number_of st a)
number_judged st a = number_by st a (verdict_of (here st) a) (judged (here st) a)

pub number_is : (st : State) (a : Expr) (x : ex.Expr) (atoms : List (Atom × Span)) → IsNumber st a x atoms → number_of st a ≡ Ok (x, atoms)
number_is st a _ _ (IsNumber.number {m = m} x atoms d h) = rw (means_verdict (here st) a m d, h) refl

no_number : (at : Span) (w : Typed) → meets need.Int w ≡ false → as_number at w ≡ Err (fault WrongType at)
no_number at (t.Int x atoms) h = cc
no_number at (t.Ptr u q) h = refl
no_number at (t.Place u l) h = refl

pub number_breaks : (st : State) (a : Expr) (g : TypeFault) → BreaksNumber st a g → Faulty (number_of st a) g
number_breaks st a g (BreaksNumber.within d) = let p = breaks_verdict (here st) a g d in (p.0, rw p.1 refl, p.2)
number_breaks st a g (BreaksNumber.kind {m = m} d h) = (fault WrongType (span_of a), rw (means_verdict (here st) a m d, no_number (span_of a) (value_of (span_of a) m) h) refl, omega arith)

-- ---- slots

slot_by : {B : Type 0} (P : Verdict B → Type 0) (k : SlotId × State → Verdict B) (st : State) (a : Expr) (v : Verdict Numbered) → JudgedNumber st a v → ((x : ex.Expr) (atoms : List (Atom × Span)) → IsNumber st a x atoms → P (k (next_slot st, with_slot st a x atoms))) → ((f : TypeFault) → BreaksNumber st a f → P (Err f)) → P ((v >>= λ n. Ok (next_slot st, with_slot st a n.0 n.1)) >>= k)
slot_by P k st a (Ok n) d h e = h n.0 n.1 d
slot_by P k st a (Err f) d h e = e f d

pub slot_judged : {B : Type 0} (P : Verdict B → Type 0) (k : SlotId × State → Verdict B) (st : State) (a : Expr) → ((x : ex.Expr) (atoms : List (Atom × Span)) → IsNumber st a x atoms → P (k (next_slot st, with_slot st a x atoms))) → ((f : TypeFault) → BreaksNumber st a f → P (Err f)) → P (slot_of st a >>= k)
slot_judged P k st a h e = slot_by P k st a (number_of st a) (number_judged st a) h e

pub slot_is : (st : State) (a : Expr) (x : ex.Expr) (atoms : List (Atom × Span)) → IsNumber st a x atoms → slot_of st a ≡ Ok (next_slot st, with_slot st a x atoms)
slot_is st a x atoms d = bind_is _ _ (x, atoms) _ (number_is st a x atoms d) refl

pub slot_breaks : (st : State) (a : Expr) (g : TypeFault) → BreaksNumber st a g → Faulty (slot_of st a) g
slot_breaks st a g d = bind_faulty _ _ g (number_breaks st a g d)
