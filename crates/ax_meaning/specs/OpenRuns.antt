-- Open runs: the evaluations of chosen expressions take given numbers in place of their trees' values.
use Rattle.std.specs.Prelude.{◌≡◌, ℕ, ℤ, ◌==◌, ◌&&◌, ◌||◌, ◌-ℤ◌, Bool, true, false, not, if◌then◌else◌, List, [], ◌∷◌, Option, Some, None, Result, Ok, Err, slice_get}
use Rattle.ax_base.specs.Arithmetic.{is_nonzero}
use Rattle.ax_prog.specs.declared.SlotId.{SlotId}
use Rattle.ax_prog.specs.declared.Program.{Program}
use Rattle.ax_prog.specs.declared.Test.{Test}
use Rattle.ax_meaning.specs.declared.Cell.TheVariants.{Int}
use Rattle.ax_meaning.specs.declared.Store.{Store}
use Rattle.ax_meaning.specs.declared.Note.{Note}
use Rattle.ax_meaning.specs.declared.Note.TheVariants.{Met, Took}
use Rattle.ax_meaning.specs.Acts.{Halt, Cut, Setting}
use Rattle.ax_meaning.specs.Execution.{Returned, Outcome}
use Rattle.ax_meaning.specs.Runs.{Seen, outcome_of, seen_of, value_in_slot, or_halt, evaluations}

abbrev pub is_chosen : List SlotId → SlotId → Bool
is_chosen [] id = false
is_chosen (c ∷ chosen) id = (c.0 == id.0) || is_chosen chosen id

-- whether the first numbers of a list are these
abbrev pub begins_with : List ℤ → List ℤ → Bool
begins_with expected [] = true
begins_with [] (n ∷ out) = false
begins_with (e ∷ expected) (n ∷ out) = not (is_nonzero (e -ℤ n)) && begins_with expected out

-- past the last number the run is cut
abbrev pub or_cut : Option ℤ → Result ℤ Halt
or_cut None = Err Cut
or_cut (Some n) = Ok n

-- Evaluation number i of a chosen expression, counted from 0 over all of them, takes the i-th given number. The run is cut where
-- none is given, and at the first printed number that isn't the expected one.
abbrev pub open_setting : Program → ℕ → List SlotId → List ℤ → List ℤ → Setting
open_setting p steps chosen given expected = record {
  program = p;
  steps = steps;
  value = λ id st.
      if is_chosen chosen id then or_cut (slice_get given (evaluations chosen st.counts))
      else or_halt (value_in_slot p st.store (slice_get p.slots id.0));
  goes_on = λ out. begins_with expected out;
  notes_value = λ id. is_chosen chosen id;
  notes_truth = true;
}

abbrev pub open_outcome : Program → ℕ → List SlotId → Test → List ℤ → Outcome
open_outcome p steps chosen test given = outcome_of (open_setting p steps chosen given test.outputs) test.inputs

-- the open run of a test with these given numbers
abbrev pub open_run : Program → ℕ → List SlotId → Test → List ℤ → Seen
open_run p steps chosen test given = seen_of (open_outcome p steps chosen test given)

-- An open run isn't cut where it returns the expected number, and has printed all expected numbers and no other.
pub record IsUncut (p : Program) (steps : ℕ) (chosen : List SlotId) (test : Test) (given : List ℤ) : Type 0 where
  pub returned : (open_run p steps chosen test given).ending ≡ Returned (Some (Int test.ret))
  pub printed : (open_run p steps chosen test given).output ≡ test.outputs

-- the truth values of the conditions that were met, in order
abbrev pub truths : List Note → List Bool
truths [] = []
truths (Met b ∷ notes) = b ∷ truths notes
truths (Took id m ∷ notes) = truths notes

-- the evaluations of chosen expressions, in order, each with the store in which it began
abbrev pub takings : List Note → List (SlotId × Store)
takings [] = []
takings (Met b ∷ notes) = takings notes
takings (Took id m ∷ notes) = (id, m) ∷ takings notes

-- the trace of an open run, up to its end or cut
abbrev pub trace_of : Program → ℕ → List SlotId → Test → List ℤ → List Bool
trace_of p steps chosen test given = truths ((open_outcome p steps chosen test given).state).notes
