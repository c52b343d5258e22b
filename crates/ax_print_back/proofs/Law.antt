-- Changed sources read back: the later changes are written first, and leave what stands before them where it is.
use Rattle.std.proofs.Common.{◌≡◌, ◌≤◌, ◌<◌, ℕ, zero, suc, ◌+◌, List, [], ◌∷◌, ◌++◌, take, length, map, slice_get, Option, Some, None, refl, sym, ap, ◌∙◌, subst, arith}
use Rattle.std.specs.Prelude.{slice_set}
use Rattle.std.specs.Option.{option_map}
use Rattle.std.proofs.lemmas.Option.{slice_get-map}
use Rattle.std.proofs.lemmas.List.{map-set, take-take, take-append-le, length-take-le}
use Rattle.std.proofs.lemmas.Simd.{map-map}
use Rattle.std.proofs.Math.Nat.{sub-zero}
use Rattle.ax_prog.specs.declared.Span.{Span}
use Rattle.ax_prog.specs.declared.Expr.{Expr}
use Rattle.ax_prog.specs.declared.Slot.{Slot}
use Rattle.ax_prog.specs.declared.Program.{Program}
use Rattle.ax_prog.specs.Same.{SameProgram}
use Rattle.ax_lex.specs.Bytes.{Text}
use Rattle.ax_lex.specs.Splices.{in_parens}
use Rattle.ax_print.specs.Text.{leaf_text, tree_text, text_of}
use Rattle.ax_print.specs.Spliced.{spliced, spliced_from, AreParts}
use Rattle.ax_print.proofs.Splicing.{spliced_from-earlier, spliced-cons, spliced-one}
use Rattle.ax_print_fills.specs.Replaced.{moved_slot, renewed, filled_program}
use Rattle.ax_print_back.specs.Swaps.{shifted, swapped}
use Rattle.ax_front.specs.Texts.{IsProgramOfText}
use Rattle.ax_print_back.specs.Changes.{Change, AreChanges, replaced, span_in, span_at, parts_of, changed, ReadsBack}
use Rattle.ax_print_back.proofs.Laws.{Laws}
use Rattle.ax_print_back.proofs.Trees.{set_before, first_last, stays}
use Rattle.ax_print_back.proofs.Moving.{slot_stays, text_stays}
use Rattle.ax_print_back.proofs.Slots.{slot_lies, slots_rise, atoms_between, reads_as}

-- ---- slots that are there

there : (slots : List Slot) (n : ℕ) → n < length slots → (slot : Slot) × (slice_get slots n ≡ Some slot)
there [] n lt = absurd (omega (arith, lt))
there (s ∷ ss) zero lt = (s, refl)
there (s ∷ ss) (suc n) lt = there ss n (omega (arith, lt))

-- ---- the parts

module _ (laws : Laws) (source : Text) (p : Program) (text : IsProgramOfText source p) where
  -- no slot from this number on begins before this place
  abbrev Behind : ℕ → ℕ → Type 0
  Behind from at = (n : ℕ) (slot : Slot) → from ≤ n → slice_get p.slots n ≡ Some slot → at ≤ (slot.span).from

  behind_slot : (k : ℕ) (slot : Slot) → slice_get p.slots k ≡ Some slot → Behind (k + 1) (slot.span).to
  behind_slot k slot e n next le d = slots_rise laws source p text k n slot next (omega (arith, le)) e d

  are_parts : (from at : ℕ) (cs : List Change) → at ≤ length source → Behind from at → AreChanges from p cs → AreParts at (length source) (parts_of source p cs)
  are_parts from at [] le h changes = le
  are_parts from at (c ∷ cs) le h changes =
      let s = there p.slots c.0.0 (changes.1).0 in
      let lies = slot_lies laws source p text c.0.0 s.0 s.1 in
      let span : (s.0).span ≡ span_at p c.0 = sym (ap span_in s.1) in
      let rest = are_parts (c.0.0 + 1) ((s.0).span).to cs lies.1 (behind_slot c.0.0 s.0 s.1) changes.2 in (
        subst (λ (t : Span). at ≤ t.from) span (h c.0.0 s.0 changes.0 s.1),
        subst (λ (t : Span). t.from ≤ t.to) span lies.0,
        subst (λ (t : Span). AreParts t.to (length source) (parts_of source p cs)) span rest,
      )

  -- the slots before one of them stay where they are when it changes
  slots_before : (k : ℕ) (slot : Slot) → slice_get p.slots k ≡ Some slot → (size n : ℕ) → n < k → option_map (moved_slot (shifted slot.span size)) (slice_get p.slots n) ≡ slice_get p.slots n
  slots_before k slot e size n lt = by (slice_get p.slots n) refl
    where
      by : (o : Option Slot) → slice_get p.slots n ≡ o → option_map (moved_slot (shifted slot.span size)) o ≡ o
      by None d = refl
      by (Some t) d = ap Some (slot_stays slot.span size t (slot_lies laws source p text n t d).0 (slots_rise laws source p text n k t slot lt d e) (atoms_between laws source p text n t d))

-- what stands before the parts stays
front_stays : (b : ℕ) (source : Text) (parts : List (Span × Text)) → b ≤ length source → AreParts b (length source) parts → take b (spliced source parts) ≡ take b source
front_stays b source parts le are =
    let later : spliced source parts ≡ take b source ++ spliced_from b source parts = spliced_from-earlier 0 b (length source) source parts (omega arith) are ∙ ap (λ n. take n source ++ spliced_from b source parts) (sub-zero b) in
    let long : b ≤ length (take b source) = omega (arith, length-take-le b source le) in
    ap (take b) later ∙ take-append-le b (take b source) (spliced_from b source parts) long ∙ take-take b b source (omega arith)

-- ---- the program

-- The changed source is the text of a program with the trees, and the slots before the changed ones are the same in it.
record Kept (source : Text) (p : Program) (from : ℕ) (cs : List Change) : Type 0 where
  new : Program
  read : IsProgramOfText (changed source p cs) new
  same : SameProgram new (replaced p cs)
  slots : (n : ℕ) → n < from → slice_get new.slots n ≡ slice_get p.slots n

kept : (laws : Laws) (source : Text) (p : Program) → IsProgramOfText source p → (from : ℕ) (cs : List Change) → AreChanges from p cs → Kept source p from cs
kept laws source p text from [] h = record {
  new = p;
  read = text;
  same = record { structs = refl; vars = refl; globals = refl; funs = refl; main = refl; trees = refl };
  slots = λ n lt. refl;
}
kept laws source p text from (c ∷ cs) h =
    let k = c.0.0 in
    let r = kept laws source p text (k + 1) cs h.2 in
    let s = there p.slots k (h.1).0 in
    let slot = s.0 in
    let e = s.1 in
    let bytes = changed source p cs in
    let d : slice_get (r.new).slots k ≡ Some slot = r.slots k (omega arith) ∙ e in
    let parts = parts_of source p cs in
    let lies = slot_lies laws source p text k slot e in
    let behind = are_parts laws source p text (k + 1) (slot.span).to cs lies.1 (behind_slot laws source p text k slot e) h.2 in
    let before = stays p cs in
    let after = stays p (c ∷ cs) in
    let words = text_stays source bytes (slot.span).to (front_stays (slot.span).to source parts lies.1 behind) p r.new ((r.same).vars ∙ sym before.vars) (slot.span).from c.0 slot c.1 e d (atoms_between laws source p text k slot e) in
    let one = reads_as laws bytes r.new r.read k slot d c.1 ((h.1).1 slot e) (h.1).2 in
    let size = length (in_parens (tree_text (leaf_text bytes r.new c.0) c.1)) in
    let move = moved_slot (shifted slot.span size) in
    let fresh = renewed slot one.0 c.1 one.1 in
    let new = filled_program (shifted slot.span size) k fresh r.new in
    let are : AreParts 0 (length source) ((slot.span, text_of source p c.0 c.1) ∷ parts) = (omega arith, lies.0, behind) in
    let spelled : swapped bytes slot.span (tree_text (leaf_text bytes r.new c.0) c.1) ≡ changed source p (c ∷ cs) =
    ap (swapped bytes slot.span) words ∙ sym (spliced-cons source slot.span (text_of source p c.0 c.1) parts are ∙ spliced-one bytes slot.span (text_of source p c.0 c.1)) ∙ ap (λ (o : Option Slot). spliced source ((span_in o, text_of source p c.0 c.1) ∷ parts)) (sym e) in
    record {
      new = new;
      read = subst (λ (b : Text). IsProgramOfText b new) spelled one.2;
      same = record {
        structs = (r.same).structs ∙ sym before.structs ∙ after.structs;
        vars = (r.same).vars ∙ sym before.vars ∙ after.vars;
        globals = (r.same).globals ∙ sym before.globals ∙ after.globals;
        funs = (r.same).funs ∙ sym before.funs ∙ after.funs;
        main = (r.same).main ∙ sym before.main ∙ after.main;
        trees = map-set (λ (s : Slot). s.expr) (map move (r.new).slots) k fresh ∙ ap (λ (l : List Expr). slice_set l k c.1) (map-map (λ (s : Slot). s.expr) move (r.new).slots ∙ (r.same).trees) ∙ sym (first_last p c cs h.2);
      };
      slots = λ n lt. let below : n < k = omega (arith, lt, h.0) in
          set_before (map move (r.new).slots) n k fresh below ∙ slice_get-map move (r.new).slots n ∙ ap (option_map move) (r.slots n (omega (arith, below))) ∙ slots_before laws source p text k slot e size n below;
    }

-- ---- the law

pub law : Laws → (source : Text) (p : Program) (changes : List Change) → IsProgramOfText source p → AreChanges 0 p changes → ReadsBack source p changes
law laws source p changes text h =
    let r = kept laws source p text 0 changes h in
    record {
      parts = are_parts laws source p text 0 0 changes (omega arith) (λ n slot le e. omega arith) h;
      new = r.new;
      read = r.read;
      same = r.same;
    }
