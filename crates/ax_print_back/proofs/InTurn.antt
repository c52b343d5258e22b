-- Changes in turn.
use Rattle.std.proofs.Common.{◌≡◌, ◌<◌, ℕ, ◌+◌, List, [], ◌∷◌, ◌++◌, length, get_or, drop, refl, sym, ap, ◌∙◌, subst, add-one, drop-cons, append_assoc}
use Rattle.std.proofs.lemmas.Option.{slice_get-get_or}
use Rattle.ax_prog.specs.declared.Span.{Span}
use Rattle.ax_prog.specs.declared.Slot.{Slot}
use Rattle.ax_prog.specs.declared.Program.{Program}
use Rattle.ax_print.specs.Text.{text_of}
use Rattle.ax_print_back.specs.Changes.{Change, IsChange, AreChanges, span_in, span_at, parts_of}

split_at : (changes : List Change) (i : ℕ) (x : Change) → i < length changes → x ≡ get_or changes i x → drop i changes ≡ x ∷ drop (i + 1) changes
split_at changes i x below is = rw (add-one, drop-cons changes i x, ← is) refl

-- what changes from the i-th on say of the i-th
pub next_change : (program : Program) (from : ℕ) (changes : List Change) (i : ℕ) (x : Change) → i < length changes → x ≡ get_or changes i x → AreChanges from program (drop i changes) → IsChange program x × AreChanges (x.0.0 + 1) program (drop (i + 1) changes)
next_change program from changes i x below is h =
    let r = subst (AreChanges from program) (split_at changes i x below is) h in
    (r.1, r.2)

-- one more part
pub next_part : (source : List ℕ) (program : Program) (changes : List Change) (i : ℕ) (x : Change) (slots : List Slot) (d : Slot) (parts parts2 all : List (Span × List ℕ)) → i < length changes → x ≡ get_or changes i x → slots ≡ program.slots → x.0.0 < length program.slots → parts ++ parts_of source program (drop i changes) ≡ all → parts2 ≡ parts ++ ((get_or slots x.0.0 d).span, text_of source program x.0 x.1) ∷ [] → parts2 ++ parts_of source program (drop (i + 1) changes) ≡ all
next_part source program changes i x slots d parts parts2 all below is same within done made =
    let text = text_of source program x.0 x.1 in
    let span : (get_or slots x.0.0 d).span ≡ span_at program x.0 = ap (λ (l : List Slot). (get_or l x.0.0 d).span) same ∙ sym (ap span_in (slice_get-get_or program.slots x.0.0 d within)) in
    let rest = parts_of source program (drop (i + 1) changes) in
    ap (λ (ps : List (Span × List ℕ)). ps ++ rest) made ∙ append_assoc parts (((get_or slots x.0.0 d).span, text) ∷ []) rest ∙ ap (λ (s : Span). parts ++ (s, text) ∷ rest) span ∙ ap (λ (cs : List Change). parts ++ parts_of source program cs) (sym (split_at changes i x below is)) ∙ done
