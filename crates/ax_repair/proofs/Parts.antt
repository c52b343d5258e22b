-- Parts of a written source, one for each changed slot.
use Rattle.std.proofs.Common.{◌≡◌, ℕ, Bool, true, false, List, [], ◌∷◌, ◌++◌, Some, None, refl, sym, ◌∙◌, IsTrue, length, append-nil, arith}
use Rattle.std.specs.Prelude.{◌↔◌}
use Rattle.std.specs.List.{zip}
use Rattle.std.proofs.lemmas.Bool.Decides.{same_from_decides}
use Rattle.ax_prog.specs.declared.Expr.{Expr}
use Rattle.ax_prog.specs.declared.Span.{Span}
use Rattle.ax_prog.specs.declared.Slot.{Slot}
use Rattle.ax_prog.specs.declared.SlotId.{SlotId}
use Rattle.ax_prog.specs.declared.Program.{Program}
use Rattle.ax_prog.specs.Candidates.{slot_at}
use Rattle.ax_prog.specs.Equality.{expr_eq}
use Rattle.ax_prog.proofs.Equality.{Decides-expr_eq}
use Rattle.ax_print.specs.Text.{text_of}
use Rattle.ax_repair.specs.Written.{changes_of, parts_of, changed_part}

expr_eq-is : (r : Bool) (a b : Expr) → IsTrue r ↔ (a ≡ b) → expr_eq a b ≡ r
expr_eq-is r a b h = same_from_decides (expr_eq a b) r (Decides-expr_eq a b) (h.0, h.1)

-- a slot whose tree stays has no part
pub part-same : (source : List ℕ) (program : Program) (id : SlotId) (tree : Expr) (slot : Slot) (same : Bool) → Some slot ≡ slot_at program id → IsTrue same ↔ (slot.expr ≡ tree) → same ≡ true → None ≡ changed_part source program (id, tree)
part-same source program id tree slot same is h t =
    rw (sym is, expr_eq-is same slot.expr tree h, t) refl

-- a slot whose tree changes has its span and the new text
pub part-other : (source : List ℕ) (program : Program) (id : SlotId) (tree : Expr) (slot : Slot) (same : Bool) (text : List ℕ) → Some slot ≡ slot_at program id → IsTrue same ↔ (slot.expr ≡ tree) → same ≡ false → text ≡ text_of source program id tree → Some (slot.span, text) ≡ changed_part source program (id, tree)
part-other source program id tree slot same text is h t e =
    rw (e, sym is, expr_eq-is same slot.expr tree h, t) refl

-- no parts are left where one of the lists has come to its end
zip-left : {A B : Type 0} (xs : List A) (ys : List B) → length xs ≡ 0 → zip xs ys ≡ []
zip-left [] ys h = refl
zip-left (x ∷ xs) ys h = absurd (omega arith)

zip-right : {A B : Type 0} (xs : List A) (ys : List B) → length ys ≡ 0 → zip xs ys ≡ []
zip-right [] ys h = refl
zip-right (x ∷ xs) [] h = refl
zip-right (x ∷ xs) (y ∷ ys) h = absurd (omega arith)

parts-end : (source : List ℕ) (program : Program) (ids : List SlotId) (trees : List Expr) (all whole : List (Span × List ℕ)) → zip ids trees ≡ [] → all ++ parts_of source program (changes_of program ids trees) ≡ whole → all ≡ whole
parts-end source program ids trees all whole e h = sym (append-nil all) ∙ (rw e at h)

pub parts-left : (source : List ℕ) (program : Program) (ids : List SlotId) (trees : List Expr) (all whole : List (Span × List ℕ)) → length ids ≡ 0 → all ++ parts_of source program (changes_of program ids trees) ≡ whole → all ≡ whole
parts-left source program ids trees all whole e h = parts-end source program ids trees all whole (zip-left ids trees e) h

pub parts-right : (source : List ℕ) (program : Program) (ids : List SlotId) (trees : List Expr) (all whole : List (Span × List ℕ)) → length trees ≡ 0 → all ++ parts_of source program (changes_of program ids trees) ≡ whole → all ≡ whole
parts-right source program ids trees all whole e h = parts-end source program ids trees all whole (zip-right ids trees e) h
