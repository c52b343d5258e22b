-- A source in which nothing changes.
use Rattle.std.proofs.Common.{◌≡◌, true, false, List, [], ◌∷◌, Option, Some, None, refl, ap}
use Rattle.std.specs.List.{All, filter, zip}
use Rattle.std.specs.Option.{option_map}
use Rattle.std.proofs.lemmas.List.Elements.{All-head, All-tail}
use Rattle.ax_prog.specs.declared.Expr.{Expr}
use Rattle.ax_prog.specs.declared.Slot.{Slot}
use Rattle.ax_prog.specs.declared.Program.{Program}
use Rattle.ax_prog.specs.Candidates.{slot_at, tree_at}
use Rattle.ax_prog.specs.Equality.{expr_eq}
use Rattle.ax_prog.proofs.Equality.{Decides-expr_eq}
use Rattle.ax_print.specs.Spliced.{spliced}
use Rattle.ax_repair.specs.Written.{Change, is_other, is_changed, parts_of, OwnTreesStay}

own : (o : Option Slot) (tree : Expr) → option_map (λ slot. slot.expr) o ≡ Some tree → is_other o tree ≡ false
own None tree e = refl
own (Some slot) tree e =
    let same : slot.expr ≡ tree = cc in
    let equal : expr_eq slot.expr tree ≡ true = (Decides-expr_eq slot.expr tree).1 same in
    rw equal refl

none-changed : (program : Program) (changes : List Change) → All (λ change. tree_at program change.0 ≡ Some change.1) changes → filter (is_changed program) changes ≡ []
none-changed program [] all = refl
none-changed program (change ∷ rest) all =
    let P = λ (change : Change). tree_at program change.0 ≡ Some change.1 in
    rw (own (slot_at program change.0) change.1 (All-head P change rest all)) (none-changed program rest (All-tail P change rest all))

pub own_trees_stay : OwnTreesStay
own_trees_stay source program ids trees all = ap (λ changes. spliced source (parts_of source program changes)) (none-changed program (zip ids trees) all)
