use Rattle.std.proofs.Common.{◌≡◌, [], ◌∷◌, ◌++◌, length, drop}
use Rattle.ax_names_declared.specs.Denotations.{tags_of}
use Rattle.ax_names_declared.specs.Members.{after_items}
use Rattle.ax_names_declared.proofs.structs.items.Given as goal

abbrev pub invariant-loop-declarator : goal.invariant-loop-declarator
invariant-loop-declarator l =
    after_items (tags_of l.structs ++ l.own ∷ []) (length l.structs) l.base (drop l.declarator-index l.list) l.found ≡ after_items (tags_of l.structs ++ l.own ∷ []) (length l.structs) l.base l.list l.initial.found
