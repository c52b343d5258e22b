use Rattle.std.proofs.Common.{◌≡◌, [], ◌∷◌, ◌++◌, length, drop}
use Rattle.ax_names_declared.specs.Denotations.{tags_of}
use Rattle.ax_names_declared.specs.Members.{after_members, nothing_found}
use Rattle.ax_names_declared.proofs.structs.members.Given as goal

abbrev pub invariant-loop-m : goal.invariant-loop-m
invariant-loop-m l =
    after_members (tags_of l.structs ++ l.own ∷ []) (length l.structs) (drop l.m-index l.list) l.found ≡ after_members (tags_of l.structs ++ l.own ∷ []) (length l.structs) l.list nothing_found
