use Rattle.std.proofs.Common.{◌≡◌, ◌++◌}
use Rattle.ax_repair.specs.Written.{parts_of, changes_of}
use Rattle.ax_repair.proofs.written.parts.Given as goal

-- the parts so far and those of what is left are all
abbrev pub invariant-loop-id : goal.invariant-loop-id
invariant-loop-id l =
    l.all ++ parts_of l.source l.program (changes_of l.program (l.id-iterator).a.rest.now (l.id-iterator).b.rest.now) ≡ parts_of l.source l.program (changes_of l.program l.chosen l.trees)
