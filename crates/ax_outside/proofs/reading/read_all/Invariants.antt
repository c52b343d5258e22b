use Rattle.std.proofs.Common.{◌+◌, ◌-◌, vec_len}
use Rattle.ax_outside.specs.Seen.{NoLess, Same}
use Rattle.ax_outside.proofs.Steps.{Taken}
use Rattle.ax_outside.proofs.reading.read_all.Given as goal

abbrev pub invariant-pieces : goal.invariant-pieces
invariant-pieces g l = Taken ((g.S.Shelf.seen l.initial.shelf).kept l.name) l.bytes.items × Same (g.S.Shelf.seen l.initial.shelf) (g.S.Shelf.seen l.shelf) × NoLess (g.S.Shelf.seen l.initial.shelf) (g.S.Shelf.seen l.shelf)

abbrev pub decreases-pieces : goal.decreases-pieces
decreases-pieces g l = 1 + l.limit - vec_len l.bytes
