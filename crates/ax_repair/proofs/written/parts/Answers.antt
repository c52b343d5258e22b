use Rattle.std.proofs.Common.{inl, inr}
use Rattle.ax_repair.specs.Written.{parts_of, changes_of}
use Rattle.ax_repair.proofs.Parts.{parts-left, parts-right}
use Rattle.ax_repair.proofs.written.parts.Goals as goal

pub returns : goal.returns
returns c =
    let source = c.args.source.now in
    let program = c.args.program.now in
    let ids = (c.loop-id.id-iterator).a.rest.now in
    let trees = (c.loop-id.id-iterator).b.rest.now in
    let whole = parts_of source program (changes_of program c.args.chosen.now c.args.trees.now) in
    elim c.in-None.ensures.steps [
      | inl ended ↦ parts-left source program ids trees c.loop-id.all whole ended.1.0 c.loop-id.invariant
      | inr ended ↦ parts-right source program ids trees c.loop-id.all whole ended.1.0 c.loop-id.invariant
    ]
