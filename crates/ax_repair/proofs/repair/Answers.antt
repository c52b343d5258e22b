use Rattle.ax_repair.proofs.Lying.{searchable, chosen_parts}
use Rattle.ax_repair.proofs.repair.Goals as goal

pub least_repair-requires : goal.least_repair-requires
least_repair-requires c =
    let read = c.requires.read in
    let fit = c.slots_fit.ensures c.args.source.now read.tokens read.tree c.args.program.now read.spelled read.parsed read.meant in
    rw c.in_ok-space.ensures (searchable c.args.program.now c.args.chosen.now c.args.sets.now (c.args.bounds.now).grow c.requires.chosen c.requires.no_guard fit)

pub write_source-requires : goal.write_source-requires
write_source-requires c =
    let read = c.requires.read in
    let lie = c.slots_lie.ensures c.args.source.now read.tokens read.tree c.args.program.now read.spelled read.parsed read.meant in
    let rise = c.slots_rise.ensures c.args.source.now read.tokens read.tree c.args.program.now read.spelled read.parsed read.meant in
    chosen_parts c.args.source.now c.args.program.now c.args.chosen.now c.as_slice-in-Some.result.now c.requires.chosen lie rise
