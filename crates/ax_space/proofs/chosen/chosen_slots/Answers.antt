use Rattle.std.proofs.Common.{◌++◌, ◌∷◌, [], sym, ◌∙◌, ap, get_or, take}
use Rattle.ax_space.specs.Chosen.{slots_of}
use Rattle.ax_space.proofs.Slices.{item-is}
use Rattle.ax_space.proofs.Patching.{chosen-below, slots-more, read-slot}
use Rattle.ax_space.proofs.chosen.chosen_slots.Goals as goal

pub bounds-all-id : goal.bounds-all-id
bounds-all-id c =
    rw c.as_slice-all.ensures
    (chosen-below c.args.program.now c.args.chosen.now c.loop-id.id-index (get_or c.args.chosen.now c.loop-id.id-index (record { 0 = 0 })) c.requires c.loop-id-test.true
    (item-is c.args.chosen.now c.loop-id.id-index (record { 0 = 0 }) c.loop-id-test.true))

pub loop-id-preserved : goal.loop-id-preserved
loop-id-preserved c =
    let same = item-is c.args.chosen.now c.loop-id.id-index (record { 0 = 0 }) c.loop-id-test.true in
    let low = chosen-below c.args.program.now c.args.chosen.now c.loop-id.id-index (get_or c.args.chosen.now c.loop-id.id-index (record { 0 = 0 })) c.requires c.loop-id-test.true same in
    let read = read-slot c.as_slice-all.result.now c.args.program.now.slots (get_or c.args.chosen.now c.loop-id.id-index (record { 0 = 0 })).0 c.index-all-id.result c.as_slice-all.ensures low c.index-all-id.is in
    let more = slots-more c.args.program.now c.args.chosen.now c.loop-id.id-index (get_or c.args.chosen.now c.loop-id.id-index (record { 0 = 0 })) c.index-all-id.result c.loop-id-test.true same read in
    c.in_ok-push.ensures.ok ∙ ap (λ z. z ++ c.in_ok-slot.slot ∷ []) c.loop-id.invariant ∙ ap (λ z. slots_of c.args.program.now (take c.loop-id.id-index c.args.chosen.now) ++ z ∷ []) c.in_ok-slot.ensures ∙ sym more
